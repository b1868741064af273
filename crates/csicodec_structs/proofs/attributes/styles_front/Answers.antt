use Rattle.std.proofs.{Common.take, Common.refl, Common.inl, Common.inr, Common.subst, Common.arith, lemmas.List.length-set, lemmas.List.take_more_set}
use Rattle.csicodec_streams.proofs.OneReading.{byte_cut}
use Rattle.csicodec_structs.specs.Private.Short.{AreStyles}
use Rattle.csicodec_structs.proofs.Styled.{styles_next}
use Rattle.csicodec_structs.proofs.attributes.styles_front.Goals as goal

pub loop-count-init : goal.loop-count-init
loop-count-init c = record { within = omega arith; read = inl (refl, refl); next = c.requires }

pub returns-in-109-clause-are : goal.returns-in-109-clause-are
returns-in-109-clause-are c =
    let at = c.loop-count in
    let behind = c.in_ok-style.behind.now in
    let all = styles_next c.args.body.now at.text.now behind (take at.count at.room) c.in_ok-style.style at.invariant.read c.in_ok-style.ensures in
    rw (take_more_set at.room at.count c.in_ok-style.style c.loop-count-test.true) (subst (AreStyles _ _) (byte_cut behind 109 c.in-109.len_at_least (omega arith)) all)

pub loop-count-preserved : goal.loop-count-preserved
loop-count-preserved c =
    let at = c.loop-count in
    let behind = c.in_ok-style.behind.now in
    let all = styles_next c.args.body.now at.text.now behind (take at.count at.room) c.in_ok-style.style at.invariant.read c.in_ok-style.ensures in
    record {
      within = omega (arith, c.loop-count-test.true, length-set at.room at.count c.in_ok-style.style);
      read = inr (rw (take_more_set at.room at.count c.in_ok-style.style c.loop-count-test.true) (subst (AreStyles _ _) (byte_cut behind 59 c.in-59.len_at_least (omega arith)) all));
      next = c.in_ok-next-in-59.ensures.first;
    }
