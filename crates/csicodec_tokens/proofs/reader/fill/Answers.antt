use Rattle.std.proofs.{Common.◌∷◌, Common.[], Common.subst, Common.arith, lemmas.List.length-append}
use Rattle.csicodec_tokens.specs.Private.Reading.{IsPart}
use Rattle.csicodec_tokens.proofs.Reading.{others_shorter, read_more, read_all, fault_refuses}
use Rattle.csicodec_tokens.proofs.reader.fill.Goals as goal

pub loop-token-preserved : goal.loop-token-preserved
loop-token-preserved c =
    let first = subst (IsPart c.loop-token.rest.now) c.in-Token.is c.part_front.ensures in
    record {
      within = omega (arith, c.loop-token.invariant.within, others_shorter _ _ _ first);
      kept = omega (arith, c.loop-token.invariant.kept, c.push.ensures.capacity);
      read = rw c.in-Ok.ensures.items (read_more _ _ _ _ _ c.loop-token.invariant.read first);
    }

pub returns-in_default-clause-read : goal.returns-in_default-clause-read
returns-in_default-clause-read c =
    let first = subst (IsPart c.loop-token.rest.now) c.in-Token.is c.part_front.ensures in
    let more = read_more _ _ _ _ _ c.loop-token.invariant.read first in
    c.refusal.ensures _ _ more (omega (arith, c.in_default.ensures.full, c.loop-token.invariant.kept, c.loop-token.params.ok.0, length-append c.loop-token.params.items (c.in-Token.token ∷ [])))

pub returns-in-Final-clause-read : goal.returns-in-Final-clause-read
returns-in-Final-clause-read c =
    let last = subst (IsPart c.loop-token.rest.now) c.in-Final.is c.part_front.ensures in
    rw c.from.ensures (read_all _ _ _ _ _ c.loop-token.invariant.read last.0 last.1)

pub returns-in-Wrong-clause-read : goal.returns-in-Wrong-clause-read
returns-in-Wrong-clause-read c =
    let wrong = subst (IsPart c.loop-token.rest.now) c.in-Wrong.is c.part_front.ensures in
    rw c.fault.ensures (fault_refuses _ _ _ (wrong.fault _ _ c.loop-token.invariant.read))
