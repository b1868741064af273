use Rattle.std.proofs.{Common.◌∷◌, Common.[], Common.◌++◌, Common.subst, Common.arith, lemmas.List.length-append}
use Rattle.csicodec_tokens.specs.Private.Reading.{IsPart}
use Rattle.csicodec_tokens.proofs.Reading.{others_shorter, read_more, read_all, fault_refuses}
use Rattle.csicodec_tokens.proofs.reader.refusal.Goals as goal

pub loop-others-init : goal.loop-others-init
loop-others-init c = record { within = c.requires; read = λ list room h lt. (list, h, lt) }

pub loop-others-preserved : goal.loop-others-preserved
loop-others-preserved c =
    let first = subst (IsPart c.loop-others.behind.now) c.in-Token.is c.part_front.ensures in
    record {
      within = omega (arith, c.loop-others.invariant.within, others_shorter _ _ _ first);
      read = λ list room h lt.
          let (now, read, more) = c.loop-others.invariant.read list room h lt in
          (now ++ c.in-Token.field-0 ∷ [], read_more _ _ _ _ _ read first, omega (arith, more, length-append now (c.in-Token.field-0 ∷ [])));
    }

pub returns-in-Final : goal.returns-in-Final
returns-in-Final c = λ list room h lt.
    let (now, read, more) = c.loop-others.invariant.read list room h lt in
    let last = subst (IsPart c.loop-others.behind.now) c.in-Final.is c.part_front.ensures in
    (now, _, _, read_all _ _ _ _ _ read last.0 last.1, more)

pub returns-in-Wrong : goal.returns-in-Wrong
returns-in-Wrong c = λ list room h lt.
    let wrong = subst (IsPart c.loop-others.behind.now) c.in-Wrong.is c.part_front.ensures in
    rw c.fault.ensures (fault_refuses _ _ _ (wrong.fault _ _ (c.loop-others.invariant.read list room h lt).1))
