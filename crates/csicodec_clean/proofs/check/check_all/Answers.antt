use Rattle.std.proofs.{Common.◌<◌, Common.◌++◌, Common.take, Common.length, Common.inl, Common.inr, Common.length-append, Common.arith}
use Rattle.std.proofs.{KnownBytes.Consumes-trans}
use Rattle.csicodec_transform.proofs.Sent.{none_more}
use Rattle.csicodec_clean.proofs.Told.{more_came}
use Rattle.csicodec_clean.proofs.check.check_all.Goals as goal

pub returns-in-Ok-false-clause-fault : goal.returns-in-Ok-false-clause-fault
returns-in-Ok-false-clause-fault g c = λ some.
    let (read, consumed, stands) = c.loop.invariant.stands in
    let chunk = take c.in_ok-count.count c.receive.new.chunk in
    let rest = c.push.new.self.rest.items in
    let over = c.in-Ok-false.ensures.over c.in-Ok-false.field-0-test in
    let now = c.in-Ok-false.ensures.stands read stands in (
      read ++ chunk,
      Consumes-trans _ _ _ read chunk consumed c.in_ok-count.ensures.read.0,
      inl (
        c.in-Ok-false.ensures.sure c.in-Ok-false.field-0-test,
        λ more. (
          more_came g.C.CharClass.class (read ++ chunk) rest more c.push.new.self.at c.push.new.self.line now,
          omega (arith, some, length-append rest more),
          over.1 more,
        ),
      ),
    )

pub returns-then-count-eq0-clause-fault : goal.returns-then-count-eq0-clause-fault
returns-then-count-eq0-clause-fault g c = λ some.
    let (read, consumed, stands) = c.loop.invariant.stands in
    let all = none_more read c.receive.new.chunk c.in_ok-count.count _ _ _ consumed c.in_ok-count.ensures.read.0 c.if-count-eq0.true in
    let room : 0 < length c.receive.new.chunk = omega (arith, c.receive.auto.chunk) in
    (read, all, inr (c.in_ok-count.ensures.read.1 c.if-count-eq0.true room, (stands, some, c.loop.invariant.outside)))

pub loop-preserved : goal.loop-preserved
loop-preserved g c =
    let (read, consumed, stands) = c.loop.invariant.stands in
    let chunk = take c.in_ok-count.count c.receive.new.chunk in
    record {
      stands = (read ++ chunk, Consumes-trans _ _ _ read chunk consumed c.in_ok-count.ensures.read.0, c.in-Ok-true.ensures.stands read stands);
      outside = c.in-Ok-true.ensures.outside;
    }
