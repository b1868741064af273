use Rattle.std.proofs.{Common.◌<◌, Common.◌≡◌, Common.◌++◌, Common.[], Common.length, Common.rules, Common.take, Common.sym, Common.◌∙◌, Common.ap}
use Rattle.std.proofs.{Common.arith, lemmas.Result.on_err_weaker, lemmas.Result.on_ok_weaker}
use Rattle.csicodec_transform.proofs.Sent.{ran, so_kept, so_none, so_off, so_on, went, went_end, went_off, went_some}
use Rattle.csicodec_transform.proofs.transform.transform_all.Goals as goal

pub loop-init : goal.loop-init
loop-init g c = record {
  stands = c.requires.stands;
  passed = record { read = []; text = []; consumed = search rules; passed = c.requires.begun; written = search rules };
}

pub returns-in_default-clause-failed : goal.returns-in_default-clause-failed
returns-in_default-clause-failed g c = λ e.
    let so = so_kept g.T.Transform.passes g.T.Transform.ends c.args.transform _ _ _ _ _ _ c.loop.invariant.passed c.in_default.ensures.err.1 in
    so_off g.T.Transform.passes g.T.Transform.ends c.args.transform g.T.Transform.rests _ c.fail.new.transform _ _ _ _ _ so (c.fail.ensures.read e)

pub returns-clause-failed : goal.returns-clause-failed
returns-clause-failed g c = λ e. so_off g.T.Transform.passes g.T.Transform.ends c.args.transform g.T.Transform.rests _ c.fail-2.new.transform _ _ _ _ _ c.loop.invariant.passed
    (c.fail-2.ensures.read e)

pub returns-in_default-clause-front : goal.returns-in_default-clause-front
returns-in_default-clause-front g c =
    let so = so_kept g.T.Transform.passes g.T.Transform.ends c.args.transform _ _ _ _ _ _ c.loop.invariant.passed c.in_default.ensures.err.1 in
    went_off g.T.Transform.passes g.T.Transform.ends c.args.transform _ _ _ _ _ _ so c.fail.ensures.front

pub returns-in_default-end-clause-front : goal.returns-in_default-end-clause-front
returns-in_default-end-clause-front g c = went g.T.Transform.passes g.T.Transform.ends c.args.transform _ _ _ _ _ _ _ c.loop.invariant.passed c.in-Ok.ensures.read.0

pub returns-in_default-take_read-clause-front : goal.returns-in_default-take_read-clause-front
returns-in_default-take_read-clause-front g c = went g.T.Transform.passes g.T.Transform.ends c.args.transform _ _ _ _ _ _ _ c.loop.invariant.passed c.in-Ok.ensures.read.0

pub returns-clause-front : goal.returns-clause-front
returns-clause-front g c = went_off g.T.Transform.passes g.T.Transform.ends c.args.transform _ _ _ _ _ _ c.loop.invariant.passed c.fail-2.ensures.front

pub returns-then-count-eq0-clause-ok : goal.returns-then-count-eq0-clause-ok
returns-then-count-eq0-clause-ok g c =
    let (rest, ends, made) = c.in-Ok-end.ensures in
    let so = so_none g.T.Transform.passes g.T.Transform.ends c.args.transform c.receive.new.chunk c.in-Ok.count _ _ _ _ _ _ c.loop.invariant.passed c.in-Ok.ensures.read.0 c.if-count-eq0.true in
    let room : 0 < length c.receive.new.chunk = omega (arith, c.receive.auto.chunk) in
    let out = c.deref.ensures.value ∙ made ∙ ap (λ t. t ++ rest) c.clear.ensures.items in
    on_ok_weaker c.send.result
    (λ ok. ran g.T.Transform.passes g.T.Transform.ends c.args.transform rest _ _ _ _ _ _ so (c.in-Ok.ensures.read.1 c.if-count-eq0.true room) ends (rw out at ok))
    c.send.ensures.ok

pub returns-then-count-eq0-clause-front : goal.returns-then-count-eq0-clause-front
returns-then-count-eq0-clause-front g c =
    let (rest, ends, made) = c.in-Ok-end.ensures in
    let so = so_none g.T.Transform.passes g.T.Transform.ends c.args.transform c.receive.new.chunk c.in-Ok.count _ _ _ _ _ _ c.loop.invariant.passed c.in-Ok.ensures.read.0 c.if-count-eq0.true in
    let room : 0 < length c.receive.new.chunk = omega (arith, c.receive.auto.chunk) in
    let out = c.deref.ensures.value ∙ made ∙ ap (λ t. t ++ rest) c.clear.ensures.items in
    on_err_weaker c.send.result
    (λ (sent, unsent, parts, some). went_end g.T.Transform.passes g.T.Transform.ends c.args.transform rest _ _ _ _ _ _ so (c.in-Ok.ensures.read.1 c.if-count-eq0.true room) ends
    (sent, unsent, sym out ∙ parts, some))
    c.send.ensures.front

pub returns-in_default-send-clause-front : goal.returns-in_default-send-clause-front
returns-in_default-send-clause-front g c =
    let (more, goes, out) = c.in-Ok-take_read.ensures.passes in
    let (sent, unsent, parts, some) = c.in_default-send.ensures.front in
    let split : more ≡ sent ++ unsent = sym (ap (λ t. t ++ more) c.clear.ensures.items) ∙ sym out ∙ sym c.deref-in-loop.ensures.value ∙ parts in
    went_some g.T.Transform.passes g.T.Transform.ends c.args.transform _ more sent unsent _ c.take_read.new.transform _ _ _ _ _ _ c.loop.invariant.passed c.in-Ok.ensures.read.0 goes split some

pub loop-preserved : goal.loop-preserved
loop-preserved g c =
    let (more, goes, out) = c.in-Ok-take_read.ensures.passes in
    let whole = c.deref-in-loop.ensures.value ∙ out ∙ ap (λ t. t ++ more) c.clear.ensures.items in
    record {
      stands = c.in-Ok-take_read.ensures.stands;
      passed = so_on g.T.Transform.passes g.T.Transform.ends c.args.transform (take c.in-Ok.count c.receive.new.chunk) more _ c.take_read.new.transform _ _ _ _ _ _
          c.loop.invariant.passed c.in-Ok.ensures.read.0 goes (rw whole at c.in-Ok-send.ensures.ok);
    }
