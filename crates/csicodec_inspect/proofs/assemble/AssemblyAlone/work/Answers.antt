use Rattle.csicodec_inspect.proofs.Common.{◌++◌, [], Err, take, refl, arith, Appends-nil, Appends-trans, Consumes-nil, Consumes-trans}
use Rattle.csicodec_inspect.proofs.Assembled.{ended_run, ends, goes_on, stopped, stopped_behind, takes}
use Rattle.csicodec_transform.proofs.Sent.{none_more}
use Rattle.csicodec_transform.specs.declared.error.RunError.{RunError}
use Rattle.csicodec_command.specs.declared.failure.Failure.{Failure}
use Rattle.csicodec_inspect.proofs.assemble.AssemblyAlone.work.Goals as goal

pub loop-init : goal.loop-init
loop-init g c = (
  [],
  [],
  Consumes-nil (g.R.Read.remaining c.args.input.now),
  ([], rw c.new-lines.ensures.line (record { lines = λ more. refl; all = refl }), c.new-lines.ensures.over),
  Appends-nil (g.W.Write.contents c.args.output.now),
)

pub returns-in_err-len : goal.returns-in_err-len
returns-in_err-len g c =
    let (read, sure, consumed, stands, appended) = c.loop.invariant in
    stopped c.from_residual.result _ read sure _ _ _ _ _ _ _ _ consumed stands appended c.from_residual.ensures.1

pub returns : goal.returns
returns g c =
    let (read, sure, consumed, stands, appended) = c.loop.invariant in
    stopped (Err (Failure.Run RunError.Read)) RunError.Read read sure _ _ _ _ _ _ _ _ consumed stands appended refl

pub returns-then-len-eq0 : goal.returns-then-len-eq0
returns-then-len-eq0 g c =
    let (read, sure, consumed, stands, appended) = c.loop.invariant in
    let none = c.if-len-eq0.true in
    let (sent, went, how) = c.pass_on.ensures in
    let last = c.end-ended.ensures in
    ended_run c.end-ended.result c.pass_on.result c.number.result read sure c.end-ended.new.out.items sent _ _ _ _ _ _ _
    (none_more read c.receive.new.chunk c.in_ok-len.len _ _ _ consumed c.in_ok-len.ensures.read.0 none)
    (c.in_ok-len.ensures.read.1 none (omega (arith, c.receive.auto.chunk)))
    (ends c.end-ended.result c.number.result read sure _ _ _ _ _ stands c.number.ensures c.clear.ensures.items last.bytes last.told last.stays last.kept)
    (rw c.deref.ensures.value at how) appended went

pub returns-in_err-pass_on : goal.returns-in_err-pass_on
returns-in_err-pass_on g c =
    let (read, sure, consumed, stands, appended) = c.loop.invariant in
    let chunk = take c.in_ok-len.len c.receive.new.chunk in
    let (sent, went, how) = c.pass_on-in-loop.ensures in
    let number = c.number-in-loop.result in
    let taken = c.take-taken in
    let r = c.from_residual-in_err-pass_on in
    stopped_behind taken.result c.pass_on-in-loop.result r.result _ number _ (read ++ chunk) sure taken.new.out.items sent _ _ _ _ _ _ _ _
    (Consumes-trans _ _ _ read chunk consumed c.in_ok-len.ensures.read.0)
    (takes taken.result number read chunk sure _ _ _ _ _ _ stands c.number-in-loop.ensures c.clear.ensures.items taken.ensures.bytes taken.ensures.told)
    (rw c.deref-in-loop.ensures.value at how) c.in_err-pass_on.was r.ensures.1 appended went

pub loop-preserved : goal.loop-preserved
loop-preserved g c =
    let (read, sure, consumed, stands, appended) = c.loop.invariant in
    let chunk = take c.in_ok-len.len c.receive.new.chunk in
    let (sent, went, how) = c.pass_on-in-loop.ensures in
    let number = c.number-in-loop.result in
    let taken = c.take-taken in (
      read ++ chunk,
      sure ++ sent,
      Consumes-trans _ _ _ read chunk consumed c.in_ok-len.ensures.read.0,
      goes_on taken.result c.pass_on-in-loop.result number _ (read ++ chunk) sure taken.new.out.items sent _
          (takes taken.result number read chunk sure _ _ _ _ _ _ stands c.number-in-loop.ensures c.clear.ensures.items taken.ensures.bytes taken.ensures.told)
          (rw c.deref-in-loop.ensures.value at how) c.in_ok-pass_on.was,
      Appends-trans _ _ _ sure sent appended went,
    )
