use Rattle.std.proofs.Common.{[], ◌++◌, append_assoc}
use Rattle.csicodec_streams.specs.Private.Steps.{styles}
use Rattle.csicodec_streams.proofs.OneReading.{begins, errs, split_more, split_none}
use Rattle.csicodec_parser.proofs.Cuts.{none_taken}
use Rattle.csicodec_streams.proofs.decode.front_into.Goals as goal

pub loop-alloc-init : goal.loop-alloc-init
loop-alloc-init g c = ([], split_none c.args.bytes.now c.args.parameters_truncated, none_taken g.S.Sink.holds c.args.sink.now)

pub loop-alloc-preserved-in-Some : goal.loop-alloc-preserved-in-Some
loop-alloc-preserved-in-Some g c =
    let (told, split, held) = c.loop-alloc.invariant in
    let (list, reads, are) = c.in-Some.ensures.read in
    let flag = c.args.parameters_truncated in
    let ys = styles c.in-Some.first c.in-Some.second in (
      told ++ ys,
      split_more c.args.bytes.now c.loop-alloc.rest.now c.in-Some.behind.now flag told ys list 109 split reads (are flag),
      λ before h. rw (← append_assoc) (c.in_ok-styles_into.ensures (before ++ told) (held before h)),
    )

pub loop-alloc-preserved-in-Ok : goal.loop-alloc-preserved-in-Ok
loop-alloc-preserved-in-Ok g c =
    let (told, split, held) = c.loop-alloc.invariant in
    let read = c.in-Ok.read in
    let (ys, are, put) = rw (c.new-tokens.ensures, c.split_at.ensures.front) at c.in_ok-list_into.ensures.taken in (
      told ++ ys,
      split_more c.args.bytes.now c.loop-alloc.rest.now read.rest.now c.args.parameters_truncated told ys _ read.control split c.in-Ok.ensures.found are,
      λ before h. rw (← append_assoc) (put (before ++ told) (held before h)),
    )

pub loop-alloc-preserved : goal.loop-alloc-preserved
loop-alloc-preserved g c =
    let (told, split, held) = c.loop-alloc.invariant in
    let tail = c.in-Ok-read_csi_into.tail in
    let (ys, are, put) = rw c.deref.ensures.value at c.in_ok-long_into-in-Ok-read_csi_into.ensures in (
      told ++ ys,
      split_more c.args.bytes.now c.loop-alloc.rest.now tail.rest.now c.args.parameters_truncated told ys _ tail.control split c.in-Ok-read_csi_into.ensures.found are,
      λ before h. rw (← append_assoc) (put (before ++ told) (held before h)),
    )

pub returns-in_err-styles_into-clause-err : goal.returns-in_err-styles_into-clause-err
returns-in_err-styles_into-clause-err g c =
    let (told, split, held) = c.loop-alloc.invariant in
    let (list, reads, are) = c.in-Some.ensures.read in
    errs c.from_residual.result (begins c.args.bytes.now c.loop-alloc.rest.now c.args.parameters_truncated told split list 109 c.in-Some.behind.now reads)

pub returns-in_err-list_into-clause-err : goal.returns-in_err-list_into-clause-err
returns-in_err-list_into-clause-err g c =
    let (told, split, held) = c.loop-alloc.invariant in
    let read = c.in-Ok.read in
    errs c.from_residual-in_err-list_into.result (begins c.args.bytes.now c.loop-alloc.rest.now c.args.parameters_truncated told split _ read.control read.rest.now c.in-Ok.ensures.found)

pub returns-in_err-long_into-in-Ok-read_csi_into-clause-err : goal.returns-in_err-long_into-in-Ok-read_csi_into-clause-err
returns-in_err-long_into-in-Ok-read_csi_into-clause-err g c =
    let (told, split, held) = c.loop-alloc.invariant in
    let tail = c.in-Ok-read_csi_into.tail in
    errs c.from_residual-in_err-long_into-in-Ok-read_csi_into.result
    (begins c.args.bytes.now c.loop-alloc.rest.now c.args.parameters_truncated told split _
    tail.control tail.rest.now c.in-Ok-read_csi_into.ensures.found)
