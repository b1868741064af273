use Rattle.std.proofs.Common.{◌≡◌, ◌-◌, length, take, refl, arith, length-take}
use Rattle.csicodec_spans.specs.{Parts.AllowsCsi, declared.table.Kind.Kind, declared.table.Mode.Mode}
use Rattle.csicodec_spans.proofs.OneSpan.{csi_cut, whole, short}
use Rattle.csicodec_spans.proofs.cut.sequence_span.Goals as goal

pub returns-clause-sequence : goal.returns-clause-sequence
returns-clause-sequence c = λ list final r.
    let n : c.min.result - c.len-2.result ≡ length (take c.args.limit c.args.bytes.now) - length c.args.behind.now = omega (arith, c.min.ensures, c.len.ensures, c.len-2.ensures, length-take c.args.limit c.args.bytes.now) in
    rw n (whole c.args.limit c.args.bytes.now c.args.behind.now list final r)

pub returns-clause-cut : goal.returns-clause-cut
returns-clause-cut c = λ m is.
    let (list, final, r) = c.requires in
    let n : c.min.result - c.len-2.result ≡ length (take c.args.limit c.args.bytes.now) - length c.args.behind.now = omega (arith, c.min.ensures, c.len.ensures, c.len-2.ensures, length-take c.args.limit c.args.bytes.now) in
    let l = length (take c.args.limit c.args.bytes.now) - length c.args.behind.now in
    let stands : AllowsCsi c.args.limit c.args.bytes.now Kind.Csi (take l c.args.bytes.now) Mode.Text =
    ((list, final, whole c.args.limit c.args.bytes.now c.args.behind.now list final r), short c.args.limit c.args.bytes.now c.args.behind.now, refl) in
    rw n (csi_cut c.args.limit m Mode.Text c.args.bytes.now Kind.Csi l is stands)
