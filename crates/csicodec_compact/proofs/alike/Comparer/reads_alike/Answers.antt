use Rattle.std.proofs.Common.{eq-eqb, eqb-true, rules, true, ◌≡◌, [], sym, ◌∙◌}
use Rattle.csicodec_compact.proofs.{Told.reads-alike, Told.told_by, Common.slice_eq-Decides}
use Rattle.csicodec_compact.proofs.alike.Comparer.reads_alike.Goals as goal

pub returns-then-tells : goal.returns-then-tells
returns-then-tells c = λ yes bytes s.
    let (xs, read, made) = c.in_ok-parse_into.ensures [] c.clear.ensures in
    let came = c.as_slice-came.result.now in
    let whole : c.in_ok-read.field-0 ≡ true = search rules in
    let same = (slice_eq-Decides (λ a b. (eqb-true a b, eq-eqb a b)) came c.as_slice.result.now c.eq.result c.eq.ensures).0 yes in
    reads-alike bytes c.args.other.now c.args.params.now c.args.control xs came c.read.new.self.other.bytes s read (c.as_slice-came.ensures ∙ made)
    (c.in_ok-read.ensures whole) (told_by came (sym c.tells.ensures ∙ c.if-tells.true))
    (same ∙ c.as_slice.ensures)
