use Rattle.std.proofs.Common.{eq-eqb, eqb-true, rules, true, ◌≡◌, sym, ◌∙◌}
use Rattle.csicodec_compact.proofs.{Told.has-normal, Told.told_by, Common.slice_eq-Decides}
use Rattle.csicodec_compact.proofs.alike.Comparer.has_normal_form.Goals as goal

pub returns-then-tells : goal.returns-then-tells
returns-then-tells c = λ yes.
    let whole : c.in_ok-read.field-0 ≡ true = search rules in
    let same = (slice_eq-Decides (λ a b. (eqb-true a b, eq-eqb a b)) c.args.normal.now c.as_slice.result.now c.eq.result c.eq.ensures).0 yes in
    has-normal c.args.other.now c.args.normal.now c.read.new.self.other.bytes (c.in_ok-read.ensures whole)
    (told_by c.args.normal.now (sym c.tells.ensures ∙ c.if-tells.true)) (same ∙ c.as_slice.ensures)
