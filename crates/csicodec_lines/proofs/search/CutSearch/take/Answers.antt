use Rattle.std.proofs.Common.{[], refl, rules, sym, append-nil}
use Rattle.csicodec_lines.proofs.Places.{no_text, other_kind}
use Rattle.csicodec_lines.proofs.search.CutSearch.take.Goals as goal

pub returns : goal.returns
returns c = (
  [],
  (λ s is.
      let none = no_text s c.args.bytes.now in
      rw (other_kind c.args.kind (search rules), none.behind, none.none) (c.pass.ensures s is, refl)),
  sym (append-nil c.args.out.now.items),
)
