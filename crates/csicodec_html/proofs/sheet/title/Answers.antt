use Rattle.std.proofs.Common.{◌++◌, ◌∙◌, List, ℕ, ap, subst, flat_map}
use Rattle.csicodec_html.proofs.Common.{Strips, longest, escaped}
use Rattle.csicodec_html.proofs.sheet.title.Goals as goal

pub returns : goal.returns
returns c =
    let (cs, scalars, shown, e) = c.in_ok-text.ensures.safe in (
      cs,
      subst (Strips longest c.args.name.now) e c.in_ok-text.ensures.exact,
      shown,
      c.in_ok-append_text.ensures cs shown (c.deref.ensures.value ∙ e) ∙ ap (λ (t : List ℕ). t ++ flat_map escaped cs) c.new-out.ensures.items,
    )
