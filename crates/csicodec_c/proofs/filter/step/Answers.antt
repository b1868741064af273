use Rattle.std.proofs.Common.{◌++◌, ℕ, List, length, refl, ap, inl, subst, sym, ◌∙◌}
use Rattle.csicodec_structs.specs.Room.{Fills}
use Rattle.csicodec_c.proofs.filter.step.Goals as goal

pub returns-in-Ok : goal.returns-in-Ok
returns-in-Ok g c =
    let (within, text, passes, out) = c.in-Ok.ensures.passes in
    let is = c.as_slice.ensures.value ∙ out ∙ ap (λ l. l ++ text) c.new-text.ensures.items in
    inl (record {
      before = c.in-Some.mode;
      after = c.in-Ok.mode;
      text = text;
      began = (c.mode_at.ensures c.in-Some.mode).0 c.in-Some.is;
      within = within;
      passes = passes;
      tells = rw (c.number.ensures, c.number_of.ensures, c.len.ensures ∙ sym c.as_slice.ensures.len ∙ ap length is) refl;
      fills = subst (λ (t : List ℕ). Fills c.args.out.now c.fill.new.room t) is c.fill.ensures;
    })
