use Rattle.std.proofs.Common.{[], refl}
use Rattle.csicodec_clean.specs.{Cleaned.drops, Cleaned.ends_bare, Steps.bare}
use Rattle.csicodec_clean.proofs.{Again.strip_front, Plain.strips, Told.one_text}
use Rattle.csicodec_lines.proofs.{Fronts.lines_ran, Taken.passes_none, Texts.plain_lines, Common.⊤, Common.IsPlain, Common.Strips, Common.longest, Common.begun}
use Rattle.csicodec_lines.proofs.run.strip_lines_all.Goals as goal

pub transform_all-requires-clause-begun : goal.transform_all-requires-clause-begun
transform_all-requires-clause-begun g c = rw c.stripped.ensures (passes_none (λ (_ : ⊤). bare) drops ends_bare tt)

pub returns : goal.returns
returns g c =
    lines_ran (λ (_ : ⊤). bare) drops ends_bare (begun (λ (_ : ⊤). bare) tt) refl (Strips longest) (strips longest bare) (one_text longest) (strip_front bare)
    (λ after. ([], refl)) IsPlain plain_lines c.transform_all.result _ _ _ _ (rw c.stripped.ensures at c.transform_all.ensures.ok) (rw c.stripped.ensures at c.transform_all.ensures.front)
