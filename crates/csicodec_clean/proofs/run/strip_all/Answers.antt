use Rattle.std.proofs.Common.{[], refl}
use Rattle.csicodec_clean.proofs.{Common.IsPlain, Common.Strips, Common.drops, Common.ends_bare, Common.longest, Plain.strips, Plain.strips_plain}
use Rattle.csicodec_clean.proofs.{Again.rule_ran, Again.strip_front, Told.one_text}
use Rattle.csicodec_clean.proofs.run.strip_all.Goals as goal

pub returns : goal.returns
returns g c =
    rule_ran drops ends_bare _ (Strips longest) IsPlain (strips longest _) (λ after. ([], refl)) (strips_plain longest) (one_text longest) (strip_front _)
    c.clean_run.result _ _ _ _ c.clean_run.ensures.ok c.clean_run.ensures.front
