use Rattle.std.proofs.{Common.rules, Common.arith, Common.◌≡◌, Common.◌≢◌, Common.◌∙◌, Common.sym, Common.refl, Common.false, Common.get_or}
use Rattle.std.proofs.{lemmas.List.take_rest, lemmas.Int.to_z-of_z}
use Rattle.std.specs.Prelude.{pos, ◌==◌}
use mir.{Val.SFits, Syntax.w64}
use Rattle.csicodec_tokens.specs.declared.param.CsiParam.TheVariants.{Integer, P}
use Rattle.csicodec_names.specs.{declared.codes.SgrCode.SgrCode, Numbers.number_of}
use Rattle.csicodec_base.proofs.Table.{at_end, at_first, semicolon_front, other_byte, unknown_number, one_token_front, is_front, is_near, is_within}
use Rattle.csicodec_base.proofs.pieces.sgr_front.Goals as goal

pub returns-in-P-2 : goal.returns-in-P-2
returns-in-P-2 c =
    let first : get_or c.args.rest.now 0 (Integer (pos 0)) ≡ P 59 = search rules in
    let e = sym (at_first c.args.rest.now (Integer (pos 0)) (P 59) _ (omega arith) first (semicolon_front _)) in
    record { piece = is_front _ _ e; near = is_near _ _ e; within = is_within _ _ e }

pub code_front-requires : goal.code_front-requires
code_front-requires c =
    let fits : SFits w64 c.in-Integer.number = search rules in
    let number = sym (to_z-of_z w64 c.in-Integer.number fits) ∙ (c.in_ok-code-in-Integer.ensures c.in_ok-code-in-Integer.code).0 refl in
    sym (c.attribute_alone.ensures c.in_ok-code-in-Integer.code (to_z-of_z w64 c.in-Integer.number fits ∙ number)) ∙ c.in-None.is

pub returns-in-Some : goal.returns-in-Some
returns-in-Some c =
    let fits : SFits w64 c.in-Integer.number = search rules in
    let number = sym (to_z-of_z w64 c.in-Integer.number fits) ∙ (c.in_ok-code-in-Integer.ensures c.in_ok-code-in-Integer.code).0 refl in
    let alone = sym (c.attribute_alone.ensures c.in_ok-code-in-Integer.code (to_z-of_z w64 c.in-Integer.number fits ∙ number)) ∙ c.in-Some.is in
    let first : get_or c.args.rest.now 0 (Integer (pos 0)) ≡ Integer (pos (number_of c.in_ok-code-in-Integer.code)) = cc in
    let e = sym (at_first c.args.rest.now (Integer (pos 0)) _ _ (omega arith) first (one_token_front _ _ _ alone)) in
    record { piece = is_front _ _ e; near = is_near _ _ e; within = is_within _ _ e }

pub returns-in-None : goal.returns-in-None
returns-in-None c =
    let fits : SFits w64 c.in-Integer.number = search rules in
    let number = sym (to_z-of_z w64 c.in-Integer.number fits) ∙ (c.in_ok-code-in-Integer.ensures c.in_ok-code-in-Integer.code).0 refl in
    let first : get_or c.args.rest.now 0 (Integer (pos 0)) ≡ Integer (pos (number_of c.in_ok-code-in-Integer.code)) = cc in
    let e = c.code_front.ensures ∙ sym (at_first c.args.rest.now (Integer (pos 0)) _ _ (omega arith) first (rw (take_rest c.args.rest.now 1) refl)) in
    record { piece = is_front _ _ e; near = is_near _ _ e; within = is_within _ _ e }

pub returns-in_err-code-in-Integer : goal.returns-in_err-code-in-Integer
returns-in_err-code-in-Integer c =
    let fits : SFits w64 c.in-Integer.number = search rules in
    let no_code : (code : SgrCode) → c.in-Integer.number ≢ pos (number_of code) = λ code h.
    (let none = (c.in_err-code-in-Integer.ensures code).1 (to_z-of_z w64 c.in-Integer.number fits ∙ h) in cc) in
    let e = c.from_residual.ensures ∙ sym (at_first c.args.rest.now (Integer (pos 0)) (Integer c.in-Integer.number) _ (omega arith) (cc) (unknown_number _ _ no_code)) in
    record { piece = is_front _ _ e; near = is_near _ _ e; within = is_within _ _ e }

pub returns-in-empty : goal.returns-in-empty
returns-in-empty c =
    let e = sym (at_end c.args.rest.now c.in-empty.len_below) in
    record { piece = is_front _ _ e; near = is_near _ _ e; within = is_within _ _ e }

pub returns-in-P : goal.returns-in-P
returns-in-P c =
    let other : (c.in-P.mark == 59) ≡ false = search rules in
    let e = sym (at_first c.args.rest.now (Integer (pos 0)) (P c.in-P.mark) _ (omega arith) (search rules) (other_byte _ _ other)) in
    record { piece = is_front _ _ e; near = is_near _ _ e; within = is_within _ _ e }
