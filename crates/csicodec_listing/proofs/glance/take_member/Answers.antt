use Rattle.csicodec_listing.proofs.Common.{◌≡◌, ℕ, List, codes, false, Some, sym, subst, ap, ◌∙◌, false_from_ne_true, bytes_eq-Decides, option_map, value, value_is, put, string, converted, of_json, is_totals, Says}
use Rattle.csicodec_listing.proofs.Member.{says_kind, says_other, says_text}
use Rattle.csicodec_listing.proofs.glance.take_member.Goals as goal

pub returns-in_ok-take_string-in-text-clause-said : goal.returns-in_ok-take_string-in-text-clause-said
returns-in_ok-take_string-in-text-clause-said c =
    let s = c.in_ok-take_string-in-text.field-0.now in (
      string s,
      ap (converted of_json) (ap (value 126) c.in_ok-take_string-in-text.ensures ∙ value_is 126 _),
      λ found says. subst (λ (k : List ℕ). Says (Some s) (put k (string s) found)) (sym c.in-text.is) (says_text _ s found says),
    )

pub returns-in_default-2-clause-said : goal.returns-in_default-2-clause-said
returns-in_default-2-clause-said c =
    let s = c.in_ok-take_string-in-kind.field-0.now in
    let other : is_totals (Some s) ≡ false = false_from_ne_true _ (λ same. c.in_default-2.not-totals ((bytes_eq-Decides s (codes "totals")).0 same)) in (
      string s,
      ap (converted of_json) (ap (value 126) c.in_ok-take_string-in-kind.ensures ∙ value_is 126 _),
      λ found says. subst (λ (k : List ℕ). Says (option_map (λ r. r.now) c.args.text) (put k (string s) found)) (sym c.in-kind.is) (says_kind _ s found other says),
    )

pub returns-in_ok-pass-in_default-clause-said : goal.returns-in_ok-pass-in_default-clause-said
returns-in_ok-pass-in_default-clause-said c =
    let (d, read) = c.in_ok-pass-in_default.ensures.value in
    let other = c.in_default in
    (d, read, λ found says. says_other c.args.name.now d _ found (λ e. other.not-text (sym e)) (λ e. other.not-hex (sym e)) (λ e. other.not-kind (sym e)) says)
