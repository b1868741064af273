use Rattle.std.proofs.Common.{◌≡◌, ◌∙◌, ℕ, ℤ, List, Option, Some, ap, sym, rules}
use Rattle.std.specs.Prelude.{◌==◌, if◌then◌else◌}
use Rattle.csicodec_tokens.specs.Fields.{fields_of}
use Rattle.csicodec_sequences.specs.Parts.{parts_of}
use Rattle.csicodec_screen.specs.Areas.{by_fields, own_byte}
use Rattle.csicodec_screen.proofs.screen.Screen.unknown.Goals as goal

abbrev pub pick : ℕ → ℕ → ℕ
pick marker intermediate = if marker == 0 then intermediate else if intermediate == 0 then marker else 0

pub returns : goal.returns
returns c =
    let s = c.args.self.now in
    let params = c.args.params.now in
    let parts = c.of-parts in
    let byte : c.own_byte-byte.result ≡ own_byte (parts_of params) =
    c.own_byte-byte.ensures ∙ ap (λ (m : ℕ). pick m parts.result.intermediate) parts.ensures.marker ∙ ap (pick (parts_of params).marker) parts.ensures.intermediate in
    let found : fields_of (parts_of params).body ≡ Some c.in-Some.fields = search rules in
    c.in_ok-by_byte.ensures
    ∙ ap (λ (n : ℕ). by_fields n c.args.last (Some c.in-Some.fields) s) byte
    ∙ ap (λ (o : Option (List (Option ℤ))). by_fields (own_byte (parts_of params)) c.args.last o s) (sym found)
