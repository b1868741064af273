-- What is written is read back.
use Rattle.std.specs.{List.Contains, Prelude.ℕ, Prelude.◌≡◌, Prelude.◌↔◌, Prelude.List, Prelude.Bool}
use Rattle.csicodec_tokens.specs.{Sequence.IsFinal, Sequence.Spellable, declared.param.CsiParam.CsiParam}
use Rattle.csicodec_actions.specs.{Actions.Action, Actions.Sgr, Actions.Unspecified, Special.NoneSpecial, Table.texts}
use Rattle.csicodec_parser.specs.Segments.{Actions}
use Rattle.csicodec_streams.specs.{Decoding.Decodes, Exact.ReadsAlone}
use Rattle.csicodec_base.specs.declared.sgr.Sgr as sgr_type

-- what is read from the joined texts of the actions is these actions, and nothing else
pub record ReadsBack (actions : List Action) (flag : Bool) : Type 0 where
  pub back : Decodes (texts actions) flag actions
  pub only : (others : List Action) → Decodes (texts actions) flag others → others ≡ actions

-- The actions read back together, unless one is special; and each attribute, and each unknown action, be it the whole list or what is left of it,
-- reads back alone.
pub record ReadBack (actions : List Action) (flag : Bool) : Type 0 where
  pub together : NoneSpecial actions → ReadsBack actions flag
  pub attributes : (s : sgr_type.Sgr) → Contains actions (Sgr s) → ReadsAlone (Sgr s) flag
  pub unknown : (params : List CsiParam) (own : Bool) (final : ℕ)
      → Contains actions (Unspecified params own final)
      → ReadsAlone (Unspecified params own final) flag

-- the actions of a list that a sequence can have, before a final byte that it can have
abbrev pub RoundTrip : List CsiParam → Bool → ℕ → Type 0
RoundTrip list flag final = Spellable list → IsFinal final → (actions : List Action)
    → Actions list flag final actions → ReadBack actions flag

-- of two such lists, without a special action, the actions are equal exactly where their texts are
abbrev pub EqualTexts : List CsiParam → ℕ → List CsiParam → ℕ → Bool → Type 0
EqualTexts list final other last flag =
    Spellable list → IsFinal final → Spellable other → IsFinal last → (x y : List Action)
    → Actions list flag final x → Actions other flag last y → NoneSpecial x → NoneSpecial y
    → (x ≡ y) ↔ (texts x ≡ texts y)
