-- The rule by which a page is made as its stream comes: text is escaped, and each sequence gives its tags.
use Rattle.std.specs.Prelude.{ℕ, ◌≡◌, Option, Some, List, [], ◌∷◌}
use Rattle.csicodec_actions.specs.Actions.{Action}
use Rattle.csicodec_terminal.specs.Terminal.{IsTakenFor}
use Rattle.csicodec_clean.specs.Page.{Setting, behind_actions, behind_escape, closing, led_by, setting, switches, turned}
use Rattle.csicodec_clean.specs.{Saving.behind_all, Saving.behind_effect, Saving.effect_of, Saving.escape_effect, Saving.sets, Saving.sets_any, Cleaned.RuleOf}
use Rattle.csicodec_clean.specs.{Cleaned.EndOf, Links.links_at, Links.next, declared.saving.Effect.Effect}
use Rattle.csicodec_looks.specs.{declared.look.Look.Look, Look.behind, Pieces.escaped, Pieces.piece_texts, Pieces.pieces_bytes}

-- behind a byte of a control string
abbrev pub behind_byte : Setting → ℕ → Setting
behind_byte s c =
    setting s.markup s.looks (led_by s.to (links_at s.markup.links s.begun c))
    (next s.markup.links s.begun c)

-- text is escaped; what is written for a control sequence, for an escape sequence, and for a byte of a control string
abbrev pub turns : RuleOf Setting
turns = record {
  writing = Some escaped;
  sequence = λ s bytes out after.
      (actions : List Action) × IsTakenFor bytes actions × (after ≡ behind_actions s actions)
      × (out ≡ piece_texts (turned s (sets_any actions) (behind_all s.looks actions)));
  escape = λ s bytes out after. (after ≡ behind_escape s bytes)
      × (out ≡ piece_texts (turned s (sets (escape_effect bytes)) (behind_effect s.looks (escape_effect bytes))));
  byte = λ s c out after.
      (out ≡ pieces_bytes (switches s.markup s.looks.look s.to (links_at s.markup.links s.begun c)))
      × (after ≡ behind_byte s c);
}

abbrev pub closes : EndOf Setting
closes s out = out ≡ piece_texts (closing s)

-- how text looks behind the attributes among actions
abbrev pub set_one : Look → Option Effect → Look
set_one l (Some (Effect.Sets s)) = behind l s
set_one l e = l

abbrev pub set_all : Look → List Action → Look
set_all l [] = l
set_all l (a ∷ actions) = set_all (set_one l (effect_of a)) actions
