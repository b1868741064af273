-- What a control sequence turns on a page.
use Rattle.std.specs.Prelude.{ℕ, ◌≡◌, ◌||◌, not, List}
use Rattle.csicodec_actions.specs.Actions.{Action}
use Rattle.csicodec_terminal.specs.Terminal.{IsTakenFor}
use Rattle.csicodec_looks.specs.{declared.look.Look.Look, declared.markup.Markup.Markup, Paint.same, Pieces.piece_texts, Pieces.turn}
use Rattle.csicodec_clean.specs.Saving.{behind_all, looks, sets_any}

-- the bytes are one control sequence, from one look to another, whatever is saved, which stays, and these are the tags between
abbrev pub IsTurned : Markup → List ℕ → Look → Look → List ℕ → Type 0
IsTurned m bytes old new tags = (actions : List Action) × IsTakenFor bytes actions
    × ((saved : Look) → behind_all (looks old saved) actions ≡ looks new saved)
    × (tags ≡ piece_texts (turn m (sets_any actions || not (same old new)) old new))
