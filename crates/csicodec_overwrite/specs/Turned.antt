-- Control sequences that do no more than to set how characters look, and what is written for them between characters.
use Rattle.std.specs.Prelude.{ℕ, ◌≡◌, List, [], ◌∷◌}
use Rattle.csicodec_looks.specs.{declared.look.Look.Look, Look.behind, declared.marking.Marking.Marking, Paint.turn, declared.step.Step.Step}
use Rattle.csicodec_looks.specs.{declared.pen.Pen.Pen}
use Rattle.csicodec_overwrite.specs.Stream.{Held, Reads}
use Rattle.csicodec_clean.specs.{declared.saving.Looks.Looks, Saving.looks}
use Rattle.csicodec_actions.specs.Ranges.{ColorInRange}

-- a step that does no more than to set how characters look, where nothing stands right of the cursor
abbrev pub IsLook : Look → Step → Look → Type 0
IsLook look (Step.Attribute s) after = after ≡ behind look s
IsLook look Step.EraseRight after = after ≡ look
IsLook look Step.Other after = after ≡ look
IsLook look s after = ⊥

abbrev pub AreLooks : Look → List Step → Look → Type 0
AreLooks look [] after = after ≡ look
AreLooks look (s ∷ steps) after = (mid : Look) × IsLook look s mid × AreLooks mid steps after

-- bytes before which and behind which this is held, and that do no more than that
abbrev pub SetsLook : Held → List ℕ → Look → Look → Type 0
SetsLook h bytes look after = (steps : List Step) × Reads h bytes steps h × AreLooks look steps after

-- they turn text of one look into text of another, and this is written for it
abbrev pub Turned : Held → Marking → List ℕ → Look → Look → List ℕ → Type 0
Turned h marking bytes old new tags = SetsLook h bytes old new × (tags ≡ turn marking old new)

-- ---- the sequence of a look

-- its numbers are bytes
abbrev pub IsInRange : Look → Type 0
IsInRange l = ColorInRange l.line × ColorInRange l.foreground × ColorInRange l.background

-- how characters look that come now, and how they look where that was saved
abbrev pub looks_in : Pen → Looks
looks_in pen = looks pen.look pen.saved_look
