-- The steps of a stream: those of the characters of its runs of text, each read by itself as its graphic sets draw it, of its escape sequences, of its control
-- sequences as terminals take them, and of what went wrong. Control strings and titles end a run, and do nothing, but stand behind what was put last.
use Rattle.std.specs.Prelude.{ℕ, ◌≡◌, List, [], ◌∷◌, ◌++◌}
use Rattle.csicodec_actions.specs.Actions.{Action}
use Rattle.csicodec_terminal.specs.Terminal.{IsTakenFor}
use Rattle.csicodec_spans.specs.{declared.table.Kind.Kind, Parts.Part, Parts.AreFirstParts, Parts.IsUnsure, declared.table.Mode.Mode}
use Rattle.csicodec_clean.specs.{Cleaned.longest, Sets.as_read, Sets.first_reading}
use Rattle.csicodec_looks.specs.{declared.markup.Markup.Markup, declared.marking.Marking.Marking, declared.marking.Marking.TheVariants.Page}
use Rattle.csicodec_looks.specs.{declared.marking.Marking.TheVariants.Plain, declared.marking.Marking.TheVariants.Styled, declared.step.Step.Step, Line.blank}
use Rattle.csicodec_looks.specs.{Line.do_all, Line.fresh, Line.most, Row.shown_by}
use Rattle.csicodec_overwrite.specs.Steps.{of_escape, of_run, of_sequence, of_string, of_wrong}

-- one part behind a run of text: text goes on with the run, and any other part ends it
abbrev pub IsOfPart : Kind → List ℕ → List ℕ → List Step → List ℕ → Type 0
IsOfPart Kind.Text run bytes steps left = (steps ≡ []) × (left ≡ run ++ bytes)
IsOfPart Kind.Csi run bytes steps left = (actions : List Action) × IsTakenFor bytes actions
    × (steps ≡ of_run run ++ of_sequence actions) × (left ≡ [])
IsOfPart Kind.Esc run bytes steps left = (steps ≡ of_run run ++ of_escape bytes) × (left ≡ [])
IsOfPart Kind.Str run bytes steps left = (steps ≡ of_run run ++ of_string bytes) × (left ≡ [])
IsOfPart Kind.Other run bytes steps left = (steps ≡ of_run run ++ of_wrong bytes) × (left ≡ [])

-- the parts in turn, behind a run of text: their steps, and the run that they end in
abbrev pub AreOfParts : List ℕ → List Part → List Step → List ℕ → Type 0
AreOfParts run [] steps left = (steps ≡ []) × (left ≡ run)
AreOfParts run (p ∷ parts) steps left =
    (first : List Step) × (next : List ℕ) × (others : List Step)
    × IsOfPart p.kind run p.bytes first next × (steps ≡ first ++ others)
    × AreOfParts next parts others left

-- the steps of a whole stream: a sequence that isn't over at its end does nothing
pub record Steps (bytes : List ℕ) (steps : List Step) : Type 0 where
  pub parts : List Part
  pub rest : List ℕ
  pub after : Mode
  pub first : AreFirstParts longest Mode.Text bytes parts rest after
  pub unsure : IsUnsure longest after rest
  pub before : List Step
  pub run : List ℕ
  pub read : AreOfParts [] (as_read first_reading parts) before run
  pub all : steps ≡ before ++ of_run run

-- the lines of the stream, each as it stands when it ends, as UTF-8, as what they are written
pub record Shows (marking : Marking) (bytes text : List ℕ) : Type 0 where
  pub steps : List Step
  pub read : Steps bytes steps
  pub all : text ≡ shown_by marking (do_all most fresh steps blank)

-- as plain text
abbrev pub Overwrites : List ℕ → List ℕ → Type 0
Overwrites = Shows Plain

-- with how it looks: the same cells, and sequences that set that
abbrev pub Paints : List ℕ → List ℕ → Type 0
Paints = Shows Styled

-- as a page, with tags in place of those
abbrev pub Pages : Markup → List ℕ → List ℕ → Type 0
Pages m = Shows (Page m)
