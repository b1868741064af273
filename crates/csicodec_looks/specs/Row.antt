-- A line whose cursor is still to go to its column, and what steps leave.
use Rattle.std.specs.Prelude.{ℕ, ◌≡◌, ◌++◌, Option, Some, None, ⊤, List}
use Rattle.csicodec_looks.specs.{declared.line.Line.Line, declared.marking.Marking.Marking, declared.step.Step.Step, declared.pen.Pen.Pen, Paint.texts_of}
use Rattle.csicodec_looks.specs.{Paint.text_of, Line.most, Line.Done, Line.behind_columns, Line.do_all, Line.pen_behind_all, Line.cells_of}

-- behind so many columns, or where it is
abbrev pub settled : ℕ → Option ℕ → Line → Line
settled limit None l = l
settled limit (Some n) l = behind_columns limit n l

-- what a step leaves, or more of them: the line, and the text of the lines that are over
pub record Does (marking : Marking) (d : Done) (now : Line) (before after : List ℕ) : Type 0 where
  pub line : now ≡ d.line
  pub text : after ≡ before ++ texts_of marking d.lines

-- the same of steps in turn, and how characters are put then
pub record DoesAll (marking : Marking) (steps : List Step) (first behind : Pen) (l now : Line) (before after : List ℕ) : Type 0 where
  pub line : now ≡ (do_all most first steps l).line
  pub pen : behind ≡ pen_behind_all most first steps l
  pub text : after ≡ before ++ texts_of marking (do_all most first steps l).lines

-- what is still to do of steps gives what all of them give
pub record StillDoes (marking : Marking) (steps rest : List Step) (first now : Pen) (l m : Line) (before out : List ℕ) : Type 0 where
  pub line : (do_all most now rest m).line ≡ (do_all most first steps l).line
  pub pen : pen_behind_all most now rest m ≡ pen_behind_all most first steps l
  pub text : out ++ texts_of marking (do_all most now rest m).lines ≡ before ++ texts_of marking (do_all most first steps l).lines

-- a step that neither moves the cursor alone nor leaves the line
abbrev pub IsHere : Step → Type 0
IsHere (Step.Column n) = ⊥
IsHere Step.Restore = ⊥
IsHere (Step.Row row to) = ⊥
IsHere (Step.Leave to) = ⊥
IsHere Step.NewLine = ⊥
IsHere Step.Tab = ⊥
IsHere (Step.Right n) = ⊥
IsHere (Step.Left n) = ⊥
IsHere (Step.Tabs n) = ⊥
IsHere (Step.TabsBack n) = ⊥
IsHere s = ⊤

-- the lines that are over, and then what stands in the last
abbrev pub shown_by : Marking → Done → List ℕ
shown_by marking d = texts_of marking d.lines ++ text_of marking (cells_of d.line)
