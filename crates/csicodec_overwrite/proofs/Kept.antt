-- What holds of all characters that steps put, and of blanks, tabs and newlines, holds of all that they write; and so it is with looks.
use Rattle.csicodec_overwrite.proofs.Common.{ℕ, ◌-◌, zero, suc, Bool, true, false, cond, min, List, [], ◌∷◌, ◌++◌, length, replicate, ◌==◌, nat_lt, Option, Some, None, flat_map, ◌≡◌, refl, ◌∙◌, rules, and_from, and_parts, AllByRecursion, Sgr, Look, behind, plain, Cell, Glyph, Line, Step, Behind, Char, Empty, Mark, Pen, cond_both, all_scalars, lossy_chars, SgrInRange, Kind, Part, IsPlain, IsShown, as_read, first_reading, all_weaker, begins_behind, belongs, chars_of, columns, emptied, erased, glyph, gone, is_empty, of_tab, onto, outside, shifted, takes, to_tab_stop, trimmed, untabbed, width, without, Done, behind_columns, blank, cells_of, do_all, does, does_here, done, entered, fits, forward, fresh, from_stop, in_row, is_row, leave, leaves_long, line, lines_of, over, parted, pen_behind, placed, put, repeat, repeated, shows_nothing, size, target, to_stop, widest, by_code, of_action, of_actions, of_char, of_chars, of_code, of_control, of_cursor, of_device, of_edit, of_escape, of_final, of_mode, of_run, of_terminal, by_escape, of_sequence, of_string, of_wrong, switched, IsInRange, AreOfParts, IsOfPart, Overwrites, Steps, most, Action, scalars_lossy}
use Rattle.csicodec_looks.proofs.Texts.{cells_by, line_cells, newline, chars_by, shown_plain}
use Rattle.csicodec_actions.proofs.AllRows.{all-append}
use lib.Utf8.{scalar}
use Rattle.csicodec_names.specs.{declared.modes.DecPrivateModeCode.DecPrivateModeCode, declared.enums.EraseInDisplay.EraseInDisplay}
use Rattle.csicodec_names.specs.{declared.enums.EraseInLine.EraseInLine, declared.modes.TerminalModeCode.TerminalModeCode}
use Rattle.csicodec_actions.specs.{declared.mode.DecPrivateMode.DecPrivateMode, declared.mode.Mode.Mode, declared.cursor.Cursor.Cursor, Ranges.InRange}
use Rattle.csicodec_actions.specs.{declared.edit.Edit.Edit, declared.mode.TerminalMode.TerminalMode}
use Rattle.csicodec_clean.proofs.Taken.{taken_range}
use Rattle.csicodec_actions.specs.Devices as device
use Rattle.csicodec_actions.specs.Actions as action

-- either way of a test
either : {T : Type 0} (P : T → Type 0) (t : Bool) (x y : T) → P x → P y → P (cond t x y)
either P true x y h k = h
either P false x y h k = k

module _ (P : ℕ → Type 0) (Q : Look → Type 0) (R : Sgr → Type 0) where
  abbrev pub OfCell : Cell → Type 0
  OfCell Empty = Unit {0}
  OfCell (Char g) = P g.char × Q g.look
  OfCell Behind = Unit {0}
  OfCell (Mark c) = P c

  abbrev pub OfCells : List Cell → Type 0
  OfCells cells = AllByRecursion OfCell cells

  abbrev pub OfLine : Line → Type 0
  OfLine l = OfCells l.left × OfCells l.right

  abbrev pub OfStep : Step → Type 0
  OfStep (Step.Put c) = P c
  OfStep (Step.Attribute s) = R s
  OfStep s = Unit {0}

  abbrev pub OfLast : Option ℕ → Type 0
  OfLast None = Unit {0}
  OfLast (Some c) = P c

  abbrev pub OfPen : Pen → Type 0
  OfPen pen = Q pen.look × Q pen.saved_look × OfLast pen.last

  alike : (n : ℕ) (x : Cell) → OfCell x → OfCells (replicate n x)
  alike zero x h = tt
  alike (suc n) x h = (h, alike n x h)

  moved : (xs ys : List Cell) → OfCells xs → OfCells ys → OfCells (onto xs ys)
  moved [] ys h k = k
  moved (x ∷ xs) ys h k = moved xs (x ∷ ys) h.1 (h.0, k)

  of_without : (n : ℕ) (xs : List Cell) → OfCells xs → OfCells (without n xs)
  of_without n [] h = tt
  of_without n (x ∷ xs) h = either OfCells (n == 0) (x ∷ xs) (without (n - takes x) xs) h (of_without (n - takes x) xs h.1)

  of_outside : (xs : List Cell) → OfCells xs → OfCells (outside xs)
  of_outside [] h = tt
  of_outside (x ∷ xs) h = either OfCells (belongs x) (outside xs) (x ∷ xs) (of_outside xs h.1) h

  of_untabbed : (t : Bool) (x : Cell) → OfCell x → OfCell (untabbed t x)
  of_untabbed t Empty h = tt
  of_untabbed t (Char g) h = either OfCell t Empty (Char g) tt h
  of_untabbed t Behind h = either OfCell t Empty Behind tt tt
  of_untabbed t (Mark c) h = h

  of_shifted : (t : Bool) (xs : List Cell) → OfCells xs → OfCells (shifted t xs)
  of_shifted t [] h = tt
  of_shifted t (x ∷ xs) h = (of_untabbed (of_tab t x) x h.0, of_shifted (of_tab t x) xs h.1)

  of_trimmed : (xs : List Cell) → OfCells xs → OfCells (trimmed xs)
  of_trimmed [] h = tt
  of_trimmed (x ∷ xs) h = either OfCells (is_empty x) (trimmed xs) (x ∷ xs) (of_trimmed xs h.1) h

  of_emptied : (xs rest : List Cell) → OfCells rest → OfCells (emptied xs rest)
  of_emptied xs rest h = all-append OfCell (replicate (columns xs - columns rest) Empty) rest (alike (columns xs - columns rest) Empty tt) h

  of_gone : (n : ℕ) (xs : List Cell) → OfCells xs → OfCells (gone n xs)
  of_gone n xs h = of_emptied (without n xs) (outside (without n xs)) (of_outside (without n xs) (of_without n xs h))

  of_erased : (n : ℕ) (xs : List Cell) → OfCells xs → OfCells (erased n xs)
  of_erased n xs h = all-append OfCell (replicate (min n (columns xs)) Empty) (gone n xs) (alike (min n (columns xs)) Empty tt) (of_gone n xs h)

  of_over : (n : ℕ) (left right : List Cell) → OfCells left → OfCells right → OfLine (over n left right)
  of_over n left [] h k = (h, tt)
  of_over n left (x ∷ right) h k = either OfLine (nat_lt n (takes x)) (line left (x ∷ right)) (over (n - takes x) (x ∷ left) right) (h, k) (of_over (n - takes x) (x ∷ left) right (k.0, h) k.1)

  of_forward : (limit n : ℕ) (l : Line) → OfLine l → OfLine (forward limit n l)
  of_forward limit n l h =
      let m = over n l.left l.right in
      let k = of_over n l.left l.right h.0 h.1 in
      let some = min (n - columns l.right) (limit - size m) in
      (all-append OfCell (replicate some Empty) m.left (alike some Empty tt) k.0, k.1)

  of_parted : (l : Line) → OfLine l → OfLine (parted l)
  of_parted l h = either OfLine (begins_behind l.right) (line (emptied l.left (without 1 (outside l.left))) (emptied l.right (outside l.right))) l
      (of_emptied l.left (without 1 (outside l.left)) (of_without 1 (outside l.left) (of_outside l.left h.0)), of_emptied l.right (outside l.right) (of_outside l.right h.1)) h

  of_placed : (inserts : Bool) (g : Glyph) (n : ℕ) (l : Line) → OfCell (Char g) → OfLine l → OfLine (placed inserts g n l)
  of_placed inserts g n l p h =
      let k = of_parted l h in
      let right = cond inserts (shifted false (parted l).right) (gone n (parted l).right) in
      either OfLine (n == 0) (line (Mark g.char ∷ l.left) l.right) (line (replicate (n - 1) Behind ++ (Char g ∷ (parted l).left)) right) ((p.0, h.0), h.1) (
        all-append OfCell (replicate (n - 1) Behind) (Char g ∷ (parted l).left) (alike (n - 1) Behind tt) (p, k.0),
        either OfCells inserts (shifted false (parted l).right) (gone n (parted l).right) (of_shifted false (parted l).right k.1) (of_gone n (parted l).right k.1),
      )

  -- the cells of a line
  pub of_line : (l : Line) → OfLine l → OfCells (cells_of l)
  of_line l h =
      let all = onto l.right l.left in
      moved (trimmed all) [] (of_trimmed all (moved l.right l.left h.1 h.0)) tt

  module _ (space : P 32) where
    pub chars_kept : (x : Cell) → OfCell x → AllByRecursion P (chars_of x)
    chars_kept Empty h = (space, tt)
    chars_kept (Char g) h = (h.0, tt)
    chars_kept Behind h = tt
    chars_kept (Mark c) h = (h, tt)

    pub of_cells : (xs : List Cell) → OfCells xs → AllByRecursion P (flat_map chars_of xs)
    of_cells [] h = tt
    of_cells (x ∷ xs) h = all-append P (chars_of x) (flat_map chars_of xs) (chars_kept x h.0) (of_cells xs h.1)

  module _ (tab : P 9) (newline_kept : P 10) (plain_kept : Q plain) (kept : (l : Look) (s : Sgr) → Q l → R s → Q (behind l s)) where
    abbrev pub OfDone : Done → Type 0
    OfDone d = AllByRecursion OfCells d.lines × OfLine d.line

    of_put : (limit : ℕ) (inserts : Bool) (g : Glyph) (l : Line) → OfCell (Char g) → OfLine l → OfDone (put limit inserts g l)
    of_put limit inserts g l p h =
        let w = width g.char (columns l.left) in
        either OfDone (fits limit w l) (done [] (placed inserts g w l)) (done (cells_of l ∷ []) (placed inserts g (width g.char 0) blank))
        (tt, of_placed inserts g w l p h) ((of_line l h, tt), of_placed inserts g (width g.char 0) blank p (tt, tt))

    of_repeat : (limit : ℕ) (inserts : Bool) (g : Glyph) (n : ℕ) (l : Line) → OfCell (Char g) → OfLine l → OfDone (repeat limit inserts g n l)
    of_repeat limit inserts g zero l p h = (tt, h)
    of_repeat limit inserts g (suc n) l p h =
        let d = put limit inserts g l in
        let one = of_put limit inserts g l p h in
        let others = of_repeat limit inserts g n d.line p one.1 in
        (all-append OfCells d.lines (repeat limit inserts g n d.line).lines one.0 others.0, others.1)

    of_repeated : (limit : ℕ) (pen : Pen) (last : Option ℕ) (n : ℕ) (l : Line) → Q pen.look → OfLast last → OfLine l → OfDone (repeated limit pen last n l)
    of_repeated limit pen None n l q p h = (tt, h)
    of_repeated limit pen (Some c) n l q p h = of_repeat limit pen.inserts (glyph c pen.look) n l (p, q) h

    of_behind : (limit n : ℕ) (l : Line) → OfLine l → OfLine (behind_columns limit n l)
    of_behind limit n l h = of_forward limit n (line [] (onto l.left l.right)) (tt, moved l.left l.right h.0 h.1)

    of_over_lines : (l : Line) → OfLine l → AllByRecursion OfCells (lines_of l)
    of_over_lines l h = either (AllByRecursion OfCells) (shows_nothing l) [] (cells_of l ∷ []) tt (of_line l h, tt)

    of_leave : (limit : ℕ) (to : Option ℕ) (l : Line) → OfLine l → OfDone (leave limit to l)
    of_leave limit to l h = (of_over_lines l h, of_forward limit (target to l) blank (tt, tt))

    of_in_row : (limit : ℕ) (to : Option ℕ) (l : Line) → OfLine l → OfLine (in_row limit to l)
    of_in_row limit None l h = h
    of_in_row limit (Some n) l h = of_behind limit (n - 1) l h

    of_here : (limit : ℕ) (pen : Pen) (s : Step) (l : Line) → OfPen pen → OfStep s → OfLine l → OfDone (does_here limit pen s l)
    of_here limit pen (Step.Put c) l q p h = of_put limit pen.inserts (glyph c pen.look) l (p, q.0) h
    of_here limit pen (Step.Repeat n) l q p h = of_repeated limit pen pen.last n l q.0 q.2 h
    of_here limit pen Step.Tab l q p h =
        either OfDone (length l.right == 0) (put limit pen.inserts (glyph 9 pen.look) l) (done [] (forward limit (to_tab_stop (columns l.left)) l))
        (of_put limit pen.inserts (glyph 9 pen.look) l (tab, q.0) h)
        (tt, of_forward limit (to_tab_stop (columns l.left)) l h)
    of_here limit pen (Step.Tabs n) l q p h = (tt, of_forward limit (min (to_stop n (columns l.left)) (widest - 1 - columns l.left)) l h)
    of_here limit pen (Step.TabsBack n) l q p h = (tt, of_behind limit (columns l.left - from_stop n (columns l.left)) l h)
    of_here limit pen Step.NewLine l q p h = ((of_line l h, tt), (tt, tt))
    of_here limit pen (Step.Right n) l q p h = (tt, of_forward limit (min n (widest - 1 - columns l.left)) l h)
    of_here limit pen (Step.Left n) l q p h = (tt, of_behind limit (columns l.left - n) l h)
    of_here limit pen (Step.Column n) l q p h = (tt, of_behind limit (n - 1) l h)
    of_here limit pen Step.EraseRight l q p h = (tt, ((of_parted l h).0, tt))
    of_here limit pen Step.EraseLeft l q p h = (tt, (alike (columns l.left) Empty tt, of_erased 1 l.right h.1))
    of_here limit pen Step.EraseAll l q p h = (tt, (alike (columns l.left) Empty tt, tt))
    of_here limit pen (Step.Erase n) l q p h = let k = of_parted l h in (tt, (k.0, of_erased n (parted l).right k.1))
    of_here limit pen (Step.Delete n) l q p h =
        let k = of_parted l h in
        (tt, (k.0, of_shifted false (gone n (parted l).right) (of_gone n (parted l).right k.1)))
    of_here limit pen (Step.Insert n) l q p h =
        let k = of_parted l h in
        let some = min n (limit - size (parted l)) in
        (tt, (k.0, all-append OfCell (replicate some Empty) (shifted false (parted l).right) (alike some Empty tt) (of_shifted false (parted l).right k.1)))
    of_here limit pen Step.Restore l q p h =
        either OfDone pen.here (done [] (behind_columns limit pen.saved l)) (done (lines_of l) (forward limit pen.saved blank)) (tt, of_behind limit pen.saved l h)
        (of_over_lines l h, of_forward limit pen.saved blank (tt, tt))
    of_here limit pen (Step.Leave to) l q p h = of_leave limit to l h
    of_here limit pen (Step.Row row to) l q p h =
        either OfDone (is_row pen.row row) (done [] (in_row limit to l)) (leave limit to l) (tt, of_in_row limit to l h) (of_leave limit to l h)
    of_here limit pen _ l q p h = (tt, h)

    of_does : (limit : ℕ) (pen : Pen) (s : Step) (l : Line) → OfPen pen → OfStep s → OfLine l → OfDone (does limit pen s l)
    of_does limit pen s l q p h =
        let e = entered limit s l in
        let first = either OfDone (leaves_long s l) (leave limit None l) (done [] l) (of_leave limit None l h) (tt, h) in
        let here = of_here limit pen s e.line q p first.1 in
        (all-append OfCells e.lines (does_here limit pen s e.line).lines first.0 here.0, here.1)

    pen_kept : (pen : Pen) (s : Step) (column : ℕ) → OfPen pen → OfStep s → OfPen (pen_behind pen s column)
    pen_kept pen (Step.Put c) column q p = (q.0, q.1, either OfLast (width c 0 == 0) pen.last (Some c) q.2 p)
    pen_kept pen (Step.Attribute s) column q p = (kept pen.look s q.0 p, q.1, tt)
    pen_kept pen Step.Reset column q p = (plain_kept, plain_kept, tt)
    pen_kept pen Step.Save column q p = (q.0, q.0, tt)
    pen_kept pen Step.Restore column q p = (q.1, q.1, tt)
    pen_kept pen _ column q p = (q.0, q.1, tt)

    pub of_all : (limit : ℕ) (pen : Pen) (steps : List Step) (l : Line) → OfPen pen → AllByRecursion OfStep steps → OfLine l → OfDone (do_all limit pen steps l)
    of_all limit pen [] l q p h = (tt, h)
    of_all limit pen (s ∷ steps) l q p h =
        let next = pen_behind pen s (columns l.left) in
        let one = of_does limit pen s l q p.0 h in
        let later = do_all limit next steps (does limit pen s l).line in
        let others = of_all limit next steps (does limit pen s l).line (pen_kept pen s (columns l.left) q p.0) p.1 one.1 in
        (all-append OfCells (does limit pen s l).lines later.lines one.0 others.0, others.1)

    of_lines : (lines : List (List Cell)) → AllByRecursion OfCells lines → OfCells (flat_map line_cells lines)
    of_lines [] h = tt
    of_lines (x ∷ xs) h = all-append OfCell (line_cells x) (flat_map line_cells xs) (all-append OfCell x (newline ∷ []) h.0 ((newline_kept, plain_kept), tt)) (of_lines xs h.1)

    -- the cells of all that is shown
    pub of_done : (limit : ℕ) (steps : List Step) → AllByRecursion OfStep steps → OfCells (cells_by (do_all limit fresh steps blank))
    of_done limit steps p =
        let d = do_all limit fresh steps blank in
        let all = of_all limit fresh steps blank (plain_kept, plain_kept, tt) p (tt, tt) in
        all-append OfCell (flat_map line_cells d.lines) (cells_of d.line) (of_lines d.lines all.0) (of_line d.line all.1)

-- ---- What is written is plain: UTF-8 of characters that are shown.

-- a character that is shown
abbrev pub IsGood : ℕ → Type 0
IsGood c = IsShown c × (scalar c ≡ true)

abbrev pub AreGood : List Step → Type 0
AreGood steps = AllByRecursion (OfStep IsGood IsInRange SgrInRange) steps

both : (xs ys : List Step) → AreGood xs → AreGood ys → AreGood (xs ++ ys)
both = all-append (OfStep IsGood IsInRange SgrInRange)

-- ---- no other is put

pick : (t : Bool) (x y : List Step) → (t ≡ true → AreGood x) → AreGood y → AreGood (cond t x y)
pick t x y h k = cond_both t x y AreGood h (λ e. k)

control_good : (c : ℕ) → AreGood (of_control c)
control_good c = search (rules, pick)

char_good : (c : ℕ) → scalar c ≡ true → AreGood (of_char c)
char_good c h = search (rules, pick, control_good) depth 12

chars_good : (cs : List ℕ) → all_scalars cs ≡ true → AreGood (of_chars cs)
chars_good [] h = tt
chars_good (c ∷ cs) h =
    let parts : (scalar c ≡ true) × (all_scalars cs ≡ true) = and_parts (scalar c) (all_scalars cs) h in
    both (of_char c) (of_chars cs) (char_good c parts.0) (chars_good cs parts.1)

run_good : (run : List ℕ) → AreGood (of_run run)
run_good run = chars_good (lossy_chars run) (scalars_lossy run)

final_good : (c : ℕ) → AreGood (of_final c)
final_good c = search (rules, pick) depth 12

escape_good : (bytes : List ℕ) → AreGood (of_escape bytes)
escape_good bytes = search (rules, pick, final_good)

escapes_good : (s : Step) → AreGood (s ∷ []) → (bytes : List ℕ) → AreGood (flat_map (by_escape s) bytes)
escapes_good s h [] = tt
escapes_good s h (b ∷ bytes) = both (by_escape s b) (flat_map (by_escape s) bytes) (pick (b == 27) (s ∷ []) [] (λ e. h) tt) (escapes_good s h bytes)

cursor_good : (c : Cursor) → AreGood (of_cursor c)
cursor_good (Cursor.CursorStyle s) = tt
cursor_good _ = search rules

edit_good : (e : Edit) → AreGood (of_edit e)
edit_good (Edit.EraseInLine EraseInLine.EraseLine) = (tt, tt)
edit_good (Edit.EraseInDisplay EraseInDisplay.EraseScrollback) = tt
edit_good _ = search rules

code_good : (c : DecPrivateModeCode) → AreGood (of_code c)
code_good DecPrivateModeCode.OriginMode = (tt, tt)
code_good _ = search rules

switched_good : (c : DecPrivateModeCode) (set : Bool) → AreGood (switched c set)
switched_good DecPrivateModeCode.SaveCursor true = (tt, tt)
switched_good DecPrivateModeCode.SaveCursor false = (tt, tt)
switched_good DecPrivateModeCode.ClearAndEnableAlternateScreen true = (tt, (tt, tt))
switched_good DecPrivateModeCode.ClearAndEnableAlternateScreen false = (tt, (tt, tt))
switched_good c set = code_good c

private_good : (steps : DecPrivateModeCode → List Step) (m : DecPrivateMode) → ((c : DecPrivateModeCode) → AreGood (steps c)) → AreGood (by_code steps m)
private_good steps (DecPrivateMode.Code c) h = h c
private_good steps (DecPrivateMode.Unspecified n) h = tt

terminal_good : (set : Bool) (m : TerminalMode) → AreGood (of_terminal set m)
terminal_good set (TerminalMode.Code TerminalModeCode.Insert) = (tt, tt)
terminal_good set _ = tt

mode_good : (m : Mode) → AreGood (of_mode m)
mode_good (Mode.SetDecPrivateMode m) = private_good (λ c. switched c true) m (λ c. switched_good c true)
mode_good (Mode.ResetDecPrivateMode m) = private_good (λ c. switched c false) m (λ c. switched_good c false)
mode_good (Mode.RestoreDecPrivateMode m) = private_good of_code m code_good
mode_good (Mode.SetMode m) = terminal_good true m
mode_good (Mode.ResetMode m) = terminal_good false m
mode_good _ = tt

device_good : (d : device.Device) → AreGood (of_device d)
device_good device.SoftReset = (tt, tt)
device_good _ = tt

action_good : (a : Action) → InRange a → AreGood (of_action a)
action_good (action.Cursor c) h = cursor_good c
action_good (action.Edit e) h = edit_good e
action_good (action.Sgr s) h = (h, tt)
action_good (action.Mode m) h = mode_good m
action_good (action.Device d) h = device_good d
action_good (action.Unspecified params flag final) h = search (rules, pick)
action_good _ h = tt

actions_good : (actions : List Action) → AllByRecursion InRange actions → AreGood (of_actions actions)
actions_good [] h = tt
actions_good (a ∷ actions) h = both (of_action a) (of_actions actions) (action_good a h.0) (actions_good actions h.1)

part_steps : (k : Kind) (run bytes left : List ℕ) (steps : List Step) → IsOfPart k run bytes steps left → AreGood steps
part_steps Kind.Text run bytes left steps h = rw h.0 tt
part_steps Kind.Csi run bytes left steps (actions, of, e, none) =
    rw e (both (of_run run) (of_sequence actions) (run_good run) (both (of_actions actions) (Step.Other ∷ []) (actions_good actions
    (taken_range bytes actions of)) (tt, tt)))
part_steps Kind.Esc run bytes left steps h = rw h.0 (both (of_run run) (of_escape bytes) (run_good run) (escape_good bytes))
part_steps Kind.Str run bytes left steps h = rw h.0 (both (of_run run) (of_string bytes) (run_good run) (escapes_good Step.Other (tt, tt) bytes))
part_steps Kind.Other run bytes left steps h = rw h.0 (both (of_run run) (of_wrong bytes) (run_good run) (escapes_good (Step.Leave None) (tt, tt) bytes))

parts_good : (run : List ℕ) (ps : List Part) (steps : List Step) (left : List ℕ) → AreOfParts run ps steps left → AreGood steps
parts_good run [] steps left h = rw h.0 tt
parts_good run (p ∷ ps) steps left (first, next, others, is, e, rest) = rw e (both first others (part_steps p.kind run p.bytes next first is) (parts_good next ps others left rest))

pub steps_good : (bytes : List ℕ) (steps : List Step) → Steps bytes steps → AreGood steps
steps_good bytes steps s = rw s.all (both s.before (of_run s.run) (parts_good [] (as_read first_reading s.parts) s.before s.run s.read) (run_good s.run))

-- ---- nor another look

pub plain_kept : IsInRange plain
plain_kept = (tt, tt, tt)

pub kept : (l : Look) (s : Sgr) → IsInRange l → SgrInRange s → IsInRange (behind l s)
kept l Sgr.Reset h k = plain_kept
kept l (Sgr.UnderlineColor x) h k = (k, h.1, h.2)
kept l (Sgr.Foreground x) h k = (h.0, k, h.2)
kept l (Sgr.Background x) h k = (h.0, h.1, k)
kept l other h k = h

-- ---- and so what is written

pub scalars : (cs : List ℕ) → AllByRecursion IsGood cs → all_scalars cs ≡ true
scalars [] h = refl
scalars (c ∷ cs) h = and_from (scalar c) (all_scalars cs) h.0.1 (scalars cs h.1)

pub shown_good : (bytes : List ℕ) (steps : List Step) → Steps bytes steps → AllByRecursion IsGood (chars_by (do_all most fresh steps blank))
shown_good bytes steps s =
    of_cells IsGood IsInRange SgrInRange (refl, refl) (cells_by (do_all most fresh steps blank))
    (of_done IsGood IsInRange SgrInRange (refl, refl) (refl, refl) plain_kept kept most steps (steps_good bytes steps s))

pub overwritten_plain : (bytes text : List ℕ) → Overwrites bytes text → IsPlain text
overwritten_plain bytes text o =
    let d = do_all most fresh o.steps blank in
    let good = shown_good bytes o.steps o.read in
    (chars_by d, scalars (chars_by d) good, all_weaker IsGood IsShown (λ c h. h.0) (chars_by d) good, o.all ∙ shown_plain d)
