-- What is left of a recording while its lines are read.
use Rattle.csicodec_command.proofs.Common.{◌≡◌, ◌≢◌, ◌==◌, ◌-◌, ◌++◌, suc, ◌∷◌, ◌∙◌, ℕ, Bool, true, false, cond, List, [], Option, None, Some, length, take, not, refl, sym, ap, subst, append_assoc, append-nil, arith, IsUtf8-from_is_utf8, is_utf8-from_IsUtf8, eqb-true, ne_eqb, eqb-suc-zero, take-append-drop, All-head, All-tail, Keeps-refl, Keeps-trans, IfSome, IsUtf8, option_map, Consumes, Keeps, Event, data_from, is_over, line_says, lines_from, lines_left, says, written}
use Rattle.std.specs.{Str.is_utf8, Str.trim, List.All, Io.StartsWith, Io.StopsAt, Io.appended_bytes, Io.BufRead.drop_through, Io.BufRead.take_through}
use Rattle.csicodec_listing.specs.Lines.{last_line}

-- a byte behind a line ends it if it is LF
pub over_behind : (line : List ℕ) (b : ℕ) → is_over (line ++ b ∷ []) ≡ (b == 10)
over_behind [] b = refl
over_behind (c ∷ []) b = refl
over_behind (c ∷ d ∷ line) b = over_behind (d ∷ line) b

one_on : (line bytes : List ℕ) (b : ℕ) (t : Bool) → (b == 10) ≡ t
    → cond t ((line ++ 10 ∷ []) ∷ lines_from [] bytes) (lines_from (line ++ b ∷ []) bytes)
    ≡ cond t ((line ++ b ∷ []) ∷ lines_from [] bytes) (lines_from (line ++ b ∷ []) bytes)
one_on line bytes b true e = ap (λ (n : ℕ). (line ++ n ∷ []) ∷ lines_from [] bytes) (sym (eqb-true b 10 e))
one_on line bytes b false e = refl

one_less : (b c : ℕ) (read : List ℕ) → length (b ∷ c ∷ read) - 1 ≡ suc (length (c ∷ read) - 1)
one_less b c read = omega arith

-- what was read of a line, up to its end at most, goes on with it
pub cut_on : (line read bytes : List ℕ) → is_over line ≡ false → StopsAt read 10
    → lines_from line (read ++ bytes) ≡ lines_left (line ++ read) bytes
cut_on line [] bytes unended stops = rw (append-nil line, unended) refl
cut_on line (b ∷ []) bytes unended stops = rw (over_behind line b) (one_on line bytes b (b == 10) refl)
cut_on line (b ∷ c ∷ read) bytes unended stops =
    let left = length (c ∷ read) - 1 in
    let all : All (λ x. x ≢ 10) (b ∷ take left (c ∷ read)) =
    subst (λ (n : ℕ). All (λ x. x ≢ 10) (take n (b ∷ c ∷ read))) (one_less b c read) stops in
    let other : (b == 10) ≡ false = ne_eqb b 10 (All-head (λ x. x ≢ 10) b (take left (c ∷ read)) all) in
    let more : StopsAt (c ∷ read) 10 = All-tail (λ x. x ≢ 10) b (take left (c ∷ read)) all in
    rw other
    (cut_on (line ++ b ∷ []) (c ∷ read) bytes (over_behind line b ∙ other) more
    ∙ ap (λ (l : List ℕ). lines_left l bytes) (append_assoc line (b ∷ []) (c ∷ read)))

-- the line in front, if there is one
abbrev pub heads : List ℕ → List ℕ → List (List ℕ)
heads [] bytes = []
heads (c ∷ line) bytes = (c ∷ line) ∷ lines_from [] bytes

heads_behind : (line rest bytes : List ℕ) (b : ℕ) → heads (line ++ b ∷ rest) bytes ≡ (line ++ b ∷ rest) ∷ lines_from [] bytes
heads_behind [] rest bytes b = refl
heads_behind (c ∷ line) rest bytes b = refl

heads_last : (line : List ℕ) → last_line line ≡ heads line []
heads_last [] = refl
heads_last (c ∷ line) = refl

-- a line that was read as far as it goes
pub whole_line : (line bytes : List ℕ) → is_over line ≡ false
    → lines_left (line ++ take_through 10 bytes) (drop_through 10 bytes) ≡ heads (line ++ take_through 10 bytes) (drop_through 10 bytes)
whole_line line [] unended = rw (append-nil line, unended) (heads_last line)
whole_line line (b ∷ bytes) unended = by (b == 10) refl (λ e. whole_line (line ++ b ∷ []) bytes (over_behind line b ∙ e))
  where
    by : (t : Bool) → (b == 10) ≡ t
        → ((b == 10) ≡ false → lines_left ((line ++ b ∷ []) ++ take_through 10 bytes) (drop_through 10 bytes)
        ≡ heads ((line ++ b ∷ []) ++ take_through 10 bytes) (drop_through 10 bytes))
        → lines_left (line ++ cond t (b ∷ []) (b ∷ take_through 10 bytes)) (cond t bytes (drop_through 10 bytes))
        ≡ heads (line ++ cond t (b ∷ []) (b ∷ take_through 10 bytes)) (cond t bytes (drop_through 10 bytes))
    by true e more = rw (over_behind line b, e) (sym (heads_behind line [] bytes b))
    by false e more =
        subst (λ (l : List ℕ). lines_left l (drop_through 10 bytes) ≡ heads l (drop_through 10 bytes))
        (append_assoc line (b ∷ []) (take_through 10 bytes)) (more e)

-- what is no UTF-8 is refused
pub no_text : (line : List ℕ) (said : Option (Option Event)) (t : Bool) → is_utf8 line ≡ t → (IsUtf8 line → ⊥) → cond t said None ≡ None
no_text line said true e other = absurd (other (IsUtf8-from_is_utf8 line e))
no_text line said false e other = refl

-- the data of a line that is
pub text_says : (version : ℕ) (line text : List ℕ) (said : Option Event) → IsUtf8 line → text ≡ line → says version (trim text) ≡ Some said
    → option_map written (line_says version line) ≡ Some (written said)
text_says version line text said utf8 same is =
    let whole : says version (trim line) ≡ Some said = subst (λ (l : List ℕ). says version (trim l) ≡ Some said) same is in
    rw (is_utf8-from_IsUtf8 line utf8, whole) refl

-- ---- what is left

-- what is left, by the lines that are
abbrev Left : List ℕ → ℕ → List ℕ → Option (List ℕ) → Option (List ℕ)
Left event version line known = option_map (λ bytes. event ++ data_from version (lines_left line bytes)) known

-- some of a line was read
pub line_read : (event line new : List ℕ) (version : ℕ) (old next : Option (List ℕ)) → is_over line ≡ false → StartsWith new line
    → StopsAt (appended_bytes line new) 10 → Consumes old next (appended_bytes line new)
    → Keeps (Left event version line old) (Left event version new next)
line_read event line new version None next unended front stops consumed = tt
line_read event line new version (Some all) None unended front stops consumed = absurd consumed
line_read event line new version (Some all) (Some rest) unended front stops consumed =
    let read = appended_bytes line new in
    let whole : line ++ read ≡ new = ap (λ (t : List ℕ). t ++ read) (sym front) ∙ take-append-drop (length line) new in
    let same : lines_left line all ≡ lines_left new rest =
    rw unended (ap (lines_from line) consumed ∙ cut_on line read rest unended stops ∙ ap (λ (l : List ℕ). lines_left l rest) whole) in
    ap (λ (lines : List (List ℕ)). event ++ data_from version lines) (sym same)

heads_of : (line bytes : List ℕ) → heads line bytes ≡ cond (not (length line == 0)) (line ∷ lines_from [] bytes) []
heads_of [] bytes = refl
heads_of (c ∷ line) bytes = rw (eqb-suc-zero (length line)) refl

-- it was read to its end
pub line_next : (line new : List ℕ) (old next : Option (List ℕ)) → is_over line ≡ false
    → IfSome old (λ all. new ≡ line ++ take_through 10 all) → IfSome old (λ all. next ≡ Some (drop_through 10 all))
    → IfSome old (λ _. IfSome next (λ bytes. lines_left new bytes ≡ cond (not (length new == 0)) (new ∷ lines_from [] bytes) []))
line_next line new None next unended read rest = tt
line_next line new (Some all) next unended read rest =
    rw (rest, read) (whole_line line all unended ∙ heads_of (line ++ take_through 10 all) (drop_through 10 all))

pub ruleset kept = (Keeps-refl, Keeps-trans)
