-- What `strip --check` says to stand at a place, by the bytes from there on. In each table the first line that fits decides.
use Prim.Native.Char.{code}
use Rattle.std.specs.Prelude.{ℕ, ◌≡◌, ◌==◌, Bool, not, List, [], ◌∷◌, Option, None, Some, if◌then◌else◌}
use Rattle.bstr.specs.Utf8.{decoded}
use Rattle.csicodec_spans.specs.Table.{openers, within}
use Rattle.csicodec_clean.specs.{Check.IsFault, Shown.shown}
use Rattle.csicodec_command.specs.declared.failure.Found.{Found}
use Rattle.csicodec_inspect.specs.Visible.{is_tag, turns}

-- by what follows ESC: `[` introduces a control sequence (ECMA-48, 5.4), and `P`, `X`, `]`, `^` and `_` open a control string (5.6)
abbrev pub behind_esc : List ℕ → Found
behind_esc [] = Found.Escape
behind_esc (b ∷ rest) =
    if b == code "[" then Found.Sequence
    else if within openers b then Found.String
    else Found.Escape

-- by the character in front: a control of C0 or C1 (ECMA-48, 5.2 and 5.3) or DEL, one that changes the order of text (UAX #9, 2), one of
-- Unicode's block Tags, or another; or by none, where the bytes are no UTF-8
abbrev pub by_char : Option ℕ → Found
by_char None = Found.NotUtf8
by_char (Some c) =
    if not (shown c) then Found.Control c
    else if turns c then Found.Turning c
    else if is_tag c then Found.Tag c
    else Found.Unseen c

abbrev pub found_at : List ℕ → Found
found_at [] = Found.NotUtf8
found_at (b ∷ rest) = if b == 27 then behind_esc rest else by_char (decoded (b ∷ rest)).char

-- The first character that isn't of the class stands there, and it is told as this.
abbrev pub IsFound : (ℕ → Bool) → List ℕ → List ℕ → ℕ → ℕ → Found → Type 0
IsFound class bytes rest at line what = IsFault class bytes rest at line × (what ≡ found_at rest)
