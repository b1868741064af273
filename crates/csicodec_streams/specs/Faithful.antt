-- What is written for a terminal: normal forms, but for the sequences that terminals read otherwise than the codec.
use Rattle.std.specs.Prelude.{ℕ, ◌≡◌, ◌<◌, ◌≤◌, ◌==◌, ◌-◌, ◌&&◌, ◌||◌, Bool, true, false, List, codes, length, slice_get, pos, negsuc}
use Rattle.std.specs.List.{list_any}
use Rattle.csicodec_tokens.specs.{Sequence.Seq, declared.param.CsiParam.CsiParam, declared.param.CsiParam.TheVariants.Integer}
use Rattle.csicodec_tokens.specs.{declared.param.CsiParam.TheVariants.P}
use Rattle.csicodec_actions.specs.Actions.{Action}
use Rattle.csicodec_parser.specs.{Groups.is_byte, Segments.Actions}
use Rattle.csicodec_terminal.specs.Terminal.{has_unknown}
use Rattle.csicodec_streams.specs.Decoding.{NormalisesTo}

-- Finals of sequences that terminals or programs read otherwise than the table of the codec (docs/DIFFERENCES.md), or tell apart where it doesn't:
-- CPR, without numbers the key F3 (`R`); DECSTBM with a bottom of 4294967295 (`r`); DECSLRM with a right margin of 0 (`s`); XTWINOPS, behind whose rows
-- numbers are ignored, as in the answer `CSI 5 ; height ; width t` (`t`); kitty's push of two numbers (`u`); DECREQTPARM, which is written as the report
-- (`x`); DECRQCRA, whose area ends at the last line and column (`y`).
abbrev pub staying_finals : List ℕ
staying_finals = codes "Rrstuxy"

-- A sequence stays as it came before these finals; behind `<`, as a report of the mouse, whose bit 128 is buttons 8 to 11 (xterm's ctlseqs, Mouse Tracking);
-- and where it ends in `;`, behind which a terminal reads a default (ECMA-48, 5.4.2).
abbrev pub stays : List CsiParam → ℕ → Bool
stays list final = is_byte 60 (slice_get list 0) ||
    (is_byte 59 (slice_get list (length list - 1)) || list_any (λ f. final == f) staying_finals)

-- Tokens of a style that has several spellings, of which a terminal may know the one that came alone: colours, which the normal form writes with colons
-- where semicolons came, and what has colons, as `4:2`, which it writes as 21, on some terminals bold off.
abbrev pub is_spelled : CsiParam → Bool
is_spelled (Integer (pos n)) = n == 38 || (n == 48 || n == 58)
is_spelled (Integer (negsuc n)) = false
is_spelled (P b) = b == 58

-- one of these stands in the list, before `m`
abbrev pub has_spelling : List CsiParam → ℕ → Bool
has_spelling list final = final == 109 && list_any is_spelled list

-- The sequence of this list, of which the table has these actions, is written as it came. So is one of which the table doesn't read all, as `?1049` and a space
-- before `h`: what it reads of it does something, and terminals may ignore the whole list, or read more of it (`Terminal` of csicodec_terminal). Where it reads
-- all, they take the list for the same actions (the law `agreement` there).
abbrev pub is_kept : List CsiParam → ℕ → List Action → Bool
is_kept list final actions = stays list final || (has_spelling list final || has_unknown actions)

-- how many bytes a control sequence has at most, for the program
abbrev pub longest : ℕ
longest = 65536

-- the text is the normal form, unless that has more bytes, of which a sequence could be too long to be cut as one again
abbrev pub IsShortForm : List ℕ → List ℕ → Type 0
IsShortForm bytes text = (form : List ℕ) × NormalisesTo bytes form
    × (length form ≤ longest → text ≡ form)
    × (longest < length form → text ≡ bytes)

-- the text is the bytes of such a sequence, and the normal form of any other, if that isn't too long
abbrev pub IsFaithful : List ℕ → List ℕ → Type 0
IsFaithful bytes text = (list : List CsiParam) × (final : ℕ) × (actions : List Action)
    × Seq bytes list final × Actions list false final actions
    × (is_kept list final actions ≡ true → text ≡ bytes)
    × (is_kept list final actions ≡ false → IsShortForm bytes text)
