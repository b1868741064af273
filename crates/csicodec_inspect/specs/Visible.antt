-- Which characters a reader sees, each in its place.
use Rattle.std.specs.Prelude.{ℕ, Bool, true, false, not, ◌&&◌, ◌||◌, nat_le}
use Rattle.csicodec_clean.specs.Shown.{shown}

-- from the first to the last
abbrev pub within : ℕ → ℕ → ℕ → Bool
within first last c = nat_le first c && nat_le c last

-- It changes the order of text: Bidi_Control of Unicode's PropList (UAX #9, 2).
abbrev pub turns : ℕ → Bool
turns c = within 0x61C 0x61C c || within 0x200E 0x200F c || within 0x202A 0x202E c || within 0x2066 0x2069 c

-- It is a tag: Unicode's block Tags.
abbrev pub is_tag : ℕ → Bool
is_tag c = within 0xE0000 0xE007F c

-- It has no picture of its own: what else has Default_Ignorable_Code_Point in Unicode's DerivedCoreProperties, such as fillers, joiners and
-- variation selectors, and beside that the separators of lines and paragraphs (2028, 2029) and the marks of annotations (FFF9 to FFFB).
abbrev pub hides_low : ℕ → Bool
hides_low c = within 0xAD 0xAD c || within 0x34F 0x34F c || within 0x115F 0x1160 c || within 0x17B4 0x17B5 c
    || within 0x180B 0x180F c || within 0x200B 0x200D c || within 0x2028 0x2029 c || within 0x2060 0x206F c

abbrev pub hides_high : ℕ → Bool
hides_high c = within 0x3164 0x3164 c || within 0xFE00 0xFE0F c || within 0xFEFF 0xFEFF c || within 0xFFA0 0xFFA0 c
    || within 0xFFF0 0xFFFB c || within 0x1BCA0 0x1BCA3 c || within 0x1D173 0x1D17A c || within 0xE0080 0xE0FFF c

-- a reader sees it, in its place: it is shown, and none of these
abbrev pub seen : ℕ → Bool
seen c = shown c && not (turns c || is_tag c || hides_low c || hides_high c)

-- the characters that `strip --check` lets pass: those that are seen, or those of plain text
abbrev pub class_of : Bool → ℕ → Bool
class_of true = seen
class_of false = shown
