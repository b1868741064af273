-- What `--visible` makes of a text: characters that aren't seen, or that change the order of text, are spelled by their numbers.
use Rattle.std.specs.{Prelude.ℕ, Prelude.◌≡◌, Prelude.Bool, Prelude.true, Prelude.false, Prelude.◌||◌, Prelude.nat_lt, Prelude.if◌then◌else◌, Prelude.List}
use Rattle.std.specs.{Prelude.◌++◌, Prelude.codes, Char.encode_utf8, Fmt.digits, List.flat_map}
use Rattle.bstr.specs.Utf8.{lossy_chars}
use Rattle.csicodec_transform.specs.Transform.{EndsOf, PassesOf}
use Rattle.csicodec_clean.specs.Shown.{IsRead}
use Rattle.csicodec_inspect.specs.Visible.{seen}
use Rattle.csicodec_tool.specs.declared.spelled.Speller.{Speller}

-- A character stays as it is where a reader sees it in its place, and where it is of ASCII, as tags, references and sequences are.
abbrev pub stays : ℕ → Bool
stays c = nat_lt c 128 || seen c

-- what is written of a character: itself, or `\u{`, its number in capital digits of base 16, and `}`
abbrev pub spelled : ℕ → List ℕ
spelled c = if stays c then encode_utf8 c else codes "\\u{" ++ (digits 16 true c ++ codes "}")

abbrev pub spelled_chars : List ℕ → List ℕ
spelled_chars chars = flat_map spelled chars

-- and of a text, with U+FFFD for each piece that is no UTF-8
abbrev pub spelled_text : List ℕ → List ℕ
spelled_text text = spelled_chars (lossy_chars text)

-- what bytes become, with its characters spelled or not
abbrev pub SpelledAs : Bool → (List ℕ → List ℕ → Type 0) → List ℕ → List ℕ → Type 0
SpelledAs false Out bytes text = Out bytes text
SpelledAs true Out bytes text = (plain : List ℕ) × Out bytes plain × (text ≡ spelled_text plain)

-- Characters were read in front of a text, whatever follows it, and this was written of them. The rest is the beginning of a character.
abbrev pub Spells : List ℕ → List ℕ → List ℕ → Type 0
Spells plain text rest = (chars : List ℕ) × IsRead plain chars rest × (text ≡ spelled_chars chars)

-- the same of what is sure of a text so far
abbrev pub SpelledSure : Bool → (List ℕ → List ℕ → Type 0) → List ℕ → List ℕ → Type 0
SpelledSure false Sure bytes text = Sure bytes text
SpelledSure true Sure bytes text = (plain : List ℕ) × (rest : List ℕ) × Sure bytes plain × Spells plain text rest

-- a stream whose text is spelled, chunk by chunk
abbrev pub PassesSpelled : {T : Type 0} → PassesOf T → PassesOf (Speller T)
PassesSpelled Passes first bytes text last = (plain : List ℕ) × Passes first.inner bytes plain last.inner
    × Spells (first.text.items ++ plain) text last.text.items

abbrev pub EndsSpelled : {T : Type 0} → EndsOf T → EndsOf (Speller T)
EndsSpelled Ends last text = (plain : List ℕ) × Ends last.inner plain × (text ≡ spelled_text (last.text.items ++ plain))
