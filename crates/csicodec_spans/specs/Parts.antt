-- The parts of a stream, as the table of modes says: what stands in front of bytes, whatever follows them.
use Rattle.std.specs.{Prelude.ℕ, Prelude.◌≡◌, Prelude.◌≢◌, Prelude.◌<◌, Prelude.◌≤◌, Prelude.◌⊎◌, Prelude.List, Prelude.[], Prelude.◌∷◌, Prelude.◌++◌}
use Rattle.std.specs.{Prelude.length, Prelude.take, Prelude.drop, List.AllByRecursion, List.flat_map}
use Rattle.csicodec_tokens.specs.{declared.param.CsiParam.CsiParam, declared.reader.ReadError.ReadError, Sequence.Seq, Fault.Begins, Fault.FaultOf}
use Rattle.csicodec_tokens.specs.{Fault.IsMetAt}
use Rattle.csicodec_spans.specs.{declared.table.Kind.Kind, declared.table.Mode.Mode, Table.Answer, Table.More, Table.Anew, Table.Sequence, Table.Undecided}
use Rattle.csicodec_spans.specs.{Table.ahead}

-- some bytes and what they are: a whole control sequence or escape sequence, or a few bytes of text, of a string or of
-- what went wrong
pub record Part : Type 0 where
  pub kind : Kind
  pub bytes : List ℕ

abbrev pub part : Kind → List ℕ → Part
part k bs = record { kind = k; bytes = bs }

-- the bytes are one control sequence
abbrev pub IsSequence : List ℕ → Type 0
IsSequence text = (list : List CsiParam) × (final : ℕ) × Seq text list final

-- the first n bytes are the beginning of a sequence that goes wrong: they go up to the fault, or they are the first `limit`
-- bytes, and have no end
abbrev pub IsMalformed : ℕ → List ℕ → ℕ → Type 0
IsMalformed limit bytes n =
    ((e : ReadError) × FaultOf bytes e × IsMetAt e n × (n < limit))
    ⊎ (Begins (take limit bytes) × (limit ≤ length bytes) × (n ≡ limit))

-- where ESC and `[` stand in front: a whole sequence of at most `limit` bytes, or the beginning of one that goes wrong
abbrev pub AllowsCsi : ℕ → List ℕ → Kind → List ℕ → Mode → Type 0
AllowsCsi limit bytes Kind.Csi text after = IsSequence text × (length text ≤ limit)
    × (after ≡ Mode.Text)
AllowsCsi limit bytes Kind.Other text after = IsMalformed limit bytes (length text)
    × (after ≡ Mode.BadCsi)
AllowsCsi limit bytes _ text after = ⊥

-- by the table's answer: a text of this kind in front of the bytes, and the mode behind it
abbrev pub Allows : Answer → ℕ → List ℕ → Kind → List ℕ → Mode → Type 0
Allows (More k n a) limit bytes kind text after = (kind ≡ k) × (length text ≡ n) × (after ≡ a)
Allows (Anew k n a) limit bytes kind text after = (kind ≡ k) × (length text ≡ n) × (after ≡ a)
Allows Sequence limit bytes kind text after = AllowsCsi limit bytes kind text after
Allows Undecided limit bytes kind text after = ⊥

-- the part in front of the bytes in a mode, what is behind it, and the mode there
abbrev pub IsFirstPart : ℕ → Mode → List ℕ → Part → List ℕ → Mode → Type 0
IsFirstPart limit m bytes p rest after = (bytes ≡ p.bytes ++ rest)
    × Allows (ahead m bytes) limit bytes p.kind p.bytes after

-- one part after the other
abbrev pub AreFirstParts : ℕ → Mode → List ℕ → List Part → List ℕ → Mode → Type 0
AreFirstParts limit m bytes [] rest after = (rest ≡ bytes) × (after ≡ m)
AreFirstParts limit m bytes (p ∷ ps) rest after =
    (behind : List ℕ) × (mid : Mode) × IsFirstPart limit m bytes p behind mid
    × AreFirstParts limit mid behind ps rest after

-- nothing is sure of the bytes yet: more could make them a sequence of at most `limit` bytes, or something else
abbrev pub IsUnsureBy : Answer → ℕ → List ℕ → Type 0
IsUnsureBy Sequence limit bytes = Begins bytes × (length bytes < limit)
IsUnsureBy Undecided limit bytes = Unit {0}
IsUnsureBy _ limit bytes = ⊥

abbrev pub IsUnsure : ℕ → Mode → List ℕ → Type 0
IsUnsure limit m bytes = IsUnsureBy (ahead m bytes) limit bytes

-- more of what is open stands in front
abbrev pub IsMore : Answer → Type 0
IsMore (More k n a) = Unit {0}
IsMore _ = ⊥

abbrev pub bytes_of : Part → List ℕ
bytes_of p = p.bytes

-- all of them are of this kind, and their bytes joined are the text
pub record AreAll (kind : Kind) (text : List ℕ) (parts : List Part) : Type 0 where
  pub some : 0 < length parts
  pub all : AllByRecursion (λ (p : Part). p.kind ≡ kind) parts
  pub joined : flat_map bytes_of parts ≡ text

-- what a span is made of: one whole sequence, or parts of text, of a string or of what went wrong
abbrev pub IsSpan : Kind → List ℕ → List Part → Type 0
IsSpan Kind.Csi text parts = parts ≡ part Kind.Csi text ∷ []
IsSpan Kind.Esc text parts = parts ≡ part Kind.Esc text ∷ []
IsSpan Kind.Text text parts = AreAll Kind.Text text parts
IsSpan Kind.Str text parts = AreAll Kind.Str text parts
IsSpan Kind.Other text parts = AreAll Kind.Other text parts

-- behind the parts before them, these are parts of one text, of one control string, or of one control that went wrong:
-- wherever they are divided, more of what is open stands there
abbrev pub AreOne : ℕ → Mode → List ℕ → List Part → List Part → Type 0
AreOne limit m bytes before parts =
    (some : List Part) (more : List Part) (rest : List ℕ) (after : Mode) → parts ≡ some ++ more
    → 0 < length some → 0 < length more
    → AreFirstParts limit m bytes (before ++ some) rest after → IsMore (ahead after rest)

-- a span of this kind and text in front of the bytes, what is behind it, and the mode there
pub record Cuts (limit : ℕ) (m : Mode) (bytes : List ℕ) (kind : Kind) (text : List ℕ)
    (rest : List ℕ) (next : Mode) : Type 0 where
  pub parts : List Part
  pub span : IsSpan kind text parts
  pub one : AreOne limit m bytes [] parts
  pub first : AreFirstParts limit m bytes parts rest next

-- where nothing is open: text, or a whole escape sequence
abbrev pub IsPlain : Answer → Type 0
IsPlain (More k n a) = Unit {0}
IsPlain (Anew k n a) = k ≡ Kind.Esc
IsPlain _ = ⊥

-- where nothing is open, the first n bytes are a span that is no control sequence, and nothing is open behind it
abbrev pub IsPlainFront : List ℕ → ℕ → Type 0
IsPlainFront bytes n = (k : Kind) × (k ≢ Kind.Csi)
    × ((limit : ℕ) → Cuts limit Mode.Text bytes k (take n bytes) (drop n bytes) Mode.Text)

-- behind these bytes, the text is a part of this kind
pub record IsPartAt (parts : List Part) (before : List ℕ) (kind : Kind)
    (text : List ℕ) : Type 0 where
  pub earlier : List Part
  pub later : List Part
  pub whole : parts ≡ earlier ++ part kind text ∷ later
  pub joined : flat_map bytes_of earlier ≡ before

-- the bytes end within an ESC ESC of a device control string
pub record EndsInQuote (parts : List Part) (before : List ℕ) : Type 0 where
  pub outside : List ℕ
  pub ends : before ≡ outside ++ 27 ∷ []
  pub quote : IsPartAt parts outside Kind.Str (27 ∷ 27 ∷ [])

-- a span of this kind is as long as it can be: neither text nor what is open behind it goes on there
abbrev pub IsMaximal : Kind → Mode → List ℕ → Type 0
IsMaximal k after rest = (k ≡ Kind.Text) ⊎ (after ≢ Mode.Text) → ¬ IsMore (ahead after rest)

-- what is left where nothing follows
abbrev pub left_over : List ℕ → List Part
left_over [] = []
left_over (b ∷ bytes) = part Kind.Other (b ∷ bytes) ∷ []

-- the bytes are parts, and then bytes of which nothing is sure, which have gone wrong by the end
pub record IsWhole (limit : ℕ) (m : Mode) (bytes : List ℕ) (parts : List Part) : Type 0 where
  pub sure : List Part
  pub rest : List ℕ
  pub after : Mode
  pub first : AreFirstParts limit m bytes sure rest after
  pub unsure : IsUnsure limit after rest
  pub whole : parts ≡ sure ++ left_over rest

-- a stream that comes chunk by chunk: each is cut with what the ones before it left, and what is left is passed on
abbrev pub InChunks : ℕ → Mode → List ℕ → List (List ℕ) → List Part → List ℕ → Mode → Type 0
InChunks limit m left [] parts rest after = (parts ≡ []) × (rest ≡ left) × (after ≡ m)
InChunks limit m left (chunk ∷ chunks) parts rest after =
    (now : List Part) × (later : List Part) × (held : List ℕ) × (mid : Mode)
    × (parts ≡ now ++ later)
    × AreFirstParts limit m (left ++ chunk) now held mid
    × InChunks limit mid held chunks later rest after
