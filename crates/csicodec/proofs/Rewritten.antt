-- What the faithful filter writes is read back.
use Rattle.std.proofs.Common.{ℕ, List, [], ◌∷◌, Bool, ap, inl, inr, ◌≡◌, ◌++◌, ◌+◌, ◌<◌, ◌≤◌, false, sym, subst, ◌∙◌, arith, length, length-append, ◌||◌, ◌-◌, slice_get}
use Rattle.csicodec_parser.specs.Groups.{is_byte}
use Rattle.csicodec_parser.proofs.Fronts.{or-parts}
use Rattle.csicodec_terminal.specs.Terminal.{has_unknown}
use Rattle.csicodec_streams.proofs.Common.{cases_Bool, cases_lt, CsiParam, Action, text, texts, Alone, one_decoding}
use Rattle.csicodec_streams.proofs.{OneReading.decodes-each, OneReading.decodes-one, Kept.KeptAt, Kept.is_staying, Parsed.canonical-alone, Parsed.all-weaker}
use Rattle.csicodec_streams.proofs.{Parsed.parsed-kept-at}
use Rattle.csicodec_streams.specs.{Decoding.Decodes, Faithful.IsFaithful, Faithful.IsShortForm, Faithful.is_kept, Faithful.has_spelling, Faithful.longest}
use Rattle.csicodec_streams.specs.{Faithful.stays}
use Rattle.csicodec_spans.specs.{Parts.AreFirstParts, Parts.IsFirstPart, Parts.IsWhole, Parts.Part, Parts.left_over, Parts.part, Table.ahead}
use Rattle.csicodec_spans.specs.{declared.table.Kind.Kind as PartKind, declared.table.Mode.Mode}
use Rattle.csicodec_spans.proofs.{Agrees.sound, Missed.allows_whole}
use Rattle.csicodec_filter.specs.{Filter.AreWritten, Filter.Filters, Filter.IsWritten, Meaning.KeepsMeaning, Meaning.StandInPlace, Meaning.Within}
use Rattle.csicodec_filter.specs.{Meaning.singles}
use Rattle.csicodec_filter.proofs.Meaning.{filter_stream_lem}

-- ---- what the faithful filter writes for a sequence is read as its actions: before a final of which none stays, no action is special

staying-none : (flag : Bool) (final : ℕ) → is_staying final ≡ false → (a : Action) → KeptAt flag final a → Alone flag a
staying-none flag final other a kept = elim kept.canonical [
  | inl special ↦ cc (special.1, other)
  | inr ok ↦ canonical-alone a flag kept.range ok
]

pub last-false : (list : List CsiParam) (final : ℕ) → stays list final ≡ false → is_staying final ≡ false
last-false list final none =
    let end = is_byte 59 (slice_get list (length list - 1)) in
    let behind = or-parts (is_byte 60 (slice_get list 0)) (end || is_staying final) none in
    (or-parts end (is_staying final) behind.1).1

short-means : (bytes text : List ℕ) (all : List Action) → Decodes bytes false all → Decodes (texts all) false all → IsShortForm bytes text → Decodes text false all
short-means bytes text all came back (form, (parsed, decodes, made), short, long) = elim (cases_lt longest (length form)) [
  | inl more ↦ subst (λ (t : List ℕ). Decodes t false all) (sym (long more)) came
  | inr fits ↦
      let written : text ≡ texts all = short fits ∙ made ∙ ap texts (one_decoding bytes false parsed all decodes came) in
      subst (λ (t : List ℕ). Decodes t false all) (sym written) back
]

pub faithful_means : KeepsMeaning IsFaithful
faithful_means bytes text (list, final, all, seq, are, kept, other) =
    let came = decodes-one bytes list false final all seq are in
    elim (cases_Bool (is_kept list final all)) [
      | inl here ↦ (all, came, subst (λ (t : List ℕ). Decodes t false all) (sym (kept here)) came)
      | inr none ↦
          let finals : is_staying final ≡ false = last-false list final (or-parts (stays list final) (has_spelling list final || has_unknown all) none).0 in
          let alone = all-weaker (KeptAt false final) (Alone false) (staying-none false final finals) all (parsed-kept-at list false final all seq.spellable seq.ends are) in
          (all, came, short-means bytes text all came (decodes-each false all alone) (other none))
    ]

-- ---- of a stream

abbrev Again : ℕ → Mode → List Part → List ℕ → Type 0
Again limit m parts text = (others : List Part) × IsWhole limit m text others × StandInPlace (singles parts) parts others

pub faithful_again : (limit : ℕ) (m : Mode) (bytes text : List ℕ) (parts : List Part) → 0 < limit →
    IsWhole limit m bytes parts → AreWritten (Within limit IsFaithful) parts text → Again limit m parts text
faithful_again limit m bytes text parts l w r = filter_stream_lem limit m bytes text parts IsFaithful l faithful_means w r

short : (limit : ℕ) (k : PartKind) (bytes text : List ℕ) → IsWritten IsFaithful k bytes text → length text ≤ limit → IsWritten (Within limit IsFaithful) k bytes text
short limit PartKind.Csi bytes text w le = (w, le)
short limit _ bytes text w le = w

all_short : (limit : ℕ) (parts : List Part) (text : List ℕ) → AreWritten IsFaithful parts text → length text ≤ limit → AreWritten (Within limit IsFaithful) parts text
all_short limit [] text w le = w
all_short limit (p ∷ parts) text (first, others, is, own, later) le =
    let long : length text ≡ length first + length others = ap length is ∙ length-append first others in
    (first, others, is, short limit p.kind p.bytes first own (omega (arith, le, long)), all_short limit parts others later (omega (arith, le, long)))

pub faithful_alone : (limit : ℕ) (m : Mode) (bytes text : List ℕ) (f : Filters IsFaithful limit m bytes text) → 0 < limit → length text ≤ limit → Again limit m f.parts text
faithful_alone limit m bytes text f l le = faithful_again limit m bytes text f.parts l f.whole (all_short limit f.parts text f.written le)

-- what is written for a sequence of at most `limit` bytes has no more
form-short : (limit : ℕ) (bytes text : List ℕ) → longest ≤ limit → length bytes ≤ limit → IsShortForm bytes text → length text ≤ limit
form-short limit bytes text most fits (form, n, short, long) = elim (cases_lt longest (length form)) [
  | inl more ↦ omega (arith, fits, ap length (long more))
  | inr le ↦ omega (arith, most, le, ap length (short le))
]

written-short : (limit : ℕ) (bytes text : List ℕ) → longest ≤ limit → length bytes ≤ limit → IsFaithful bytes text → length text ≤ limit
written-short limit bytes text most fits (list, final, all, seq, are, kept, other) = elim (cases_Bool (is_kept list final all)) [
  | inl here ↦ omega (arith, fits, ap length (kept here))
  | inr none ↦ form-short limit bytes text most fits (other none)
]

part-short : (limit : ℕ) (k : PartKind) (m a : Mode) (bytes own rest text : List ℕ) →
    longest ≤ limit → IsFirstPart limit m bytes (part k own) rest a →
    IsWritten IsFaithful k own text → IsWritten (Within limit IsFaithful) k own text
part-short limit PartKind.Csi m a bytes own rest text most f w = (w, written-short limit own text most (allows_whole (ahead m bytes) limit m bytes own a (sound m bytes) f.1).1 w)
part-short limit _ m a bytes own rest text most f w = w

parts-short : (limit : ℕ) (sure : List Part) (m a : Mode) (bytes rest text : List ℕ) → longest ≤ limit → AreFirstParts limit m bytes sure rest a
    → AreWritten IsFaithful (sure ++ left_over rest) text → AreWritten (Within limit IsFaithful) (sure ++ left_over rest) text
parts-short limit [] m a bytes [] text most f w = w
parts-short limit [] m a bytes (b ∷ rest) text most f w = w
parts-short limit (p ∷ sure) m a bytes rest text most f (first, others, is, own, later) =
    (first, others, is, part-short limit p.kind m f.1 bytes p.bytes f.0 first most f.2 own, parts-short limit sure f.1 a f.0 rest others most f.3 later)

pub faithful_whole : (limit : ℕ) (m : Mode) (bytes text : List ℕ) (f : Filters IsFaithful limit m bytes text) → longest ≤ limit → Again limit m f.parts text
faithful_whole limit m bytes text f most =
    let w = f.whole in
    let own = subst (λ (ps : List Part). AreWritten IsFaithful ps text) w.whole f.written in
    let short = parts-short limit w.sure m w.after bytes w.rest text most w.first own in
    faithful_again limit m bytes text f.parts (omega (arith, most)) w (subst (λ (ps : List Part). AreWritten (Within limit IsFaithful) ps text) (sym w.whole) short)
