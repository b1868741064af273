-- The steps of text as its characters are in the sets.
use Rattle.csicodec_overwrite.proofs.Common.{◌≡◌, ◌<◌, ℕ, List, [], ◌∷◌, ◌++◌, length, refl, sym, ap, ◌∙◌, arith, append_assoc, append-nil, lossy_chars, Step, Kind, Sets, in_use, of_char, of_chars, of_run, IsGiven}
use Rattle.csicodec_overwrite.proofs.Read.{chars_on}
use Rattle.csicodec_overwrite.specs.Private.Spans.{DrawsTo}
use Rattle.csicodec_clean.proofs.Drawn.{behind_on, draws_none, draws_on, draws_one, draws_same}
use Rattle.csicodec_clean.specs.{Private.Steps.ReadsTo, Sets.IsSame, Sets.behind, Sets.behind_text, Sets.shifted}
use Rattle.csicodec_looks.specs.Sets.{char_in}

pub to_none : (s : Sets) (held bytes : List ℕ) (old : List Step) → DrawsTo s held bytes bytes s held old old
to_none s held bytes old = ([], [], refl, draws_none s held, refl, sym (append-nil old))

pub to_on : (s mid after : Sets) (held between left bytes middle rest : List ℕ) (old now new : List Step) → DrawsTo s held bytes middle mid between old now
    → DrawsTo mid between middle rest after left now new → DrawsTo s held bytes rest after left old new
to_on s mid after held between left bytes middle rest old now new (xs, cs, split, draws, sets, out) (ys, ds, more, later, behind, last) = (
  xs ++ ys,
  cs ++ ds,
  split ∙ ap (λ t. xs ++ t) more ∙ sym (append_assoc xs ys rest),
  draws_on s held xs ys between left cs ds draws (rw sets at later),
  behind ∙ ap (λ (m : Sets). behind_text m ys) sets ∙ sym (behind_on s xs ys),
  last ∙ ap (λ t. t ++ of_chars ds) out ∙ append_assoc old (of_chars cs) (of_chars ds) ∙ ap (λ t. old ++ t) (sym (chars_on cs ds)),
)

-- no byte is left
pub none_behind : (s after : Sets) (held bytes rest left : List ℕ) (old new : List Step) → length rest ≡ 0 → DrawsTo s held bytes rest after left old new → DrawsTo s held bytes [] after left old new
none_behind s after held bytes [] left old new none h = h
none_behind s after held bytes (b ∷ rest) left old new none h = absurd (omega (arith, none))

-- bytes in front that are what they are, and one that is drawn
pub same_taken : (s : Sets) (held bytes front rest left : List ℕ) (old new : List Step) → bytes ≡ front ++ rest → IsSame s front
    → (chars : List ℕ) × ReadsTo (held ++ front) chars left × (new ≡ old ++ of_chars chars) → DrawsTo s held bytes rest s left old new
same_taken s held bytes front rest left old new split same (chars, reads, out) = (front, chars, split, draws_same s held front left chars same reads, sym same.1, out)

pub one_taken : (s after : Sets) (held bytes : List ℕ) (b : ℕ) (rest left : List ℕ) (old new : List Step) → bytes ≡ b ∷ rest → b < 128 → after ≡ shifted s b → left ≡ []
    → new ≡ old ++ (of_run held ++ of_char (char_in (in_use s) b)) → DrawsTo s held bytes rest after left old new
one_taken s after held bytes b rest left old new split low sets none out =
    let c = char_in (in_use s) b in
    let all : of_run held ++ of_char c ≡ of_chars (lossy_chars held ++ c ∷ []) =
    ap (λ t. of_run held ++ t) (sym (append-nil (of_char c))) ∙ sym (chars_on (lossy_chars held) (c ∷ [])) in
    (b ∷ [], lossy_chars held ++ c ∷ [], split, rw none (draws_one s held b low), sets, out ∙ ap (λ t. old ++ t) all)

-- a span of text
pub text_given : (s after : Sets) (held bytes left : List ℕ) (old new : List Step) → DrawsTo s held bytes [] after left old new
    → (more : List Step) × IsGiven s Kind.Text held bytes more left × (new ≡ old ++ more)
text_given s after held bytes left old new (text, chars, split, draws, sets, out) =
    (of_chars chars, (chars, rw (split ∙ append-nil text) draws, refl), out)

pub text_behind : (s after : Sets) (held bytes left : List ℕ) (old new : List Step) → DrawsTo s held bytes [] after left old new → after ≡ behind s Kind.Text bytes
text_behind s after held bytes left old new (text, chars, split, draws, sets, out) = sets ∙ ap (behind_text s) (sym (split ∙ append-nil text))
