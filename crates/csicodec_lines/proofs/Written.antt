-- What is told of the parts of a stream, as it comes.
use Rattle.std.proofs.Common.{◌≡◌, ◌≤◌, ◌-◌, ℕ, List, [], ◌++◌, length, drop, refl, sym, ap, subst, ◌∙◌, append_assoc, append-nil, arith, length-append, flat_map}
use Rattle.csicodec_spans.specs.{Parts.Part, Parts.bytes_of, Parts.AreFirstParts, Parts.IsUnsure, declared.table.Mode.Mode}
use Rattle.csicodec_spans.proofs.{Once.parts_join, Once.parts_more, Once.parts_on, OneSpan.none_unsure, Missed.rest_is}
use Rattle.csicodec_filter.specs.Filter.{Held}
use Rattle.csicodec_transform.specs.Transform.{Adds}
use Rattle.csicodec_transform.proofs.Sent.{goes_none, goes_on}
use Rattle.csicodec_lines.specs.Private.Written.{Appends, Since, WrittenOf, open_at, with_more}

module _ {S : Type 0} (Own : WrittenOf S) where
  -- some parts in front
  pub appends : (limit : ℕ) (old new : S) (m a : Mode) (bytes rest before after : List ℕ) (parts : List Part) → AreFirstParts limit m bytes parts rest a → Adds Own old parts before after new
      → Appends Own (open_at old limit m bytes) before after (open_at new limit a rest)
  appends limit old new m a bytes rest before after parts first (text, goes, is) =
      (text, record { limit = refl; parts = parts; first = first; goes = goes }, is)

  pub appends_none : (s : Held S) (out : List ℕ) → Appends Own s out out s
  appends_none s out = appends s.limit s.rewrite s.rewrite s.mode s.mode s.bytes s.bytes out out [] (refl, refl) ([], goes_none Own s.rewrite, sym (append-nil out))

  -- some, and then others
  pub appends_on : (s t u : Held S) (a b c : List ℕ) → Appends Own s a b t → Appends Own t b c u → Appends Own s a c u
  appends_on s t u a b c (x, h, e) (y, k, f) = (
    x ++ y,
    record {
      limit = k.limit ∙ h.limit;
      parts = h.parts ++ k.parts;
      first = parts_on s.limit h.parts k.parts s.mode s.bytes t.bytes u.bytes t.mode u.mode h.first
          (subst (λ (l : ℕ). AreFirstParts l t.mode t.bytes k.parts u.bytes u.mode) h.limit k.first);
      goes = goes_on Own s.rewrite t.rewrite u.rewrite h.parts k.parts x y h.goes k.goes;
    },
    f ∙ ap (λ (l : List ℕ). l ++ y) e ∙ append_assoc a x y,
  )

  -- what is left is the end of what was there
  pub left_join : (s t : Held S) (a b : List ℕ) → (x : Appends Own s a b t) → s.bytes ≡ flat_map bytes_of x.1.parts ++ t.bytes
  left_join s t a b x = parts_join s.limit x.1.parts s.mode s.bytes t.bytes t.mode x.1.first

  pub left_within : (s t : Held S) (a b : List ℕ) → Appends Own s a b t → length t.bytes ≤ length s.bytes
  left_within s t a b x = omega (arith, ap length (left_join s t a b x), length-append (flat_map bytes_of x.1.parts) t.bytes)

  pub left_is : (s t : Held S) (a b : List ℕ) → Appends Own s a b t → drop (length s.bytes - length t.bytes) s.bytes ≡ t.bytes
  left_is s t a b x = rest_is s.bytes (flat_map bytes_of x.1.parts) t.bytes (left_join s t a b x)

  -- nothing came yet
  pub since_none : (s : S) (limit : ℕ) → Own s [] [] s → Since Own (open_at s limit Mode.Text []) [] [] (open_at s limit Mode.Text [])
  since_none s limit begun = record { limit = refl; parts = []; cut = (refl, refl); unsure = none_unsure limit Mode.Text; written = begun }

  -- a chunk more
  pub since_on : (first last new : Held S) (read chunk text before after : List ℕ) → Since Own first read text last → IsUnsure last.limit new.mode new.bytes
      → (x : Appends Own (with_more last chunk) before after new) → Since Own first (read ++ chunk) (text ++ x.0) new
  since_on first last new read chunk text before after since unsure (more, x, is) =
      let later : AreFirstParts first.limit last.mode (last.bytes ++ chunk) x.parts new.bytes new.mode =
      subst (λ (l : ℕ). AreFirstParts l last.mode (last.bytes ++ chunk) x.parts new.bytes new.mode) since.limit x.first in
      record {
        limit = x.limit ∙ since.limit;
        parts = since.parts ++ x.parts;
        cut = parts_on first.limit since.parts x.parts Mode.Text (read ++ chunk) (last.bytes ++ chunk) new.bytes last.mode new.mode
            (parts_more first.limit since.parts Mode.Text read chunk last.bytes last.mode since.cut) later;
        unsure = subst (λ (l : ℕ). IsUnsure l new.mode new.bytes) since.limit unsure;
        written = x.goes first.rewrite since.parts text since.written;
      }
