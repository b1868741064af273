-- Events in the smallest steps: each tells one piece, or a few that are never cut apart. Where no step follows the stream waits; in
-- any state at most one follows; and it stays, whatever bytes come later.
use Rattle.std.proofs.Common.{◌≡◌, ◌⊎◌, ℕ, ◌+◌, ◌<◌, ◌≤◌, Bool, true, false, max, List, [], ◌∷◌, ◌++◌, length, drop, refl, sym, ap, subst, ◌∙◌, inl, inr, append_assoc, append-nil, arith, length-append, length-take}
use Rattle.std.proofs.{lemmas.Bool.false_from_ne_true, lemmas.Bool.both_ways, lemmas.List.Folds.prefix_len-append, lemmas.List.drop-append-le}
use Rattle.std.specs.List.{prefix_len}
use Rattle.csicodec_tokens.specs.{declared.param.CsiParam.CsiParam, Sequence.Seq}
use Rattle.csicodec_tokens.proofs.Reading.{one_seq}
use Rattle.csicodec_spans.specs.{declared.table.Kind.Kind, declared.table.Mode.Mode, Parts.Part, Parts.AreFirstParts, Parts.IsFirstPart}
use Rattle.csicodec_spans.proofs.{Agrees.IsFit, Agrees.in_string, Once.parts_more, Once.part_once, Missed.fit}
use Rattle.csicodec_events.specs.Events.{BeginsCsi, IsWrongAt, Piece, before_stop, from_stop, is_control, is_passed, onward, piece, pieces_of, stop, without_controls}
use Rattle.csicodec_events.specs.{declared.event.Events.Events, Characters.is_unfinished, declared.event.Event.Event}
use Rattle.csicodec_events.proofs.{Fronts.event_of, Fronts.none_sure, Fronts.unfinished_front, Run.begins_more, Run.same_stop, Stops.too_long}

-- ---- the steps

-- a part of text, of a string or of what went wrong, or an escape sequence
pub record IsPart (e : Events) (bytes : List ℕ) (ps : List Piece) (rest : List ℕ)
    (after : Events) : Type 0 where
  pub other : BeginsCsi bytes → ⊥
  pub p : Part
  pub next : Mode
  pub first : IsFirstPart e.limit e.mode bytes p rest next
  pub sure : p.kind ≡ Kind.Text → is_unfinished bytes ≡ false
  pub told : ps ≡ pieces_of (event_of p.kind) p.bytes
  pub on : after ≡ onward e next 0

-- by whether the byte where a sequence stops is a control: that control, or the whole sequence
abbrev pub IsBy : Bool → Events → List ℕ → ℕ → List ℕ → List Piece → List ℕ → Events → Type 0
IsBy true e bytes b more ps rest after = (ps ≡ piece (Event.Control b) [] ∷ []) × (rest ≡ bytes)
    × (after ≡ onward e e.mode (length (before_stop e bytes) + 1))
IsBy false e bytes b more ps rest after = (list : List CsiParam) × (final : ℕ)
    × Seq (without_controls (before_stop e bytes ++ b ∷ [])) list final
    × (ps ≡ piece (Event.Csi final) (before_stop e bytes ++ b ∷ []) ∷ []) × (rest ≡ more)
    × (after ≡ onward e Mode.Text 0)

-- what is told where a sequence stops
pub record IsStop (e : Events) (bytes : List ℕ) (ps : List Piece) (rest : List ℕ)
    (after : Events) : Type 0 where
  pub begins : BeginsCsi bytes
  pub b : ℕ
  pub more : List ℕ
  pub stands : from_stop e bytes ≡ b ∷ more
  pub short : length (before_stop e bytes) < e.limit
  pub told : IsBy (is_control b) e bytes b more ps rest after

-- ESC and `[` of a sequence that goes wrong
pub record IsBad (e : Events) (bytes : List ℕ) (ps : List Piece) (rest : List ℕ)
    (after : Events) : Type 0 where
  pub stands : bytes ≡ 27 ∷ 91 ∷ rest
  pub within : e.looked ≤ length bytes
  pub why : IsWrongAt e.limit (before_stop e bytes) (from_stop e bytes)
  pub told : ps ≡ pieces_of Event.Other (27 ∷ 91 ∷ [])
  pub on : after ≡ onward e Mode.BadCsi 0

abbrev pub IsMove : Events → List ℕ → List Piece → List ℕ → Events → Type 0
IsMove e bytes ps rest after =
    IsPart e bytes ps rest after ⊎ (IsStop e bytes ps rest after ⊎ IsBad e bytes ps rest after)

-- ---- at most one follows

pub record SameMove (ps qs : List Piece) (rest rest' : List ℕ) (after after' : Events) : Type 0
  where
    pub told : ps ≡ qs
    pub rests : rest ≡ rest'
    pub on : after ≡ after'

same_by : {ps qs : List Piece} {rest rest' : List ℕ} {after after' : Events} (t : Bool) (e : Events) (bytes : List ℕ) (b : ℕ) (more : List ℕ)
    → IsBy t e bytes b more ps rest after → IsBy t e bytes b more qs rest' after' → SameMove ps qs rest rest' after after'
same_by true e bytes b more g h = record { told = g.0 ∙ sym h.0; rests = g.1 ∙ sym h.1; on = g.2 ∙ sym h.2 }
same_by false e bytes b more g h =
    let text = before_stop e bytes ++ b ∷ [] in
    let final : g.1 ≡ h.1 = (one_seq (without_controls text) (without_controls text) [] [] g.0 h.0 g.1 h.1 g.2 h.2 refl).2 in
    record { told = g.3 ∙ ap (λ (f : ℕ). piece (Event.Csi f) text ∷ []) final ∙ sym h.3; rests = g.4 ∙ sym h.4; on = g.5 ∙ sym h.5 }

module _ (e : Events) (bytes : List ℕ) (ps qs : List Piece) (rest rest' : List ℕ) (after after' : Events) where
  same_part : IsPart e bytes ps rest after → IsPart e bytes qs rest' after' → SameMove ps qs rest rest' after after'
  same_part g h =
      let s = part_once e.limit e.mode bytes g.p h.p rest rest' g.next h.next g.first h.first in
      record {
        told = g.told ∙ ap (λ (p : Part). pieces_of (event_of p.kind) p.bytes) s.parts ∙ sym h.told;
        rests = s.rests;
        on = g.on ∙ ap (λ (m : Mode). onward e m 0) s.modes ∙ sym h.on;
      }

  same_stop_move : IsStop e bytes ps rest after → IsStop e bytes qs rest' after' → SameMove ps qs rest rest' after after'
  same_stop_move g h =
      let both : g.b ∷ g.more ≡ h.b ∷ h.more = sym g.stands ∙ h.stands in
      let byte : h.b ≡ g.b = cc in
      let more : h.more ≡ g.more = cc in
      same_by (is_control g.b) e bytes g.b g.more g.told (subst (λ (x : List ℕ). IsBy (is_control g.b) e bytes g.b x qs rest' after') more
      (subst (λ (b : ℕ). IsBy (is_control b) e bytes b h.more qs rest' after') byte h.told))

  same_bad : IsBad e bytes ps rest after → IsBad e bytes qs rest' after' → SameMove ps qs rest rest' after after'
  same_bad g h =
      let both : 27 ∷ 91 ∷ rest ≡ 27 ∷ 91 ∷ rest' = sym g.stands ∙ h.stands in
      record { told = g.told ∙ sym h.told; rests = cc; on = g.on ∙ sym h.on }

  -- a part stands where no sequence begins
  part_other : IsPart e bytes ps rest after → IsStop e bytes qs rest' after' ⊎ IsBad e bytes qs rest' after' → ⊥
  part_other g (inl h) = g.other h.begins
  part_other g (inr h) = g.other (rest', h.stands)

  stop_bad : IsStop e bytes ps rest after → IsBad e bytes qs rest' after' → ⊥
  stop_bad g h =
      let why = subst (IsWrongAt e.limit (before_stop e bytes)) g.stands h.why g.short in
      let t = subst (λ (c : Bool). IsBy c e bytes g.b g.more ps rest after) why.0 g.told in
      why.1 t.0 t.1 t.2

move_once : (e : Events) (bytes : List ℕ) (ps qs : List Piece) (rest rest' : List ℕ)
    (after after' : Events) → IsMove e bytes ps rest after → IsMove e bytes qs rest' after'
    → SameMove ps qs rest rest' after after'
move_once e bytes ps qs rest rest' after after' (inl g) (inl h) = same_part e bytes ps qs rest rest' after after' g h
move_once e bytes ps qs rest rest' after after' (inl g) (inr h) = absurd (part_other e bytes ps qs rest rest' after after' g h)
move_once e bytes ps qs rest rest' after after' (inr g) (inl h) = absurd (part_other e bytes qs ps rest' rest after' after h g)
move_once e bytes ps qs rest rest' after after' (inr (inl g)) (inr (inl h)) = same_stop_move e bytes ps qs rest rest' after after' g h
move_once e bytes ps qs rest rest' after after' (inr (inl g)) (inr (inr h)) = absurd (stop_bad e bytes ps qs rest rest' after after' g h)
move_once e bytes ps qs rest rest' after after' (inr (inr g)) (inr (inl h)) = absurd (stop_bad e bytes qs ps rest' rest after' after h g)
move_once e bytes ps qs rest rest' after after' (inr (inr g)) (inr (inr h)) = same_bad e bytes ps qs rest rest' after after' g h

-- ---- it stays

-- no sequence begins, whatever follows, where a part stands
other_more : (limit : ℕ) (m a : Mode) (bytes more rest : List ℕ) (p : Part)
    → (BeginsCsi bytes → ⊥) → IsFirstPart limit m bytes p rest a → BeginsCsi (bytes ++ more) → ⊥
other_more limit m a [] more rest p other first b = none_sure limit m a [] rest p (inl refl) first
other_more limit m a (c ∷ []) more rest p other first b =
    let same = b.1 in
    let esc : c ≡ 27 = cc in
    none_sure limit m a (c ∷ []) rest p (inr (ap (λ (x : ℕ). x ∷ []) esc)) first
other_more limit m a (c ∷ d ∷ bytes) more rest p other first b =
    let same = b.1 in
    let esc : c ≡ 27 = cc in
    let bracket : d ≡ 91 = cc in
    other (bytes, cc)

-- a part of text is one byte
pub text_fit : (limit : ℕ) (m a : Mode) (bytes rest : List ℕ) (p : Part) → p.kind ≡ Kind.Text
    → IsFirstPart limit m bytes p rest a → (in_string a ≡ false) × (length p.bytes ≡ 1)
text_fit limit m a bytes rest p text first = subst (λ (k : Kind). IsFit m k p.bytes a) text (fit limit m bytes p.kind p.bytes rest a first)

pub one_part : (limit : ℕ) (m a : Mode) (bytes rest : List ℕ) (p : Part)
    → AreFirstParts limit m bytes (p ∷ []) rest a → IsFirstPart limit m bytes p rest a
one_part limit m a bytes rest p h =
    subst (λ (x : Mode). IsFirstPart limit m bytes p rest x) (sym h.3.1) (subst (λ (x : List ℕ). IsFirstPart limit m bytes p x h.1) (sym h.3.0) h.2)

passed_more : (bytes more : List ℕ) → prefix_len is_passed bytes ≤ prefix_len is_passed (bytes ++ more)
passed_more bytes more = let e = prefix_len-append is_passed bytes more in grind arith

-- no sequence stops earlier where more follows
stop_more : (looked : ℕ) (bytes more : List ℕ) → looked ≤ length bytes → 2 ≤ length bytes
    → stop looked bytes ≤ stop looked (bytes ++ more)
stop_more looked bytes more le two =
    let start = max 2 looked in
    let longer = passed_more (drop start bytes) more in
    let same = ap (prefix_len is_passed) (drop-append-le start bytes more (omega (arith, le, two))) in
    omega (arith, longer, same)

over_longer : (e : Events) (bytes more : List ℕ) → e.looked ≤ length bytes → 2 ≤ length bytes
    → length (before_stop e bytes) ≤ length (before_stop e (bytes ++ more))
over_longer e bytes more le two =
    omega (arith, stop_more e.looked bytes more le two, length-take (stop e.looked bytes) bytes, length-take (stop e.looked (bytes ++ more)) (bytes ++ more), length-append bytes more)

wrong_more : (e : Events) (bytes more behind : List ℕ) → e.looked ≤ length bytes → 2 ≤ length bytes
    → from_stop e bytes ≡ behind → IsWrongAt e.limit (before_stop e bytes) behind
    → IsWrongAt e.limit (before_stop e (bytes ++ more)) (from_stop e (bytes ++ more))
wrong_more e bytes more [] le two stands why =
    too_long e.limit (before_stop e (bytes ++ more)) (from_stop e (bytes ++ more)) (omega (arith, why, over_longer e bytes more le two))
wrong_more e bytes more (b ∷ behind) le two stands why =
    let s = same_stop e bytes more behind b stands in
    let there : from_stop e (bytes ++ more) ≡ b ∷ (behind ++ more) = s.behind ∙ ap (λ (x : List ℕ). x ++ more) stands in
    rw (s.over, there) why

module _ (e : Events) (bytes more : List ℕ) (ps : List Piece) (rest : List ℕ) (after : Events) where
  part_more : IsPart e bytes ps rest after → IsPart e (bytes ++ more) ps (rest ++ more) after
  part_more g =
      let one = parts_more e.limit (g.p ∷ []) e.mode bytes more rest g.next (rest, g.next, g.first, (refl, refl)) in
      record {
        other = other_more e.limit e.mode g.next bytes more rest g.p g.other g.first;
        p = g.p;
        next = g.next;
        first = one_part e.limit e.mode g.next (bytes ++ more) (rest ++ more) g.p one;
        sure = λ text.
            let len = (text_fit e.limit e.mode g.next bytes rest g.p text g.first).1 in
            false_from_ne_true _ (λ h. both_ways (is_unfinished bytes) (g.sure text) (unfinished_front bytes more (omega (arith, len, ap length g.first.0, length-append g.p.bytes rest)) h));
        told = g.told;
        on = g.on;
      }

  by_more : (t : Bool) (b : ℕ) (behind : List ℕ) → before_stop e (bytes ++ more) ≡ before_stop e bytes
      → IsBy t e bytes b behind ps rest after → IsBy t e (bytes ++ more) b (behind ++ more) ps (rest ++ more) after
  by_more true b behind same g = rw same (g.0, ap (λ (x : List ℕ). x ++ more) g.1, g.2)
  by_more false b behind same g = rw same (g.0, g.1, g.2, g.3, ap (λ (x : List ℕ). x ++ more) g.4, g.5)

  stop_move_more : IsStop e bytes ps rest after → IsStop e (bytes ++ more) ps (rest ++ more) after
  stop_move_more g =
      let s = same_stop e bytes more g.more g.b g.stands in
      record {
        begins = begins_more bytes more g.begins;
        b = g.b;
        more = g.more ++ more;
        stands = s.behind ∙ ap (λ (x : List ℕ). x ++ more) g.stands;
        short = rw s.over g.short;
        told = by_more (is_control g.b) g.b g.more s.over g.told;
      }

  bad_more : IsBad e bytes ps rest after → IsBad e (bytes ++ more) ps (rest ++ more) after
  bad_more g = record {
    stands = ap (λ (x : List ℕ). x ++ more) g.stands;
    within = let le = g.within in omega (arith, le, length-append bytes more);
    why = wrong_more e bytes more (from_stop e bytes) g.within (omega (arith, ap length g.stands)) refl g.why;
    told = g.told;
    on = g.on;
  }

  move_more : IsMove e bytes ps rest after → IsMove e (bytes ++ more) ps (rest ++ more) after
  move_more (inl g) = inl (part_more g)
  move_more (inr (inl g)) = inr (inl (stop_move_more g))
  move_more (inr (inr g)) = inr (inr (bad_more g))

-- ---- one after the other

-- steps in front of the bytes tell these pieces
pub data Divides : Events → List ℕ → List Piece → List ℕ → Events → Type 0 where
  Done : {e : Events} {bytes : List ℕ} → Divides e bytes [] bytes e
  Then : {e mid after : Events} {bytes behind rest : List ℕ} {ps qs : List Piece}
      → IsMove e bytes ps behind mid → Divides mid behind qs rest after
      → Divides e bytes (ps ++ qs) rest after

pub one_divides : {e after : Events} {bytes rest : List ℕ} (ps : List Piece)
    → IsMove e bytes ps rest after → Divides e bytes ps rest after
one_divides {e} {after} {bytes} {rest} ps g = subst (λ (x : List Piece). Divides e bytes x rest after) (append-nil ps) (Then g Done)

pub divides_on : {e mid after : Events} {bytes behind rest : List ℕ} {ps qs : List Piece}
    → Divides e bytes ps behind mid → Divides mid behind qs rest after
    → Divides e bytes (ps ++ qs) rest after
divides_on Done f = f
divides_on {e} {mid} {after} {bytes} {behind} {rest} {qs = others} (Then {ps = ps} {qs = qs} g d) f =
    subst (λ (x : List Piece). Divides e bytes x rest after) (sym (append_assoc ps qs others)) (Then g (divides_on d f))

pub divides_more : {e after : Events} {bytes rest : List ℕ} {ps : List Piece} (more : List ℕ)
    → Divides e bytes ps rest after → Divides e (bytes ++ more) ps (rest ++ more) after
divides_more more Done = Done
divides_more more (Then {e = e} {mid = mid} {bytes = bytes} {behind = behind} {ps = ps} g d) =
    Then (move_more e bytes more ps behind mid g) (divides_more more d)

-- no step follows
abbrev pub IsStill : Events → List ℕ → Type 0
IsStill e bytes = (ps : List Piece) (rest : List ℕ) (after : Events) → IsMove e bytes ps rest after → ⊥

pub divides_once : {e after after' : Events} {bytes rest rest' : List ℕ} {ps qs : List Piece}
    → Divides e bytes ps rest after → IsStill after rest
    → Divides e bytes qs rest' after' → IsStill after' rest' → SameMove ps qs rest rest' after after'
divides_once Done still Done quiet = record { told = refl; rests = refl; on = refl }
divides_once Done still (Then {mid = mid} {behind = behind} {ps = ps} g d) quiet = absurd (still ps behind mid g)
divides_once (Then {mid = mid} {behind = behind} {ps = ps} g d) still Done quiet = absurd (quiet ps behind mid g)
divides_once {e} {after} {after'} {bytes} {rest} {rest'} (Then {mid = mid} {behind = behind} {ps = ps} {qs = qs} g d) still (Then {mid = mid'} {behind = behind'} {ps = ps'} {qs = qs'} h f) quiet =
    let one = move_once e bytes ps ps' behind behind' mid mid' g h in
    let same : Divides mid behind qs' rest' after' = rw (one.rests, one.on) f in
    let r = divides_once d still same quiet in
    let first = one.told in
    let next = r.told in
    record { told = cc; rests = r.rests; on = r.on }
