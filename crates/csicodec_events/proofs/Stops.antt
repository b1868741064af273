-- From what stands in front to what a step promises: spans, and what is told where a sequence stops; and where a reader stops.
use Rattle.std.proofs.Common.{◌≡◌, ℕ, ◌+◌, ◌≤◌, Bool, true, false, cond, filter, List, [], ◌∷◌, ◌++◌, length, take, drop, refl, sym, ap, subst, ◌∙◌, append_assoc, arith, length-append, ◌*◌, ◌<◌, inl, length-take, length-drop, take-append-drop, ◌-◌, inr, append-nil, take_all, drop_of_length-le, Some}
use Rattle.std.proofs.{Math.Seq.take-append_seam, Math.Seq.drop-append_seam, lemmas.Bool.Decides.nat_tests, lemmas.List.Elements.filter-append}
use Rattle.std.proofs.{lemmas.List.take-append-le, lemmas.List.drop-append-le, lemmas.Bool.cases_lt, lemmas.Option.same_Some}
use Rattle.std.specs.List.{AllByRecursion, prefix_len}
use Rattle.csicodec_tokens.specs.declared.reader.ReadError.TheVariants.{NotCsi, BadByte, NumberTooLarge, Truncated, Memory}
use Rattle.csicodec_tokens.specs.{declared.param.CsiParam.CsiParam, Sequence.IsBodyByte, Sequence.IsFinal, Sequence.Seq, Sequence.Reads}
use Rattle.csicodec_tokens.specs.{declared.reader.ReadError.ReadError, Fault.Begins, Fault.IsLeast, Fault.Refuses, Words.place}
use Rattle.csicodec_tokens.proofs.Reading.{IsBody-from_spelling}
use Rattle.csicodec_events.specs.Events.{IsCsi, before_stop, from_stop, is_passed, is_read, onward, stop, without_controls, IsTold, BeginsCsi, IsWrongAt, is_control, is_final, IsBegun, IsHeld, IsSpan}
use Rattle.csicodec_events.specs.{declared.event.Events.Events, declared.event.Event.Event, Private.Steps.HasFound, Private.Steps.HasWaited}
use Rattle.csicodec_events.specs.{Characters.is_unfinished, Characters.EndsWhole}
use Rattle.csicodec_spans.specs.{declared.table.Mode.Mode, declared.table.Kind.Kind, Parts.Cuts, Parts.IsMaximal, Parts.IsSequence}
use Rattle.csicodec_spans.proofs.{OneSpan.short, OneSpan.whole, Missed.cut_parts, Missed.cut_some}

-- ---- bytes of a sequence

passed_byte : (b : ℕ) → IsBodyByte b → is_passed b ≡ true
passed_byte b h = grind (arith, nat_tests)

passed_final : (b : ℕ) → IsFinal b → is_passed b ≡ false
passed_final b h = grind (arith, nat_tests)

read_byte : (b : ℕ) → IsBodyByte b → is_read b ≡ true
read_byte b h = grind (arith, nat_tests)

read_final : (b : ℕ) → IsFinal b → is_read b ≡ true
read_final b h = grind (arith, nat_tests)

pub passed_body : (body rest : List ℕ) → AllByRecursion IsBodyByte body
    → prefix_len is_passed (body ++ rest) ≡ length body + prefix_len is_passed rest
passed_body [] rest h = omega arith
passed_body (b ∷ body) rest h = let others = passed_body body rest h.1 in rw (passed_byte b h.0) (omega (arith, others))

read_body : (body : List ℕ) (f : ℕ) → AllByRecursion IsBodyByte body → IsFinal f
    → filter is_read (body ++ f ∷ []) ≡ body ++ f ∷ []
read_body [] f h final = ap (λ (t : Bool). cond t (f ∷ []) []) (read_final f final)
read_body (b ∷ body) f h final =
    let others = filter is_read (body ++ f ∷ []) in
    ap (λ (t : Bool). cond t (b ∷ others) others) (read_byte b h.0) ∙ ap (λ (l : List ℕ). b ∷ l) (read_body body f h.1 final)

-- ---- a whole sequence

pub seq_read : (text : List ℕ) (list : List CsiParam) (final : ℕ) → Seq text list final
    → without_controls text ≡ text
seq_read text list final s =
    let body = (IsBody-from_spelling s.body list s.spellable s.spelled).bytes in
    ap without_controls s.whole ∙ ap (λ (l : List ℕ). 27 ∷ 91 ∷ l) (read_body s.body final body s.ends) ∙ sym s.whole

pub at_once : (e : Events) (bytes text rest : List ℕ) (list : List CsiParam) (final : ℕ)
    → e.looked ≡ 0 → Seq text list final → bytes ≡ text ++ rest → length text ≤ e.limit
    → IsCsi e.limit (before_stop e bytes) (from_stop e bytes) list final text rest (onward e Mode.Text 0)
at_once e bytes text rest list final none s split short =
    let body = (IsBody-from_spelling s.body list s.spellable s.spelled).bytes in
    let over : List ℕ = 27 ∷ 91 ∷ s.body in
    let whole : bytes ≡ over ++ final ∷ rest = split ∙ ap (λ (t : List ℕ). t ++ rest) s.whole ∙ append_assoc over (final ∷ []) rest in
    let passed : prefix_len is_passed (drop 2 bytes) ≡ length s.body = ap (λ (t : List ℕ). prefix_len is_passed (drop 2 t)) whole
    ∙ passed_body s.body (final ∷ rest) body ∙ rw (passed_final final s.ends) (omega arith) in
    let here : stop e.looked bytes ≡ length over = ap (λ (k : ℕ). stop k bytes) none ∙ omega (arith, passed) in
    let front : before_stop e bytes ≡ over = ap (λ (i : ℕ). take i bytes) here ∙ ap (λ (t : List ℕ). take (length over) t) whole ∙ take-append_seam over (final ∷ rest) in
    let back : from_stop e bytes ≡ final ∷ rest = ap (λ (i : ℕ). drop i bytes) here ∙ ap (λ (t : List ℕ). drop (length over) t) whole ∙ drop-append_seam over (final ∷ rest) in
    record {
      last = final;
      stands = back;
      whole = s.whole ∙ ap (λ (t : List ℕ). t ++ final ∷ []) (sym front);
      short = let n = ap length front in let m = ap length s.whole in omega (arith, n, m, short, length-append s.body (final ∷ []));
      seq = subst (λ (t : List ℕ). Seq t list final) (sym (seq_read text list final s)) s;
      closed = refl;
    }

-- ---- From what stands in front to what a step promises: the parts, progress, and that the next call can follow.

-- an event of the first bytes, of which half are more than those looked at, and behind which nothing is looked at
pub told_on : (e : Events) (bytes : List ℕ) (x : Event) (n : ℕ) (list : List CsiParam) (after : Events) (m : Mode)
    → after ≡ onward e m 0 → n ≤ length bytes → e.looked < 2 * n
    → IsTold x e bytes (take n bytes) (drop n bytes) list after → HasFound e bytes x n list after
told_on e bytes x n list after m on le further tells =
    let none : after.looked ≡ 0 = ap (λ (a : Events). a.looked) on in
    record {
      tells = tells;
      progress = omega (arith, none, le, further, length-drop n bytes);
      again = inl none;
      limit = ap (λ (a : Events). a.limit) on;
    }

-- where a byte stands there: what stands before it and with it, and what is behind it
pub record Next (e : Events) (bytes : List ℕ) (b : ℕ) (more : List ℕ) : Type 0 where
  pub len : length (before_stop e bytes) ≡ stop e.looked bytes
  pub low : stop e.looked bytes < length bytes
  pub front : take (stop e.looked bytes + 1) bytes ≡ before_stop e bytes ++ b ∷ []
  pub back : drop (stop e.looked bytes + 1) bytes ≡ more

pub next_place : (e : Events) (bytes : List ℕ) (b : ℕ) (more : List ℕ) → from_stop e bytes ≡ b ∷ more
    → Next e bytes b more
next_place e bytes b more stands =
    let at = stop e.looked bytes in
    let front = take at bytes in
    let some = ap length stands in
    let len : length front ≡ at = omega (arith, length-take at bytes, length-drop at bytes, some) in
    let one : List ℕ = front ++ b ∷ [] in
    let size : at + 1 ≡ length one = omega (arith, len, length-append front (b ∷ [])) in
    let parts : bytes ≡ one ++ more = sym (take-append-drop at bytes) ∙ ap (λ (x : List ℕ). front ++ x) stands ∙ sym (append_assoc front (b ∷ []) more) in
    record {
      len = len;
      low = omega (arith, some, length-drop at bytes);
      front = ap (λ (n : ℕ). take n bytes) size ∙ ap (λ (x : List ℕ). take (length one) x) parts ∙ take-append_seam one more;
      back = ap (λ (n : ℕ). drop n bytes) size ∙ ap (λ (x : List ℕ). drop (length one) x) parts ∙ drop-append_seam one more;
    }

-- the bytes of a sequence and those behind it
pub csi_parts : (e : Events) (bytes : List ℕ) (list : List CsiParam) (final : ℕ) (text rest : List ℕ) (after : Events)
    → IsCsi e.limit (before_stop e bytes) (from_stop e bytes) list final text rest after → bytes ≡ text ++ rest
csi_parts e bytes list final text rest after c =
    sym (take-append-drop (stop e.looked bytes) bytes) ∙ ap (λ (x : List ℕ). before_stop e bytes ++ x) c.stands
    ∙ sym (append_assoc (before_stop e bytes) (c.last ∷ []) rest) ∙ ap (λ (x : List ℕ). x ++ rest) (sym c.whole)

-- ---- What is told where a sequence stops, by the byte there.

-- all of the bytes are read
pub whole_reads : (read bytes : List ℕ) (list : List CsiParam) (final : ℕ)
    → read ≡ without_controls bytes → Seq (without_controls bytes) list final
    → Reads read list final []
whole_reads read bytes list final e s = (read, subst (λ (x : List ℕ). Seq x list final) (sym e) s, sym (append-nil read))

-- ---- a whole sequence

pub read_told : (e : Events) (bytes tail : List ℕ) (list : List CsiParam) (final n : ℕ) (after : Events)
    → e.looked ≡ 0 → BeginsCsi bytes → Reads (take e.limit bytes) list final tail
    → n ≡ length (take e.limit bytes) - length tail → after ≡ onward e Mode.Text 0
    → HasFound e bytes (Event.Csi final) n list after
read_told e bytes tail list final n after none begins r size on =
    let seq = whole e.limit bytes tail list final r in
    let some = ap length seq.whole in
    told_on e bytes (Event.Csi final) n list after Mode.Text on (omega (arith, size, length-take e.limit bytes)) (omega (arith, none, size, some, length-take (length (take e.limit bytes) - length tail) bytes))
    (begins, rw on (at_once e bytes (take n bytes) (drop n bytes) list final none (rw size seq) (sym (take-append-drop n bytes)) (rw size (short e.limit bytes tail))))

-- one with controls in it
pub csi_told : (e : Events) (bytes : List ℕ) (list : List CsiParam) (b final : ℕ) (more : List ℕ) (after : Events)
    → BeginsCsi bytes → from_stop e bytes ≡ b ∷ more → stop e.looked bytes < e.limit
    → Seq (without_controls (take (stop e.looked bytes + 1) bytes)) list final → after ≡ onward e Mode.Text 0
    → HasFound e bytes (Event.Csi final) (stop e.looked bytes + 1) list after
csi_told e bytes list b final more after begins stands low seq on =
    let n = next_place e bytes b more stands in
    let len = n.len in
    told_on e bytes (Event.Csi final) (stop e.looked bytes + 1) list after Mode.Text on (omega (arith, n.low)) (omega arith) (
      begins,
      record {
        last = b;
        stands = stands ∙ ap (λ (x : List ℕ). b ∷ x) (sym n.back);
        whole = n.front;
        short = omega (arith, len, low);
        seq = seq;
        closed = on;
      },
    )

-- ---- what goes wrong

pub too_long : (limit : ℕ) (over behind : List ℕ) → limit ≤ length over
    → IsWrongAt limit over behind
too_long limit over [] le = le
too_long limit over (b ∷ more) le = λ lt. absurd (omega (arith, le, lt))

pub no_sequence : (e : Events) (bytes : List ℕ) (b : ℕ) (more : List ℕ) → from_stop e bytes ≡ b ∷ more
    → is_control b ≡ false
    → ((list : List CsiParam) (final : ℕ)
    → Seq (without_controls (take (stop e.looked bytes + 1) bytes)) list final → ⊥)
    → IsWrongAt e.limit (before_stop e bytes) (from_stop e bytes)
no_sequence e bytes b more stands other none =
    rw stands (λ lt. (other, λ list final s. none list final (rw (next_place e bytes b more stands).front s)))

-- a final byte stands there
pub wrong_told : (e : Events) (bytes : List ℕ) (b : ℕ) (more : List ℕ) (list : List CsiParam) (after : Events)
    → BeginsCsi bytes → from_stop e bytes ≡ b ∷ more → is_final b ≡ true
    → IsWrongAt e.limit (before_stop e bytes) (from_stop e bytes) → after ≡ onward e Mode.Text 0
    → HasFound e bytes Event.Other (stop e.looked bytes + 1) list after
wrong_told e bytes b more list after begins stands final why on =
    let n = next_place e bytes b more stands in
    told_on e bytes Event.Other (stop e.looked bytes + 1) list after Mode.Text on (omega (arith, n.low)) (omega arith)
    (inr (begins, record { next = Mode.Text; why = why; goes = rw stands (inl (final, n.front, n.back, refl)); on = on }))

-- no sequence ends with any other byte
last_same : (xs ys : List ℕ) (a b : ℕ) → xs ++ a ∷ [] ≡ ys ++ b ∷ [] → a ≡ b
last_same [] [] a b e = cc
last_same [] (y ∷ ys) a b e = absurd (omega (arith, ap length e, length-append ys (b ∷ [])))
last_same (x ∷ xs) [] a b e = absurd (omega (arith, ap length e, length-append xs (a ∷ [])))
last_same (x ∷ xs) (y ∷ ys) a b e = last_same xs ys a b (ap (drop 1) e)

pub no_final : (over : List ℕ) (b : ℕ) → is_control b ≡ false → is_passed b ≡ false
    → is_final b ≡ false → (list : List CsiParam) (final : ℕ)
    → Seq (without_controls (over ++ b ∷ [])) list final → ⊥
no_final over b control passed none list final s =
    let read : is_read b ≡ true = grind (arith, nat_tests) in
    let split : without_controls (over ++ b ∷ []) ≡ filter is_read over ++ b ∷ [] =
    filter-append is_read over (b ∷ [])
    ∙ ap (λ (t : Bool). filter is_read over ++ cond t (b ∷ []) []) read in
    let last = last_same (filter is_read over) (27 ∷ 91 ∷ s.body) b final (sym split ∙ s.whole) in
    let ends : IsFinal b = subst IsFinal (sym last) s.ends in
    grind (arith, nat_tests)

-- ---- From the span in front to what a step promises.

-- where no ESC and `[` stand in front no sequence does
pub no_csi : (bytes text rest : List ℕ) → (BeginsCsi bytes → ⊥) → bytes ≡ text ++ rest
    → IsSequence text → ⊥
no_csi bytes text rest other parts s =
    let seq = s.2 in
    other ((seq.body ++ s.1 ∷ []) ++ rest, parts ∙ ap (λ (x : List ℕ). x ++ rest) seq.whole)

-- ---- spans but text

pub span_told : (e : Events) (bytes : List ℕ) (list : List CsiParam) (after : Events) (m : Mode) (k : Kind) (x : Event)
    (text rest : List ℕ) → 0 < e.limit → e.looked ≡ 0 → after ≡ onward e m 0
    → Cuts e.limit e.mode bytes k text rest m → IsMaximal k m rest
    → (IsSpan e.limit e.mode k bytes text rest after → IsTold x e bytes text rest list after)
    → HasFound e bytes x (length text) list after
span_told e bytes list after m k x text rest limit none on cuts maximal tells =
    let parts = cut_parts e.limit e.mode bytes k text rest m cuts in
    let some = cut_some e.limit e.mode bytes k text rest m limit cuts in
    let front : take (length text) bytes ≡ text = ap (λ (l : List ℕ). take (length text) l) parts ∙ take-append_seam text rest in
    let back : drop (length text) bytes ≡ rest = ap (λ (l : List ℕ). drop (length text) l) parts ∙ drop-append_seam text rest in
    told_on e bytes x (length text) list after m on (omega (arith, ap length parts, length-append text rest)) (omega (arith, some, none))
    (rw (front, back) (tells (record { next = m; cuts = cuts; maximal = maximal; on = on })))

-- ---- text

pub text_told : (e : Events) (bytes : List ℕ) (list : List CsiParam) (after : Events) (m : Mode) (n : ℕ) (span behind : List ℕ)
    → e.looked ≡ 0 → after ≡ onward e m 0 → Cuts e.limit e.mode bytes Kind.Text span behind m
    → IsMaximal Kind.Text m behind → n ≤ length span → 0 < n → IsHeld (take n span) (drop n span) behind
    → HasFound e bytes Event.Text n list after
text_told e bytes list after m n span behind none on cuts maximal le some holds =
    let parts = cut_parts e.limit e.mode bytes Kind.Text span behind m cuts in
    let front : take n bytes ≡ take n span = ap (λ (l : List ℕ). take n l) parts ∙ take-append-le n span behind le in
    told_on e bytes Event.Text n list after m on (omega (arith, le, ap length parts, length-append span behind)) (omega (arith, some, none)) (rw front (record {
      some = omega (arith, length-take n span, le, some);
      held = drop n span;
      behind = behind;
      span = record { next = m; cuts = rw (take-append-drop n span) cuts; maximal = maximal; on = on };
      holds = holds;
      goes_on = ap (λ (l : List ℕ). drop n l) parts ∙ drop-append-le n span behind le;
    }))

all_held : (e : Events) (m : Mode) (bytes text held behind : List ℕ)
    → Cuts e.limit e.mode bytes Kind.Text held behind m → bytes ≡ held ++ behind → 0 < length held
    → IsHeld text held behind → IsBegun e bytes
all_held e m bytes text held [] cuts parts some (inl h) =
    let same : bytes ≡ held = parts ∙ append-nil held in
    (ap is_unfinished same ∙ h, (m, subst (λ (x : List ℕ). Cuts e.limit e.mode bytes Kind.Text x [] m) (sym same) cuts))
all_held e m bytes text held [] cuts parts some (inr h) = absurd (omega (arith, some, ap length h.0))
all_held e m bytes text held (b ∷ behind) cuts parts some h = absurd (omega (arith, some, ap length h))

pub text_waits : (e : Events) (bytes : List ℕ) (m : Mode) (n : ℕ) (span behind : List ℕ)
    → 0 < e.limit → e.looked ≡ 0 → (BeginsCsi bytes → ⊥)
    → Cuts e.limit e.mode bytes Kind.Text span behind m → n ≡ 0
    → IsHeld (take n span) (drop n span) behind → HasWaited e bytes e
text_waits e bytes m n span behind limit none other cuts zero holds =
    let parts = cut_parts e.limit e.mode bytes Kind.Text span behind m cuts in
    let some = cut_some e.limit e.mode bytes Kind.Text span behind m limit cuts in
    let here = subst (λ (k : ℕ). IsHeld (take k span) (drop k span) behind) zero holds in
    record {
      waits = inr (other, refl, inl (all_held e m bytes [] span behind cuts parts some here));
      again = λ more. inl none;
      limit = refl;
    }

-- where text ends with the bytes
pub held_at_end : (span behind : List ℕ) (n : ℕ) → length behind ≡ 0
    → (0 < n → is_unfinished (drop (length span - n) span) ≡ true) → (n ≡ 0 → EndsWhole span)
    → IsHeld (take (length span - n) span) (drop (length span - n) span) behind
held_at_end span (b ∷ behind) n end some none = absurd (omega (arith, end))
held_at_end span [] n end some none = elim (cases_lt 0 n) [
  | inl more ↦ inl (some more)
  | inr le ↦ let zero : n ≡ 0 = omega (arith, le) in
      inr (drop_of_length-le span {i = length span - n} (omega (arith, zero)), subst EndsWhole (sym (take_all (length span - n) span (omega (arith, zero)))) (none zero))
]

-- ---- Where a reader stops, with a sequence or without one: no further than the sequence does.

body_stop : (bytes body rest : List ℕ) → AllByRecursion IsBodyByte body
    → bytes ≡ 27 ∷ 91 ∷ (body ++ rest) → 2 + length body ≤ stop 0 bytes
body_stop bytes body rest h e =
    let passed : prefix_len is_passed (drop 2 bytes) ≡ prefix_len is_passed (body ++ rest) = ap (λ (x : List ℕ). prefix_len is_passed (drop 2 x)) e in
    let more = passed_body body rest h in
    omega (arith, passed, more)

begun_stop : (bytes front rest : List ℕ) → Begins front → bytes ≡ front ++ rest
    → length front ≤ stop 0 bytes
begun_stop bytes front rest (inl none) e = omega (arith, ap length none)
begun_stop bytes front rest (inr (inl one)) e = omega (arith, ap length one)
begun_stop bytes front rest (inr (inr b)) e =
    let long = ap length b.1 in
    let most = body_stop bytes b.0 rest b.2.bytes (e ∙ ap (λ (x : List ℕ). x ++ rest) b.1) in
    omega (arith, most, long)

-- all of them begin a sequence
pub all_cost : (limit : ℕ) (bytes : List ℕ) → Begins (take limit bytes)
    → length (take limit bytes) ≤ length (take (stop 0 bytes + 1) bytes)
all_cost limit bytes b =
    let most = begun_stop bytes (take limit bytes) (drop limit bytes) b (sym (take-append-drop limit bytes)) in
    omega (arith, most, length-take limit bytes, length-take (stop 0 bytes + 1) bytes)

-- they begin one up to this place, and not with it
least : (limit : ℕ) (bytes near : List ℕ) (p at : ℕ) → near ≡ take limit bytes → p ≡ at → IsLeast near p
    → length (take (at + 1) near) ≤ length (take (stop 0 bytes + 1) bytes)
least limit bytes near p at same is l =
    let parts : bytes ≡ take p near ++ (drop p near ++ drop limit bytes) =
    sym (take-append-drop limit bytes) ∙ ap (λ (x : List ℕ). x ++ drop limit bytes) (sym same ∙ sym (take-append-drop p near)) ∙ append_assoc (take p near) (drop p near) (drop limit bytes) in
    let most = begun_stop bytes (take p near) (drop p near ++ drop limit bytes) (l.before p (omega arith)) parts in
    let within = l.within in
    omega (arith, is, most, within, ap length same, length-take p near, length-take (at + 1) near, length-take limit bytes, length-take (stop 0 bytes + 1) bytes)

-- a sequence stands in front
pub read_cost : (limit : ℕ) (bytes near rest : List ℕ) (list : List CsiParam) (final n : ℕ) → near ≡ take limit bytes
    → Reads near list final rest → n + length rest ≡ length near → n ≤ length (take (stop 0 bytes + 1) bytes)
read_cost limit bytes near rest list final n same (front, s, split) len =
    let body = (IsBody-from_spelling s.body list s.spellable s.spelled).bytes in
    let behind : List ℕ = final ∷ (rest ++ drop limit bytes) in
    let parts : bytes ≡ 27 ∷ 91 ∷ (s.body ++ behind) =
    sym (take-append-drop limit bytes) ∙ ap (λ (x : List ℕ). x ++ drop limit bytes) (sym same ∙ split ∙ ap (λ (x : List ℕ). x ++ rest) s.whole)
    ∙ ap (λ (x : List ℕ). 27 ∷ 91 ∷ x) (append_assoc (s.body ++ final ∷ []) rest (drop limit bytes) ∙ append_assoc s.body (final ∷ []) (rest ++ drop limit bytes)) in
    let most = body_stop bytes s.body behind body parts in
    let long : length front ≡ 2 + (length s.body + 1) = ap length s.whole ∙ omega (arith, length-append s.body (final ∷ [])) in
    let whole : length near ≡ length front + length rest = ap length split ∙ length-append front rest in
    omega (arith, most, long, whole, len, ap length same, length-take limit bytes, length-take (stop 0 bytes + 1) bytes)

-- by the error of a reader
pub fault_cost : (near : List ℕ) (room : ℕ) (e : ReadError) (limit at : ℕ) (bytes : List ℕ) → Refuses near room e
    → near ≡ take limit bytes → place e ≡ Some at
    → length (take (at + 1) near) ≤ length (take (stop 0 bytes + 1) bytes)
fault_cost near room (Truncated p) limit at bytes f same is =
    let most = all_cost limit bytes (subst Begins same f.1.0) in
    omega (arith, most, ap length same, length-take (at + 1) near)
fault_cost near room (NotCsi p) limit at bytes f same is = least limit bytes near p at same (same_Some p at is) f.1.0
fault_cost near room (BadByte p) limit at bytes f same is = least limit bytes near p at same (same_Some p at is) f.1.0
fault_cost near room (NumberTooLarge p) limit at bytes f same is = least limit bytes near p at same (same_Some p at is) f.1.0
fault_cost near room Memory limit at bytes f same is = absurd cc
