-- Runs of parts, one after the other.
use Rattle.std.proofs.Common.{◌≡◌, ◌≢◌, ◌<◌, ◌≤◌, ◌+◌, ◌-◌, ℕ, true, false, List, [], ◌∷◌, ◌++◌, map, inl, inr, ⊎_elim, length, take, drop, refl, sym, ap, subst, ◌∙◌, append_assoc, append-nil, arith, true≢false, length-append, length-drop, length-take-le, take-take, flat_map}
use Rattle.std.proofs.{lemmas.Bool.cases_Bool, Math.Seq.take-append_seam, lemmas.List.drop-append-le}
use Rattle.csicodec_tokens.proofs.Reading.{one_seq}
use Rattle.csicodec_parser.proofs.Cuts.{actions_are}
use Rattle.csicodec_streams.specs.{Decoding.Decodes, Known.IsOne, Faithful.stays}
use Rattle.csicodec_streams.proofs.OneReading.{decodes-append, decodes-one, one_decoding}
use Rattle.csicodec_spans.specs.Visits.{Call, Ends, Pause, PausesTo, Pushes, PushesTo, Rests, Stream, Tell, Visits, Writes, WritesCsi, parts_of, stream}
use Rattle.csicodec_spans.specs.{Parts.Part, Parts.part, Parts.bytes_of, Parts.AreAll, Parts.IsSpan, declared.table.Kind.Kind, declared.table.Mode.Mode}
use Rattle.csicodec_spans.specs.{Machine.Event, Machine.Open, Machine.collected, Told.mode_of, Told.part_of}
use Rattle.csicodec_spans.proofs.{Driven.parted, Driven.parted_from, Missed.span_all}
use Rattle.csicodec_transform.specs.Transform.{Begins as BeginsWith, Sends, Transforms}
use Rattle.csicodec_filter.proofs.Written.{made, makes}
use Rattle.csicodec_compact.specs.Runs.{IsStaying, NoneStays, Shortens, AreRuns, PassesShort, CompactsAll, most_joined}
use Rattle.csicodec_compact.specs.Private.Steps.{Begins, joint, behind, is_joined, may_join, list_of, IsTail, IsNotedList, IsNoted, IsNote, HasFew, LeavesRoom, GoesOnFrom, IsEnd, IsHeld, Extends, GoesOnBy}
use Rattle.csicodec_compact.specs.{declared.form.TextEnding.TextEnding, declared.shortener.Shortener.Shortener}
use Rattle.csicodec_compact.proofs.Common.{AllByRecursion, flat_map-append, all-append, CsiParam, Seq, actions, Action, IsShortened, Does, form_of, closing, opened, IsListed, IsOwn, Compacts, ReadsAlike}
use Rattle.csicodec_compact.proofs.JoinedLists.{tail_joined, tail_decodes, joint_short}

-- ---- bytes in front of others

pub begins_one : (bytes wide : List ℕ) → Begins bytes wide → Begins (drop 1 bytes) (drop 1 wide)
begins_one [] wide h = record { more = drop 1 wide; whole = refl }
begins_one (b ∷ bytes) wide h = record { more = h.more; whole = ap (λ (l : List ℕ). drop 1 l) h.whole }

pub begins_two : (bytes wide : List ℕ) → 2 ≤ length bytes → Begins bytes wide → Begins (drop 2 bytes) (drop 2 wide)
begins_two bytes wide long h = record { more = h.more; whole = ap (λ (l : List ℕ). drop 2 l) h.whole ∙ drop-append-le 2 bytes h.more long }

pub short_front : (bytes wide front : List ℕ) → Begins bytes wide → front ≡ take 32 wide → length bytes ≤ 32 → take (length bytes) front ≡ bytes
short_front bytes wide front h is short =
    ap (λ (l : List ℕ). take (length bytes) l) is ∙ take-take (length bytes) 32 wide short ∙ ap (λ (l : List ℕ). take (length bytes) l) h.whole ∙ take-append_seam bytes h.more

-- ---- runs

runs_on : (rs qs : List (List Part)) (ps more : List Part) (s t : List ℕ) → AreRuns rs ps s → AreRuns qs more t → AreRuns (rs ++ qs) (ps ++ more) (s ++ t)
runs_on [] qs ps more s t h k = rw (h.0, h.1) k
runs_on (r ∷ rs) qs ps more s t (rest, first, others, is, text, run, runs) k =
    (rest ++ more, first, others ++ t, rw is (append_assoc r rest more), rw text (append_assoc first others t), run, runs_on rs qs rest more others t runs k)

pub shortened_on : (ps more : List Part) (s t : List ℕ) → IsShortened ps s → IsShortened more t → IsShortened (ps ++ more) (s ++ t)
shortened_on ps more s t h k = (h.0 ++ k.0, runs_on h.0 k.0 ps more s t h.1 k.1)

shortened_none : IsShortened [] []
shortened_none = ([], (refl, refl))

pub shortened_run : (run : List Part) (text : List ℕ) → Shortens run text → IsShortened run text
shortened_run run text h = (run ∷ [], ([], text, [], sym (append-nil run), sym (append-nil text), inl h, (refl, refl)))

shortened_plain : (k : Kind) (bytes : List ℕ) → k ≢ Kind.Csi → IsShortened (part k bytes ∷ []) bytes
shortened_plain k bytes ne = ((part k bytes ∷ []) ∷ [], ([], bytes, [], refl, sym (append-nil bytes), inr (part k bytes, refl, ne, refl), (refl, refl)))

-- ---- one sequence, and two runs joined

pub free_by : (bytes : List ℕ) (list : List CsiParam) (final : ℕ) → Seq bytes list final → stays list final ≡ false → ¬ IsStaying bytes
free_by bytes list final s free = λ staying.
    let (other, last, t, stay) = staying in
    let same = one_seq bytes bytes [] [] list other final last s t refl in
    true≢false (sym (rw (← same.1, ← same.2) at stay) ∙ free)

one_short : (bytes own : List ℕ) → IsOne bytes → Compacts bytes own → Shortens (part Kind.Csi bytes ∷ []) own
one_short bytes own (list, final, s) h =
    let xs = actions list false final in
    let came : Decodes bytes false xs = decodes-one bytes list false final xs s (actions_are list false final) in
    record {
      all = (refl, tt);
      actions = xs;
      came = rw (append-nil bytes) came;
      written = h.alike xs came;
      short = rw (append-nil bytes) h.short;
      within = inr (part Kind.Csi bytes, refl);
      kept = elim (cases_Bool (stays list final)) [
        | inl stay ↦ inr (part Kind.Csi bytes, refl, h.kept list final s stay)
        | inr free ↦ inl (free_by bytes list final s free, tt)
      ];
    }

pub joined_short : (run more : List Part) (held own joined : List ℕ) → Shortens run held → Shortens more own → NoneStays run → NoneStays more
    → length joined ≤ length (held ++ own) → ReadsAlike (held ++ own) joined → length joined ≤ most_joined
    → Shortens (run ++ more) joined
joined_short run more held own joined h k free others short alike within =
    let bytes = flat_map-append bytes_of run more in
    record {
      all = all-append (λ (p : Part). p.kind ≡ Kind.Csi) run more h.all k.all;
      actions = h.actions ++ k.actions;
      came = rw bytes (decodes-append (flat_map bytes_of run) (flat_map bytes_of more) false h.actions k.actions h.came k.came);
      written = alike (h.actions ++ k.actions) (decodes-append held own false h.actions k.actions h.written k.written);
      short = omega (arith, short, h.short, k.short, length-append held own, length-append (flat_map bytes_of run) (flat_map bytes_of more), ap length bytes);
      within = inl within;
      kept = inl (all-append (λ (p : Part). ¬ IsStaying p.bytes) run more free others);
    }

-- ---- what is held

-- nothing
pub none_held : (room : ℕ) → IsHeld [] [] TextEnding.Whole room
none_held room = record { front = []; left = []; text = []; tail = []; parts = refl; whole = refl; written = shortened_none; end = (refl, refl) }

-- nothing goes on
held_whole : (run : List Part) (held : List ℕ) (room : ℕ) → IsShortened run held → IsHeld run held TextEnding.Whole room
held_whole run held room h = record { front = run; left = []; text = held; tail = []; parts = sym (append-nil run); whole = sym (append-nil held); written = h; end = (refl, refl) }

module _ (run front left : List Part) (held text list : List ℕ) (xs : List Action) (room : ℕ) (parts : run ≡ front ++ left) (whole : held ≡ text ++ 27 ∷ 91 ∷ list) (written : IsShortened front text) (few : LeavesRoom room list) where
  held_last : Shortens left (27 ∷ 91 ∷ (list ++ [])) → IsHeld run held TextEnding.Last room
  held_last short = record {
    front = run;
    left = [];
    text = held;
    tail = [];
    parts = rw append-nil refl;
    whole = rw append-nil refl;
    written = rw (parts, whole) (shortened_on front left text (27 ∷ 91 ∷ list) written (shortened_run left (27 ∷ 91 ∷ list) (rw append-nil at short)));
    end = (refl, refl);
  }

  -- a list that is held behind others
  held_list : (form : TextEnding) → IsTail form list xs → Shortens left (27 ∷ 91 ∷ (list ++ closing form)) → NoneStays left → IsHeld run held form room
  held_list TextEnding.Whole tail short free = absurd tail
  held_list TextEnding.Last tail short free = held_last short
  held_list form tail short free = record {
    front = front;
    left = left;
    text = text;
    tail = 27 ∷ 91 ∷ list;
    parts = parts;
    whole = whole;
    written = written;
    end = record { list = list; actions = xs; whole = refl; tail = tail; shorter = short; free = free; few = few };
  }

-- what is held, closed
pub closed : (run : List Part) (held : List ℕ) (form : TextEnding) (room : ℕ) → IsHeld run held form room → IsShortened run (held ++ closing form)
closed run held form room h = go form h.end
  where
    go : (form : TextEnding) → IsEnd form room h.left h.tail → IsShortened run (held ++ closing form)
    go TextEnding.Whole none = rw (append-nil held, h.parts, h.whole, none.0, none.1, append-nil h.front, append-nil h.text) h.written
    go TextEnding.Last none = rw (append-nil held, h.parts, h.whole, none.0, none.1, append-nil h.front, append-nil h.text) h.written
    go form g =
        let shut = 27 ∷ 91 ∷ (g.list ++ closing form) in
        rw (h.parts, h.whole, g.whole, append_assoc) (shortened_on h.front h.left h.text shut h.written (shortened_run h.left shut g.shorter))

-- what is joined is short
joint_few : (st form : TextEnding) (text : List ℕ) → length text ≤ 255 → length (joint st form text) ≤ 255
joint_few st form text few = grind arith

closing_few : (form : TextEnding) → length (closing form) ≤ 2
closing_few TextEnding.Whole = omega arith
closing_few _ = omega arith

module _ (run : List Part) (bytes held text : List ℕ) (st : TextEnding) (room left : ℕ) (h : IsHeld run held st room) (one : IsOne bytes) where
  -- a list begins behind it
  begun_list : (form : TextEnding) → (n : IsNotedList form bytes text) → (left ≤ 15) × (length text ≤ 255) → IsHeld (run ++ part Kind.Csi bytes ∷ []) ((held ++ closing st) ++ 27 ∷ 91 ∷ drop 1 text) form left
  begun_list form n few =
      let same : 27 ∷ 91 ∷ drop 1 text ≡ 27 ∷ 91 ∷ n.list = ap (λ (l : List ℕ). 27 ∷ 91 ∷ drop 1 l) n.whole in
      held_list (run ++ part Kind.Csi bytes ∷ []) run (part Kind.Csi bytes ∷ []) ((held ++ closing st) ++ 27 ∷ 91 ∷ drop 1 text) (held ++ closing st) n.list n.actions left refl
      (ap (λ (l : List ℕ). (held ++ closing st) ++ l) same) (closed run held st room h) (omega (arith, few.0, few.1, ap length n.whole)) form n.tail (one_short bytes (27 ∷ 91 ∷ (n.list ++ closing form)) one n.compacts) (n.free, tt)

  -- a list in the same sequence
  list_joined : (form : TextEnding) → (n : IsNotedList form bytes text) → GoesOnFrom st room h.left h.tail → may_join st form text ≡ true → (left + 1 ≤ room) × (length text ≤ 255)
      → IsHeld (run ++ part Kind.Csi bytes ∷ []) (held ++ joint st form text) (behind st form) left
  list_joined form n g may few =
      let p = part Kind.Csi bytes ∷ [] in
      let may' : may_join st form (59 ∷ n.list) ≡ true = subst (λ (l : List ℕ). may_join st form l ≡ true) n.whole may in
      let list = g.list ++ joint st form (59 ∷ n.list) in
      let first = 27 ∷ 91 ∷ (g.list ++ closing st) in
      let second = 27 ∷ 91 ∷ (n.list ++ closing form) in
      let all = 27 ∷ 91 ∷ (list ++ closing (behind st form)) in
      let tail : IsTail (behind st form) list (g.actions ++ n.actions) = tail_joined st form g.list n.list g.actions n.actions g.tail n.tail may' in
      let apart : Decodes (first ++ second) false (g.actions ++ n.actions) =
      decodes-append first second false g.actions n.actions (tail_decodes st g.list g.actions g.tail) (tail_decodes form n.list n.actions n.tail) in
      let alike : ReadsAlike (first ++ second) all =
      λ actions d. subst (Decodes all false) (one_decoding (first ++ second) false (g.actions ++ n.actions) actions apart d) (tail_decodes (behind st form) list (g.actions ++ n.actions) tail) in
      let longer : length list ≡ length g.list + length (joint st form (59 ∷ n.list)) = length-append g.list (joint st form (59 ∷ n.list)) in
      let more : length (joint st form (59 ∷ n.list)) ≤ 255 = joint_few st form (59 ∷ n.list) (subst (λ (l : List ℕ). length l ≤ 255) n.whole few.1) in
      let leaves : LeavesRoom left list = omega (arith, g.few, longer, more, few.0) in
      let within : length all ≤ most_joined = omega (arith, leaves, closing_few (behind st form), length-append list (closing (behind st form))) in
      let short = joined_short h.left p first second all g.shorter (one_short bytes second one n.compacts) g.free (n.free, tt) (joint_short st form g.list n.list may') alike within in
      let text' : held ++ joint st form text ≡ h.text ++ 27 ∷ 91 ∷ list = rw (n.whole, h.whole, g.whole) (append_assoc h.text (27 ∷ 91 ∷ g.list) (joint st form (59 ∷ n.list))) in
      held_list (run ++ p) h.front (h.left ++ p) (held ++ joint st form text) h.text list (g.actions ++ n.actions) left
      (rw h.parts (append_assoc h.front h.left p)) text' h.written leaves
      (behind st form) tail short (all-append (λ (q : Part). ¬ IsStaying q.bytes) h.left p g.free (n.free, tt))

-- what is noted of a sequence
pub noted : (bytes text : List ℕ) (form : TextEnding) → ¬ IsStaying bytes → Compacts bytes text → IsListed form text → IsNotedList form bytes (59 ∷ list_of form text)
noted bytes text form free made h =
    let long : length (h.bytes ++ closing form) - length (closing form) ≡ length h.bytes = omega (arith, length-append h.bytes (closing form)) in
    let same : list_of form text ≡ h.bytes = rw (h.whole, long) (take-append_seam h.bytes (closing form)) in
    record {
      list = h.bytes;
      actions = h.actions;
      whole = ap (λ (l : List ℕ). 59 ∷ l) same;
      tail = h.tail;
      compacts = subst (Compacts bytes) h.whole made;
      free = free;
    }

listed_long : (form : TextEnding) (text : List ℕ) → IsListed form text → 2 + length (closing form) ≤ length text
listed_long form text h = omega (arith, ap length h.whole, length-append h.bytes (closing form))

-- and not too long
list_short : (form : TextEnding) (text : List ℕ) → 2 + length (closing form) ≤ length text → length text ≤ 256 → length (59 ∷ list_of form text) ≤ 255
list_short form text long few =
    let behind : length (drop 2 text) ≡ length text - 2 = length-drop 2 text in
    let taken : length (list_of form text) ≡ length (drop 2 text) - length (closing form) = length-take-le (length (drop 2 text) - length (closing form)) (drop 2 text) (omega arith) in
    omega (arith, behind, taken, long, few)

-- a text that is a list is long enough
pub own_long : (form : TextEnding) (text : List ℕ) → IsOwn form text → is_joined form ≡ true → 2 + length (closing form) ≤ length text
own_long TextEnding.Whole text own is = absurd (true≢false (sym is))
own_long form text own is = listed_long form text own

pub note_of : (bytes text note : List ℕ) (form : TextEnding) → IsOne bytes → Compacts bytes text → IsOwn form text → (is_joined form ≡ true → ¬ IsStaying bytes)
    → (is_joined form ≡ true → length text ≤ 256)
    → (is_joined form ≡ false → (mark : ℕ) × (count : ℕ) × (form_of mark ≡ form) × (note ≡ mark ∷ count ∷ text))
    → (is_joined form ≡ true → (mark : ℕ) × (count : ℕ) × (form_of mark ≡ form) × (1 ≤ count) × (note ≡ mark ∷ count ∷ 59 ∷ list_of form text)) → IsNote bytes note
note_of bytes text note TextEnding.Whole one made own free few whole list =
    let (mark, count, is, e) = whole refl in (mark, count, text, e, one, rw is made, λ joined. absurd (true≢false (sym joined ∙ ap is_joined is)))
note_of bytes text note form one made own free few whole list =
    let (mark, count, is, some, e) = list refl in
    (mark, count, 59 ∷ list_of form text, e, one, rw is (noted bytes text form (free refl) made own), λ _. (some, list_short form text (listed_long form text own) (few refl)))

pub note_long : (bytes note : List ℕ) → IsNote bytes note → 2 ≤ length note
note_long bytes note n = omega (arith, ap length n.3)

-- ---- what is written for more parts

-- a text that stands by itself
pub extends_one : (st form : TextEnding) (room left count : ℕ) (bytes text : List ℕ) → IsOne bytes → IsNoted form bytes text → HasFew form count text → left ≤ 16 - count
    → Extends st room (part Kind.Csi bytes ∷ []) (closing st ++ opened form text) form left
extends_one st TextEnding.Whole room left count bytes text one n few leaves run before h =
    rw (← append_assoc before (closing st) text)
    (held_whole (run ++ part Kind.Csi bytes ∷ []) ((before ++ closing st) ++ text) left
    (shortened_on run (part Kind.Csi bytes ∷ []) (before ++ closing st) text (closed run before st room h) (shortened_run (part Kind.Csi bytes ∷ []) text (one_short bytes text one n))))
extends_one st form room left count bytes text one n few leaves run before h =
    rw (← append_assoc before (closing st) (opened form text)) (begun_list run bytes before text st room left h one form n (omega (arith, (few refl).0, leaves), (few refl).1))

-- a sequence can be written as it came
pub as_it_came : (bytes : List ℕ) → Compacts bytes bytes
as_it_came bytes = record { alike = λ actions d. d; short = omega arith; kept = λ list final s stay. refl }

pub shortened_one : (bytes : List ℕ) → IsOne bytes → IsShortened (part Kind.Csi bytes ∷ []) bytes
shortened_one bytes one = shortened_run (part Kind.Csi bytes ∷ []) bytes (one_short bytes bytes one (as_it_came bytes))

-- one in the same list
pub extends_joined : (st form : TextEnding) (room left count : ℕ) (bytes text : List ℕ) → IsOne bytes → IsNoted form bytes text → may_join st form text ≡ true → HasFew form count text
    → left + count ≤ room → Extends st room (part Kind.Csi bytes ∷ []) (joint st form text) (behind st form) left
extends_joined TextEnding.Whole form room left count bytes text one n may few leaves run before h = cc
extends_joined TextEnding.Last form room left count bytes text one n may few leaves run before h = cc
extends_joined st TextEnding.Whole room left count bytes text one n may few leaves run before h = cc
extends_joined st form room left count bytes text one n may few leaves run before h =
    list_joined run bytes before text st room left h one form n h.end may (omega (arith, (few refl).0, leaves), (few refl).1)

-- what stands as it came
pub extends_own : (st : TextEnding) (room left : ℕ) (bytes : List ℕ) (parts : List Part) → IsShortened parts bytes → Extends st room parts (closing st ++ bytes) TextEnding.Whole left
extends_own st room left bytes parts short run before h =
    rw (← append_assoc before (closing st) bytes)
    (held_whole (run ++ parts) ((before ++ closing st) ++ bytes) left (shortened_on run parts (before ++ closing st) bytes (closed run before st room h) short))

-- no more parts, where the list is closed
pub extends_close : (st : TextEnding) (room left : ℕ) → Extends st room [] (closing st) TextEnding.Whole left
extends_close st room left run before h = rw (append-nil run) (held_whole run (before ++ closing st) left (closed run before st room h))

-- ---- a visitor

-- a control sequence
pub csi_writes : (v w : Shortener) (bytes before after : List ℕ) → GoesOnBy v.written.form v.written.room (part Kind.Csi bytes ∷ []) before after w.written.form w.written.room
    → WritesCsi Does v bytes before after w
csi_writes v w bytes before after (text, is, goes) = (text, (w, text, [], (goes, tt), sym (append-nil text), (refl, refl)), is)

-- one that is written as it came
pub own_writes : (v w : Shortener) (bytes before after : List ℕ) → IsOne bytes → w.written.form ≡ TextEnding.Whole → after ≡ (before ++ closing v.written.form) ++ bytes → WritesCsi Does v bytes before after w
own_writes v w bytes before after one over out =
    let close = closing v.written.form in
    csi_writes v w bytes before after (
      close ++ bytes,
      out ∙ append_assoc before close bytes,
      subst (λ (f : TextEnding). Extends v.written.form v.written.room (part Kind.Csi bytes ∷ []) (close ++ bytes) f w.written.room) (sym over)
          (extends_own v.written.form v.written.room w.written.room bytes (part Kind.Csi bytes ∷ []) (shortened_one bytes one)),
    )

pub none_writes : (v : Shortener) (out : List ℕ) → Writes Does v [] out out v
none_writes v out = ([], (refl, refl), sym (append-nil out))

-- what is no control sequence: the list before it is over
other_does : (k : Kind) (v w : Shortener) (e : Event) → w.written.form ≡ TextEnding.Whole → k ≢ Kind.Csi → (part_of e).kind ≡ k → Does v (Tell e) (closing v.written.form ++ (part_of e).bytes) w
other_does k v w e over ne is =
    let p = part_of e in (
      subst (λ (f : TextEnding). Extends v.written.form v.written.room (p ∷ []) (closing v.written.form ++ p.bytes) f w.written.room) (sym over)
          (extends_own v.written.form v.written.room w.written.room p.bytes (p ∷ []) (shortened_plain p.kind p.bytes (λ csi. ne (sym is ∙ csi)))),
      tt,
    )

others_do : (k : Kind) (w : Shortener) (events : List Event) → w.written.form ≡ TextEnding.Whole → k ≢ Kind.Csi → AllByRecursion (λ (p : Part). p.kind ≡ k) (map part_of events)
    → Visits Does w (map Tell events) (flat_map bytes_of (map part_of events)) w
others_do k w [] over ne all = (refl, refl)
others_do k w (e ∷ events) over ne (is, all) =
    let own = (part_of e).bytes in
    let none : closing w.written.form ++ own ≡ own = ap (λ (f : TextEnding). closing f ++ own) over in
    (w, own, flat_map bytes_of (map part_of events), subst (λ (t : List ℕ). Does w (Tell e) t w) none (other_does k w w e over ne is), refl, others_do k w events over ne all)

pub other_writes : (k : Kind) (v w : Shortener) (events : List Event) (bytes before after : List ℕ) → w.written.form ≡ TextEnding.Whole → after ≡ (before ++ closing v.written.form) ++ bytes
    → k ≢ Kind.Csi → IsSpan k bytes (map part_of events) → Writes Does v (map Tell events) before after w
other_writes k v w [] bytes before after over out ne span = absurd (omega (arith, (span_all k bytes [] span).some))
other_writes k v w (e ∷ events) bytes before after over out ne span =
    let all : AreAll k bytes (map part_of (e ∷ events)) = span_all k bytes (map part_of (e ∷ events)) span in
    let own = (part_of e).bytes in
    let more = flat_map bytes_of (map part_of events) in
    let close = closing v.written.form in (
      close ++ bytes,
      (
        w,
        close ++ own,
        more,
        other_does k v w e over ne all.all.0,
        ap (λ (t : List ℕ). close ++ t) (sym all.joined) ∙ sym (append_assoc close own more),
        others_do k w events over ne all.all.1,
      ),
      out ∙ append_assoc before close bytes,
    )

-- a pause
pub pause_does : (v w : Shortener) → w.written.form ≡ TextEnding.Whole → Does v Pause (closing v.written.form) w
pause_does v w over =
    (subst (λ (f : TextEnding). Extends v.written.form v.written.room [] (closing v.written.form) f w.written.room) (sym over) (extends_close v.written.form v.written.room w.written.room), over)

-- what is written for calls in turn goes on with what was
visits_held : (v w : Shortener) (calls : List Call) (text : List ℕ) → Visits Does v calls text w → Extends v.written.form v.written.room (parts_of calls) text w.written.form w.written.room
visits_held v w [] text (none, same) run before h =
    subst (λ (x : Shortener). IsHeld (run ++ []) (before ++ text) x.written.form x.written.room) (sym same) (rw (append-nil run, none, append-nil before) h)
visits_held v w (Tell e ∷ calls) text (mid, first, others, (goes, rests), parts, rest) run before h =
    rw (parts, ← append_assoc before first others, ← append_assoc run (part_of e ∷ []) (parts_of calls))
    (visits_held mid w calls others rest (run ++ part_of e ∷ []) (before ++ first) (goes run before h))
visits_held v w (Pause ∷ calls) text (mid, first, others, (goes, rests), parts, rest) run before h =
    rw (parts, ← append_assoc before first others)
    (visits_held mid w calls others rest run (before ++ first) (rw (append-nil run) at (goes run before h)))

-- ---- a stream

-- what is held, where nothing goes on
over : (run : List Part) (held : List ℕ) (form : TextEnding) (room : ℕ) → IsHeld run held form room → form ≡ TextEnding.Whole → IsShortened run held
over run held form room h whole = rw (append-nil held) at (closed run held TextEnding.Whole room (rw whole at h))

module _ (v : Shortener) (whole : v.written.form ≡ TextEnding.Whole) where
  -- what is held for calls, where nothing went on
  held_of : (w : Shortener) (calls : List Call) (text : List ℕ) → Visits Does v calls text w → IsHeld (parts_of calls) text w.written.form w.written.room
  held_of w calls text h = visits_held v w calls text h [] [] (rw whole (none_held v.written.room))

  -- and what is written for them, behind a pause
  paused : (w x : Shortener) (calls : List Call) (text more : List ℕ) → Visits Does v calls text w → Does w Pause more x → IsShortened (parts_of calls) (text ++ more)
  paused w x calls text more h (goes, rests) =
      over (parts_of calls) (text ++ more) x.written.form x.written.room (rw (append-nil (parts_of calls)) at (goes (parts_of calls) text (held_of w calls text h))) rests

-- what has passed at the end of a push, where the list is over
pub passes_over : (s t u : Stream Shortener) (bytes before between after : List ℕ) → s.visitor.written.form ≡ TextEnding.Whole → PushesTo Does s bytes before between t
    → PausesTo Does t between after u
    → (text : List ℕ) × PassesShort s.limit (mode_of s.state) (collected s.state ++ bytes) text (collected u.state) (mode_of u.state) × (after ≡ before ++ text)
passes_over s t u bytes before between after whole h k =
    let p = parted Does s t bytes before between h in
    let state = ap (λ (x : Stream Shortener). x.state) k.to in (
      h.text ++ k.text,
      record {
        parts = parts_of h.pushes.calls;
        first = rw state p.first;
        unsure = rw state p.unsure;
        written = paused s.visitor whole t.visitor u.visitor h.pushes.calls h.text k.text h.pushes.visits k.does_so;
      },
      k.out ∙ ap (λ (l : List ℕ). l ++ k.text) h.out ∙ append_assoc before h.text k.text,
    )

-- the end
pub compacts_all : (limit : ℕ) (m a : Mode) (bytes text rest : List ℕ) → PassesShort limit m bytes text rest a → CompactsAll limit m bytes (text ++ rest)
compacts_all = makes IsShortened shortened_none shortened_plain shortened_on

module _ (limit : ℕ) (v : Shortener) (some : 0 < limit) (whole : v.written.form ≡ TextEnding.Whole) where
  abbrev First : Stream Shortener
  First = stream limit (Open Mode.Text) v

  -- what passed, where nothing goes on
  pub since_rests : (last : Stream Shortener) (bytes text : List ℕ) → Pushes Does First bytes text last → Rests Does last → PassesShort limit Mode.Text bytes text (collected last.state) (mode_of last.state)
  since_rests last bytes text h (w, own, does) =
      let p = parted_from Does First last bytes text some tt h in
      record {
        parts = parts_of h.calls;
        first = p.first;
        unsure = p.unsure;
        written = over (parts_of h.calls) text last.visitor.written.form last.visitor.written.room (held_of v whole last.visitor h.calls text h.visits) does.1;
      }

  -- all bytes, and what was held
  pub compacted : (bytes text : List ℕ) → Transforms (Pushes Does) (Ends Does) First bytes text → CompactsAll limit Mode.Text bytes text
  compacted bytes text =
      made IsShortened shortened_none shortened_plain shortened_on Does limit v bytes text some
      (λ calls own more last done visits pauses. paused v whole last done calls own more visits pauses)

  -- what went out is a front of what is made of the bytes
  pub begun_compacts : (AreAll : Type 0) (bytes sent : List ℕ) → BeginsWith (Sends (Pushes Does) First) (Transforms (Pushes Does) (Ends Does) First) AreAll bytes sent
      → (unsent : List ℕ) × CompactsAll limit Mode.Text bytes (sent ++ unsent)
  begun_compacts AreAll bytes sent (unsent, h) = ⊎_elim
      (λ (k : Sends (Pushes Does) First bytes (sent ++ unsent)).
      let (last, since) = k in
      let form = last.visitor.written.form in
      let held = collected last.state in
      let p = parted_from Does First last bytes (sent ++ unsent) some tt since in
      let passed : PassesShort limit Mode.Text bytes ((sent ++ unsent) ++ closing form) held (mode_of last.state) =
      record {
        parts = parts_of since.calls;
        first = p.first;
        unsure = p.unsure;
        written = closed (parts_of since.calls) (sent ++ unsent) form last.visitor.written.room (held_of v whole last.visitor since.calls (sent ++ unsent) since.visits);
      } in
      let same : ((sent ++ unsent) ++ closing form) ++ held ≡ sent ++ (unsent ++ (closing form ++ held)) =
      append_assoc (sent ++ unsent) (closing form) held ∙ append_assoc sent unsent (closing form ++ held) in
      (unsent ++ (closing form ++ held), rw same at (compacts_all limit Mode.Text (mode_of last.state) bytes ((sent ++ unsent) ++ closing form) held passed)))
      (λ (k : AreAll × Transforms (Pushes Does) (Ends Does) First bytes (sent ++ unsent)). (unsent, compacted bytes (sent ++ unsent) k.1))
      h
