-- Bytes have one reading, and readings join; positions in front, and a stream that is decoded as it is read.
use Rattle.std.proofs.Common.{ℕ, ◌≡◌, List, [], ◌∷◌, ◌++◌, Bool, length, refl, sym, ap, subst, ◌∙◌, arith, append_assoc, append-nil, zero, ◌<◌, ◌≤◌, ◌+◌, ◌-◌, ◌^◌, false, suc, get_or, take, drop, inl, rules, length-append, length-take, take-append-drop, take_all, true, Option, Some, None, IfSome, Result, Ok, Err, OnErr, length-drop}
use Rattle.std.proofs.{Math.Seq.take-append_seam, Math.Seq.drop-append_seam, lemmas.Fmt.decimal-digits_value, lemmas.Fmt.decimal_digit}
use Rattle.std.proofs.{lemmas.Str.Parse.IsNumeralModel, lemmas.Str.Parse.digits_value_short, lemmas.Str.Parse.numerals_by_fold, KnownBytes.Consumes-all}
use Rattle.std.proofs.{lemmas.Grind.flat_map-append}
use Rattle.std.specs.{List.AllByRecursion, Fmt.decimal, Io.KnownBytes.Consumes, Io.KnownBytes.IsAtEnd}
use Rattle.csicodec_tokens.specs.{declared.param.CsiParam.CsiParam, declared.reader.ReadError.ReadError, Fault.NoSeq, Fault.Fault, Fault.Refuses}
use Rattle.csicodec_tokens.specs.{Sequence.IsFinal, Sequence.Seq, Sequence.Spellable, Sequence.Spells, Sequence.Reads, Digits.AreDigits, Digits.value}
use Rattle.csicodec_tokens.specs.{Digits.value_after, Param.spells}
use Rattle.csicodec_tokens.proofs.{Reading.one_seq, Reading.first_cut, Beginnings.one_fault, Beginnings.fault_more, Printed.printed}
use Rattle.csicodec_actions.specs.{Actions.Action, Table.text, Table.texts, Kinds.Count, Kinds.IsOneBased, Written.AllGood, Written.Written, Written.tokens}
use Rattle.csicodec_actions.specs.{Written.two, Written.write, Written.written_text, declared.cursor.Cursor.Cursor}
use Rattle.csicodec_parser.specs.Segments.{Actions}
use Rattle.csicodec_streams.specs.{Decoding.Joins, Decoding.AreActions, Decoding.Decodes, Decoding.FaultAt, Known.IsNormal, Known.IsPosition, Known.IsOne}
use Rattle.csicodec_streams.specs.{Private.Steps.IsNumber, Private.Steps.DecodesFront, Private.Steps.stays, Refusals.RefusesDecode, Refusals.RefusesRun}
use Rattle.csicodec_streams.specs.{Refusals.refusal_of}
use Rattle.csicodec_parser.proofs.Cuts.{one_segmentation}
use Rattle.csicodec_actions.proofs.Back.{read-back, IsRead, sound}
use Rattle.csicodec_transform.specs.{declared.error.DecodeError.DecodeError, Words.run_refusal}
use Rattle.csicodec_actions.specs.Actions as action

abbrev Sequences : Type 0
Sequences = List (List CsiParam × ℕ)

-- no sequence is empty
none_in_none : NoSeq []
none_in_none list final rest r = cc (rw r.1.whole at r.2)

-- ---- one join

-- where no sequence stands behind either, the joined bytes are the same, and so are the sequences
one_front : (ss ts : Sequences) (f g r q : List ℕ) → Joins f ss → Joins g ts → NoSeq r → NoSeq q → f ++ r ≡ g ++ q → (ss ≡ ts) × (f ≡ g) × (r ≡ q)
one_front [] [] f g r q j k n m e = (refl, j ∙ sym k, sym (ap (λ (l : List ℕ). l ++ r) j) ∙ e ∙ ap (λ (l : List ℕ). l ++ q) k)
one_front [] (t ∷ ts) f g r q j k n m e =
    absurd (n t.0 t.1 (k.1 ++ q) (k.0, k.3, sym (ap (λ (l : List ℕ). l ++ r) j) ∙ e ∙ ap (λ (l : List ℕ). l ++ q) k.2 ∙ append_assoc k.0 k.1 q))
one_front (s ∷ ss) [] f g r q j k n m e =
    absurd (m s.0 s.1 (j.1 ++ r) (j.0, j.3, sym (ap (λ (l : List ℕ). l ++ q) k) ∙ sym e ∙ ap (λ (l : List ℕ). l ++ r) j.2 ∙ append_assoc j.0 j.1 r))
one_front ((list, final) ∷ ss) ((other, last) ∷ ts) f g r q j k n m e =
    let parts : j.0 ++ (j.1 ++ r) ≡ k.0 ++ (k.1 ++ q) =
    sym (append_assoc j.0 j.1 r) ∙ sym (ap (λ (l : List ℕ). l ++ r) j.2) ∙ e ∙ ap (λ (l : List ℕ). l ++ q) k.2 ∙ append_assoc k.0 k.1 q in
    let same = one_seq j.0 k.0 (j.1 ++ r) (k.1 ++ q) list other final last j.3 k.3 parts in
    let more = one_front ss ts j.1 k.1 r q j.4 k.4 n m same.3 in
    (rw (same.1, same.2, more.0) refl, j.2 ∙ rw (same.0, more.1) refl ∙ sym k.2, more.2)

-- ---- one decoding

one_list : (ss : Sequences) (flag : Bool) (xs ys : List Action) → AreActions ss flag xs → AreActions ss flag ys → xs ≡ ys
one_list [] flag xs ys x y = x ∙ sym y
one_list (s ∷ ss) flag xs ys x y =
    let first = one_segmentation s.0 flag s.1 x.0 y.0 x.3 y.3 in
    let more = one_list ss flag x.1 y.1 x.4 y.4 in
    x.2 ∙ rw (first, more) refl ∙ sym y.2

pub one_decoding : (bytes : List ℕ) (flag : Bool) (xs ys : List Action) → Decodes bytes flag xs → Decodes bytes flag ys → xs ≡ ys
one_decoding bytes flag xs ys x y =
    let same = (one_front x.sequences y.sequences bytes bytes [] [] x.join y.join none_in_none none_in_none refl).0 in
    one_list x.sequences flag xs ys x.each (rw (← same) at y.each)

-- ---- a fault

-- bytes with a fault are no join of sequences
pub fault_apart : (bytes : List ℕ) (flag : Bool) (start : ℕ) (error : ReadError) (xs : List Action) → FaultAt bytes start error → Decodes bytes flag xs → ⊥
fault_apart bytes flag start error xs f d =
    let parts : f.front ++ f.rest ≡ bytes ++ [] = sym f.parts ∙ sym (append-nil bytes) in
    omega (arith, f.some, ap length (one_front f.sequences d.sequences f.front bytes f.rest [] f.join d.join f.fault.0 none_in_none parts).2)

pub one_fault_at : (bytes : List ℕ) (s t : ℕ) (e d : ReadError) → FaultAt bytes s e → FaultAt bytes t d → (s ≡ t) × (e ≡ d)
one_fault_at bytes s t e d f g =
    let same = one_front f.sequences g.sequences f.front g.front f.rest g.rest f.join g.join f.fault.0 g.fault.0 (sym f.parts ∙ g.parts) in
    (f.place ∙ ap length same.1 ∙ sym g.place, one_fault g.rest e d (subst (λ (l : List ℕ). Fault l e) same.2 f.fault.1) g.fault.1)

-- ---- decodings join

-- the sequence of what spells its list
pub seq_of : (list : List CsiParam) (final : ℕ) (body : List ℕ) → Spellable list → IsFinal final → Spells body list → Seq (27 ∷ 91 ∷ (body ++ final ∷ [])) list final
seq_of list final body ok ends spelled = record { spellable = ok; ends = ends; body = body; spelled = spelled; whole = refl }

-- one sequence
pub decodes-one : (bytes : List ℕ) (list : List CsiParam) (flag : Bool) (final : ℕ) (xs : List Action) → Seq bytes list final → Actions list flag final xs
    → Decodes bytes flag xs
decodes-one bytes list flag final xs s a = record {
  sequences = (list, final) ∷ [];
  join = (bytes, [], sym (append-nil bytes), s, refl);
  each = (xs, [], sym (append-nil xs), a, refl);
}

pub joins-append : (ss ts : Sequences) (x y : List ℕ) → Joins x ss → Joins y ts → Joins (x ++ y) (ss ++ ts)
joins-append [] ts x y j k = rw j k
joins-append (s ∷ ss) ts x y j k = (j.0, j.1 ++ y, rw j.2 (append_assoc j.0 j.1 y), j.3, joins-append ss ts j.1 y j.4 k)

pub are_actions-append : (ss ts : Sequences) (flag : Bool) (xs ys : List Action) → AreActions ss flag xs → AreActions ts flag ys → AreActions (ss ++ ts) flag (xs ++ ys)
are_actions-append [] ts flag xs ys x y = rw x y
are_actions-append (s ∷ ss) ts flag xs ys x y =
    (x.0, x.1 ++ ys, rw x.2 (append_assoc x.0 x.1 ys), x.3, are_actions-append ss ts flag x.1 ys x.4 y)

pub decodes-append : (x y : List ℕ) (flag : Bool) (xs ys : List Action) → Decodes x flag xs → Decodes y flag ys → Decodes (x ++ y) flag (xs ++ ys)
decodes-append x y flag xs ys d e = record {
  sequences = d.sequences ++ e.sequences;
  join = joins-append d.sequences e.sequences x y d.join e.join;
  each = are_actions-append d.sequences e.sequences flag xs ys d.each e.each;
}

-- the action's text is read as the action
abbrev pub Alone : Bool → Action → Type 0
Alone flag a = Decodes (text a) flag (a ∷ [])

-- actions that are read back one by one are read back together
pub decodes-each : (flag : Bool) (xs : List Action) → AllByRecursion (Alone flag) xs → Decodes (texts xs) flag xs
decodes-each flag [] all = record { sequences = []; join = refl; each = refl }
decodes-each flag (a ∷ xs) all = decodes-append (text a) (texts xs) flag (a ∷ []) xs all.0 (decodes-each flag xs all.1)

-- ---- A position whose numbers are written as a codec writes them is its own normal form.

-- ---- numbers

pub own : IsNumeralModel AreDigits value
own = numerals_by_fold AreDigits (search rules) value_after (search rules)

-- the first of them isn't 0, and there are nine at most
number_of : (a : ℕ) (ds : List ℕ) → 49 ≤ a → a ≤ 57 → AreDigits ds → length ds ≤ 8 → IsNumber (a ∷ ds)
number_of a ds low high digits few = (value (a ∷ ds), record { above = above (value (a ∷ ds)) same; fits = omega (arith, small) }, sym same)
  where
    all : AreDigits (a ∷ ds)
    all = ((omega (arith, low), high), digits)

    small : value (a ∷ ds) < 10 ^ 9
    small = digits_value_short own (a ∷ ds) 9 all (omega (arith, few))

    same : decimal (value (a ∷ ds)) ≡ a ∷ ds
    same = decimal-digits_value own (a ∷ ds) all (omega arith) (λ blank. absurd (omega (arith, blank, low))) (omega (arith, small))

    above : (n : ℕ) → decimal n ≡ a ∷ ds → 0 < n
    above zero is = absurd (omega (arith, low, ap (λ (l : List ℕ). get_or l 0 0) (sym is ∙ decimal_digit 0 (omega arith))))
    above (suc n) is = omega arith

pub number_front : (xs : List ℕ) (n : ℕ) → 1 ≤ length xs → 49 ≤ get_or xs 0 0 → get_or xs 0 0 ≤ 57 → n ≤ 8
    → AreDigits (take n (take (length xs - 1) (drop 1 xs))) → IsNumber (take (1 + n) xs)
number_front xs n some low high few digits =
    let others : List ℕ = take (length xs - 1) (drop 1 xs) in
    let next : 1 + n ≡ suc n = omega arith in
    let front : take (1 + n) xs ≡ get_or xs 0 0 ∷ take n others = ap (λ (k : ℕ). take k xs) next ∙ ap (λ (l : List ℕ). take (suc n) l) (first_cut xs some) in
    subst IsNumber (sym front) (number_of (get_or xs 0 0) (take n others) low high digits (omega (arith, length-take n others, few)))

-- ---- what stands in front

pub byte_cut : (xs : List ℕ) (b : ℕ) → 1 ≤ length xs → get_or xs 0 0 ≡ b → xs ≡ b ∷ take (length xs - 1) (drop 1 xs)
byte_cut xs b some is = first_cut xs some ∙ ap (λ (x : ℕ). x ∷ take (length xs - 1) (drop 1 xs)) is

pub two_cut : (xs : List ℕ) (a b : ℕ) → 2 ≤ length xs → get_or xs 0 0 ≡ a → get_or xs 1 0 ≡ b → xs ≡ a ∷ b ∷ take (length xs - 2) (drop 2 xs)
two_cut (x ∷ y ∷ xs) a b some e f = rw (e, f) (ap (λ (l : List ℕ). a ∷ b ∷ l) (sym (take_all (length (x ∷ y ∷ xs) - 2) xs (omega arith))))
two_cut _ a b some e f = absurd (omega (arith, some))

-- ---- positions

own_text : (c : Cursor) (w : Written) → AllGood w.items → IsRead w (action.Cursor c) → Actions (tokens w.items) false w.final (action.Cursor c ∷ [])
    → text (action.Cursor c) ≡ 27 ∷ 91 ∷ written_text w → IsPosition (text (action.Cursor c))
own_text c w good r acts is =
    let list = tokens w.items in
    let s = sound w r.sound good in
    let same : text (action.Cursor c) ≡ 27 ∷ 91 ∷ (spells list ++ w.final ∷ []) = is ∙ ap (λ (l : List ℕ). 27 ∷ 91 ∷ l) s.text in
    let seq = seq_of list w.final (spells list) s.spellable s.ends (printed list s.spellable) in
    (list, w.final, c, subst (λ (l : List ℕ). Seq l list w.final) (sym same) seq, acts, refl)

-- its own normal form
pub own_normal : (bytes : List ℕ) → IsPosition bytes → IsNormal bytes bytes
own_normal bytes (list, final, c, seq, acts, is) =
    ((action.Cursor c ∷ [], decodes-one bytes list false final (action.Cursor c ∷ []) seq acts, is ∙ sym (append-nil (text (action.Cursor c)))), (list, final, seq))

-- a position before this final
abbrev placed : ℕ → ℕ → ℕ → List ℕ
placed a b final = 27 ∷ 91 ∷ (decimal a ++ 59 ∷ (decimal b ++ final ∷ []))

-- each moves the cursor, as the codec writes it
abbrev pub ArePositions : ℕ → Type 0
ArePositions final = (a b : ℕ) → IsOneBased a → IsOneBased b → IsPosition (placed a b final)

pub cup : ArePositions 72
cup a b first second =
    let c = action.Cursor (Cursor.Position a b) in
    let r : IsRead (write (two Count a b) "H") c = read-back c (first, (second, tt)) (λ x. x) (λ x. x) in
    own_text (Cursor.Position a b) (write (two Count a b) "H") (first, (second, tt)) r (inl (c, r.read, refl)) refl

pub hvp : ArePositions 102
hvp a b first second =
    let c = action.Cursor (Cursor.CharacterAndLinePosition a b) in
    let r : IsRead (write (two Count a b) "f") c = read-back c (first, (second, tt)) (λ x. x) (λ x. x) in
    own_text (Cursor.CharacterAndLinePosition a b) (write (two Count a b) "f") (first, (second, tt)) r (inl (c, r.read, refl)) refl

-- ---- in front of others

pub front_placed : (final : ℕ) (bytes list behind more : List ℕ) (line column : ℕ) →
    ArePositions final → bytes ≡ 27 ∷ 91 ∷ list → line ≤ length list → IsNumber (take line list) →
    drop line list ≡ 59 ∷ behind
    → column ≤ length behind → IsNumber (take column behind) → drop column behind ≡ final ∷ more → IsPosition (take (line + column + 4) bytes)
front_placed final bytes list behind more line column own begins within first then inside second ends =
    let (a, good, lines) = first in
    let (b, right, columns) = second in
    let back : behind ≡ decimal b ++ final ∷ more = sym (take-append-drop column behind) ∙ ap (λ (l : List ℕ). l ++ drop column behind) columns ∙ ap (λ (l : List ℕ). decimal b ++ l) ends in
    let all : list ≡ decimal a ++ 59 ∷ (decimal b ++ final ∷ more) =
    sym (take-append-drop line list) ∙ ap (λ (l : List ℕ). l ++ drop line list) lines ∙ ap (λ (l : List ℕ). decimal a ++ l) (then ∙ ap (λ (l : List ℕ). 59 ∷ l) back) in
    let parts : bytes ≡ placed a b final ++ more =
    begins ∙ ap (λ (l : List ℕ). 27 ∷ 91 ∷ l)
    (all ∙ ap (λ (l : List ℕ). decimal a ++ 59 ∷ l)
    (sym (append_assoc (decimal b) (final ∷ []) more))
    ∙ sym (append_assoc (decimal a) (59 ∷ (decimal b ++ final ∷ [])) more)) in
    let long : line + column + 4 ≡ length (placed a b final) =
    omega (arith, length-append {A = ℕ}, length-take {A = ℕ}, ap length lines, ap length columns, within, inside) in
    let front : take (line + column + 4) bytes ≡ placed a b final =
    ap (λ (n : ℕ). take n bytes) long ∙ ap (λ (l : List ℕ). take (length (placed a b final)) l) parts ∙ take-append_seam (placed a b final) more in
    subst IsPosition (sym front) (own a b good right)

-- ---- Sequences and their actions put behind others, and a stream that is decoded as it is read.

-- what was held decodes further
pub front_on : (bytes held : List ℕ) (flag : Bool) (rest : List ℕ) (xs ys : List Action) → DecodesFront bytes flag held xs → DecodesFront held flag rest ys → DecodesFront bytes flag rest (xs ++ ys)
front_on bytes held flag rest xs ys d e =
    (d.0 ++ e.0, d.1 ∙ ap (λ (l : List ℕ). d.0 ++ l) e.1 ∙ sym (append_assoc d.0 e.0 rest), decodes-append d.0 e.0 flag xs ys d.2 e.2)

pub split_none : (bytes : List ℕ) (flag : Bool) → DecodesFront bytes flag bytes []
split_none bytes flag = ([], refl, record { sequences = []; join = refl; each = refl })

pub split_more : (bytes rest behind : List ℕ) (flag : Bool) (xs ys : List Action)
    (list : List CsiParam) (final : ℕ) → DecodesFront bytes flag rest xs → Reads rest list final behind →
    Actions list flag final ys
    → DecodesFront bytes flag behind (xs ++ ys)
split_more bytes rest behind flag xs ys list final s r a = front_on bytes rest flag behind xs ys s (r.0, r.2, decodes-one r.0 list flag final ys r.1 a)

-- behind sequences that stand before a sequence, the bytes begin with one
pub begins : (bytes rest : List ℕ) (flag : Bool) (xs : List Action) → DecodesFront bytes flag rest xs →
    (list : List CsiParam) (final : ℕ) (behind : List ℕ) → Reads rest list final behind →
    RefusesDecode bytes flag DecodeError.Memory
begins bytes rest flag xs s list final behind r = go s.2.sequences s.2.join
  where
    go : (ss : List (List CsiParam × ℕ)) → Joins s.0 ss → RefusesDecode bytes flag DecodeError.Memory
    go [] none = (list, final, behind, (r.0, r.1, s.1 ∙ ap (λ (l : List ℕ). l ++ rest) none ∙ r.2))
    go (t ∷ ts) join = (t.0, t.1, join.1 ++ rest, (join.0, join.3, s.1 ∙ ap (λ (l : List ℕ). l ++ rest) join.2 ∙ append_assoc join.0 join.1 rest))

-- behind the sequences stands what is refused
pub refuses_at : (bytes rest : List ℕ) (flag : Bool) (xs : List Action) (room : ℕ) (e : ReadError) →
    DecodesFront bytes flag rest xs → 0 < length rest → Refuses rest room e →
    RefusesDecode bytes flag (refusal_of (length bytes - length rest) e)
refuses_at bytes rest flag xs room ReadError.Memory s some r = begins bytes rest flag xs s r.0 r.1 r.2 r.3
refuses_at bytes rest flag xs room e s some r =
    let start = length bytes - length rest in
    let place : start ≡ length s.0 = omega (arith, ap length s.1, length-append s.0 rest) in
    let at : FaultAt bytes start e =
    record { front = s.0; rest = rest; parts = s.1; sequences = s.2.sequences; join = s.2.join; place = place; some = some; fault = r } in
    (at, λ actions d. fault_apart bytes flag start e actions at d)

-- bytes with actions are refused only where memory runs out
pub refused_for_memory : (bytes : List ℕ) (flag : Bool) (e : DecodeError) (actions : List Action) → RefusesDecode bytes flag e → Decodes bytes flag actions → e ≡ DecodeError.Memory
refused_for_memory bytes flag (DecodeError.Read start error) actions r d = absurd (r.1 actions d)
refused_for_memory bytes flag DecodeError.Memory actions r d = refl

-- with nothing behind it, the front is all
pub front_all : (bytes : List ℕ) (flag : Bool) (rest : List ℕ) (xs : List Action) → DecodesFront bytes flag rest xs → rest ≡ [] → Decodes bytes flag xs
front_all bytes flag rest xs d none = subst (λ (l : List ℕ). Decodes l flag xs) (sym (d.1 ∙ ap (λ (l : List ℕ). d.0 ++ l) none ∙ append-nil d.0)) d.2

-- more bytes come behind
pub front_more : (bytes held more : List ℕ) (flag : Bool) (xs : List Action) → DecodesFront bytes flag held xs → DecodesFront (bytes ++ more) flag (held ++ more) xs
front_more bytes held more flag xs d = (d.0, ap (λ (l : List ℕ). l ++ more) d.1 ∙ append_assoc d.0 held more, d.2)

-- a refusal that more bytes don't change
pub stays_refused : (bytes rest more : List ℕ) (flag : Bool) (xs : List Action) (room : ℕ) (e : ReadError) → DecodesFront bytes flag rest xs → 0 < length rest → Refuses rest room e
    → stays e ≡ true → RefusesDecode (bytes ++ more) flag (refusal_of (length bytes - length rest) e)
stays_refused bytes rest more flag xs room e d some r whole = go e r whole
  where
    split : DecodesFront (bytes ++ more) flag (rest ++ more) xs
    split = front_more bytes rest more flag xs d

    place : length (bytes ++ more) - length (rest ++ more) ≡ length bytes - length rest
    place = omega (arith, length-append bytes more, length-append rest more)

    longer : 0 < length (rest ++ more)
    longer = omega (arith, some, length-append rest more)

    go : (e : ReadError) → Refuses rest room e → stays e ≡ true → RefusesDecode (bytes ++ more) flag (refusal_of (length bytes - length rest) e)
    go ReadError.Memory r whole = begins (bytes ++ more) (rest ++ more) flag xs split r.0 r.1 (r.2 ++ more) (r.3.0, r.3.1, ap (λ (l : List ℕ). l ++ more) r.3.2 ∙ append_assoc r.3.0 r.2 more)
    go (ReadError.NotCsi p) r whole =
        rw (← place) (refuses_at (bytes ++ more) (rest ++ more) flag xs room (ReadError.NotCsi p) split longer (fault_more rest more (ReadError.NotCsi p) p refl r))
    go (ReadError.BadByte p) r whole =
        rw (← place) (refuses_at (bytes ++ more) (rest ++ more) flag xs room (ReadError.BadByte p) split longer (fault_more rest more (ReadError.BadByte p) p refl r))
    go (ReadError.NumberTooLarge p) r whole =
        rw (← place) (refuses_at (bytes ++ more) (rest ++ more) flag xs room (ReadError.NumberTooLarge p) split longer (fault_more rest more (ReadError.NumberTooLarge p) p refl r))
    go (ReadError.Truncated p) r whole = absurd cc

-- at the end of the input, what it was is known
pub given_all : (given now : Option (List ℕ)) (bytes : List ℕ) → Consumes given now bytes → IsAtEnd now → IfSome given (λ xs. bytes ≡ xs)
given_all given now bytes c end = Consumes-all given now bytes [] bytes c end refl

-- and a run over it is refused as its decoding is
pub refused_end : (given now : Option (List ℕ)) (bytes : List ℕ) (e : DecodeError) → Consumes given now bytes → IsAtEnd now → RefusesDecode bytes false e → RefusesRun given (run_refusal e)
refused_end given now bytes DecodeError.Memory c end r = tt
refused_end None now bytes (DecodeError.Read start error) c end r = tt
refused_end (Some xs) now bytes (DecodeError.Read start error) c end r = rw (← given_all (Some xs) now bytes c end) r

pub errs : {T E P : Type 0} (r : Result T E) → P → OnErr r P
errs (Ok x) p = tt
errs (Err e) p = p

-- ---- what was read: some bytes before, and more

pub front_read : (read more held bytes kept : List ℕ) (xs : List Action) → DecodesFront (read ++ more) false held xs → kept ≡ held ++ bytes → DecodesFront (read ++ (more ++ bytes)) false kept xs
front_read read more held bytes kept xs d is =
    let longer = front_more (read ++ more) held bytes false xs d in
    rw (is, ← append_assoc read more bytes) longer

pub length_read : (read more held bytes kept : List ℕ) (start : ℕ) → start + length held ≡ length (read ++ more) → kept ≡ held ++ bytes → start + length kept ≡ length (read ++ (more ++ bytes))
length_read read more held bytes kept start same is =
    omega (arith, same, ap length is, length-append held bytes, length-append read more, length-append read (more ++ bytes), length-append more bytes)

-- what is kept is what stands behind
pub kept_behind : (used : ℕ) (held rest : List ℕ) (ys : List Action) → DecodesFront held false rest ys → used ≡ length held - length rest → drop used held ≡ rest
kept_behind used held rest ys d is =
    let front : used ≡ length d.0 = omega (arith, is, ap length d.1, length-append d.0 rest) in
    ap (λ (n : ℕ). drop n held) front ∙ ap (λ (l : List ℕ). drop (length d.0) l) d.1 ∙ drop-append_seam d.0 rest

pub whole_given : (given now : Option (List ℕ)) (all : List ℕ) (xs : List Action) (out : List ℕ) → Consumes given now all → IsAtEnd now → Decodes all false xs → out ≡ texts xs
    → IfSome given (λ bytes. (actions : List Action) × Decodes bytes false actions × (out ≡ texts actions))
whole_given None now all xs out c end d e = tt
whole_given (Some g) now all xs out c end d e =
    let same : all ≡ g = given_all (Some g) now all c end in (xs, subst (λ (l : List ℕ). Decodes l false xs) same d, e)

-- ---- Normal forms that are known.

-- some bytes more are decoded
pub split_known : (bytes rest : List ℕ) (len : ℕ) (xs ys : List Action) → DecodesFront bytes false rest xs → Decodes (take len rest) false ys → DecodesFront bytes false (drop len rest) (xs ++ ys)
split_known bytes rest len xs ys s d = front_on bytes rest false (drop len rest) xs ys s (take len rest, sym (take-append-drop len rest), d)

read_front : (rest behind : List ℕ) (list : List CsiParam) (final : ℕ) (len : ℕ) (r : Reads rest list final behind) → len ≡ length rest - length behind → take len rest ≡ r.0
read_front rest behind list final len r is =
    let long : len ≡ length r.0 = omega (arith, is, ap length r.2, length-append r.0 behind) in
    ap (λ (l : List ℕ). take len l) r.2 ∙ ap (λ (n : ℕ). take n (r.0 ++ behind)) long ∙ take-append_seam r.0 behind

-- the bytes of a sequence that was read decode to its actions
pub read_known : (rest behind : List ℕ) (list : List CsiParam) (final : ℕ) (ys : List Action)
    (len : ℕ) → Reads rest list final behind → Actions list false final ys →
    len ≡ length rest - length behind → Decodes (take len rest) false ys
read_known rest behind list final ys len r a is = subst (λ (l : List ℕ). Decodes l false ys) (sym (read_front rest behind list final len r is)) (decodes-one r.0 list false final ys r.1 a)

-- and are one sequence
pub read_one : (rest behind : List ℕ) (list : List CsiParam) (final : ℕ) (len : ℕ) → Reads rest list final behind → len ≡ length rest - length behind → IsOne (take len rest)
read_one rest behind list final len r is = subst IsOne (sym (read_front rest behind list final len r is)) (list, final, r.1)

-- what was appended to the texts of some actions are those of the further ones
pub texts_behind : (xs ys : List Action) (old new : List ℕ) (len : ℕ) → old ≡ texts xs → new ≡ texts (xs ++ ys) → len ≡ length old → drop len new ≡ texts ys
texts_behind xs ys old new len o n is =
    ap (λ (l : List ℕ). drop len l) (n ∙ flat_map-append text xs ys ∙ ap (λ (l : List ℕ). l ++ texts ys) (sym o))
    ∙ ap (λ (k : ℕ). drop k (old ++ texts ys)) is ∙ drop-append_seam old (texts ys)

-- texts that are known, behind those of the actions before
pub texts_more : (before told ys : List Action) (old new added : List ℕ) → old ≡ texts (before ++ told) → new ≡ old ++ added → added ≡ texts ys → new ≡ texts (before ++ (told ++ ys))
texts_more before told ys old new added o n t =
    n ∙ ap (λ (l : List ℕ). l ++ added) o ∙ ap (λ (l : List ℕ). texts (before ++ told) ++ l) t
    ∙ sym (flat_map-append text (before ++ told) ys) ∙ ap texts (append_assoc before told ys)

-- all bytes from a place on
pub slice_from : (n : ℕ) (xs : List ℕ) → take (length xs - n) (drop n xs) ≡ drop n xs
slice_from n xs = take_all (length xs - n) (drop n xs) (omega (arith, length-drop n xs))

-- texts that are joined are no shorter
pub texts_longer : (xs ys : List Action) (old new : List ℕ) → old ≡ texts xs → new ≡ texts (xs ++ ys) → length old ≤ length new
texts_longer xs ys old new o n = omega (arith, ap length o, ap length (n ∙ flat_map-append text xs ys), length-append (texts xs) (texts ys))
