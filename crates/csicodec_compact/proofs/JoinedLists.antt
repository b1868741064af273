-- Texts of actions, one after the other, and lists of attributes that are joined at a `;`.
use Rattle.std.proofs.Common.{ℕ, ◌≡◌, ◌≤◌, List, [], ◌∷◌, ◌++◌, false, length, arith, ap, length-append, if◌then◌else◌, IfOk, OnOk, ℤ, pos, true, not, Some, map, inr, refl, sym, subst, ◌∙◌, append_assoc, append-nil, true≢false, slice_get}
use Rattle.std.proofs.{lemmas.Bool.and_parts, lemmas.List.append_cancel_right}
use Rattle.std.specs.{Result.is_err, Result.is_ok, declared.result.Result.Result, declared.result.Result.TheVariants.Ok, declared.result.Result.TheVariants.Err}
use Rattle.csicodec_actions.specs.Table.{text, texts}
use Rattle.csicodec_streams.proofs.{OneReading.Alone, OneReading.decodes-append, OneReading.decodes-each, OneReading.decodes-one, OneReading.seq_of}
use Rattle.csicodec_streams.proofs.{Colors.spellable-joined, Colors.spells-joined, Compose.ends-joined, Compose.ends-part, Compose.plain-joint}
use Rattle.csicodec_streams.proofs.{Compose.sgr_compose_lem}
use Rattle.csicodec_streams.specs.{Exact.ReadsAlone, Compose.EndsInSemicolon, Compose.IsStyleList, Decoding.Decodes}
use Rattle.csicodec_compact.specs.Private.Steps.{is_semicolon, is_bare, is_joined, may_join, joint, behind, IsList, IsOpenList, IsTail}
use Rattle.csicodec_compact.specs.declared.form.TextEnding.{TextEnding}
use Rattle.csicodec_tokens.specs.{declared.param.CsiParam.TheVariants.Integer, Sequence.Spellable, Sequence.Spells}
use Rattle.csicodec_base.specs.FrontBy.{piece}
use Rattle.csicodec_base.proofs.Table.{is_piece, piece_within}
use Rattle.csicodec_parser.specs.{Cut.semicolon, Cut.NoSemicolon, declared.group.Group.TheVariants.Styles, Groups.has_odd, Segments.Segmented}
use Rattle.csicodec_parser.proofs.{Cuts.actions_are, Fronts.style-list}
use Rattle.csicodec_compact.proofs.Common.{flat_map-append, map-append, AllByRecursion, list_any, Action, Sgr, is_other, closing, IsListed, Encodes, ReadsAlike, CsiParam, Seq, action_of, CSI, actions, Actions}
use Rattle.csicodec_base.specs.declared.sgr.Sgr as sgr_type
use Rattle.csicodec_base.specs.declared.sgr.Sgr.TheVariants as sgr

abbrev AreAlone : List Action → Type 0
AreAlone xs = AllByRecursion (λ (a : Action). ReadsAlone a false) xs

each-alone : (xs : List Action) → AreAlone xs → AllByRecursion (Alone false) xs
each-alone [] alone = tt
each-alone (a ∷ xs) alone = (alone.0.back, each-alone xs alone.1)

pub all_parts : {T : Type 0} (Q : T → Type 0) (xs ys : List T) → AllByRecursion Q (xs ++ ys) → AllByRecursion Q xs × AllByRecursion Q ys
all_parts Q [] ys all = (tt, all)
all_parts Q (x ∷ xs) ys all = let others = all_parts Q xs ys all.1 in ((all.0, others.0), others.1)

pub encodes-each : (xs : List Action) (all : List ℕ) → all ≡ texts xs → Encodes xs all
encodes-each xs all is = rw is (record { back = λ alone. decodes-each false xs (each-alone xs alone); short = omega arith })

pub encodes-shorter : (xs : List Action) (all short : List ℕ) → all ≡ texts xs → length short ≤ length all → ReadsAlike all short → Encodes xs short
encodes-shorter xs all short is less alike = record {
  back = λ alone. alike xs (rw is (decodes-each false xs (each-alone xs alone)));
  short = rw is at less;
}

pub encodes-append : (xs ys : List Action) (t u : List ℕ) → Encodes xs t → Encodes ys u → Encodes (xs ++ ys) (t ++ u)
encodes-append xs ys t u x y = record {
  back = λ alone. (let parts = all_parts (λ (a : Action). ReadsAlone a false) xs ys alone in decodes-append t u false xs ys (x.back parts.0) (y.back parts.1));
  short = omega (arith, x.short, y.short, length-append t u, length-append (texts xs) (texts ys), ap length (flat_map-append text xs ys));
}

-- what was appended, unless memory was refused
pub extended : {A E : Type 0} (r : Result A E) (now long old : List ℕ) → now ≡ (if is_ok r then long else old) → OnOk r (now ≡ long)
extended (Ok x) now long old e = e
extended (Err x) now long old e = tt

-- what a call that didn't fail says
pub said : {A E P : Type 0} (r : Result A E) → is_err r ≡ false → OnOk r P → P
said (Ok x) e h = h
said (Err x) e h = absurd (true≢false e)

-- two of a call's facts, where it answers
pub of_both : {A E : Type 0} (r : Result A E) (P Q R : A → Type 0) → ((x : A) → P x → Q x → R x) → IfOk r P → IfOk r Q → IfOk r R
of_both (Ok x) P Q R f h k = f x h k
of_both (Err x) P Q R f h k = tt

-- ---- Lists of attributes that are joined at a `;`.

-- ---- texts and tokens

styles-joined : (a b : List CsiParam) → has_odd Styles a ≡ false → IsStyleList b → IsStyleList (a ++ semicolon ∷ b)
styles-joined a b e l = record { some = omega (arith, length-append a (semicolon ∷ b)); plain = plain-joint a b e l.plain }

-- a list that begins with `;` is spelled so
first-byte : (bytes : List ℕ) (list more : List CsiParam) → Spells bytes list → list ≡ semicolon ∷ more → (rest : List ℕ) × (bytes ≡ 59 ∷ rest)
first-byte bytes list more s e =
    let t : Spells bytes (semicolon ∷ more) = subst (Spells bytes) e s in
    (t.1, t.2 ∙ ap (λ (l : List ℕ). l ++ t.1) t.3)

-- ---- a reset in front

piece-semicolon : (ts : List CsiParam) → piece (semicolon ∷ ts) ≡ Some (sgr.Reset, 1)
unfolding piece
piece-semicolon ts = refl

-- behind a `;` the actions are a reset and those of the list, unless that begins with one too
reset-first : (b : List CsiParam) (ys : List Action) → IsStyleList b → NoSemicolon b → Actions b false 109 ys → Actions (semicolon ∷ b) false 109 (Sgr sgr.Reset ∷ ys)
reset-first [] ys l none y = absurd (omega (arith, l.some))
reset-first (u ∷ us) ys l none y =
    let plain : has_odd Styles (u ∷ us) ≡ false = l.plain in
    let also : has_odd Styles (semicolon ∷ u ∷ us) ≡ false = plain in
    let r : Segmented Styles (u ∷ us) false 109 ys = rw (style-list (u ∷ us) plain, plain) at y in
    rw (style-list (semicolon ∷ u ∷ us) also, also) (record {
      pieces = Sgr sgr.Reset ∷ r.pieces;
      rest = r.rest;
      cut = (
        semicolon ∷ [],
        u ∷ us,
        refl,
        record { tokens = semicolon ∷ []; piece = (sgr.Reset, is_piece (semicolon ∷ u ∷ us) 1 sgr.Reset (piece-semicolon (u ∷ us)), refl); whole = inr (refl, none) },
        r.cut,
      );
      stuck = r.stuck;
      all = ap (λ (l : List Action). Sgr sgr.Reset ∷ l) r.all;
    })

-- a list that ends in a number doesn't end in `;`
pub number-last : (list front : List CsiParam) (z : ℤ) → list ≡ front ++ Integer z ∷ [] → ¬ EndsInSemicolon list
number-last list front z e = λ ends. (let h = ends-part front [] ends.0 (Integer z) (sym e ∙ ends.1) in alone h.0 h.1)
  where
    alone : (us : List CsiParam) → Integer z ∷ [] ≡ us ++ semicolon ∷ [] → ⊥
    alone [] same = cc
    alone (f ∷ us) same = omega (arith, ap length same, length-append us (semicolon ∷ []))

piece-zero : piece (Integer (pos 0) ∷ []) ≡ Some (sgr.Reset, 1)
unfolding piece
piece-zero = refl

zero-means : Actions (Integer (pos 0) ∷ []) false 109 (map Sgr (sgr.Reset ∷ []))
zero-means = record {
  pieces = Sgr sgr.Reset ∷ [];
  rest = [];
  cut = (
    Integer (pos 0) ∷ [],
    [],
    refl,
    record { tokens = Integer (pos 0) ∷ []; piece = (sgr.Reset, is_piece (Integer (pos 0) ∷ []) 1 sgr.Reset piece-zero, refl); whole = inr (refl, λ more e. cc) },
    refl,
  );
  stuck = λ k a p. (let w = piece_within [] k p.0 p.1 in omega (arith, w.0, w.1));
  all = refl;
}

-- a 0 alone
zero-list : IsOpenList (48 ∷ []) (sgr.Reset ∷ [])
zero-list = record {
  list = Integer (pos 0) ∷ [];
  is = record {
    spellable = ((omega arith, omega arith), tt, tt);
    spelled = (48 ∷ [], [], refl, (omega arith, ((omega arith, omega arith), tt), refl), refl);
    plain = record { some = omega arith; plain = refl };
    means = zero-means;
  };
  unclosed = number-last (Integer (pos 0) ∷ []) [] (pos 0) refl;
}

-- ---- a list behind another

-- the list of these bytes, which ends as another does
record Behind (bytes : List ℕ) (last : List CsiParam) (actions : List Action) : Type 0 where
  list : List CsiParam
  is : IsList bytes list actions
  ends : EndsInSemicolon list → EndsInSemicolon last

behind_list : (a b : List ℕ) (l m : List CsiParam) (xs : List sgr_type.Sgr) (ys : List Action) → IsList a l (map Sgr xs) → ¬ EndsInSemicolon l
    → IsList b m ys → Behind (a ++ 59 ∷ b) m (map Sgr xs ++ ys)
behind_list a b l m xs ys h unclosed k = record {
  list = l ++ semicolon ∷ m;
  is = record {
    spellable = spellable-joined l m h.spellable k.spellable;
    spelled = spells-joined a b l m h.spelled k.spelled;
    plain = styles-joined l m h.plain.plain k.plain;
    means = sgr_compose_lem l m false h.plain k.plain unclosed xs ys h.means k.means;
  };
  ends = ends-joined l m k.plain.some;
}

behind_reset : (b : List ℕ) (m : List CsiParam) (ys : List Action) → NoSemicolon m → IsList b m ys → Behind (59 ∷ b) m (Sgr sgr.Reset ∷ ys)
behind_reset b m ys none k = record {
  list = semicolon ∷ m;
  is = record {
    spellable = spellable-joined [] m tt k.spellable;
    spelled = spells-joined [] b [] m refl k.spelled;
    plain = styles-joined [] m refl k.plain;
    means = reset-first m ys k.plain none k.means;
  };
  ends = ends-joined [] m k.plain.some;
}

-- a tail that goes on, with any list that fits
record Goes (Fits : List CsiParam → Type 0) (bytes : List ℕ) (xs : List Action) : Type 0 where
  styles : List sgr_type.Sgr
  are : xs ≡ map Sgr styles
  on : (b : List ℕ) (m : List CsiParam) (ys : List Action) → Fits m → IsList b m ys → Behind (bytes ++ 59 ∷ b) m (map Sgr styles ++ ys)

abbrev Any : List CsiParam → Type 0
Any list = Unit {0}

goes_open : (bytes : List ℕ) (xs : List Action) → IsTail TextEnding.Open bytes xs → Goes Any bytes xs
goes_open bytes xs (styles, are, o) = record { styles = styles; are = are; on = λ b m ys fits k. behind_list bytes b o.list m styles ys o.is o.unclosed k }

goes_blank : (bytes : List ℕ) (xs : List Action) → IsTail TextEnding.Blank bytes xs → Goes NoSemicolon bytes xs
goes_blank bytes xs (styles, front, is, are, o) = record {
  styles = styles ++ sgr.Reset ∷ [];
  are = are;
  on = λ b m ys fits k.
      let r = behind_reset b m ys fits k in
      let both = behind_list front (59 ∷ b) o.list r.list styles (Sgr sgr.Reset ∷ ys) o.is o.unclosed r.is in
      rw (is, append_assoc, map-append Sgr styles (sgr.Reset ∷ []), append_assoc) (record { list = both.list; is = both.is; ends = λ e. r.ends (both.ends e) });
}

goes_bare : (bytes : List ℕ) (xs : List Action) → IsTail TextEnding.Bare bytes xs → Goes NoSemicolon bytes xs
goes_bare bytes xs (is, are) = record { styles = sgr.Reset ∷ []; are = are; on = λ b m ys fits k. rw is (behind_reset b m ys fits k) }

-- ---- the tail that comes of two

-- a list that is empty in front has a `;` there
fits_by : (b front : List ℕ) (list : List CsiParam) (more : List ℕ) → b ≡ front ++ more → Spells front list → not (is_semicolon (slice_get (59 ∷ b) 1)) ≡ true → NoSemicolon list
fits_by b front list more is s free rest e =
    let (behind, first) = first-byte front list rest s e in
    true≢false (sym (rw (is, first) at free))

zero-fits : NoSemicolon zero-list.list
unfolding zero-list
zero-fits rest e = cc

module _ (Fits : List CsiParam → Type 0) (bytes : List ℕ) (xs : List Action) (g : Goes Fits bytes xs) where
  open_behind : (b : List ℕ) (styles : List sgr_type.Sgr) → (o : IsOpenList b styles) → Fits o.list → IsOpenList (bytes ++ 59 ∷ b) (g.styles ++ styles)
  open_behind b styles o fits =
      let h = g.on b o.list (map Sgr styles) fits o.is in
      record { list = h.list; is = rw (map-append Sgr g.styles styles) h.is; unclosed = λ e. o.unclosed (h.ends e) }

  all_styles : (ys : List Action) (styles : List sgr_type.Sgr) → ys ≡ map Sgr styles → xs ++ ys ≡ map Sgr (g.styles ++ styles)
  all_styles ys styles e = rw (g.are, e, map-append Sgr g.styles styles) refl

  -- a list that isn't empty
  tail_on : (form : TextEnding) (b : List ℕ) (ys : List Action) → is_bare form ≡ false → IsTail form b ys
      → ((front : List ℕ) (list : List CsiParam) (more : List ℕ) → b ≡ front ++ more → Spells front list → Fits list) → IsTail form (bytes ++ 59 ∷ b) (xs ++ ys)
  tail_on TextEnding.Whole b ys other k fits = absurd k
  tail_on TextEnding.Bare b ys other k fits = cc
  tail_on TextEnding.Last b ys other (front, list, is, k) fits =
      let h = g.on front list ys (fits front list (109 ∷ []) is k.spelled) k in
      (bytes ++ 59 ∷ front, h.list, rw (is, append_assoc) refl, rw g.are h.is)
  tail_on TextEnding.Open b ys other (styles, are, o) fits =
      (g.styles ++ styles, all_styles ys styles are, open_behind b styles o (fits b o.list [] (sym (append-nil b)) o.is.spelled))
  tail_on TextEnding.Blank b ys other (styles, front, is, are, o) fits = (
    g.styles ++ styles,
    bytes ++ 59 ∷ front,
    rw (is, append_assoc) refl,
    all_styles ys (styles ++ sgr.Reset ∷ []) are ∙ ap (map Sgr) (sym (append_assoc g.styles styles (sgr.Reset ∷ []))),
    open_behind front styles o (fits front o.list (59 ∷ []) is o.is.spelled),
  )

-- behind one that ends in `;` or is empty, an empty list is written as 0
tail_behind : (form : TextEnding) (bytes b : List ℕ) (xs ys : List Action) → Goes NoSemicolon bytes xs → IsTail form b ys → may_join TextEnding.Blank form (59 ∷ b) ≡ true
    → IsTail (behind TextEnding.Blank form) (bytes ++ joint TextEnding.Blank form (59 ∷ b)) (xs ++ ys)
tail_behind TextEnding.Bare bytes b xs ys g k may =
    (g.styles ++ sgr.Reset ∷ [], all_styles NoSemicolon bytes xs g ys (sgr.Reset ∷ []) k.1, open_behind NoSemicolon bytes xs g (48 ∷ []) (sgr.Reset ∷ []) zero-list zero-fits)
tail_behind form bytes b xs ys g k may = tail_on NoSemicolon bytes xs g form b ys refl k (λ front list more is s. fits_by b front list more is s (and_parts (is_joined form) (not (is_semicolon (slice_get (59 ∷ b) 1))) may).1)

-- an empty list behind one that ends in a number
tail_reset : (bytes b : List ℕ) (xs ys : List Action) → IsTail TextEnding.Open bytes xs → IsTail TextEnding.Bare b ys → IsTail TextEnding.Blank (bytes ++ 59 ∷ b) (xs ++ ys)
tail_reset bytes b xs ys (styles, are, o) (none, reset) = (styles, bytes, rw none refl, rw (are, reset, map-append Sgr styles (sgr.Reset ∷ [])) refl, o)

-- the tail that is held then
pub tail_joined : (st form : TextEnding) (bytes b : List ℕ) (xs ys : List Action) → IsTail st bytes xs → IsTail form b ys → may_join st form (59 ∷ b) ≡ true
    → IsTail (behind st form) (bytes ++ joint st form (59 ∷ b)) (xs ++ ys)
tail_joined TextEnding.Whole form bytes b xs ys h k may = absurd h
tail_joined TextEnding.Last form bytes b xs ys h k may = cc
tail_joined TextEnding.Open TextEnding.Bare bytes b xs ys h k may = tail_reset bytes b xs ys h k
tail_joined TextEnding.Open form bytes b xs ys h k may = tail_on Any bytes xs (goes_open bytes xs h) form b ys refl k (λ front list more is s. tt)
tail_joined TextEnding.Blank form bytes b xs ys h k may = tail_behind form bytes b xs ys (goes_blank bytes xs h) k may
tail_joined TextEnding.Bare form bytes b xs ys h k may = tail_behind form bytes b xs ys (goes_bare bytes xs h) k may

-- ---- closed, it is read so

list_decodes : (body : List ℕ) (list : List CsiParam) (ys : List Action) → Spellable list → Spells body list → Actions list false 109 ys → Decodes (27 ∷ 91 ∷ (body ++ 109 ∷ [])) false ys
list_decodes body list ys ok spelled means =
    decodes-one _ list false 109 ys (seq_of list 109 body ok (omega arith, omega arith) spelled) means

pub tail_decodes : (form : TextEnding) (bytes : List ℕ) (ys : List Action) → IsTail form bytes ys → Decodes (27 ∷ 91 ∷ (bytes ++ closing form)) false ys
tail_decodes TextEnding.Whole bytes ys h = absurd h
tail_decodes TextEnding.Last bytes ys (front, list, is, k) = rw (is, append-nil) (list_decodes front list ys k.spellable k.spelled k.means)
tail_decodes TextEnding.Open bytes ys (styles, are, o) = rw are (list_decodes bytes o.list (map Sgr styles) o.is.spellable o.is.spelled o.is.means)
tail_decodes TextEnding.Blank bytes ys (styles, front, is, are, o) =
    let h = behind_list front (48 ∷ []) o.list zero-list.list styles (Sgr sgr.Reset ∷ []) o.is o.unclosed zero-list.is in
    rw (is, are, map-append Sgr styles (sgr.Reset ∷ []), append_assoc) (rw append_assoc at (list_decodes (front ++ 59 ∷ 48 ∷ []) h.list _ h.is.spellable h.is.spelled h.is.means))
tail_decodes TextEnding.Bare bytes ys (is, are) = rw (is, are) (list_decodes [] [] (Sgr sgr.Reset ∷ []) tt refl refl)

-- and is no longer than both
pub joint_short : (st form : TextEnding) (bytes b : List ℕ) → may_join st form (59 ∷ b) ≡ true
    → length (27 ∷ 91 ∷ ((bytes ++ joint st form (59 ∷ b)) ++ closing (behind st form))) ≤ length ((27 ∷ 91 ∷ (bytes ++ closing st)) ++ 27 ∷ 91 ∷ (b ++ closing form))
joint_short TextEnding.Whole form bytes b may = cc
joint_short TextEnding.Last form bytes b may = cc
joint_short st TextEnding.Whole bytes b may = cc
joint_short st form bytes b may =
    omega (
      arith,
      length-append (bytes ++ joint st form (59 ∷ b)) (closing (behind st form)),
      length-append bytes (joint st form (59 ∷ b)),
      length-append (27 ∷ 91 ∷ (bytes ++ closing st)) (27 ∷ 91 ∷ (b ++ closing form)),
      length-append bytes (closing st),
      length-append b (closing form),
    )

-- ---- what is found of a text

-- numbers and `;` are no odd bytes
-- actions of which none is another are attributes
pub styles_by : (actions : List CSI) → list_any is_other actions ≡ false → (styles : List sgr_type.Sgr) × (map action_of actions ≡ map Sgr styles)
styles_by [] e = ([], refl)
styles_by (CSI.Sgr s ∷ more) e = let h = styles_by more e in (s ∷ h.0, ap (λ (l : List Action). Sgr s ∷ l) h.1)
styles_by (_ ∷ more) e = absurd (true≢false e)

pub open_listed : (text : List ℕ) (list : List CsiParam) (styles : List sgr_type.Sgr) → Seq text list 109 → IsStyleList list → ¬ EndsInSemicolon list
    → Actions list false 109 (map Sgr styles) → IsListed TextEnding.Open text
open_listed text list styles s plain unclosed means = record {
  bytes = s.body;
  actions = map Sgr styles;
  whole = s.whole;
  tail = (styles, refl, record { list = list; is = record { spellable = s.spellable; spelled = s.spelled; plain = plain; means = means }; unclosed = unclosed });
}

pub last_listed : (text : List ℕ) (list : List CsiParam) → Seq text list 109 → IsStyleList list → IsListed TextEnding.Last text
last_listed text list s plain = record {
  bytes = s.body ++ 109 ∷ [];
  actions = actions list false 109;
  whole = rw append-nil s.whole;
  tail = (s.body, list, refl, record { spellable = s.spellable; spelled = s.spelled; plain = plain; means = actions_are list false 109 });
}

pub blank_listed : (text front other : List ℕ) → text ≡ front ++ 59 ∷ 48 ∷ 109 ∷ [] → other ≡ front ++ 109 ∷ [] → IsListed TextEnding.Open other → IsListed TextEnding.Blank text
blank_listed text front other is made h =
    let begin : front ≡ 27 ∷ 91 ∷ h.bytes = append_cancel_right front (27 ∷ 91 ∷ h.bytes) (109 ∷ []) (sym made ∙ h.whole) in
    record {
      bytes = h.bytes ++ 59 ∷ [];
      actions = map Sgr (h.tail.0 ++ sgr.Reset ∷ []);
      whole = rw (is, begin, append_assoc) refl;
      tail = (h.tail.0, h.bytes, refl, refl, h.tail.2);
    }
