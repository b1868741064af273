-- The sequence of a look is one control sequence, and is read as a reset and its attributes.
use Rattle.csicodec_overwrite.proofs.Common.{◌≡◌, ◌≤◌, ◌<◌, ◌+◌, ◌*◌, ◌-◌, ℕ, Bool, true, false, List, [], ◌∷◌, ◌++◌, length, length-append, take, drop, map, ⊎_elim, refl, sym, ap, subst, ◌∙◌, append_assoc, append-nil, arith, codes, not, flat_map, take-append_seam, map-append, AllByRecursion, Sgr, SgrInRange, Look, behind, plain, IsInRange, attributes, further, given}
use Rattle.csicodec_tokens.specs.{declared.param.CsiParam.CsiParam, declared.param.CsiParam.TheVariants.Integer, declared.param.CsiParam.TheVariants.P}
use Rattle.csicodec_tokens.specs.{Digits.IsDigit, Param.spells, Sequence.Seq, Sequence.Spellable, Sequence.Spells}
use Rattle.csicodec_tokens.proofs.Printed.{printed}
use Rattle.csicodec_names.specs.{declared.color.Intensity.Intensity, declared.color.Underline.Underline, declared.color.ColorSpec.ColorSpec}
use Rattle.csicodec_base.specs.SgrText.{sgr_text}
use Rattle.csicodec_parser.specs.{Canonical.IsCanonicalSgr, Segments.Actions, Cut.semicolon, Groups.group, Groups.has_odd}
use Rattle.csicodec_parser.specs.{declared.group.Group.TheVariants.Styles}
use Rattle.csicodec_streams.specs.Compose.{EndsInSemicolon, IsStyleList}
use Rattle.csicodec_streams.proofs.Compose.{ends-joined, plain-joint, sgr_compose_lem, spellable-joined, spells-joined}
use Rattle.csicodec_streams.proofs.SgrSpelling.{sgr-spelling}
use Rattle.csicodec_terminal.specs.Terminal.{IsTakenFor, has_unknown}
use Rattle.csicodec_clean.specs.{Styled.IsOf, Styled.hides, Saving.behind_all, Saving.looks, declared.saving.Looks.Looks}
use Rattle.csicodec_clean.proofs.Coded.{AreCodes, coded, codes_parts, none_open, same_ends, unended}
use Rattle.csicodec_looks.specs.{Look.is_default, Look.is_none, Look.is_normal, Paint.look_text}
use Rattle.csicodec_actions.specs.Actions as action

-- an attribute that stands in a sequence
abbrev IsSpelled : Sgr → Type 0
IsSpelled s = SgrInRange s × IsCanonicalSgr s × (hides s ≡ false)

-- so many at most
abbrev AreSpelled : ℕ → List Sgr → Type 0
AreSpelled n styles = AllByRecursion IsSpelled styles × (length styles ≤ n)

given_spelled : (n : ℕ) (t : Bool) (s : Sgr) (rest : List Sgr) → IsSpelled s → AreSpelled n rest → AreSpelled (n + 1) (given t s ++ rest)
given_spelled n true s rest h k = ((h, k.0), omega (arith, k.1))
given_spelled n false s rest h k = (k.0, omega (arith, k.1))

all_spelled : (l : Look) → IsInRange l → AreSpelled 9 (attributes l)
all_spelled l (line, text, ground) =
    given_spelled 8 (not (is_normal l.intensity)) (Sgr.Intensity l.intensity) _ (tt, tt, refl)
    (given_spelled 7 l.italic (Sgr.Italic true) _ (tt, tt, refl)
    (given_spelled 6 (not (is_none l.underline)) (Sgr.Underline l.underline) _ (tt, tt, refl)
    (given_spelled 5 (not (is_default l.line)) (Sgr.UnderlineColor l.line) _ (line, tt, refl)
    (given_spelled 4 l.overline (Sgr.Overline true) _ (tt, tt, refl)
    (given_spelled 3 l.strike (Sgr.StrikeThrough true) _ (tt, tt, refl)
    (given_spelled 2 l.inverse (Sgr.Inverse true) _ (tt, tt, refl)
    (given_spelled 1 (not (is_default l.foreground)) (Sgr.Foreground l.foreground) _ (text, tt, refl)
    (given_spelled 0 (not (is_default l.background)) (Sgr.Background l.background) [] (ground, tt, refl) (tt, omega arith)))))))))

-- ---- its list: numbers and `:`

abbrev IsPlainToken : CsiParam → Type 0
IsPlainToken (Integer z) = Unit {0}
IsPlainToken (P b) = b ≡ 58

plain_tokens : (bs : List ℕ) (list : List CsiParam) → Spellable list → Spells bs list → AreCodes bs → AllByRecursion IsPlainToken list
plain_tokens bs [] can s h = tt
plain_tokens bs (Integer z ∷ list) can (front, rest, e, is, others) h =
    let parts = codes_parts front rest (subst AreCodes e h) in
    (tt, plain_tokens rest list can.2 others parts.1)
plain_tokens bs (P b ∷ list) can (front, rest, e, is, others) h =
    let parts = codes_parts front rest (subst AreCodes e h) in
    let one : AreCodes (b ∷ []) = subst AreCodes is parts.0 in
    (⊎_elim (λ (d : IsDigit b). absurd (can.0.1 d)) (λ (same : b ≡ 58). same) one.0, plain_tokens rest list can.2 others parts.1)

none_odd : (list : List CsiParam) → AllByRecursion IsPlainToken list → has_odd Styles list ≡ false
none_odd [] h = refl
none_odd (Integer z ∷ list) h = none_odd list h.1
none_odd (P b ∷ list) h = rw h.0 (none_odd list h.1)

some_tokens : (bs : List ℕ) (list : List CsiParam) → Spells bs list → 0 < length bs → 0 < length list
some_tokens bs [] s some = absurd (omega (arith, ap length s, some))
some_tokens bs (t ∷ list) s some = omega arith

-- ---- lists that are joined at a `;`

-- bytes that are a list of these attributes, and may go on
record Open (bytes : List ℕ) (styles : List Sgr) : Type 0 where
  list : List CsiParam
  spellable : Spellable list
  spelled : Spells bytes list
  plain : IsStyleList list
  unended : ¬ EndsInSemicolon list
  means : Actions list false 109 (map action.Sgr styles)

-- ---- one attribute

taken : (body : List ℕ) → take (length (body ++ 109 ∷ []) - 1) (body ++ 109 ∷ []) ≡ body
taken body =
    let long : length (body ++ 109 ∷ []) - 1 ≡ length body = omega (arith, length-append body (109 ∷ [])) in
    ap (λ (n : ℕ). take n (body ++ 109 ∷ [])) long ∙ take-append_seam body (109 ∷ [])

one_open : (s : Sgr) → IsSpelled s → Open (take (length (sgr_text s) - 1) (sgr_text s)) (s ∷ [])
one_open s h =
    let (body, is, codes, some, few) = coded s h.0 h.2 in
    let sp = sgr-spelling false s h.0 h.1 in
    let ends = same_ends body (spells sp.list) 109 sp.final (sym is ∙ ap (drop 2) sp.written) in
    let mine : take (length (sgr_text s) - 1) (sgr_text s) ≡ body = ap (λ (t : List ℕ). take (length t - 1) t) is ∙ taken body in
    let spelled : Spells body sp.list = subst (λ (t : List ℕ). Spells t sp.list) (sym ends.0) (printed sp.list sp.spellable) in
    let tokens = plain_tokens body sp.list sp.spellable spelled codes in
    record {
      list = sp.list;
      spellable = sp.spellable;
      spelled = subst (λ (t : List ℕ). Spells t sp.list) (sym mine) spelled;
      plain = record { some = some_tokens body sp.list spelled some; plain = none_odd sp.list tokens };
      unended = unended body sp.list spelled codes;
      means = subst (λ (f : ℕ). Actions sp.list false f (action.Sgr s ∷ [])) (sym ends.1) sp.read;
    }

-- ---- all

more_open : (bytes : List ℕ) (done : List Sgr) (s : Sgr) → Open bytes done → IsSpelled s → Open (bytes ++ further s) (done ++ s ∷ [])
more_open bytes done s o h =
    let next = one_open s h in
    record {
      list = o.list ++ semicolon ∷ next.list;
      spellable = spellable-joined o.list next.list o.spellable next.spellable;
      spelled = spells-joined bytes (take (length (sgr_text s) - 1) (sgr_text s)) o.list next.list o.spelled next.spelled;
      plain = record { some = omega (arith, length-append o.list (semicolon ∷ next.list)); plain = plain-joint o.list next.list o.plain.plain next.plain.plain };
      unended = λ ends. next.unended (ends-joined o.list next.list next.plain.some ends);
      means = subst (Actions (o.list ++ semicolon ∷ next.list) false 109) (sym (map-append action.Sgr done (s ∷ [])))
          (sgr_compose_lem o.list next.list false o.plain next.plain o.unended done (action.Sgr s ∷ []) o.means next.means);
    }

all_open : (styles : List Sgr) (bytes : List ℕ) (done : List Sgr) → Open bytes done → AllByRecursion IsSpelled styles → Open (bytes ++ flat_map further styles) (done ++ styles)
all_open [] bytes done o h = rw (append-nil bytes, append-nil done) o
all_open (s ∷ styles) bytes done o h =
    let all = all_open styles (bytes ++ further s) (done ++ s ∷ []) (more_open bytes done s o h.0) h.1 in
    let whole = bytes ++ (further s ++ flat_map further styles) in
    subst (Open whole) (append_assoc done (s ∷ []) styles) (subst (λ (t : List ℕ). Open t ((done ++ s ∷ []) ++ styles)) (append_assoc bytes (further s) (flat_map further styles)) all)

look_open : (l : Look) → IsInRange l → Open (48 ∷ flat_map further (attributes l)) (Sgr.Reset ∷ attributes l)
look_open l h = all_open (attributes l) (48 ∷ []) (Sgr.Reset ∷ []) (one_open Sgr.Reset (tt, tt, refl)) (all_spelled l h).0

look_seq : (l : Look) (h : IsInRange l) → Seq (look_text l) (look_open l h).list 109
unfolding look_text
look_seq l h =
    let o = look_open l h in
    record { spellable = o.spellable; ends = (omega arith, omega arith); body = 48 ∷ flat_map further (attributes l); spelled = o.spelled; whole = refl }

pub look_of_one : (l : Look) → IsInRange l → IsOf (look_text l) (map action.Sgr (Sgr.Reset ∷ attributes l))
look_of_one l h = ((look_open l h).list, 109, look_seq l h, (look_open l h).means)

-- ---- also as terminals take it

none_unknown : (styles : List Sgr) → has_unknown (map action.Sgr styles) ≡ false
none_unknown [] = refl
none_unknown (s ∷ styles) = none_unknown styles

pub look_taken : (l : Look) → IsInRange l → IsTakenFor (look_text l) (map action.Sgr (Sgr.Reset ∷ attributes l))
look_taken l h =
    let o = look_open l h in
    (o.list, 109, look_seq l h, (map action.Sgr (Sgr.Reset ∷ attributes l), o.means, rw (none_unknown (Sgr.Reset ∷ attributes l), none_open (group o.list 109) o.list o.unended) refl))

-- ---- and short

further_short : (s : Sgr) → IsSpelled s → length (further s) ≤ 61
further_short s h =
    let (body, is, codes, some, few) = coded s h.0 h.2 in
    let mine : take (length (sgr_text s) - 1) (sgr_text s) ≡ body = ap (λ (t : List ℕ). take (length t - 1) t) is ∙ taken body in
    omega (arith, ap length mine, few)

all_short : (styles : List Sgr) → AllByRecursion IsSpelled styles → length (flat_map further styles) ≤ 61 * length styles
all_short [] h = omega arith
all_short (s ∷ styles) h = omega (arith, length-append (further s) (flat_map further styles), further_short s h.0, all_short styles h.1)

pub look_short : (l : Look) → IsInRange l → length (look_text l) ≤ 1000
unfolding look_text
look_short l h = omega (arith, length-append (flat_map further (attributes l)) (109 ∷ []), all_short (attributes l) (all_spelled l h).0, (all_spelled l h).1)

-- ---- A look is what a reset and its attributes give.

normal : (x : Intensity) → not (is_normal x) ≡ false → Intensity.Normal ≡ x
normal Intensity.Normal e = refl
normal _ e = cc

none : (x : Underline) → not (is_none x) ≡ false → Underline.None ≡ x
none Underline.None e = refl
none _ e = cc

default : (x : ColorSpec) → not (is_default x) ≡ false → ColorSpec.Default ≡ x
default ColorSpec.Default e = refl
default _ e = cc

-- whatever is saved, which stays
module _ (saved : Look) where
  abbrev after : Look → List Sgr → Looks
  after l styles = behind_all (looks l saved) (map action.Sgr styles)

  -- an attribute that isn't set yet, where it is to be
  given_back : (m n : Look) (t : Bool) (s : Sgr) (rest : List Sgr) → (t ≡ false → m ≡ n) → (t ≡ true → behind m s ≡ n)
      → after m (given t s ++ rest) ≡ after n rest
  given_back m n true s rest h k = ap (λ (l : Look). after l rest) (k refl)
  given_back m n false s rest h k = ap (λ (l : Look). after l rest) (h refl)

  pub looks_back : (old look : Look) → behind_all (looks old saved) (map action.Sgr (Sgr.Reset ∷ attributes look)) ≡ looks look saved
  looks_back old l =
      let one = record plain { intensity = l.intensity } in
      let two = record one { italic = l.italic } in
      let three = record two { underline = l.underline } in
      let four = record three { line = l.line } in
      let five = record four { overline = l.overline } in
      let six = record five { strike = l.strike } in
      let seven = record six { inverse = l.inverse } in
      let eight = record seven { foreground = l.foreground } in
      given_back plain one _ _ _ (λ e. ap (λ (x : Intensity). record plain { intensity = x }) (normal l.intensity e)) (λ e. refl)
      ∙ given_back one two l.italic _ _ (λ e. rw e refl) (λ e. rw e refl)
      ∙ given_back two three _ _ _ (λ e. ap (λ (x : Underline). record two { underline = x }) (none l.underline e)) (λ e. refl)
      ∙ given_back three four _ _ _ (λ e. ap (λ (x : ColorSpec). record three { line = x }) (default l.line e)) (λ e. refl)
      ∙ given_back four five l.overline _ _ (λ e. rw e refl) (λ e. rw e refl)
      ∙ given_back five six l.strike _ _ (λ e. rw e refl) (λ e. rw e refl)
      ∙ given_back six seven l.inverse _ _ (λ e. rw e refl) (λ e. rw e refl)
      ∙ given_back seven eight _ _ _ (λ e. ap (λ (x : ColorSpec). record seven { foreground = x }) (default l.foreground e)) (λ e. refl)
      ∙ given_back eight l _ _ [] (λ e. ap (λ (x : ColorSpec). record eight { background = x }) (default l.background e)) (λ e. refl)
