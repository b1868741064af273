-- The tokens of attributes, and the actions of their list; and what numbers set alone.
use Rattle.std.specs.{Prelude.map, Prelude.pos, Prelude.if◌then◌else◌, Option.option_map}
use Rattle.std.proofs.Common.{◌≡◌, ◌<◌, ◌+◌, ℕ, false, List, [], ◌∷◌, ◌++◌, length, Some, refl, sym, ap, subst, ◌∙◌, inl, inr, arith, append-nil, append_assoc, length-append, ◌≢◌, ◌==◌, zero, suc, Option, None, get_or}
use Rattle.std.proofs.{lemmas.Bool.lt-ltb, lemmas.Bool.ne_eqb, lemmas.List.map-append, lemmas.Option.some_pair_parts}
use Rattle.csicodec_tokens.specs.{declared.param.CsiParam.CsiParam, declared.param.CsiParam.TheVariants.Integer, declared.param.CsiParam.TheVariants.P}
use Rattle.csicodec_tokens.specs.{Digits.IsDigit, Sequence.IsBodyByte, Sequence.IsFinal, Sequence.Reads, Private.Reading.HasRead, Private.Reading.IsFirstToken}
use Rattle.csicodec_tokens.proofs.Reading.{read_all, read_more, read_none}
use Rattle.csicodec_names.specs.declared.color.ColorSpec.{ColorSpec}
use Rattle.csicodec_base.specs.{declared.sgr.Sgr.Sgr, FrontBy.color_by, FrontBy.piece, Shapes.Plane, Shapes.color_shapes, Shapes.painted}
use Rattle.csicodec_base.proofs.Table.{paint, is_piece}
use Rattle.csicodec_parser.specs.{Cut.semicolon, Groups.has_odd, Segments.Actions, declared.group.Group.TheVariants.Styles}
use Rattle.csicodec_parser.proofs.Fronts.{front_empty, front_stuck, style-list}
use Rattle.csicodec_streams.specs.Compose.{EndsInSemicolon}
use Rattle.csicodec_streams.proofs.Compose.{ends-joined, ends-part, plain-joint, sgr_compose_lem}
use Rattle.csicodec_structs.specs.Private.Short.{AreStyles, HasStyles, IsMark, IsOne, IsPainted, IsRow, ReadsOn, SetsAlone, style_struct, nothing, plain}
use Rattle.csicodec_structs.specs.{Rows.sgr_struct, Structs.color_row, declared.attributes.AttributeParts.AttributeParts, declared.structs.Struct.Struct}
use Rattle.csicodec_structs.specs.{declared.by_number.StyleRow.StyleRow, declared.by_number.TheConstants.STYLES}
use Rattle.csicodec_actions.specs.Actions.{Sgr as Styled}

-- ---- tokens in turn

pub reads_then : (text mid behind : List ℕ) (some more : List CsiParam) → ReadsOn text some mid → ReadsOn mid more behind → ReadsOn text (some ++ more) behind
reads_then text mid behind [] more r s = subst (λ (t : List ℕ). ReadsOn t more behind) (sym r) s
reads_then text mid behind (t ∷ some) more r s = (r.0, r.1, reads_then r.0 mid behind some more r.2 s)

read_on : (bytes text behind : List ℕ) (list tokens : List CsiParam) → HasRead bytes list text → ReadsOn text tokens behind → HasRead bytes (list ++ tokens) behind
read_on bytes text behind list [] h r = rw (append-nil list, ← r) h
read_on bytes text behind list (t ∷ tokens) h r =
    subst (λ (l : List CsiParam). HasRead bytes l behind) (append_assoc list (t ∷ []) tokens)
    (read_on bytes r.0 behind (list ++ t ∷ []) tokens (read_more bytes text r.0 list t h r.1) r.2)

-- all tokens, and the final
pub read_whole : (body rest after : List ℕ) (list : List CsiParam) (final : ℕ) → ReadsOn body list rest → IsFinal final → rest ≡ final ∷ after → Reads (27 ∷ 91 ∷ body) list final after
read_whole body rest after list final r is e =
    let bytes = 27 ∷ 91 ∷ body in
    read_all bytes rest after list final (read_on bytes body rest [] list (read_none bytes body refl) r) is e

pub one_token : (text behind : List ℕ) (t : CsiParam) → IsFirstToken text t behind → ReadsOn text (t ∷ []) behind
one_token text behind t first = (behind, first, refl)

-- a byte that is no digit
pub byte_token : (b : ℕ) (text others : List ℕ) → text ≡ b ∷ others → IsBodyByte b → ¬ IsDigit b → IsFirstToken text (P b) others
byte_token b text others e body other = record { front = b ∷ []; parts = e; spelled = refl; spellable = (body, other); whole = tt }

pub mark_token : (mark : ℕ) (text others : List ℕ) → IsMark mark → text ≡ mark ∷ others → IsFirstToken text (P mark) others
mark_token mark text others (inl is) e = byte_token mark text others e (omega (arith, is), omega (arith, is)) (λ d. omega (arith, d.1, is))
mark_token mark text others (inr is) e = byte_token mark text others e (omega (arith, is), omega (arith, is)) (λ d. omega (arith, d.1, is))

-- a list that ends in a number doesn't end in `;`
number_ends : (list : List CsiParam) (n : ℕ) → ¬ EndsInSemicolon (list ++ Integer (pos n) ∷ [])
number_ends list n ends = alone (ends-part list [] ends.0 (Integer (pos n)) ends.1)
  where
    alone : ¬ EndsInSemicolon (Integer (pos n) ∷ [])
    alone ([], e) = cc
    alone (t ∷ front, e) = absurd (omega (arith, ap length e, length-append front (semicolon ∷ [])))

-- ---- colours

pub palette : (kind mark : ℕ) (text parts behind : List ℕ) (way index : ℕ) (style : AttributeParts) → IsMark mark → way ≡ 5 → index < 256 → ReadsOn text (P mark ∷ Integer (pos way) ∷ []) parts
    → ReadsOn parts (P mark ∷ Integer (pos index) ∷ []) behind → style_struct style ≡ color_row kind (ColorSpec.PaletteIndex index) → IsPainted kind text style behind
palette kind mark text parts behind way index style is five low k i same = record {
  color = ColorSpec.PaletteIndex index;
  tokens = P mark ∷ Integer (pos 5) ∷ P mark ∷ Integer (pos index) ∷ [];
  reads = reads_then text parts behind (P mark ∷ Integer (pos 5) ∷ []) (P mark ∷ Integer (pos index) ∷ []) (rw five at k) i;
  gives = elim is [ inl colon ↦ rw (colon, lt-ltb index 256 low) refl | inr other ↦ rw (other, lt-ltb index 256 low) refl ];
  even = elim is [ inl colon ↦ rw colon refl | inr other ↦ rw other refl ];
  unended = λ code. number_ends (Integer code ∷ P mark ∷ Integer (pos 5) ∷ P mark ∷ []) index;
  same = same;
}

pub true_color : (kind mark : ℕ) (text parts one two behind : List ℕ) (way red green blue : ℕ) (style : AttributeParts) → IsMark mark → way ≡ 2 → red < 256 → green < 256 → blue < 256
    → ReadsOn text (P mark ∷ Integer (pos way) ∷ []) parts → ReadsOn parts (P mark ∷ Integer (pos red) ∷ []) one
    → ReadsOn one (P mark ∷ Integer (pos green) ∷ []) two → ReadsOn two (P mark ∷ Integer (pos blue) ∷ []) behind
    → style_struct style ≡ color_row kind (ColorSpec.TrueColor (record { 0 = red; 1 = green; 2 = blue; 3 = 255 })) → IsPainted kind text style behind
true_color kind mark text parts one two behind way red green blue style is two_parts r g b k rs gs bs same =
    let last = P mark ∷ Integer (pos blue) ∷ [] in
    let more = P mark ∷ Integer (pos green) ∷ last in
    record {
      color = ColorSpec.TrueColor (record { 0 = red; 1 = green; 2 = blue; 3 = 255 });
      tokens = P mark ∷ Integer (pos 2) ∷ P mark ∷ Integer (pos red) ∷ more;
      reads =
          reads_then text parts behind (P mark ∷ Integer (pos 2) ∷ []) (P mark ∷ Integer (pos red) ∷ more) (rw two_parts at k)
          (reads_then parts one behind (P mark ∷ Integer (pos red) ∷ []) more rs (reads_then one two behind (P mark ∷ Integer (pos green) ∷ []) last gs bs));
      gives = elim is [
        | inl colon ↦ rw (colon, lt-ltb red 256 r, lt-ltb green 256 g, lt-ltb blue 256 b) refl
        | inr other ↦ rw (other, lt-ltb red 256 r, lt-ltb green 256 g, lt-ltb blue 256 b) refl
      ];
      even = elim is [ inl colon ↦ rw colon refl | inr other ↦ rw other refl ];
      unended = λ code. number_ends (Integer code ∷ P mark ∷ Integer (pos 2) ∷ P mark ∷ Integer (pos red) ∷ P mark ∷ Integer (pos green) ∷ P mark ∷ []) blue;
      same = same;
    }

-- ---- one attribute

-- the action of a list that is one piece
one_cut : (list : List CsiParam) (s : Sgr) → has_odd Styles list ≡ false → 0 < length list → piece list ≡ Some (s, length list) → Actions list false 109 (Styled s ∷ [])
one_cut [] s even some gives = absurd (omega (arith, some))
one_cut (t ∷ ts) s even some gives =
    let whole = append-nil (t ∷ ts) in
    rw (style-list (t ∷ ts) even, even) (record {
      pieces = Styled s ∷ [];
      rest = [];
      cut = (t ∷ ts, [], sym whole, record { tokens = t ∷ ts; piece = (s, is_piece _ _ s (ap piece whole ∙ gives), refl); whole = inr (refl, λ more e. cc) }, refl);
      stuck = front_stuck Styles [] (front_empty Styles);
      all = refl;
    })

one_style : (text rest : List ℕ) (n : ℕ) (others : List CsiParam) (s : Sgr) (style : AttributeParts) → ReadsOn text (Integer (pos n) ∷ others) rest → has_odd Styles others ≡ false
    → ¬ EndsInSemicolon (Integer (pos n) ∷ others) → piece (Integer (pos n) ∷ others) ≡ Some (s, length others + 1) → style_struct style ≡ sgr_struct s → AreStyles text (style ∷ []) rest
one_style text rest n others s style reads even unended gives same =
    let list = Integer (pos n) ∷ others in
    record {
      list = list;
      all = s ∷ [];
      reads = reads;
      plain = record { some = omega arith; plain = even };
      unended = unended;
      are = one_cut list s even (omega arith) (gives ∙ ap (λ k. Some (s, k)) (omega arith));
      same = rw same refl;
    }

pub painted_by : (plane : Plane) (code kind : ℕ) → ((after : List CsiParam) → piece (Integer (pos code) ∷ after) ≡ paint plane (color_by 1 color_shapes after))
    → ((c : ColorSpec) → color_row kind c ≡ sgr_struct (painted plane c)) → (text mid behind : List ℕ) (n : ℕ) (style : AttributeParts) → n ≡ code → IsFirstToken text (Integer (pos n)) mid
    → IsPainted kind mid style behind → AreStyles text (style ∷ []) behind
painted_by plane code kind front same text mid behind n style is first p =
    one_style text behind n p.tokens (painted plane p.color) style (mid, first, p.reads) p.even (p.unended (pos n)) (rw is (front p.tokens ∙ rw p.gives refl)) (p.same ∙ same p.color)

pub alone_style : (text behind : List ℕ) (n : ℕ) (style : AttributeParts) → IsFirstToken text (Integer (pos n)) behind → SetsAlone n style → AreStyles text (style ∷ []) behind
alone_style text behind n style first (s, gives, same) = one_style text behind n [] s style (one_token text behind (Integer (pos n)) first) refl (number_ends [] n) gives same

-- the same as a row, also of no number, which resets
pub alone_row : (n : ℕ) (style : AttributeParts) (list : List CsiParam) → SetsAlone n style → IsOne n list → IsRow list 109 (style_struct style)
unfolding piece
alone_row n style list (s, gives, same) (inl one) = rw one (Styled s, one_cut (Integer (pos n) ∷ []) s refl (omega arith) gives, same, refl)
alone_row n style list (s, gives, same) (inr (is, none)) = rw none (Styled Sgr.Reset, refl, same ∙ ap sgr_struct (sym (some_pair_parts _ _ _ _ (rw is at gives)).0), refl)

-- ---- attributes in turn

pub styles_more : (text others rest : List ℕ) (styles more : List AttributeParts) → AreStyles text styles (59 ∷ others) → AreStyles others more rest → AreStyles text (styles ++ more) rest
styles_more text others rest styles more h k = record {
  list = h.list ++ semicolon ∷ k.list;
  all = h.all ++ k.all;
  reads =
      reads_then text (59 ∷ others) rest h.list (semicolon ∷ k.list) h.reads
      (others, byte_token 59 (59 ∷ others) others refl (omega arith, omega arith) (λ d. omega (arith, d.1)), k.reads);
  plain = record { some = omega (arith, length-append h.list (semicolon ∷ k.list)); plain = plain-joint h.list k.list h.plain.plain k.plain.plain };
  unended = λ ends. k.unended (ends-joined h.list k.list k.plain.some ends);
  are = rw (map-append Styled h.all k.all) (sgr_compose_lem h.list k.list false h.plain k.plain h.unended h.all (map Styled k.all) h.are k.are);
  same = rw (map-append style_struct styles more, map-append sgr_struct h.all k.all, h.same, k.same) refl;
}

pub styles_next : (body text rest : List ℕ) (styles : List AttributeParts) (style : AttributeParts) → HasStyles body styles text → AreStyles text (style ∷ []) rest
    → AreStyles body (styles ++ style ∷ []) rest
styles_next body text rest styles style (inl (none, same)) k = rw (none, ← same) k
styles_next body text rest styles style (inr h) k = styles_more body text rest styles (style ∷ []) h k

pub two_styles : (body behind : List ℕ) (a b : ℕ) (one two : AttributeParts) → ReadsOn body (Integer (pos a) ∷ P 59 ∷ Integer (pos b) ∷ []) behind
    → SetsAlone a one → SetsAlone b two → AreStyles body (one ∷ two ∷ []) behind
two_styles body behind a b one two (mid, first, (text, mark, (rest, second, last))) sets also =
    let e : mid ≡ 59 ∷ text = mark.parts ∙ rw mark.spelled refl in
    styles_more body text behind (one ∷ []) (two ∷ []) (subst (λ (t : List ℕ). AreStyles body (one ∷ []) t) e (alone_style body mid a one first sets))
    (alone_style text behind b two (rw last at second) also)

-- ---- the table of what numbers set alone, against what each number alone is read as

-- the struct of a row that sets something, of one token
abbrev own : StyleRow → Option (Struct × ℕ)
own r = if r.0 == 0 then None else Some (style_struct (plain r.0 r.1 r.2), 1)

-- the struct of what a number alone is read as, and of how many tokens
abbrev said : ℕ → Option (Struct × ℕ)
said n = option_map (λ (p : Sgr × ℕ). (sgr_struct p.0, p.1)) (piece (Integer (pos n) ∷ []))

-- of so many numbers, from one on
abbrev all_said : ℕ → ℕ → List (Option (Struct × ℕ))
all_said n zero = []
all_said n (suc k) = said n ∷ all_said (n + 1) k

all_own : map own STYLES ≡ all_said 0 (length STYLES)
unfolding piece
all_own = refl

own_at : (rows : List StyleRow) (n k : ℕ) → map own rows ≡ all_said n (length rows) → (get_or rows k nothing).0 ≢ 0 → own (get_or rows k nothing) ≡ said (n + k)
own_at [] n k e some = absurd (some refl)
own_at (r ∷ rows) n zero e some =
    let same : n + 0 ≡ n = omega arith in
    rw same cc
own_at (r ∷ rows) n (suc k) e some =
    let same : n + suc k ≡ n + 1 + k = omega arith in
    rw same (own_at rows (n + 1) k (cc) some)

reads_one : (n : ℕ) (r : StyleRow) (o : Option (Sgr × ℕ)) → piece (Integer (pos n) ∷ []) ≡ o → r.0 ≢ 0
    → own r ≡ option_map (λ (p : Sgr × ℕ). (sgr_struct p.0, p.1)) o → SetsAlone n (plain r.0 r.1 r.2)
reads_one n r None e some same = let none = rw (ne_eqb r.0 0 some) at same in cc
reads_one n r (Some p) e some same =
    let both = some_pair_parts _ _ _ _ (rw (ne_eqb r.0 0 some) at same) in
    (p.0, e ∙ ap (λ (k : ℕ). Some (p.0, k)) (sym both.1), both.0)

pub sets_alone : (n : ℕ) → (get_or STYLES n nothing).0 ≢ 0 → (style : AttributeParts)
    → style ≡ plain (get_or STYLES n nothing).0 (get_or STYLES n nothing).1 (get_or STYLES n nothing).2
    → SetsAlone n style
sets_alone n some style is =
    let same : 0 + n ≡ n = omega arith in
    rw is (reads_one n (get_or STYLES n nothing) (piece (Integer (pos n) ∷ [])) refl some (rw same at (own_at STYLES 0 n all_own some)))
