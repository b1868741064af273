-- Lists before `m` compose at a `;`: so do cuts of any group whose pieces stand whatever follows them, unless it begins with `:`.
pub use Rattle.csicodec_streams.proofs.Colors.{spellable-joined, spells-joined}
use Rattle.std.proofs.Common.{◌≡◌, ℕ, ◌<◌, List, [], ◌∷◌, ◌++◌, length, drop, refl, sym, ap, subst, ◌∙◌, inl, inr, arith, append_assoc, append-nil, length-append, Bool, false, map, None}
use Rattle.std.proofs.Math.Seq.{drop-append_seam}
use Rattle.csicodec_base.specs.{FrontBy.piece, Pieces.NoColon}
use Rattle.csicodec_base.proofs.{Joint.piece_joint, Table.piece_is}
use Rattle.csicodec_parser.specs.{Cut.semicolon, Cut.NoSemicolon, Cut.IsBlock, Groups.is_odd, Segments.remainder, Segments.Segmented}
use Rattle.csicodec_parser.specs.{declared.group.Group.TheVariants.Styles}
use Rattle.csicodec_parser.proofs.{Cuts.block_is, Fronts.or-parts, Fronts.style-list}
use Rattle.csicodec_streams.specs.Compose.{EndsInSemicolon, SgrCompose}
use Rattle.csicodec_streams.proofs.Common.{CsiParam, P, Action, Sgr, Cut, Piece, has_odd, Actions, Group}
use Rattle.csicodec_base.specs.declared.sgr.Sgr as sgr_type
use Rattle.csicodec_base.specs.Pieces as pieces

-- a piece of the group stays whatever follows, unless it begins with `:`, and no piece begins with `:`
pub record Joinable (g : Group) : Type 0 where
  pub stays : (list more : List CsiParam) (k : ℕ) (a : Action) → NoColon (drop k list ++ more) → Piece g list k a → Piece g (list ++ more) k a
  pub no_colon : (ts : List CsiParam) (k : ℕ) (a : Action) → Piece g (P 58 ∷ ts) k a → ⊥

semicolon-no_colon : (list : List CsiParam) → NoColon (semicolon ∷ list)
semicolon-no_colon list rest e = let same : ◌≡◌ {A = ℕ} 59 58 = cc e in omega (arith, same)

-- a list that is cut to its end doesn't begin with `:`
cut-no-colon : (g : Group) → Joinable g → (list more : List CsiParam) (xs : List Action) → 0 < length list → Cut g list xs [] → NoColon (list ++ more)
cut-no-colon g j [] more xs some cut rest e = absurd (omega (arith, some))
cut-no-colon g j (t ∷ ts) more [] some cut rest e = cc cut
cut-no-colon g j (t ∷ ts) more (x ∷ xs) some cut rest e =
    let first : t ≡ P 58 = cc in
    j.no_colon ts (length cut.3.tokens) x (subst (λ (l : List CsiParam). Piece g l (length cut.3.tokens) x) (sym cut.2 ∙ ap (λ u. u ∷ ts) first) cut.3.piece)

-- nothing is cut of an empty list
cut-empty : (g : Group) (xs : List Action) (b : List CsiParam) → Cut g [] xs [] → Cut g b xs b
cut-empty g [] b cut = refl
cut-empty g (x ∷ xs) b cut =
    let some = (block_is g cut.0 cut.1 x cut.3).1 in
    absurd (omega (arith, some, ap length cut.2, length-append cut.0 cut.1))

-- ---- one block

-- what stands behind the tokens of a block
behind : (tokens block l more : List CsiParam) → block ≡ tokens ++ l → drop (length tokens) (block ++ more) ≡ l ++ more
behind tokens block l more e =
    ap (λ (b : List CsiParam). drop (length tokens) (b ++ more)) e
    ∙ ap (drop (length tokens)) (append_assoc tokens l more)
    ∙ drop-append_seam tokens (l ++ more)

no-colon-at : (list other more : List CsiParam) → list ≡ other → NoColon (other ++ more) → NoColon (list ++ more)
no-colon-at list other more e = subst (λ (l : List CsiParam). NoColon (l ++ more)) (sym e)

-- what follows a block that isn't the last begins with no `:`
no-colon-behind : (g : Group) → Joinable g → (block more b : List CsiParam) (x : Action) (xs : List Action) (h : IsBlock g block more x) → 0 < length more → Cut g more xs []
    → NoColon (drop (length h.tokens) (block ++ more) ++ semicolon ∷ b)
no-colon-behind g j block more b x xs h some cut = elim h.whole [
  | inl e ↦ no-colon-at _ _ _ (behind h.tokens block (semicolon ∷ []) more e) (semicolon-no_colon (more ++ semicolon ∷ b))
  | inr e ↦ no-colon-at _ _ _ (behind h.tokens block [] more (e.0 ∙ sym (append-nil h.tokens))) (cut-no-colon g j more (semicolon ∷ b) xs some cut)
]

abbrev JoinsAt : Group → List Action → List CsiParam → Type 0
JoinsAt g xs b =
    (body : List CsiParam) → 0 < length body → ¬ EndsInSemicolon body → Cut g body xs [] → Cut g (body ++ semicolon ∷ b) xs b

-- the `;` comes into the last block, and any other stays as it is
block-joint : (g : Group) → Joinable g → (block more b : List CsiParam) (x : Action) (xs : List Action) → IsBlock g block more x → ¬ EndsInSemicolon (block ++ more)
    → Cut g more xs [] → JoinsAt g xs b → Cut g ((block ++ more) ++ semicolon ∷ b) (x ∷ xs) b
block-joint g j block [] b x xs h unclosed cut rec = elim h.whole [
  | inl e ↦ absurd (unclosed (h.tokens, append-nil block ∙ e))
  | inr e ↦
      let same : (block ++ []) ++ semicolon ∷ b ≡ (block ++ semicolon ∷ []) ++ b =
      ap (λ (l : List CsiParam). l ++ semicolon ∷ b) (append-nil block) ∙ sym (append_assoc block (semicolon ∷ []) b) in
      let apart : NoColon (drop (length h.tokens) (block ++ []) ++ semicolon ∷ b) =
      no-colon-at _ _ _ (behind h.tokens block [] [] (e.0 ∙ sym (append-nil h.tokens))) (semicolon-no_colon b) in (
        block ++ semicolon ∷ [],
        b,
        same,
        record {
          tokens = h.tokens;
          piece = subst (λ (l : List CsiParam). Piece g l (length h.tokens) x) same (j.stays (block ++ []) (semicolon ∷ b) (length h.tokens) x apart h.piece);
          whole = inl (ap (λ (l : List CsiParam). l ++ semicolon ∷ []) e.0);
        },
        cut-empty g xs b cut,
      )
]
block-joint g j block (t ∷ ts) b x xs h unclosed cut rec =
    let same : (block ++ t ∷ ts) ++ semicolon ∷ b ≡ block ++ (t ∷ ts ++ semicolon ∷ b) = append_assoc block (t ∷ ts) (semicolon ∷ b) in
    let apart = no-colon-behind g j block (t ∷ ts) b x xs h (omega arith) cut in (
      block,
      t ∷ ts ++ semicolon ∷ b,
      same,
      record {
        tokens = h.tokens;
        piece = subst (λ (l : List CsiParam). Piece g l (length h.tokens) x) same (j.stays (block ++ t ∷ ts) (semicolon ∷ b) (length h.tokens) x apart h.piece);
        whole = elim h.whole [ inl e ↦ inl e | inr e ↦ inr (e.0, still e.1) ];
      },
      rec (t ∷ ts) (omega arith) (λ end. unclosed (block ++ end.0, ap (λ (l : List CsiParam). block ++ l) end.1 ∙ sym (append_assoc block end.0 (semicolon ∷ [])))) cut,
    )
  where
    still : NoSemicolon (t ∷ ts) → NoSemicolon (t ∷ ts ++ semicolon ∷ b)
    still none rest e = let first : t ≡ semicolon = cc in none ts (ap (λ u. u ∷ ts) first)

-- ---- cuts

pub cut-joint : (g : Group) → Joinable g → (xs : List Action) (b : List CsiParam) → JoinsAt g xs b
cut-joint g j [] b body some unclosed cut = absurd (omega (arith, some, ap length cut))
cut-joint g j (x ∷ xs) b body some unclosed cut =
    let unclosed' : ¬ EndsInSemicolon (cut.0 ++ cut.1) = subst (λ (l : List CsiParam). ¬ EndsInSemicolon l) cut.2 unclosed in
    subst (λ (l : List CsiParam). Cut g (l ++ semicolon ∷ b) (x ∷ xs) b) (sym cut.2) (block-joint g j cut.0 cut.1 b x xs cut.3 unclosed' cut.4 (cut-joint g j xs b))

pub cut-append : (g : Group) (body : List CsiParam) (xs ys : List Action) (mid rest : List CsiParam) → Cut g body xs mid → Cut g mid ys rest → Cut g body (xs ++ ys) rest
cut-append g body [] ys mid rest c d = rw c d
cut-append g body (x ∷ xs) ys mid rest c d = (c.0, c.1, c.2, c.3, cut-append g c.1 xs ys mid rest c.4 d)

-- ---- lists before `m` compose at a `;`

piece-no_colon : (ts : List CsiParam) → piece (P 58 ∷ ts) ≡ None
unfolding piece
piece-no_colon ts = refl

no_piece-colon : (ts : List CsiParam) (k : ℕ) (s : sgr_type.Sgr) → pieces.Piece (P 58 ∷ ts) k s → ⊥
no_piece-colon ts k s p = cc (piece_is (P 58 ∷ ts) k s p, piece-no_colon ts)

styles-joinable : Joinable Styles
styles-joinable = record {
  stays = λ list more k a apart p. (p.0, piece_joint list more k p.0 apart p.1, p.2);
  no_colon = λ ts k a p. no_piece-colon ts k p.0 p.1;
}

-- actions that are attributes alone are those of the cut, and nothing is left
only-styles : (flag : Bool) (final : ℕ) (styles : List sgr_type.Sgr) (xs : List Action) (rest : List CsiParam) → map Sgr styles ≡ xs ++ remainder Styles rest flag final
    → (xs ≡ map Sgr styles) × (rest ≡ [])
only-styles flag final [] [] [] e = (refl, refl)
only-styles flag final (s ∷ styles) [] (t ∷ ts) e = cc
only-styles flag final (s ∷ styles) (x ∷ xs) rest e =
    let others : map Sgr styles ≡ xs ++ remainder Styles rest flag final = cc in
    let first : Sgr s ≡ x = cc in
    let more = only-styles flag final styles xs rest others in
    (cc (first, more.0), more.1)
only-styles flag final _ _ _ e = cc

pub plain-joint : (a b : List CsiParam) → has_odd Styles a ≡ false → has_odd Styles b ≡ false → has_odd Styles (a ++ semicolon ∷ b) ≡ false
plain-joint [] b e f = f
plain-joint (t ∷ ts) b e f = let h = or-parts (is_odd Styles t) (has_odd Styles ts) e in rw h.0 (plain-joint ts b h.1 f)

-- a list without an odd byte is cut
style-cut : (t : CsiParam) (ts : List CsiParam) (flag : Bool) (xs : List Action) → has_odd Styles (t ∷ ts) ≡ false → Actions (t ∷ ts) flag 109 xs → Segmented Styles (t ∷ ts) flag 109 xs
style-cut t ts flag xs plain h = rw (style-list (t ∷ ts) plain, plain) at h

pub sgr_compose_lem : (a b : List CsiParam) (flag : Bool) → SgrCompose a b flag
sgr_compose_lem [] b flag la lb unclosed styles actions x y = absurd (omega (arith, la.some))
sgr_compose_lem (t ∷ ts) [] flag la lb unclosed styles actions x y = absurd (omega (arith, lb.some))
sgr_compose_lem (t ∷ ts) (u ∷ us) flag la lb unclosed styles actions x y =
    let s : Segmented Styles (t ∷ ts) flag 109 (map Sgr styles) = style-cut t ts flag (map Sgr styles) la.plain x in
    let r : Segmented Styles (u ∷ us) flag 109 actions = style-cut u us flag actions lb.plain y in
    let only = only-styles flag 109 styles s.pieces s.rest s.all in
    let joint = cut-joint Styles styles-joinable (map Sgr styles) (u ∷ us) (t ∷ ts) (omega arith) unclosed (rw (only.0, only.1) at s.cut) in
    let plain = plain-joint (t ∷ ts) (u ∷ us) la.plain lb.plain in
    rw (style-list (t ∷ ts ++ semicolon ∷ u ∷ us) plain, plain) (record {
      pieces = map Sgr styles ++ r.pieces;
      rest = r.rest;
      cut = cut-append Styles _ (map Sgr styles) r.pieces (u ∷ us) r.rest joint r.cut;
      stuck = r.stuck;
      all = ap (λ (l : List Action). map Sgr styles ++ l) r.all ∙ sym (append_assoc (map Sgr styles) r.pieces (remainder Styles r.rest flag 109));
    })

-- where a list with more in front ends in `;`, the list does
pub ends-part : (a us front : List CsiParam) (u : CsiParam) → a ++ u ∷ us ≡ front ++ semicolon ∷ [] → EndsInSemicolon (u ∷ us)
ends-part [] us front u e = (front, e)
ends-part (t ∷ a) us [] u e = absurd (omega (arith, ap length e, length-append a (u ∷ us)))
ends-part (t ∷ a) us (f ∷ front) u e = let others : a ++ u ∷ us ≡ front ++ semicolon ∷ [] = cc in ends-part a us front u others

pub ends-joined : (a b : List CsiParam) → 0 < length b → EndsInSemicolon (a ++ semicolon ∷ b) → EndsInSemicolon b
ends-joined a [] some h = absurd (omega (arith, some))
ends-joined a (u ∷ us) some h = ends-part (a ++ semicolon ∷ []) us h.0 u (append_assoc a (semicolon ∷ []) (u ∷ us) ∙ h.1)
