-- What parsing makes of a list: an action that is canonical is read back alone, an unknown one is the last; each is in range, and canonical or special.
use Rattle.std.proofs.Common.{ℕ, ◌≡◌, ◌<◌, List, [], ◌∷◌, Bool, false, length, refl, sym, ap, arith, inl, inr, true, ◌++◌, take, ◌∙◌, append_assoc, rules, take-append-drop}
use Rattle.csicodec_parser.specs.Segments.{BodyActions, CutActions, ActionsIn, remainder, empty_action, Segmented}
use Rattle.csicodec_parser.specs.{Canonical.IsUncut, Canonical.IsUnknownIn, Cut.body, Cut.IsStuck, Groups.marked, Groups.start}
use Rattle.csicodec_actions.specs.{Actions.Mode, Modes.changed, Modes.switched, Table.Whole, declared.mode.Change.Change}
use Rattle.csicodec_actions.specs.{declared.mode.DecPrivateMode.DecPrivateMode, declared.mode.Switch.Switch, declared.mode.TerminalMode.TerminalMode}
use Rattle.csicodec_parser.proofs.Fronts.{marked-body, plain-behind, rest-group}
use Rattle.csicodec_streams.proofs.Kept.{Spelling, spelling-alone, written-back, question-spellable, stuck-empty, changed-kept, switched-kept, whole-kept, Kept, KeptAt, kept-at}
use Rattle.csicodec_streams.proofs.Common.{cases_Bool, encode_ascii, CsiParam, IsFinal, Spellable, Actions, Canonical, Cut, group, has_odd, Piece, Group, Action, Sgr, Unspecified, InRange, Alone, AllByRecursion, all-append}
use Rattle.csicodec_streams.proofs.SgrSpelling.{sgr-spelling, sgr-kept}
use Rattle.csicodec_actions.proofs.AllRows.{no-tokens, whole-keeps}
use Rattle.csicodec_streams.specs.Suffix.{IsSuffix, changes_private, EndsUnknown, SuffixLaw}

-- ---- a list that is unknown is one action

uncut-body : (g : Group) (list t : List CsiParam) (flag : Bool) (final : ℕ) → marked g t ≡ list → (g ≡ Group.Styles → 0 < length t) → IsStuck g t
    → BodyActions g list t flag final (Unspecified list flag final ∷ [])
uncut-body Group.Styles list [] flag final same some stuck = absurd (omega (arith, some refl))
uncut-body (Group.Modes s) list [] flag final same some stuck = refl
uncut-body g list (t ∷ ts) flag final same some stuck =
    record { pieces = []; rest = t ∷ ts; cut = refl; stuck = stuck; all = ap (λ (l : List CsiParam). Unspecified l flag final ∷ []) (sym same) }
uncut-body _ list [] flag final same some stuck = refl

uncut-actions : (g : Group) (list : List CsiParam) (flag : Bool) (final : ℕ) → group list final ≡ g → (g ≡ Group.Styles → 0 < length (body g list)) → IsUncut g list
    → CutActions g list flag final (Unspecified list flag final ∷ [])
uncut-actions g list flag final same some unknown = elim (cases_Bool (has_odd g list)) [
  | inl odd ↦ rw odd refl
  | inr plain ↦ rw plain (uncut-body g list (body g list) flag final (marked-body g list final same) some (stuck unknown plain))
]
  where
    stuck : IsUncut g list → has_odd g list ≡ false → IsStuck g (body g list)
    stuck (inl odd) plain = cc (odd, plain)
    stuck (inr h) plain = h

unknown-actions : (g : Group) (list : List CsiParam) (flag : Bool) (final : ℕ) → group list final ≡ g → IsUnknownIn g list final → ActionsIn g list flag final (Unspecified list flag final ∷ [])
unknown-actions Group.Whole list flag final same unknown = inr (unknown, refl)
unknown-actions Group.Styles list flag final same unknown = uncut-actions Group.Styles list flag final same (λ e. unknown.1) unknown.0
unknown-actions g list flag final same unknown = uncut-actions g list flag final same (λ e. cc) unknown

pub canonical-spelling : (a : Action) (flag : Bool) → InRange a → Canonical a flag → Spelling flag a
canonical-spelling (Sgr s) flag range ok = sgr-spelling flag s range ok
canonical-spelling (Unspecified list own final) flag range c =
    rw c.same_flag (record {
      list = list;
      final = final;
      written = rw (encode_ascii final (omega (arith, c.ends.1))) refl;
      spellable = c.spellable;
      ends = c.ends;
      read = unknown-actions (group list final) list flag final refl c.unknown;
      closed = λ known. cc known;
    })
canonical-spelling a flag range ok = written-back flag a ok

pub canonical-alone : (a : Action) (flag : Bool) → InRange a → Canonical a flag → Alone flag a
canonical-alone a flag range ok = spelling-alone flag a (canonical-spelling a flag range ok)

-- ---- What parsing makes: an unknown action is the last, and holds a suffix of the list; each is in range, and canonical or special.

-- whether a `?` is put ahead of what is unknown behind a piece
abbrev puts_mark : Group → Bool
puts_mark (Group.DecModes c) = true
puts_mark _ = false

changes-private : (c : Change) (m : DecPrivateMode) → changes_private (Mode (changed c m)) ≡ true
changes-private Change.Set m = refl
changes-private _ m = refl

switches-none : (s : Switch) (m : TerminalMode) → changes_private (Mode (switched s m)) ≡ false
switches-none Switch.Set m = refl
switches-none Switch.Reset m = refl

-- a known piece is no unknown action
piece-ends : (g : Group) (behind : Bool) (list rest : List CsiParam) (flag : Bool) (final k : ℕ) (a : Action) (more : List Action) → Piece g rest k a
    → EndsUnknown (puts_mark g) list flag final more → EndsUnknown behind list flag final (a ∷ more)
piece-ends Group.Whole behind list rest flag final k a more p h = absurd p
piece-ends Group.Styles behind list rest flag final k a more p h = rw p.2 h
piece-ends (Group.Modes s) behind list rest flag final k a more p h = rw (p.5, switches-none s p.1) h
piece-ends (Group.DecModes c) behind list rest flag final k a more p h = rw (p.5, changes-private c p.1) h

cut-ends : (g : Group) (list body : List CsiParam) (flag : Bool) (final : ℕ) (xs : List Action) (rest : List CsiParam) (more : List Action) → Cut g body xs rest
    → EndsUnknown (puts_mark g) list flag final more → EndsUnknown (puts_mark g) list flag final (xs ++ more)
cut-ends g list body flag final [] rest more c h = h
cut-ends g list body flag final (x ∷ xs) rest more c h =
    piece-ends g _ list (c.0 ++ c.1) flag final _ x (xs ++ more) c.3.piece (cut-ends g list c.1 flag final xs rest more c.4 h)

suffix-behind : (front list rest : List CsiParam) → IsSuffix list rest → IsSuffix (front ++ list) rest
suffix-behind front list rest s = (front ++ s.0, ap (λ (l : List CsiParam). front ++ l) s.1 ∙ sym (append_assoc front s.0 rest))

pub cut-suffix : (g : Group) (body : List CsiParam) (xs : List Action) (rest : List CsiParam) → Cut g body xs rest → IsSuffix body rest
cut-suffix g body [] rest c = ([], c)
cut-suffix g body (x ∷ xs) rest c = rw c.2 (suffix-behind c.0 c.1 rest (cut-suffix g c.1 xs rest c.4))

unknown-ends : (list : List CsiParam) (flag : Bool) (final : ℕ) (xs : List Action) → xs ≡ Unspecified list flag final ∷ [] → EndsUnknown false list flag final xs
unknown-ends list flag final xs e = rw e (refl, refl, refl, ([], refl))

remainder-ends : (g : Group) (list rest : List CsiParam) (flag : Bool) (final : ℕ) → IsSuffix list rest → EndsUnknown (puts_mark g) list flag final (remainder g rest flag final)
remainder-ends g list [] flag final s = tt
remainder-ends (Group.DecModes c) list (t ∷ ts) flag final s = (refl, refl, refl, (t ∷ ts, refl, s))
remainder-ends _ list (t ∷ ts) flag final s = (refl, refl, refl, s)

-- no row of a whole list gives what is unknown
abbrev IsKnown : Action → Type 0
IsKnown (Unspecified params own final) = ⊥
IsKnown a = Unit {0}

whole-ends : (list : List CsiParam) (flag : Bool) (final : ℕ) (a : Action) → Whole list final a → EndsUnknown false list flag final (a ∷ [])
whole-ends list flag final a w = go a (whole-keeps (λ t. Unit {0}) (λ k v. Unit {0}) IsKnown (λ k z v h e. tt) (search rules depth 60) (search rules depth 60) list final a (no-tokens list) w)
  where
    go : (x : Action) → IsKnown x → EndsUnknown false list flag final (x ∷ [])
    go (Unspecified params own final) known = absurd known
    go x known = tt

-- ---- a list that is cut

segmented-ends : (g : Group) (list t : List CsiParam) (flag : Bool) (final : ℕ) (pieces : List Action) (rest : List CsiParam) → IsSuffix list t → 0 < length t → marked g t ≡ list → Cut g t pieces rest
    → EndsUnknown false list flag final (pieces ++ remainder g rest flag final)
segmented-ends g list t flag final [] rest suffix some same cut = whole rest cut
  where
    whole : (l : List CsiParam) → t ≡ l → EndsUnknown false list flag final (remainder g l flag final)
    whole [] e = absurd (omega (arith, some, ap length e))
    whole (u ∷ us) e = unknown-ends list flag final _ (ap (λ l. Unspecified l flag final ∷ []) (ap (marked g) (sym e) ∙ same))
segmented-ends g list t flag final (x ∷ xs) rest suffix some same cut =
    let behind : IsSuffix t rest = cut-suffix g t (x ∷ xs) rest cut in
    let all : IsSuffix list rest = rw suffix.1 (suffix-behind suffix.0 t rest behind) in
    piece-ends g false list (cut.0 ++ cut.1) flag final _ x _ cut.3.piece (cut-ends g list cut.1 flag final xs rest _ cut.4 (remainder-ends g list rest flag final all))

empty-ends : (g : Group) (list : List CsiParam) (flag : Bool) (final : ℕ) → EndsUnknown false list flag final (empty_action g list flag final ∷ [])
empty-ends Group.Styles list flag final = tt
empty-ends _ list flag final = unknown-ends list flag final _ refl

body-ends : (g : Group) (list t : List CsiParam) (flag : Bool) (final : ℕ) (xs : List Action) →
    IsSuffix list t → marked g t ≡ list → BodyActions g list t flag final xs →
    EndsUnknown false list flag final xs
body-ends g list [] flag final xs suffix same e = rw e (empty-ends g list flag final)
body-ends g list (t ∷ ts) flag final xs suffix same s = rw s.all (segmented-ends g list (t ∷ ts) flag final s.pieces s.rest suffix (omega arith) same s.cut)

cuts-end : (g : Group) (list : List CsiParam) (flag : Bool) (final : ℕ) (xs : List Action) → group list final ≡ g → CutActions g list flag final xs → EndsUnknown false list flag final xs
cuts-end g list flag final xs same h = elim (cases_Bool (has_odd g list)) [
  | inl odd ↦ unknown-ends list flag final xs (rw odd at h)
  | inr plain ↦
      let suffix : IsSuffix list (body g list) = (take (start g) list, sym (take-append-drop (start g) list)) in
      body-ends g list (body g list) flag final xs suffix (marked-body g list final same) (rw plain at h)
]

pub suffix_lem : (list : List CsiParam) (flag : Bool) (final : ℕ) → SuffixLaw list flag final
suffix_lem list flag final xs h = go (group list final) refl h
  where
    go : (g : Group) → group list final ≡ g → ActionsIn g list flag final xs → EndsUnknown false list flag final xs
    go Group.Whole same (inl k) = rw k.2 (whole-ends list flag final k.0 k.1)
    go Group.Whole same (inr k) = unknown-ends list flag final xs k.1
    go g same k = cuts-end g list flag final xs same k

-- ---- parsing makes only actions that are in range, and canonical or special: pieces, of any group

piece-kept : (flag : Bool) (final : ℕ) (g : Group) (rest : List CsiParam) (k : ℕ) (a : Action) → Piece g rest k a → KeptAt flag final a
piece-kept flag final Group.Styles rest k a p =
    let kept = sgr-kept rest k p.0 p.1 in
    rw p.2 (record { range = kept.range; canonical = inr kept.canonical })
piece-kept flag final Group.Whole rest k a p = absurd p
piece-kept flag final (Group.Modes s) rest k a p = rw p.5 (switched-kept flag final s p.0 p.1 p.4)
piece-kept flag final (Group.DecModes c) rest k a p = rw p.5 (changed-kept flag final c p.0 p.1 p.4)

pieces-kept : (flag : Bool) (final : ℕ) (g : Group) (body : List CsiParam) (pieces : List Action) (rest : List CsiParam) → Cut g body pieces rest → AllByRecursion (KeptAt flag final) pieces
pieces-kept flag final g body [] rest cut = tt
pieces-kept flag final g body (a ∷ pieces) rest cut = (piece-kept flag final g _ _ a cut.3.piece, pieces-kept flag final g cut.1 pieces rest cut.4)

-- ---- what is unknown

spellable-behind : (front list : List CsiParam) → Spellable (front ++ list) → Spellable list
spellable-behind [] list ok = ok
spellable-behind (t ∷ front) list ok = spellable-behind front list ok.2

unknown-kept : (list : List CsiParam) (flag : Bool) (final : ℕ) → Spellable list → IsFinal final → IsUnknownIn (group list final) list final → KeptAt flag final (Unspecified list flag final)
unknown-kept list flag final ok ends unknown =
    record { range = tt; canonical = inr (record { same_flag = refl; spellable = ok; ends = ends; unknown = unknown }) }

-- ---- a list that is cut

-- an unknown list that is cut, of any group of such lists
abbrev IsCutGroup : Group → Type 0
IsCutGroup g = g ≡ Group.Whole → ⊥

uncut-unknown : (g : Group) (list : List CsiParam) (final : ℕ) → IsCutGroup g → (g ≡ Group.Styles → 0 < length list) → IsUncut g list → IsUnknownIn g list final
uncut-unknown Group.Whole list final cut some unknown = absurd (cut refl)
uncut-unknown Group.Styles list final cut some unknown = (unknown, some refl)
uncut-unknown _ list final cut some unknown = unknown

-- what stands before the pieces can stand in a sequence
marked-spellable : (g : Group) (rest : List CsiParam) → Spellable rest → Spellable (marked g rest)
marked-spellable (Group.DecModes c) rest ok = (question-spellable, tt, ok)
marked-spellable _ rest ok = ok

marked-cut : (g : Group) (rest : List CsiParam) → body g (marked g rest) ≡ rest
marked-cut (Group.Modes s) rest = refl
marked-cut _ rest = refl

marked-some : (g : Group) (t : CsiParam) (ts : List CsiParam) → 0 < length (marked g (t ∷ ts))
marked-some (Group.Modes s) t ts = omega arith
marked-some _ t ts = omega arith

-- a rest falls in the group of its list, and no piece stands at its front there
remainder-kept : (flag : Bool) (g : Group) (list rest : List CsiParam) (final : ℕ) → IsCutGroup g → group list final ≡ g → has_odd g rest ≡ false → Spellable rest → IsFinal final
    → IsStuck g rest → AllByRecursion (KeptAt flag final) (remainder g rest flag final)
remainder-kept flag g list [] final cut same plain ok ends stuck = tt
remainder-kept flag g list (t ∷ ts) final cut same plain ok ends stuck =
    let here : IsUncut g (marked g (t ∷ ts)) = inr (rw (marked-cut g (t ∷ ts)) stuck) in
    let unknown : IsUnknownIn g (marked g (t ∷ ts)) final = uncut-unknown g (marked g (t ∷ ts)) final cut (λ e. marked-some g t ts) here in
    (unknown-kept (marked g (t ∷ ts)) flag final (marked-spellable g (t ∷ ts) ok) ends (rw (rest-group g list (t ∷ ts) final same cut plain) unknown), tt)

segmented-kept : (g : Group) (list cutting : List CsiParam) (flag : Bool) (final : ℕ) (actions : List Action) → IsCutGroup g → group list final ≡ g → has_odd g cutting ≡ false → Spellable cutting
    → IsFinal final → Segmented g cutting flag final actions → AllByRecursion (KeptAt flag final) actions
segmented-kept g list cutting flag final actions cut same plain ok ends s =
    let suffix = cut-suffix g cutting s.pieces s.rest s.cut in
    let spellable : Spellable s.rest = spellable-behind suffix.0 s.rest (rw suffix.1 at ok) in
    let none : has_odd g s.rest ≡ false = plain-behind g suffix.0 s.rest (rw suffix.1 at plain) in
    let rest = remainder-kept flag g list s.rest final cut same none spellable ends s.stuck in
    rw s.all (all-append (KeptAt flag final) s.pieces (remainder g s.rest flag final) (pieces-kept flag final g cutting s.pieces s.rest s.cut) rest)

-- nothing to cut
empty-kept : (g : Group) (list : List CsiParam) (flag : Bool) (final : ℕ) → group list final ≡ g → IsCutGroup g → Spellable list → IsFinal final → IsStuck g (body g list)
    → KeptAt flag final (empty_action g list flag final)
empty-kept Group.Whole list flag final same cut ok ends stuck = absurd (cut refl)
empty-kept Group.Styles list flag final same cut ok ends stuck = record { range = tt; canonical = inr tt }
empty-kept _ list flag final same cut ok ends stuck = unknown-kept list flag final ok ends (rw same (inr stuck))

odd-some : (g : Group) (list : List CsiParam) → has_odd g list ≡ true → 0 < length list
odd-some g [] e = cc
odd-some g (t ∷ ts) e = omega arith

cuts-kept : (g : Group) (list : List CsiParam) (flag : Bool) (final : ℕ) (actions : List Action) → IsCutGroup g → group list final ≡ g → Spellable list → IsFinal final
    → CutActions g list flag final actions → AllByRecursion (KeptAt flag final) actions
cuts-kept g list flag final actions cut same ok ends read = elim (cases_Bool (has_odd g list)) [
  | inl odd ↦
      let all : actions ≡ Unspecified list flag final ∷ [] = rw odd at read in
      let unknown : IsUnknownIn g list final = uncut-unknown g list final cut (λ e. odd-some g list odd) (inl odd) in
      rw all (unknown-kept list flag final ok ends (rw same unknown), tt)
  | inr plain ↦
      let parts : list ≡ take (start g) list ++ body g list = sym (take-append-drop (start g) list) in
      go (body g list) refl (plain-behind g (take (start g) list) (body g list) (rw parts at plain)) (spellable-behind (take (start g) list) (body g list) (rw parts at ok)) (rw plain at read)
]
  where
    go : (t : List CsiParam) → body g list ≡ t → has_odd g t ≡ false → Spellable t → BodyActions g list t flag final actions → AllByRecursion (KeptAt flag final) actions
    go [] e plain fits all = rw all (empty-kept g list flag final same cut ok ends (rw e (stuck-empty g)), tt)
    go (t ∷ ts) e plain fits s = segmented-kept g list (t ∷ ts) flag final actions cut same plain fits ends s

-- ---- by group

group-kept : (g : Group) (list : List CsiParam) (flag : Bool) (final : ℕ) (actions : List Action) → group list final ≡ g → Spellable list → IsFinal final
    → ActionsIn g list flag final actions → AllByRecursion (KeptAt flag final) actions
group-kept Group.Whole list flag final actions e ok ends (inl h) = rw h.2 (whole-kept flag list final h.0 ok h.1, tt)
group-kept Group.Whole list flag final actions e ok ends (inr h) = rw h.1 (unknown-kept list flag final ok ends (rw e h.0), tt)
group-kept g list flag final actions e ok ends read = cuts-kept g list flag final actions (λ w. cc) e ok ends read

-- each action that parsing makes of a list that a sequence can have, before a final byte that it can have
pub parsed-kept-at : (list : List CsiParam) (flag : Bool) (final : ℕ) (actions : List Action) → Spellable list → IsFinal final → Actions list flag final actions → AllByRecursion (KeptAt flag final) actions
parsed-kept-at list flag final actions ok ends read = group-kept (group list final) list flag final actions refl ok ends read

pub all-weaker : {A : Type 0} (P Q : A → Type 0) → ((a : A) → P a → Q a) → (xs : List A) → AllByRecursion P xs → AllByRecursion Q xs
all-weaker P Q f [] all = tt
all-weaker P Q f (x ∷ xs) all = (f x all.0, all-weaker P Q f xs all.1)

pub parsed-kept : (list : List CsiParam) (flag : Bool) (final : ℕ) (actions : List Action) → Spellable list → IsFinal final → Actions list flag final actions → AllByRecursion (Kept flag) actions
parsed-kept list flag final actions ok ends read = all-weaker (KeptAt flag final) (Kept flag) (kept-at flag final) actions (parsed-kept-at list flag final actions ok ends read)
