-- Styles and links that stay between the runs of text, and that what stays is safe by its bytes alone.
use Rattle.std.proofs.Common.{◌≡◌, ℕ, Option, Some, None, Bool, true, false, List, [], ◌∷◌, ◌++◌, map, encode_utf8_all, length, refl, sym, ap, subst, ◌∙◌, append_assoc, append-nil, arith, filter, not, ◌==◌, if◌then◌else◌, flat_map, ◌<◌, ◌≤◌, ◌+◌, ◌/◌, ◌%◌, ◌⊎◌, inl, inr, ne_eqb, ◌&&◌}
use Rattle.std.proofs.lemmas.List.Folds.{flat_map-map}
use Rattle.csicodec_clean.proofs.Common.{and_parts, cond_both, flat_map-append, AllByRecursion, all_scalars, scalar, lossy_chars, Action, text, ReadsAlone, Kind, Part, Address, Begun, IsLink, IsWithin, all_behind, is_linked, link_text, links_at, links_in, next, start, Item, Shown, Style, Link, item_texts, shown_items, Leaves, begun_behind, run_behind, items_behind, AreLeft, styles_of, link_in, links_of, ends_of, StylesIn, IsSafe, IsStyledIn, Keeping, keeping, first_kept, keeps, resets, shown, shown_text, IsShown, as_read, first_reading, AreGiven, IsStep, AreSteps, Ends, longest, Passing, nat_tests, SgrInRange, hides, is_param, is_visible}
use Rattle.csicodec_clean.proofs.{Linked.fine_behind, Linked.fine_links, Linked.linked_on, Linked.links_none, Reduced.reduced_alone, Reduced.reduced_hides}
use Rattle.csicodec_clean.proofs.{Reduced.reduced_twice, Plain.kept_shown, Plain.scalars_lossy, Plain.all_both, Taken.StyleAlone, Taken.taken_alone}
use Rattle.csicodec_clean.proofs.{Coded.AreCodes, Coded.IsCode, Coded.coded, Coded.style_range, Rendered.all_settled, Rendered.all_since, Rendered.open_by}
use Rattle.csicodec_clean.proofs.{Rendered.open_in, Rendered.open_on}
use Rattle.std.specs.{Char.encode_utf8, Str.bytes_eq, Prelude.slice_index}
use Rattle.csicodec_base.specs.declared.sgr.Sgr.{Sgr}
use Rattle.csicodec_streams.proofs.Exactly.{round_trip_lem}
use Rattle.csicodec_actions.specs.{declared.cursor.Cursor.Cursor, declared.mode.DecPrivateMode.DecPrivateMode, declared.mode.Mode.Mode as ModeAction}
use Rattle.csicodec_clean.specs.Styled.{Rendition, Spelled, behind_styles, brought_back, closed, is_open, is_reset, item_text, plain_rendition, rendition, rendition_by, rendition_in, set_back, settled, since_behind, spelled, style_in, style_texts, styles_by, styles_in}
use Rattle.csicodec_clean.specs.{declared.saving.Effect.Effect, Saving.by_final, Saving.effect_of, Saving.escape_effect, Saving.if_saving, Saving.is_saving}
use Rattle.csicodec_clean.specs.{Private.Notes.stays, Links.behind, Links.link_texts, Links.no_address, Marked.Stand, Marked.Text, Marked.Numbers}
use Rattle.csicodec_clean.specs.{Marked.Params, Marked.Url, Marked.stand_behind, Marked.is_marked, Marked.IsMarked}
use Rattle.csicodec_actions.specs.Devices as device
use Rattle.csicodec_actions.specs.Actions as action

-- ---- items

pub texts_both : (xs ys : List Item) → item_texts (xs ++ ys) ≡ item_texts xs ++ item_texts ys
texts_both xs ys = flat_map-append item_text xs ys

pub styles_both : (xs ys : List Item) → styles_of (xs ++ ys) ≡ styles_of xs ++ styles_of ys
styles_both xs ys = flat_map-append style_in xs ys

pub links_both : (xs ys : List Item) → links_of (xs ++ ys) ≡ links_of xs ++ links_of ys
links_both xs ys = flat_map-append link_in xs ys

-- of items of one kind, what they have none of, and what each is one of
pub none_in : {T X : Type 0} (f : Item → List X) (kind : T → Item) → ((t : T) → f (kind t) ≡ []) → (ts : List T) → flat_map f (map kind ts) ≡ []
none_in f kind none [] = refl
none_in f kind none (t ∷ ts) = rw (none t) (none_in f kind none ts)

pub each_in : {T : Type 0} (f : Item → List T) (kind : T → Item) → ((t : T) → f (kind t) ≡ t ∷ []) → (ts : List T) → flat_map f (map kind ts) ≡ ts
each_in f kind each [] = refl
each_in f kind each (t ∷ ts) = rw (each t) (ap (λ (us : List _). t ∷ us) (each_in f kind each ts))

pub texts_chars : (cs : List ℕ) → item_texts (map Shown cs) ≡ encode_utf8_all cs
texts_chars [] = refl
texts_chars (c ∷ cs) = ap (λ t. encode_utf8 c ++ t) (texts_chars cs)

-- what a part leaves, and then the others
pub part_texts : (run : List ℕ) (own others : List Item) → item_texts (shown_items run ++ (own ++ others)) ≡ shown_text run ++ (item_texts own ++ item_texts others)
part_texts run own others = simp (texts_both, texts_chars)

part_styles : (k : Kind) (run : List ℕ) (own others : List Item) → styles_of (items_behind k run ++ (own ++ others)) ≡ styles_of own ++ styles_of others
part_styles Kind.Text run own others = styles_both own others
part_styles _ run own others = simp (styles_both, none_in style_in Shown (λ c. refl))

pub part_links : (k : Kind) (run : List ℕ) (own others : List Item) → links_of (items_behind k run ++ (own ++ others)) ≡ links_of own ++ links_of others
part_links Kind.Text run own others = links_both own others
part_links _ run own others = simp (links_both, none_in link_in Shown (λ c. refl))

-- what ends a link and a style
abbrev pub end_text : Bool → Bool → List ℕ
end_text linked styled = (if linked then link_text no_address else []) ++ (if styled then text (action.Sgr Sgr.Reset) else [])

end_texts : (linked styled : Bool) → end_text linked styled ≡ item_texts (ends_of linked styled)
end_texts linked styled = grind (arith, append-nil {A = ℕ})

-- behind bytes of a control string
abbrev pub behind_string : Keeping → List ℕ → Keeping
behind_string k bytes = keeping k.passing k.rendition (is_linked k.linked (links_in k.passing.links k.begun bytes)) (all_behind k.passing.links k.begun bytes)

-- the rule that keeps, on a byte of a control string, where links pass
pub gives_link : (k : Keeping) (c : ℕ) → k.passing.links ≡ true
    → keeps.byte k c (link_texts (links_at true k.begun c)) (keeping k.passing k.rendition (is_linked k.linked (links_at true k.begun c)) (behind k.begun c))
gives_link k c e = rw e (refl, refl)

-- and where they don't
pub gives_none : (k : Keeping) (c : ℕ) → k.passing.links ≡ false → keeps.byte k c [] k
gives_none k c e = rw e (refl, refl)

given_string : (bytes : List ℕ) (k after : Keeping) (text : List ℕ) → AreGiven keeps k bytes text after
    → (text ≡ link_texts (links_in k.passing.links k.begun bytes)) × (after ≡ behind_string k bytes)
given_string [] k after text h = h
given_string (c ∷ bytes) k after text (first, mid, others, here, e, rest) =
    let r = given_string bytes mid after others rest in
    (rw (e, here.0, r.0, here.1) (simp flat_map-append), rw (r.1, here.1, linked_on) refl)

record Left (parts : List Part) (k : Keeping) (r : Rendition) (run text : List ℕ) (after : Keeping) (last : List ℕ) : Type 0 where
  items : List Item
  left : AreLeft k.passing r k.begun run parts items
  all : text ++ shown_text last ≡ item_texts items
  styled : after.rendition.styled ≡ is_open r.styled (styles_of items)
  linked : after.linked ≡ is_linked k.linked (links_of items)

-- what a step of the rule gives is the text of what its part leaves
pub record Step (kind : Kind) (k : Keeping) (r : Rendition) (mid : Keeping) (run bytes first next : List ℕ) : Type 0 where
  pub own : List Item
  pub after : Rendition
  pub leaves : Leaves k.passing r k.begun kind bytes own after
  pub text : (others : List Item) → item_texts (items_behind kind run ++ (own ++ others)) ≡ first ++ item_texts others
  pub next_run : next ≡ run_behind kind run bytes
  pub state : mid ≡ keeping k.passing (spelled after) (is_linked k.linked (links_of own)) (begun_behind k.passing k.begun kind bytes)
  pub opens : after.styled ≡ is_open r.styled (styles_of own)

rendered_as : (k : Keeping) (x : Spelled) → k.rendition ≡ x → k ≡ keeping k.passing x k.linked k.begun
rendered_as k x e = ap (λ (y : Spelled). keeping k.passing y k.linked k.begun) e

-- where it ends the run
ended : (run first given : List ℕ) (own others : List Item) → first ≡ shown_text run ++ given → item_texts own ≡ given
    → item_texts (shown_items run ++ (own ++ others)) ≡ first ++ item_texts others
ended run first given own others e same = rw (part_texts run own others, e, same) (simp append_assoc)

pub step : (kind : Kind) (k : Keeping) (r : Rendition) (mid : Keeping) (run bytes first next : List ℕ) → k.rendition ≡ spelled r → IsStep keeps kind k run bytes first mid next
    → Step kind k r mid run bytes first next
step Kind.Text k r mid run bytes first next of (none, same, on) =
    record { own = []; after = r; leaves = (refl, refl); text = λ others. rw none refl; next_run = on; state = same ∙ rendered_as k (spelled r) of; opens = refl }
step Kind.Csi k r mid run bytes first next of (given, (actions, is, gives), e, none) =
    let ss = styles_in k.passing r actions in
    let (same, state) = gives r of in
    record {
      own = map Style ss;
      after = rendition_in k.passing r actions;
      leaves = (actions, is, refl, refl);
      text = λ others. ended run first given (map Style ss) others e ((simp flat_map-map) ∙ sym same);
      next_run = none;
      state = rw (state, none_in link_in Style (λ s. refl) ss) refl;
      opens = rw (each_in style_in Style (λ s. refl) ss) (open_in k.passing r actions);
    }
step Kind.Esc k r mid run bytes first next of (given, gives, e, none) =
    let ss = styles_by k.passing r (escape_effect bytes) in
    let (same, state) = gives r of in
    record {
      own = map Style ss;
      after = rendition_by k.passing r (escape_effect bytes);
      leaves = (refl, refl);
      text = λ others. ended run first given (map Style ss) others e ((simp flat_map-map) ∙ sym same);
      next_run = none;
      state = rw (state, none_in link_in Style (λ s. refl) ss) refl;
      opens = rw (each_in style_in Style (λ s. refl) ss) (open_by k.passing r (escape_effect bytes));
    }
step Kind.Str k r mid run bytes first next of (given, steps, e, none) =
    let g = given_string bytes k mid given steps in
    let links = links_in k.passing.links k.begun bytes in
    record {
      own = map Link links;
      after = r;
      leaves = (refl, refl);
      text = λ others. ended run first given (map Link links) others e (flat_map-map item_text Link links ∙ sym g.0);
      next_run = none;
      state = rw (g.1, each_in link_in Link (λ a. refl) links, of) refl;
      opens = rw (none_in style_in Link (λ a. refl) links) refl;
    }
step _ k r mid run bytes first next of h =
    let e = h.0 ∙ sym (append-nil (shown_text run)) in
    record { own = []; after = r; leaves = (refl, refl); text = λ others. ended run first [] [] others e refl; next_run = h.2; state = h.1 ∙ rendered_as k (spelled r) of; opens = refl }

joined_open : (t : Bool) (k : Kind) (run : List ℕ) (own others : List Item) → is_open (is_open t (styles_of own)) (styles_of others) ≡ is_open t (styles_of (items_behind k run ++ (own ++ others)))
joined_open t k run own others = rw (part_styles k run own others, open_on) refl

left_of : (parts : List Part) (k after : Keeping) (r : Rendition) (run text last : List ℕ) → k.rendition ≡ spelled r → AreSteps keeps k run parts text after last
    → Left parts k r run text after last
left_of [] k after r run text last of (none, same, e) =
    let chars = filter shown (lossy_chars run) in
    record {
      items = shown_items run;
      left = refl;
      all = rw (none, e) (sym (texts_chars chars));
      styled = rw (same, none_in style_in Shown (λ c. refl) chars, of) refl;
      linked = rw (same, none_in link_in Shown (λ c. refl) chars) refl;
    }
left_of (p ∷ parts) k after r run text last of (first, mid, next, others, is, e, rest) =
    let h = step p.kind k r mid run p.bytes first next of is in
    let l = left_of parts mid after h.after next others last (ap (λ (x : Keeping). x.rendition) h.state) rest in
    let left = subst (λ (x : Keeping). AreLeft x.passing h.after x.begun (run_behind p.kind run p.bytes) parts l.items) h.state
    (subst (λ (y : List ℕ). AreLeft mid.passing h.after mid.begun y parts l.items) h.next_run l.left) in
    record {
      items = items_behind p.kind run ++ (h.own ++ l.items);
      left = (h.own, l.items, h.after, h.leaves, refl, left);
      all = rw (e, h.text l.items, ← l.all) (append_assoc first others (shown_text last));
      styled = l.styled ∙ ap (λ (t : Bool). is_open t (styles_of l.items)) h.opens ∙ joined_open r.styled p.kind run h.own l.items;
      linked = l.linked ∙ ap (λ (x : Keeping). is_linked x.linked (links_of l.items)) h.state ∙ (rw (part_links p.kind run h.own l.items, linked_on) refl);
    }

-- what the rule that keeps styles and links leaves, and what ends them where they are open
pub styles : (d : Passing) (k : Keeping) (bytes out : List ℕ) → k ≡ first_kept d → Ends keeps resets longest k bytes out → StylesIn d bytes out
styles d k bytes out begins ends =
    let e : Ends keeps resets longest (first_kept d) bytes out = rw begins at ends in
    let l = left_of (as_read first_reading e.parts) (first_kept d) e.after plain_rendition [] e.before e.run refl e.steps in
    let linked = is_linked false (links_of l.items) in
    let styled = is_open false (styles_of l.items) in
    let close : e.close ≡ item_texts (ends_of linked styled) =
    e.closes ∙ ap (λ (b : Bool). end_text b e.after.rendition.styled) l.linked ∙ ap (end_text linked) l.styled ∙ end_texts linked styled in
    record {
      parts = e.parts;
      whole = e.whole;
      items = l.items;
      left = l.left;
      all = e.all ∙ ap (λ (x : List ℕ). e.before ++ (shown_text e.run ++ x)) close ∙ sym
          (append_assoc e.before (shown_text e.run) (item_texts (ends_of linked styled)))
          ∙ ap (λ (x : List ℕ). x ++ item_texts (ends_of linked styled)) l.all ∙ sym (texts_both l.items (ends_of linked styled));
    }

-- ---- safe

safe_chars : (d : Passing) (cs : List ℕ) → all_scalars cs ≡ true → AllByRecursion IsShown cs → AllByRecursion (IsSafe d) (map Shown cs)
safe_chars d [] a h = tt
safe_chars d (c ∷ cs) a h = let both = and_parts (scalar c) (all_scalars cs) a in ((h.0, both.0), safe_chars d cs both.1 h.1)

safe_run : (d : Passing) (run : List ℕ) → AllByRecursion (IsSafe d) (shown_items run)
safe_run d run = let k = kept_shown (lossy_chars run) (scalars_lossy run) in safe_chars d (filter shown (lossy_chars run)) k.0 k.1

reset_alone : ReadsAlone (action.Sgr Sgr.Reset) false
reset_alone = (round_trip_lem [] false 109 tt (omega arith, omega arith) (action.Sgr Sgr.Reset ∷ []) refl).attributes Sgr.Reset (0, omega arith, refl)

-- what sets back what is open is a reset, or nothing
reset_safe : (d : Passing) → IsSafe d (Style Sgr.Reset)
reset_safe d = (refl, reset_alone, refl)

-- such a style, such styles, and a rendition that has only such
abbrev SafeStyle : Passing → Sgr → Type 0
SafeStyle d s = IsSafe d (Style s)

abbrev AreSafe : Passing → List Sgr → Type 0
AreSafe d ss = AllByRecursion (SafeStyle d) ss

abbrev SafeRendition : Passing → Rendition → Type 0
SafeRendition d r = AreSafe d r.since × AreSafe d r.saved

safe_styles : (d : Passing) (ss : List Sgr) → AreSafe d ss → AllByRecursion (IsSafe d) (map Style ss)
safe_styles d [] h = tt
safe_styles d (s ∷ ss) h = (h.0, safe_styles d ss h.1)

safe_back : (d : Passing) (t : Bool) → AreSafe d (set_back t)
safe_back d true = (reset_safe d, tt)
safe_back d false = tt

safe_brought : (d : Passing) (r : Rendition) → SafeRendition d r → AreSafe d (brought_back r)
safe_brought d r h =
    cond_both (bytes_eq (style_texts (settled r.saved)) (style_texts (settled r.since))) [] (set_back r.styled ++ settled r.saved) (AreSafe d) (λ _. tt)
    (λ _. all_both (SafeStyle d) (set_back r.styled) (settled r.saved) (safe_back d r.styled) (all_settled (SafeStyle d) r.saved h.1))

-- a style that comes is read alone
abbrev AloneBy : Option Effect → Type 0
AloneBy (Some (Effect.Sets s)) = ReadsAlone (action.Sgr s) false
AloneBy e = Unit {0}

safe_set : (d : Passing) (s : Sgr) → ReadsAlone (action.Sgr s) false → AreSafe d (stays d.depth (Some (Effect.Sets s)))
safe_set d s h = grind (arith, reduced_hides d.depth s, reduced_alone d.depth s h, reduced_twice d.depth s)

safe_on : (d : Passing) (r : Rendition) (ss : List Sgr) → SafeRendition d r → AreSafe d ss → SafeRendition d (behind_styles d r ss)
safe_on d r ss h k = (cond_both d.restores (since_behind r.since ss) r.since (AreSafe d) (λ _. all_since (SafeStyle d) r.since ss h.0 k) (λ _. h.0), h.1)

safe_by : (d : Passing) (r : Rendition) (e : Option Effect) → SafeRendition d r → AloneBy e → AreSafe d (styles_by d r e) × SafeRendition d (rendition_by d r e)
safe_by d r None h alone = (tt, safe_on d r [] h tt)
safe_by d r (Some (Effect.Sets s)) h alone = let own = safe_set d s alone in (own, safe_on d r (stays d.depth (Some (Effect.Sets s))) h own)
safe_by d r (Some Effect.Clears) h alone = (safe_back d r.styled, (tt, tt))
safe_by d r (Some Effect.Saves) h alone =
    (tt, cond_both d.restores (rendition r.styled r.since r.since) r (SafeRendition d) (λ _. (h.0, h.0)) (λ _. h))
safe_by d r (Some Effect.Restores) h alone = (
  cond_both d.restores (brought_back r) [] (AreSafe d) (λ _. safe_brought d r h) (λ _. tt),
  cond_both d.restores (rendition (is_open r.styled (brought_back r)) r.saved r.saved) r (SafeRendition d) (λ _. (h.1, h.1)) (λ _. h),
)

mode_alone : (e : Effect) (m : DecPrivateMode) → AloneBy (Some e) → AloneBy (if_saving e m)
mode_alone e (DecPrivateMode.Code c) h = cond_both (is_saving c) (Some e) None AloneBy (λ _. h) (λ _. tt)
mode_alone e (DecPrivateMode.Unspecified n) h = tt

alone_by : (a : Action) → StyleAlone a → AloneBy (effect_of a)
alone_by (action.Sgr s) h = h
alone_by (action.Cursor Cursor.SaveCursor) h = tt
alone_by (action.Cursor Cursor.RestoreCursor) h = tt
alone_by (action.Cursor _) h = tt
alone_by (action.Mode (ModeAction.SetDecPrivateMode m)) h = mode_alone Effect.Saves m tt
alone_by (action.Mode (ModeAction.ResetDecPrivateMode m)) h = mode_alone Effect.Restores m tt
alone_by (action.Mode _) h = tt
alone_by (action.Device device.SoftReset) h = tt
alone_by (action.Device _) h = tt
alone_by _ h = tt

escape_alone : (bytes : List ℕ) → AloneBy (escape_effect bytes)
escape_alone bytes = cond_both (length bytes == 2) (by_final (slice_index bytes 1)) None AloneBy (λ _. final (slice_index bytes 1)) (λ _. tt)
  where
    final : (c : ℕ) → AloneBy (by_final c)
    final c = cond_both (c == 55) (Some Effect.Saves) _ AloneBy (λ _. tt)
        (λ _. cond_both (c == 56) (Some Effect.Restores) _ AloneBy (λ _. tt) (λ _. cond_both (c == 99) (Some Effect.Clears) None AloneBy (λ _. tt) (λ _. tt)))

safe_in : (d : Passing) (r : Rendition) (actions : List Action) → SafeRendition d r → AllByRecursion StyleAlone actions
    → AreSafe d (styles_in d r actions) × SafeRendition d (rendition_in d r actions)
safe_in d r [] h all = (tt, h)
safe_in d r (a ∷ actions) h all =
    let (own, behind) = safe_by d r (effect_of a) h (alone_by a all.0) in
    let (others, last) = safe_in d (rendition_by d r (effect_of a)) actions behind all.1 in
    (all_both (SafeStyle d) (styles_by d r (effect_of a)) (styles_in d (rendition_by d r (effect_of a)) actions) own others, last)

safe_links : (d : Passing) (bytes : List ℕ) (b : Begun) → IsWithin b.address → AllByRecursion (IsSafe d) (map Link (links_in d.links b bytes))
safe_links d bytes b h = by d.links refl
  where
    all : (links : List Address) → d.links ≡ true → AllByRecursion IsLink links → AllByRecursion (IsSafe d) (map Link links)
    all [] e k = tt
    all (a ∷ links) e k = ((e, k.0), all links e k.1)

    by : (l : Bool) → d.links ≡ l → AllByRecursion (IsSafe d) (map Link (links_in l b bytes))
    by true e = all (links_in true b bytes) e (fine_links true bytes b h)
    by false e = rw (links_none bytes b) tt

safe_part : (d : Passing) (r : Rendition) (b : Begun) (k : Kind) (bytes : List ℕ) (own : List Item) (after : Rendition) → IsWithin b.address → SafeRendition d r
    → Leaves d r b k bytes own after → AllByRecursion (IsSafe d) own × SafeRendition d after
safe_part d r b Kind.Csi bytes own after h safe (actions, is, e, f) =
    let (ss, behind) = safe_in d r actions safe (taken_alone bytes actions is) in (rw e (safe_styles d (styles_in d r actions) ss), rw f behind)
safe_part d r b Kind.Esc bytes own after h safe (e, f) =
    let effect = escape_effect bytes in
    let (ss, behind) = safe_by d r effect safe (escape_alone bytes) in (rw e (safe_styles d (styles_by d r effect) ss), rw f behind)
safe_part d r b Kind.Str bytes own after h safe (e, f) = (rw e (safe_links d bytes b h), rw f safe)
safe_part d r b _ bytes own after h safe l = (rw l.0 tt, rw l.1 safe)

safe_behind : (d : Passing) (k : Kind) (run : List ℕ) → AllByRecursion (IsSafe d) (items_behind k run)
safe_behind d Kind.Text run = tt
safe_behind d _ run = safe_run d run

fine_part : (d : Passing) (b : Begun) (k : Kind) (bytes : List ℕ) → IsWithin b.address → IsWithin (begun_behind d b k bytes).address
fine_part d b Kind.Str bytes h = fine_behind d.links bytes b h
fine_part d b _ bytes h = h

safe_left : (d : Passing) (r : Rendition) (b : Begun) (parts : List Part) (run : List ℕ) (items : List Item) → IsWithin b.address → SafeRendition d r → AreLeft d r b run parts items
    → AllByRecursion (IsSafe d) items
safe_left d r b [] run items h safe e = rw e (safe_run d run)
safe_left d r b (p ∷ parts) run items h safe (own, others, after, leaves, e, rest) =
    let (here, behind) = safe_part d r b p.kind p.bytes own after h safe leaves in
    let later = safe_left d after (begun_behind d b p.kind p.bytes) parts (run_behind p.kind run p.bytes) others (fine_part d b p.kind p.bytes h) behind rest in
    rw e (all_both (IsSafe d) (items_behind p.kind run) (own ++ others) (safe_behind d p.kind run) (all_both (IsSafe d) own others here later))

none_within : IsWithin no_address
none_within = record { params = tt; few = omega arith; url = tt; short = omega arith }

none_fine : IsLink no_address
none_fine = record { within = none_within; leads = refl }

-- a link is open only where links pass
linked_passes : (d : Passing) (items : List Item) (linked : Bool) → (linked ≡ true → d.links ≡ true) → AllByRecursion (IsSafe d) items → is_linked linked (links_of items) ≡ true → d.links ≡ true
linked_passes d [] linked f h e = f e
linked_passes d (Link a ∷ items) linked f h e = linked_passes d items (not (length a.url == 0)) (λ _. h.0.0) h.1 e
linked_passes d (_ ∷ items) linked f h e = linked_passes d items linked f h.1 e

-- nothing is open behind what ends it
styles_shut : (items : List Item) (linked styled : Bool) → is_open false (styles_of items) ≡ styled → is_open false (styles_of (items ++ ends_of linked styled)) ≡ false
styles_shut items linked styled e = grind (arith, styles_both, open_on)

links_shut : (items : List Item) (linked styled : Bool) → is_linked false (links_of items) ≡ linked → is_linked false (links_of (items ++ ends_of linked styled)) ≡ false
links_shut items linked styled e = grind (arith, links_both, linked_on)

safe_ends : (d : Passing) (linked styled : Bool) → (linked ≡ true → d.links ≡ true) → AllByRecursion (IsSafe d) (ends_of linked styled)
safe_ends d linked styled f =
    let reset = reset_safe d in
    let none = none_fine in
    grind arith

pub safe_closed : (d : Passing) (bytes text : List ℕ) (s : StylesIn d bytes text) → AllByRecursion (IsSafe d) (closed s.items)
safe_closed d bytes text s =
    let safe = safe_left d plain_rendition start (as_read first_reading s.parts) [] s.items none_within (tt, tt) s.left in
    let linked = is_linked false (links_of s.items) in
    let styled = is_open false (styles_of s.items) in
    all_both (IsSafe d) s.items (ends_of linked styled) safe (safe_ends d linked styled (λ e. linked_passes d s.items false (λ no. absurd cc) safe e))

pub styled : (d : Passing) (bytes text : List ℕ) → StylesIn d bytes text → IsStyledIn d text
styled d bytes text s =
    let linked = is_linked false (links_of s.items) in
    let styled = is_open false (styles_of s.items) in
    record {
      items = closed s.items;
      safe = safe_closed d bytes text s;
      texts = s.all;
      none_open = styles_shut s.items linked styled refl;
      none_linked = links_shut s.items linked styled refl;
    }

-- ---- What `clean` leaves is safe by its bytes alone.

-- ---- characters

-- behind them text goes on
abbrev Passes : List ℕ → Type 0
Passes bytes = (links styled linked : Bool) (more : List ℕ) → is_marked links Text styled linked (bytes ++ more) ≡ is_marked links Text styled linked more

one : (c : ℕ) → c < 128 → IsShown c → Passes (c ∷ [])
one c k h links styled linked more = grind (arith, nat_tests)

two : (c : ℕ) → 160 ≤ c → c < 2048 → Passes ((192 + c / 64) ∷ (128 + c % 64) ∷ [])
two c h k links styled linked more = grind (arith, nat_tests)

three : (c : ℕ) → 2048 ≤ c → c < 65536 → scalar c ≡ true → Passes ((224 + c / 4096) ∷ (128 + (c / 64) % 64) ∷ (128 + c % 64) ∷ [])
three c h k s links styled linked more = grind (arith, nat_tests)

four : (c : ℕ) → 65536 ≤ c → scalar c ≡ true → Passes ((240 + c / 262144) ∷ (128 + (c / 4096) % 64) ∷ (128 + (c / 64) % 64) ∷ (128 + c % 64) ∷ [])
four c h s links styled linked more = grind (arith, nat_tests)

char_marked : (c : ℕ) → IsShown c → scalar c ≡ true → Passes (encode_utf8 c)
unfolding encode_utf8
char_marked c h s = grind (arith, nat_tests, one, two, three, four)

-- ---- styles

-- behind such, a style may be open
abbrev Behind : Bool → Stand → Bool → Bool → List ℕ → List ℕ → Type 0
Behind links s styled linked t more = (opened : Bool) × (is_marked links s styled linked (t ++ more) ≡ is_marked links Text opened linked more)

on_number : (links zeros styled linked : Bool) (b : ℕ) (more : List ℕ) → IsCode b
    → is_marked links (Numbers zeros) styled linked (b ∷ more) ≡ is_marked links (Numbers (zeros && b == 48)) styled linked more
on_number links zeros styled linked b more h = grind (arith, nat_tests)

numbers_marked : (links zeros styled linked : Bool) (body more : List ℕ) → AreCodes body → Behind links (Numbers zeros) styled linked (body ++ 109 ∷ []) more
numbers_marked links zeros styled linked [] more h = (not zeros, refl)
numbers_marked links zeros styled linked (b ∷ body) more h =
    let later = numbers_marked links (zeros && b == 48) styled linked body more h.1 in
    (later.0, on_number links zeros styled linked b ((body ++ 109 ∷ []) ++ more) h.0 ∙ later.1)

only_reset : (s : Sgr) → (s ≡ Sgr.Reset) ⊎ (is_reset s ≡ false)
only_reset s = grind arith

style_marked : (links styled linked : Bool) (s : Sgr) (more : List ℕ) → SgrInRange s → hides s ≡ false
    → (opened : Bool) × (not (is_reset s) ≡ false → opened ≡ false) ×
    (is_marked links Text styled linked (text (action.Sgr s) ++ more) ≡ is_marked links Text opened linked more)
style_marked links styled linked s more h k = elim (only_reset s) [
  | inl e ↦ (false, λ c. refl, rw e refl)
  | inr e ↦
      let (body, is, are, some, few) = coded s h k in
      let r = subst (λ (t : List ℕ). Behind links (Numbers true) styled linked t more) (sym is) (numbers_marked links true styled linked body more are) in
      (r.0, λ c. (let clash : true ≡ false = sym (ap not e) ∙ c in absurd cc), r.1)
]

-- ---- links

param_stays : (b : ℕ) → is_param b ≡ true → stand_behind true Params b ≡ Params
param_stays b h = grind (arith, nat_tests)

params_marked : (styled linked : Bool) (ps more : List ℕ) → AllByRecursion (λ b. is_param b ≡ true) ps → is_marked true Params styled linked (ps ++ more) ≡ is_marked true Params styled linked more
params_marked styled linked [] more h = refl
params_marked styled linked (b ∷ ps) more h = ap (λ (s : Stand). is_marked true s styled linked (ps ++ more)) (param_stays b h.0) ∙ params_marked styled linked ps more h.1

url_stays : (some : Bool) (b : ℕ) → is_visible b ≡ true → stand_behind true (Url some) b ≡ Url true
url_stays some b h = grind (arith, nat_tests)

url_marked : (styled linked : Bool) (us more : List ℕ) → AllByRecursion (λ b. is_visible b ≡ true) us
    → is_marked true (Url true) styled linked (us ++ 27 ∷ 92 ∷ more) ≡ is_marked true Text styled true more
url_marked styled linked [] more h = refl
url_marked styled linked (b ∷ us) more h = ap (λ (s : Stand). is_marked true s styled linked (us ++ 27 ∷ 92 ∷ more)) (url_stays true b h.0) ∙ url_marked styled linked us more h.1

address_marked : (styled linked : Bool) (us more : List ℕ) → AllByRecursion (λ b. is_visible b ≡ true) us
    → is_marked true (Url false) styled linked (us ++ 27 ∷ 92 ∷ more) ≡ is_marked true Text styled (not (length us == 0)) more
address_marked styled linked [] more h = refl
address_marked styled linked (b ∷ us) more h =
    ap (λ (s : Stand). is_marked true s styled linked (us ++ 27 ∷ 92 ∷ more)) (url_stays false b h.0) ∙ url_marked styled linked us more h.1
    ∙ ap (λ (some : Bool). is_marked true Text styled (not some) more) (sym (ne_eqb (length (b ∷ us)) 0 (λ e. absurd (omega (arith, e)))))

link_marked : (styled linked : Bool) (a : Address) (more : List ℕ) → IsLink a → is_marked true Text styled linked (link_text a ++ more) ≡ is_marked true Text styled (not (length a.url == 0)) more
link_marked styled linked a more h =
    let parts : ((a.params ++ 59 ∷ a.url) ++ 27 ∷ 92 ∷ []) ++ more ≡ a.params ++ 59 ∷ (a.url ++ 27 ∷ 92 ∷ more) =
    append_assoc (a.params ++ 59 ∷ a.url) (27 ∷ 92 ∷ []) more ∙ append_assoc a.params (59 ∷ a.url) (27 ∷ 92 ∷ more) in
    ap (λ (t : List ℕ). is_marked true Params styled linked t) parts ∙ params_marked styled linked a.params (59 ∷ (a.url ++ 27 ∷ 92 ∷ more)) h.within.params
    ∙ address_marked styled linked a.url more h.within.url

-- ---- all of it

items_marked : (d : Passing) (styled opened linked : Bool) (items : List Item) → AllByRecursion (IsSafe d) items → (opened ≡ false → styled ≡ false)
    → is_open opened (styles_of items) ≡ false → is_linked linked (links_of items) ≡ false
    → is_marked d.links Text styled linked (item_texts items) ≡ true
items_marked d styled opened linked [] h f o k = rw (f o, k) refl
items_marked d styled opened linked (Shown c ∷ items) h f o k = char_marked c h.0.0 h.0.1 d.links styled linked (item_texts items) ∙ items_marked d styled opened linked items h.1 f o k
items_marked d styled opened linked (Style s ∷ items) h f o k =
    let (now, closed, on) = style_marked d.links styled linked s (item_texts items) (style_range s h.0.1) h.0.0 in
    on ∙ items_marked d now (not (is_reset s)) linked items h.1 closed o k
items_marked d styled opened linked (Link a ∷ items) h f o k =
    let more = item_texts items in
    subst (λ (links : Bool). is_marked links Text styled linked (link_text a ++ more) ≡ is_marked links Text styled (not (length a.url == 0)) more) (sym h.0.0) (link_marked styled linked a more h.0.1)
    ∙ items_marked d styled opened (not (length a.url == 0)) items h.1 f o k

pub styled_marked : (d : Passing) (text : List ℕ) → IsStyledIn d text → IsMarked d.links text
styled_marked d text i = rw i.texts (items_marked d false false false i.items i.safe (λ e. e) i.none_open i.none_linked)

pub cleaned_marked : (d : Passing) (bytes text : List ℕ) → StylesIn d bytes text → IsMarked d.links text
cleaned_marked d bytes text s = styled_marked d text (styled d bytes text s)
