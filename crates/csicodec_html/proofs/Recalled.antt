-- A control sequence that is read, and one that came before, turn a page alike.
use Rattle.std.proofs.Common.{refl, ◌≡◌, ℕ, Bool, true, false, List, [], ◌∷◌, ◌++◌, length, drop, ap, if◌then◌else◌, ◌∙◌, ◌||◌, not, Option, Some, None, sym}
use Rattle.std.proofs.Math.Seq.{drop-append_seam}
use Rattle.csicodec_html.proofs.Common.{Action, Effect, Look, Looks, Markup, are_lasting, behind_all, behind_effect, effect_of, is_lasting, looks, sets, sets_any, Setting, piece_texts, setting, turn, turns}
use Rattle.csicodec_looks.specs.{Look.behind, Paint.same, contracts.look.LookEq.TheImpl.Laws.laws-law}
use Rattle.csicodec_tokens.specs.{declared.param.CsiParam.CsiParam, Sequence.Seq}
use Rattle.csicodec_terminal.specs.Terminal.{Terminal}
use Rattle.csicodec_spans.specs.Parts.{IsSequence}
use Rattle.csicodec_html.specs.{Rule.set_all, Rule.set_one, Turns.IsTurned}

-- what the rule gives for it
pub given : (s : Setting) (bytes tags : List ℕ) (new : Look) → IsTurned s.markup bytes s.looks.look new tags
    → IsSequence bytes × turns.sequence s bytes tags (setting s.markup (looks new s.looks.saved) s.to s.begun)
given s bytes tags new (actions, is, behind, same) =
    let here : behind_all s.looks actions ≡ looks new s.looks.saved = behind s.looks.saved in
    ((is.0, is.1, is.2), (actions, is, ap (λ (l : Looks). setting s.markup l s.to s.begun) (sym here), rw here same))

-- what is saved stays, and only attributes are set
lasting : (actions : List Action) (l s : Look) → are_lasting actions ≡ true → behind_all (looks l s) actions ≡ looks (set_all l actions) s
lasting [] l s h = refl
lasting (a ∷ actions) l s h = by (effect_of a) h (λ last m. lasting actions m s last)
  where
    by : (e : Option Effect) → (if is_lasting e then are_lasting actions else false) ≡ true
        → (are_lasting actions ≡ true → (m : Look) → behind_all (looks m s) actions ≡ looks (set_all m actions) s)
        → behind_all (behind_effect (looks l s) e) actions ≡ looks (set_all (set_one l e) actions) s
    by None h next = next h l
    by (Some (Effect.Sets x)) h next = next h (behind l x)
    by (Some Effect.Clears) h next = absurd cc
    by (Some Effect.Saves) h next = absurd cc
    by (Some Effect.Restores) h next = absurd cc

-- where none comes it looks the same
unset : (actions : List Action) (l : Look) → sets_any actions ≡ false → set_all l actions ≡ l
unset [] l h = refl
unset (a ∷ actions) l h = by (effect_of a) h (λ none m. unset actions m none)
  where
    by : (e : Option Effect) → (sets e || sets_any actions) ≡ false → (sets_any actions ≡ false → (m : Look) → set_all m actions ≡ m) → set_all (set_one l e) actions ≡ l
    by None h next = next h l
    by (Some (Effect.Sets x)) h next = absurd cc
    by (Some Effect.Clears) h next = absurd cc
    by (Some Effect.Saves) h next = next h l
    by (Some Effect.Restores) h next = next h l

same_tags : (m : Markup) (old : Look) (actions : List Action)
    → turn m (sets_any actions) old (set_all old actions) ≡ turn m (sets_any actions || not (same old (set_all old actions))) old (set_all old actions)
same_tags m old actions = by (sets_any actions) refl
  where
    by : (t : Bool) → sets_any actions ≡ t → turn m t old (set_all old actions) ≡ turn m (t || not (same old (set_all old actions))) old (set_all old actions)
    by true e = refl
    by false e =
        let one : true ≡ same old (set_all old actions) = sym (ap (same old) (unset actions old e) ∙ laws-law.refl old) in
        ap (λ (t : Bool). turn m (not t) old (set_all old actions)) one

-- from what was read
pub read : (m : Markup) (bytes : List ℕ) (list : List CsiParam) (final : ℕ) (old new : Look) (comes : Bool) (actions : List Action)
    → Seq bytes list final → Terminal list false final actions → are_lasting actions ≡ true
    → new ≡ set_all old actions → comes ≡ sets_any actions
    → IsTurned m bytes old new (piece_texts (turn m comes old new))
read m bytes list final old new comes actions seq are last behind sets = (
  actions,
  (list, final, seq, are),
  λ saved. lasting actions old saved last ∙ ap (λ (l : Look). looks l saved) (sym behind),
  rw (sets, behind) (ap piece_texts (same_tags m old actions)),
)

-- what was appended last
pub appended : (m : Markup) (bytes : List ℕ) (old new : Look) (text tags before after : List ℕ) (len : ℕ)
    → IsTurned m bytes old new text → after ≡ before ++ text → len ≡ length before → tags ≡ drop len after
    → IsTurned m bytes old new tags
appended m bytes old new text tags before after len is longer size here = rw (here, size, longer, drop-append_seam before text) is
