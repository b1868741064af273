-- What is read of a stream, one event after the other.
use Rattle.std.proofs.Common.{◌≡◌, ◌∙◌, ℕ, List, [], ◌∷◌, ◌++◌, ap, sym, refl, append_assoc, append-nil, arith, drop, length, length-append, subst, ◌-◌}
use Rattle.std.proofs.{lemmas.List.drop_at, lemmas.Result.on_ok_weaker}
use Rattle.std.specs.{Prelude.OnOk, Prelude.Result, Prelude.slice_index_or, Prelude.map, List.flat_map}
use Rattle.csicodec_tokens.specs.declared.param.CsiParam.{CsiParam}
use Rattle.csicodec_spans.specs.declared.table.Mode.{Mode}
use Rattle.csicodec_events.specs.{declared.event.Event.Event, declared.event.Events.Events, declared.event.Told.Told, Events.Waits}
use Rattle.csicodec_screen.specs.Feeds.{AreRead, Feeds, GoesTo, Reading, Reads, Says, by_escape, by_string, collected, of_text, of_wrong}
use Rattle.csicodec_screen.specs.{Steps.Control, Steps.Csi, Steps.Escape, Steps.Input, Steps.carry, Steps.step, Private.Reads.Takes, Private.Reads.reading}
use Rattle.csicodec_screen.specs.{declared.screen.Screen.Screen}

pub carry_append : (xs ys : List Input) (s : Screen) → carry (xs ++ ys) s ≡ carry ys (carry xs s)
carry_append [] ys s = refl
carry_append (x ∷ xs) ys s = carry_append xs ys (step x s)

-- what the first of some says, and then the others
pub carry_on : {A : Type 0} (says : A → List Input) (all : List A) (x : A) (rest : List A) (s t end : Screen) → all ≡ x ∷ rest → t ≡ carry (says x) s
    → carry (flat_map says all) s ≡ end → carry (flat_map says rest) t ≡ end
carry_on says all x rest s t end first is all_is =
    ap (carry (flat_map says rest)) is ∙ sym (carry_append (says x) (flat_map says rest) s) ∙ ap (λ xs. carry (flat_map says xs) s) (sym first) ∙ all_is

-- one event more
pub read_on : (told : List Told) (a b c : Reading) (inputs more : List Input) (t : Told) (list : List CsiParam)
    → AreRead a told inputs b → Reads b t list more c → AreRead a (told ++ t ∷ []) (inputs ++ more) c
read_on [] a b c inputs more t list (none, same) one =
    (list, c, more, [], subst (λ (x : Reading). Reads x t list more c) same one, (refl, refl), ap (λ (xs : List Input). xs ++ more) none ∙ sym (append-nil more))
read_on (u ∷ told) a b c inputs more t list (list', mid, first, later, reads, others, whole) one =
    (list', mid, first, later ++ more, reads, read_on told mid b c later more t list others one, ap (λ (xs : List Input). xs ++ more) whole ∙ append_assoc first later more)

pub goes_nowhere : (a : Reading) (s : Screen) → GoesTo a s a s
goes_nowhere a s = ([], [], (refl, refl), refl)

pub goes_on : (a b c : Reading) (s t u : Screen) (more : List Input) (told : Told) (list : List CsiParam)
    → GoesTo a s b t → Reads b told list more c → u ≡ carry more t → GoesTo a s c u
goes_on a b c s t u more one list (told, inputs, are, is) reads on =
    (told ++ one ∷ [], inputs ++ more, read_on told a b c inputs more one list are reads, on ∙ ap (carry more) is ∙ sym (carry_append inputs more s))

pub said : (x : Event) (bytes : List ℕ) (list : List CsiParam) (m : Mode) (string : List ℕ) (s t : Screen) → Takes x bytes list m string s t
    → (inputs : List Input) × Says x bytes list m string inputs × (t ≡ carry inputs s)
said Event.Text bytes list m string s t h = (of_text bytes, refl, h)
said (Event.Control b) bytes list m string s t h = (Control b ∷ [], refl, h)
said (Event.Csi final) bytes list m string s t (actions, terminal, h) = (map Csi actions, (actions, terminal, refl), h)
said Event.Esc bytes list m string s t h = (by_escape bytes, refl, h)
said Event.Str bytes list m string s t h = (by_string m (collected string bytes), refl, h)
said Event.Other bytes list m string s t h = (of_wrong bytes, refl, h)

-- bytes behind those that were left are read from these, and what waits is left
pub feeds : (e : Events) (string held bytes all : List ℕ) (s t : Screen) (waiting after : Events) (string' rest held' : List ℕ) → all ≡ held ++ bytes → held' ≡ rest
    → GoesTo (reading e string all) s (reading waiting string' rest) t → Waits waiting rest after
    → Feeds (record { screen = s; reading = reading e string held }) bytes (record { screen = t; reading = reading after string' held' })
feeds e string held bytes all s t waiting after string' rest held' whole same goes waits =
    (reading waiting string' rest, subst (λ (xs : List ℕ). GoesTo (reading e string xs) s (reading waiting string' rest) t) whole goes, waits, refl, same)

-- what is behind the bytes that were used
pub left_is : (bytes front rest : List ℕ) (n : ℕ) → bytes ≡ front ++ rest → n ≡ length bytes - length rest → drop n bytes ≡ rest
left_is bytes front rest n whole is = ap (drop n) whole ∙ drop_at front rest n (omega (arith, is, ap length whole ∙ length-append front rest))

-- an escape sequence of two bytes, and of three
pub of_two : (bytes : List ℕ) → length bytes ≡ 2 → by_escape bytes ≡ Escape [] (slice_index_or bytes 1 0) ∷ []
of_two [] h = absurd (omega (arith, h))
of_two (a ∷ []) h = absurd (omega (arith, h))
of_two (a ∷ b ∷ []) h = refl
of_two (a ∷ b ∷ c ∷ bytes) h = absurd (omega (arith, h))

pub of_three : (bytes : List ℕ) → length bytes ≡ 3 → by_escape bytes ≡ Escape (slice_index_or bytes 1 0 ∷ []) (slice_index_or bytes 2 0) ∷ []
of_three [] h = absurd (omega (arith, h))
of_three (a ∷ []) h = absurd (omega (arith, h))
of_three (a ∷ b ∷ []) h = absurd (omega (arith, h))
of_three (a ∷ b ∷ c ∷ []) h = refl
of_three (a ∷ b ∷ c ∷ d ∷ bytes) h = absurd (omega (arith, h))

pub says_two : {A E : Type 0} (r : Result A E) (bytes : List ℕ) (s t : Screen) → length bytes ≡ 2 → OnOk r (t ≡ step (Escape [] (slice_index_or bytes 1 0)) s) → OnOk r (t ≡ carry (by_escape bytes) s)
says_two r bytes s t h e = on_ok_weaker r (λ (is : t ≡ step (Escape [] (slice_index_or bytes 1 0)) s). is ∙ ap (λ (xs : List Input). carry xs s) (sym (of_two bytes h))) e

pub says_three : {A E : Type 0} (r : Result A E) (bytes : List ℕ) (s t : Screen) → length bytes ≡ 3
    → OnOk r (t ≡ step (Escape (slice_index_or bytes 1 0 ∷ []) (slice_index_or bytes 2 0)) s) → OnOk r (t ≡ carry (by_escape bytes) s)
says_three r bytes s t h e =
    on_ok_weaker r (λ (is : t ≡ step (Escape (slice_index_or bytes 1 0 ∷ []) (slice_index_or bytes 2 0)) s). is ∙ ap (λ (xs : List Input). carry xs s) (sym (of_three bytes h))) e
