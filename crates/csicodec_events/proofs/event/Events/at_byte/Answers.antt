use Rattle.std.proofs.Common.{◌≡◌, ◌∷◌, ℕ, List, false, drop, sym, ap, subst, ◌∙◌}
use Rattle.csicodec_tokens.specs.Sequence.{Seq}
use Rattle.csicodec_events.specs.Events.{before_stop, from_stop, is_control, is_final, without_controls}
use Rattle.csicodec_events.proofs.Stops.{next_place, csi_told, no_final, no_sequence, wrong_told}
use Rattle.csicodec_events.proofs.event.Events.at_byte.Goals as goal

pub wrong-requires-clause-why : goal.wrong-requires-clause-why
wrong-requires-clause-why c =
    let e = c.args.self.now in
    let bytes = c.args.front.now.bytes in
    let s = c.requires.stands in
    let stands : from_stop e bytes ≡ c.args.byte ∷ s.1.0 = ap (λ (k : ℕ). drop k bytes) (sym c.requires.place) ∙ s.1.1 in
    let control : is_control c.args.byte ≡ false = sym c.is_control.ensures ∙ c.if-is_control.false in
    let none : is_final c.args.byte ≡ false = sym c.is_final.ensures ∙ c.if-not-is_final.true in
    no_sequence e bytes c.args.byte s.1.0 stands control (λ list final q. no_final (before_stop e bytes) c.args.byte control s.0 none list final
    (subst (λ (x : List ℕ). Seq (without_controls x) list final) (next_place e bytes c.args.byte s.1.0 stands).front q))

pub returns-in-Some-clause-told : goal.returns-in-Some-clause-told
returns-in-Some-clause-told c =
    let e = c.args.self.now in
    let bytes = c.args.front.now.bytes in
    let s = c.requires.stands in
    let place = c.requires.place in
    let stands : from_stop e bytes ≡ c.args.byte ∷ s.1.0 = ap (λ (k : ℕ). drop k bytes) (sym place) ∙ s.1.1 in
    let seq = rw c.in-Some.is at c.in_ok-control.ensures.is in
    rw (c.found.ensures.event, place) (csi_told e bytes c.read_without.new.params.items c.args.byte c.in-Some.control s.1.0 c.found.new.self
    c.requires.begins stands (rw place at c.requires.short) (rw place at seq) c.found.ensures.onward)

pub returns-in-None-clause-told : goal.returns-in-None-clause-told
returns-in-None-clause-told c =
    let e = c.args.self.now in
    let bytes = c.args.front.now.bytes in
    let s = c.requires.stands in
    let place = c.requires.place in
    let stands : from_stop e bytes ≡ c.args.byte ∷ s.1.0 = ap (λ (k : ℕ). drop k bytes) (sym place) ∙ s.1.1 in
    let none = rw (c.in-None.is, place) at c.in_ok-control.ensures.is in
    rw (c.found-in-None.ensures.event, place) (wrong_told e bytes c.args.byte s.1.0 c.read_without.new.params.items c.found-in-None.new.self
    c.requires.begins stands (sym c.is_final.ensures ∙ c.if-not-is_final.false)
    (no_sequence e bytes c.args.byte s.1.0 stands (sym c.is_control.ensures ∙ c.if-is_control.false) none) c.found-in-None.ensures.onward)
