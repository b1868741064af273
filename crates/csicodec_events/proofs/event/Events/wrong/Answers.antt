use Rattle.std.proofs.Common.{◌≡◌, ◌∷◌, ℕ, Option, drop, ap, subst, sym, ◌∙◌}
use Rattle.csicodec_events.specs.{Private.Steps.StandsAt, Events.from_stop}
use Rattle.csicodec_events.proofs.Stops.{wrong_told}
use Rattle.csicodec_events.proofs.event.Events.wrong.Goals as goal

pub returns-in-Some : goal.returns-in-Some
returns-in-Some c =
    let e = c.args.self.now in
    let bytes = c.args._front.now.bytes in
    let s = subst (λ (o : Option ℕ). StandsAt o (drop c.args.at bytes)) c.in-Some.is c.requires.stands in
    let stands : from_stop e bytes ≡ c.in-Some.byte ∷ s.1.0 = ap (λ (k : ℕ). drop k bytes) (sym c.requires.place) ∙ s.1.1 in
    rw (c.found.ensures.event, c.requires.place) (wrong_told e bytes c.in-Some.byte s.1.0 c.args._params.now.items c.found.new.self c.requires.begins stands (sym c.is_final.ensures ∙ c.if-is_final.true) c.requires.why c.found.ensures.onward)
