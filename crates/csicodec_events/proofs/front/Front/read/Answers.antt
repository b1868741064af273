use Rattle.std.proofs.Common.{◌≡◌, ◌≤◌, ℕ, List, ◌+◌, ◌-◌, length, length-append, take, sym, ap, subst, ◌∙◌, arith}
use Rattle.csicodec_tokens.specs.Sequence.{Reads}
use Rattle.csicodec_events.specs.{Events.stop, Front.Seen}
use Rattle.csicodec_events.proofs.Stops.{fault_cost, read_cost}
use Rattle.csicodec_events.proofs.front.Front.read.Goals as goal

pub returns-in-Some-clause-costs : goal.returns-in-Some-clause-costs
returns-in-Some-clause-costs c =
    let bytes = c.args.self.now.bytes in
    let near : c.near-front.result.now ≡ take c.args.limit bytes = c.near-front.ensures ∙ ap (λ (s : Seen). take c.args.limit s.bytes) c.self.view_is in
    let cost : length (take (c.in-Some.at + 1) c.near-front.result.now) ≤ length (take (stop 0 bytes + 1) bytes) =
    fault_cost c.near-front.result.now _ c.in-Err.error c.args.limit c.in-Some.at bytes c.in-Err.ensures.refused near (sym c.at.ensures ∙ c.in-Some.is) in
    let total = ap (λ (s : Seen). s.looks) c.self.view_is in
    omega (arith, cost, ap length c.near.ensures, total, c.charge-in-Some.ensures)

pub returns-in-Ok-clause-read : goal.returns-in-Ok-clause-read
returns-in-Ok-clause-read c =
    let tail = c.in-Ok.tail in
    let near : c.near-front.result.now ≡ take c.args.limit c.args.self.now.bytes = c.near-front.ensures ∙ ap (λ (s : Seen). take c.args.limit s.bytes) c.self.view_is in
    let found = c.in-Ok.ensures.found in
    let size = ap length found.2 in
    (tail.rest.now, (subst (λ (x : List ℕ). Reads x c.read_csi_into.new.params.items tail.control tail.rest.now) near found, omega (arith, size, length-append found.0 tail.rest.now, ap length near)))

pub returns-in-Ok-clause-costs : goal.returns-in-Ok-clause-costs
returns-in-Ok-clause-costs c =
    let tail = c.in-Ok.tail in
    let near : c.near-front.result.now ≡ take c.args.limit c.args.self.now.bytes = c.near-front.ensures ∙ ap (λ (s : Seen). take c.args.limit s.bytes) c.self.view_is in
    let found = c.in-Ok.ensures.found in
    let size = ap length found.2 in
    let total = ap (λ (s : Seen). s.looks) c.self.view_is in
    let most = read_cost c.args.limit c.args.self.now.bytes c.near-front.result.now tail.rest.now c.read_csi_into.new.params.items tail.control
    (length c.near-front.result.now - length tail.rest.now) near found (omega (arith, size, length-append found.0 tail.rest.now)) in
    omega (arith, most, total, c.charge.ensures)
