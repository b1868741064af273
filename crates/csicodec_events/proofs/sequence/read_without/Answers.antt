use Rattle.std.proofs.{Common.◌≡◌, Common.ℕ, Common.List, Common.[], Common.◌++◌, Common.length, Common.ap, Common.◌∙◌, Common.arith}
use Rattle.std.proofs.{lemmas.Bool.Decides.nat_tests}
use Rattle.csicodec_events.specs.Events.{without_controls}
use Rattle.csicodec_events.proofs.Stops.{whole_reads}
use Rattle.csicodec_events.proofs.sequence.read_without.Goals as goal

pub returns-in-Ok : goal.returns-in-Ok
returns-in-Ok c = λ list final s.
    let read : c.deref.result.now ≡ without_controls c.args.bytes.now =
    c.deref.ensures.value ∙ c.in_ok-append_read.ensures
    ∙ ap (λ (x : List ℕ). x ++ without_controls c.args.bytes.now) c.new-read.ensures.items in
    let same = c.in-Ok.ensures.only list final [] (whole_reads c.deref.result.now c.args.bytes.now list final read s) in
    let none = ap length same.2 in
    absurd (grind (arith, nat_tests))

pub returns : goal.returns
returns c = λ list final s.
    let read : c.deref.result.now ≡ without_controls c.args.bytes.now =
    c.deref.ensures.value ∙ c.in_ok-append_read.ensures
    ∙ ap (λ (x : List ℕ). x ++ without_controls c.args.bytes.now) c.new-read.ensures.items in
    let same = c.in-Err.ensures.only list final [] (whole_reads c.deref.result.now c.args.bytes.now list final read s) in
    absurd (c.in_default.not-Memory same.0)
