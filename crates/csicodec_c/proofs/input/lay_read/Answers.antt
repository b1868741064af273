use Rattle.std.proofs.Common.{◌≡◌, ◌++◌, List, ℕ, ap, ◌∙◌}
use Rattle.csicodec_events.specs.Events.{without_controls}
use Rattle.csicodec_c.proofs.Told.{laid, put_read}
use Rattle.csicodec_c.proofs.input.lay_read.Goals as goal

pub returns-then-front-number : goal.returns-then-front-number
returns-then-front-number c = λ list final s.
    let read : c.deref.result.now ≡ without_controls c.args.bytes.now =
    c.deref.ensures.value ∙ c.in-Ok.ensures ∙ ap (λ (x : List ℕ). x ++ without_controls c.args.bytes.now) c.new-read.ensures.items in
    let front = c.lay_front-front.result in
    let done =
    laid c.deref.result.now c.args.actions.now c.lay_front-front.new.actions c.args.params.now c.lay_front-front.new.params front
    c.lay_front-front.ensures (c.if-front-number.true ∙ c.number.ensures) in
    put_read c.deref.result.now c.args.bytes.now list final c.args.actions.now c.lay_front-front.new.actions c.args.params.now c.lay_front-front.new.params front read s done
