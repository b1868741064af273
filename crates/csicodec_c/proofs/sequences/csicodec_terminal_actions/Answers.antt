use Rattle.std.proofs.Common.{◌≡◌, ◌++◌, List, ℕ, ap, ◌∙◌, inl}
use Rattle.csicodec_events.specs.Events.{without_controls}
use Rattle.csicodec_c.proofs.sequences.csicodec_terminal_actions.Goals as goal

pub returns-in-Ok : goal.returns-in-Ok
returns-in-Ok c =
    let read : c.deref.result.now ≡ without_controls c.args.bytes.now =
    c.deref.ensures.value ∙ c.in-Ok.ensures ∙ ap (λ (x : List ℕ). x ++ without_controls c.args.bytes.now) c.new-read.ensures.items in
    inl (rw read at c.lay_as_terminals.ensures)
