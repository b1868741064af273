use Rattle.std.proofs.Common.{◌≡◌, refl, sym, ◌∙◌}
use Rattle.csicodec_c.specs.Filter.{mode_number}
use Rattle.csicodec_c.proofs.input.csicodec_event.Goals.{then-looked-eq0+then-begins_csi+else-front-number+else-front-number-2, else-looked-eq0}
use Rattle.csicodec_c.proofs.Told.{laid, read_done, same_room, unlaid}
use Rattle.csicodec_c.proofs.input.csicodec_event.Goals as goal

pub returns-then-front-number : goal.returns-then-front-number
returns-then-front-number c =
    let began : c.args.mode ≡ mode_number c.in-Some.mode = (c.in-Some.ensures c.in-Some.mode).0 refl in
    let front = c.lay_front-front.result in
    let done =
    laid c.near.result.now c.args.actions.now c.lay_front-front.new.actions c.args.params.now c.lay_front-front.new.params front
    c.lay_front-front.ensures (c.if-front-number.true ∙ c.number.ensures) in
    rw c.without_value-then-front-number.ensures (read_done c.args.mode c.args.limit c.args.looked c.args.bytes.now c.near.result.now c.in-Some.mode c.args.actions.now
    c.lay_front-front.new.actions c.args.params.now c.lay_front-front.new.params front
    c.answer.result began c.if-looked-eq0.true (c.begins_csi.ensures.0 c.if-begins_csi.true) c.near.ensures done (rw c.new.ensures at c.answer.ensures))

pub returns : goal.returns
returns c =
    let began : c.args.mode ≡ mode_number c.in-Some.mode = (c.in-Some.ensures c.in-Some.mode).0 refl in
    let room : (c.if-looked-eq0.actions ≡ c.args.actions.now) × (c.if-looked-eq0.params ≡ c.args.params.now) = elim c.if-looked-eq0.branch [
      | then-looked-eq0+then-begins_csi+else-front-number+else-front-number-2 w ↦
          let same =
          unlaid w.near.result.now c.args.actions.now w.lay_front-front.new.actions c.args.params.now w.lay_front-front.new.params
          w.lay_front-front.result w.lay_front-front.ensures (λ e. w.if-front-number.false (e ∙ sym w.number.ensures)) (λ e. w.if-front-number-2.false (e ∙ sym w.number-then-begins_csi.ensures)) in
          (w.actions-is ∙ same.0, w.params-is ∙ same.1)
      | else-looked-eq0 w ↦ (w.actions-is, w.params-is)
    ] in
    same_room c.args.mode c.args.limit c.args.looked c.args.bytes.now c.in-Some.mode c.args.actions.now c.if-looked-eq0.actions c.step_output.new.actions
    c.args.params.now c.if-looked-eq0.params c.step_output.new.params
    c.step_output.result began room.0 room.1 c.step_output.ensures
