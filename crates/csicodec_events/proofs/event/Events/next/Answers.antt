use Rattle.std.proofs.Common.{sym, take-append-drop, ◌∙◌}
use Rattle.csicodec_events.specs.Private.Steps.{HasFound, HasWaited}
use Rattle.csicodec_events.proofs.event.Events.next.Goals.{then-begins_csi+in_ok-found, else-begins_csi, In-Some, In_default}
use Rattle.csicodec_events.proofs.event.Events.next.Goals as goal

found : (c : In-Some) → HasFound c.args.self.now c.args.bytes.now c.in-Some.event c.in-Some.len c.if-begins_csi.params.items c.if-begins_csi.self
found c = elim c.if-begins_csi.branch [
  | then-begins_csi+in_ok-found w ↦
      let is = sym w.found-is ∙ c.in-Some.is in
      let t = w.in_ok-found.ensures in
      rw (w.self-is, w.params-is) (record { tells = rw (is, w.new.ensures) at t.tells; progress = rw (is, w.new.ensures) at t.progress; again = rw (is, w.new.ensures) at t.again; limit = t.limit })
  | else-begins_csi w ↦ rw (w.self-is, w.params-is) (rw (sym w.found-is ∙ c.in-Some.is) at w.span-found.ensures)
]

pub returns : goal.returns
returns c =
    let f = found (goal.at.returns c).In-Some in
    rw (c.near-bytes.ensures, c.behind-rest.ensures)
    (record { tells = f.tells; parts = sym (take-append-drop c.in-Some.len c.args.bytes.now); progress = f.progress; again = f.again; limit = f.limit; memory = tt })

waited : (c : In_default) → HasWaited c.args.self.now c.args.bytes.now c.if-begins_csi.self
waited c = elim c.if-begins_csi.branch [
  | then-begins_csi+in_ok-found w ↦
      let is = sym w.found-is ∙ c.in_default.is in
      let t = w.in_ok-found.ensures in
      rw w.self-is (record { waits = rw (is, w.new.ensures) at t.tells; again = rw (is, w.new.ensures) at t.again; limit = t.limit })
  | else-begins_csi w ↦ rw w.self-is (rw (sym w.found-is ∙ c.in_default.is) at w.span-found.ensures)
]

pub returns-in_default : goal.returns-in_default
returns-in_default c =
    let w = waited c in
    record { tells = w.waits; parts = tt; progress = tt; again = w.again; limit = w.limit; memory = tt }
