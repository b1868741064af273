use Rattle.std.proofs.Common.{◌≡◌, drop}
use Rattle.csicodec_screen.specs.{Areas.by_all, Private.Changes.look_changed}
use Rattle.csicodec_screen.proofs.attributes.change_attributes.Given as goal

abbrev pub invariant-loop-i : goal.invariant-loop-i
invariant-loop-i l = by_all (look_changed l.turns) (drop l.i l.fields) l.new ≡ by_all (look_changed l.turns) (drop 4 l.fields) l.fn.look
