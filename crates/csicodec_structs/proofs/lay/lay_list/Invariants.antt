use Rattle.std.proofs.Common.{◌≡◌, false, List, take}
use Rattle.csicodec_actions.specs.Actions.{Action}
use Rattle.csicodec_parser.specs.Progress.{ActionsOf, most_left}
use Rattle.csicodec_structs.specs.Next.{Lays}
use Rattle.csicodec_structs.proofs.lay.lay_list.Given as goal

-- the actions that are given are there
abbrev pub invariant-loop-action : goal.invariant-loop-action
invariant-loop-action l = record {
  list : l.run.list ≡ l.fn.list;
  flag : l.run.flag ≡ false;
  final : l.run.final ≡ l.fn.control;
  going : l.run.failed ≡ false;
  lays : (all : List Action) → ActionsOf l.run all → Lays l.fn.actions l.actions l.fn.params l.params l.count (take l.run.given all);
}

abbrev pub decreases-loop-action : goal.decreases-loop-action
decreases-loop-action l = most_left l.run
