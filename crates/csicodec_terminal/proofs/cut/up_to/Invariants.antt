use Rattle.std.proofs.Common.{◌≡◌, ◌+◌, ◌<◌, length}
use Rattle.csicodec_terminal.specs.Terminal.{up_to}
use Rattle.csicodec_terminal.proofs.cut.up_to.Given as goal

-- so many `;` are left, of what is behind the tokens up to here
abbrev pub invariant-loop-rest : goal.invariant-loop-rest
invariant-loop-rest l = record {
  some : 0 < l.left;
  whole : l.passed + length l.rest ≡ length l.list;
  is : up_to l.fn.count l.list ≡ l.passed + up_to l.left l.rest;
}

abbrev pub decreases-loop-rest : goal.decreases-loop-rest
decreases-loop-rest l = length l.rest
