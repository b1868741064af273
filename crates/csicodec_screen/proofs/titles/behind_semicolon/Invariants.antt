use Rattle.std.proofs.Common.{◌≡◌, length}
use Rattle.csicodec_screen.specs.Steps.{behind_semicolon}
use Rattle.csicodec_screen.proofs.titles.behind_semicolon.Given as goal

abbrev pub invariant-loop-rest : goal.invariant-loop-rest
invariant-loop-rest l = behind_semicolon l.rest ≡ behind_semicolon l.text

abbrev pub decreases-loop-rest : goal.decreases-loop-rest
decreases-loop-rest l = length l.rest
