use Rattle.std.proofs.Common.{◌≡◌, ◌++◌, ℕ, List, length, true}
use Rattle.csicodec_lines.specs.Cuts.{Found, behind}
use Rattle.csicodec_lines.proofs.Common.{cuts, each_of, told, IsAt}
use Rattle.csicodec_lines.proofs.search.CutSearch.take_near.Given as goal

-- what was told, and what is to be told of the rest, is what is told of all
abbrev pub invariant-loop-byte : goal.invariant-loop-byte
invariant-loop-byte l = (more : List ℕ) × (l.out.items ≡ l.initial.out.items ++ more)
    × ((s : Found) → IsAt l.initial.self s
    → (now : Found) × IsAt l.self now × (behind now (each_of true l.rest) ≡ behind s (each_of true l.text))
    × (more ++ told (cuts now (each_of true l.rest)) ≡ told (cuts s (each_of true l.text))))

abbrev pub decreases-loop-byte : goal.decreases-loop-byte
decreases-loop-byte l = length l.rest
