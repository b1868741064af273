use Rattle.std.proofs.Common.{◌≡◌, ◌++◌, length}
use Rattle.csicodec_looks.proofs.Common.{page_bytes}
use Rattle.csicodec_looks.proofs.escaped.append_page.Given as goal

-- what is appended, and the rest as it stands on the page, are all the bytes as they stand there
abbrev pub invariant-loop-byte : goal.invariant-loop-byte
invariant-loop-byte l = l.out.items ++ page_bytes l.rest ≡ l.fn.out.items ++ page_bytes l.bytes

abbrev pub decreases-loop-byte : goal.decreases-loop-byte
decreases-loop-byte l = length l.rest
