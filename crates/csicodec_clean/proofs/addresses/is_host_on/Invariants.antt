use Rattle.std.proofs.Common.{◌≡◌, drop}
use Rattle.csicodec_clean.proofs.Common.{is_host_on}
use Rattle.csicodec_clean.proofs.addresses.is_host_on.Given as goal

-- it is so of all bytes if it is of the others
abbrev pub invariant-loop-byte : goal.invariant-loop-byte
invariant-loop-byte l = is_host_on l.bytes ≡ is_host_on (drop l.byte-index l.bytes)
