use Rattle.csicodec_inspect.proofs.Common.{◌≡◌, ℕ, true, subst, sym, arith, nat_tests, IsPlainByte, IsBehind, seen}
use Rattle.csicodec_clean.proofs.Told.{behind_ascii}
use Rattle.csicodec_inspect.proofs.visible.VisibleTextCharClass.behind.Goals as goal

plain_seen : (b : ℕ) → IsPlainByte b → seen b ≡ true
plain_seen b h = grind (arith, nat_tests)

pub returns : goal.returns
returns c = subst (IsBehind seen c.args.bytes.now) (sym c.split_front.ensures.rest) (behind_ascii seen plain_seen c.args.bytes.now)
