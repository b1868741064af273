use Rattle.csicodec_overwrite.proofs.Common.{All-push, All-set, IsSlice}
use Rattle.csicodec_overwrite.proofs.seen.Seen.put.Goals as goal

pub returns-then-at-len : goal.returns-then-at-len
returns-then-at-len c = All-set IsSlice c.args.self.now.kept.items c.from-at.result c.args.slice c.requires.read c.requires.kept

pub returns-in_err-push : goal.returns-in_err-push
returns-in_err-push c = rw c.in_err-push.ensures.items c.requires.kept

pub returns : goal.returns
returns c = rw c.in_ok-push.ensures.items (All-push IsSlice c.args.self.now.kept.items c.args.slice c.requires.kept c.requires.read)
