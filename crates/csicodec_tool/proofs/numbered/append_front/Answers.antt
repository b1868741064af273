use Rattle.csicodec_tool.proofs.Common.{append-nil, sym}
use Rattle.csicodec_tool.proofs.numbered.append_front.Goals as goal

pub returns-then-place : goal.returns-then-place
returns-then-place c = rw c.if-place.true c.append_anchor.ensures

pub returns : goal.returns
returns c = rw c.if-place.false (sym (append-nil c.args.out.now.items))
