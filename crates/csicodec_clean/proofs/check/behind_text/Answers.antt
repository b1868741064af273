use Rattle.std.proofs.Common.{subst, sym}
use Rattle.csicodec_clean.proofs.{Common.IsBehind, Told.behind_front, Told.further}
use Rattle.csicodec_clean.proofs.check.behind_text.Goals as goal

pub loop-rest-preserved : goal.loop-rest-preserved
loop-rest-preserved g c =
    let class = g.C.CharClass.class in
    let bytes = c.args.bytes.now in
    let rest = c.loop-rest.rest.now in
    let mid = c.split_at.result.1.now in
    let one = subst (IsBehind class rest) (sym c.split_at.ensures.back) (behind_front class rest c.member_len-len.result c.member_len-len.ensures.text) in
    let passed = further class bytes rest mid c.loop-rest.invariant.text one in
    record { text = further class bytes mid _ passed c.behind-rest-in-loop-rest.ensures }
