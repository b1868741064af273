use Rattle.std.proofs.Common.{◌∙◌, sym}
use Rattle.csicodec_clean.proofs.Told.{tells_dropped, tells_on}
use Rattle.csicodec_clean.proofs.text.append_told.Goals as goal

pub loop-behind-preserved : goal.loop-behind-preserved
loop-behind-preserved g c =
    let w = g.T.Rule.gives.writing in
    let bytes = c.args.bytes.now in
    let rest = c.loop-behind.rest.now in
    let behind = c.in_ok-behind.behind.now in
    let old = c.args.out.now.items in
    let now = c.loop-behind.out.items in
    let new = c.append_plain.new.out.items in
    let passed = tells_on w bytes rest behind old now new c.loop-behind.invariant.tells c.in_ok-behind.ensures in
    let dropped = tells_dropped w c.in-Some.byte.now behind c.in-Some.others.now new c.in-Some.ensures.cases.0 (sym c.is_dropped.ensures ∙ c.if-not-is_dropped.false) in
    record { tells = tells_on w bytes behind _ old new new passed dropped }

pub returns-in_default : goal.returns-in_default
returns-in_default g c = tells_on g.T.Rule.gives.writing c.args.bytes.now c.loop-behind.rest.now _ c.args.out.now.items c.loop-behind.out.items _ c.loop-behind.invariant.tells c.in_ok-behind.ensures

pub returns-then-not-is_dropped : goal.returns-then-not-is_dropped
returns-then-not-is_dropped g c = tells_on g.T.Rule.gives.writing c.args.bytes.now c.loop-behind.rest.now _ c.args.out.now.items c.loop-behind.out.items _ c.loop-behind.invariant.tells c.in_ok-behind.ensures
