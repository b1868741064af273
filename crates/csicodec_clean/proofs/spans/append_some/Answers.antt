use Rattle.std.proofs.Common.{◌≡◌, length, rules}
use Rattle.csicodec_clean.proofs.Drawn.{one_taken, to_none}
use Rattle.csicodec_clean.proofs.spans.append_some.Goals as goal

pub returns-in_default-clause-draws : goal.returns-in_default-clause-draws
returns-in_default-clause-draws g c = to_none g.T.Rule.gives.writing c.args.sets.now c.args.held.now.items c.args.bytes.now c.args.out.now.items

pub returns-clause-draws : goal.returns-clause-draws
returns-clause-draws g c =
    let none : length c.split_same.result.0.now ≡ 0 = search rules in
    let split = c.in-Some.ensures.cases.0 in
    let low = c.split_same.ensures.2 none _ _ split in
    one_taken g.T.Rule.gives.writing c.args.sets.now _ c.args.held.now.items c.args.bytes.now _ _ _ _ _ split low
    c.in_ok-append_one.ensures.sets c.in_ok-append_one.ensures.none c.in_ok-append_one.ensures.shown
