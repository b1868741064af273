use Rattle.csicodec_overwrite.proofs.{Common.◌≡◌, Common.length, Common.rules, Drawn.one_taken, Drawn.same_taken, Drawn.to_none}
use Rattle.csicodec_overwrite.proofs.text.append_drawn.Goals as goal

pub returns-then-not-is_empty-clause-draws : goal.returns-then-not-is_empty-clause-draws
returns-then-not-is_empty-clause-draws c =
    let (split, same, none) = c.split_same.ensures in
    same_taken c.args.sets.now c.args.held.now.items c.args.bytes.now _ _ _ _ _ split same c.in_ok-append_bytes.ensures.chars

pub returns-in_default-clause-draws : goal.returns-in_default-clause-draws
returns-in_default-clause-draws c = to_none c.args.sets.now c.args.held.now.items c.args.bytes.now c.args.steps.now.items

pub returns-clause-draws : goal.returns-clause-draws
returns-clause-draws c =
    let none : length c.split_same.result.0.now ≡ 0 = search rules in
    let split = c.in-Some.ensures.cases.0 in
    let low = c.split_same.ensures.2 none _ _ split in
    one_taken c.args.sets.now _ c.args.held.now.items c.args.bytes.now _ _ _ _ _ split low
    c.in_ok-append_one.ensures.sets c.in_ok-append_one.ensures.none c.in_ok-append_one.ensures.steps
