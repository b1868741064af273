use Rattle.std.proofs.Common.{rules, true, ◌≡◌}
use Rattle.csicodec_compact.proofs.JoinedLists.{last_listed, open_listed}
use Rattle.csicodec_compact.proofs.lists.Lists.form.Goals as goal

pub returns-then-branch-2-clause-own : goal.returns-then-branch-2-clause-own
returns-then-branch-2-clause-own c =
    let listed : c.in_ok-is_list_as.field-0 ≡ true = search rules in
    let (seq, plain) = c.in_ok-is_list_as.ensures listed in
    let (styles, means) = c.in_ok-is_unclosed.ensures.styles c.if-branch-2.true in
    open_listed c.args.text.now _ styles seq plain (rw c.is_unclosed.ensures.params at (c.in_ok-is_unclosed.ensures.unclosed c.if-branch-2.true)) (rw c.is_unclosed.ensures.params at means)

pub returns-clause-own : goal.returns-clause-own
returns-clause-own c =
    let listed : c.in_ok-is_list_as.field-0 ≡ true = search rules in
    let (seq, plain) = c.in_ok-is_list_as.ensures listed in
    last_listed c.args.text.now _ seq plain
