use Rattle.csicodec_actions.specs.Table.Device.{as_device, classes, requests, terminals}
use Rattle.csicodec_actions.proofs.Common.{◌≡◌, ◌++◌, ◌∙◌, List, ap, refl, sym, option_or, CsiParam, Action, Row, given, gives}
use Rattle.csicodec_actions.proofs.AllFieldRows.{first-append}
use Rattle.csicodec_actions.proofs.lists.device.device_action.Goals as goal

split : (list : List CsiParam) → as_device list 99 ≡ option_or (given requests list) (option_or (given terminals list) (given classes list))
unfolding as_device
split list = first-append (λ (r : Row Action). gives r list) requests (terminals ++ classes) ∙ ap (option_or (given requests list)) (first-append (λ (r : Row Action). gives r list) terminals classes)

pub returns-in-Some-clause-ok : goal.returns-in-Some-clause-ok
returns-in-Some-clause-ok c = rw (c.if-control-ne99.false, split c.args.params.now, sym (rw c.in-Some.is at c.request.ensures)) refl

pub returns-in-Some-terminal-clause-ok : goal.returns-in-Some-terminal-clause-ok
returns-in-Some-terminal-clause-ok c =
    rw (c.if-control-ne99.false, split c.args.params.now, sym (rw c.in_default.is at c.request.ensures), sym (rw c.in-Some-terminal.is at c.terminal.ensures)) refl

pub returns-clause-ok : goal.returns-clause-ok
returns-clause-ok c =
    rw (c.if-control-ne99.false, split c.args.params.now, sym (rw c.in_default.is at c.request.ensures), sym (rw c.in_default-terminal.is at c.terminal.ensures)) c.class.ensures.ok

pub returns-clause-err : goal.returns-clause-err
returns-clause-err c =
    rw (c.if-control-ne99.false, split c.args.params.now, sym (rw c.in_default.is at c.request.ensures), sym (rw c.in_default-terminal.is at c.terminal.ensures)) c.class.ensures.err
