use Rattle.std.proofs.{Common.◌≡◌, Common.◌+◌, Common.◌++◌, Common.◌∷◌, Common.[], Common.map, Common.take, Common.rules, lemmas.List.map-append}
use Rattle.std.proofs.{lemmas.List.take_more}
use Rattle.csicodec_parser.specs.ActionOf.{action_of}
use Rattle.csicodec_structs.proofs.Laid.{lays_none}
use Rattle.csicodec_structs.proofs.next.lay_all.Goals as goal

pub loop-action-init : goal.loop-action-init
loop-action-init c = lays_none c.args.actions.now c.args.params.now

pub loop-action-preserved : goal.loop-action-preserved
loop-action-preserved c =
    let i = c.loop-action.action-index in
    let all = c.args.all.now in
    let taken : take (i + 1) all ≡ take i all ++ c.action-item.result ∷ [] = search (rules, take_more) in
    rw (taken, map-append action_of (take i all) (c.action-item.result ∷ []))
    (c.in_ok-count.ensures c.args.actions.now c.args.params.now (map action_of (take i all)) c.loop-action.invariant)
