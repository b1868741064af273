use Rattle.std.proofs.{Common.[], Common.ap, Common.append-nil, Common.refl, lemmas.Result.on_ok_weaker}
use Rattle.csicodec_filter.specs.Filter.{Held}
use Rattle.csicodec_clean.proofs.Streams.{one_ran}
use Rattle.csicodec_lines.specs.{Cuts.Tells, Private.Steps.Passes}
use Rattle.csicodec_lines.proofs.{Places.Quiet, Places.begun, Places.front, Places.of_all, Places.one_text, Places.tells, Common.⊤, Common.Transforms}
use Rattle.csicodec_lines.proofs.cuts.cuts_all.Goals as goal

pub transform_all-requires-clause-stands : goal.transform_all-requires-clause-stands
transform_all-requires-clause-stands g c = ap (λ (h : Held _). h.limit) c.new.ensures.1

pub transform_all-requires-clause-begun : goal.transform_all-requires-clause-begun
transform_all-requires-clause-begun g c = begun c.args.every c.new.result c.new.ensures

pub returns : goal.returns
returns g c =
    let every = c.args.every in
    let first = c.new.result in
    let is = c.new.ensures in
    let ran = one_ran Passes Quiet first (Transforms Passes Quiet first) (Tells every) (λ text. ⊤)
    (λ bytes text rest last passed none. rw (none, append-nil text) (of_all every first is bytes text last passed)) (tells every first is) (λ last. ([], refl)) (λ bytes text told. tt)
    (one_text every first is) (front every first is) c.transform_all.result _ _ _ _ in
    let ok = on_ok_weaker c.transform_all.result (λ (bytes, text, consumed, end, whole, appended). (bytes, text, consumed, end, tells every first is bytes text whole, appended)) c.transform_all.ensures.ok in
    record { ok = ok; front = (ran c.transform_all.ensures.ok c.transform_all.ensures.front).whole }
