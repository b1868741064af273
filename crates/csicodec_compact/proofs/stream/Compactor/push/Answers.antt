use Rattle.std.proofs.Common.{◌≡◌, ◌<◌, ◌⊎◌, ◌++◌, ◌∙◌, ℕ, List, length, ap, sym, subst}
use Rattle.csicodec_spans.specs.{Machine.State, Machine.collected, Told.mode_of, Visits.PushesTo, Visits.Stream}
use Rattle.csicodec_spans.proofs.{Driven.Parted, Driven.parted, Once.unsure_short}
use Rattle.csicodec_compact.specs.{Runs.Open, Runs.PassesShort, declared.stream.Compactor.TheInside.Inside, declared.shortener.Shortener.Shortener}
use Rattle.csicodec_compact.proofs.{Beside.passes_over, Common.Does}
use Rattle.csicodec_compact.proofs.stream.Compactor.push.Goals as goal

pub returns-clause-passes : goal.returns-clause-passes
returns-clause-passes c =
    let bytes = c.args.bytes.now in
    let out = c.args.out.now.items in
    let last = c.pause.new.self in
    let begun : Stream Shortener = record c.self.inside.driver { visitor = c.restart.new.self } in
    let first = ap (λ (i : Inside). i.driver) c.self-inside.view_is in
    let pushed : PushesTo Does begun bytes out c.push.new.out.items c.push.new.self =
    subst (λ (s : Stream Shortener). PushesTo Does (record s { visitor = c.restart.new.self }) bytes out c.push.new.out.items c.push.new.self) first c.in_ok-push.ensures in
    let all = passes_over begun c.push.new.self last bytes out c.push.new.out.items c.pause.new.out.items c.restart.ensures pushed c.in_ok-pause.ensures in
    subst (λ (o : Open). (text : List ℕ) × PassesShort o.limit o.mode (o.bytes ++ bytes) text (collected last.state) (mode_of last.state) × (c.pause.new.out.items ≡ out ++ text)) c.self.view_is all

pub returns-clause-limit : goal.returns-clause-limit
returns-clause-limit c =
    let first = ap (λ (i : Inside). i.driver.limit) c.self-inside.view_is in
    let p = parted Does _ c.push.new.self c.args.bytes.now _ _ c.in_ok-push.ensures in
    ap (λ (s : Stream Shortener). s.limit) c.in_ok-pause.ensures.to ∙ p.limit ∙ first ∙ ap (λ (o : Open). o.limit) c.self.view_is

pub returns-clause-short : goal.returns-clause-short
returns-clause-short c =
    let p = parted Does _ c.push.new.self c.args.bytes.now _ _ c.in_ok-push.ensures in
    rw (c.in_ok-pause.ensures.to, p.limit) (unsure_short _ _ _ p.unsure)
