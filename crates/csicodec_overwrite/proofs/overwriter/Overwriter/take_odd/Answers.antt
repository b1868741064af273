use Rattle.csicodec_overwrite.proofs.{Common.◌≡◌, Common.◌++◌, Common.◌∙◌, Common.ap, Written.taken}
use Rattle.csicodec_overwrite.proofs.overwriter.Overwriter.take_odd.Goals as goal

pub returns-clause-passes : goal.returns-clause-passes
returns-clause-passes c =
    let (steps, reads, more) = c.in_ok-push.ensures.reads in
    let same : c.deref.result.now ≡ steps = c.deref.ensures.value ∙ more ∙ ap (λ x. x ++ steps) c.clear.ensures.items in
    rw (← c.self.view_is) (taken c.split_at.result.0.now c.split_at.ensures.by_index.0 reads (rw same at c.in_ok-take_all.ensures))
