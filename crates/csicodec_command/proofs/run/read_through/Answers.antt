use Rattle.csicodec_command.proofs.{Common.Some, Common.inl, Common.inr, Common.refl, Common.Err, Common.Keeps-refl, Common.chain_remaining, Turns.buffered}
use Rattle.csicodec_command.proofs.{Turns.chained, Turns.handed_on, Turns.not_begun, Turns.taken}
use Rattle.csicodec_command.proofs.run.read_through.Goals as goal

pub returns-in_err-begin : goal.returns-in_err-begin
returns-in_err-begin g c =
    not_begun _ _ _ _ _ c.begin.result c.from_residual.result _ c.begin.ensures c.in_err-begin.was
    (handed_on c.from_residual.result _ c.from_residual.ensures.1)

pub returns-in_err-is_recording : goal.returns-in_err-is_recording
returns-in_err-is_recording g c =
    let r = c.from_residual-in_err-is_recording in
    taken _ _ _ _ _ _ _ c.begin.result r.result c.begin.ensures c.in_ok-begin.was (Keeps-refl _)
    (inl ((_, handed_on r.result _ r.ensures.1, c.in_err-is_recording.ensures.err), refl))

pub returns-then-not-is_recording : goal.returns-then-not-is_recording
returns-then-not-is_recording g c =
    taken _ _ _ _ _ _ _ c.begin.result c.read.result c.begin.ensures c.in_ok-begin.was
    (chained _ _ _ _ _ c.in_ok-is_recording.ensures.front c.as_slice.ensures.value c.chain-whole.ensures.bytes) (inr (inl c.read.ensures))

pub returns-in-Ok : goal.returns-in-Ok
returns-in-Ok g c =
    taken _ _ _ _ _ _ _ c.begin.result c.read_cast.result c.begin.ensures c.in_ok-begin.was
    (buffered (λ i. chain_remaining (λ s. Some s.now) (λ r. g.R.Read.remaining r.now) i.now) c.in-Ok.lines _ _
    c.in-Ok.ensures.capacity c.in-Ok.ensures.empty c.in-Ok.ensures.inner
    (chained _ _ _ _ _ c.in_ok-is_recording.ensures.front c.as_slice.ensures.value c.chain-whole.ensures.bytes))
    (inr (inr (c.in_ok-is_recording.ensures.known c.if-not-is_recording.false, c.read_cast.ensures)))

pub returns : goal.returns
returns g c = taken _ _ _ _ _ _ _ c.begin.result (Err _) c.begin.ensures c.in_ok-begin.was (Keeps-refl _) (inl ((_, refl, inr (inl refl)), refl))
