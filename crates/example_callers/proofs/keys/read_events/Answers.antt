use Rattle.std.proofs.Common.{◌++◌, [], ap, sym, subst, ◌∙◌, append_assoc, append-nil, refl, arith}
use Rattle.csicodec_events.specs.Events.{IsMet}
use Rattle.example_callers.proofs.keys.read_events.Goals.{in-Some-pause+in_ok-meaning-2+in_ok-push-2, in_default-pause}
use Rattle.example_callers.proofs.keys.read_events.Goals as goal

pub loop-params-preserved : goal.loop-params-preserved
loop-params-preserved c =
    let i = c.loop-params.invariant in
    let (front, before) = i.ends in
    let sent = c.in-Some.sent in
    let parts = rw c.in-Some.is at c.in_ok-sent.ensures.parts in
    record {
      limit = omega (arith, i.limit, c.in_ok-sent.ensures.limit);
      met = rw c.in-Some.is at c.in_ok-sent.ensures.again;
      ends = (front ++ sent.bytes.now, before ∙ ap (λ bytes. front ++ bytes) parts ∙ sym (append_assoc front sent.bytes.now sent.rest.now));
    }

pub pause-requires : goal.pause-requires
pause-requires c =
    let again = rw c.in_default.is at c.in_ok-sent.ensures.again in
    record { met = subst (IsMet c.next_in.new.self) (append-nil c.loop-params.rest.now) (again []) }

pub returns : goal.returns
returns c =
    let (front, before) = c.loop-params.invariant.ends in
    elim c.match-pause.branch [
      | in-Some-pause+in_ok-meaning-2+in_ok-push-2 w ↦
          let sent = w.in-Some-pause.sent in
          let parts = rw w.in-Some-pause.is at c.pause.ensures.parts in
          (front ++ sent.bytes.now, before ∙ ap (λ bytes. front ++ bytes) parts ∙ sym (append_assoc front sent.bytes.now sent.rest.now) ∙ rw w.rest-is refl)
      | in_default-pause w ↦ (front, rw w.rest-is before)
    ]
