use Rattle.std.proofs.Common.{length, refl, inl, ap, sym, ◌∙◌, arith, length-drop, take-append-drop}
use Rattle.csicodec_events.specs.declared.event.Events.{Events}
use Rattle.csicodec_events.proofs.Forms.{front}
use Rattle.csicodec_events.proofs.event.Events.next_in.Goals as goal

pub returns-in-Whole : goal.returns-in-Whole
returns-in-Whole c =
    let e = c.args.self.now in
    let sent = c.sent.ensures in
    let f = front c.args.dialect e.mode e.looked c.args.bytes.now c.in-Whole.event c.in-Whole.len (sym c.ahead.ensures ∙ c.in-Whole.is) in
    let looked = ap (λ (x : Events). x.looked) sent.onward in
    record {
      sends = rw (sym c.ahead.ensures ∙ c.in-Whole.is) (sent.event, sent.bytes, sent.rest, sent.onward);
      parts = rw (sent.bytes, sent.rest) (sym (take-append-drop c.in-Whole.len c.args.bytes.now));
      progress = omega (arith, f.fresh, f.some, f.within, looked, ap length sent.rest, length-drop c.in-Whole.len c.args.bytes.now);
      again = inl looked;
      limit = ap (λ (x : Events). x.limit) sent.onward;
      memory = tt;
    }

pub returns-in-Some : goal.returns-in-Some
returns-in-Some c =
    let t = c.in_ok-told-in-AsOutput.ensures in
    record {
      sends = rw (sym c.ahead.ensures ∙ c.in-AsOutput.is) (c.in-Some.told.event, refl, rw c.in-Some.is at t.tells);
      parts = rw c.in-Some.is at t.parts;
      progress = rw c.in-Some.is at t.progress;
      again = rw c.in-Some.is at t.again;
      limit = t.limit;
      memory = tt;
    }

pub returns-in-None : goal.returns-in-None
returns-in-None c =
    let t = c.in_ok-told-in-AsOutput.ensures in
    record { sends = rw (sym c.ahead.ensures ∙ c.in-AsOutput.is) (rw c.in-None.is at t.tells); parts = tt; progress = tt; again = rw c.in-None.is at t.again; limit = t.limit; memory = tt }
