use Rattle.std.proofs.Common.{refl, inl, inr}
use Rattle.csicodec_c.proofs.input.step.Goals as goal

pub returns-in-Ok-None : goal.returns-in-Ok-None
returns-in-Ok-None c =
    let awaits = rw c.in-Ok-None.field-0-is at c.in-Ok-None.ensures.sends in
    inr (inl (record {
      who = c.args.dialect;
      before = c.args.events.mode;
      after = c.next_in.new.self;
      wrote = refl;
      began = refl;
      awaits = awaits;
      tells = c.answer.ensures;
      actions = refl;
      params = refl;
    }))

pub returns-in-Some : goal.returns-in-Some
returns-in-Some c =
    let sent = c.in-Ok-Some.sent in
    let list = c.next_in.new.params.items in
    let sends = rw c.in-Ok-Some.field-0-is at c.in-Ok-Some.ensures.sends in
    inl (record {
      who = c.args.dialect;
      before = c.args.events.mode;
      after = c.next_in.new.self;
      sent = sent.event;
      list = list;
      text = sent.bytes.now;
      rest = sent.rest.now;
      wrote = refl;
      began = refl;
      sends = sends;
      parts = rw c.in-Ok-Some.field-0-is at c.in-Ok-Some.ensures.parts;
      tells = rw (c.answer-answer.ensures, c.event_number.ensures, c.value_of.ensures) refl;
      puts = c.in-Some.ensures c.args.dialect c.args.events c.next_in.new.self c.args.bytes.now sent.rest.now list sends;
    })
