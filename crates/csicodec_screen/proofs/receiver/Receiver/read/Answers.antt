use Rattle.std.proofs.Common.{◌≡◌, ◌∙◌, ◌++◌, [], ap, sym, refl, arith, append_assoc}
use Rattle.csicodec_screen.specs.Private.Reads.{reading}
use Rattle.csicodec_screen.proofs.Fed.{goes_nowhere, goes_on, said}
use Rattle.csicodec_screen.proofs.receiver.Receiver.read.Goals as goal

pub loop-told-init : goal.loop-told-init
loop-told-init c = record {
  limit = c.requires.limit;
  met = c.requires.met;
  same = refl;
  parts = ([], refl);
  goes = goes_nowhere (reading c.args.events.now c.args.self.now.string.items c.args.bytes.now) c.args.self.now.screen;
}

pub loop-told-preserved : goal.loop-told-preserved
loop-told-preserved c =
    let l = c.loop-told in
    let i = l.invariant in
    let told = c.in-Some.told in
    let next = c.in_ok-told.ensures in
    let after = c.next.new.self in
    let list = c.next.new.params.items in
    let before = reading l.events l.self.string.items l.rest.now in
    let behind = reading after c.take.new.self.string.items told.rest.now in
    let (inputs, says, on) = said told.event told.bytes.now list after.mode l.self.string.items l.self.screen c.take.new.self.screen c.in_ok-take.ensures.takes in
    let (front, joined) = i.parts in
    record {
      limit = omega (arith, i.limit, next.limit);
      met = rw c.in-Some.is at next.again;
      same = next.limit ∙ i.same;
      parts = (front ++ told.bytes.now, joined ∙ ap (λ xs. front ++ xs) (rw c.in-Some.is at next.parts) ∙ sym (append_assoc front told.bytes.now told.rest.now));
      goes = goes_on (reading c.args.events.now c.args.self.now.string.items c.args.bytes.now) before behind c.args.self.now.screen l.self.screen c.take.new.self.screen inputs told list i.goes
          (record { tells = rw c.in-Some.is at next.tells; says = says; string = c.in_ok-take.ensures.string; rest = refl }) on;
    }
