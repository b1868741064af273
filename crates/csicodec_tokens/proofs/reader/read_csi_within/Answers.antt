use Rattle.std.proofs.{Common.◌≡◌, Common.◌<◌, Common.◌∷◌, Common.[], Common.length, Common.take, Common.subst, Common.arith, lemmas.List.length-append}
use Rattle.std.proofs.{lemmas.List.length-set, lemmas.List.length-take-le, lemmas.List.take_more_set}
use Rattle.csicodec_tokens.specs.Private.Reading.{IsPart}
use Rattle.csicodec_tokens.proofs.Reading.{others_shorter, read_more, read_all, fault_refuses}
use Rattle.csicodec_tokens.proofs.reader.read_csi_within.Goals as goal

pub returns-then-count-room-clause-refused : goal.returns-then-count-room-clause-refused
returns-then-count-room-clause-refused c =
    let first = subst (IsPart c.loop-token.rest.now) c.in-Token.is c.part_front.ensures in
    let front = take c.loop-token.count c.loop-token.room in
    let long : length front ≡ c.loop-token.count = length-take-le c.loop-token.count c.loop-token.room c.loop-token.invariant.fits in
    c.refusal.ensures _ _ (read_more _ _ _ _ _ c.loop-token.invariant.read first) (omega (arith, long, c.if-count-room.true, length-append front (c.in-Token.token ∷ [])))

pub loop-token-preserved : goal.loop-token-preserved
loop-token-preserved c =
    let first = subst (IsPart c.loop-token.rest.now) c.in-Token.is c.part_front.ensures in
    let low : c.loop-token.count < length c.loop-token.room = omega (arith, c.if-count-room.false, c.loop-token.invariant.fits) in
    record {
      within = omega (arith, c.loop-token.invariant.within, others_shorter _ _ _ first);
      fits = omega (arith, low, length-set c.loop-token.room c.loop-token.count c.in-Token.token);
      read = rw (take_more_set c.loop-token.room c.loop-token.count c.in-Token.token low) (read_more _ _ _ _ _ c.loop-token.invariant.read first);
    }

pub returns-in-Final-clause-found : goal.returns-in-Final-clause-found
returns-in-Final-clause-found c =
    let last = subst (IsPart c.loop-token.rest.now) c.in-Final.is c.part_front.ensures in
    rw c.from.ensures (read_all _ _ _ _ _ c.loop-token.invariant.read last.0 last.1)

pub returns-in-Wrong-clause-refused : goal.returns-in-Wrong-clause-refused
returns-in-Wrong-clause-refused c =
    let wrong = subst (IsPart c.loop-token.rest.now) c.in-Wrong.is c.part_front.ensures in
    rw c.fault.ensures (fault_refuses _ _ _ (wrong.fault _ _ c.loop-token.invariant.read))
