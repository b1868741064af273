use Rattle.std.proofs.Common.{◌<◌, ◌≤◌, length, drop, take, refl, inl, sym, ap, arith, length-append, length-drop, take-append-drop}
use Rattle.csicodec_spans.specs.{declared.table.Ahead.TheVariants.GoesOn, declared.table.Ahead.TheVariants.Ends, declared.table.Mode.Mode}
use Rattle.csicodec_spans.proofs.{OneSpan.IsLonger, OneSpan.stays_longer, OneSpan.stops_maximal, OneSpan.taken_longer, OneSpan.taken_within, Missed.before_rest}
use Rattle.csicodec_spans.proofs.{Missed.rest_is, cut.longest.Goals.After-look, cut.longest.Goals.In-GoesOn}
use Rattle.csicodec_spans.proofs.cut.longest.Goals as goal

pub loop-len-init : goal.loop-len-init
loop-len-init c = rw c.behind-rest.ensures (record {
  longer = record {
    split = (take c.args.from c.args.bytes.now, sym (take-append-drop c.args.from c.args.bytes.now));
    cut = λ limit start text cut. (text, cut);
  };
  looks = omega arith;
})

-- what stays is a part of the span
here : (c : After-look) → IsLonger c.args.bytes.now (drop c.args.from c.args.bytes.now) c.behind-rest-in-loop-len.result c.args.mode c.args.mode
here c = rw c.behind-rest-in-loop-len.ensures (stays_longer _ _ c.loop-len.rest c.args.mode c.staying.result c.staying.ensures.stay c.staying.ensures.within c.loop-len.invariant.longer)

goes : (c : In-GoesOn) → (0 < c.in-GoesOn.len) × (c.in-GoesOn.len ≤ length c.behind-rest-in-loop-len.result)
goes c = taken_within c.args.mode c.behind-rest-in-loop-len.result (GoesOn c.in-GoesOn.len) _ _ _ (sym c.in-GoesOn.ensures.is) (inl refl)

pub behind-rest-requires-in-GoesOn : goal.behind-rest-requires-in-GoesOn
behind-rest-requires-in-GoesOn c = (goes (goal.at.behind-rest-requires-in-GoesOn c).In-GoesOn).1

pub behind-requires : goal.behind-requires
behind-requires c = (taken_within c.args.mode c.behind-rest-in-loop-len.result (Ends c.in-Ends.last) _ _ _ (sym c.in-Ends.ensures.is) (inl refl)).1

pub loop-len-smaller : goal.loop-len-smaller
loop-len-smaller c = omega (
  arith,
  goes (goal.at.loop-len-smaller c).In-GoesOn,
  ap length c.behind-rest-in-loop-len.ensures,
  ap length c.behind-rest-in-GoesOn.ensures,
  length-drop c.staying.result c.loop-len.rest,
  length-drop c.in-GoesOn.len c.behind-rest-in-loop-len.result,
)

pub loop-len-preserved : goal.loop-len-preserved
loop-len-preserved c =
    let go = goes (goal.at.loop-len-preserved c).In-GoesOn in
    let stayed = ap length c.behind-rest-in-loop-len.ensures in
    let went = ap length c.behind-rest-in-GoesOn.ensures in
    let first = length-drop c.staying.result c.loop-len.rest in
    let second = length-drop c.in-GoesOn.len c.behind-rest-in-loop-len.result in
    record {
      longer = rw c.behind-rest-in-GoesOn.ensures (taken_longer _ _ c.behind-rest-in-loop-len.result c.args.mode c.args.mode (GoesOn c.in-GoesOn.len) _ (sym c.in-GoesOn.ensures.is) refl (here (goal.at.loop-len-preserved c).After-look));
      looks = omega (arith, go, stayed, went, first, second, c.loop-len.invariant.looks, c.staying.ensures.within, c.staying.ensures.costs, c.look.ensures.costs);
    }

pub returns-in-Ends-clause-cut : goal.returns-in-Ends-clause-cut
returns-in-Ends-clause-cut c = λ limit start text cut.
    let last = taken_longer _ _ c.behind-rest-in-loop-len.result c.args.mode Mode.Text (Ends c.in-Ends.last) _ (sym c.in-Ends.ensures.is) refl (here (goal.at.returns-in-Ends-clause-cut c).After-look) in
    let (longer, d) = last.cut limit start text (rw c.requires.kind at cut) in
    rw (c.len.ensures, c.len-in-Ends.ensures, c.behind.ensures, c.requires.kind) (before_rest limit start c.args.bytes.now _ longer _ Mode.Text d)

pub returns-in-New : goal.returns-in-New
returns-in-New c =
    let here = here (goal.at.returns-in-New c).After-look in
    record {
      within = omega (arith, c.len-in-New.ensures);
      kind = refl;
      cut = λ limit start text cut.
          let (longer, d) = here.cut limit start text (rw c.requires.kind at cut) in
          rw (c.len-in-New.ensures, c.len-in-New-2.ensures, c.requires.kind) (before_rest limit start c.args.bytes.now _ longer c.behind-rest-in-loop-len.result c.args.mode d);
      maximal = rw (c.len-in-New.ensures, c.len-in-New-2.ensures, rest_is c.args.bytes.now here.split.0 c.behind-rest-in-loop-len.result here.split.1)
          (stops_maximal c.args.kind c.args.mode c.behind-rest-in-loop-len.result c.look.result (sym c.look.ensures.is) c.in-New.is);
      costs = omega (arith, ap length c.behind-rest-in-loop-len.ensures, c.loop-len.invariant.looks, c.requires.within, c.len-in-New.ensures, c.len-in-New-2.ensures, c.staying.ensures.within, c.staying.ensures.costs, c.look.ensures.costs, ap length here.split.1, length-append here.split.0 c.behind-rest-in-loop-len.result, length-drop c.staying.result c.loop-len.rest, length-drop c.args.from c.args.bytes.now);
    }
