use Rattle.csicodec_parser.proofs.Common.{◌≡◌, ◌+◌, ◌*◌, ◌≤◌, ◌-◌, List, ◌++◌, length, drop, Action, actions, actions_after}
use Rattle.csicodec_parser.proofs.list.pieces_into.Given as goal

-- the actions up to here have gone into the sink, and those of what is unread are the others; each token that is passed paid for its looks
abbrev pub invariant-cut : goal.invariant-cut
invariant-cut g l =
    let tokens = g.L.Look.tokens l.fn.look in
    record {
      list : g.L.Look.tokens l.look ≡ tokens;
      within : g.L.Look.passed l.look ≤ length tokens;
      counted : g.L.Look.looks l.fn.look ≤ g.L.Look.looks l.look;
      costs : g.L.Look.looks l.look ≤ g.L.Look.looks l.fn.look + length tokens + 107 * g.L.Look.passed l.look;
      taken : (told : List Action) × (told ++ actions_after l.group l.end.truncated l.end.control (drop (g.L.Look.passed l.look) tokens) ≡ actions tokens l.end.truncated l.end.control)
          × ((before : List Action) → g.S.Sink.holds l.initial.sink before → g.S.Sink.holds l.sink (before ++ told));
    }

abbrev pub decreases-cut : goal.decreases-cut
decreases-cut g l = length (g.L.Look.tokens l.fn.look) - g.L.Look.passed l.look
