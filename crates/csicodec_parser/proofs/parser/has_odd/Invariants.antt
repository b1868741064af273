use Rattle.csicodec_parser.proofs.Common.{◌≡◌, ◌+◌, ◌≤◌, length, drop, has_odd}
use Rattle.csicodec_parser.proofs.parser.has_odd.Given as goal

abbrev pub invariant-loop-i : goal.invariant-loop-i
invariant-loop-i g l =
    let tokens = g.L.Look.tokens in
    record {
      list : tokens l.look ≡ tokens l.fn.look;
      passes : g.L.Look.passed l.look ≡ 0;
      end : l.i-end ≡ length (tokens l.fn.look);
      counted : g.L.Look.looks l.fn.look ≤ g.L.Look.looks l.look;
      costs : g.L.Look.looks l.look ≤ g.L.Look.looks l.fn.look + l.i;
      none_yet : has_odd l.group (drop l.i (tokens l.fn.look)) ≡ has_odd l.group (tokens l.fn.look);
    }
