use Rattle.std.proofs.Common.{[], ap, map, subst, sym}
use Rattle.csicodec_parser.specs.{ActionOf.action_of, Segments.Actions}
use Rattle.csicodec_terminal.proofs.terminal.first_into.Goals as goal

pub returns : goal.returns
returns c =
    let (first, are, held) = c.in_ok-parse_into.ensures [] (ap (map action_of) c.clear.ensures.items) in
    subst (Actions c.args.list.now c.args.end.truncated c.args.end.control) (sym held) are
