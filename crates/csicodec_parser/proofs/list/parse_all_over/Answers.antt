use Rattle.std.proofs.Common.{[], ap, map}
use Rattle.csicodec_parser.specs.ActionOf.{action_of}
use Rattle.csicodec_parser.proofs.list.parse_all_over.Goals as goal

pub returns-clause-all : goal.returns-clause-all
returns-clause-all g c =
    let (xs, are, held) = c.in_ok-list_into.ensures.taken in
    rw (held [] (ap (map action_of) c.new-all.ensures.items)) are
