use Rattle.csicodec_listing.proofs.Joined.{all_other, none_before}
use Rattle.csicodec_listing.proofs.lines.split_line.Goals as goal

pub returns-in-Some-clause-first : goal.returns-in-Some-clause-first
returns-in-Some-clause-first c =
    let (none, found) = c.in-Some.ensures in
    none_before c.in-Some.end c.args.bytes.now none.before

pub returns-in-None-clause-none : goal.returns-in-None-clause-none
returns-in-None-clause-none c = all_other c.args.bytes.now c.in-None.ensures
