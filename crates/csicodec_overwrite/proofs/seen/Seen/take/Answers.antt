use Rattle.csicodec_overwrite.proofs.{Common.All-set, Common.IsSlice, Read.none_read}
use Rattle.csicodec_clean.specs.Sets.{first_sets}
use Rattle.csicodec_overwrite.proofs.seen.Seen.take.Goals as goal

pub returns-then-at-len : goal.returns-then-at-len
returns-then-at-len c = All-set IsSlice c.args.self.now.kept.items c.at-at.result c.swap.new.x (rw (c.swap.ensures.x_after, c.new.ensures.items, c.new-2.ensures.items, c.first.ensures, c.first-2.ensures) (none_read first_sets)) c.requires
