use Rattle.csicodec_overwrite.proofs.{Common.of_chars, Common.Reads, Common.rules, Stays.reads_plain, Stays.split_line, Written.none_taken, Written.taken}
use Rattle.csicodec_looks.proofs.Stays.{lines_plain}
use Rattle.csicodec_overwrite.proofs.overwriter.Overwriter.take_text.Goals as goal

pub put_text-requires : goal.put_text-requires
put_text-requires c =
    (split_line c.args.bytes.now c.split_front.result.0.now c.split_front.result.1.now c.split_front.ensures.front c.split_front.ensures.rest).1

pub returns-then-matches-clause-passes : goal.returns-then-matches-clause-passes
returns-then-matches-clause-passes c = none_taken c.args.self.now c.args.bytes.now c.args.out.now.items c.requires

pub returns-clause-passes : goal.returns-clause-passes
returns-clause-passes c =
    let text = c.split_front.result.0.now in
    let bare = rw (← c.self.view_is) at c.requires in
    let held = c.self.inside.reader in
    let (parts, plain) = split_line c.args.bytes.now text c.split_front.result.1.now c.split_front.ensures.front c.split_front.ensures.rest in
    let reads : Reads held text (of_chars text) held = reads_plain held text (bare, search rules) (lines_plain text plain) in
    rw (← c.self.view_is) (taken text parts reads c.in_ok-put_text.ensures)
