use Rattle.std.proofs.Common.{◌<◌, length, refl, rules}
use Rattle.csicodec_lines.specs.Stream.{Passes}
use Rattle.csicodec_lines.proofs.{Taken.goes_within, Common.adds_all, Common.adds_none}
use Rattle.csicodec_lines.proofs.lines.Lines.take_within.Goals as goal

pub returns-then-is_empty : goal.returns-then-is_empty
returns-then-is_empty g c =
    let Step = Passes g.R.Anew.begins g.R.Rule.gives g.R.Rule.closes in
    adds_all Step _ _ _ c.args.bytes.now _ _ (adds_none Step c.args.self.now c.args.bytes.now c.args.out.now.items) (search rules)

pub returns : goal.returns
returns g c =
    let (more, takes, out) = c.in_ok-push.ensures.takes in
    let some : 0 < length c.args.bytes.now = search rules in
    (more, goes_within g.R.Anew.begins g.R.Rule.gives g.R.Rule.closes c.args.self.now _ c.args.bytes.now more some c.requires refl refl takes, out)
