use Rattle.std.proofs.Common.{[], sym, append-nil}
use Rattle.csicodec_transform.proofs.Sent.{goes_none}
use Rattle.csicodec_lines.specs.Private.Steps.{Passes}
use Rattle.csicodec_lines.proofs.finder.FinderTransform.pause.Goals as goal

pub returns-clause-passes : goal.returns-clause-passes
returns-clause-passes c = ([], goes_none Passes c.args.self.now, sym (append-nil c.args._out.now.items))
