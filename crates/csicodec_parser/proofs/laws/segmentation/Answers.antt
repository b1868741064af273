use Rattle.csicodec_parser.specs.Private.Steps.{actions}
use Rattle.csicodec_parser.proofs.Cuts.{actions_are, actions_count, one_segmentation}
use Rattle.csicodec_parser.proofs.laws.segmentation.Goals as goal

pub returns : goal.returns
returns c =
    let list = c.args.params.now in
    record {
      some = (actions list c.args.parameters_truncated c.args.control, actions_are list c.args.parameters_truncated c.args.control);
      only = one_segmentation list c.args.parameters_truncated c.args.control;
      count = actions_count list c.args.parameters_truncated c.args.control;
    }
