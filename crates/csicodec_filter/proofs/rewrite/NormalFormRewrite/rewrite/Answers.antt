use Rattle.std.proofs.Common.{[], ◌∙◌, false}
use Rattle.csicodec_streams.proofs.OneReading.{decodes-one}
use Rattle.csicodec_filter.proofs.rewrite.NormalFormRewrite.rewrite.Goals as goal

pub returns-clause-text : goal.returns-clause-text
returns-clause-text c =
    let (actions, parsed, made) = c.in_ok-parse_into.ensures [] c.clear.ensures in
    let decodes = decodes-one c.args._bytes.now c.args.params.now false c.args.control actions c.requires parsed in
    (c.as_slice.result.now, (actions, decodes, c.as_slice.ensures ∙ made), c.in_ok-extend_from_slice.ensures.items)
