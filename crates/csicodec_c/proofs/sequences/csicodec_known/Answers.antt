use Rattle.std.proofs.Common.{◌∙◌, inr, sym}
use Rattle.csicodec_c.proofs.Unknown.{one-reading, too-long}
use Rattle.csicodec_c.proofs.sequences.csicodec_known.Goals as goal

pub returns-in_default : goal.returns-in_default
returns-in_default c = inr (c.answer.ensures, λ list final s. too-long list final (c.in_default.ensures list final s))

pub returns-in-None : goal.returns-in-None
returns-in-None c =
    let (low, stands) = c.in-Some.ensures in
    inr (c.answer-in-None.ensures, λ list final s. one-reading c.args.given.now c.args.params.now list _ final _ s stands ∙ sym c.in-None.ensures)
