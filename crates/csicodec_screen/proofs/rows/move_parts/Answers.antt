use Rattle.std.proofs.{Common.◌∙◌, Common.arith, lemmas.Result.on_ok_weaker}
use Rattle.std.specs.Prelude.{replicate}
use Rattle.csicodec_screen.specs.Lists.{moved}
use Rattle.csicodec_screen.proofs.Parts.{within_all}
use Rattle.csicodec_screen.proofs.rows.move_parts.Goals as goal

pub returns : goal.returns
returns c =
    let blank = replicate c.args.like.columns c.args.like.cell in
    let whole = within_all (moved c.args.upward c.args.count blank) c.args.parts.now.items c.len-len.result (omega (arith, c.len-len.ensures, c.args.parts.now.ok.0)) in
    on_ok_weaker c.reset_parts.result (λ reset. reset ∙ c.shift-start.ensures blank ∙ whole) c.reset_parts.ensures
