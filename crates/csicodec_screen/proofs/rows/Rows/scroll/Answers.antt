use Rattle.std.proofs.{Common.◌∙◌, lemmas.Result.on_ok_weaker}
use Rattle.csicodec_screen.specs.Private.Changes.{row_of}
use Rattle.csicodec_screen.proofs.rows.Rows.scroll.Goals as goal

pub returns : goal.returns
returns c = rw (← c.self.view_is) (on_ok_weaker c.reset_rows.result (λ reset. reset ∙ c.shift-start.ensures (row_of c.args.like)) c.reset_rows.ensures)
