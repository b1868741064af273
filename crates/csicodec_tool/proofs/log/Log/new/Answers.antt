use Rattle.csicodec_tool.proofs.{Common.◌∙◌, Common.rules, Logged.begun_in, Logged.log_begun, log.Log.new.Goals.in-Some, log.Log.new.Goals.in-None}
use Rattle.csicodec_tool.proofs.log.Log.new.Goals as goal

pub returns-clause-begun : goal.returns-clause-begun
returns-clause-begun c =
    log_begun
    (record { each = c.args.each; styles = c.args.styles; line = c.match-styles.line; cleaner = c.new.result; painted = c.new-2.result })
    (begun_in c.args.styles c.match-styles.line c.new.result
    (elim c.match-styles.branch [
      | in-Some w ↦ rw w.in-Some.is (w.line-is ∙ w.painting-line.ensures)
      | in-None w ↦ rw w.in-None.is (w.line-is ∙ w.new-line.ensures)
    ])
    (search rules))
