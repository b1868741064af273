use Rattle.csicodec_clean.proofs.Streams.{styled_steps}
use Rattle.csicodec_clean.proofs.step.clean_step.Goals as goal

pub returns-clause-steps : goal.returns-clause-steps
returns-clause-steps c =
    let (text, steps, out) = c.in_ok-used.ensures.steps in (
      text,
      styled_steps c.args.depth c.args.pause.styled c.is_styled-styled.result c.resumed-rule.result c.append_step.new.rule c.args.pause c.in_ok-used.after c.args.bytes.now text _
          c.resumed-rule.ensures c.is_styled-styled.ensures c.requires steps,
      out,
    )
