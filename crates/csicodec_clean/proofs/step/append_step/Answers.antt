use Rattle.std.proofs.Common.{◌≡◌, ◌+◌, ◌-◌, ◌++◌, ◌∙◌, ap, length, take, arith}
use Rattle.csicodec_clean.proofs.{Common.common_steps, Streams.stepped}
use Rattle.csicodec_clean.proofs.step.append_step.Goals as goal

pub returns-clause-steps : goal.returns-clause-steps
returns-clause-steps g c =
    let held : c.extend_from_slice.new.self.items ≡ take c.args.pause.held c.args.bytes.now =
    c.in_ok-extend_from_slice.ensures.items ∙ ap (λ t. t ++ c.split_at.result.0.now) c.new-held.ensures.items ∙ c.split_at.ensures.front in
    let (text, out, goes, before, split) = rw (held, c.split_at.ensures.back) at c.in_ok-rest.ensures.goes in
    let few = rw held at c.in_ok-rest.ensures.short in
    let one : c.len.result ≡ length c.append_clean.new.held.items = grind (arith, common_steps, c.len.ensures) in
    let other : c.len-2.result ≡ length c.append_clean.new.held.items = grind (arith, common_steps, c.len-2.ensures) in
    let used = ap (λ n. length c.args.bytes.now - (n + length c.in_ok-rest.rest.now)) one in
    (text, stepped g.T.Rule.gives _ _ c.args.pause _ c.args.bytes.now text before _ _ _ split c.requires other used few c.in_ok-rest.ensures.unsure goes, out)
