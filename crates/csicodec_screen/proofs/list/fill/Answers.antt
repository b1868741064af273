use Rattle.std.proofs.{Common.◌∙◌, Common.◌≤◌, Common.length, Common.refl, Common.arith, lemmas.List.length-set}
use Rattle.csicodec_screen.specs.Lists.{filled}
use Rattle.csicodec_screen.proofs.Parts.{within_set}
use Rattle.csicodec_screen.proofs.list.fill.Goals as goal

pub loop-i-preserved : goal.loop-i-preserved
loop-i-preserved g c =
    let room : c.part-start.result.1 ≤ length c.loop-i.list.items = omega (arith, c.part-start.ensures.end, c.loop-i.invariant.len) in
    record {
      is = within_set (filled c.args.value) (filled c.args.value) c.loop-i.list.items c.loop-i.i c.part-start.result.1 c.args.value c.loop-i-test.true room (λ x rest. refl) ∙ c.loop-i.invariant.is;
      len = length-set c.loop-i.list.items c.loop-i.i c.args.value ∙ c.loop-i.invariant.len;
    }
