use Rattle.std.proofs.{Common.◌≡◌, Common.◌++◌, Common.append_assoc, lemmas.Result.on_ok_weaker}
use Rattle.csicodec_looks.specs.Look.{colors}
use Rattle.csicodec_looks.proofs.css.append_css.Goals as goal

pub returns : goal.returns
returns c = on_ok_weaker c.append_colors.result
    (λ (e : c.append_colors.new.out.items ≡ c.append_lines.new.out.items ++ colors c.args.palette.now c.args.look).
    rw (e, c.in_ok-append_lines.ensures, c.in_ok-append_if.ensures, c.in_ok-append_weight.ensures) (simp append_assoc))
    c.append_colors.ensures
