use Rattle.csicodec_inspect.proofs.{Common.refl, Common.IfOk-from_err, Sent.all_written, Sent.on_err_all}
use Rattle.csicodec_lines.specs.Cuts.{Tells}
use Rattle.csicodec_inspect.proofs.cuts.CutsAlone.work.Goals as goal

pub returns-in_err-cuts_all : goal.returns-in_err-cuts_all
returns-in_err-cuts_all g c =
    let r = c.from_residual in
    (refl, (IfOk-from_err r.result _ r.ensures.0, on_err_all r.result c.in_err-cuts_all.ensures.front))

pub returns : goal.returns
returns g c = (refl, (all_written (Tells c.args.self.now.every) _ _ _ _ c.in_ok-cuts_all.ensures.ok, tt))
