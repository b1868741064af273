use Rattle.std.proofs.Common.{◌∙◌, ℕ, None, ap}
use Rattle.csicodec_screen.specs.Draws.{show}
use Rattle.csicodec_screen.proofs.screen.Screen.show_in_set.Goals as goal

pub returns : goal.returns
returns c =
    c.in_ok-show.ensures
    ∙ ap (λ (x : ℕ). show x (record c.args.self.now { sets = record c.args.self.now.sets { single = None } })) c.in_set-shown.ensures
