use Rattle.csicodec_overwrite.proofs.{Common.◌∷◌, Common.map, Common.attributes, Spelled.looks_back, Spelled.look_of_one, Spelled.look_taken}
use Rattle.csicodec_base.specs.declared.sgr.Sgr.{Sgr}
use Rattle.csicodec_actions.specs.Actions as action
use Rattle.csicodec_overwrite.proofs.laws.looks_back.Goals as goal

pub returns : goal.returns
returns c = λ old saved look range. (map action.Sgr (Sgr.Reset ∷ attributes look), look_of_one look range, look_taken look range, looks_back saved old look)
