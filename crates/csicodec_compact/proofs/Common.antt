-- The names that many proofs here cite, passed on from one place. Declares nothing.
pub use Rattle.csicodec_actions.proofs.AllRows.{all-append}
pub use Rattle.csicodec_actions.specs.Actions.{Action, Sgr}
pub use Rattle.csicodec_compact.specs.{Compacts.Compacts, Compacts.Encodes, Compacts.ReadsAlike, Private.Steps.Does, Private.Steps.IsListed, Private.Steps.IsOwn}
pub use Rattle.csicodec_compact.specs.{Private.Steps.closing, Private.Steps.form_of, Private.Steps.is_other, Private.Steps.opened, Runs.IsShortened}
pub use Rattle.csicodec_parser.specs.{ActionOf.action_of, Private.Steps.actions, Segments.Actions, declared.actions.CSI.CSI}
pub use Rattle.csicodec_tokens.specs.{Sequence.Seq, declared.param.CsiParam.CsiParam}
pub use Rattle.std.proofs.{lemmas.Grind.flat_map-append, lemmas.List.map-append, lemmas.Result.on_ok_weaker, lemmas.Slice.Eq.slice_eq-Decides}
pub use Rattle.std.specs.List.{AllByRecursion, list_any}
