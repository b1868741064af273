-- The names that many proofs here cite, passed on from one place. Declares nothing.
pub use Rattle.csicodec_actions.proofs.AllRows.{all-append, row-in}
pub use Rattle.csicodec_actions.specs.{Actions.Action, Actions.Sgr, Actions.Unspecified, Ranges.InRange, Table.text, Table.texts}
pub use Rattle.csicodec_parser.specs.{Canonical.Canonical, Cut.Cut, Groups.Piece, Groups.group, Groups.has_odd, Segments.Actions, declared.group.Group.Group}
pub use Rattle.csicodec_streams.proofs.OneReading.{Alone, one_decoding}
pub use Rattle.csicodec_tokens.specs.{Sequence.IsFinal, Sequence.Spellable, declared.param.CsiParam.CsiParam, declared.param.CsiParam.TheVariants.P}
pub use Rattle.std.proofs.{lemmas.Bool.cases_Bool, lemmas.Bool.cases_lt, lemmas.List.Elements.All-contains, lemmas.Str.encode_ascii}
pub use Rattle.std.specs.List.{AllByRecursion}
