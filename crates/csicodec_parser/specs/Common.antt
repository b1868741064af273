-- The names of other crates that many files here cite, passed on from one place. Declares nothing.
pub use Rattle.csicodec_actions.specs.Actions.{Action, Mode, Sgr, TakesMemory, Unspecified, Unspecified as Unknown}
pub use Rattle.csicodec_actions.specs.{Devices.device_of, Modes.changed, Modes.switched, Table.boxed, Table.text, Table.unboxed, Table.whole}
pub use Rattle.csicodec_parser.specs.{declared.actions.CSI.CSI, declared.group.Group.Group, declared.group.Group.TheVariants.DecModes}
pub use Rattle.csicodec_parser.specs.{declared.group.Group.TheVariants.Modes, declared.group.Group.TheVariants.Styles, declared.group.Group.TheVariants.Whole}
pub use Rattle.csicodec_tokens.specs.{declared.param.CsiParam.CsiParam, declared.param.CsiParam.TheVariants.Integer, declared.param.CsiParam.TheVariants.P}
pub use Rattle.std.specs.Prelude.{Bool, IfNone, IfOk, IfSome, IsTrue, List, None, OnOk, Option, Some, [], drop, encode_utf8, false, length, suc, take, true, zero, ℕ}
