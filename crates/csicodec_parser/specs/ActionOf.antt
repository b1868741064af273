-- What a value of the codec says: its action, without where it lies in memory.
use Rattle.csicodec_tokens.specs.Param.{spells}
use Rattle.csicodec_actions.specs.Actions.{Cursor, Edit, Mouse, Device, Window, Keyboard, SelectCharacterPath}
use Rattle.csicodec_parser.specs.Common.{ℕ, List, encode_utf8, Action, Sgr, Mode, Unspecified, device_of, CSI}
use Rattle.std.specs.Prelude.{◌++◌}
use Rattle.csicodec_parser.specs.declared.actions.Unspecified as unspecified_type

abbrev pub unspecified_of : unspecified_type.Unspecified → Action
unspecified_of u = Unspecified u.params.items u.parameters_truncated u.control

-- a line for each kind of action
abbrev pub action_of : CSI → Action
action_of (CSI.Sgr s) = Sgr s
action_of (CSI.Cursor c) = Cursor c
action_of (CSI.Edit e) = Edit e
action_of (CSI.Mode m) = Mode m
action_of (CSI.Mouse m) = Mouse m
action_of (CSI.Device d) = Device (device_of d.value)
action_of (CSI.Window w) = Window w.value
action_of (CSI.Keyboard k) = Keyboard k
action_of (CSI.SelectCharacterPath path effect) = SelectCharacterPath path effect
action_of (CSI.Unspecified u) = unspecified_of u.value

-- the tokens' texts, and then the final character
abbrev pub unspecified_text : unspecified_type.Unspecified → List ℕ
unspecified_text u = spells u.params.items ++ encode_utf8 u.control
