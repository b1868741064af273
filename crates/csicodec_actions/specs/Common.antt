-- The names of other crates that many files here cite, passed on from one place. Declares nothing.
pub use Rattle.csicodec_actions.specs.{declared.device.DeviceAttribute.DeviceAttribute, declared.keyboard.KittyKeyboardMode.KittyKeyboardMode}
pub use Rattle.csicodec_actions.specs.{declared.mode.DecPrivateMode.DecPrivateMode, declared.mode.TerminalMode.TerminalMode}
pub use Rattle.csicodec_actions.specs.{declared.mode.XtermKeyModifierResource.XtermKeyModifierResource, declared.mouse.MouseButton.MouseButton}
pub use Rattle.csicodec_actions.specs.{declared.path.CharacterPath.CharacterPath, declared.xtsmgraphics.XtSmGraphicsAction.XtSmGraphicsAction}
pub use Rattle.csicodec_actions.specs.{declared.xtsmgraphics.XtSmGraphicsItem.XtSmGraphicsItem, declared.xtsmgraphics.XtSmGraphicsStatus.XtSmGraphicsStatus}
pub use Rattle.csicodec_names.specs.{DeviceNumbers.device_attribute_number, FlagBits.modifier_bits, ModeNumbers.dec_mode_number, ModeNumbers.terminal_mode_number}
pub use Rattle.csicodec_names.specs.{Numbered.is_number, Numbered.with_number, declared.device.DeviceAttributeCodes.DeviceAttributeCodes}
pub use Rattle.csicodec_names.specs.{declared.flags.KittyKeyboardFlags.KittyKeyboardFlags, declared.flags.Modifiers.Modifiers}
pub use Rattle.csicodec_tokens.specs.{Fields.fields_of, OneBased.most, Param.token_text, Sequence.IsSpellable, declared.param.CsiParam.CsiParam}
pub use Rattle.csicodec_tokens.specs.{declared.param.CsiParam.TheVariants.Integer, declared.param.CsiParam.TheVariants.P}
pub use Rattle.std.specs.Prelude.{Bool, IfOk, IsSome, IsTrue, List, None, OnErr, Option, Some, [], false, length, option_and_then, pos, true, ℕ, ℤ}
pub use Rattle.std.specs.{Fmt.signed_decimal, Int.RustNames.bit_and, List.flat_map, Option.option_map, Option.option_or}
