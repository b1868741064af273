-- The names that many files here cite, passed on from one place. Declares nothing.
pub use Rattle.csicodec_actions.specs.Kinds.{Any, Control, Count, Good, GraphicsItem, InDisplay, InLine, IsSaid, Kind, Last, Path, Pressed, Released, Value, number, read}
pub use Rattle.csicodec_actions.specs.Rows.{Number, One, Row, Slot, first_of, given, gives, made, mark, open_row, read_by, rows_before}
pub use Rattle.csicodec_actions.specs.{Actions.Action, Devices.listed_attributes, FieldRows.FieldRow, FieldRows.numbers, FieldRows.read_fields, Lent.integers}
pub use Rattle.csicodec_actions.specs.{Mouse.is_release, Private.DeviceTexts.listed_text, Table.field_table, Table.table, Table.whole, Table.Device.written_class}
pub use Rattle.csicodec_actions.specs.{Written.AllGood, Written.Attribute, Written.Item, Written.any_number, Written.listed, Written.shown, Written.written_text}
pub use Rattle.csicodec_actions.specs.{declared.device.DeviceAttribute.DeviceAttribute}
pub use Rattle.csicodec_names.proofs.Coded.{attributes, is_number-pos, none-found}
pub use Rattle.csicodec_names.specs.{DeviceNumbers.device_attribute_codes, DeviceNumbers.device_attribute_number, ModeNumbers.dec_mode_number, Numbered.is_number}
pub use Rattle.csicodec_tokens.specs.{Fields.fields_of, Sequence.IsSpellable, Sequence.Spellable, declared.param.CsiParam.CsiParam}
pub use Rattle.csicodec_tokens.specs.{declared.param.CsiParam.TheVariants.Integer, declared.param.CsiParam.TheVariants.P}
pub use Rattle.std.proofs.Common.{List, None, Option, Some, [], ap, arith, inl, inr, length, pos, refl, rules, subst, suc, sym, take, zero, ℕ, ◌++◌, ◌<◌, ◌∙◌, ◌∷◌, ◌≡◌, ◌⊎◌}
pub use Rattle.std.proofs.{lemmas.Bool.eq-eqb, lemmas.Bool.eqb-true, lemmas.Bool.ne_eqb, lemmas.Grind.put_two, lemmas.Option.option_and_then_some}
pub use Rattle.std.proofs.{lemmas.Option.same_Some, lemmas.Option.slice_get_read}
pub use Rattle.std.specs.Prelude.{Bool, false, if◌then◌else◌, not, option_and_then, slice_get, true, ℤ, ◌&&◌, ◌==◌, ◌||◌, ◌↔◌}
pub use Rattle.std.specs.{List.AllByRecursion, Option.option_map, Option.option_or}
