-- The names that many files here cite, passed on from one place. Declares nothing.
pub use Rattle.csicodec_actions.proofs.AllRows.{boxed_whole, unboxed_whole}
pub use Rattle.csicodec_actions.specs.{Actions.Action, Actions.Sgr, Actions.Unspecified, Table.text}
pub use Rattle.csicodec_parser.specs.Private.Steps.{CanGo, CutsOn, GoesBy, actions, actions_after, actions_in, block_of, body_actions, found, fresh_cost, from_at, front, has_failed, left_at, one_token, rest_action, segments, segments_at, styled, with_semicolon}
pub use Rattle.csicodec_parser.specs.{ActionOf.action_of, Groups.group, Groups.has_odd, Groups.marked, Groups.start, Next.IsRef, Progress.progress}
pub use Rattle.csicodec_parser.specs.{declared.actions.CSI.CSI, declared.group.Group.Group, declared.group.Group.TheVariants.DecModes}
pub use Rattle.csicodec_parser.specs.{declared.group.Group.TheVariants.Styles, declared.group.Group.TheVariants.Whole, declared.parser.Stage.Stage}
pub use Rattle.csicodec_parser.specs.{declared.parser.Stage.TheVariants.Failed, declared.parser.Stage.TheVariants.Fresh, declared.parser.Stage.TheVariants.Going}
pub use Rattle.csicodec_tokens.specs.{Param.spells, declared.param.CsiParam.CsiParam, declared.param.CsiParam.TheVariants.Integer}
pub use Rattle.csicodec_tokens.specs.{declared.param.CsiParam.TheVariants.P}
pub use Rattle.std.proofs.Common.{Bool, List, None, Option, Some, [], ap, append_assoc, arith, drop, false, inl, inr, length, length-drop, refl, rules, subst, suc, sym, take, true, zero, ℕ, ◌*◌, ◌++◌, ◌+◌, ◌-◌, ◌<◌, ◌==◌, ◌∙◌, ◌∷◌, ◌≡◌, ◌≤◌}
pub use Rattle.std.proofs.{lemmas.Grind.common_steps, lemmas.Int.to_z-of_z, lemmas.List.drop-drop, lemmas.Option.some_pair_parts, lemmas.Result.on_ok_weaker}
pub use Rattle.std.specs.{Option.option_map, Prelude.IfNone, Prelude.IfSome, Prelude.slice_get, Prelude.◌↔◌}
