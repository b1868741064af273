use Rattle.std.proofs.Common.{◌≡◌, drop, false}
use Rattle.csicodec_parser.specs.{Groups.has_odd, declared.group.Group.TheVariants.Styles}
use Rattle.csicodec_compact.proofs.lists.is_plain.Given as goal

-- the list is plain if the rest of it is
abbrev pub invariant-loop-param : goal.invariant-loop-param
invariant-loop-param l = has_odd Styles (drop l.param-index l.params) ≡ false → has_odd Styles l.params ≡ false
