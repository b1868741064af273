use Rattle.std.specs.Prelude.{map}
use Rattle.std.proofs.Common.{◌≡◌, take}
use Rattle.csicodec_structs.specs.{Room.laid, Private.Short.style_struct}
use Rattle.csicodec_structs.proofs.attributes.put_styles.Given as goal

-- the attributes up to here are put
abbrev pub invariant-loop-style : goal.invariant-loop-style
invariant-loop-style l = (l.actions ≡ laid l.fn.actions (map style_struct (take l.style-index l.styles))) × (l.place ≡ l.style-index)
