use Rattle.std.specs.Prelude.{IsNone}
use Rattle.std.proofs.Common.{◌≡◌, Some, refl}
use Rattle.csicodec_parser.specs.declared.parser.ActionRef.TheVariants.{Small}
use Rattle.csicodec_structs.proofs.Running.{sole}
use Rattle.csicodec_structs.proofs.normalise.sole_action.Goals as goal

pub returns-in-None : goal.returns-in-None
returns-in-None c =
    let some = c.segmentation.ensures.some in
    let over : IsNone c.rest.result = rw c.in-None.is refl in
    let first : c.next_ref.result ≡ Some (Small c.in-Some-Small.action) = cc in
    sole c.args.list.now c.args.control _ _ _ c.in-Some-Small.action some.0 c.parse-run.ensures some.1 c.next_ref.ensures.next first (c.rest.ensures.ended.0 over)
