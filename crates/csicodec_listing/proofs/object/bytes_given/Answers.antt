use Rattle.csicodec_listing.proofs.Common.{◌≡◌, Err, inr, of_line, rules, subst}
use Rattle.csicodec_listing.specs.declared.object.Fault.TheVariants.{NoSequence}
use Rattle.hex.specs.Hex.{IsBytes}
use Rattle.csicodec_listing.proofs.object.bytes_given.Goals as goal

pub returns-in-Some-clause-bytes : goal.returns-in-Some-clause-bytes
returns-in-Some-clause-bytes g c =
    let none : of_line c.args.line.now ≡ Err NoSequence = search rules in
    inr (c.if-line-le-MOST.true, none, subst IsBytes c.deref.ensures.value c.are_bytes.ensures)
