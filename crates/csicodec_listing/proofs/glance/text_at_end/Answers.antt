use Rattle.csicodec_listing.proofs.{Common.◌≡◌, Common.[], Common.arith, Place.text_last}
use Rattle.csicodec_listing.proofs.glance.text_at_end.Goals as goal

pub returns : goal.returns
returns c =
    let none : c.text_member.new.reader ≡ [] = grind arith in
    text_last c.in-Ok.text c.args.reader.now c.text_member.new.reader none c.in-Ok.ensures
