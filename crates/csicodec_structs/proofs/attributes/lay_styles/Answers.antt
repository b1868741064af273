use Rattle.std.proofs.{Common.take, Common.sym, lemmas.List.length-take-le}
use Rattle.csicodec_structs.proofs.ShortLaid.{styles_laid}
use Rattle.csicodec_structs.proofs.attributes.lay_styles.Goals as goal

pub returns-clause-some : goal.returns-clause-some
returns-clause-some c =
    let found = c.in_ok-count in
    let room = c.styles_front.new.room in
    styles_laid c.args.body.now found.after.now c.args.actions.now c.put_styles.new.actions (take found.count room) found.count found.ensures.are
    (sym (length-take-le found.count room found.ensures.within)) c.put_styles.ensures
