use Rattle.csicodec_c.proofs.html.page_of.Goals as goal

pub returns : goal.returns
returns c = (c.in_ok-piece.piece.items, c.in_ok-piece.ensures.piece, c.in_ok-piece.ensures.safe, rw c.if-asked.false c.in_ok-page.ensures)
