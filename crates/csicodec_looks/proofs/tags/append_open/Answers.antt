use Rattle.std.proofs.Common.{◌≡◌, ◌∙◌, append_assoc, sym, true}
use Rattle.csicodec_looks.proofs.{Common.leads, Marks.opened}
use Rattle.csicodec_looks.proofs.tags.append_open.Goals as goal

pub returns : goal.returns
returns c =
    let somewhere : leads c.args.to.now ≡ true = sym c.leads.ensures ∙ c.if-not-leads.false in
    rw (c.in_ok-extend_from_slice-2.ensures.items, c.in_ok-append_page.ensures, c.in_ok-extend_from_slice.ensures.items, opened c.args.to.now somewhere) (simp append_assoc)
