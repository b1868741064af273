use Rattle.std.proofs.Common.{◌≡◌, ◌∙◌, append_assoc, sym, true}
use Rattle.csicodec_looks.specs.Look.{has_line, line_places, lines}
use Rattle.csicodec_looks.proofs.css.append_lines.Goals as goal

pub returns : goal.returns
unfolding lines line_places
returns c =
    let some : has_line c.args.look ≡ true = sym c.has_line.ensures ∙ c.if-not-has_line.false in
    rw (some, c.in_ok-push.ensures.items, c.in_ok-append_line_color.ensures, c.in_ok-append_line_kind.ensures, c.in_ok-append_if-3.ensures)
    (rw (c.in_ok-append_if-2.ensures, c.in_ok-append_if.ensures, c.is_none.ensures, c.in_ok-extend_from_slice.ensures.items) (simp append_assoc))
