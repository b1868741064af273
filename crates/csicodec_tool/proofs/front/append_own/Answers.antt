use Rattle.csicodec_tool.proofs.Common.{append-nil, append_assoc}
use Rattle.csicodec_tool.proofs.front.append_own.Goals as goal

pub returns-then-page : goal.returns-then-page
returns-then-page c =
    rw (
      c.if-page.true,
      c.in_ok-extend_from_slice-2.ensures.items,
      c.as_bytes-then-page.ensures.value,
      c.in_ok-append_sheet.ensures,
      c.in_ok-extend_from_slice.ensures.items,
      c.as_bytes.ensures.value,
    ) (simp append_assoc)

pub returns : goal.returns
returns c =
    rw (c.if-page.false, c.in_ok-append_sheet.ensures, c.in_ok-extend_from_slice.ensures.items, c.as_bytes.ensures.value)
    (simp (append_assoc, append-nil))
