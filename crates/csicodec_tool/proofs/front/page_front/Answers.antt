use Rattle.csicodec_tool.proofs.Common.{append_assoc}
use Rattle.csicodec_tool.proofs.front.page_front.Goals as goal

pub returns : goal.returns
returns c = (
  c.in_ok-title.title.items,
  c.in_ok-title.ensures,
  rw (
    c.in_ok-extend_from_slice-3.ensures.items,
    c.as_bytes-2.ensures.value,
    c.in_ok-append_style.ensures,
    c.in_ok-extend_from_slice-2.ensures.items,
    c.deref.ensures.value,
    c.in_ok-extend_from_slice.ensures.items,
    c.as_bytes.ensures.value,
    c.new-out.ensures.items,
  ) (simp append_assoc),
)
