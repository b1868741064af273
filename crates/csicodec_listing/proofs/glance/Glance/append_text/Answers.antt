use Rattle.csicodec_listing.proofs.Place.{stands_read}
use Rattle.csicodec_listing.proofs.glance.Glance.append_text.Goals as goal

pub hold-requires : goal.hold-requires
hold-requires c =
    stands_read c.in-Some.rest.now c.in-Ok.line.now c.in-Some-text_at_end.text.now c.as_bytes-bytes.result.now _
    c.in-Ok.ensures.cases.1 c.in_ok-reader.ensures.ok c.in-Ok.ensures.cases.0
    c.as_bytes-bytes.ensures.value c.in-Some-text_at_end.ensures

pub returns-clause-bytes : goal.returns-clause-bytes
returns-clause-bytes c = λ told. (
  c.as_bytes-bytes.result.now,
  stands_read c.in-Some.rest.now c.in-Ok.line.now c.in-Some-text_at_end.text.now c.as_bytes-bytes.result.now _
      c.in-Ok.ensures.cases.1 c.in_ok-reader.ensures.ok c.in-Ok.ensures.cases.0
      c.as_bytes-bytes.ensures.value c.in-Some-text_at_end.ensures c.args.line.now c.in-Some.ensures,
  c.in_ok-extend_from_slice-2.ensures.items,
)
