use Rattle.csicodec_listing.proofs.{Common.◌++◌, Common.ℕ, Common.List, Common.ap, Common.◌∙◌, Common.◌≡◌, Common.Some, Common.value, Common.tokens}
use Rattle.csicodec_listing.proofs.{Common.read, Member.line_is, Member.whole_read}
use Rattle.csicodec_listing.proofs.glance.Glance.append_whole.Goals as goal

pub returns-clause-bytes : goal.returns-clause-bytes
returns-clause-bytes c = λ told.
    let (d, found, is) = c.in-Some.ensures in
    let text = c.in-Ok.line.now in
    let whole : read text ≡ Some d = whole_read (value 127 (tokens text)) d (rw c.in_ok-reader.ensures.ok at found) in (
      c.in-Some.text.now,
      line_is c.args.line.now text d c.in-Ok.ensures.cases.1 c.in-Ok.ensures.cases.0 whole ∙ is,
      c.in_ok-extend_from_slice.ensures.items ∙ ap (λ (s : List ℕ). c.args.out.now.items ++ s) c.as_bytes.ensures.value,
    )
