use Rattle.std.proofs.Common.{◌≡◌, ◌++◌, map, ap, refl, sym, ◌∙◌, append_assoc, take-append-drop}
use Rattle.csicodec_compact.proofs.{JoinedLists.encodes-append, Common.map-append, Common.action_of}
use Rattle.csicodec_compact.proofs.encode.encode_compact.Goals as goal

pub loop-rest-preserved : goal.loop-rest-preserved
loop-rest-preserved c =
    let (before, whole, done) = c.loop-rest.invariant in
    let (text, more, out) = c.in_ok-append.ensures in
    let run = c.split_at.result.0.now in
    let others = c.split_at.result.1.now in
    let parts : c.loop-rest.rest.now ≡ run ++ others = sym (take-append-drop c.run_len.result c.loop-rest.rest.now) ∙ rw (c.split_at.ensures.front, c.split_at.ensures.back) refl in (
      before ++ run,
      whole ∙ ap (λ l. before ++ l) parts ∙ sym (append_assoc before run others),
      rw (map-append action_of before run, out) (encodes-append (map action_of before) (map action_of run) c.loop-rest.all.items text done more),
    )
