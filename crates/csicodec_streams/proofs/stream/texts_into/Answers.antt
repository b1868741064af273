use Rattle.std.proofs.Common.{ℕ, false, [], ◌++◌, List, length, refl, sym, ap, subst, ◌∙◌, append_assoc, append-nil, arith}
use Rattle.csicodec_actions.specs.Table.{texts}
use Rattle.csicodec_streams.specs.Private.Steps.{DecodesFront}
use Rattle.csicodec_streams.proofs.OneReading.{read_known, read_one, slice_from, split_known, texts_behind, texts_longer, texts_more, begins, errs, split_more, split_none}
use Rattle.csicodec_streams.proofs.stream.texts_into.Goals as goal

pub loop-alloc-init : goal.loop-alloc-init
loop-alloc-init c = ([], split_none c.args.bytes.now false, λ before h. h ∙ ap texts (sym (append-nil before)), c.requires.known)

pub loop-alloc-preserved-then-known-gt0 : goal.loop-alloc-preserved-then-known-gt0
loop-alloc-preserved-then-known-gt0 c =
    let (told, split, held, known) = c.loop-alloc.invariant in
    let (text, normal, out) = c.take_known-known.ensures.noted c.if-known-gt0.true in
    let (ys, decodes, is) = normal.0 in
    let bytes = c.args.bytes.now in
    let rest = c.loop-alloc.rest.now in
    let len = c.take_known-known.result in (
      told ++ ys,
      subst (λ (l : List ℕ). DecodesFront bytes false l (told ++ ys)) (sym (slice_from len rest)) (split_known bytes rest len told ys split decodes),
      λ before h. texts_more before told ys _ _ text (held before h) out is,
      c.take_known-known.ensures.known,
    )

pub returns-in_err-list_into-in-Ok-clause-err : goal.returns-in_err-list_into-in-Ok-clause-err
returns-in_err-list_into-in-Ok-clause-err c =
    let (told, split, held, known) = c.loop-alloc.invariant in
    let tail = c.in-Ok.tail in
    errs c.from_residual.result (begins c.args.bytes.now c.loop-alloc.rest.now false told split _ tail.control tail.rest.now c.in-Ok.ensures.found)

pub split_at-requires : goal.split_at-requires
split_at-requires c =
    let (told, split, held, known) = c.loop-alloc.invariant in
    let same = c.take_known-known.ensures.none (omega (arith, c.if-known-gt0.false)) in
    let (before, h) = c.requires.texts in
    let xs = before ++ told in
    let (ys, are, put) = c.in_ok-list_into-in-Ok.ensures.taken in
    let mid = same ∙ held before h in
    texts_longer xs ys c.as_slice-before.result.now c.as_slice.result.now (c.as_slice-before.ensures ∙ mid) (c.as_slice.ensures ∙ put xs mid)

pub keep-requires-clause-noted : goal.keep-requires-clause-noted
keep-requires-clause-noted c =
    let (told, split, held, known) = c.loop-alloc.invariant in
    let same = c.take_known-known.ensures.none (omega (arith, c.if-known-gt0.false)) in
    let (before, h) = c.requires.texts in
    let tail = c.in-Ok.tail in
    let xs = before ++ told in
    let (ys, are, put) = rw (c.new-tokens.ensures, c.deref.ensures.value) at c.in_ok-list_into-in-Ok.ensures.taken in
    let mid = same ∙ held before h in
    let old = c.as_slice-before.result.now in
    let new = c.as_slice.result.now in (
      (
        ys,
        read_known c.loop-alloc.rest.now tail.rest.now _ tail.control ys _ c.in-Ok.ensures.found are refl,
        c.split_at.ensures.back ∙ texts_behind xs ys old new (length old) (c.as_slice-before.ensures ∙ mid) (c.as_slice.ensures ∙ put xs mid) refl,
      ),
      read_one c.loop-alloc.rest.now tail.rest.now _ tail.control _ c.in-Ok.ensures.found refl,
    )

pub loop-alloc-preserved : goal.loop-alloc-preserved
loop-alloc-preserved c =
    let (told, split, held, known) = c.loop-alloc.invariant in
    let same = c.take_known-known.ensures.none (omega (arith, c.if-known-gt0.false)) in
    let tail = c.in-Ok.tail in
    let bytes = c.args.bytes.now in
    let rest = c.loop-alloc.rest.now in
    let (ys, are, put) = rw (c.new-tokens.ensures, c.deref.ensures.value) at c.in_ok-list_into-in-Ok.ensures.taken in (
      told ++ ys,
      split_more bytes rest tail.rest.now false told ys _ tail.control split c.in-Ok.ensures.found are,
      λ before h. rw (← append_assoc) (put (before ++ told) (same ∙ held before h)),
      c.keep.ensures,
    )

pub returns-in-Err-clause-front : goal.returns-in-Err-clause-front
returns-in-Err-clause-front c =
    let (told, split, held, known) = c.loop-alloc.invariant in
    let same = c.take_known-known.ensures.none (omega (arith, c.if-known-gt0.false)) in (
      told,
      split,
      λ before h. same ∙ held before h,
    )
