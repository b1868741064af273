use Rattle.std.proofs.{Common.◌≡◌, Common.true, Common.◌++◌, Common.◌∙◌, Common.length, Common.ap, Common.sym, Common.subst, Common.arith}
use Rattle.std.proofs.{Common.take-append-drop, lemmas.Result.on_ok_weaker}
use Rattle.csicodec_lines.proofs.{Places.skip, Places.skipped, Common.told, Common.IsAt, Common.passed}
use Rattle.csicodec_lines.proofs.search.CutSearch.take_text.Goals as goal

pub returns : goal.returns
returns c =
    let front = c.split_at.result.0.now in
    let rest = c.split_at.result.1.now in
    let text = c.args.text.now in
    let whole : text ≡ front ++ rest = rw (c.split_at.ensures.front, c.split_at.ensures.back) (sym
    (take-append-drop c.min-len.result text)) in
    on_ok_weaker c.take_near.result
    (λ (more, finds, out). (
      more,
      (λ s is.
          let both = skip s text front rest whole (skipped s true front (λ _. omega
          (arith, is.near, c.saturating_sub.ensures, c.min-len.ensures, c.split_at.ensures.front_len))) in
          let (at, e) = finds (passed (length front) s) (c.pass.ensures s is) in
          (subst (IsAt c.take_near.new.self) both.0 at, e ∙ ap told both.1)),
      out,
    ))
    c.take_near.ensures
