use Rattle.std.proofs.Common.{◌≡◌, ◌++◌, ◌∙◌, true, ap, rules, arith}
use Rattle.csicodec_filter.proofs.Written.{csi_visits}
use Rattle.csicodec_filter.proofs.filter.MemoryVisit.csi_at_once.Goals as goal

pub returns-then-limit-ge-WIDE-clause-known : goal.returns-then-limit-ge-WIDE-clause-known
returns-then-limit-ge-WIDE-clause-known g c = λ some.
    let wanted : c.writes_normal_forms.result ≡ true = search rules in
    let (text, normal, out) = c.take_simple.ensures.normal some in
    let same = c.recall-len.ensures.none (omega (arith, c.if-len-eq0.true)) in (
      normal.1,
      csi_visits g.R.Rewrite.writes c.args.visitor.now c.args.visitor.now _ c.args.out.now text c.take_simple.new.out
          ((c.writes_normal_forms.ensures wanted _ text).0 normal.0) (λ b t h. h) (out ∙ ap (λ l. l ++ text) same),
    )

pub returns-clause-known : goal.returns-clause-known
returns-clause-known g c = λ some.
    let wanted : c.writes_normal_forms.result ≡ true = search rules in
    let (text, normal, out) = c.recall-len.ensures.noted some in (
      normal.1,
      csi_visits g.R.Rewrite.writes c.args.visitor.now c.args.visitor.now _ c.args.out.now text c.recall-len.new.out
          ((c.writes_normal_forms.ensures wanted _ text).0 normal.0) (λ b t h. h) out,
    )
