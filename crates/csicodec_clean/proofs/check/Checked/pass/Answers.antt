use Rattle.std.proofs.Common.{◌≡◌, ◌-◌, length, subst, sym, ap, arith, rules}
use Rattle.csicodec_clean.proofs.{Common.IsOutside, Common.IsBehind, Told.kept_rest, Told.passed}
use Rattle.csicodec_clean.proofs.check.Checked.pass.Goals as goal

pub returns : goal.returns
returns g c =
    let class = g.C.CharClass.class in
    let held = c.args.self.now.rest.items in
    let rest = c.behind_text-behind.result.now in
    let len = c.len.result - length rest in
    let behind = subst (λ t. IsBehind class t rest) c.deref.ensures.value c.behind_text-behind.ensures.behind in
    let long : len ≡ length held - length rest = omega (arith, ap length c.deref.ensures.value, c.deref.ensures.len, c.len.ensures) in
    record {
      stands = λ bytes s.
          passed class bytes held rest c.keep_from.new.bytes.items _ _ len c.line_ends-ends.result _ _ s behind long c.keep_from.ensures (search rules) c.saturating_add-self.ensures c.saturating_add-self-2.ensures;
      outside = subst (IsOutside class) (sym (kept_rest class held rest c.keep_from.new.bytes.items len behind long c.keep_from.ensures)) c.behind_text-behind.ensures.outside;
    }
