use Rattle.std.proofs.Common.{◌≡◌, ◌≤◌, ◌+◌, ◌++◌, ℕ, List, drop, get_or, take, ap, ◌∙◌, append_assoc, arith}
use Rattle.csicodec_compact.proofs.{Beside.extends_joined, Beside.extends_one, Common.closing, Common.form_of, Common.opened}
use Rattle.csicodec_compact.proofs.runs.Written.take.Goals as goal

pub returns-then-may_join : goal.returns-then-may_join
returns-then-may_join c = λ bytes n.
    let (mark, count, text, is, one, noted, few) = n in
    let back : c.split_at.result.1.now ≡ text = c.split_at.ensures.back ∙ ap (λ (l : List ℕ). drop 2 l) is in
    let form : c.of-form.result ≡ form_of mark = c.of-form.ensures ∙ ap (λ (l : List ℕ). form_of (get_or l 0 0)) (c.split_at.ensures.front ∙ ap (λ (l : List ℕ). take 2 l) is) in
    let many : c.from-numbers.result ≡ count = c.from-numbers.ensures ∙ ap (λ (l : List ℕ). get_or l 1 0) (c.split_at.ensures.front ∙ ap (λ (l : List ℕ). take 2 l) is) in
    let leaves : c.join.new.self.room + count ≤ c.args.self.now.room = omega (arith, c.join.ensures.room, many, c.if-numbers-self.true) in
    let may = c.may_join.ensures c.if-may_join.true in (
      _,
      c.in_ok-join.ensures.text,
      rw (c.in_ok-join.ensures.form, form, back)
          (extends_joined c.args.self.now.form (form_of mark) c.args.self.now.room c.join.new.self.room count bytes text one noted (rw (form, back) at may) few leaves),
    )

pub returns : goal.returns
returns c = λ bytes n.
    let (mark, count, text, is, one, noted, few) = n in
    let back : c.split_at.result.1.now ≡ text = c.split_at.ensures.back ∙ ap (λ (l : List ℕ). drop 2 l) is in
    let form : c.of-form.result ≡ form_of mark = c.of-form.ensures ∙ ap (λ (l : List ℕ). form_of (get_or l 0 0)) (c.split_at.ensures.front ∙ ap (λ (l : List ℕ). take 2 l) is) in
    let many : c.from-numbers.result ≡ count = c.from-numbers.ensures ∙ ap (λ (l : List ℕ). get_or l 1 0) (c.split_at.ensures.front ∙ ap (λ (l : List ℕ). take 2 l) is) in
    let old = c.args.out.now in
    let st = c.args.self.now.form in (
      closing st ++ opened c.of-form.result c.split_at.result.1.now,
      c.in_ok-start.ensures.text ∙ append_assoc old (closing st) (opened c.of-form.result c.split_at.result.1.now),
      rw (c.in_ok-start.ensures.form, form, back) (extends_one st (form_of mark) c.args.self.now.room c.saturating_sub-self.result count bytes text one noted few (omega (arith, c.saturating_sub-self.ensures, many))),
    )
