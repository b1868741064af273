use Rattle.csicodec_looks.proofs.Common.{false, ◌≡◌, ◌-◌, ◌∙◌, ap, rules, subst, OnOk, Line, columns, onto, forward, line, passed, most}
use Rattle.csicodec_looks.proofs.Moved.{from_there, given_all, passed_left}
use Rattle.csicodec_looks.proofs.line.Line.behind_columns.Goals as goal

pub returns : goal.returns
returns c =
    let old = c.args.self.now in
    let now = line c.pass.new.self c.pass.new.to in
    let gone = c.saturating_sub.result in
    let less : gone ≡ columns old.left - c.args.count = search rules in
    let more : c.saturating_sub-2.result ≡ c.args.count - columns old.left = search rules in
    let e = c.in_ok-pass.ensures in
    let same : onto now.left now.right ≡ onto old.left old.right = rw (e.kept, e.given) (given_all (passed false gone old.left) old.left old.right) in
    let left : columns now.left ≡ columns old.left - gone = rw e.kept (passed_left false gone old.left) in
    subst (λ (l : Line). OnOk c.forward.result (c.forward.new.self ≡ l))
    (ap (λ n. forward most n now) more ∙ from_there most c.args.count old now same (left ∙ ap (λ n. columns old.left - n) less))
    c.forward.ensures
