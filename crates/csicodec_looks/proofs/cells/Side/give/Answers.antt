use Rattle.csicodec_looks.proofs.Common.{◌≡◌, ◌++◌, ◌+◌, ◌-◌, ◌∙◌, List, ap, arith, drop, length, [], reverse, take, length-reverse, Cell, columns, onto}
use Rattle.csicodec_looks.proofs.Moved.{columns_onto, columns_parts, far_is, given_are}
use Rattle.csicodec_looks.proofs.cells.Side.give.Goals as goal

pub overflow_sub-kept : goal.overflow_sub-kept
overflow_sub-kept c = omega (arith, c.requires.few, ap length c.self.view_is, length-reverse c.self.inside.cells.items)

pub overflow_sub-self : goal.overflow_sub-self
overflow_sub-self c = omega (arith, c.self.invariant, ap columns c.self.view_is, c.requires.wide, columns_parts c.args.count c.args.self.now)

pub invariant_of-self : goal.invariant_of-self
invariant_of-self c =
    let n = c.args.count in
    let k : c.len.result - n ≡ length c.self.inside.cells.items - n = omega arith in
    let left = ap reverse c.truncate.ensures.items
    ∙ far_is c.self.inside.cells.items c.args.self.now [] [] n (c.len.result - n) c.self.view_is c.requires.few k in
    omega (arith, ap columns c.self.view_is, columns_parts n c.args.self.now, ap columns left)

pub invariant_of-to-2 : goal.invariant_of-to-2
invariant_of-to-2 c =
    let n = c.args.count in
    let to = c.to.inside.cells.items in
    let k : c.len.result - n ≡ length c.self.inside.cells.items - n = omega arith in
    let wide : c.in-Some.width ≡ c.to.inside.width + c.args.wide = grind arith in
    let items = ap reverse (c.split_at.ensures.back ∙ ap (drop (c.len.result - n)) c.deref.ensures.value) in
    let more = given_are c.self.inside.cells.items c.args.self.now to c.append_back.new.cells.items n (c.len.result - n) c.self.view_is c.requires.few
    k
    (c.append_back.ensures ∙ ap (λ (t : List Cell). t ++ reverse c.split_at.result.1.now) c.in_ok-reserve.ensures.items ∙ ap (λ (t : List Cell). to ++ t) items) in
    omega (arith, wide, c.to.invariant, c.requires.wide, ap columns more, columns_onto (take n c.args.self.now) (reverse to))

pub returns : goal.returns
returns c =
    let n = c.args.count in
    let to = c.to.inside.cells.items in
    let near = c.split_at.result.1.now in
    let items = ap reverse (c.split_at.ensures.back ∙ ap (drop (c.len.result - n)) c.deref.ensures.value) in
    let k : c.len.result - n ≡ length c.self.inside.cells.items - n = omega arith in
    record {
      kept = ap reverse c.truncate.ensures.items ∙ far_is c.self.inside.cells.items c.args.self.now [] [] n (c.len.result - n) c.self.view_is c.requires.few k;
      given = given_are c.self.inside.cells.items c.args.self.now to c.append_back.new.cells.items n (c.len.result - n) c.self.view_is c.requires.few k
          (c.append_back.ensures ∙ ap (λ (t : List Cell). t ++ reverse near) c.in_ok-reserve.ensures.items ∙ ap (λ (t : List Cell). to ++ t) items)
          ∙ ap (onto (take n c.args.self.now)) c.to.view_is;
    }
