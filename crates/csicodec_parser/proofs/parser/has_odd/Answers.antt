use Rattle.std.proofs.{Common.◌||◌, lemmas.List.drop_more, lemmas.Option.slice_get-get_or}
use Rattle.csicodec_parser.specs.Private.Steps.{is_odd_at}
use Rattle.csicodec_parser.proofs.Common.{List, Option, ap, arith, drop, length, sym, ℕ, ◌+◌, ◌<◌, ◌∙◌, ◌≡◌, slice_get, CsiParam, P, Group, has_odd}
use Rattle.csicodec_parser.proofs.Blocks.{private_plain}
use Rattle.csicodec_parser.proofs.parser.has_odd.Goals as goal

-- what is left of a list has an odd byte where its first token is one or the rest has one, in a list of which none is passed
odd_step : (g : Group) (xs ts : List CsiParam) (p i : ℕ) (o : Option CsiParam) → p ≡ 0 → ts ≡ xs → o ≡ slice_get (drop p ts) i → i < length xs
    → has_odd g (drop i xs) ≡ is_odd_at g o || has_odd g (drop (i + 1) xs)
odd_step g xs ts p i o s e t h =
    let first : has_odd g (drop i xs) ≡ is_odd_at g (slice_get xs i) || has_odd g (drop (i + 1) xs) =
    ap (has_odd g) (drop_more xs i (P 0) h) ∙ ap (λ o. is_odd_at g o || has_odd g (drop (i + 1) xs)) (sym (slice_get-get_or xs i (P 0) h)) in
    rw (t, e, s) first

pub returns-in-DecModes-clause-odd : goal.returns-in-DecModes-clause-odd
returns-in-DecModes-clause-odd g c = rw c.in-DecModes.is (sym (private_plain c.in-DecModes.field-0 (g.L.Look.tokens c.args.look.now)))

pub returns-then-is_odd-clause-odd : goal.returns-then-is_odd-clause-odd
returns-then-is_odd-clause-odd g c =
    let i = c.loop-i.invariant in
    let step = odd_step c.args.group (g.L.Look.tokens c.args.look.now) _ _ c.loop-i.i _ i.passes i.list c.get.ensures.token (omega arith) in
    sym (rw (sym c.is_odd.ensures ∙ c.if-is_odd.true) at step) ∙ i.none_yet

pub loop-i-preserved : goal.loop-i-preserved
loop-i-preserved g c =
    let i = c.loop-i.invariant in
    let step = odd_step c.args.group (g.L.Look.tokens c.args.look.now) _ _ c.loop-i.i _ i.passes i.list c.get.ensures.token (omega arith) in
    record {
      list = c.get.ensures.list ∙ i.list;
      passes = c.get.ensures.passes ∙ i.passes;
      end = i.end;
      counted = omega arith;
      costs = omega arith;
      none_yet = sym (rw (sym c.is_odd.ensures ∙ c.if-is_odd.false) at step) ∙ i.none_yet;
    }
