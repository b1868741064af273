use Rattle.csicodec_parser.proofs.Common.{drop, arith, sym, ap, ◌∙◌, length-drop, found, block_of, with_semicolon}
use Rattle.csicodec_parser.proofs.{Fronts.lent_front, Fronts.front_fits, Blocks.cut_some, Blocks.at_same, Blocks.semicolon_within}
use Rattle.csicodec_parser.proofs.parser.cut_block.Goals as goal

pub returns-in_default-clause-none : goal.returns-in_default-clause-none
returns-in_default-clause-none g c =
    let tokens = g.L.Look.tokens c.args.look.now in
    let passed = g.L.Look.passed c.args.look.now in
    let same = lent_front tokens c.lend.result.now passed c.len.result c.min-width.result c.len.ensures (omega arith) c.lend.ensures.lent in
    ap (block_of (drop passed tokens)) (sym (c.front.ensures.answer (drop passed tokens) same) ∙ ap found c.in_default.is)

pub pass_piece-requires-clause-there : goal.pass_piece-requires-clause-there
pass_piece-requires-clause-there g c =
    let tokens = g.L.Look.tokens c.args.look.now in
    let passed = g.L.Look.passed c.args.look.now in
    let same = lent_front tokens c.lend.result.now passed c.len.result c.min-width.result c.len.ensures (omega arith) c.lend.ensures.lent in
    let fits = front_fits c.args.group (drop passed tokens) _ c.in-Some.len (sym (c.front.ensures.answer (drop passed tokens) same) ∙ ap found c.in-Some.is) in
    let left = c.lend.follows.holds-at-none in
    let there = semicolon_within (drop passed tokens) c.in-Some.len fits.within in
    rw (left.list, left.passes) (omega (arith, there, length-drop passed tokens))

pub returns-clause-some : goal.returns-clause-some
returns-clause-some g c =
    let tokens = g.L.Look.tokens c.args.look.now in
    let passed = g.L.Look.passed c.args.look.now in
    let same = lent_front tokens c.lend.result.now passed c.len.result c.min-width.result c.len.ensures (omega arith) c.lend.ensures.lent in
    let left = c.lend.follows.holds-at-none in
    let next = at_same tokens _ passed _ c.in-Some.len left.list left.passes in
    cut_some c.args.group (drop passed tokens) _ c.in-Some.len _ passed (g.L.Look.passed c.pass_piece.new.look)
    (sym (c.front.ensures.answer (drop passed tokens) same) ∙ ap found c.in-Some.is) (ap (with_semicolon c.in-Some.len) next) (omega (arith, c.pass_piece.ensures.passes, left.passes))
