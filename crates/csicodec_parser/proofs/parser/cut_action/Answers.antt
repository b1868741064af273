use Rattle.csicodec_parser.proofs.{Blocks.cut_acts, Blocks.cut_leaves, Blocks.left_end, Blocks.left_odd, Blocks.left_reset, Common.◌<◌, Common.◌≤◌, Common.ap}
use Rattle.csicodec_parser.proofs.{Common.arith, Common.length}
use Rattle.csicodec_parser.proofs.parser.cut_action.Goals as goal

pub returns-then-begins_odd-clause-none : goal.returns-then-begins_odd-clause-none
returns-then-begins_odd-clause-none g c =
    let odd = c.begins_odd.ensures.odd c.if-begins_odd.true in
    let first = c.requires.fresh odd.0 in
    record {
      told = λ flag. left_odd c.args.stage c.args.group (g.L.Look.tokens c.args.look.now) flag c.args.control _ _ c.requires.cut c.requires.group odd.0 (omega (arith, odd.2, first)) odd.1;
      pays = omega (arith, odd.2, first);
    }

pub returns-in-Styles-clause-some : goal.returns-in-Styles-clause-some
returns-in-Styles-clause-some g c =
    let tokens = g.L.Look.tokens c.args.look.now in
    let o = c.begins_odd.ensures in
    let plain = o.plain c.if-begins_odd.false in
    let end : length tokens ≤ g.L.Look.passed c.begins_odd.new.look = omega (arith, c.len.ensures, ap length o.list) in
    record {
      told = λ flag. rw c.in-Styles.is (left_reset c.args.stage tokens flag c.args.control _ _ (rw c.in-Styles.is at c.requires.group) c.requires.can (rw c.in-Styles.is at plain.1) end);
      cut = λ w. absurd (omega (arith, w, end));
      forward = λ w. omega (arith, w, end);
      pays = omega (arith, o.forward);
    }

pub returns-in_default-clause-none : goal.returns-in_default-clause-none
returns-in_default-clause-none g c =
    let tokens = g.L.Look.tokens c.args.look.now in
    let o = c.begins_odd.ensures in
    let plain = o.plain c.if-begins_odd.false in
    let end : length tokens ≤ g.L.Look.passed c.begins_odd.new.look = omega (arith, c.len.ensures, ap length o.list) in
    record {
      told = λ flag. left_end c.args.stage c.args.group tokens flag c.args.control _ _ c.requires.cut c.in_default.not-Styles c.requires.group c.requires.can plain.0 plain.1 end;
      pays = omega (arith, o.forward, o.costs, c.len.ensures, ap length o.list, end);
    }

pub returns-clause-some : goal.returns-clause-some
returns-clause-some g c =
    let tokens = g.L.Look.tokens c.args.look.now in
    let o = c.begins_odd.ensures in
    let left : g.L.Look.passed c.begins_odd.new.look < length tokens = omega (arith, c.len.ensures, ap length o.list) in
    cut_acts c.args.stage c.cut_block.result c.args.group tokens c.args.control _ _ (g.L.Look.passed c.cut_block.new.look) _ _ _ c.requires.cut c.requires.group (o.plain c.if-begins_odd.false)
    o.forward left o.costs c.cut_block.ensures.costs (rw o.list at c.cut_block.ensures.some) c.cut_block.ensures.forward

pub returns-clause-none : goal.returns-clause-none
returns-clause-none g c =
    let tokens = g.L.Look.tokens c.args.look.now in
    let o = c.begins_odd.ensures in
    let left : g.L.Look.passed c.begins_odd.new.look < length tokens = omega (arith, c.len.ensures, ap length o.list) in
    cut_leaves c.args.stage c.cut_block.result c.args.group tokens c.args.control _ _ (g.L.Look.passed c.cut_block.new.look) _ _ _ c.requires.cut c.requires.group (o.plain c.if-begins_odd.false)
    o.forward left o.costs c.cut_block.ensures.costs (rw o.list at c.cut_block.ensures.none) c.cut_block.ensures.stays
