use Rattle.csicodec_parser.proofs.Cuts.{taken_all, none_taken, actions_odd, actions_begin, actions_front, actions_stuck}
use Rattle.csicodec_parser.proofs.Common.{◌≡◌, ◌<◌, [], ◌∷◌, ◌++◌, ◌∙◌, sym, ap, refl, true, false, length, drop, arith, append_assoc, subst, length-drop, drop-drop, on_ok_weaker, slice_get, has_odd, start}
use Rattle.csicodec_parser.proofs.{Fronts.front_fits, Blocks.block_within, Blocks.semicolon_from}
use Rattle.std.proofs.lemmas.Bool.Decides.{nat_tests}
use Rattle.csicodec_parser.proofs.list.pieces_into.Goals as goal

pub returns-then-has_odd-clause-taken : goal.returns-then-has_odd-clause-taken
returns-then-has_odd-clause-taken g c =
    let tokens = g.L.Look.tokens c.args.look.now in
    let odd : has_odd c.args.group tokens ≡ true = sym c.has_odd.ensures.odd ∙ c.if-has_odd.true in
    rw (← actions_odd c.args.group tokens c.args.end.truncated c.args.end.control c.requires.group c.requires.cut odd)
    (rw (c.has_odd.ensures.passes, c.has_odd.ensures.list) at c.unread_into.ensures.taken)

pub cut-init : goal.cut-init
cut-init g c =
    let tokens = g.L.Look.tokens c.args.look.now in
    let plain : has_odd c.args.group tokens ≡ false = sym c.has_odd.ensures.odd ∙ c.if-has_odd.false in
    let list = c.pass.ensures.list ∙ c.has_odd.ensures.list in
    let at : g.L.Look.passed c.pass.new.self ≡ start c.args.group = omega (arith, c.pass.ensures.passes, c.has_odd.ensures.passes, c.start.ensures) in
    let unread : 0 < c.len.result = grind (arith, nat_tests) in
    let same = ap length list in
    let some : 0 < length (drop (g.L.Look.passed c.pass.new.self) tokens) = omega (arith, unread, same, c.len.ensures, length-drop (g.L.Look.passed c.pass.new.self) tokens) in
    record {
      list = list;
      within = omega (arith, same, c.len.ensures);
      counted = omega arith;
      costs = omega arith;
      taken = (
        [],
        actions_begin c.args.group tokens (drop (g.L.Look.passed c.pass.new.self) tokens)
            c.args.end.truncated c.args.end.control c.requires.group c.requires.cut plain
            (ap (λ n. drop n tokens) at) some,
        none_taken g.S.Sink.holds c.args.sink.now,
      );
    }

pub returns-in_default-2-clause-taken : goal.returns-in_default-2-clause-taken
returns-in_default-2-clause-taken g c =
    let i = c.cut.invariant in
    let (told, parts, held) = i.taken in
    let tokens = g.L.Look.tokens c.args.look.now in
    let passed = g.L.Look.passed c.cut.look in
    let none = c.in_ok-len.ensures.none c.in_default-2.is in
    let unread : 0 < c.len-in-cut.result = grind (arith, nat_tests) in
    let some : 0 < length (drop passed tokens) = omega (arith, unread, ap length i.list, c.len-in-cut.ensures, length-drop passed tokens) in
    let all = actions_stuck c.args.group c.args.end.truncated c.args.end.control (drop passed tokens) told _ c.requires.cut (rw i.list at none.0) some parts in
    on_ok_weaker c.unread_into-in_default-2.result
    (λ put before h. subst (g.S.Sink.holds c.unread_into-in_default-2.new.sink) (taken_all before told _ _ all) (put (before ++ told) (rw none.1 (held before h))))
    (rw (c.piece_into.ensures.passes, c.piece_into.ensures.list, i.list) at c.unread_into-in_default-2.ensures.taken)

pub pass_piece-requires-clause-there : goal.pass_piece-requires-clause-there
pass_piece-requires-clause-there g c =
    let (action, at, put) = rw c.in-Some.is at c.in_ok-len.ensures.some in
    rw (c.piece_into.ensures.list, c.piece_into.ensures.passes) (block_within c.args.group (g.L.Look.tokens c.cut.look) (g.L.Look.passed c.cut.look) c.in-Some.len _ action at refl)

pub cut-preserved : goal.cut-preserved
cut-preserved g c =
    let i = c.cut.invariant in
    let (told, parts, held) = i.taken in
    let tokens = g.L.Look.tokens c.args.look.now in
    let passed = g.L.Look.passed c.cut.look in
    let (action, at, put) = rw (c.in-Some.is, i.list) at c.in_ok-len.ensures.some in
    let list = c.pass_piece.ensures.list ∙ c.piece_into.ensures.list ∙ i.list in
    let more = rw (c.piece_into.ensures.list, c.piece_into.ensures.passes, i.list) at c.pass_piece.ensures.passes in
    let fits = front_fits c.args.group (drop passed tokens) action c.in-Some.len at in
    let from = semicolon_from c.in-Some.len (slice_get (drop passed tokens) c.in-Some.len) in
    let within = block_within c.args.group tokens passed c.in-Some.len _ action at refl in
    record {
      list = list;
      within = omega (arith, more, within);
      counted = omega (arith, c.pass_piece.ensures.costs, more);
      costs = omega (arith, c.pass_piece.ensures.costs, c.piece_into.ensures.costs, more, fits.some, from);
      taken = (
        told ++ action ∷ [],
        actions_front c.args.group c.args.end.truncated c.args.end.control (drop passed tokens) (drop (g.L.Look.passed c.pass_piece.new.look) tokens) told _ action c.in-Some.len at fits.some
            (ap (λ n. drop n tokens) more ∙ sym (drop-drop _ passed tokens)) parts,
        λ before h. rw (← append_assoc) (put (before ++ told) (held before h)),
      );
    }
