use Rattle.std.proofs.Common.{◌≡◌, ◌+◌, ◌++◌, ◌∷◌, ◌∙◌, ℕ, List, [], get_or, take, ap, sym, refl, rules, append-nil, append_assoc}
use Rattle.csicodec_clean.proofs.{Common.take_more, Chunks.given_more, Chunks.given_none}
use Rattle.csicodec_clean.proofs.spans.append_string.Goals as goal

pub returns-then-not-reads_strings : goal.returns-then-not-reads_strings
returns-then-not-reads_strings g c =
    ([], given_none g.T.Rule.gives c.args.bytes.now c.args.rule.now (c.reads_strings.ensures c.if-not-reads_strings.true), sym (append-nil c.args.out.now.items))

pub loop-byte-init : goal.loop-byte-init
loop-byte-init g c = ([], (refl, refl), sym (append-nil c.args.out.now.items))

pub loop-byte-preserved : goal.loop-byte-preserved
loop-byte-preserved g c =
    let i = c.loop-byte.byte-index in
    let bytes = c.args.bytes.now in
    let (text, given, out) = c.loop-byte.invariant in
    let (more, one, appended) = c.in_ok-take_byte.ensures in
    let taken : take (i + 1) bytes ≡ take i bytes ++ get_or bytes i 0 ∷ [] = search (rules, take_more) in
    rw taken (
      text ++ more,
      given_more g.T.Rule.gives (take i bytes) c.args.rule.now c.loop-byte.rule c.take_byte.new.self (get_or bytes i 0) text more given one,
      appended ∙ ap (λ (t : List ℕ). t ++ more) out ∙ append_assoc c.args.out.now.items text more,
    )
