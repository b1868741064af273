use Rattle.std.proofs.Common.{◌≡◌, ◌∙◌, refl, sym}
use Rattle.csicodec_clean.proofs.{Common.bare_at, Chunks.over_drawn, Chunks.to_none, Chunks.to_on}
use Rattle.csicodec_clean.specs.Sets.{in_use}
use Rattle.csicodec_looks.specs.Sets.{char_in}
use Rattle.csicodec_clean.proofs.glance.append_drawn.Goals as goal

pub loop-byte-init : goal.loop-byte-init
loop-byte-init g c = λ rule limit. to_none g.T.Rule.gives limit (bare_at rule c.args.sets.now c.args.bytes.now) c.args.out.now.items

pub loop-byte-preserved : goal.loop-byte-preserved
loop-byte-preserved g c = λ rule limit.
    let gives = g.T.Rule.gives in
    let is : c.char.result ≡ char_in (in_use c.args.sets.now) c.in-Some.byte.now = c.char.ensures ∙ (rw (c.in_use.ensures, c.from.ensures) refl) in
    to_on gives limit _ _ _ _ _ _ (c.loop-byte.invariant rule limit)
    (over_drawn gives limit rule c.args.sets.now c.loop-byte.rest.now _ _ _ _ c.in-Some.ensures.cases.0 (sym c.is_drawn.ensures ∙ c.if-not-is_drawn.false) (rw is at c.in_ok-append_char.ensures))
