use Rattle.csicodec_looks.proofs.Common.{◌≡◌, put_many}
use Rattle.csicodec_looks.proofs.cells.Side.push_glyphs.Given as goal

-- so many have come
abbrev pub invariant-loop-i : goal.invariant-loop-i
invariant-loop-i l = record { come : l.self ≡ put_many l.glyph l.columns l._i l.initial.self }
