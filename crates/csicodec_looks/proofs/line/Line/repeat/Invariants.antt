use Rattle.csicodec_looks.proofs.Common.{◌≡◌, ◌++◌, ◌-◌, glyph, repeat, texts_of, most}
use Rattle.csicodec_looks.proofs.line.Line.repeat.Given as goal

-- it is put some times
abbrev pub invariant-loop-i : goal.invariant-loop-i
invariant-loop-i l = record {
  line : (repeat most l.pen.inserts (glyph l.char l.pen.look) (l.count - l._i) l.self).line
      ≡ (repeat most l.pen.inserts (glyph l.char l.pen.look) l.count l.initial.self).line;
  text : l.out.items ++ texts_of l.marking (repeat most l.pen.inserts (glyph l.char l.pen.look) (l.count - l._i) l.self).lines
      ≡ l.initial.out.items ++ texts_of l.marking (repeat most l.pen.inserts (glyph l.char l.pen.look) l.count l.initial.self).lines;
}
