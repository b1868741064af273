use Rattle.std.proofs.Common.{◌++◌, ◌∙◌, ap, sym, append_assoc, true}
use Rattle.csicodec_lines.specs.Cuts.{behind as cut_behind, behind_byte, line_of}
use Rattle.csicodec_lines.proofs.{Places.one_told, Common.cuts, Common.each_of, Common.told}
use Rattle.csicodec_lines.proofs.search.CutSearch.take_near.Goals as goal

pub loop-byte-preserved-in_ok-append_line : goal.loop-byte-preserved-in_ok-append_line
loop-byte-preserved-in_ok-append_line c =
    let (more, out, finds) = c.loop-byte.invariant in
    let byte = c.in-Some.byte.now in
    let rest = c.in-Some.behind.now in
    let whole = c.in-Some.ensures.cases.0 in
    let line = line_of c.take_byte.new.self.at in (
      more ++ line,
      c.in_ok-append_line.ensures ∙ ap (λ t. t ++ line) out ∙ append_assoc c.args.out.now.items more line,
      λ s is.
          let (now, held, behind, text) = finds s is in
          let (new, cut) = c.take_byte.ensures now held in
          let is_one = sym cut ∙ c.if-take_byte.true in (
            behind_byte now (true, byte),
            new,
            sym (ap (λ t. cut_behind now (each_of true t)) whole) ∙ behind,
            append_assoc more line (told (cuts (behind_byte now (true, byte)) (each_of true rest)))
                ∙ ap (λ t. more ++ t) (one_told now byte rest line is_one (ap line_of new.at))
                ∙ ap (λ t. more ++ told (cuts now (each_of true t))) (sym whole) ∙ text,
          ),
    )
