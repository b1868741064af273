use Rattle.csicodec_listing.proofs.Common.{◌≡◌, ◌==◌, ◌∙◌, ap, arith, false, length, sym, IfErr-weaker, on_ok_weaker}
use Rattle.csicodec_listing.proofs.Joined.{last_gives, last_refused}
use Rattle.csicodec_listing.proofs.lines.Assembler.end.Goals as goal

pub returns-clause-bytes : goal.returns-clause-bytes
returns-clause-bytes g c =
    let line = c.args.self.now.line in
    let same = line.ok.0 in
    let bound = c.args.self.now.bounded in
    let some : (length line.items == 0) ≡ false = ap (λ n. n == 0) (sym same) ∙ sym c.is_empty.ensures ∙ c.if-is_empty.false in
    on_ok_weaker c.end_line.result (λ (text, gives, e). (text, last_gives line.items text some (omega (arith, same, bound)) gives, e)) c.end_line.ensures.bytes

pub returns-clause-told : goal.returns-clause-told
returns-clause-told g c =
    let line = c.args.self.now.line in
    let same = line.ok.0 in
    let bound = c.args.self.now.bounded in
    let some : (length line.items == 0) ≡ false = ap (λ n. n == 0) (sym same) ∙ sym c.is_empty.ensures ∙ c.if-is_empty.false in
    IfErr-weaker c.end_line.result _ _ (λ e told. last_refused e line.items some (omega (arith, same, bound)) told) c.end_line.ensures.told
