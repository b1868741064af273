use Rattle.std.proofs.Common.{◌≡◌, ◌++◌, ap, sym, ◌∙◌}
use Rattle.csicodec_spans.specs.declared.table.Mode.TheVariants.{Text as Plain}
use Rattle.csicodec_compact.proofs.{Beside.compacts_all, JoinedLists.said}
use Rattle.csicodec_compact.proofs.stream.compact_bytes.Goals as goal

pub returns : goal.returns
returns c =
    let (text, passed, out) = rw c.new-compactor.ensures at (said c.push.result (sym c.is_err.ensures.value ∙ c.if-is_err.false) c.push.ensures.passes) in
    let rest = c.push.new.self.bytes in
    let ended = said c.finish.result (sym c.is_err-else-is_err.ensures.value ∙ c.if-is_err-2.false) c.finish.ensures in
    let whole : c.finish.new.out.items ≡ text ++ rest = ended ∙ ap (λ t. t ++ rest) (out ∙ ap (λ t. t ++ text) c.new-out.ensures.items) in
    rw whole (compacts_all c.args.limit Plain c.push.new.self.mode c.args.bytes.now text rest passed)
