use Rattle.std.proofs.Common.{[], ◌∙◌, arith, refl, sym}
use Rattle.csicodec_streams.specs.Faithful.{IsFaithful}
use Rattle.csicodec_filter.proofs.faithful.FaithfulRewrite.rewrite.Goals.{then-self-via-then-self, then-self-via-else-self+then-form-gt-LIMIT}
use Rattle.csicodec_filter.proofs.Unknown.{appended, form_faithful, long_faithful, stays_faithful, unknown_faithful}
use Rattle.csicodec_filter.proofs.faithful.FaithfulRewrite.rewrite.Goals as goal

pub returns-then-is_kept-clause-text : goal.returns-then-is_kept-clause-text
returns-then-is_kept-clause-text c =
    let here = sym c.is_kept.ensures ∙ c.if-is_kept.true in
    appended c.extend_from_slice.result c.args.bytes.now c.args.bytes.now _ _ (stays_faithful c.args.bytes.now c.args.params.now c.args.control c.requires here)
    c.extend_from_slice.ensures.items

pub returns-then-self-clause-text : goal.returns-then-self-clause-text
returns-then-self-clause-text c =
    let (all, parsed, (made, told)) = c.in_ok-parse_into.ensures [] (c.clear.ensures, refl) in
    let faithful : IsFaithful c.args.bytes.now c.args.bytes.now = elim c.then-self.branch [
      | then-self-via-then-self w ↦ unknown_faithful c.args.bytes.now c.args.params.now c.args.control all c.requires parsed (sym told ∙ w.if-self.true)
      | then-self-via-else-self+then-form-gt-LIMIT w ↦
          long_faithful c.args.bytes.now c.as_slice-form.result.now c.args.params.now c.args.control all c.requires parsed (c.as_slice-form.ensures ∙ made) w.if-form-gt-LIMIT.true
    ] in
    appended c.extend_from_slice-then-self.result c.args.bytes.now c.args.bytes.now _ _ faithful c.extend_from_slice-then-self.ensures.items

pub returns-clause-text : goal.returns-clause-text
returns-clause-text c =
    let (all, parsed, (made, told)) = c.in_ok-parse_into.ensures [] (c.clear.ensures, refl) in
    let form = c.as_slice-form.result.now in
    let free = sym c.is_kept.ensures ∙ c.if-is_kept.false in
    let faithful = form_faithful c.args.bytes.now form c.args.params.now c.args.control all c.requires parsed (c.as_slice-form.ensures ∙ made)
    (omega (arith, c.if-form-gt-LIMIT.false)) free (sym told ∙ c.if-self.false) in
    appended c.extend_from_slice-2.result c.args.bytes.now form _ _ faithful c.extend_from_slice-2.ensures.items
