use Rattle.std.proofs.Common.{sym, ◌∙◌, arith}
use Rattle.csicodec_clean.proofs.Told.{char_within, char_text}
use Rattle.csicodec_clean.proofs.check.member_len.Goals as goal

pub returns-then-has : goal.returns-then-has
returns-then-has g c =
    let char = sym c.in-Some.is ∙ c.decode-found.ensures.char in
    let bounds = char_within c.args.bytes.now c.in-Some.char _ char c.decode-found.ensures.size in
    record {
      within = bounds.1;
      text = char_text g.C.CharClass.class c.args.bytes.now c.in-Some.char _ char c.decode-found.ensures.size (sym c.has.ensures ∙ c.if-has.true);
      none = λ none. absurd (omega (arith, bounds.0, none));
    }
