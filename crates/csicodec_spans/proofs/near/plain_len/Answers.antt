use Rattle.std.proofs.Common.{inl, inr, refl, sym, arith}
use Rattle.csicodec_spans.specs.{declared.table.Ahead.TheVariants.GoesOn, declared.table.Ahead.TheVariants.Esc, declared.table.Kind.Kind}
use Rattle.csicodec_spans.proofs.OneSpan.{none_plain, plain_found, text_front}
use Rattle.csicodec_spans.proofs.near.plain_len.Goals as goal

pub returns-then-text-gt0-clause-plain : goal.returns-then-text-gt0-clause-plain
returns-then-text-gt0-clause-plain c = λ some. text_front c.args.bytes.now c.text_len-text.result c.text_len-text.ensures.stay c.text_len-text.ensures.within some

pub returns-in-GoesOn : goal.returns-in-GoesOn
returns-in-GoesOn c =
    let (some, within, plain) = plain_found c.args.bytes.now (GoesOn c.in-GoesOn.len) Kind.Text _ (sym c.in-GoesOn.ensures) (λ e. absurd cc) (inl refl) in
    record { within = within; plain = λ _. plain; none = λ zero. absurd (omega (arith, zero, some)) }

pub returns-in-Esc : goal.returns-in-Esc
returns-in-Esc c =
    let (some, within, plain) = plain_found c.args.bytes.now (Esc c.in-Esc.len) Kind.Esc _ (sym c.in-Esc.ensures) (λ e. absurd cc) (inr refl) in
    record { within = within; plain = λ _. plain; none = λ zero. absurd (omega (arith, zero, some)) }

pub returns-in-Ends-clause-none : goal.returns-in-Ends-clause-none
returns-in-Ends-clause-none c = λ zero plain. none_plain c.args.bytes.now c.look.result (sym c.look.ensures) c.in-Ends.is plain
