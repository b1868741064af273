use Rattle.std.proofs.Common.{refl, arith}
use Rattle.csicodec_streams.proofs.Colors.{part_one, part_three, part_two}
use Rattle.csicodec_streams.proofs.color.part_front.Goals as goal

pub returns-in_default : goal.returns-in_default
returns-in_default c = part_one _ _ _ c.in_ok-first.ensures.0 c.in_ok-first.ensures.1

pub returns-in_default-digit_front : goal.returns-in_default-digit_front
returns-in_default-digit_front c = part_two _ _ _ _ _ _ (omega (arith, c.if-first-eq0.false)) c.in_ok-first.ensures.0 c.in-Some.ensures.0
    c.in_ok-first.ensures.1 c.in-Some.ensures.1 refl

pub returns : goal.returns
returns c =
    part_three _ _ _ _ _ _ _ _ (omega (arith, c.if-first-eq0.false)) c.in_ok-first.ensures.0 c.in-Some.ensures.0
    c.in-Some-digit_front.ensures.0 c.in_ok-first.ensures.1 c.in-Some.ensures.1 c.in-Some-digit_front.ensures.1
    (omega (arith, c.from.ensures, c.from-2.ensures, c.from-3.ensures)) (omega (arith, c.if-number-gt255.false))
