use Rattle.std.proofs.{Common.w64, Common.arith, lemmas.Int.to_z_pos}
use Rattle.csicodec_tokens.proofs.{Reading.first_cut, Reading.first_number, Reading.no_digit, Reading.too_large, reader.number_front.Goals.in_default}
use Rattle.csicodec_tokens.proofs.{reader.number_front.Goals.in_default-2, reader.number_front.Goals.in_default-3}
use Rattle.csicodec_tokens.proofs.reader.number_front.Goals as goal

pub returns-in_default-with_digit : goal.returns-in_default-with_digit
returns-in_default-with_digit c = too_large c.args.first c.args.text.now c.loop-rest.rest.now c.requires (record {
  number = c.loop-rest.number;
  run = c.loop-rest.invariant;
  digit = _;
  others = _;
  begins = first_cut c.loop-rest.rest.now c.in-48-to-57.len_at_least;
  next = (omega arith, omega arith);
  large = c.in_default-with_digit.ensures;
})

pub returns : goal.returns
returns c = rw (to_z_pos w64 c.loop-rest.number (omega (arith, c.loop-rest.invariant.fits)))
    (first_number c.args.first c.args.text.now c.loop-rest.number c.loop-rest.rest.now c.requires c.loop-rest.invariant (no_digit c.loop-rest.rest.now (λ some d. elim c.if-rest-lt1.branch [
      | in_default w ↦ omega (arith, some)
      | in_default-2 w ↦ omega (arith, d.0)
      | in_default-3 w ↦ omega (arith, d.1)
    ])))
