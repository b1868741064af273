use Rattle.std.proofs.{Common.arith, lemmas.Fmt.length-decimal-le}
use Rattle.csicodec_lines.proofs.search.append_line.Goals as goal

pub write_digits-begin-requires : goal.write_digits-begin-requires
write_digits-begin-requires c = (
  length-decimal-le 20 c.args.place (omega arith) (omega (arith, c.ranges.place.fits)) (omega
      (arith, c.ranges.place.fits)),
  omega arith,
)
