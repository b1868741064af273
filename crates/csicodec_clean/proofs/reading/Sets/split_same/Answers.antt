use Rattle.std.proofs.Common.{◌≡◌, rules}
use Rattle.csicodec_clean.proofs.Drawn.{split_ascii}
use Rattle.csicodec_clean.specs.Sets.{in_use}
use Rattle.csicodec_looks.specs.declared.sets.Set.TheVariants.{Ascii}
use Rattle.csicodec_clean.proofs.reading.Sets.split_same.Goals as goal

pub returns-then-eq : goal.returns-then-eq
returns-then-eq c =
    let is : in_use c.args.self.now ≡ Ascii = search rules in
    rw (c.split_front.ensures.front, c.split_front.ensures.rest) (split_ascii c.args.self.now c.args.bytes.now is)
