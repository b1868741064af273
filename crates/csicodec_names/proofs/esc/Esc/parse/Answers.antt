use Rattle.std.proofs.Common.{arith}
use Rattle.csicodec_names.proofs.esc.Esc.parse.Goals as goal

pub returns-in-Some : goal.returns-in-Some
returns-in-Some c =
    record {
      code = λ known. grind arith;
      other = λ none. absurd (none c.in-Some.code (grind arith));
    }
