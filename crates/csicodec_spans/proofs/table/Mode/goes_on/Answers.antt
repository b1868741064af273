use Rattle.std.proofs.Common.{refl, sym, subst}
use Rattle.csicodec_spans.specs.{Parts.IsMore, Table.ahead}
use Rattle.csicodec_spans.proofs.{Agrees.found, OneSpan.none_more, OneSpan.some_more}
use Rattle.csicodec_spans.proofs.table.Mode.goes_on.Goals as goal

pub returns-in-GoesOn : goal.returns-in-GoesOn
returns-in-GoesOn c =
    let more : IsMore (ahead c.args.self c.args.bytes.now) = some_more c.args.self c.args.bytes.now c.look.result (sym c.look.ensures) c.in-GoesOn.is in
    (λ t. more, λ m. refl)

pub returns-in-New : goal.returns-in-New
returns-in-New c = (λ t. cc, λ more. absurd (none_more c.args.self c.look.result c.in-New.is (subst IsMore (found c.args.self c.args.bytes.now c.look.result (sym c.look.ensures)) more)))
