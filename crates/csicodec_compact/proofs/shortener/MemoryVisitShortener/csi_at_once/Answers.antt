use Rattle.std.proofs.Common.{◌++◌, ◌∙◌, ap, sym, take, arith}
use Rattle.csicodec_compact.proofs.Beside.{csi_writes}
use Rattle.csicodec_compact.proofs.shortener.MemoryVisitShortener.csi_at_once.Goals as goal

pub take-requires-clause-wide : goal.take-requires-clause-wide
take-requires-clause-wide c = record { more = c.wide.ensures.0; whole = c.wide.ensures.1 ∙ ap (λ l. l ++ c.wide.ensures.0) (sym c.noted.ensures) }

pub returns-clause-known : goal.returns-clause-known
returns-clause-known c = λ some.
    let len = c.look-len.result in
    let bytes = c.args.bytes.now in
    let note = c.look-len.ensures.noted some in (
      note.4,
      csi_writes c.args.visitor.now (record c.args.visitor.now { written = c.take.new.self }) (take len bytes) c.args.out.now c.take.new.out
          (c.in_ok-take.ensures (take len bytes) (rw (← c.noted.ensures) at note)),
    )
