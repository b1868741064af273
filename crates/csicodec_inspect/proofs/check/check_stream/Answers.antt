use Rattle.csicodec_inspect.proofs.check.check_stream.Goals as goal

pub returns-then-visible-clause-fault : goal.returns-then-visible-clause-fault
returns-then-visible-clause-fault g c = rw c.if-visible.true c.check_class.ensures.fault

pub returns-else-visible-clause-fault : goal.returns-else-visible-clause-fault
returns-else-visible-clause-fault g c = rw c.if-visible.false c.check_class-else-visible.ensures.fault
