use Rattle.csicodec_spans.proofs.Driven.{left_is, left_within}
use Rattle.csicodec_spans.proofs.driver.append_sure.Goals as goal

pub overflow_sub-result : goal.overflow_sub-result
overflow_sub-result g c = left_within g.M.Visit.does _ _ _ _ c.in_ok-left.ensures.tells

pub returns-clause-unsure : goal.returns-clause-unsure
returns-clause-unsure g c = rw (left_is g.M.Visit.does _ _ _ _ c.in_ok-left.ensures.tells) c.in_ok-left.ensures.unsure

pub returns-clause-tells : goal.returns-clause-tells
returns-clause-tells g c =
    rw (left_is g.M.Visit.does _ _ _ _ c.in_ok-left.ensures.tells, c.into_vec.ensures)
    (rw (c.of-texts.ensures, c.replace.ensures.value) at c.in_ok-left.ensures.tells)
