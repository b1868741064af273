use Rattle.csicodec_tool.proofs.{Common.Appends-nil, Common.[], Common.inl, Common.refl, Written.headed}
use Rattle.csicodec_tool.proofs.rewrite.Work.begin.Goals as goal

pub returns-in-Ok : goal.returns-in-Ok
returns-in-Ok g c =
    headed _ _ c.send.result _ _ c.in-Ok.text.items c.mark_begun.ensures (rw c.in-Ok.is at c.front_of-front.ensures)
    (rw c.deref.ensures.value at c.send.ensures.ok) (rw c.deref.ensures.value at c.send.ensures.front)

pub returns-in-Err : goal.returns-in-Err
returns-in-Err g c = (c.mark_begun.ensures, tt, ([], inl refl, Appends-nil _))
