use Rattle.csicodec_tool.proofs.Written.{headed_alone, headed_failed, headed_well, headed_whole, nothing_written}
use Rattle.csicodec_tool.proofs.rewrite.Work.write.Goals as goal

pub returns-in_err-begin : goal.returns-in_err-begin
returns-in_err-begin g c = headed_alone _ _ c.begin.result _ _ _ _ _ c.begin.ensures c.in_err-begin.was c.from_residual.ensures.0

pub returns-in_err-write_stream-in_default : goal.returns-in_err-write_stream-in_default
returns-in_err-write_stream-in_default g c =
    headed_failed _ _ c.begin.result c.write_stream.result _ _ _ _ _ _ c.begin.ensures c.in_ok-begin.was
    c.in_err-write_stream-in_default.was c.from_residual-in_err-write_stream-in_default.ensures.0 c.write_stream.ensures

pub returns-in-Check : goal.returns-in-Check
returns-in-Check g c =
    headed_whole _ _ c.begin.result _ _ _ _ _ c.begin.ensures c.in_ok-begin.was (rw c.in-Check.is (nothing_written _ _ _))

pub returns-in_ok-write_stream-in_default : goal.returns-in_ok-write_stream-in_default
returns-in_ok-write_stream-in_default g c =
    headed_well _ _ c.begin.result c.write_stream.result _ _ _ _ c.begin.ensures c.in_ok-begin.was
    c.in_ok-write_stream-in_default.was c.write_stream.ensures
