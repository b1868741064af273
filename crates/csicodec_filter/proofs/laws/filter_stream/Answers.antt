use Rattle.csicodec_filter.proofs.Meaning.{filter_stream_lem}
use Rattle.csicodec_filter.proofs.laws.filter_stream.Goals as goal

pub returns : goal.returns
returns g c = λ limit m bytes text parts l keeps w r. filter_stream_lem limit m bytes text parts (g.R.Rewrite.writes c.args.rewrite.now) l keeps w r
