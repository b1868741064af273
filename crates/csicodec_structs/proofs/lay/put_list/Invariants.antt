use Rattle.std.proofs.Common.{take}
use Rattle.csicodec_structs.specs.{Private.Steps.PutsBehind, Private.Steps.headed, Rows.params_of}
use Rattle.csicodec_structs.proofs.lay.put_list.Given as goal

-- what the tokens up to here say is put
abbrev pub invariant-loop-token : goal.invariant-loop-token
invariant-loop-token l = PutsBehind l.fn.room l.room l.place (params_of (headed l.head (take l.token-index l.list))) l.end
