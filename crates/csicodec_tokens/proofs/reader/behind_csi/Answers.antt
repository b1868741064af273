use Rattle.std.proofs.Common.{inl, inr, arith}
use Rattle.csicodec_tokens.proofs.{Reading.first_cut, Beginnings.cut_behind, Beginnings.found_behind, Beginnings.bad_behind, Beginnings.large_behind}
use Rattle.csicodec_tokens.proofs.reader.behind_csi.Goals as goal

pub returns-in_default-clause-refused : goal.returns-in_default-clause-refused
returns-in_default-clause-refused c = cut_behind _ _ _ c.in_ok-behind_introducer.ensures c.in_default.ensures

pub returns-in-64-to-126-clause-found : goal.returns-in-64-to-126-clause-found
returns-in-64-to-126-clause-found c =
    found_behind _ _ _ c.in_ok-behind_introducer.ensures c.in-Err.ensures _ _ (first_cut c.in-Err.rest.now c.in-64-to-126.len_at_least) (omega arith, omega arith)

pub returns-in-32-to-63-clause-refused : goal.returns-in-32-to-63-clause-refused
returns-in-32-to-63-clause-refused c = large_behind _ _ _ c.in_ok-behind_introducer.ensures c.in-Err.ensures (omega arith, omega arith)

pub returns-in-0-to-31-clause-refused : goal.returns-in-0-to-31-clause-refused
returns-in-0-to-31-clause-refused c = bad_behind _ _ _ c.in_ok-behind_introducer.ensures c.in-Err.ensures (inl (omega arith))

pub returns-in-127-to-255-clause-refused : goal.returns-in-127-to-255-clause-refused
returns-in-127-to-255-clause-refused c = bad_behind _ _ _ c.in_ok-behind_introducer.ensures c.in-Err.ensures (inr (omega arith))
