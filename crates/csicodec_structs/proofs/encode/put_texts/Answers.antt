use Rattle.std.proofs.Common.{ℕ, List, inl, subst}
use Rattle.csicodec_structs.specs.Encode.{IsPut}
use Rattle.csicodec_structs.proofs.Stand.{one_done}
use Rattle.csicodec_structs.proofs.encode.put_texts.Goals as goal

pub returns-in-Some : goal.returns-in-Some
returns-in-Some c =
    let put = subst (λ (l : List ℕ). IsPut c.args.out.now c.put_text.new.out l c.put_text.result) c.as_bytes.ensures.value c.put_text.ensures in
    inl (one_done c.args.actions.now c.args.params.now _ _ c.in-Some.text _ _ c.if-actions-eq1.true (c.in-Some.ensures c.args.params.now) put)
