-- An empty body. The borrow is opened and closed at another ghost value.
use Rattle.std.proofs.{Common.◌+◌, Common.◌*◌, Common.List, Common.[], Common.◌∷◌, Common.refl, raw_atomic.Walks.proved}
use base.{Logic.id⊢, Fml.ftrue, Fml.flft}
use mir.{Syntax.named, Syntax.w64, Val.Val, Val.vunit}
use contract.Running.{tables}
use types.Kit.{‵, ◌⊛◌, ◌$◌, ◌∵◌, !, qed, move, keep, use1, split, join, fsplit3, feq_i, suffices, frame, group, done}
use types.{Run.unit_lit, Run.of_opd, Run.returns, Run.enter, ByLocal.alloc_all, ByLocal.pass_all, ByLocal.free_all, ByLocal.look_at, ByLocal.sets}
use denote.{Builtin.usize, Exit.yes, Plain.uint_vals, Plain.uint_Tells, RattleType.owns, Ref.MutRef, Ref.mut_vals, Ref.mut_Tells, Signature.plain}
use denote.{Steps.nothing, Steps.opens, Steps.closes}
use denote.Triple.Walked.{Stays, walk_of, says, stay_dropped, Goes-dropped, stay_ref, Goes-ref, ends_at}
use Rattle.csicodec_tokens.specs.contracts.count.Count.{the_row as R}
use Rattle.csicodec_tokens.proofs.count.Count.charge.Statement.{statement}
use Rattle.csicodec_tokens.specs.contracts.count.Count.charge as f
use Rattle.csicodec_tokens.proofs.count.Count.charge.Code as code

abbrev stayed : Stays f.ended.signature.params f.ended.kept
stayed = (stay_ref (0 ∷ []) tt (plain (λ _. R)), (stay_dropped _ yes, (stay_dropped _ yes, tt)))

pub charge_spec : {M : Type 1} → statement M
charge_spec 𝓤 𝓛 𝓜 𝓡 wired =
    let c = f.clauses 𝓛 𝓜.mem 𝓡.returns in let W = walk_of 𝓛 f.ended stayed c in let 𝓣 = tables 𝓤 𝓛.H 𝓜 𝓡 𝓡.env in
    let goes = Goes-dropped 𝓛 1 (plain (λ _. usize)) yes (λ κs x w. refl) in
    proved 𝓛 f.ended stayed c 𝓜 𝓡 (Goes-ref 𝓛 1 0 tt (plain (λ _. R)), (goes, (goes, tt)))
    f.Key.name code.function (code.unfolded 𝓤 𝓛.H 𝓜 𝓡 wired)
    (λ κs. (mut_vals, (uint_vals w64, (uint_vals w64, tt)))) (λ κs. (mut_Tells (named 0) κs.0 R, (uint_Tells w64, (uint_Tells w64, tt)))) (λ κs qs bounds a _ are.
    let b = a.0.ref_ptr.0 in let o = a.0.ref_ptr.1 in let h = a.0.now in let vs = mut_vals a.0 in
    let h' : R.Denot = record { total = h.total + a.1.0 * a.1.1.0 } in
    let ns : List Val × (List Val × Unit {0}) = (uint_vals w64 a.1.0, (uint_vals w64 a.1.1.0, tt)) in
    let y : W.Ghost = ((κs, qs, bounds, a, (vs, ns)), tt) in
    qed 𝓛 (((‵ (flft κs.0 qs.0) ⊛ ‵ ftrue) ⊛ ‵ ((MutRef (named 0) κs.0 R).own_val a.0 vs) ⊛ ‵ (owns (usize ∷ usize ∷ []) a.1 ns)) ∷ ‵ ftrue ∷ []) ∵
    split ! $ split ! $ move ! (2 ∷ []) $ split ! $ keep ! (0 ∷ 2 ∷ []) $
    enter ! _ _ _ _ _ $ alloc_all ! (λ l. pass_all ! refl ((tt, tt), ((tt, record { fits = are.1.0.1 }), ((tt, record { fits = are.1.1.0.1 }), tt))) $
    fsplit3 ! $ move ! (1 ∷ 2 ∷ 3 ∷ []) $ opens ! tt R b o (λ us.
    sets ! (of_opd ! (unit_lit !)) refl (tt, tt) $
    move ! (1 ∷ []) $ use1 𝓛 (‵ (R.own_val h' us)) (id⊢ 𝓤 _) $ move ! (1 ∷ []) $ closes ! tt R h' us b o $
    returns ! (look_at ! 0 refl) $ free_all ! refl $ move ! (3 ∷ []) $
    suffices ! _ (ends_at 𝓛 f.ended stayed c y vunit tt (h', (tt, (tt, tt))) (tt, (tt, (tt, tt)))) $ says ! refl $
    group ! 3 $ nothing ! $ nothing ! $ join ! $ nothing ! $ join ! $ move ! (1 ∷ 0 ∷ []) $ join ! $ nothing ! $ move ! (2 ∷ 0 ∷ []) $ join ! $ frame ! $ frame !
    $ feq_i ! _ (vunit ∷ []) _ refl $ done !)))
