-- An empty body makes a struct of no bytes, with the ghost value 0.
use Rattle.std.proofs.{Common.[], Common.◌∷◌, Common.refl, raw_atomic.Walks.proved}
use base.Fml.{ftrue}
use mir.Val.{vstruct, vnil}
use types.{Kit.‵, Kit.raw, Kit.◌⊛◌, Kit.◌$◌, Kit.◌∵◌, Kit.!, Kit.qed, Kit.move, Kit.keep, Kit.split, Kit.suffices, Kit.done, Run.no_more, Run.returns}
use types.{Run.enter, Part.agg, ByLocal.alloc_all, ByLocal.pass_all, ByLocal.free_all, ByLocal.look_at, ByLocal.sets}
use denote.{RattleType.owns, Shadow.pure_i}
use denote.Triple.{Entry.alive, Walked.Stays, Walked.says, Walked.ends_at}
use Rattle.csicodec_tokens.specs.contracts.count.Count.{the_row as R}
use Rattle.csicodec_tokens.proofs.count.Count.new.Statement.{statement}
use Rattle.csicodec_tokens.specs.contracts.count.Count.new as f
use Rattle.csicodec_tokens.proofs.count.Count.new.Code as code

abbrev stayed : Stays f.ended.signature.params f.ended.kept
stayed = tt

pub new_spec : {M : Type 1} → statement M
new_spec 𝓤 𝓛 𝓜 𝓡 wired =
    let c = f.clauses 𝓛 𝓜.mem 𝓡.returns in
    proved 𝓛 f.ended stayed c 𝓜 𝓡 tt f.Key.name code.function (code.unfolded 𝓤 𝓛.H 𝓜 𝓡 wired) (λ κs. tt) (λ κs. tt) (λ κs qs bounds a g are.
    qed 𝓛 ((raw (alive 𝓛 f.signature tt tt) ⊛ ‵ (owns [] tt tt)) ∷ ‵ ftrue ∷ []) ∵ split ! $ keep ! (0 ∷ 1 ∷ []) $ enter ! _ _ _ _ _ $
    alloc_all ! (λ l. pass_all ! refl tt $ sets ! (agg ! (no_more !)) refl (tt, tt) $ returns ! (look_at ! 0 refl) $ free_all ! refl $
    suffices ! _ (ends_at 𝓛 f.ended stayed c ((tt, tt, tt, tt, tt), tt) (vstruct vnil) (record { total = 0 }) tt tt) $ says ! refl $
    pure_i ! (R.own_val (record { total = 0 }) (vstruct vnil ∷ [])) ((λ vss. (tt, tt)), tt) ((tt, (refl, tt)), tt) $ move ! (1 ∷ 2 ∷ 0 ∷ []) $ done !))
