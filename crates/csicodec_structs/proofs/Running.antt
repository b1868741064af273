-- What a run over a list has given, with one action more, and at its end.
use Rattle.std.proofs.Common.{◌≡◌, ℕ, false, List, [], ◌∷◌, ◌++◌, take, Option, Some, None, ap, sym, subst, ◌∙◌, inl, inr, ◌≤◌, length, refl, arith, append-nil}
use Rattle.std.proofs.{lemmas.Bool.false≢true, lemmas.List.take_all}
use Rattle.csicodec_actions.specs.{Actions.Action, Table.text}
use Rattle.csicodec_parser.specs.{declared.parser.ActionRef.ActionRef, Progress.ActionsOf, Progress.HasEnded, Progress.Progress, Progress.begun}
use Rattle.csicodec_parser.specs.{Next.AnswersRef, Next.IsRef, Next.NextsRef, declared.actions.CSI.CSI, declared.parser.ActionRef.TheVariants.Small}
use Rattle.csicodec_parser.specs.{ActionOf.action_of, Segments.Actions}
use Rattle.csicodec_structs.specs.Private.Steps.{lent}
use Rattle.csicodec_structs.proofs.Laid.{take_got}
use Rattle.std.specs.Prelude.{slice_get}
use Rattle.csicodec_tokens.specs.{declared.param.CsiParam.CsiParam, Sequence.Reads}
use Rattle.csicodec_streams.specs.Decoding.{NormalisesTo}

pub same_list : (old new : Progress) (all : List Action) → new.list ≡ old.list → new.flag ≡ old.flag → new.final ≡ old.final → ActionsOf new all → ActionsOf old all
same_list old new all l f c h = rw (← l, ← f, ← c) h

pub given_more : (old new : Progress) (answer : Option ActionRef) (r : ActionRef) (P Q : List Action → Type 0) → NextsRef old answer new → answer ≡ Some r
    → ((all : List Action) → ActionsOf old all → P (take old.given all))
    → ((before : List Action) (a : Action) → IsRef r old.flag old.final a → P before → Q (before ++ a ∷ []))
    → (all : List Action) → ActionsOf new all → Q (take new.given all)
given_more old new answer r P Q nexts is held more all of =
    let before = same_list old new all nexts.list nexts.flag nexts.final of in
    let answers : AnswersRef all old (Some r) new = subst (λ x. AnswersRef all old x new) is (nexts.answers all before) in
    let (a, got, is) = answers.1 in
    subst Q (sym (ap (λ n. take n all) answers.2 ∙ take_got all old.given a got)) (more (take old.given all) a is (held all before))

pub not_failed : (old new : Progress) (answer : Option ActionRef) (r : ActionRef) (all : List Action) → NextsRef old answer new → answer ≡ Some r → ActionsOf old all → new.failed ≡ false
not_failed old new answer r all nexts is of = (subst (λ x. AnswersRef all old x new) is (nexts.answers all of)).3

pub given_all : (old new : Progress) (answer : Option ActionRef) (P : List Action → Type 0) (some : List Action) → NextsRef old answer new → answer ≡ None
    → old.failed ≡ false → ActionsOf old some → ((all : List Action) → ActionsOf old all → P (take old.given all))
    → (all : List Action) × ActionsOf old all × P all
given_all old new answer P some nexts is going of held =
    let ended : HasEnded old = (subst (λ x. AnswersRef some old x new) is (nexts.answers some of)).0 in
    elim ended [
      | inl failed ↦ absurd (false≢true (sym going ∙ failed))
      | inr (all, parts, long) ↦ (all, parts, subst P (take_all old.given all long) (held all parts))
    ]

-- the one that lends its tokens so
pub lent_is : (r : ActionRef) (final : ℕ) (a : Action) → IsRef r false final a → a ≡ lent r final
lent_is (ActionRef.Small csi) final a is = is
lent_is other final a is = is

-- ---- the one action of a list, and its text

-- the first of one is all
alone : (all : List Action) (a : Action) → slice_get all 0 ≡ Some a → length all ≤ 1 → all ≡ a ∷ []
alone [] a first few = cc
alone (x ∷ []) a first few = cc
alone (x ∷ y ∷ all) a first few = absurd (omega arith)

-- where a run has ended behind its first action, that is the one action of the list
sole_of : (list : List CsiParam) (final : ℕ) (r : ActionRef) (new : Progress) (some : List Action) → Actions list false final some
    → NextsRef (begun list false final) (Some r) new → HasEnded new → (a : Action) × IsRef r false final a × Actions list false final (a ∷ [])
sole_of list final r new some are nexts ended =
    let going = nexts.answers some are in
    elim ended [
      | inl failed ↦ absurd (false≢true (sym going.3 ∙ failed))
      | inr (all, parts, long) ↦
          let of : Actions list false final all = same_list (begun list false final) new all nexts.list nexts.flag nexts.final parts in
          let first = nexts.answers all of in
          let (a, got, lent) = first.1 in
          (a, lent, subst (λ (l : List Action). Actions list false final l) (alone all a got (omega (arith, long, first.2))) of)
    ]

pub sole : (list : List CsiParam) (final : ℕ) (old new : Progress) (answer : Option ActionRef) (csi : CSI) (some : List Action) → old ≡ begun list false final → Actions list false final some
    → NextsRef old answer new → answer ≡ Some (Small csi) → HasEnded new → Actions list false final (action_of csi ∷ [])
sole list final old new answer csi some fresh are nexts is ended =
    let (a, lent, alone) = sole_of list final (Small csi) new some are (rw (fresh, is) at nexts) ended in
    subst (λ (x : Action). Actions list false final (x ∷ [])) lent alone

-- the normal form of one sequence with one action
pub short_normal : (bytes rest short : List ℕ) (list : List CsiParam) (final : ℕ) (a : Action) → Reads bytes list final rest → length rest ≤ 0 → Actions list false final (a ∷ [])
    → short ≡ text a → NormalisesTo bytes short
short_normal bytes [] short list final a reads none are is = (
  a ∷ [],
  record {
    sequences = (list, final) ∷ [];
    join = (reads.0, [], reads.2, reads.1, refl);
    each = (a ∷ [], [], refl, are, refl);
  },
  is ∙ sym (append-nil (text a)),
)
short_normal bytes (b ∷ rest) short list final a reads none are is = absurd (omega arith)
