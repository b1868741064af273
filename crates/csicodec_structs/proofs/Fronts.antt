-- What is answered of the sequence at the front.
use Rattle.std.proofs.{Common.◌≡◌, Common.◌⊎◌, Common.◌-◌, Common.ℕ, Common.List, Common.length, Common.Option, Common.None, Common.Some, Common.refl}
use Rattle.std.proofs.{Common.ap, Common.inl, Common.inr, Common.arith, lemmas.List.length-append}
use Rattle.std.specs.Prelude.{IfSome}
use Rattle.csicodec_tokens.specs.{declared.param.CsiParam.CsiParam, Sequence.Reads, declared.reader.ReadError.ReadError}
use Rattle.csicodec_structs.specs.{declared.lay.Counts.Counts, declared.next.NextSequence.NextSequence, declared.structs.Param.Param}
use Rattle.csicodec_structs.specs.{declared.structs.Struct.Struct, Next.IsDone, Next.IsRefused, Next.IsTaken, Next.Reading, Next.refused, Private.Steps.LaysBy}
use Rattle.csicodec_structs.specs.{Private.Steps.answered}
use Rattle.csicodec_parser.specs.Segments.{Actions}
use Rattle.csicodec_structs.proofs.Kept.{read_kept}

-- by any reading
pub front_taken : (by : Reading) (bytes rest : List ℕ) (list : List CsiParam) (final : ℕ) (ao an : List Struct) (po pn : List Param) (laid : Option Counts) (answer : NextSequence)
    → Reads bytes list final rest → IfSome laid (LaysBy by list final ao an po pn) → answer ≡ answered (length bytes - length rest) laid
    → IsTaken by bytes ao an po pn answer ⊎ IsRefused bytes ao an po pn answer
front_taken by bytes rest list final ao an po pn (Some count) answer reads (all, are, lays) is = rw is (inl (record {
  list = list;
  final = final;
  rest = rest;
  actions = all;
  reads = reads;
  are = are;
  ok = refl;
  no_fault = refl;
  used = omega (arith, ap length reads.2, length-append reads.0 rest);
  lays = record { actions = lays.actions; params = lays.params; lays_actions = lays.lays_actions; lays_params = lays.lays_params };
}))
front_taken by bytes rest list final ao an po pn None answer reads lays is = inr (record {
  error = ReadError.Memory;
  why = (list, final, rest, reads);
  tells = is;
  actions_stay = λ other. absurd (other refl);
  params_stay = λ other. absurd (other refl);
})

-- and by the rules
pub front_answer : (bytes rest : List ℕ) (list : List CsiParam) (final : ℕ) (ao an : List Struct) (po pn : List Param) (laid : Option Counts) (answer : NextSequence)
    → Reads bytes list final rest → IfSome laid (LaysBy Actions list final ao an po pn) → answer ≡ answered (length bytes - length rest) laid
    → IsDone bytes ao an po pn answer ⊎ IsRefused bytes ao an po pn answer
front_answer bytes rest list final ao an po pn laid answer reads lays is = elim (front_taken Actions bytes rest list final ao an po pn laid answer reads lays is) [
  | inl t ↦ (let kept = read_kept bytes t.list t.final t.rest t.actions t.reads t.are in inl (record { taken = t; in_range = kept.0; named = kept.1 }))
  | inr refused ↦ inr refused
]
