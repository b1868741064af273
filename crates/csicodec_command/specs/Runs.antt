-- A run over inputs, one after the other: what is asked of what works on them, which turn each had, and the status at the end.
use Rattle.csicodec_command.specs.Common.{ℕ, Bool, true, false, List, [], map, eqb, codes, Option, None, Some, Result, Ok, Err, IfSome, OnOk, OnErr, MatchResult, ends_with, Keeps, Bor}
use Rattle.csicodec_command.specs.{declared.failure.Failure.Failure, declared.packed.Packing.Packing, Failure.status, Packed.Begins}
use Rattle.std.specs.Prelude.{◌≡◌, ◌⊎◌, ◌∷◌}
use Rattle.csicodec_transform.specs.declared.error.RunError.{RunError}

-- What is asked of what works on inputs. The input of a name comes next; it is to be written, whose bytes these are where they are
-- known; it is, as a recording; there are no more.
pub data Asked : Type 0 where
  Next : List ℕ → Asked
  Stream : Option (List ℕ) → Asked
  Recording : Option (List ℕ) → Asked
  End : Asked

-- what works, and what is known of the output
abbrev pub At : Type 0 → Type 0
At S = S × Option (List ℕ)

-- how a step goes that is asked: from where, how it ended, and to where
abbrev pub StepsOf : Type 0 → Type 1
StepsOf S = Asked → At S → Result (Unit {0}) Failure → At S → Type 0

-- how an input goes whose bytes these are where they are known, from where, how it ended, and to where
abbrev pub GoesOf : Type 0 → Type 1
GoesOf S = Option (List ℕ) → At S → Result (Unit {0}) Failure → At S → Type 0

-- each input by itself: a recording goes as any other, and nothing is done ahead of an input or behind the last
abbrev pub AloneSteps : {S : Type 0} → GoesOf S → StepsOf S
AloneSteps Goes (Stream known) start result end = Goes known start result end
AloneSteps Goes (Recording known) start result end = Goes known start result end
AloneSteps Goes other start result end = (result ≡ Ok tt) × (end ≡ start)

-- Which inputs may be recordings: those whose names say so, and standard input that begins with `{`.
abbrev pub MayBeRecording : List ℕ → Option (List ℕ) → Type 0
MayBeRecording name known = (ends_with eqb name (codes ".cast") ≡ true)
    ⊎ ((name ≡ codes "-") × IfSome known (λ bytes. (rest : List ℕ) × (bytes ≡ 123 ∷ rest)))

-- It is refused for its first bytes, which no stream begins with.
abbrev pub IsPacked : Option (List ℕ) → Failure → Type 0
IsPacked known f = (packing : Packing) × (f ≡ Failure.Packed packing) × IfSome known (Begins packing)

-- The first bytes of an input, which may be these, couldn't be read, or there was no memory for them, or it is refused for them.
abbrev pub IsStopped : Option (List ℕ) → Failure → Type 0
IsStopped known f = (f ≡ Failure.Run RunError.Read) ⊎ ((f ≡ Failure.Run RunError.Memory) ⊎ IsPacked known f)

-- so it wasn't worked on
abbrev pub IsUnread : Option (List ℕ) → Result (Unit {0}) Failure → Type 0
IsUnread known result = (f : Failure) × (result ≡ Err f) × IsStopped known f

-- An input of this name was worked on, whose bytes these are where they are known: it came next, and then it was written, as a
-- recording only where it may be one, unless its first bytes couldn't be read, or say that it is no stream.
pub record IsReadBy {S : Type 0} (Steps : StepsOf S) (name : List ℕ) (known : Option (List ℕ)) (start : At S)
    (result : Result (Unit {0}) Failure) (end : At S) : Type 0 where
  pub begun : Result (Unit {0}) Failure
  pub ahead : At S
  pub begins : Steps (Next name) start begun ahead
  pub failed : OnErr begun ((result ≡ begun) × (end ≡ ahead))
  pub bytes : Option (List ℕ)
  pub same : Keeps known bytes
  pub reads : OnOk begun ((IsUnread known result × (end ≡ ahead))
      ⊎ (Steps (Stream bytes) ahead result end ⊎ (MayBeRecording name known × Steps (Recording bytes) ahead result end)))

-- The input of this name had its turn: it couldn't be opened, which leaves all as it was, or it was worked on.
abbrev pub HasTurn : {S : Type 0} → StepsOf S → (List ℕ → Option (List ℕ)) → List ℕ → At S
    → Result (Unit {0}) Failure → At S → Type 0
HasTurn Steps holds name start result end = ((result ≡ Err Failure.Open) × (end ≡ start))
    ⊎ IsReadBy Steps name (holds name) start result end

-- The status that is told of a failure: its own, or of a write that failed, where the reader of the output went away, 141.
abbrev pub IsTold : Failure → ℕ → Type 0
IsTold f n = (n ≡ status f) ⊎ ((f ≡ Failure.Run RunError.Write) × (n ≡ 141))

-- a failure behind which no input can be worked on: a write failed, or memory ran out
abbrev pub ends_run : Failure → Bool
ends_run (Failure.Run RunError.Write) = true
ends_run (Failure.Run RunError.Memory) = true
ends_run f = false

-- The inputs of these names had their turns, one after the other, and each began where the one before ended. There are the statuses of
-- those that failed, in turn; and there is that of one that ended the run, behind which no other had its turn.
abbrev pub Through : {S : Type 0} → StepsOf S → (List ℕ → Option (List ℕ)) → List (List ℕ) → At S
    → List ℕ → Option ℕ → At S → Type 0
Through Steps holds [] start failed stop end = (failed ≡ []) × (stop ≡ None) × (end ≡ start)
Through {S} Steps holds (name ∷ names) start failed stop end =
    (result : Result (Unit {0}) Failure) × (next : At S) × HasTurn Steps holds name start result next
    × MatchResult result
    (λ _. Through Steps holds names next failed stop end)
    (λ f. (n : ℕ) × IsTold f n
    × (((ends_run f ≡ true) × (failed ≡ []) × (stop ≡ Some n) × (end ≡ next))
    ⊎ ((ends_run f ≡ false)
    × ((others : List ℕ) × (failed ≡ n ∷ others) × Through Steps holds names next others stop end))))

-- the first of them
abbrev pub first_of : List ℕ → Option ℕ
first_of [] = None
first_of (n ∷ others) = Some n

-- the status of a run of which this is the first that failed, if one did
abbrev pub status_of : Option ℕ → Result (Unit {0}) ℕ
status_of None = Ok tt
status_of (Some n) = Err n

-- how a turn ended, without the status that was told
abbrev pub failure_of : Result (Unit {0}) (Failure × ℕ) → Result (Unit {0}) Failure
failure_of (Ok u) = Ok tt
failure_of (Err e) = Err e.0

-- the names of a command line, or that of standard input
abbrev pub names_of : List (Bor (List ℕ)) → List (List ℕ)
names_of [] = codes "-" ∷ []
names_of (file ∷ files) = file.now ∷ map (λ n. n.now) files

-- there are no more inputs: what stands behind them is asked for, and the status is that of its failure, or of the first input that failed
abbrev pub Closes : {S : Type 0} → StepsOf S → Option ℕ → At S → Result (Unit {0}) ℕ → At S → Type 0
Closes Steps first start result end = (closed : Result (Unit {0}) Failure) × Steps End start closed end
    × MatchResult closed (λ _. result ≡ status_of first) (λ f. (n : ℕ) × IsTold f n × (result ≡ Err n))

-- How a run ends behind the turns: where one ended it there, with its status; where its only input failed, with the status of that; and
-- else what stands behind them is written.
abbrev pub Ends : {S : Type 0} → StepsOf S → List (List ℕ) → Option ℕ → Option ℕ → At S → Result (Unit {0}) ℕ
    → At S → Type 0
Ends Steps names first (Some n) start result end = (result ≡ Err n) × (end ≡ start)
Ends Steps (name ∷ []) (Some n) None start result end = (result ≡ Err n) × (end ≡ start)
Ends Steps names first None start result end = Closes Steps first start result end

-- a run over the inputs of these names, with its status
pub record IsRun {S : Type 0} (Steps : StepsOf S) (holds : List ℕ → Option (List ℕ)) (names : List (List ℕ))
    (start : At S) (result : Result (Unit {0}) ℕ) (end : At S) : Type 0 where
  pub failed : List ℕ
  pub stop : Option ℕ
  pub last : At S
  pub through : Through Steps holds names start failed stop last
  pub ends : Ends Steps names (first_of failed) stop last result end

-- A run whose output is a file that is asked for, or else standard output; of the inputs and of the output of a host nothing is known. No input had its
-- turn, since the file couldn't be begun; or it is a run over the inputs, with its status, or with that of the file, where the run went well and the file
-- couldn't be put in its place.
abbrev pub WorksThrough : {S : Type 0} → StepsOf S → List (List ℕ) → S → Result (Unit {0}) ℕ → S → Type 0
WorksThrough {S} Steps names old result new = ((result ≡ Err (status Failure.Open)) × (new ≡ old))
    ⊎ ((ran : Result (Unit {0}) ℕ) × (start : Option (List ℕ)) × (end : Option (List ℕ))
    × IsRun Steps (λ _. None) names (old, start) ran (new, end)
    × ((result ≡ ran) ⊎ ((ran ≡ Ok tt) × (result ≡ Err (status Failure.Open)))))
