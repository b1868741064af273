-- What the program does with each input by itself: the normal form of sequences, where a stream may be cut, and the bytes that lines of JSON
-- stand for.
use Rattle.std.specs.Prelude.{ℕ, ◌≡◌, ◌≢◌, IfErr, IfSome, OnOk}
use Rattle.csicodec_streams.specs.{Decoding.NormalisesTo, Refusals.RefusesRun}
use Rattle.csicodec_transform.specs.declared.error.RunError.{RunError}
use Rattle.csicodec_listing.specs.{Lines.Assembles, Lines.Refuses, declared.object.Fault.Fault}
use Rattle.csicodec_clean.specs.Stream.{IsFrontOf}
use Rattle.csicodec_lines.specs.Cuts.{Tells}
use Rattle.csicodec_command.specs.{Runs.GoesOf, declared.failure.Failure.Failure}
use Rattle.csicodec_inspect.specs.{declared.assemble.Assembly.Assembly, declared.cuts.Cuts.Cuts, declared.normal.Normaliser.Normaliser, Sent.FrontsOf}
use Rattle.csicodec_inspect.specs.{Sent.IsAppended, Sent.IsWrittenBy}

-- The normal form of all sequences is written. What refuses them is told, and nothing is written then, nor where a read fails.
abbrev pub Normalises : GoesOf Normaliser
Normalises known start result end = OnOk result (IfSome known (λ bytes. IsAppended (NormalisesTo bytes) start.1 end.1))
    × IfErr result (λ f. (e : RunError) × (f ≡ Failure.Run e) × RefusesRun known e × (e ≢ RunError.Write → end.1 ≡ start.1))

-- the places are told where the stream may be cut, with so many bytes between two, or a front of them
abbrev pub TellsCuts : GoesOf Cuts
TellsCuts known start result end = (end.0 ≡ start.0)
    × IsWrittenBy (Tells start.0.every) (IsFrontOf (Tells start.0.every)) result known start.1 end.1

-- The bytes that the lines give are written, or a front of those of a front of the lines. Where a line is refused, these are all bytes
-- of the lines ahead of it, and its number and what is wrong with it are told.
abbrev pub AssemblesLines : GoesOf Assembly
AssemblesLines known start result end = IsWrittenBy Assembles (FrontsOf Assembles) result known start.1 end.1
    × IfErr result (λ f. (number : ℕ) (fault : Fault) → f ≡ Failure.Object number fault
    → IfSome known (λ lines. IsAppended (Refuses number fault lines) start.1 end.1))
