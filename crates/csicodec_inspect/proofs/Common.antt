-- The names that most proofs of this crate cite, passed on from one place.
pub use Rattle.std.proofs.Common.{◌≡◌, inl, inr, ℕ, ◌==◌, List, [], ◌∷◌, ◌++◌, Option, None, Some, Result, Ok, Err, refl, sym, ap, subst, ◌∙◌, append_assoc, append-nil, IfErr, MatchResult, OnErr, OnOk, IfSome, take, arith, ◌<◌, length, ⊎_elim, if◌then◌else◌, true}
pub use Rattle.std.proofs.{KnownBytes.Appends-trans, KnownBytes.Appends-nil, KnownBytes.Consumes-nil, KnownBytes.Consumes-trans, lemmas.Option.IfSome_then}
pub use Rattle.std.proofs.{lemmas.Result.err_from_is_err_and, lemmas.Result.IfErr-weaker, lemmas.Result.IfOk-from_err, lemmas.Bool.Decides.nat_tests}
pub use Rattle.std.specs.{Io.KnownBytes.Appends, Io.KnownBytes.Consumes, Io.KnownBytes.IsAtEnd, Result.IsErrAnd}
pub use Rattle.csicodec_command.specs.declared.failure.Failure.{Failure}
pub use Rattle.csicodec_inspect.specs.{Assembled.Became, Assembled.IsSent, Assembled.answer_of, Alone.AssemblesLines, Sent.FrontsOf, Sent.IsAppended}
pub use Rattle.csicodec_inspect.specs.{declared.assemble.Assembly.Assembly, Found.behind_esc, Found.by_char, Found.found_at, Visible.seen}
pub use Rattle.csicodec_clean.specs.Check.{IsSure}
pub use Rattle.csicodec_looks.specs.Bytes.{IsPlainByte}
pub use Rattle.csicodec_clean.specs.Shown.{IsBehind}
