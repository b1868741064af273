-- What the proofs of this crate cite of other crates and of its definitions, passed on from one place.
pub use Rattle.std.proofs.Common.{Bool, true, false, ◌≡◌, ◌==◌, not, ℕ, List, [], ◌∷◌, ◌++◌, Option, None, Some, inl, inr, refl, sym, ap, subst, ◌∙◌, append_assoc, append-nil, IfSome, Result, Ok, Err, true≢false, ◌⊎◌, IsErr, MatchResult, OnErr, OnOk, Bor, rules, length}
pub use Rattle.std.proofs.{lemmas.List.Folds.list_all-append, KnownBytes.Appends-nil, KnownBytes.Appends-trans, lemmas.Option.IfSome_then}
pub use Rattle.std.proofs.{lemmas.Result.IfOk-from_err, lemmas.Result.on_err_weaker, lemmas.Result.on_ok_weaker}
pub use Rattle.csicodec_transform.specs.{Transform.Begins, Transform.GoesOn, Transform.Sends, Transform.Transforms, declared.error.RunError.RunError}
pub use Rattle.csicodec_clean.specs.{Shown.shown_text, Stream.Between, Stream.start_of, Styled.Keeping, Styled.StylesIn, Styled.first_kept, Styled.keeps}
pub use Rattle.csicodec_clean.specs.{Styled.resets, declared.styles.Passing.Passing, Cleaned.longest}
pub use Rattle.csicodec_lines.specs.{Stream.ended, Lines.AreOf}
pub use Rattle.csicodec_looks.specs.declared.marking.Marking.{Marking}
pub use Rattle.csicodec_tool.specs.Writes.{Heads, IsHeaded, JobSteps, Tails, Writes, begun_of, makes_none, writes_data, IsPageFront, PaintedPage, Wrote, WroteBehind}
pub use Rattle.csicodec_tool.specs.{declared.log.Log.Log, Log.IsLine, Log.IsLogged, Log.IsLoggedFront, Stream.EndsLog, Stream.Finishes, Stream.GoesIn}
pub use Rattle.csicodec_tool.specs.{Stream.IsBegun, Stream.IsIn, Stream.LogAs, Stream.PassesLog, Stream.Pushes, declared.rewrite.Work.Work}
pub use Rattle.std.specs.{List.concat, Io.KnownBytes.Appends, Io.KnownBytes.Keeps, Io.KnownBytes.Consumes, Io.KnownBytes.IsAtEnd}
pub use Rattle.csicodec_command.specs.{declared.failure.Failure.Failure, Recorded.recorded}
pub use Rattle.csicodec_looks.specs.declared.markup.Markup.{Markup}
pub use Rattle.csicodec_inspect.specs.Sent.{FrontsOf, IsAppended, IsWrittenBy}
pub use Rattle.csicodec_transform.proofs.Sent.{goes_on, adds_all, adds_none, adds_on, AddsFront}
