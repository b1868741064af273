-- The names that many proofs here cite, passed on from one place. Declares nothing.
pub use Rattle.csicodec_clean.specs.{Cleaned.EndOf, Cleaned.RuleOf, Cleaned.Strips, Cleaned.longest, Shown.IsPlain, Shown.run_as, Stream.start_of, Styled.StylesIn}
pub use Rattle.csicodec_lines.specs.{Cuts.cuts, Cuts.each_of, Cuts.told, Lines.ByLines, Private.Steps.Finds, Private.Steps.IsAt, Private.Steps.is_within}
pub use Rattle.csicodec_lines.specs.{Private.Steps.passed, Stream.Ending, Stream.begun, Stream.ended, declared.finder.Finder.Finder, declared.lines.Lines.Lines}
pub use Rattle.csicodec_transform.proofs.Sent.{adds_all, adds_none, adds_on}
pub use Rattle.csicodec_transform.specs.Transform.{GoesOn, Transforms}
pub use Rattle.std.proofs.lemmas.Bool.Decides.{nat_tests}
pub use Rattle.std.specs.{List.AllByRecursion, Prelude.⊤}
