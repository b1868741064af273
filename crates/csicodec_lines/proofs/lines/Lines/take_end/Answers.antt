use Rattle.std.proofs.Common.{◌++◌, ◌∙◌, [], ◌∷◌, refl, sym, ap, append_assoc, append-nil, true≢false}
use Rattle.csicodec_lines.proofs.{Taken.goes_joining, Taken.goes_over, Common.run_as}
use Rattle.csicodec_lines.proofs.lines.Lines.take_end.Goals as goal

pub returns-then-joins : goal.returns-then-joins
returns-then-joins g c = record {
  taken = ([], goes_joining g.R.Anew.begins g.R.Rule.gives g.R.Rule.closes c.args.self.now _ c.args.byte (sym c.joins.ensures ∙ c.if-joins.true) refl refl refl, sym (append-nil c.args.out.now.items));
  begun = λ e. absurd (true≢false (sym e));
}

pub returns : goal.returns
returns g c =
    let (close, closes, out) = c.in_ok-finish.ensures in
    let rest = run_as g.R.Rule.gives.writing c.args.self.now.line.held ++ close in
    record {
      taken = (
        rest ++ 10 ∷ [],
        goes_over g.R.Anew.begins g.R.Rule.gives g.R.Rule.closes c.args.self.now _ c.args.byte rest (sym c.joins.ensures ∙ c.if-joins.false) c.requires (close, closes, refl) refl refl c.begin.ensures,
        c.in_ok-push.ensures.items ∙ ap (λ t. t ++ 10 ∷ []) out ∙ append_assoc c.args.out.now.items rest (10 ∷ []),
      );
      begun = λ e. c.begin.ensures;
    }
