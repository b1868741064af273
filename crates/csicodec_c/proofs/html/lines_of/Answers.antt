use Rattle.std.proofs.Common.{◌≡◌, ◌++◌, ◌∙◌, List, ℕ, ap, subst, sym}
use Rattle.csicodec_overwrite.specs.{Reading.Shows, Stream.Now, Stream.Passes}
use Rattle.csicodec_overwrite.proofs.Written.{shows}
use Rattle.csicodec_c.proofs.html.lines_of.Goals as goal

pub returns : goal.returns
returns c =
    let (first, passes, pushed) = c.in_ok-push.ensures.passes in
    let (rest, ending, finished) = c.in_ok-finish.ensures.text in
    let marking = c.args.marking in
    let bytes = c.args.bytes.now in
    let last = c.push.new.self in
    let begun = subst (λ (n : Now). Passes n bytes first last) c.writing-writer.ensures passes in
    let all : c.finish.new.out.items ≡ first ++ rest = finished ∙ ap (λ (t : List ℕ). t ++ rest) (pushed ∙ ap (λ (t : List ℕ). t ++ first) c.new-text.ensures.items) in
    subst (λ (t : List ℕ). Shows marking bytes t) (sym all) (shows marking bytes first rest last begun ending)
