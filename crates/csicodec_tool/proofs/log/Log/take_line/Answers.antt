use Rattle.csicodec_tool.proofs.{Common.◌++◌, Common.◌∙◌, Common.[], Common.◌∷◌, Common.ap, Common.append_assoc, Common.goes_on, Common.PassesLog}
use Rattle.csicodec_tool.proofs.{Logged.line_over, Logged.part_on}
use Rattle.csicodec_tool.proofs.log.Log.take_line.Goals as goal

pub returns : goal.returns
returns c =
    let (one, goes, out) = c.in_ok-take_part.ensures in
    let (rest, ends, longer) = c.in_ok-end_line.ensures.text in
    let begun = c.in_ok-end_line.ensures.begun in
    let mid = c.take_part.new.self in
    let new = c.end_line.new.self in
    let before = c.args.out.now.items in
    let each = goes.0.0 ∙ c.requires.each in record {
      goes = (
        one ++ (rest ++ 10 ∷ []),
        goes_on PassesLog c.args.self.now mid new c.args.line.now (10 ∷ []) one (rest ++ 10 ∷ [])
            (part_on c.args.self.now mid c.args.line.now one (λ _. c.requires.line) goes) (line_over mid new rest each ends begun),
        c.in_ok-push.ensures.items ∙ ap (λ t. t ++ 10 ∷ []) (longer ∙ ap (λ t. t ++ rest) out) ∙ append_assoc (before ++ one) rest (10 ∷ [])
            ∙ append_assoc before one (rest ++ 10 ∷ []),
      );
      each = begun.0.0 ∙ each;
    }
