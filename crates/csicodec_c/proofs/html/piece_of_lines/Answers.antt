use Rattle.std.proofs.lemmas.Result.{IfOk-weaker}
use Rattle.csicodec_clean.proofs.Paired.{is_page}
use Rattle.csicodec_overwrite.proofs.Same.{painted_page}
use Rattle.csicodec_c.proofs.html.piece_of_lines.Goals as goal

pub returns-clause-piece : goal.returns-clause-piece
returns-clause-piece c = IfOk-weaker c.lines_of.result _ _ (λ piece shows. painted_page c.args.markup c.args.bytes.now piece.items shows) c.lines_of.ensures

pub returns-clause-safe : goal.returns-clause-safe
returns-clause-safe c =
    IfOk-weaker c.lines_of.result _ _
    (λ piece shows. let (painted, paints, made) = painted_page c.args.markup c.args.bytes.now piece.items shows in is_page c.args.markup painted piece.items made) c.lines_of.ensures
