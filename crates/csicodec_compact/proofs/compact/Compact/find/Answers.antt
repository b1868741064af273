use Rattle.std.proofs.{Common.sym, Common.◌∙◌, lemmas.Result.IfOk-weaker}
use Rattle.csicodec_compact.proofs.Told.{compacts}
use Rattle.csicodec_compact.proofs.compact.Compact.find.Goals as goal

pub returns-then-branch : goal.returns-then-branch
returns-then-branch c = λ yes.
    let served = c.in_ok-serves.ensures c.if-branch.true in
    compacts c.args.bytes.now c.serves.new.self.spelling c.args.params.now c.args.control c.requires (sym c.stays.ensures ∙ c.if-stays.false) (served.1 c.args.bytes.now c.requires) served.0

pub returns : goal.returns
returns c =
    IfOk-weaker c.serves-2.result _ _
    (λ yes served true.
    compacts c.args.bytes.now c.serves-2.new.self.spelling c.args.params.now c.args.control c.requires (sym c.stays.ensures ∙ c.if-stays.false)
    ((served true).1 c.args.bytes.now c.requires) (served true).0)
    c.serves-2.ensures
