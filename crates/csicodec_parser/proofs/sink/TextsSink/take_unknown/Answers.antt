use Rattle.csicodec_parser.proofs.Common.{◌≡◌, ◌++◌, arith, sym, ap, ◌∙◌, common_steps, on_ok_weaker, Unspecified, text, marked}
use Rattle.csicodec_parser.proofs.Cuts.{texts_last}
use Rattle.csicodec_parser.proofs.sink.TextsSink.take_unknown.Goals as goal

pub returns : goal.returns
returns c =
    let u = Unspecified (marked c.args.group c.args.rest.now) c.args._truncated c.args.control in
    on_ok_weaker c.append_list.result
    (λ appended before held. (let all : c.append_list.new.out ≡ c.args.self.now.bytes ++ text u = grind (arith, common_steps) in all ∙ ap (λ l. l ++ text u) held ∙ sym (texts_last before u)))
    c.append_list.ensures
