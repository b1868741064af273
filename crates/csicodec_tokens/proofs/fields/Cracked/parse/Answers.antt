use Rattle.csicodec_tokens.proofs.FieldsOf.{fields_in_turn, one_fields}
use Rattle.csicodec_tokens.proofs.fields.Cracked.parse.Goals as goal

pub returns-clause-found : goal.returns-clause-found
returns-clause-found c = (fields_in_turn c.args.params.now _).1 c.in_ok-all_fields.ensures.ok.1

pub returns-clause-only : goal.returns-clause-only
returns-clause-only c = λ f h.
    one_fields c.args.params.now _ f ((fields_in_turn c.args.params.now _).1 c.in_ok-all_fields.ensures.ok.1) h
