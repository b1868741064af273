use Rattle.csicodec_actions.proofs.FieldsAt.{fields-are}
use Rattle.csicodec_actions.proofs.fields.fields_in.Goals as goal

pub returns-then-are_field_tokens : goal.returns-then-are_field_tokens
returns-then-are_field_tokens c = rw (fields-are c.args.list.now, ← c.are_field_tokens.ensures, c.if-are_field_tokens.true)

pub returns-else-are_field_tokens : goal.returns-else-are_field_tokens
returns-else-are_field_tokens c = rw (fields-are c.args.list.now, ← c.are_field_tokens.ensures, c.if-are_field_tokens.false)
