use Rattle.csicodec_actions.proofs.{AllRows.rows_lem, FieldsApart.field_rows_lem}
use Rattle.csicodec_actions.proofs.laws.rows.Goals as goal

pub returns-clause-tokens : goal.returns-clause-tokens
returns-clause-tokens c = rows_lem c.args.params.now c.args.control

pub returns-clause-fields : goal.returns-clause-fields
returns-clause-fields c = field_rows_lem c.args.params.now c.args.control
