-- The table, and which of its rows reads a list.
use Rattle.std.specs.{Prelude.◌++◌, Prelude.ℕ, Prelude.List, Prelude.[], Prelude.◌∷◌, Prelude.Option, Option.option_map, Option.option_or}
use Rattle.csicodec_tokens.specs.declared.param.CsiParam.{CsiParam}
use Rattle.csicodec_sequences.specs.{declared.row.SequenceForm.SequenceForm, declared.row.NumberSlot.NumberSlot, declared.rows.dec.TheConstants.DEC_FORMS}
use Rattle.csicodec_sequences.specs.{declared.rows.dec.TheConstants.DEC_SLOTS, declared.rows.others.TheConstants.OTHER_FORMS}
use Rattle.csicodec_sequences.specs.{declared.rows.others.TheConstants.OTHER_SLOTS, declared.rows.reports.TheConstants.REPORT_FORMS}
use Rattle.csicodec_sequences.specs.{declared.rows.reports.TheConstants.REPORT_SLOTS, Rows.Row, Rows.read_row}
use Rattle.csicodec_actions.specs.Rows.{first_of}
use Rattle.csicodec_sequences.specs.declared.known.KnownSequence as known_type

-- a row of each form and its slots
unfoldable pub rows_of : List SequenceForm → List (List NumberSlot) → List Row
rows_of [] all = []
rows_of (form ∷ forms) [] = []
rows_of (form ∷ forms) (slots ∷ all) = record { form = form; slots = slots } ∷ rows_of forms all

-- the rows of DEC's terminals, those of others, and those of what is asked, answered and sent
abbrev pub dec_rows : List Row
dec_rows = rows_of DEC_FORMS DEC_SLOTS

abbrev pub other_rows : List Row
other_rows = rows_of OTHER_FORMS OTHER_SLOTS

abbrev pub report_rows : List Row
report_rows = rows_of REPORT_FORMS REPORT_SLOTS

-- all rows
unfoldable pub table : List Row
table = dec_rows ++ (other_rows ++ report_rows)

-- the form of a row and the values that it reads
abbrev pub gives : List CsiParam → ℕ → Row → Option (SequenceForm × List ℕ)
gives list final r = option_map (λ values. (r.form, values)) (read_row r list final)

-- those of the first row that reads the list
abbrev pub first_reading : List Row → List CsiParam → ℕ → Option (SequenceForm × List ℕ)
first_reading rows list final = first_of (gives list final) rows

-- the same of all rows; the order doesn't matter (law `any_row`)
abbrev pub reading : List CsiParam → ℕ → Option (SequenceForm × List ℕ)
reading list final = option_or (first_reading dec_rows list final)
    (option_or (first_reading other_rows list final) (first_reading report_rows list final))

abbrev pub reading_of : known_type.KnownSequence → SequenceForm × List ℕ
reading_of known = (known.form, known.values.items)
