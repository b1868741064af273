-- The names that many proofs here cite, passed on from one place. Declares nothing.
pub use Rattle.bstr.proofs.{lemmas.EncodeLemmas.lossy_chars-encode, lemmas.PieceLemmas.lossy_chars-nil}
pub use Rattle.bstr.specs.Utf8.{lossy_chars}
pub use Rattle.csicodec_actions.specs.{Actions.Action, Ranges.SgrInRange}
pub use Rattle.csicodec_base.specs.declared.sgr.Sgr.{Sgr}
pub use Rattle.csicodec_clean.proofs.Plain.{all_both, all_weaker, encoded_on, read_more, read_none, scalars_lossy, scalars_on}
pub use Rattle.csicodec_clean.proofs.{Drawn.as_read_on, Drawn.read_on, Drawn.span_read, Titles.single_texts, Titles.titles_on, Told.all_text, Told.encoded, Told.front_in, Told.is_shown}
pub use Rattle.csicodec_clean.specs.{Cleaned.Strips, Cleaned.longest, Cleaned.stripped, Shown.IsPlain, Shown.IsRead, Shown.IsShown, Shown.shown, Shown.shown_text}
pub use Rattle.csicodec_clean.specs.Sets.{as_read, drawn_text, first_reading, in_use, passed, read_behind}
pub use Rattle.csicodec_clean.specs.{Titles.title_open, Titles.with_titles, declared.reading.Reading.Reading, declared.reading.Sets.Sets}
pub use Rattle.csicodec_looks.specs.declared.sets.Set.TheVariants.{Ascii}
pub use Rattle.csicodec_looks.proofs.Recalled.{same_look}
pub use Rattle.csicodec_looks.specs.Cells.{begins_behind, belongs, chars_of, columns, emptied, erased, glyph, gone, is_empty, narrowed, of_tab, onto, outside, shifted, takes, to_tab_stop, trimmed, untabbed, width, without}
pub use Rattle.csicodec_looks.specs.Line.{Done, HasRoom, before, behind_columns, blank, cells_of, do_all, does, does_here, done, entered, fits, forward, fresh, from_stop, in_row, is_row, leave, leaves_long, line, lines_of, most, over, parted, pen_behind, pen_behind_all, placed, put, repeat, repeated, shows_nothing, size, standing, target, to_stop, widest}
pub use Rattle.csicodec_looks.specs.Paint.{as_text, attributes, ended, further, given, look_of, paint, same, shows_looks, text_of, texts_of, turn, written}
pub use Rattle.csicodec_looks.specs.{Bytes.IsPlainByte, Look.behind, Look.plain, Pieces.escaped, Pieces.piece_texts, Plain.AreFull, Plain.AreLines}
pub use Rattle.csicodec_looks.specs.{Plain.IsLineByte, Plain.PutsPlain, Plain.closed, Plain.end_of, Plain.line_byte, Row.DoesAll, Row.shown_by, Steps.of_char}
pub use Rattle.csicodec_looks.specs.{Steps.of_chars, Steps.of_control, Turns.AreTurns, declared.cells.Cell.Cell, declared.cells.Cell.TheVariants.Behind}
pub use Rattle.csicodec_looks.specs.{declared.cells.Cell.TheVariants.Char, declared.cells.Cell.TheVariants.Empty, declared.cells.Cell.TheVariants.Mark}
pub use Rattle.csicodec_looks.specs.{declared.cells.Glyph.Glyph, declared.line.Line.Line, declared.look.Look.Look, declared.marking.Marking.Marking}
pub use Rattle.csicodec_looks.specs.{declared.marking.Marking.TheVariants.Page, declared.marking.Marking.TheVariants.Plain}
pub use Rattle.csicodec_looks.specs.{declared.marking.Marking.TheVariants.Styled, declared.pen.Pen.Pen, declared.step.Step.Step}
pub use Rattle.csicodec_overwrite.specs.Lost.{NothingLost, NothingMade, again, all_came, all_taken, belonging, came, covered, left_out, tabs, taken, taken_again, taken_by, taken_by_all, taken_here, times, touched, under, whole, within}
pub use Rattle.csicodec_overwrite.specs.Private.Front.{IsFront, IsStyled, IsWritten, IsWrittenTo, drawn, last_look, last_of_run, run_text}
pub use Rattle.csicodec_overwrite.specs.Steps.{by_code, by_escape, of_action, of_actions, of_code, of_cursor, of_device, of_edit, of_escape, of_final, of_mode, of_run, of_sequence, of_string, of_terminal, of_wrong, switched}
pub use Rattle.csicodec_overwrite.specs.{Private.Seen.IsSlice, Private.Seen.PassesFront, Private.Spans.GoesTo, Private.Spans.IsAscii, Private.Spans.IsBare, Private.Spans.IsGiven, Reading.AreOfParts}
pub use Rattle.csicodec_overwrite.specs.{Reading.IsOfPart, Reading.Overwrites, Reading.Pages, Reading.Paints, Reading.Shows, Reading.Steps, Stream.Ending}
pub use Rattle.csicodec_overwrite.specs.{Stream.Goes, Stream.Held, Stream.Now, Stream.Passes, Stream.Reads, Stream.begun_as, Stream.none_held, Stream.none_in, Turned.AreLooks}
pub use Rattle.csicodec_overwrite.specs.{Turned.IsInRange, Turned.IsLook, Turned.SetsLook, Turned.Turned, declared.front.LineFront.LineFront}
pub use Rattle.csicodec_spans.proofs.{Once.parts_more, Once.parts_on, OneSpan.none_unsure, OneSpan.singles}
pub use Rattle.csicodec_spans.specs.{Parts.AreFirstParts, Parts.Part, Parts.part, declared.table.Kind.Kind}
pub use Rattle.csicodec_transform.specs.Transform.{Sends, Transforms}
pub use Rattle.std.proofs.Common.{Bool, IfSome, List, None, Option, Some, [], ap, append-nil, append_assoc, arith, codes, cond, drop, encode_utf8_all, false, filter, flat_map, length, length-append, map, min, nat_lt, not, refl, replicate, rules, subst, suc, sym, take, take-append-drop, true, unwrap_or, zero, ℕ, ⊎_elim, ◌*◌, ◌++◌, ◌+◌, ◌-◌, ◌/◌, ◌<◌, ◌==◌, ◌∙◌, ◌∷◌, ◌≡◌, ◌≢◌, ◌≤◌}
pub use Rattle.std.proofs.{Math.Seq.take-append_seam, lemmas.Bool.and_from, lemmas.Bool.and_parts, lemmas.Bool.cond_both, lemmas.Bool.eqb-true}
pub use Rattle.std.proofs.{lemmas.Bool.Decides.nat_tests, lemmas.Grind.common_steps, lemmas.Grind.flat_map-append, lemmas.List.map-append}
pub use Rattle.std.proofs.{lemmas.List.nil_from_length, lemmas.List.Elements.All-get_or, lemmas.List.Elements.All-push, lemmas.List.Elements.All-set}
pub use Rattle.std.proofs.{lemmas.List.Sums.sum_by-append, lemmas.Result.on_err_weaker, lemmas.Result.on_ok_weaker}
pub use Rattle.std.specs.{Io.KnownBytes.Appends, Io.KnownBytes.Consumes, Io.KnownBytes.IsAtEnd, List.AllByRecursion, List.concat, List.prefix_len, Str.all_scalars}
