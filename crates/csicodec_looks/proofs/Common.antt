-- The names that many proofs here cite, passed on from one place. Declares nothing.
pub use Rattle.csicodec_looks.proofs.{Fronts.all_both, Fronts.all_weaker, Fronts.encoded, Fronts.front_in, Fronts.is_shown, Recalled.same_look}
pub use Rattle.csicodec_looks.specs.Cells.{begins_behind, belongs, chars_of, columns, emptied, erased, glyph, gone, is_blank, is_empty, narrowed, of_tab, onto, outside, shifted, takes, to_tab_stop, trimmed, untabbed, width, without}
pub use Rattle.csicodec_looks.specs.Line.{Done, HasRoom, alters, before, behind_columns, blank, cells_of, do_all, does, does_here, done, entered, fits, forward, in_row, leave, line, lines_of, most, over, parted, pen_behind, pen_behind_all, placed, put, repeat, repeated, size, standing, target, widest}
pub use Rattle.csicodec_looks.specs.Paint.{ended, further, look_of, paint, same, shows_looks, text_of, texts_of, turn, written}
pub use Rattle.csicodec_looks.specs.Pieces.{IsHarmless, Open, escaped, leads, page_bytes, piece_bytes, piece_texts, pieces_bytes, shuts, stands}
pub use Rattle.csicodec_looks.specs.Plain.{AreFull, IsLineByte, IsUntabbed, PutsRun, closed, glyphs, last_of, line_byte, untabbed_byte}
pub use Rattle.csicodec_looks.specs.{Bytes.IsPlainByte, Bytes.plain_byte, Classes.IsClass, Classes.class_name, Classes.ground_color, Classes.names}
pub use Rattle.csicodec_looks.specs.{Classes.text_color, Look.css, Look.has_line, Look.hex_color, Look.hex_digit, Look.plain, Look.settled, Palette.color_at}
pub use Rattle.csicodec_looks.specs.{Row.Does, Row.StillDoes, Row.shown_by, Sheet.color_rules, Shown.IsShown, Shown.shown, Sides.passed, Sides.placed_many}
pub use Rattle.csicodec_looks.specs.{Sides.put_many, Steps.of_char, Steps.of_chars, Turns.IsTurn, Xterm.distance, Xterm.palette, declared.cells.Cell.Cell}
pub use Rattle.csicodec_looks.specs.{declared.cells.Cell.TheVariants.Behind, declared.cells.Cell.TheVariants.Char, declared.cells.Cell.TheVariants.Empty}
pub use Rattle.csicodec_looks.specs.{declared.cells.Cell.TheVariants.Mark, declared.cells.Glyph.Glyph, declared.classes.Class.Class, declared.classes.Layer.Layer}
pub use Rattle.csicodec_looks.specs.{declared.line.Line.Line, declared.look.Look.Look, declared.marking.Marking.Marking, declared.marking.Marking.TheVariants.Page}
pub use Rattle.csicodec_looks.specs.{declared.marking.Marking.TheVariants.Plain, declared.marking.Marking.TheVariants.Styled, declared.markup.Markup.Markup}
pub use Rattle.csicodec_looks.specs.{declared.palette.Palette.Palette, declared.pen.Pen.Pen, declared.step.Step.Step}
pub use Rattle.csicodec_names.specs.{declared.color.ColorSpec.ColorSpec, declared.color.Intensity.Intensity, declared.color.SrgbaTuple.SrgbaTuple}
pub use Rattle.csicodec_names.specs.{declared.color.Underline.Underline}
pub use Rattle.csicodec_tokens.proofs.Lanes.{counted}
pub use Rattle.std.proofs.Common.{Bool, List, None, OnOk, Option, Some, [], ap, append-nil, append_assoc, arith, cond, drop, encode_utf8_all, false, flat_map, get_or, leb, length, length-append, length-take-le, max, min, nat_le, nat_lt, refl, replicate, reverse, rules, slice_index, subst, suc, sym, take, take-append-drop, true, unwrap_or, vec_capacity, vec_len, zero, ℕ, ⊎_elim, ◌*◌, ◌++◌, ◌+◌, ◌-◌, ◌<◌, ◌==◌, ◌∙◌, ◌∷◌, ◌≡◌, ◌≤◌}
pub use Rattle.std.proofs.lemmas.List.{drop_at, length-drop, length-replicate, length-reverse, replicate-append-replicate, reverse-append, reverse-reverse, take-append-le, take_all, take_at, take_more}
pub use Rattle.std.proofs.{lemmas.Bool.and_parts, lemmas.Bool.cases_Bool, lemmas.Bool.cases_lt, lemmas.Bool.cond_both, lemmas.Bool.eqb-true, lemmas.Bool.false≢true}
pub use Rattle.std.proofs.{lemmas.Bool.Decides.nat_tests, lemmas.Grind.flat_map-append, lemmas.Result.on_ok_weaker, lemmas.Simd.zip2_of_maps}
pub use Rattle.std.proofs.{lemmas.Simd.zip2_splat, lemmas.Simd.zip2_splat_left, lemmas.Str.encodes-append as encoded_on}
pub use Rattle.std.specs.List.{AllByRecursion, list_all, prefix_len}
