-- The names that many proofs here cite, passed on from one place. Declares nothing.
pub use Rattle.bstr.proofs.{lemmas.EncodeLemmas.lossy_chars-encode, lemmas.PieceLemmas.lossy_chars-nil, lemmas.PieceLemmas.piece-bounds}
pub use Rattle.bstr.proofs.{lemmas.PieceLemmas.value-12, lemmas.PieceLemmas.value-6, lemmas.PieceLemmas.value-9, lemmas.SoundLemmas.SpellsChar-decoded}
pub use Rattle.bstr.specs.Utf8.{decoded, lossy_chars}
pub use Rattle.csicodec_actions.specs.{Actions.Action, Actions.Unspecified, Ranges.ColorInRange, Ranges.SgrInRange, Table.text, Table.texts}
pub use Rattle.csicodec_base.specs.SgrText.{sgr_text}
pub use Rattle.csicodec_clean.specs.Cleaned.{AreGiven, AreSteps, EndOf, Ends, IsStep, RuleOf, Strips, drops, ends_bare, is_text, longest, stripped}
pub use Rattle.csicodec_clean.specs.Links.{Address, Begun, IsLink, IsWithin, admitted, all_behind, begun, behind_at, ends_at, is_linked, is_param, is_visible, link_body, link_text, links_at, links_in, next, start}
pub use Rattle.csicodec_clean.specs.Shown.{IsBehind, IsPlain, IsRead, IsShown, IsTextOf, Writing, chars_as, run_as, shown, shown_chars, shown_text, written}
pub use Rattle.csicodec_clean.specs.Stream.{AreTaken, Between, Closing, GoesBy, IsFrontOf, Takes, start_of, with_more}
pub use Rattle.csicodec_clean.specs.Styled.{AreLeft, IsSafe, IsStyledIn, Item, Keeping, Leaves, Link, Shown, Style, StylesIn, begun_behind, ends_of, first_kept, hides, item_texts, items_behind, keeping, keeps, link_in, links_of, resets, run_behind, shown_items, styles_of}
pub use Rattle.csicodec_clean.specs.{Addresses.is_host_on, Check.IsOutside, Check.Stands, Private.Notes.IsLeft, Private.Notes.IsNoted, Private.Steps.GoesTo}
pub use Rattle.csicodec_clean.specs.{Private.Steps.IsOther, Private.Steps.ReadsTo, Private.Steps.Tells, Private.Steps.bare_at, Private.Steps.state_of}
pub use Rattle.csicodec_clean.specs.{Sets.as_read, Sets.first_reading, Sets.first_sets, Sets.passed, Sets.read_behind}
pub use Rattle.csicodec_clean.specs.{Streams.StreamsOne, Titles.read_as, Titles.title_behind, Titles.title_open, Titles.with_titles}
pub use Rattle.csicodec_clean.specs.{declared.links.LinkState.LinkState, declared.styles.Passing.Passing}
pub use Rattle.csicodec_looks.specs.{Bytes.plain_byte, Xterm.reduced, declared.xterm.Depth.Depth}
pub use Rattle.csicodec_names.specs.{declared.color.ColorSpec.ColorSpec, declared.color.SrgbaTuple.SrgbaTuple}
pub use Rattle.csicodec_parser.specs.{ActionOf.action_of, Cut.semicolon, Groups.group, Segments.Actions, declared.group.Group.Group}
pub use Rattle.csicodec_parser.specs.{declared.group.Group.TheVariants.Styles}
pub use Rattle.csicodec_spans.proofs.{Agrees.opens, Missed.fit, Missed.rest_is, Once.parts_more, Once.parts_on, Once.whole_once, OneSpan.none_unsure}
pub use Rattle.csicodec_spans.proofs.{OneSpan.singles}
pub use Rattle.csicodec_spans.specs.Parts.{Allows, AreFirstParts, IsFirstPart, IsSequence, IsSpan, IsUnsure, IsWhole, Part, bytes_of, left_over, part}
pub use Rattle.csicodec_spans.specs.{Table.Answer, declared.table.Kind.Kind, declared.table.Mode.Mode}
pub use Rattle.csicodec_streams.proofs.{Exactly.alone-only, Parsed.canonical-alone, Parsed.parsed-kept}
pub use Rattle.csicodec_streams.specs.Exact.{ReadsAlone}
pub use Rattle.csicodec_terminal.specs.Terminal.{IsTakenFor, has_unknown}
pub use Rattle.csicodec_tokens.specs.{Sequence.Reads, Sequence.Seq, declared.param.CsiParam.CsiParam, declared.param.CsiParam.TheVariants.Integer}
pub use Rattle.csicodec_tokens.specs.{declared.param.CsiParam.TheVariants.P}
pub use Rattle.csicodec_transform.specs.Transform.{PassesOf, Sends}
pub use Rattle.std.proofs.{Math.Seq.drop-append_seam, Math.Seq.take-append_seam, lemmas.Bool.and_from, lemmas.Bool.and_parts, lemmas.Bool.cond_both}
pub use Rattle.std.proofs.{lemmas.Bool.Decides.nat_tests, lemmas.Grind.common_steps, lemmas.Grind.flat_map-append, lemmas.List.drop-append-le}
pub use Rattle.std.proofs.{lemmas.List.map-append, lemmas.List.take_more, lemmas.Result.on_err_weaker, lemmas.Result.on_ok_weaker}
pub use Rattle.std.specs.{Char.IsScalar, Io.KnownBytes.Consumes, List.AllByRecursion, List.concat, Str.all_scalars}
pub use lib.Utf8.{scalar}
