-- The names that many proofs here cite, passed on from one place. Declares nothing.
pub use Rattle.csicodec_actions.specs.Actions.{Action}
pub use Rattle.csicodec_clean.proofs.Plain.{all_both}
pub use Rattle.csicodec_clean.specs.Page.{IsPageWith, IsSafe, PageWith, Setting, are_paired, closing, first_set, setting, turned}
pub use Rattle.csicodec_clean.specs.{Saving.are_lasting, Saving.behind_all, Saving.behind_effect, Saving.effect_of, Saving.escape_effect, Saving.is_lasting, Saving.looks}
pub use Rattle.csicodec_clean.specs.{Saving.sets, Saving.sets_any, declared.saving.Effect.Effect, declared.saving.Looks.Looks}
pub use Rattle.csicodec_clean.specs.{Addresses.led, Cleaned.Ends, Cleaned.Strips, Cleaned.longest, Links.ends_at, Shown.IsShown}
pub use Rattle.csicodec_html.specs.Rule.{closes, turns}
pub use Rattle.csicodec_looks.specs.Pieces.{Char, IsHarmless, Open, Piece, escaped, leads, page_bytes, piece_bytes, piece_text, piece_texts, pieces_bytes, shuts, switch, turn}
pub use Rattle.csicodec_looks.specs.{Classes.class_name, Classes.names, Look.css, Look.settled, declared.classes.Class.Class, declared.look.Look.Look}
pub use Rattle.csicodec_looks.specs.{declared.markup.Markup.Markup}
pub use Rattle.csicodec_parser.specs.ActionOf.{action_of}
pub use Rattle.std.proofs.{lemmas.Bool.cond_both, lemmas.Bool.Decides.nat_tests, lemmas.Grind.flat_map-append, lemmas.Result.on_ok_weaker}
pub use Rattle.std.specs.List.{AllByRecursion}
pub use lib.Utf8.{scalar}
