-- What the proofs of this crate cite of other crates and of its definitions, passed on from one place.
pub use Rattle.std.proofs.Common.{◌≡◌, ◌≢◌, ◌==◌, ◌-◌, ◌++◌, suc, ◌∷◌, ◌∙◌, ℕ, Bool, true, false, cond, List, [], Option, None, Some, length, take, not, refl, sym, ap, subst, append_assoc, append-nil, arith, eqb-true, ne_eqb, take-append-drop, IfSome, IsUtf8, option_map, Bor, if◌then◌else◌, inl, inr, ◌⊎◌, Result, Ok, Err, drop, get_or, ◌≤◌, ◌+◌, ◌<◌, map, codes}
pub use Rattle.std.proofs.{lemmas.Str.IsUtf8-from_is_utf8, lemmas.Str.is_utf8-from_IsUtf8, Math.Dec.eqb-suc-zero, lemmas.List.Elements.All-head}
pub use Rattle.std.proofs.{lemmas.List.Elements.All-tail, KnownBytes.Keeps-refl, KnownBytes.Keeps-trans, KnownBytes.Consumes-nil, KnownBytes.Consumes-trans}
pub use Rattle.std.proofs.{lemmas.List.at_drop_more, lemmas.List.length-map, Math.ListN.drop_of_length-le, Output.has_written_of_eq, lemmas.Str.Pattern.ends_text}
pub use Rattle.std.specs.{Io.KnownBytes.Consumes, Io.KnownBytes.Keeps, Io.KnownBytes.prepend_known, Io.Chain.chain_remaining}
pub use Rattle.csicodec_command.specs.Recorded.{Event, data_from, is_over, line_says, lines_from, lines_left, says, written, left}
