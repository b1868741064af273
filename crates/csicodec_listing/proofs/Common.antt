-- What the proofs of this crate cite of other crates and of its definitions, passed on from one place.
pub use Rattle.std.proofs.Common.{◌≡◌, inl, inr, ℕ, ◌+◌, ◌-◌, ◌^◌, ◌<◌, ◌≤◌, ◌==◌, zero, suc, min, Bool, true, false, not, List, [], ◌∷◌, ◌++◌, take, length, Result, Ok, Err, cond, refl, sym, ap, subst, ◌∙◌, append_assoc, append-nil, length-append, arith, le-ltb, lt-ltb, take_all, Option, Some, None, IsSome, get_or, codes, option_and_then, option_map, IsUtf8, rules, Bor, IfSome, ◌*◌, IsTrue, ne_eqb, SomeIff, is_some, IfErr, IfOk}
pub use Rattle.std.proofs.{lemmas.Bool.and_parts, lemmas.Bool.false_from_ne_true, lemmas.Bool.not-true, lemmas.Slice.Eq.bytes_eq-Decides}
pub use Rattle.std.proofs.{lemmas.Str.is_utf8-from_IsUtf8, lemmas.Str.IsUtf8-append, lemmas.Str.IsUtf8-from_ascii, lemmas.Str.IsUtf8-from_is_utf8}
pub use Rattle.std.proofs.{lemmas.Result.on_ok_weaker, lemmas.Result.IfErr-weaker, lemmas.Result.err_from_is_err_and, lemmas.Option.IfSome_then}
pub use Rattle.std.specs.{List.concat, List.list_all, Str.bytes_eq, Str.is_utf8}
pub use Rattle.csicodec_listing.specs.{declared.object.Fault.Fault, declared.object.Fault.TheVariants.TooLong, declared.object.Fault.TheVariants.NoObject}
pub use Rattle.csicodec_listing.specs.{declared.object.Refusal.Refusal, Object.IsTold, Object.of_line, Object.is_totals, Object.of_object, Object.Shows}
pub use Rattle.csicodec_listing.specs.{Object.of_read, Private.Glance.Says, Private.Glance.Follow, Private.Glance.Stands}
pub use Rattle.fast_float.specs.Text.{IsInteger, digits_of, scan}
pub use Rattle.json.specs.Lex.{Lexeme, token, comma, colon, string_token, Place, fresh, after_comma, place_token, between, in_string, tokens, begins_colon}
pub use Rattle.json.specs.{Token.Token, Token.begin_object, Token.key, Json.parse_map, Json.after_end_array, Json.read_key, Json.items, Json.members, Json.value}
pub use Rattle.json.proofs.Grammar.{items_end, items_more, members_end, members_more, value-begin_object, value_is, value-begin_array, read_key-shorter}
pub use Rattle.serde_json.specs.Data.{Data, Items, Members, no_items, item, no_members, put, string, array, object, Num, null, boolean, number}
pub use Rattle.serde_json.specs.Read.{read, converted, number_of, of_items, of_json, of_members}
