-- What definitions and contracts of this crate name of other crates, passed on from one place.
pub use Rattle.std.specs.Prelude.{ℕ, true, false, List, [], codes, Bool, not, String, string_bytes, Option, None, Some, option_map, option_and_then, unwrap_or, map, eqb, Result, Ok, Err, IfSome, OnOk, OnErr, MatchResult, IfErr, IfOk, IsErr, IsUtf8, OnSome}
pub use Rattle.std.specs.{Fmt.decimal, Fmt.digits, Fmt.format_spec, Fmt.padded_integral, Str.bytes_eq, Str.is_utf8, Str.trim, declared.alloc.Global.Global}
pub use Rattle.std.specs.{List.ends_with, Io.KnownBytes.Keeps, Io.KnownBytes.Consumes, Borrow.Bor}
pub use Rattle.csicodec_listing.specs.{Object.fault_text, Lines.last_line}
pub use Rattle.csicodec_transform.specs.{Words.run_error_text, Words.run_status, declared.error.RunError.RunError}
pub use Rattle.serde_json.specs.{Data.Data, Find.as_number, Find.as_str, Find.as_u64, Find.at, Find.get, Read.read, View.view}
