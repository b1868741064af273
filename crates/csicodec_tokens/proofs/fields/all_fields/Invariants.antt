use Rattle.std.proofs.Common.{◌≡◌, true, List, Option, Some, ℤ, ◌++◌, length, ◌≤◌, map}
use Rattle.std.specs.List.{AllByRecursion, list_all}
use Rattle.csicodec_tokens.specs.{Fields.fields_of, Private.FieldsBy.is_field_token, Private.FieldsBy.number_in, Private.FieldsBy.IsField}
use Rattle.csicodec_tokens.proofs.fields.all_fields.Given as goal

-- Whatever fields the rest has complete the list.
abbrev pub invariant-loop-field : goal.invariant-loop-field
invariant-loop-field l = record {
  tokens : list_all is_field_token l.rest ≡ true;
  shorter : length l.rest ≤ length l.params;
  kept : AllByRecursion IsField l.fields.items;
  completes : (tail : List (Option ℤ)) → fields_of l.rest ≡ Some tail → fields_of l.params ≡ Some (map number_in l.fields.items ++ tail);
}

abbrev pub decreases-loop-field : goal.decreases-loop-field
decreases-loop-field l = length l.rest
