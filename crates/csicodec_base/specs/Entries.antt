-- A number that sets nothing alone.
use Rattle.std.specs.Prelude.{[], None}
use Rattle.csicodec_base.specs.declared.entries.Entry.{Entry}

abbrev pub blank : Entry
blank = record { attribute = None; text = []; len = 0 }
