-- What the call that reads an OSC answers a C program.
use Rattle.std.specs.Prelude.{ℕ, ◌≡◌, ◌-◌, List, length, Option, None, Some}
use Rattle.csicodec_osc.specs.{declared.osc.Osc.Osc, Osc.Says, Osc.asked_text, Osc.list_text, Osc.said, Osc.value_of}
use Rattle.csicodec_c.specs.OscKinds.{clipboard_kind, dynamic_kind, dynamic_reset_kind, editor_mark_kind, folder_kind, kitty_notice_kind, link_kind, mark_kind, notice_kind, color_table_kind, color_table_reset_kind, pointer_kind, progress_kind, title_kind, titled_notice_kind}
use Rattle.csicodec_c.specs.declared.osc.Commanded.{Commanded}

-- a command with a text that ends the content, which has so many bytes
abbrev pub one : ℕ → ℕ → List ℕ → Commanded
one len kind text = record { kind = kind; texts = 1; first = len - length text; second = len }

-- with two, of which the second ends it, and a `;` between them
abbrev pub two : ℕ → ℕ → List ℕ → List ℕ → Commanded
two len kind a b = record { kind = kind; texts = 2; first = ((len - length b) - 1) - length a; second = len - length b }

-- with fields, or with nothing behind its number
abbrev pub with_fields : ℕ → ℕ → Option (List ℕ) → Commanded
with_fields len kind (Some text) = one len kind text
with_fields len kind None = record { kind = kind; texts = 0; first = len; second = len }

abbrev pub told : ℕ → Osc → Commanded
told len (Osc.Title t text) = one len (title_kind t) text.now
told len (Osc.Colors p list) = with_fields len (color_table_kind p) (list_text list)
told len (Osc.Color d list) = with_fields len (dynamic_kind d) (list_text list)
told len (Osc.ResetColors p list) = with_fields len (color_table_reset_kind p) (list_text list)
told len (Osc.ResetColor d list) = with_fields len (dynamic_reset_kind d) (list_text list)
told len (Osc.Link params address) = two len link_kind params.now address.now
told len (Osc.Clipboard selection content) = two len clipboard_kind selection.now (asked_text (value_of content))
told len (Osc.Folder f text) = one len (folder_kind f) text.now
told len (Osc.Prompt m list) = with_fields len (mark_kind m) (list_text list)
told len (Osc.Editor m list) = with_fields len (editor_mark_kind m) (list_text list)
told len (Osc.Progress p list) = with_fields len (progress_kind p) (list_text list)
told len (Osc.Pointer text) = one len pointer_kind text.now
told len (Osc.KittyNotice metadata payload) = two len kitty_notice_kind metadata.now payload.now
told len (Osc.TitledNotice title text) = two len titled_notice_kind title.now text.now
told len (Osc.Notice text) = one len notice_kind text.now
told len (Osc.Unknown bytes) = one len 0 bytes.now

-- the content says this
abbrev pub IsCommanded : List ℕ → Commanded → Type 0
IsCommanded content answer = (it : Osc) × Says content (said it) × (answer ≡ told (length content) it)
