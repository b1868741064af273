-- What is read of bytes is in range, and by its name.
use Rattle.std.proofs.{Common.◌≡◌, Common.◌<◌, Common.ℕ, Common.List, Common.[], Common.◌∷◌, Common.Bool, Common.false, Common.true, Common.rules, Common.arith}
use Rattle.std.proofs.{Common.refl, Common.inl, Common.inr, Math.Utf8.low_scalar, lemmas.List.Elements.All-from_recursion, lemmas.List.Elements.All-weaker}
use Rattle.std.proofs.{lemmas.Bool.and_parts, lemmas.Bool.cases_Bool, lemmas.Bool.eqb-true}
use Rattle.std.specs.{Prelude.◌==◌, Prelude.◌&&◌, List.All, List.AllByRecursion}
use Rattle.csicodec_tokens.specs.{declared.param.CsiParam.CsiParam, declared.param.CsiParam.TheVariants.Integer, declared.param.CsiParam.TheVariants.P}
use Rattle.csicodec_tokens.specs.{OneBased.most, Sequence.IsSpellable, Sequence.Reads, Sequence.Spellable}
use Rattle.csicodec_actions.specs.{Actions.Action, declared.device.DeviceAttribute.DeviceAttribute, declared.xtsmgraphics.XtSmGraphicsItem.XtSmGraphicsItem}
use Rattle.csicodec_actions.specs.{declared.mode.DecPrivateMode.DecPrivateMode, declared.mode.TerminalMode.TerminalMode, declared.mouse.MouseButton.MouseButton}
use Rattle.csicodec_actions.specs.{Written.AllGood, Written.GoodAttribute, Written.Attribute, Written.listed, Kinds.GoodDec, Kinds.GoodItem, Kinds.GoodTerminal}
use Rattle.csicodec_actions.specs.{Kinds.IsOneBased, Kinds.Count, Kinds.Kind, Kinds.Last, Modes.dec_number, Modes.terminal_number, Mouse.is_release}
use Rattle.csicodec_actions.specs.{Table.Mouse.written_report, declared.cursor.Cursor.Cursor, declared.keyboard.Keyboard.Keyboard, declared.mode.Mode.Mode}
use Rattle.csicodec_actions.specs.{declared.window.Window.Window, declared.mouse.MouseReport.MouseReport}
use Rattle.csicodec_names.specs.declared.flags.Modifiers.{Modifiers}
use Rattle.csicodec_parser.specs.{Canonical.Canonical, Segments.Actions}
use Rattle.csicodec_streams.proofs.{Kept.Kept, Kept.IsParsedSpecial, Parsed.parsed-kept}
use Rattle.csicodec_structs.proofs.ModeNumbers.{dec-fits, terminal-fits}
use Rattle.csicodec_structs.specs.Structs.{AttributeInRange, IsNamedAttribute, IsNamedDec, IsNamedItem, IsNamedTerminal, TokenInRange}
use Rattle.csicodec_structs.specs.Rows.{InRange, IsNamed}
use Rattle.csicodec_base.specs.{declared.sgr.Font.Font, declared.sgr.Sgr.Sgr}
use Rattle.csicodec_actions.specs.Actions as action
use Rattle.csicodec_actions.specs.Devices as device
use Rattle.csicodec_actions.specs.Ranges as actions_ranges

most-fits : IsOneBased most
most-fits = record { above = omega arith; fits = omega arith }

-- margins all around, or both numbers
margins : (k : Kind) (a b : ℕ) (same : Bool) → (a == 1 && b == most) ≡ same → (same ≡ false → IsOneBased a × IsOneBased b) → IsOneBased a × IsOneBased b
margins k a b true e h =
    let p = and_parts (a == 1) (b == most) e in
    rw (eqb-true a 1 p.0, eqb-true b most p.1) (record { above = omega arith; fits = omega arith }, most-fits)
margins k a b false e h = h refl

dec-kept : (m : DecPrivateMode) → GoodDec m → (dec_number m < 65536) × IsNamedDec m
dec-kept (DecPrivateMode.Code c) h = (dec-fits c, tt)
dec-kept (DecPrivateMode.Unspecified n) h = (h.fits, h.own)

terminal-kept : (m : TerminalMode) → GoodTerminal m → (terminal_number m < 65536) × IsNamedTerminal m
terminal-kept (TerminalMode.Code c) h = (terminal-fits c, tt)
terminal-kept (TerminalMode.Unspecified n) h = (h.fits, h.own)

words : (b : MouseButton) (m : Modifiers) (x y : ℕ) → AllGood (written_report b m x y).items → (x < 65536) × (y < 65536)
words b m x y h = elim (cases_Bool (is_release b)) [
  | inl released ↦ (let g = rw released at h in (g.1.0, g.1.1.0))
  | inr not ↦ (let g = rw not at h in (g.1.0, g.1.1.0))
]

token-range : (t : CsiParam) → IsSpellable t → TokenInRange t
token-range (Integer z) h = tt
token-range (P b) h = omega (arith, h.0.1)

tokens-range : (list : List CsiParam) → Spellable list → AllByRecursion TokenInRange list
tokens-range [] h = tt
tokens-range (t ∷ list) h = (token-range t h.0, tokens-range list h.2)

attribute-kept : (a : DeviceAttribute) → GoodAttribute a → AttributeInRange a × IsNamedAttribute a
attribute-kept (DeviceAttribute.Code c) h = (tt, tt)
attribute-kept (DeviceAttribute.Unspecified (Integer z)) h = (tt, h.1)
attribute-kept (DeviceAttribute.Unspecified (P b)) h = (token-range (P b) h.0, tt)

attributes-good : (list : List DeviceAttribute) → AllGood (listed Attribute list) → AllByRecursion GoodAttribute list
attributes-good [] h = tt
attributes-good (a ∷ list) h = (h.0, attributes-good list h.1)

attributes-kept : (list : List DeviceAttribute) → AllGood (listed Attribute list) → All AttributeInRange list × All IsNamedAttribute list
attributes-kept list h =
    let good = All-from_recursion GoodAttribute list (attributes-good list h) in
    (All-weaker GoodAttribute AttributeInRange (λ a g. (attribute-kept a g).0) list good, All-weaker GoodAttribute IsNamedAttribute (λ a g. (attribute-kept a g).1) list good)

item-kept : (i : XtSmGraphicsItem) → GoodItem i → IsNamedItem i
item-kept (XtSmGraphicsItem.Unspecified z) h = h.1
item-kept other h = tt

canonical-kept : (a : Action) → actions_ranges.InRange a → Canonical a false → InRange a × IsNamed a
canonical-kept (action.Sgr (Sgr.Font Font.Default)) range h = (tt, tt)
canonical-kept (action.Sgr (Sgr.Font (Font.Alternate n))) range h = (h, tt)
canonical-kept (action.Sgr s) range h = (range, tt)
canonical-kept (action.Cursor (Cursor.SetTopAndBottomMargins a b)) range h = (margins Last a b (a == 1 && b == most) refl (λ e. let g = rw e at h.0 in (g.0, g.1.0)), tt)
canonical-kept (action.Cursor (Cursor.SetLeftAndRightMargins a b)) range h = (margins Count a b (a == 1 && b == most) refl (λ e. let g = rw e at h.0 in (g.0, g.1.0)), tt)
canonical-kept (action.Cursor (Cursor.Up n)) range h = (h.0.0.fits, tt)
canonical-kept (action.Cursor c) range h = (search rules, tt)
canonical-kept (action.Edit e) range h = (search rules, tt)
canonical-kept (action.Mode (Mode.SetDecPrivateMode m)) range h = dec-kept m h.0.0
canonical-kept (action.Mode m) range h = search (rules, dec-kept, terminal-kept)
canonical-kept (action.Mouse (MouseReport.SGR1006 x y b m)) range h = (words b m x y h.0, tt)
canonical-kept (action.Mouse (MouseReport.SGR1016 x y b m)) range h = (words b m x y h.0, tt)
canonical-kept (action.Device (device.DeviceAttributes (device.Vt220 list))) range h = attributes-kept list h.0.1
canonical-kept (action.Device (device.DeviceAttributes (device.Vt320 list))) range h = attributes-kept list h.0.1
canonical-kept (action.Device (device.DeviceAttributes (device.Vt420 list))) range h = attributes-kept list h.0.1
canonical-kept (action.Device (device.XtSmGraphics item action_or_status value)) range h = (tt, item-kept item h.0.0)
canonical-kept (action.Window (Window.ChecksumRectangularArea request page top left bottom right)) range h = (
  (h.0.1.1.0, h.0.1.1.1.0, h.0.1.1.1.1.0, h.0.1.1.1.1.1.0),
  tt,
)
canonical-kept (action.Keyboard (Keyboard.SetKittyState flags way)) range h = (omega (arith, h.0.0), tt)
canonical-kept (action.Keyboard k) range h = (search (rules, arith), tt)
canonical-kept (action.Unspecified params flag final) range h = ((All-from_recursion TokenInRange params (tokens-range params h.spellable), low_scalar final (omega (arith, h.ends.1))), h.same_flag)
canonical-kept other range h = (tt, tt)

special-kept : (a : Action) → IsParsedSpecial a → InRange a × IsNamed a
special-kept a (inl e) = rw e ((record { above = omega arith; fits = omega arith }, most-fits), tt)
special-kept a (inr (inl e)) = rw e (tt, tt)
special-kept a (inr (inr e)) = rw e (tt, tt)

kept : (a : Action) → Kept false a → InRange a × IsNamed a
kept a k = elim k.canonical [ inl special ↦ special-kept a special | inr canonical ↦ canonical-kept a k.range canonical ]

-- the actions of a sequence
pub read_kept : (bytes : List ℕ) (list : List CsiParam) (final : ℕ) (rest : List ℕ) (actions : List Action) → Reads bytes list final rest
    → Actions list false final actions → All InRange actions × All IsNamed actions
read_kept bytes list final rest actions reads are =
    let all = All-from_recursion (Kept false) actions (parsed-kept list false final actions reads.1.spellable reads.1.ends are) in
    (All-weaker (Kept false) InRange (λ a k. (kept a k).0) actions all, All-weaker (Kept false) IsNamed (λ a k. (kept a k).1) actions all)
