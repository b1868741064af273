-- The numbers of XTSMGRAPHICS (xterm's ctlseqs).
use Rattle.csicodec_actions.specs.Common.{ℕ, ℤ, pos, is_number, XtSmGraphicsAction, XtSmGraphicsItem, XtSmGraphicsStatus}
use Rattle.std.specs.Prelude.{◌≡◌, if◌then◌else◌}

abbrev pub item_number : XtSmGraphicsItem → ℤ
item_number XtSmGraphicsItem.NumberOfColorRegisters = pos 1
item_number XtSmGraphicsItem.SixelGraphicsGeometry = pos 2
item_number XtSmGraphicsItem.RegisGraphicsGeometry = pos 3
item_number (XtSmGraphicsItem.Unspecified n) = n

-- the item of a number
abbrev pub item_of : ℤ → XtSmGraphicsItem
item_of z =
    if is_number 1 z then XtSmGraphicsItem.NumberOfColorRegisters
    else if is_number 2 z then XtSmGraphicsItem.SixelGraphicsGeometry
    else if is_number 3 z then XtSmGraphicsItem.RegisGraphicsGeometry
    else XtSmGraphicsItem.Unspecified z

-- no item with a name has the number
abbrev pub IsUnnamedItem : ℤ → Type 0
IsUnnamedItem z = (z ≡ pos 1 → ⊥) × (z ≡ pos 2 → ⊥) × (z ≡ pos 3 → ⊥)

abbrev pub action_number : XtSmGraphicsAction → ℕ
action_number XtSmGraphicsAction.ReadAttribute = 1
action_number XtSmGraphicsAction.ResetToDefault = 2
action_number XtSmGraphicsAction.SetToValue = 3
action_number XtSmGraphicsAction.ReadMaximumAllowedValue = 4

abbrev pub status_number : XtSmGraphicsStatus → ℕ
status_number XtSmGraphicsStatus.Success = 0
status_number XtSmGraphicsStatus.InvalidItem = 1
status_number XtSmGraphicsStatus.InvalidAction = 2
status_number XtSmGraphicsStatus.Failure = 3
