-- What an action of a list is written as: bytes and values, and then the final character.
use Prim.Native.Char.{Char, code}
use Rattle.csicodec_actions.specs.Common.{ℕ, ℤ, List, [], pos, signed_decimal, CsiParam, Integer, P, token_text, IsSpellable, DeviceAttribute, is_number, device_attribute_number, DeviceAttributeCodes}
use Rattle.csicodec_actions.specs.{Devices.attribute_token, Kinds.Kind, Kinds.Count, Kinds.Any, Kinds.Value, Kinds.number, Kinds.Good}
use Rattle.std.specs.Prelude.{◌∷◌, ◌++◌, if◌then◌else◌, ◌≡◌}

-- a byte; a value of a kind, as its number; a value that is left out where its number is this one; an extension of a terminal, as its token
pub data Item : Type 0 where
  Byte : ℕ → Item
  The : (k : Kind) → Value k → Item
  Unless : ℕ → (k : Kind) → Value k → Item
  Attribute : DeviceAttribute → Item

abbrev pub put : Char → Item
put c = Byte (code c)

pub record Written : Type 0 where
  pub items : List Item
  pub final : ℕ

abbrev pub write : List Item → Char → Written
write items final = record { items = items; final = code final }

-- ---- what is written

-- the list that is written
abbrev pub tokens : List Item → List CsiParam
tokens [] = []
tokens (Byte b ∷ items) = P b ∷ tokens items
tokens (The k v ∷ items) = Integer (number k v) ∷ tokens items
tokens (Unless n k v ∷ items) =
    if is_number n (number k v) then tokens items else Integer (number k v) ∷ tokens items
tokens (Attribute a ∷ items) = attribute_token a ∷ tokens items

-- its text, and this behind it
abbrev pub shown : List Item → List ℕ → List ℕ
shown [] end = end
shown (Byte b ∷ items) end = b ∷ shown items end
shown (The k v ∷ items) end = signed_decimal (number k v) ++ shown items end
shown (Unless n k v ∷ items) end = if is_number n (number k v) then shown items end else signed_decimal (number k v) ++ shown items end
shown (Attribute a ∷ items) end = token_text (attribute_token a) ++ shown items end

abbrev pub written_text : Written → List ℕ
written_text w = shown w.items (w.final ∷ [])

-- ---- items that many actions have

-- a number that is left out where it is 1
abbrev pub count : ℕ → Char → Written
count n final = write (Unless 1 Count n ∷ []) final

-- a number of an enumeration that is left out where it is 0
abbrev pub choice : (k : Kind) → Value k → Char → Written
choice k c final = write (Unless 0 k c ∷ []) final

-- two numbers
abbrev pub two : (second : Kind) → ℕ → Value second → List Item
two second a b = The Count a ∷ put ";" ∷ The second b ∷ []

-- a number by itself
abbrev pub any_number : ℤ → Item
any_number z = The Any z

abbrev pub fixed : ℕ → Item
fixed n = any_number (pos n)

-- each of these, a `;` before it
abbrev pub listed : {A : Type 0} → (A → Item) → List A → List Item
listed item [] = []
listed item (a ∷ others) = put ";" ∷ item a ∷ listed item others

-- ---- what is read back

-- the token is no number of an extension that has a name, and no `;`
abbrev pub IsUnnamed : CsiParam → Type 0
IsUnnamed (Integer z) = (c : DeviceAttributeCodes) → z ≡ pos (device_attribute_number c) → ⊥
IsUnnamed (P b) = b ≡ 59 → ⊥

-- an extension that has a name, or any other token that a sequence can have
abbrev pub GoodAttribute : DeviceAttribute → Type 0
GoodAttribute (DeviceAttribute.Code c) = Unit {0}
GoodAttribute (DeviceAttribute.Unspecified t) = IsSpellable t × IsUnnamed t

-- each value is written as a number that counts as it, and each extension as its token
abbrev pub AllGood : List Item → Type 0
AllGood [] = Unit {0}
AllGood (Byte b ∷ items) = AllGood items
AllGood (The k v ∷ items) = Good k v × AllGood items
AllGood (Unless n k v ∷ items) = Good k v × AllGood items
AllGood (Attribute a ∷ items) = GoodAttribute a × AllGood items
