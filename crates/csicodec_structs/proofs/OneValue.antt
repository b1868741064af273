-- Values by their numbers and tokens: what is by its name is found again, and everything has its like that is.
use Rattle.std.proofs.Common.{◌≡◌, ℕ, suc, List, [], ◌∷◌, Option, None, Some, length, map, refl, sym, ap, ◌∙◌, pos, inl, inr, arith}
use Rattle.std.proofs.{lemmas.Bool.cases_Bool, lemmas.Bool.eq-eqb, lemmas.Bool.false≢true, lemmas.List.Elements.All-cons, lemmas.List.Elements.All-nil}
use Rattle.std.proofs.{lemmas.List.Elements.recursion_from_All}
use Rattle.std.specs.{Prelude.ℤ, Prelude.false, Prelude.nat_abs, Prelude.◌==◌, Prelude.◌||◌, Prelude.if◌then◌else◌, List.All, List.AllByRecursion}
use Rattle.csicodec_tokens.specs.{declared.param.CsiParam.CsiParam, declared.param.CsiParam.TheVariants.Integer, declared.param.CsiParam.TheVariants.P}
use Rattle.csicodec_names.proofs.Coded.{Coded, attributes, is_number-pos, listed-number, none-found}
use Rattle.csicodec_names.specs.{DeviceNumbers.device_attribute_codes, DeviceNumbers.device_attribute_number, Numbered.is_number, Numbered.with_number}
use Rattle.csicodec_names.specs.{declared.color.ColorSpec.ColorSpec, declared.device.DeviceAttributeCodes.DeviceAttributeCodes}
use Rattle.csicodec_base.specs.declared.sgr.Font.{Font}
use Rattle.csicodec_actions.specs.{Devices.attribute_of, Devices.attribute_token, Devices.code_or_token, XtSmGraphics.item_number, XtSmGraphics.item_of}
use Rattle.csicodec_actions.specs.{declared.device.DeviceAttribute.DeviceAttribute, declared.xtsmgraphics.XtSmGraphicsItem.XtSmGraphicsItem, Actions.Action}
use Rattle.csicodec_structs.specs.Structs.{AttributeInRange, HasText, IsNamedAttribute, IsNamedItem, TokenInRange, attribute_param, font_number, param_of, value_param}
use Rattle.csicodec_structs.specs.{declared.structs.Param.Param, declared.structs.Struct.Struct, Rows.IsNamed, Rows.InRange, Rows.params_of, Rows.struct_of}
use Rattle.csicodec_structs.specs.{Private.Steps.unless}
use Rattle.csicodec_names.specs.declared.color.ColorSpec.TheVariants as color
use Rattle.csicodec_base.specs.declared.sgr.Font.TheVariants as font
use Rattle.csicodec_actions.specs.declared.device.DeviceAttribute.TheVariants as attribute
use Rattle.csicodec_actions.specs.declared.xtsmgraphics.XtSmGraphicsItem.TheVariants as item

not-number : (k : ℕ) (z : ℤ) → (z ≡ pos k → ⊥) → is_number k z ≡ false
not-number k z other = elim (cases_Bool (is_number k z)) [ inl here ↦ absurd (other (is_number-pos k z here)) | inr none ↦ none ]

-- ---- numbers

abbrev pub first_at : Struct → Option ℤ
first_at given = unless (given.absent == 1 || given.absent == 3) given.first

abbrev pub second_at : Struct → Option ℤ
second_at given = unless (given.absent == 2 || given.absent == 3) given.second

abbrev pub color_at : Struct → ColorSpec
color_at given =
    if is_number 0 given.first then color.Default
    else if is_number 1 given.first then color.PaletteIndex (nat_abs given.second)
    else color.TrueColor (record { 0 = given.red; 1 = given.green; 2 = given.blue; 3 = given.alpha })

abbrev pub font_at : ℤ → Font
font_at z = if is_number 0 z then font.Default else font.Alternate (nat_abs z)

pub font-back : (v : Font) → HasText v → font_at (pos (font_number v)) ≡ v
font-back font.Default h = refl
font-back (font.Alternate n) h = rw (not-number 0 (pos n) (λ e. (let zero : n ≡ 0 = ap nat_abs e in absurd (omega (arith, h.0, zero))))) refl

-- ---- modes

-- what finds none has the number of none
pub none-has : {C : Type 0} (number : C → ℕ) (all : List C) → Coded number all → (z : ℤ) → with_number number all z ≡ None → (c : C) → z ≡ pos (number c) → ⊥
none-has number all is z none c same = (let both : None ≡ Some c = sym none ∙ ap (with_number number all) same ∙ is.each c in cc)

-- ---- items of graphics

pub item-back : (i : XtSmGraphicsItem) → IsNamedItem i → item_of (item_number i) ≡ i
item-back item.NumberOfColorRegisters h = refl
item-back item.SixelGraphicsGeometry h = refl
item-back item.RegisGraphicsGeometry h = refl
item-back (item.Unspecified z) h = rw (not-number 1 z h.0, not-number 2 z h.1, not-number 3 z h.2) refl

pub item_named : (z : ℤ) → IsNamedItem (item_of z) × (item_number (item_of z) ≡ z)
item_named z = elim (cases_Bool (is_number 1 z)) [
  | inl one ↦ rw one (tt, sym (is_number-pos 1 z one))
  | inr no1 ↦ elim (cases_Bool (is_number 2 z)) [
    | inl two ↦ rw (no1, two) (tt, sym (is_number-pos 2 z two))
    | inr no2 ↦ elim (cases_Bool (is_number 3 z)) [
      | inl three ↦ rw (no1, no2, three) (tt, sym (is_number-pos 3 z three))
      | inr no3 ↦ rw (no1, no2, no3) ((other 1 no1, other 2 no2, other 3 no3), refl)
    ]
  ]
]
  where
    other : (k : ℕ) → is_number k z ≡ false → z ≡ pos k → ⊥
    other k not same = false≢true (sym not ∙ ap (is_number k) same ∙ eq-eqb k k refl)

-- ---- tokens

abbrev pub token_at : Param → CsiParam
token_at p = if p.kind == 0 then Integer p.value else P (nat_abs p.value)

pub tokens-back : (list : List CsiParam) → map token_at (map param_of list) ≡ list
tokens-back [] = refl
tokens-back (Integer z ∷ list) = rw (tokens-back list) refl
tokens-back (P b ∷ list) = rw (tokens-back list) refl

abbrev pub value_at : Param → ℤ
value_at p = p.value

pub values-back : (list : List ℤ) → map value_at (map value_param list) ≡ list
values-back [] = refl
values-back (z ∷ list) = rw (values-back list) refl

abbrev pub attribute_at : Param → DeviceAttribute
attribute_at p = attribute_of (token_at p)

attribute-back : (a : DeviceAttribute) → IsNamedAttribute a → attribute_at (attribute_param a) ≡ a
attribute-back (attribute.Code c) h = rw (attributes.each c) refl
attribute-back (attribute.Unspecified (Integer z)) h = rw (none-found device_attribute_number device_attribute_codes z h) refl
attribute-back (attribute.Unspecified (P b)) h = refl

pub attributes-back : (list : List DeviceAttribute) → All IsNamedAttribute list → map attribute_at (map attribute_param list) ≡ list
attributes-back list h = go list (recursion_from_All IsNamedAttribute list h)
  where
    go : (some : List DeviceAttribute) → AllByRecursion IsNamedAttribute some → map attribute_at (map attribute_param some) ≡ some
    go [] each = refl
    go (a ∷ others) each = rw (attribute-back a each.0, go others each.1) refl

-- an extension by its name, of the same token
record HasName (a b : DeviceAttribute) : Type 0 where
  in_range : AttributeInRange b
  named : IsNamedAttribute b
  same : attribute_param b ≡ attribute_param a

attribute-named : (a : DeviceAttribute) → AttributeInRange a → HasName a (attribute_of (attribute_token a))
attribute-named (attribute.Code c) range = rw (attributes.each c) (record { in_range = tt; named = tt; same = refl })
attribute-named (attribute.Unspecified (P b)) range = record { in_range = range; named = tt; same = refl }
attribute-named (attribute.Unspecified (Integer z)) range = go (with_number device_attribute_number device_attribute_codes z) refl
  where
    go : (o : Option DeviceAttributeCodes) → with_number device_attribute_number device_attribute_codes z ≡ o → HasName (attribute.Unspecified (Integer z)) (code_or_token (Integer z) o)
    go (Some c) found = record { in_range = tt; named = tt; same = ap (λ y. param_of (Integer y)) (sym (listed-number device_attribute_number device_attribute_codes z c found)) }
    go None none = record { in_range = tt; named = none-has device_attribute_number device_attribute_codes attributes z none; same = refl }

-- so of the token that says an extension
pub named_token : (t : CsiParam) → TokenInRange t → AttributeInRange (attribute_of t) × (attribute_param (attribute_of t) ≡ param_of t) × IsNamedAttribute (attribute_of t)
named_token t range = (let h = attribute-named (attribute.Unspecified t) range in (h.in_range, h.same, h.named))

pub said_range : (a : DeviceAttribute) → AttributeInRange a → TokenInRange (attribute_token a)
said_range (attribute.Code c) range = tt
said_range (attribute.Unspecified t) range = range

-- extensions so
pub record HaveNames (list : List DeviceAttribute) : Type 0 where
  pub others : List DeviceAttribute
  pub in_range : All AttributeInRange others
  pub named : All IsNamedAttribute others
  pub same : map attribute_param others ≡ map attribute_param list
  pub long : length others ≡ length list

pub attributes-named : (list : List DeviceAttribute) → All AttributeInRange list → HaveNames list
attributes-named list range = go list (recursion_from_All AttributeInRange list range)
  where
    go : (list : List DeviceAttribute) → AllByRecursion AttributeInRange list → HaveNames list
    go [] range = record { others = []; in_range = All-nil AttributeInRange; named = All-nil IsNamedAttribute; same = refl; long = refl }
    go (a ∷ list) range =
        let one = attribute-named a range.0 in
        let more = go list range.1 in
        record {
          others = attribute_of (attribute_token a) ∷ more.others;
          in_range = All-cons AttributeInRange _ more.others one.in_range more.in_range;
          named = All-cons IsNamedAttribute _ more.others one.named more.named;
          same = rw (one.same, more.same) refl;
          long = ap suc more.long;
        }

-- ---- actions

-- an action by its name, with the struct and the tokens of this one
pub record ByName (place : ℕ) (a : Action) : Type 0 where
  pub one : Action
  pub in_range : InRange one
  pub named : IsNamed one
  pub given : struct_of place one ≡ struct_of place a
  pub params : params_of one ≡ params_of a
