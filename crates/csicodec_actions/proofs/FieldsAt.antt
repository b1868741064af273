-- What the code finds in the fields of a list, and the text of a device whose tokens stand in one.
use Rattle.std.proofs.{Common.append_assoc, Common.append-nil, Common.add-one, Common.Bor, Common.get_or, Common.◌+◌, lemmas.Bool.cases_Bool}
use Rattle.std.proofs.{lemmas.Grind.flat_map-append, Math.Seq.take-suc}
use Rattle.std.specs.{List.flat_map, List.list_all, Fmt.decimal, Fmt.digits, Fmt.signed_decimal, Prelude.codes, Prelude.pos, Prelude.◌+ℤ◌, Bool.then_some}
use Rattle.csicodec_tokens.specs.{Param.token_text, Private.FieldsBy.is_field_token}
use Rattle.csicodec_actions.specs.{Table.Device.written_attributes, Table.Device.written_device, Table.Device.written_parameters}
use Rattle.csicodec_actions.specs.{Table.XtSmGraphics.written_graphics, XtSmGraphics.item_number, declared.xtsmgraphics.XtSmGraphicsItem.XtSmGraphicsItem}
use Rattle.csicodec_actions.specs.{Devices.attribute_token, FieldRows.ahead_of_byte, Private.FieldsBy.fields_there}
use Rattle.csicodec_actions.proofs.Common.{◌≡◌, ℕ, List, [], ◌∷◌, ◌++◌, refl, sym, ap, inl, inr, Option, None, Some, ◌∙◌, ◌<◌, length, take, arith, ℤ, ◌==◌, if◌then◌else◌, option_map, CsiParam, Integer, P, fields_of, DeviceAttribute, listed_text, written_class, Item, Attribute, any_number, listed, shown, written_text, numbers, integers}
use Rattle.csicodec_actions.specs.Devices as devices

-- items that are written as tokens, a `;` before each
shown-listed : {A : Type 0} (item : A → Item) (token : A → CsiParam) → ((a : A) (items : List Item) (end : List ℕ) → shown (item a ∷ items) end ≡ token_text (token a) ++ shown items end)
    → (all : List A) (end : List ℕ) → shown (listed item all) end ≡ listed_text token all ++ end
shown-listed item token same [] end = refl
shown-listed item token same (a ∷ others) end =
    rw (same a (listed item others) end, shown-listed item token same others end)
    (sym (ap (λ (l : List ℕ). 59 ∷ l) (append_assoc (token_text (token a)) (listed_text token others) end)))

pub class_text : (n : ℕ) (all : List DeviceAttribute) → (63 ∷ decimal n) ++ (listed_text attribute_token all ++ 99 ∷ []) ≡ written_text (written_class n all)
class_text n all = rw (shown-listed Attribute attribute_token (λ a items more. refl) all (99 ∷ [])) refl

pub graphics_text : (item : XtSmGraphicsItem) (z : ℤ) (all : List ℤ)
    → (63 ∷ (signed_decimal (item_number item) ++ 59 ∷ signed_decimal z)) ++ (listed_text Integer all ++ 83 ∷ []) ≡ written_text (written_graphics item z all)
graphics_text item z all = rw (shown-listed any_number Integer (λ a items more. refl) all (83 ∷ []), append_assoc (signed_decimal (item_number item)) (59 ∷ signed_decimal z) (listed_text Integer all ++ 83 ∷ [])) refl

-- the texts of a device whose numbers are known
pub known_texts : (written_text (written_attributes devices.Vt100WithAdvancedVideoOption) ≡ codes "?1;2c")
    × (written_text (written_attributes devices.Vt101WithNoOptions) ≡ codes "?1;0c")
    × (written_text (written_attributes devices.Vt102) ≡ codes "?6c")
    × (written_text (written_device devices.StatusReport) ≡ codes "5n")
unfolding digits
known_texts = (refl, refl, refl, refl)

pub parameters_text : (sum z : ℤ) → sum ≡ z +ℤ pos 2 → signed_decimal sum ++ codes ";1;1;128;128;1;0x" ≡ written_text (written_parameters z)
unfolding digits
parameters_text sum z is = rw is refl

-- ---- a list that has fields

-- they are those that stand there, where no byte but `;` does
pub fields-are : (list : List CsiParam) → fields_of list ≡ (if list_all is_field_token list then Some (fields_there list) else None)
fields-are [] = refl
fields-are (P b ∷ list) = grind (arith, fields-are list)
fields-are (Integer z ∷ []) = refl
fields-are (Integer z ∷ P b ∷ list) = grind (arith, fields-are list)
fields-are (Integer z ∷ Integer y ∷ list) = grind (arith, fields-are (Integer y ∷ list))

-- ---- the numbers of fields

-- they are those among its tokens
pub numbers_there : (list : List CsiParam) → integers list ≡ numbers (fields_there list)
numbers_there [] = refl
numbers_there (P b ∷ list) = numbers_there list
numbers_there (Integer z ∷ []) = refl
numbers_there (Integer z ∷ P b ∷ list) = ap (λ l. z ∷ l) (numbers_there list)
numbers_there (Integer z ∷ Integer y ∷ list) = ap (λ l. z ∷ l) (numbers_there (Integer y ∷ list))

-- one token more
pub flat_next : {X A : Type 0} (f : X → List A) (xs : List X) (i : ℕ) (d : X) (told : List A) → i < length xs → told ≡ flat_map f (take i xs) → told ++ f (get_or xs i d) ≡ flat_map f (take (i + 1) xs)
flat_next f xs i d told below is =
    rw (is, add-one, take-suc xs i d below) (sym (flat_map-append f (take i xs) (get_or xs i d ∷ []) ∙ ap (λ l. flat_map f (take i xs) ++ l) (append-nil (f (get_or xs i d)))))

-- ---- the byte at the end

abbrev pub ends : ℕ → CsiParam → List CsiParam → Option (List CsiParam)
ends b (Integer z) front = None
ends b (P c) front = if c == b then Some front else None

ends-behind : (b : ℕ) (x t : CsiParam) (front : List CsiParam) → option_map (λ l. x ∷ l) (ends b t front) ≡ ends b t (x ∷ front)
ends-behind b x (Integer z) front = refl
ends-behind b x (P c) front = elim (cases_Bool (c == b)) [ inl same ↦ rw same refl | inr other ↦ rw other refl ]

ahead-of : (b : ℕ) (front : List CsiParam) (t : CsiParam) → ahead_of_byte (Some b) (front ++ t ∷ []) ≡ ends b t front
ahead-of b [] (Integer z) = refl
ahead-of b [] (P c) = refl
ahead-of b (x ∷ []) t = ap (option_map (λ l. x ∷ l)) (ahead-of b [] t) ∙ ends-behind b x t []
ahead-of b (x ∷ y ∷ front) t = ap (option_map (λ l. x ∷ l)) (ahead-of b (y ∷ front) t) ∙ ends-behind b x t (y ∷ front)

pub at-end : (b : ℕ) (list front : List CsiParam) (t u : CsiParam) → list ≡ front ++ t ∷ [] → t ≡ u → ahead_of_byte (Some b) list ≡ ends b u front
at-end b list front t u parts is = rw (parts, is) (ahead-of b front u)

pub then-ends : (b c : ℕ) (front : Bor (List CsiParam)) → option_map (λ l. l.now) (then_some (c == b) front) ≡ ends b (P c) front.now
then-ends b c front = elim (cases_Bool (c == b)) [ inl same ↦ rw same refl | inr other ↦ rw other refl ]
