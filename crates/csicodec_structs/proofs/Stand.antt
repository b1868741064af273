-- Structs that stand for actions: one more, and for which one each.
use Rattle.std.proofs.Common.{◌≡◌, ℕ, ◌+◌, ◌<◌, List, [], ◌∷◌, ◌++◌, length, map, take, drop, slice_index_or, subst, sym, ap, refl, ◌∙◌, arith, append-nil}
use Rattle.std.proofs.lemmas.List.{flat_map_more, length-map, map-append, take_more}
use Rattle.csicodec_parser.specs.{declared.actions.CSI.CSI, ActionOf.action_of}
use Rattle.csicodec_actions.specs.{Actions.Action, Table.text}
use Rattle.csicodec_structs.specs.{declared.encode.Encoded.Encoded, declared.structs.Param.Param, declared.structs.Struct.Struct, Encode.AllStand}
use Rattle.csicodec_structs.specs.{Encode.IsDone, Encode.IsPut, Encode.OneAction, Encode.Stands, Private.Steps.AreTexts, Private.Steps.IsOwn, Rows.params_of}
use Rattle.csicodec_structs.specs.{Rows.struct_of, Structs.attribute_param, Structs.param_of, Structs.value_param}
use Rattle.csicodec_structs.proofs.OneAction.{action-named, same-action}
use Rattle.csicodec_names.specs.declared.color.ColorSpec.TheVariants as color
use Rattle.csicodec_base.specs.declared.sgr.Sgr.TheVariants as sgr
use Rattle.csicodec_actions.specs.declared.cursor.Cursor.TheVariants as cursor
use Rattle.csicodec_actions.specs.declared.edit.Edit.TheVariants as edit
use Rattle.csicodec_actions.specs.declared.mode.Mode.TheVariants as mode
use Rattle.csicodec_actions.specs.declared.mouse.MouseReport.TheVariants as mouse
use Rattle.csicodec_actions.specs.Devices as device
use Rattle.csicodec_actions.specs.declared.window.Window.TheVariants as window
use Rattle.csicodec_actions.specs.declared.keyboard.Keyboard.TheVariants as keyboard
use Rattle.csicodec_actions.specs.Actions as action

stand_snoc : (structs : List Struct) (params : List Param) (actions : List Action) (p : Struct) (a : Action) → AllStand structs params actions
    → Stands p params a → AllStand (structs ++ p ∷ []) params (actions ++ a ∷ [])
stand_snoc [] params [] p a all one = (one, tt)
stand_snoc [] params (b ∷ actions) p a all one = absurd all
stand_snoc (q ∷ structs) params [] p a all one = absurd all
stand_snoc (q ∷ structs) params (b ∷ actions) p a all one = (all.0, stand_snoc structs params actions p a all.1 one)

pub stand_more : (structs : List Struct) (params : List Param) (actions : List Action) (i : ℕ) (d : Struct) (a : Action) → i < length structs →
    AllStand (take i structs) params actions → Stands (slice_index_or structs i d) params a → AllStand (take (i + 1) structs) params (actions ++ a ∷ [])
stand_more structs params actions i d a low all one =
    subst (λ (l : List Struct). AllStand l params (actions ++ a ∷ [])) (sym (take_more structs i d low)) (stand_snoc (take i structs) params actions (slice_index_or structs i d) a all one)

pub stand_more_mapped : (structs : List Struct) (params : List Param) (list : List CSI) (i : ℕ) (d : Struct) (csi : CSI) → i < length structs →
    AllStand (take i structs) params (map action_of list) → Stands (slice_index_or structs i d) params (action_of csi) → AllStand (take (i + 1) structs) params (map action_of (list ++ csi ∷ []))
stand_more_mapped structs params list i d csi low all one =
    subst (λ (l : List Action). AllStand (take (i + 1) structs) params l) (sym (map-append action_of list (csi ∷ []))) (stand_more structs params (map action_of list) i d (action_of csi) low all one)

-- the texts of one action more
pub texts_more : (structs : List Struct) (params : List Param) (before new : List ℕ) (i : ℕ) (d : Struct) (csi : CSI) → i < length structs →
    AreTexts (take i structs) params before → Stands (slice_index_or structs i d) params (action_of csi) → new ≡ before ++ text (action_of csi) → AreTexts (take (i + 1) structs) params new
texts_more structs params before new i d csi low are one is =
    let a = action_of csi in
    record {
      actions = are.actions ++ a ∷ [];
      stand = stand_more structs params are.actions i d a low are.stand one;
      joined = is ∙ (ap (λ l. l ++ text a) are.joined ∙ flat_map_more text [] are.actions a);
    }

-- a struct says how many tokens its action has
long : (place : ℕ) (a : Action) → (struct_of place a).len ≡ length (params_of a)
long place (action.Sgr (sgr.UnderlineColor color.Default)) = refl
long place (action.Sgr (sgr.Foreground color.Default)) = refl
long place (action.Sgr (sgr.Background color.Default)) = refl
long place (action.Cursor cursor.SaveCursor) = refl
long place (action.Edit (edit.Repeat n)) = refl
long place (action.Mode (mode.SetMode v)) = refl
long place (action.Mouse (mouse.SGR1006 x y button modifiers)) = refl
long place (action.Device (device.DeviceAttributes (device.Vt220 list))) = sym (length-map list attribute_param)
long place (action.Device (device.DeviceAttributes (device.Vt320 list))) = sym (length-map list attribute_param)
long place (action.Device (device.DeviceAttributes (device.Vt420 list))) = sym (length-map list attribute_param)
long place (action.Device (device.XtSmGraphics item action_or_status value)) = sym (length-map value value_param)
long place (action.Window window.Iconify) = refl
long place (action.Keyboard keyboard.QueryKittySupport) = refl
long place (action.Unspecified params flag final) = sym (length-map params param_of)
long place other = refl

-- a struct stands for an action that has no tokens
pub short_stands : (given : Struct) (a : Action) (short : List ℕ) → IsOwn [] a → struct_of given.place a ≡ given → short ≡ text a
    → (params : List Param) → AreTexts (given ∷ []) params short
short_stands given a short (in_range, bare, named) same is params =
    let none : given.len ≡ 0 = sym (ap (λ (p : Struct). p.len) same) ∙ (long given.place a ∙ ap length bare) in
    record {
      actions = a ∷ [];
      stand = (((in_range, same, bare ∙ ap (λ n. take n (drop given.place params)) (sym none)), named), tt);
      joined = is ∙ sym (append-nil (text a));
    }

-- the one struct of a list
one_struct : (structs : List Struct) (d : Struct) → length structs ≡ 1 → structs ≡ slice_index_or structs 0 d ∷ []
one_struct [] d one = absurd (omega (arith, one))
one_struct (x ∷ []) d one = refl
one_struct (x ∷ y ∷ structs) d one = absurd (omega (arith, one))

-- texts that are put
pub texts_done : (structs : List Struct) (params : List Param) (old new all : List ℕ) (answer : Encoded) → AreTexts structs params all → IsPut old new all answer
    → IsDone structs params old new answer
texts_done structs params old new all answer are put = record {
  actions = are.actions;
  stand = are.stand;
  put = subst (λ (l : List ℕ). IsPut old new l answer) are.joined put;
}

pub one_done : (structs : List Struct) (params : List Param) (old new all : List ℕ) (d : Struct) (answer : Encoded) → length structs ≡ 1
    → AreTexts (slice_index_or structs 0 d ∷ []) params all → IsPut old new all answer → IsDone structs params old new answer
one_done structs params old new all d answer one are put =
    texts_done structs params old new all answer (subst (λ (l : List Struct). AreTexts l params all) (sym (one_struct structs d one)) are) put

-- of the actions with one struct and its tokens there is one by its name
pub one_stands : (given : Struct) (params : List Param) → OneAction given params
one_stands given params a has =
    let like = action-named given.place a has.0 in
    let one : Stands given params like.one = ((like.in_range, like.given ∙ has.1, like.params ∙ has.2), like.named) in
    let only = λ (c : Action) (other : Stands given params c). same-action given.place c like.one other.0.0 other.1 one.0.0 one.1 (other.0.1 ∙ sym one.0.1) (other.0.2 ∙ sym one.0.2) in
    (like.one, one, only)
