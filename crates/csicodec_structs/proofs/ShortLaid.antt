-- What is put of a list that was read.
use Rattle.std.specs.Prelude.{ℤ, map, pos}
use Rattle.std.proofs.Common.{◌≡◌, ◌⊎◌, ◌<◌, ◌+◌, ◌-◌, ℕ, List, [], ◌∷◌, ◌++◌, length, Some, None, refl, ap, sym, ◌∙◌, inl, inr, append-nil, arith}
use Rattle.std.proofs.lemmas.List.{length-map}
use Rattle.csicodec_tokens.specs.{declared.param.CsiParam.CsiParam, declared.param.CsiParam.TheVariants.Integer, declared.param.CsiParam.TheVariants.P}
use Rattle.csicodec_tokens.specs.{Sequence.IsFinal, Private.Reading.IsFirstToken}
use Rattle.csicodec_base.specs.declared.sgr.Sgr.{Sgr}
use Rattle.csicodec_actions.specs.{declared.cursor.Cursor.Cursor, declared.edit.Edit.Edit, declared.mode.Change.Change}
use Rattle.csicodec_actions.specs.{declared.mode.DecPrivateMode.DecPrivateMode, Actions.Action, Actions.Sgr as Styled, Kinds.read, Modes.changed}
use Rattle.csicodec_actions.specs.{Modes.dec_number, Table.unboxed, Table.whole, Table.Cursor.as_cursor, Table.Edit.as_edit}
use Rattle.csicodec_actions.proofs.Values.{dec-numbered}
use Rattle.csicodec_parser.specs.{Groups.group, declared.group.Group.TheVariants.DecModes}
use Rattle.csicodec_parser.proofs.Fronts.{front_empty, front_stuck}
use Rattle.csicodec_streams.proofs.RowGroups.{whole-group}
use Rattle.csicodec_structs.specs.Rows.{cursor_struct, edit_struct, mode_struct, params_of, sgr_struct, struct_of}
use Rattle.csicodec_structs.specs.Private.Short.{AreStyles, HasLaid, HasOne, IsRow, ReadsOn, change_final, style_struct}
use Rattle.csicodec_structs.specs.{Next.IsDone, Next.IsRefused, Next.Lays, Next.all_params, Next.structs, Private.Steps.PutsBehind, Private.Steps.done}
use Rattle.csicodec_structs.specs.{Room.laid, declared.next.NextSequence.NextSequence, declared.structs.Param.Param, declared.structs.Struct.Struct}
use Rattle.csicodec_structs.specs.{declared.attributes.AttributeParts.AttributeParts}
use Rattle.csicodec_structs.proofs.{Fronts.front_answer, Laid.laid_none, Laid.lays_more, Laid.lays_none, Styled.one_token, Styled.read_whole}
use Rattle.csicodec_actions.specs.Actions as action

-- ---- rows

whole_row : (list : List CsiParam) (final : ℕ) (a : Action) (given : Struct) → whole list final ≡ Some a → given ≡ struct_of 0 a → params_of a ≡ [] → IsRow list final given
whole_row list final a given e made none = (a, rw (whole-group list final a e) (inl (a, e, refl)), made, none)

pub cursor_row : (list : List CsiParam) (final : ℕ) (c : Cursor) (given : Struct) → as_cursor list final ≡ Some (action.Cursor c) → given ≡ cursor_struct c → IsRow list final given
unfolding whole unboxed
cursor_row list final c given moves made = whole_row list final (action.Cursor c) given (rw moves refl) made refl

pub edit_row : (list : List CsiParam) (final : ℕ) (d : Edit) (given : Struct) → as_cursor list final ≡ None → as_edit list final ≡ Some (action.Edit d) → given ≡ edit_struct d
    → IsRow list final given
unfolding whole unboxed
edit_row list final d given none edits made = whole_row list final (action.Edit d) given (rw (none, edits) refl) made refl

changes : (c : Change) (z : ℤ) → (group (P 63 ∷ Integer z ∷ []) (change_final c) ≡ DecModes c) × IsFinal (change_final c)
changes Change.Set z = (refl, (omega arith, omega arith))
changes other z = (refl, (omega arith, omega arith))

-- a mode's struct has its number, by whatever name
same_struct : (c : Change) (m : DecPrivateMode) (n : ℕ) → dec_number m ≡ n → mode_struct (changed c (DecPrivateMode.Unspecified n)) ≡ mode_struct (changed c m)
same_struct Change.Set m n is = rw is refl
same_struct other m n is = rw is refl

pub mode_row : (n : ℕ) (c : Change) (given : Struct) → n < 65536 → given ≡ mode_struct (changed c (DecPrivateMode.Unspecified n)) → IsRow (P 63 ∷ Integer (pos n) ∷ []) (change_final c) given
mode_row n c given low made =
    let (m, found, is) = dec-numbered n low in
    let number = Integer (pos n) ∷ [] in (
      action.Mode (changed c m),
      rw (changes c (pos n)).0 (record {
        pieces = action.Mode (changed c m) ∷ [];
        rest = [];
        cut = (number, [], refl, record { tokens = number; piece = (n, m, ([], refl), refl, found, refl); whole = inr (refl, λ more e. cc) }, refl);
        stuck = front_stuck (DecModes c) [] (front_empty (DecModes c));
        all = refl;
      }),
      made ∙ same_struct c m n is,
      refl,
    )

pub change_ends : (c : Change) → IsFinal (change_final c)
change_ends c = (changes c (pos 0)).1

-- ---- numbers in front

pub none_read : (body : List ℕ) → HasOne body 0 body
none_read body = ([], inr (refl, refl), refl)

pub one_read : (body behind : List ℕ) (n : ℕ) → IsFirstToken body (Integer (pos n)) behind → HasOne body n behind
one_read body behind n first = (Integer (pos n) ∷ [], inl refl, one_token body behind (Integer (pos n)) first)

pub pair_read : (body mid text rest : List ℕ) (a b : ℕ) → IsFirstToken body (Integer (pos a)) mid → IsFirstToken mid (P 59) text → IsFirstToken text (Integer (pos b)) rest
    → ReadsOn body (Integer (pos a) ∷ P 59 ∷ Integer (pos b) ∷ []) rest
pair_read body mid text rest a b first mark second = (mid, first, (text, mark, (rest, second, refl)))

-- ---- what is put

-- what a put says
abbrev pub PutsAt : ℕ → Struct → List Struct → List Struct → Type 0
PutsAt place given now next = (old items : List Struct) → now ≡ laid old items → place ≡ length items → next ≡ laid old (items ++ given ∷ [])

no_params : (params : List Param) → PutsBehind params params 0 [] 0
no_params params = record { ends = refl; puts = λ old before is at. is ∙ ap (laid old) (sym (append-nil before)) }

-- the one action, which has no tokens
puts_one : (ao an : List Struct) (given : Struct) (a : Action) → given ≡ struct_of 0 a → params_of a ≡ [] → PutsAt 0 given ao an
    → (params : List Param) → Lays ao an params params (record { actions = 1; params = 0 }) (a ∷ [])
puts_one ao an given a made none puts params =
    lays_more ao ao an params params params (record { actions = 0; params = 0 }) 1 0 given [] a (lays_none ao params) made puts (rw none (no_params params)) refl

pub row_laid : (body rest after : List ℕ) (ao an : List Struct) (list : List CsiParam) (final : ℕ) (given : Struct) → ReadsOn body list rest → IsFinal final → rest ≡ final ∷ after
    → IsRow list final given → PutsAt 0 given ao an → HasLaid body ao an 1 after
row_laid body rest after ao an list final given read is e (a, are, made, none) puts = record {
  list = list;
  final = final;
  reads = read_whole body rest after list final read is e;
  all = a ∷ [];
  are = are;
  lays = puts_one ao an given a made none puts;
}

sgr_structs : (place : ℕ) (all : List Sgr) → structs place (map Styled all) ≡ map sgr_struct all
sgr_structs place [] = refl
sgr_structs place (s ∷ all) = ap (λ (l : List Struct). sgr_struct s ∷ l) (sgr_structs (place + 0) all)

sgr_params : (all : List Sgr) → all_params (map Styled all) ≡ []
sgr_params [] = refl
sgr_params (s ∷ all) = sgr_params all

pub styles_laid : (body after : List ℕ) (ao an : List Struct) (styles : List AttributeParts) (count : ℕ) → AreStyles body styles (109 ∷ after) → count ≡ length styles
    → an ≡ laid ao (map style_struct styles) → HasLaid body ao an count after
styles_laid body after ao an styles count s long puts = record {
  list = s.list;
  final = 109;
  reads = read_whole body (109 ∷ after) after s.list 109 s.reads (omega arith, omega arith) refl;
  all = map Styled s.all;
  are = s.are;
  lays = λ params. record {
    actions = long ∙ sym (length-map styles style_struct) ∙ ap length s.same ∙ length-map s.all sgr_struct ∙ sym (length-map s.all Styled);
    params = rw (sgr_params s.all) refl;
    lays_actions = puts ∙ rw (s.same, sgr_structs 0 s.all) refl;
    lays_params = rw (sgr_params s.all) (sym (laid_none params));
  };
}

-- ---- the answer

pub short_answer : (bytes body : List ℕ) (ao an : List Struct) (params : List Param) (count : ℕ) (after : List ℕ) (answer : NextSequence) → bytes ≡ 27 ∷ 91 ∷ body
    → HasLaid body ao an count after → answer ≡ done (length bytes - length after) count 0 → IsDone bytes ao an params params answer ⊎ IsRefused bytes ao an params params answer
short_answer bytes body ao an params count after answer e g is =
    front_answer bytes after g.list g.final ao an params params (Some (record { actions = count; params = 0 })) answer (rw e g.reads) (g.all, g.are, g.lays params) is
