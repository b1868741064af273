-- Members and items that are passed, and what is known of them.
use Rattle.csicodec_listing.proofs.Common.{◌≡◌, ℕ, ◌-◌, ◌<◌, ◌≤◌, ◌^◌, List, [], false, length, Option, Some, None, Ok, IsSome, refl, sym, ap, ◌∙◌, lt-ltb, get_or, subst, bytes_eq-Decides, is_utf8-from_IsUtf8, codes, ◌==◌, option_and_then, option_map, IsUtf8, bytes_eq, IsInteger, digits_of, scan, Token, parse_map, after_end_array, read_key, items, members, items_end, items_more, members_end, members_more, Data, Items, Members, no_items, item, no_members, put, string, array, object, read, converted, of_items, of_json, of_members, is_totals, of_line, of_object, Says}
use Rattle.serde_json.specs.Read.{number_of}
use Rattle.serde_json.proofs.Views.{get_member-put, get_member-put_other}
use Rattle.json.specs.Json as json

-- digits alone below 2^64 are a number
pub small : (s : List ℕ) → (get_or s 0 0 == 45) ≡ false → IsInteger (scan s) → digits_of (scan s) < 2 ^ 64 → IsSome (number_of s)
unfolding number_of
small s other whole less = rw (other, lt-ltb 0 _ whole.0, whole.1, whole.2, lt-ltb _ _ less) refl

pub is_there : {A : Type 0} (o : Option A) → IsSome o → (a : A) × (o ≡ Some a)
is_there None some = absurd (cc some)
is_there (Some a) some = (a, refl)

-- ---- what `json` reads, a step at a time, under the conversion to data

found : {A B : Type 0} (a : A) (r s : List Token) (x : Option B) (b : B) → option_map {U = B × List Token} (λ y. (y, r)) x ≡ Some (b, s) → (r ≡ s) × (x ≡ Some b)
found a r s None b e = absurd (cc)
found {B = B} a r s (Some y) b e = let same : ◌≡◌ {A = B × List Token} (y, r) (b, s) = cc in (ap (λ p. p.1) same, ap (λ p. Some p.0) same)

converted_some : {A B : Type 0} (f : A → Option B) (o : Option (A × List Token)) (b : B) (r : List Token) → converted f o ≡ Some (b, r) → (a : A) × (o ≡ Some (a, r)) × (f a ≡ Some b)
converted_some f None b r e = absurd (cc)
converted_some f (Some p) b r e = let both = found p.0 p.1 r (f p.0) b e in (p.0, ap (λ s. Some (p.0, s)) both.0, both.1)

twice : {A B : Type 0} (g : A → B) (r : List Token) (x : Option A) → option_map (λ b. (b, r)) (option_map g x) ≡ parse_map g (option_map (λ a. (a, r)) x)
twice g r None = refl
twice g r (Some a) = refl

pub converted-array : (o : Option (json.Items × List Token)) → converted of_json (parse_map json.array o) ≡ parse_map array (converted of_items o)
converted-array None = refl
converted-array (Some p) = twice array p.1 (of_items p.0)

pub converted-object : (o : Option (json.Members × List Token)) → converted of_json (parse_map json.object o) ≡ parse_map object (converted (λ ms. of_members ms no_members) o)
converted-object None = refl
converted-object (Some p) = twice object p.1 (of_members p.0 no_members)

with_item : (j : json.Json) (d : Data) → of_json j ≡ Some d → (o : Option (json.Items × List Token)) → converted of_items (parse_map (json.item j) o) ≡ parse_map (item d) (converted of_items o)
with_item j d e None = refl
with_item j d e (Some p) = rw e (twice (item d) p.1 (of_items p.0))

with_member : (k : List ℕ) (j : json.Json) (d : Data) (old : Members) → of_json j ≡ Some d → (o : Option (json.Members × List Token))
    → converted (λ ms. of_members ms old) (parse_map (json.member k j) o) ≡ converted (λ ms. of_members ms (put k d old)) o
with_member k j d old e None = refl
with_member k j d old e (Some p) = rw e

module _ (p : json.Parse json.Json) where
  pub item_read : (n : ℕ) (ts r : List Token) (d : Data) → 0 < n → after_end_array ts ≡ None → converted of_json (p ts) ≡ Some (d, r)
      → converted of_items (items p n ts) ≡ parse_map (item d) (converted of_items (items p (n - 1) r))
  item_read n ts r d some going e = let j = converted_some of_json (p ts) d r e in ap (converted of_items) (items_more p n ts r j.0 some going j.1) ∙ with_item j.0 d j.2 _

  pub items_over : (n : ℕ) (ts r : List Token) → length ts ≤ n → after_end_array ts ≡ Some r → converted of_items (items p n ts) ≡ Some (no_items, r)
  items_over n ts r enough e = ap (converted of_items) (items_end p n ts r enough e)

  pub member_read : (old : Members) (n : ℕ) (k : List ℕ) (ts s r : List Token) (d : Data) → 0 < n → read_key ts ≡ Some (Some k, s) → converted of_json (p s) ≡ Some (d, r)
      → converted (λ ms. of_members ms old) (members p n ts) ≡ converted (λ ms. of_members ms (put k d old)) (members p (n - 1) r)
  member_read old n k ts s r d some key e =
      let j = converted_some of_json (p s) d r e in
      ap (converted (λ ms. of_members ms old)) (members_more p n k ts s r j.0 some key j.1) ∙ with_member k j.0 d old j.2 _

  pub members_over : (old : Members) (n : ℕ) (ts r : List Token) → length ts ≤ n → read_key ts ≡ Some (None, r) → converted (λ ms. of_members ms old) (members p n ts) ≡ Some (old, r)
  members_over old n ts r enough e = ap (converted (λ ms. of_members ms old)) (members_end p n ts r enough e)

pub whole_read : (o : Option (json.Json × List Token)) (d : Data) → converted of_json o ≡ Some (d, [])
    → option_and_then of_json (option_and_then (λ p. json.if_last p.0 p.1) o) ≡ Some d
whole_read o d e = let j = converted_some of_json o d [] e in ap (λ o. option_and_then of_json (option_and_then (λ p. json.if_last p.0 p.1) o)) j.1 ∙ j.2

pub twice_mapped : (f g : Items → Items) (r : Option (Items × List Token)) → parse_map f (parse_map g r) ≡ parse_map (λ x. f (g x)) r
twice_mapped f g None = refl
twice_mapped f g (Some p) = refl

pub none_mapped : (r : Option (Items × List Token)) → r ≡ parse_map (λ x. x) r
none_mapped None = refl
none_mapped (Some p) = refl

-- ---- what the members say

pub differs : (a b : List ℕ) → bytes_eq a b ≡ false → b ≡ a → ⊥
differs a b other e = let same = (bytes_eq-Decides a b).1 (sym e) in cc

-- a member that has another name than those that mean something
pub says_other : (name : List ℕ) (d : Data) (text : Option (List ℕ)) (found : Members)
    → (codes "text" ≡ name → ⊥) → (codes "hex" ≡ name → ⊥) → (codes "kind" ≡ name → ⊥) → Says text found → Says text (put name d found)
says_other name d text found no_text no_hex no_kind says = (
  get_member-put_other (codes "text") name d found no_text ∙ says.0,
  get_member-put_other (codes "hex") name d found no_hex ∙ says.1,
  rw (get_member-put_other (codes "kind") name d found no_kind) says.2,
)

pub says_text : (text : Option (List ℕ)) (s : List ℕ) (found : Members) → Says text found → Says (Some s) (put (codes "text") (string s) found)
says_text text s found says = (
  get_member-put (codes "text") (string s) found,
  get_member-put_other (codes "hex") (codes "text") (string s) found (differs (codes "text") (codes "hex") refl) ∙ says.1,
  rw (get_member-put_other (codes "kind") (codes "text") (string s) found (differs (codes "text") (codes "kind") refl)) says.2,
)

pub says_kind : (text : Option (List ℕ)) (s : List ℕ) (found : Members) → is_totals (Some s) ≡ false → Says text found → Says text (put (codes "kind") (string s) found)
says_kind text s found other says = (
  get_member-put_other (codes "text") (codes "kind") (string s) found (differs (codes "kind") (codes "text") refl) ∙ says.0,
  get_member-put_other (codes "hex") (codes "kind") (string s) found (differs (codes "kind") (codes "hex") refl) ∙ says.1,
  rw (get_member-put (codes "kind") (string s) found) other,
)

pub says_object : (s : List ℕ) (found : Members) → Says (Some s) found → of_object (object found) ≡ Ok s
says_object s found says = rw (says.2, says.0, says.1) refl

-- what is read of a line that is UTF-8
pub line_is : (line text : List ℕ) (d : Data) → IsUtf8 line → text ≡ line → read text ≡ Some d → of_line line ≡ of_object d
line_is line text d utf8 same is =
    let found : read line ≡ Some d = subst (λ (t : List ℕ). read t ≡ Some d) same is in
    rw (is_utf8-from_IsUtf8 line utf8, found) refl
