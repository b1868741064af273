-- A line whose object begins with a place: what follows that place says what the line stands for.
use Rattle.csicodec_listing.proofs.Common.{◌≡◌, ℕ, ◌-◌, Bool, true, false, List, [], ◌∷◌, ◌++◌, length, Option, Some, None, Ok, IsSome, refl, sym, ap, ◌∙◌, subst, arith, rules, Bor, IfSome, IsUtf8-append, IsUtf8-from_ascii, IsUtf8, codes, option_map, Lexeme, token, comma, colon, string_token, Place, fresh, after_comma, place_token, between, in_string, tokens, begins_colon, Token, begin_object, key, members, parse_map, value, value-begin_object, value_is, Members, Num, no_members, put, object, converted, number_of, of_json, read, of_line, Follow, Says, Stands}
use Rattle.csicodec_listing.proofs.Member.{differs, converted-object, is_there, line_is, member_read, says_object, says_other, whole_read}
use Rattle.json.specs.{Lex.punctuate, Lex.lex, Token.number, Text.content, Text.plain, Print.IsNumber}
use Rattle.json.proofs.Printed.Numbers.{lex-number}
use Rattle.serde_json.specs.Data as values

-- ---- the lexemes

abbrev line_of : List ℕ → List ℕ → List ℕ
line_of ds more = 123 ∷ 34 ∷ 97 ∷ 116 ∷ 34 ∷ 58 ∷ (ds ++ 44 ∷ 34 ∷ more)

lexemes : (ds more : List ℕ) → IsNumber ds
    → lex between (line_of ds more) ≡ token begin_object ∷ token (Token.string (97 ∷ 116 ∷ [])) ∷ colon ∷ token (number ds) ∷ comma ∷ lex between (34 ∷ more)
unfolding lex content
lexemes ds more is =
    ap (λ (ls : List Lexeme). token begin_object ∷ token (Token.string (97 ∷ 116 ∷ [])) ∷ colon ∷ ls) (lex-number ds (44 ∷ 34 ∷ more) is refl)

-- ---- the tokens

same_place : (o : Option (List ℕ)) (b : Bool) (k : Place → List Token) → place_token after_comma (string_token o) b k ≡ place_token fresh (string_token o) b k
same_place None b k = refl
same_place (Some s) true k = refl
same_place (Some s) false k = refl

-- a string stands behind a comma as it does at the front
same_quote : (more : List ℕ) → punctuate after_comma (lex between (34 ∷ more)) ≡ tokens (34 ∷ more)
unfolding lex punctuate
same_quote more = same_place (content plain more) (begins_colon (lex in_string more)) (λ next. punctuate next (lex in_string more))

tokens_of : (ds more : List ℕ) → IsNumber ds → tokens (line_of ds more) ≡ begin_object ∷ key (97 ∷ 116 ∷ []) ∷ number ds ∷ tokens (34 ∷ more)
unfolding punctuate
tokens_of ds more is =
    ap (punctuate fresh) (lexemes ds more is) ∙ ap (λ (ts : List Token). begin_object ∷ key (97 ∷ 116 ∷ []) ∷ number ds ∷ ts) (same_quote more)

-- ---- what they are

a_number : (ds : List ℕ) (r : List Token) (n : Num) → number_of ds ≡ Some n → converted of_json (value 126 (number ds ∷ r)) ≡ Some (values.number n, r)
a_number ds r n is = ap (converted of_json) (value_is 126 (number ds ∷ r)) ∙ ap (λ (o : Option Num). option_map (λ b. (b, r)) (option_map values.number o)) is

placed : (ds text : List ℕ) (r : List Token) (n : Num) → number_of ds ≡ Some n → Follow r [] (Some text)
    → (found : Members) × (converted of_json (value 127 (begin_object ∷ key (97 ∷ 116 ∷ []) ∷ number ds ∷ r)) ≡ Some (object found, [])) × Says (Some text) found
placed ds text r n is follow =
    let p = value 126 in
    let k : List ℕ = 97 ∷ 116 ∷ [] in
    let ts : List Token = key k ∷ number ds ∷ r in
    let first : Members = put k (values.number n) no_members in
    let says : Says None first =
    says_other k (values.number n) None no_members (differs k (codes "text") refl) (differs k (codes "hex") refl) (differs k (codes "kind") refl) (refl, refl, refl) in
    let (found, members_are, now) = follow (length ts - 1) first (omega arith) says in
    let turn = member_read p no_members (length ts) k ts (number ds ∷ r) r (values.number n) (omega arith) refl (a_number ds r n is) in
    let opens = ap (converted of_json) (value-begin_object 127 ts (omega arith)) ∙ converted-object (members p (length ts) ts) in
    (found, opens ∙ ap (parse_map object) (turn ∙ members_are), now)

-- the line is UTF-8 where its number and its rest are
line_utf8 : (ds more : List ℕ) → IsUtf8 ds → IsUtf8 (34 ∷ more) → IsUtf8 (line_of ds more)
line_utf8 ds more digits rest =
    IsUtf8-append (123 ∷ 34 ∷ 97 ∷ 116 ∷ 34 ∷ 58 ∷ []) (ds ++ 44 ∷ 34 ∷ more) (IsUtf8-from_ascii (123 ∷ 34 ∷ 97 ∷ 116 ∷ 34 ∷ 58 ∷ []) (search rules))
    (IsUtf8-append ds (44 ∷ 34 ∷ more) digits (IsUtf8-append (44 ∷ []) (34 ∷ more) (IsUtf8-from_ascii (44 ∷ []) (search rules)) rest))

of_placed : (ds more text : List ℕ) → IsUtf8 (line_of ds more) → IsNumber ds → IsSome (number_of ds) → Follow (tokens (34 ∷ more)) [] (Some text) → of_line (line_of ds more) ≡ Ok text
of_placed ds more text utf8 is some follow =
    let line = line_of ds more in
    let (n, small) = is_there (number_of ds) some in
    let (found, all, says) = placed ds text (tokens (34 ∷ more)) n small follow in
    let whole : read line ≡ Some (object found) = whole_read (value 127 (tokens line)) (object found) (ap (λ (ts : List Token). converted of_json (value 127 ts)) (tokens_of ds more is) ∙ all) in
    line_is line line (object found) utf8 refl whole ∙ says_object text found says

-- the text that was found stands alone where nothing follows
pub text_last : (text : Option (Bor (List ℕ))) (ts rest : List Token) → rest ≡ [] → Follow ts rest (option_map (λ s. s.now) text) → IfSome text (λ s. Follow ts [] (Some s.now))
text_last None ts rest none follow = tt
text_last (Some s) ts rest none follow = subst (λ (r : List Token). Follow ts r (Some s.now)) none follow

pub stands : (rest text : List ℕ) → IsUtf8 rest → Follow (tokens rest) [] (Some text) → Stands rest text
stands rest text utf8 follow = λ line placed.
    let (ds, more, is, quoted, num, some, digits) = placed in
    let same : line ≡ line_of ds more = is ∙ ap (λ (r : List ℕ). codes "{\"at\":" ++ ds ++ 44 ∷ r) quoted in
    subst (λ (l : List ℕ). of_line l ≡ Ok text) (sym same)
    (of_placed ds more text (line_utf8 ds more digits (subst IsUtf8 quoted utf8)) num some (subst (λ (r : List ℕ). Follow (tokens r) [] (Some text)) quoted follow))

-- what was read of the rest
pub stands_read : (rest line text given : List ℕ) (ts : List Token) → IsUtf8 rest → ts ≡ tokens line → line ≡ rest → given ≡ text → Follow ts [] (Some text) → Stands rest given
stands_read rest line text given ts utf8 read_of same is follow =
    let of_rest : ts ≡ tokens rest = read_of ∙ ap tokens same in
    subst (λ (t : List ℕ). Stands rest t) (sym is) (stands rest text utf8 (subst (λ (l : List Token). Follow l [] (Some text)) of_rest follow))
