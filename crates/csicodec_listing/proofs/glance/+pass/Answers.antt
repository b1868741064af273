use Rattle.csicodec_listing.proofs.Common.{◌≡◌, ◌-◌, ◌<◌, ◌∷◌, length, Option, Some, None, refl, ap, ◌∙◌, arith, on_ok_weaker, option_map, Token, parse_map, after_end_array, read_key, items, members, value, value_is, value-begin_array, value-begin_object, read_key-shorter, Num, null, boolean, number, string, array, object, put, no_items, item, no_members, number_of, of_json, of_items, converted}
use Rattle.csicodec_listing.proofs.Member.{converted-array, converted-object, is_there, item_read, items_over, member_read, members_over, none_mapped, twice_mapped}
use Rattle.csicodec_listing.proofs.glance.+pass.Goals as goal

pub pass-returns-in-String-clause-value : goal.pass-returns-in-String-clause-value
pass-returns-in-String-clause-value t c =
    let is : c.args.reader.now ≡ Token.string c.in-String.field-0.now ∷ c.next.new.self = grind arith in
    (string c.in-String.field-0.now, ap (converted of_json) (ap (value c.args.depth) is ∙ value_is c.args.depth _))

pub pass-returns-in-Bool-clause-value : goal.pass-returns-in-Bool-clause-value
pass-returns-in-Bool-clause-value t c =
    let is : c.args.reader.now ≡ Token.boolean c.in-Bool.field-0 ∷ c.next.new.self = grind arith in
    (boolean c.in-Bool.field-0, ap (converted of_json) (ap (value c.args.depth) is ∙ value_is c.args.depth _))

pub pass-returns-in-Null-clause-value : goal.pass-returns-in-Null-clause-value
pass-returns-in-Null-clause-value t c =
    let is : c.args.reader.now ≡ Token.null ∷ c.next.new.self = grind arith in
    (null, ap (converted of_json) (ap (value c.args.depth) is ∙ value_is c.args.depth _))

pub pass-returns-in-Number-clause-value : goal.pass-returns-in-Number-clause-value
pass-returns-in-Number-clause-value t c =
    let is : c.args.reader.now ≡ Token.number c.in-Number.text.now ∷ c.next.new.self = grind arith in
    let (n, found) = is_there (number_of c.in-Number.text.now) (c.is_small.ensures c.if-is_small.true) in
    (number n, ap (converted of_json) (ap (value c.args.depth) is ∙ value_is c.args.depth _) ∙ ap (λ (o : Option Num). option_map (λ b. (b, c.next.new.self)) (option_map number o)) found)

pub pass-returns-in-BeginArray-clause-value : goal.pass-returns-in-BeginArray-clause-value
pass-returns-in-BeginArray-clause-value t c =
    let is : c.args.reader.now ≡ Token.begin_array ∷ c.next.new.self = grind arith in
    let rest = c.next.new.self in
    let opened =
    ap (converted of_json) (ap (value c.args.depth) is ∙ value-begin_array c.args.depth rest c.if-depth-gt0.true) ∙ converted-array (items (value (c.args.depth - 1)) (length rest) rest) in
    on_ok_weaker c.pass_items.result (λ found. (array found.0, opened ∙ ap (parse_map array) found.1)) c.pass_items.ensures.value

pub pass-returns-in-BeginObject-clause-value : goal.pass-returns-in-BeginObject-clause-value
pass-returns-in-BeginObject-clause-value t c =
    let is : c.args.reader.now ≡ Token.begin_object ∷ c.next.new.self = grind arith in
    let rest = c.next.new.self in
    let opened =
    ap (converted of_json) (ap (value c.args.depth) is ∙ value-begin_object c.args.depth rest c.if-depth-gt0-2.true) ∙ converted-object (members (value (c.args.depth - 1)) (length rest) rest) in
    on_ok_weaker c.pass_members.result (λ found. (object found.0, opened ∙ ap (parse_map object) found.1)) c.pass_members.ensures.value

pub pass_items-items-init : goal.pass_items-items-init
pass_items-items-init t c =
    let all = converted of_items (items (value c.args.depth) (length c.args.reader.now) c.args.reader.now) in
    (length c.args.reader.now, omega arith, (λ x. x), none_mapped all, omega arith)

pub pass_items-items-preserved : goal.pass_items-items-preserved
pass_items-items-preserved t c =
    let p = value c.args.depth in
    let l = c.items in
    let (n, enough, f, same, shorter) = l.invariant in
    let going : (after_end_array l.reader ≡ None) × (c.take_end_array.new.self ≡ l.reader) = grind arith in
    let (d, read) = c.in_ok-pass.ensures.value in
    let r = c.pass.new.reader in
    let less : length r < length l.reader = rw (← going.1) c.in_ok-pass.ensures.shorter in
    let turn = item_read p n l.reader r d (omega (arith, enough)) going.0 (rw (← going.1) read) in
    (n - 1, omega (arith, enough), (λ x. f (item d x)), same ∙ ap (parse_map f) turn ∙ twice_mapped f (item d) _, omega (arith, shorter))

pub pass_items-returns-clause-value : goal.pass_items-returns-clause-value
pass_items-returns-clause-value t c =
    let p = value c.args.depth in
    let l = c.items in
    let (n, enough, f, same, shorter) = l.invariant in
    (f no_items, same ∙ ap (parse_map f) (items_over p n l.reader c.take_end_array.new.self enough (grind arith)))

pub pass_members-members-init : goal.pass_members-members-init
pass_members-members-init t c = (length c.args.reader.now, omega arith, no_members, refl, omega arith)

pub pass_members-members-preserved : goal.pass_members-members-preserved
pass_members-members-preserved t c =
    let p = value c.args.depth in
    let l = c.members in
    let (n, enough, old, same, shorter) = l.invariant in
    let k = c.in-Some.field-0.now in
    let s = c.next_key.new.self in
    let named : read_key l.reader ≡ Some (Some k, s) = grind arith in
    let (d, read) = c.in_ok-pass.ensures.value in
    let less = read_key-shorter l.reader (Some k) s named in
    let lesser = c.in_ok-pass.ensures.shorter in
    (n - 1, omega (arith, enough), put k d old, same ∙ member_read p old n k l.reader s c.pass.new.reader d (omega (arith, enough)) named read, omega (arith, shorter))

pub pass_members-returns-clause-value : goal.pass_members-returns-clause-value
pass_members-returns-clause-value t c =
    let (n, enough, old, same, shorter) = c.members.invariant in
    (old, same ∙ members_over (value c.args.depth) old n c.members.reader c.next_key.new.self enough (grind arith))
