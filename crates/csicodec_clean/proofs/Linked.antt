-- Links, byte by byte, and where they lead.
use Rattle.std.proofs.Common.{◌≡◌, ◌≤◌, ◌<◌, ◌+◌, ℕ, Bool, true, false, List, [], ◌∷◌, ◌++◌, length, length-append, refl, sym, ap, ◌∙◌, append_assoc, append-nil, arith, ◌==◌, ◌&&◌, codes, not}
use Rattle.std.proofs.lemmas.Bool.{and_right}
use Rattle.csicodec_clean.proofs.Common.{cond_both, nat_tests, AllByRecursion, Address, Begun, IsLink, IsWithin, admitted, all_behind, begun, behind_at, ends_at, is_linked, is_param, is_visible, link_body, links_at, links_in, next, LinkState, is_host_on}
use Rattle.csicodec_clean.proofs.Plain.{all_both}
use Rattle.csicodec_clean.specs.{Links.longest_params, Links.longest_url, Addresses.ends_host, Addresses.has_host, Addresses.is_host_byte, Addresses.is_web}
use Rattle.csicodec_clean.specs.{Addresses.led}

-- ---- addresses that lead nowhere

-- what has a user's name in front
none_on : (user rest : List ℕ) → AllByRecursion (λ b. ends_host b ≡ false) user → is_host_on (user ++ 64 ∷ rest) ≡ false
none_on [] rest h = refl
none_on (b ∷ user) rest h = cond_both (is_host_byte b) (is_host_on (user ++ 64 ∷ rest)) (ends_host b) (λ t. t ≡ false) (λ e. none_on user rest h.1) (λ e. h.0)

pub no_host : (user rest : List ℕ) → AllByRecursion (λ b. ends_host b ≡ false) user → has_host (user ++ 64 ∷ rest) ≡ false
no_host [] rest h = refl
no_host (b ∷ user) rest h =
    and_right (is_host_byte b) (not (b == 58) && is_host_on (user ++ 64 ∷ rest)) (and_right (not (b == 58)) (is_host_on (user ++ 64 ∷ rest)) (none_on user rest h.1))

-- where it leads by http, it doesn't by https
pub no_web : (user rest : List ℕ) → AllByRecursion (λ b. ends_host b ≡ false) user → is_web (codes "http://" ++ (user ++ 64 ∷ rest)) ≡ false
no_web user rest h = rw (no_host user rest h) refl

-- what leads there is no other address
pub led_twice : (url : List ℕ) → led (led url) ≡ led url
led_twice url = cond_both (is_web url) url [] (λ t. led t ≡ t) (λ e. rw e refl) (λ e. refl)

-- ---- bytes behind bytes

pub links_on : (passing : Bool) (xs ys : List ℕ) (b : Begun) → links_in passing b (xs ++ ys) ≡ links_in passing b xs ++ links_in passing (all_behind passing b xs) ys
links_on passing [] ys b = refl
links_on passing (x ∷ xs) ys b =
    let n = next passing b x in
    ap (λ (t : List Address). links_at passing b x ++ t) (links_on passing xs ys n) ∙ sym (append_assoc (links_at passing b x) (links_in passing n xs) (links_in passing (all_behind passing n xs) ys))

pub behind_on : (passing : Bool) (xs ys : List ℕ) (b : Begun) → all_behind passing b (xs ++ ys) ≡ all_behind passing (all_behind passing b xs) ys
behind_on passing [] ys b = refl
behind_on passing (x ∷ xs) ys b = behind_on passing xs ys (next passing b x)

pub linked_on : (linked : Bool) (xs ys : List Address) → is_linked linked (xs ++ ys) ≡ is_linked (is_linked linked xs) ys
linked_on linked [] ys = refl
linked_on linked (a ∷ xs) ys = linked_on (not (length a.url == 0)) xs ys

-- where no links pass
pub links_none : (bytes : List ℕ) (b : Begun) → links_in false b bytes ≡ []
links_none [] b = refl
links_none (c ∷ bytes) b = links_none bytes b

-- ---- what has come of a link may pass

fine_at : (p : LinkState) (params url : List ℕ) (c : ℕ) → IsWithin (begun p params url).address → IsWithin (behind_at p params url c).address
fine_at p params url c h = grind (arith, nat_tests, all_both {T = ℕ}, length-append {A = ℕ})

fine_next : (passing : Bool) (b : Begun) (c : ℕ) → IsWithin b.address → IsWithin (next passing b c).address
fine_next true b c h = fine_at b.place b.address.params b.address.url c h
fine_next false b c h = h

pub fine_behind : (passing : Bool) (bytes : List ℕ) (b : Begun) → IsWithin b.address → IsWithin (all_behind passing b bytes).address
fine_behind passing [] b h = h
fine_behind passing (c ∷ bytes) b h = fine_behind passing bytes (next passing b c) (fine_next passing b c h)

fine_admitted : (a : Address) → IsWithin a → IsLink (admitted a)
fine_admitted a h =
    let Short = λ (url : List ℕ). AllByRecursion (λ b. is_visible b ≡ true) url × (length url ≤ longest_url) in
    let (url, short) = cond_both (is_web a.url) a.url [] Short (λ e. (h.url, h.short)) (λ e. (tt, omega arith)) in
    record { within = record { params = h.params; few = h.few; url = url; short = short }; leads = led_twice a.url }

pub fine_links : (passing : Bool) (bytes : List ℕ) (b : Begun) → IsWithin b.address → AllByRecursion IsLink (links_in passing b bytes)
fine_links passing [] b h = tt
fine_links passing (c ∷ bytes) b h =
    let rest = fine_links passing bytes (next passing b c) (fine_next passing b c h) in
    cond_both (passing && ends_at b.place c) (admitted b.address ∷ []) [] (λ t. AllByRecursion IsLink (t ++ links_in passing (next passing b c) bytes)) (λ _. (fine_admitted b.address h, rest)) (λ _. rest)

-- ---- a link is read as it is

no_bell : (c : ℕ) → is_visible c ≡ true → (c == 7) ≡ false
no_bell c h = grind (arith, nat_tests)

one_param : (params url : List ℕ) (c : ℕ) → is_param c ≡ true → length params < longest_params → behind_at LinkState.Params params url c ≡ begun LinkState.Params (params ++ c ∷ []) url
one_param params url c h room = grind (arith, nat_tests)

one_url : (params url : List ℕ) (c : ℕ) → is_visible c ≡ true → length url < longest_url → behind_at LinkState.Url params url c ≡ begun LinkState.Url params (url ++ c ∷ [])
one_url params url c h room = grind (arith, nat_tests)

-- from here over the bytes no link is over, and this has come then
abbrev pub Reads : Begun → List ℕ → Begun → Type 0
Reads b bytes after = (links_in true b bytes ≡ []) × (all_behind true b bytes ≡ after)

reads_on : (b mid after : Begun) (xs ys : List ℕ) → Reads b xs mid → Reads mid ys after → Reads b (xs ++ ys) after
reads_on b mid after xs ys h k =
    (rw (links_on true xs ys b, h.0, h.1) k.0, rw (behind_on true xs ys b, h.1) k.1)

params_read : (ps params url : List ℕ) → AllByRecursion (λ b. is_param b ≡ true) ps → length params + length ps ≤ longest_params
    → Reads (begun LinkState.Params params url) ps (begun LinkState.Params (params ++ ps) url)
params_read [] params url h room = (refl, ap (λ (t : List ℕ). begun LinkState.Params t url) (sym (append-nil params)))
params_read (c ∷ ps) params url h room =
    let later = params_read ps (params ++ c ∷ []) url h.1 (omega (arith, room, length-append params (c ∷ []))) in
    rw (one_param params url c h.0 (omega (arith, room))) (later.0, later.1 ∙ ap (λ (t : List ℕ). begun LinkState.Params t url) (append_assoc params (c ∷ []) ps))

url_read : (us params url : List ℕ) → AllByRecursion (λ b. is_visible b ≡ true) us → length url + length us ≤ longest_url → Reads (begun LinkState.Url params url) us (begun LinkState.Url params (url ++ us))
url_read [] params url h room = (refl, ap (λ (t : List ℕ). begun LinkState.Url params t) (sym (append-nil url)))
url_read (c ∷ us) params url h room =
    let later = url_read us params (url ++ c ∷ []) h.1 (omega (arith, room, length-append url (c ∷ []))) in
    rw (no_bell c h.0, one_url params url c h.0 (omega (arith, room))) (later.0, later.1 ∙ ap (λ (t : List ℕ). begun LinkState.Url params t) (append_assoc url (c ∷ []) us))

-- behind `ESC ]`
pub body_read : (a : Address) (params url : List ℕ) → IsWithin a → Reads (begun LinkState.Opened params url) (link_body a) (begun LinkState.Url a.params a.url)
body_read a params url h =
    let first : Reads (begun LinkState.Opened params url) (56 ∷ 59 ∷ []) (begun LinkState.Params [] url) = (refl, refl) in
    let named = params_read a.params [] url h.params (omega (arith, h.few)) in
    let mid : Reads (begun LinkState.Params a.params url) (59 ∷ []) (begun LinkState.Url a.params []) = (refl, refl) in
    let all = url_read a.url a.params [] h.url (omega (arith, h.short)) in
    let end = begun LinkState.Url a.params a.url in
    let later = reads_on (begun LinkState.Params a.params url) (begun LinkState.Url a.params []) end (59 ∷ []) a.url mid all in
    reads_on (begun LinkState.Opened params url) (begun LinkState.Params [] url) end (56 ∷ 59 ∷ []) (a.params ++ 59 ∷ a.url) first
    (reads_on (begun LinkState.Params [] url) (begun LinkState.Params a.params url) end a.params (59 ∷ a.url) named later)

-- what passes of a link does, whatever link came before
pub passes : (a : Address) (params url end : List ℕ) → IsWithin a → links_in true (begun LinkState.Url a.params a.url) end ≡ admitted a ∷ []
    → links_in true (begun LinkState.Outside params url) (27 ∷ 93 ∷ (link_body a ++ end)) ≡ admitted a ∷ []
passes a params url end h over =
    let body = body_read a params url h in
    links_on true (link_body a) end (begun LinkState.Opened params url) ∙ ap (λ (t : List Address). t ++ links_in true (all_behind true (begun LinkState.Opened params url) (link_body a)) end) body.0
    ∙ ap (λ (t : Begun). links_in true t end) body.1 ∙ over

-- one that may pass is that itself
pub itself : (a : Address) → IsLink a → admitted a ≡ a
itself a h = ap (λ (t : List ℕ). (begun LinkState.Outside a.params t).address) h.leads
