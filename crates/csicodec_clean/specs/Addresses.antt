-- Where a link may lead: to a host, by http or https (RFC 9110, 4.2).
use Rattle.std.specs.Prelude.{ℕ, ◌==◌, Bool, true, false, not, ◌&&◌, ◌||◌, if◌then◌else◌, List, [], ◌∷◌, length, take, drop, codes}
use Rattle.std.specs.{Char.is_ascii_alphanumeric, Str.str_eq_ignore_ascii_case}

-- a byte of a host, or of the port behind it (RFC 3986, 3.2.2 and 3.2.3): a letter, a digit, `-`, `.` or `_`, `[` and `]` around an
-- address of IPv6, and `:`
abbrev pub is_host_byte : ℕ → Bool
is_host_byte b =
    is_ascii_alphanumeric b || (b == 45 || (b == 46 || (b == 95 || (b == 91 || (b == 93 || b == 58)))))

-- what ends them where anything follows: a path, a query or a fragment (RFC 3986, 3.2)
abbrev pub ends_host : ℕ → Bool
ends_host b = b == 47 || (b == 63 || b == 35)

-- up to the end, or to what ends a host, only such bytes stand. So `@` doesn't, and no user has a name there (RFC 9110, 4.2.4)
abbrev pub is_host_on : List ℕ → Bool
is_host_on [] = true
is_host_on (b ∷ bytes) = if is_host_byte b then is_host_on bytes else ends_host b

-- a host stands in front: a port alone is none (RFC 9110, 4.2.1)
abbrev pub has_host : List ℕ → Bool
has_host [] = false
has_host (b ∷ bytes) = is_host_byte b && (not (b == 58) && is_host_on bytes)

-- the scheme, whose letters have no case (RFC 3986, 3.1), and a host behind it
abbrev pub leads_by : List ℕ → List ℕ → Bool
leads_by scheme url =
    str_eq_ignore_ascii_case (take (length scheme) url) scheme && has_host (drop (length scheme) url)

abbrev pub is_web : List ℕ → Bool
is_web url = leads_by (codes "http://") url || leads_by (codes "https://") url

-- where a link to the address leads: there, or nowhere, which is no address
abbrev pub led : List ℕ → List ℕ
led url = if is_web url then url else []
