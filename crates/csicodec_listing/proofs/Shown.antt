-- What an object shows is what it stands for.
use Rattle.csicodec_listing.proofs.Common.{◌≡◌, ℕ, List, Bool, true, false, Option, Some, None, Ok, cond, refl, is_utf8, Data, string, Shows, of_object}
use Rattle.hex.specs.Hex.{IsBytes, encode_lower}
use Rattle.hex.proofs.HexLemmas.{decode_of-encode_lower}
use Rattle.csicodec_listing.specs.Object.{of_members}

-- the members, whether the bytes are UTF-8 or not
members : (u : Bool) (bytes : List ℕ) (text digits actions : Option Data) → IsBytes bytes
    → text ≡ cond u (Some (string bytes)) None → digits ≡ cond u None (Some (string (encode_lower bytes)))
    → of_members text digits actions ≡ Ok bytes
members true bytes text digits actions fits e f = rw (e, f) refl
members false bytes text digits actions fits e f = rw (e, f, decode_of-encode_lower bytes fits) refl

pub read_back : (d : Data) (bytes : List ℕ) → IsBytes bytes → Shows d bytes → of_object d ≡ Ok bytes
read_back d bytes fits shows =
    rw (shows.object, shows.kind) (members (is_utf8 bytes) bytes _ _ _ fits shows.member.0 shows.member.1)
