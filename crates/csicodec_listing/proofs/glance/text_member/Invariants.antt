use Rattle.csicodec_listing.proofs.Common.{◌≡◌, ℕ, ◌≤◌, length, None, option_map, members, value, Members, of_members, converted, Says}
use Rattle.csicodec_listing.proofs.glance.text_member.Given as goal

-- behind members without a text, the members that are left go into those that were passed, of which the text is known
abbrev pub invariant-members : goal.invariant-members
invariant-members l =
    (m : ℕ) (first : Members) → length l.initial.reader ≤ m → Says None first → (n : ℕ) × (length l.reader ≤ n) × (old : Members)
    × (converted (λ ms. of_members ms first) (members (value 126) m l.initial.reader) ≡ converted (λ ms. of_members ms old) (members (value 126) n l.reader))
    × Says (option_map (λ s. s.now) l.text) old

abbrev pub decreases-members : goal.decreases-members
decreases-members l = length l.reader
