use Rattle.csicodec_listing.proofs.Common.{◌≡◌, ◌-◌, Some, refl, ◌∙◌, arith, read_key, value, read_key-shorter, put}
use Rattle.csicodec_listing.proofs.Member.{member_read, members_over}
use Rattle.csicodec_listing.proofs.glance.text_member.Goals as goal

pub members-init : goal.members-init
members-init c = λ m first enough says. (m, enough, first, refl, says)

pub members-preserved : goal.members-preserved
members-preserved c = λ m first all none.
    let p = value 126 in
    let l = c.members in
    let (n, enough, old, same, says) = l.invariant m first all none in
    let k = c.in-Some.name.now in
    let s = c.next_key.new.self in
    let named : read_key l.reader ≡ Some (Some k, s) = grind arith in
    let (d, read, now) = c.in_ok-text.ensures.said in
    let less = read_key-shorter l.reader (Some k) s named in
    let lesser = c.in_ok-text.ensures.shorter in
    (n - 1, omega (arith, enough, less, lesser), put k d old, same ∙ member_read p old n k l.reader s c.take_member.new.reader d (omega (arith, enough, less)) named read, now old says)

pub returns : goal.returns
returns c = λ m first all none.
    let (n, enough, old, same, says) = c.members.invariant m first all none in
    (old, same ∙ members_over (value 126) old n c.members.reader c.next_key.new.self enough (grind arith), says)
