use Rattle.std.proofs.Common.{List, ℕ, ap, subst, take}
use Rattle.csicodec_clean.proofs.{Common.IsLeft, Common.keeping, Chunks.within_near, Coded.given}
use Rattle.csicodec_clean.specs.{Links.come, Styled.Spelled}
use Rattle.csicodec_clean.proofs.styles.KeptRule.take_at_once.Goals as goal

pub returns-then-known-eq0 : goal.returns-then-known-eq0
returns-then-known-eq0 c =
    let k = c.self.inside in
    let after = c.take_new.new.rendition in
    let old = c.args.out.now.items in
    let new = c.take_new.new.out.items in
    let (fits, same) = within_near c.args.limit c.in_ok-len.len c.args.bytes.now _ c.near-front.ensures c.in_ok-len.ensures.within in
    rw (← c.self.view_is) (record {
      within = fits;
      taken = λ some. given (keeping k.passing k.rendition k.linked (come k.link)) _ after old new
          (subst (λ (t : List ℕ). IsLeft k.passing t k.rendition after old new) same (c.in_ok-len.ensures.left some));
      none = λ none. let h = c.in_ok-len.ensures.none none in (ap (λ (r : Spelled). keeping k.passing r k.linked (come k.link)) h.0, h.1);
    })

pub returns-then-branch-clause-taken : goal.returns-then-branch-clause-taken
returns-then-branch-clause-taken c = λ some.
    let k = c.self.inside in
    let own = take c.look-known.result c.args.bytes.now in
    rw (← c.self.view_is) (given (keeping k.passing k.rendition k.linked (come k.link)) own c.append_noted.new.rendition c.args.out.now.items c.append_noted.new.out.items
    (c.in_ok-append_noted.ensures.left c.if-branch.true own (c.look-known.ensures.noted some)))
