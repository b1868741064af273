use Rattle.std.proofs.Common.{◌++◌}
use Rattle.csicodec_clean.proofs.Told.{more_came}
use Rattle.csicodec_clean.proofs.check.Checked.push.Goals as goal

pub returns : goal.returns
returns g c =
    let class = g.C.CharClass.class in
    let old = c.args.self.now in
    let outside = c.pass.ensures.outside in
    let waits = rw c.deref.ensures.value at c.waits.ensures in
    record {
      stands = λ before s. c.pass.ensures.stands (before ++ c.args.bytes.now)
          (rw c.in_ok-extend_from_slice.ensures.items (more_came class before old.rest.items c.args.bytes.now old.at old.line s));
      outside = outside;
      short = waits.short;
      over = λ no. let (some, sure) = waits.sure no in (some, λ more char is. outside char (let same = sure.1 more in cc));
      sure = λ no. (waits.sure no).1;
    }
