use Rattle.csicodec_overwrite.proofs.Written.{front_on, none_taken}
use Rattle.csicodec_overwrite.proofs.overwriter.Overwriter.take_pieces.Goals as goal

pub loop-odd-init : goal.loop-odd-init
loop-odd-init c = record { passes = none_taken c.args.self.now c.args.bytes.now c.args.out.now.items c.requires; reader = c.requires }

pub loop-odd-preserved : goal.loop-odd-preserved
loop-odd-preserved c = record {
  passes = front_on (front_on c.loop-odd.invariant.passes c.in_ok-odd.ensures.passes) (rw c.in-Some.is at c.in_ok-behind.ensures.passes);
  reader = c.in_ok-behind.ensures.reader;
}

pub returns-in_default-clause-passes : goal.returns-in_default-clause-passes
returns-in_default-clause-passes c =
    let (same, out) = rw c.in_default.is at c.in_ok-behind.ensures.none in
    rw (same, out) (front_on c.loop-odd.invariant.passes c.in_ok-odd.ensures.passes)

pub returns-then-begins_line-clause-passes : goal.returns-then-begins_line-clause-passes
returns-then-begins_line-clause-passes c =
    front_on (front_on c.loop-odd.invariant.passes c.in_ok-odd.ensures.passes) (rw c.in-Some.is at c.in_ok-behind.ensures.passes)
