use Rattle.std.proofs.Common.{rules}
use Rattle.fancy_regex_linear.proofs.CallTableLemmas.{known_more, known_all}
use Rattle.fancy_regex_linear.proofs.build.are_known.Goals as goal

pub loop-i-preserved : goal.loop-i-preserved
loop-i-preserved c = record {
  same = search rules;
  marks =
      known_more c.args.called.now c.loop-i.known.items c.push.new.self.items c.loop-i.i c.index-called-i.result c.is_some-made.result
      c.loop-i.invariant.same c.loop-i-test.true c.index-called-i.is c.is_some-made.ensures c.in_ok-push.ensures.items c.loop-i.invariant.marks;
}

pub returns : goal.returns
returns c = known_all c.args.called.now c.loop-i.known.items c.loop-i.i c.loop-i.invariant.same c.loop-i-test.false c.loop-i.invariant.marks
