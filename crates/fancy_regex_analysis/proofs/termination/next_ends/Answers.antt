use Rattle.std.proofs.Common.{rules}
use Rattle.fancy_regex_analysis.specs.TerminationFixpoint.{ends_in}
use Rattle.fancy_regex_analysis.proofs.TerminationFixpointLemmas.{ends_more, ends_all}
use Rattle.fancy_regex_analysis.proofs.termination.next_ends.Goals as goal

pub loop-group-preserved : goal.loop-group-preserved
loop-group-preserved c = record {
  same = search rules;
  ends =
      ends_more c.args.groups.now (ends_in c.args.ends.now) c.loop-group.next.items c.push.new.self.items c.loop-group.group
      c.index-groups-group.result c.can_end_in.result c.loop-group.invariant.same c.loop-group-test.true c.index-groups-group.is
      c.in_ok-push.ensures.items c.can_end_in.ensures c.loop-group.invariant.ends;
}

pub returns : goal.returns
returns c =
    ends_all c.args.groups.now (ends_in c.args.ends.now) c.loop-group.next.items c.loop-group.group
    c.loop-group.invariant.same c.loop-group-test.false c.loop-group.invariant.ends
