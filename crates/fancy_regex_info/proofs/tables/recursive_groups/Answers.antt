use Rattle.std.proofs.Common.{rules}
use Rattle.fancy_regex_info.specs.Reachability.{rows}
use Rattle.fancy_regex_info.proofs.TableLemmas.{marked_more}
use Rattle.fancy_regex_info.proofs.tables.recursive_groups.Goals as goal

pub loop-group-preserved : goal.loop-group-preserved
loop-group-preserved c = record {
  same = search rules;
  marks =
      marked_more (rows c.args.calls.now) c.loop-group.all.items c.push.new.self.items c.loop-group.group c.in_ok-is_recursive.field-0
      c.loop-group.invariant.same c.in_ok-push.ensures.items c.in_ok-is_recursive.ensures c.loop-group.invariant.marks;
}
