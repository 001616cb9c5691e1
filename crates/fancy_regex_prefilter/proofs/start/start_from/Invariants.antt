use Rattle.std.proofs.Common.{◌≡◌, ◌-◌, ◌+◌, ◌≤◌}
use Rattle.std.specs.List.{filter}
use Rattle.fancy_regex_meaning.specs.Positions.{boundaries}
use Rattle.fancy_regex_meaning.specs.Searches.{first_item}
use Rattle.fancy_regex_prefilter.specs.RunContexts.{may_start, seek_of}
use Rattle.fancy_regex_prefilter.proofs.start.start_from.Given as goal

abbrev pub invariant-loop-cursor : goal.invariant-loop-cursor
invariant-loop-cursor l = record {
  same : first_item (filter (may_start l.run.text.now (seek_of l.run)) (boundaries l.run.text.now l.from l.run.input.now.range.end))
      ≡ first_item (filter (may_start l.run.text.now (seek_of l.run)) (boundaries l.run.text.now l.cursor l.run.input.now.range.end));
  from : l.from ≤ l.cursor;
}

abbrev pub decreases-loop-cursor : goal.decreases-loop-cursor
decreases-loop-cursor l = l.run.input.now.range.end + 1 - l.cursor
