use Rattle.std.proofs.Common.{◌≡◌, ◌-◌, [], map}
use Rattle.fancy_regex_info.specs.AnalysisRelations.{AreCallSizes}
use Rattle.fancy_regex_info.specs.Views.{body_tree}
use Rattle.fancy_regex_linear.specs.CallMarks.{marks_at}
use Rattle.fancy_regex_linear.proofs.CalleeLemmas.{HasLevel}
use Rattle.fancy_regex_linear.proofs.build.Translator.write_calls.Given as goal

abbrev pub invariant-loop-depth : goal.invariant-loop-depth
invariant-loop-depth l = record {
  unicode : l.self.unicode ≡ l.fn.self.unicode;
  sized : AreCallSizes (map body_tree l.bodies) l.self.sizes.items;
  level : l.fn.self.matchers.items ≡ [] → l.fn.self.called.items ≡ []
      → HasLevel (map body_tree l.bodies) l.fn.self.unicode l.depth (marks_at l.tables.items (l.nesting - l.depth)) l.self;
}
