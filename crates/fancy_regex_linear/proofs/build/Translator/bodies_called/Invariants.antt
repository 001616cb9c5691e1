use Rattle.std.proofs.Common.{◌≡◌, length, map}
use Rattle.fancy_regex_info.specs.Views.{body_tree}
use Rattle.fancy_regex_linear.specs.CallMarks.{MakesLevel}
use Rattle.fancy_regex_linear.proofs.build.Translator.bodies_called.Given as goal

abbrev pub invariant-loop-group : goal.invariant-loop-group
invariant-loop-group l = record {
  long : length l.next.items ≡ l.group;
  level : MakesLevel (map body_tree l.bodies) l.marks l.fn.self l.self l.next.items l.group;
}
