use Rattle.std.proofs.Common.{◌≡◌, ◌++◌, map, take, filter_map}
use Rattle.fancy_regex_analysis.specs.EmittedParts.{part_at, call_of}
use Rattle.fancy_regex_analysis.proofs.emitted.add_emitted_calls.Given as goal

abbrev pub invariant-loop-part : goal.invariant-loop-part
invariant-loop-part l = l.calls.items ≡ l.fn.calls.items ++ filter_map call_of (map part_at (take l.part-index l.parts))
