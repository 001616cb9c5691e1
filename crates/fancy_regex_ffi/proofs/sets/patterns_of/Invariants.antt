use Rattle.std.proofs.Common.{◌≡◌, ◌++◌, map, drop}
use Rattle.fancy_regex_ffi.specs.Sets.{cut_at, Rise, AreTexts}
use Rattle.fancy_regex_ffi.proofs.sets.patterns_of.Given as goal

-- The texts so far, and those that are left, are all patterns. The ends that are left rise where all do; all are texts where those that
-- are left are.
abbrev pub invariant-loop-end : goal.invariant-loop-end
invariant-loop-end l = record {
  texts : map (λ t. t.now) l.texts.items ++ cut_at l.bytes l.start (drop l.end-index l.ends) ≡ cut_at l.bytes 0 l.ends;
  rise : Rise l.bytes 0 l.ends → Rise l.bytes l.start (drop l.end-index l.ends);
  good : AreTexts l.bytes l.start (drop l.end-index l.ends) → AreTexts l.bytes 0 l.ends;
}
