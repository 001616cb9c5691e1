use Rattle.std.proofs.Common.{◌≡◌, ◌∙◌, ◌||◌, ℕ, ap, ap₂, sym, length, replicate, get_or, take, ◌++◌, ◌-◌}
use Rattle.std.proofs.lemmas.List.{length-replicate}
use Rattle.regex_class.specs.Ranges.{in_range, in_ranges}
use Rattle.fancy_regex_class.proofs.RangeBitLemmas.{no_bits, in_next}
use Rattle.fancy_regex_class.proofs.range_bits.words_of.Goals as goal

pub loop-range-init : goal.loop-range-init
unfolding in_ranges
loop-range-init c =
    let zeros : c.resize.new.self.items ≡ replicate 1024 0 = c.in_ok-resize.ensures.items ∙ ap₂ (λ xs n. take 1024 xs ++ replicate (1024 - n) 0) c.new-words.ensures.items c.new-words.ensures.len in
    record {
      filled = ap length zeros ∙ length-replicate {A = ℕ} 1024 0;
      members = λ d below. no_bits _ 1024 d zeros;
    }

pub loop-range-preserved : goal.loop-range-preserved
loop-range-preserved c = record {
  filled = c.add_range.ensures.filled;
  members = λ d below.
      c.add_range.ensures.members d below
      ∙ ap (λ b. b || in_range (get_or c.args.ranges.now c.loop-range.range-index (0, 0)) d) (c.loop-range.invariant.members d below)
      ∙ sym (in_next c.args.ranges.now c.loop-range.range-index d c.loop-range-test.true);
}
