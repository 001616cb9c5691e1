use Rattle.std.proofs.Common.{◌≡◌, ◌-◌, length, take, ap, sym, ◌∙◌, arith}
use Rattle.std.specs.Prelude.{vec_len}
use Rattle.fancy_regex_compiler.proofs.OpenedLemmas.{has_count, some_count, read_at, counts_less, full_popped, full_kept}
use Rattle.fancy_regex_compiler.proofs.open_calls.OpenCalls.pop.Goals as goal

pub index-count-requires : goal.index-count-requires
index-count-requires c =
    let o = c.self.inside in
    let low = has_count o.counts.items o.targets.items c.pop.new.self.items c.in-Some.group c.in-Some.ensures.items c.self.invariant.counted in
    omega (arith, low, o.counts.ok.0)

pub index_mut-requires : goal.index_mut-requires
index_mut-requires c =
    let o = c.self.inside in
    let low = has_count o.counts.items o.targets.items c.pop.new.self.items c.in-Some.group c.in-Some.ensures.items c.self.invariant.counted in
    omega (arith, low, o.counts.ok.0)

pub overflow_sub-count : goal.overflow_sub-count
overflow_sub-count c =
    let o = c.self.inside in
    let k = c.in-Some.group in
    let low = has_count o.counts.items o.targets.items c.pop.new.self.items k c.in-Some.ensures.items c.self.invariant.counted in
    let some = some_count o.counts.items o.targets.items c.pop.new.self.items k c.in-Some.ensures.items c.self.invariant.counted in
    omega (arith, some, read_at o.counts.items k c.index-count.result.now c.index-count.ensures low)

pub invariant_of-self-then-count-eq-MAX_OPEN_CALLS_PER_GROUP : goal.invariant_of-self-then-count-eq-MAX_OPEN_CALLS_PER_GROUP
invariant_of-self-then-count-eq-MAX_OPEN_CALLS_PER_GROUP c =
    let o = c.self.inside in
    let now = c.pop.new.self.items in
    let k = c.in-Some.group in
    let n = c.index-count.result.now in
    let is = c.in-Some.ensures.items in
    let are = c.self.invariant.counted in
    let low = has_count o.counts.items o.targets.items now k is are in
    let read = read_at o.counts.items k n c.index-count.ensures low in
    let long : vec_len o.full ≡ length o.full.items = omega (arith, o.full.ok.0) in
    record {
      counted = counts_less o.counts.items o.targets.items now k (n - 1) is are low (ap (λ i. i - 1) read);
      full = full_popped o.counts.items o.targets.items now o.full.items c.pop-then-count-eq-MAX_OPEN_CALLS_PER_GROUP.new.self.items k is are c.self.invariant.full
          (sym read ∙ c.if-count-eq-MAX_OPEN_CALLS_PER_GROUP.true)
          (c.pop-then-count-eq-MAX_OPEN_CALLS_PER_GROUP.ensures.rest ∙ ap (λ m. take (m - 1) o.full.items) long);
    }

pub invariant_of-self-else-count-eq-MAX_OPEN_CALLS_PER_GROUP : goal.invariant_of-self-else-count-eq-MAX_OPEN_CALLS_PER_GROUP
invariant_of-self-else-count-eq-MAX_OPEN_CALLS_PER_GROUP c =
    let o = c.self.inside in
    let now = c.pop.new.self.items in
    let k = c.in-Some.group in
    let n = c.index-count.result.now in
    let is = c.in-Some.ensures.items in
    let are = c.self.invariant.counted in
    let low = has_count o.counts.items o.targets.items now k is are in
    let read = read_at o.counts.items k n c.index-count.ensures low in
    record {
      counted = counts_less o.counts.items o.targets.items now k (n - 1) is are low (ap (λ i. i - 1) read);
      full = full_kept o.counts.items o.targets.items now o.full.items k is are c.self.invariant.full
          (λ most. c.if-count-eq-MAX_OPEN_CALLS_PER_GROUP.false (read ∙ most));
    }
