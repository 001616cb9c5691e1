use Rattle.std.proofs.Common.{◌+◌, List, ℕ, ◌++◌, ap, sym, ◌∙◌, subst, arith}
use Rattle.fancy_regex_compiler.specs.Opened.{AreCounts, if_full, full_groups}
use Rattle.fancy_regex_compiler.proofs.OpenedLemmas.{calls_most, read_at, counts_more, full_more}
use Rattle.fancy_regex_compiler.proofs.open_calls.OpenCalls.push.Goals as goal

pub invariant_of-self : goal.invariant_of-self
invariant_of-self c = record {
  counted = c.in_err-count_to.ensures.counts c.self.inside.targets.items c.self.invariant.counted;
  full = c.self.invariant.full;
}

pub overflow_add-count : goal.overflow_add-count
overflow_add-count c =
    let o = c.self.inside in
    let k = c.args.group in
    let are = c.in_ok-count_to.ensures.counts o.targets.items c.self.invariant.counted in
    let read = read_at c.count_to.new.counts.items k c.index.result.now c.index.ensures c.in_ok-count_to.ensures.there in
    omega (arith, read, are k, calls_most k o.targets.items, o.targets.ok.0, o.targets.ok.1, o.targets.small)

pub invariant_of-self-in_err-add_call : goal.invariant_of-self-in_err-add_call
invariant_of-self-in_err-add_call c =
    let o = c.self.inside in
    let e = c.in_err-add_call.ensures in
    record {
      counted = subst (λ (groups : List ℕ). AreCounts c.count_to.new.counts.items groups) (sym e.same_targets)
          (c.in_ok-count_to.ensures.counts o.targets.items c.self.invariant.counted);
      full = e.same_full ∙ c.self.invariant.full ∙ ap full_groups (sym e.same_targets);
    }

pub invariant_of-self-2 : goal.invariant_of-self-2
invariant_of-self-2 c =
    let o = c.self.inside in
    let k = c.args.group in
    let n = c.index.result.now in
    let counts = c.count_to.new.counts.items in
    let now = c.add_call.new.targets.items in
    let low = c.in_ok-count_to.ensures.there in
    let are = c.in_ok-count_to.ensures.counts o.targets.items c.self.invariant.counted in
    let e = c.in_ok-add_call.ensures in
    let read = read_at counts k n c.index.ensures low in
    record {
      counted = counts_more counts o.targets.items now k (n + 1) e.targets are low (ap (λ i. i + 1) read);
      full = e.full ∙ ap (λ l. l ++ if_full k (n + 1)) c.self.invariant.full ∙ ap (λ i. full_groups o.targets.items ++ if_full k (i + 1)) read
          ∙ sym (full_more counts o.targets.items now k e.targets are);
    }
