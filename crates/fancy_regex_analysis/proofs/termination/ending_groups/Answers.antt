use Rattle.std.proofs.Common.{map, length, refl, ap, sym, ◌∙◌, rules, arith}
use Rattle.fancy_regex_analysis.specs.TerminationFixpoint.{next_end, iterated_end}
use Rattle.fancy_regex_analysis.specs.TerminationFixpoint.{ends_in}
use Rattle.fancy_regex_info.specs.Views.{body_tree}
use Rattle.fancy_regex_analysis.proofs.TerminationFixpointLemmas.{first_end_iteration, end_goes_on, end_is_last}
use Rattle.fancy_regex_analysis.proofs.termination.ending_groups.Goals as goal

pub loop-iteration-init : goal.loop-iteration-init
loop-iteration-init c = λ k.
    ap (λ xs. ends_in xs k) (c.in_ok-ends.ensures.items_if_clones_equal (λ y e. e))
    ∙ first_end_iteration c.args.groups.now (length c.args.groups.now) refl k

pub loop-iteration-preserved : goal.loop-iteration-preserved
loop-iteration-preserved c =
    end_goes_on (map body_tree c.args.groups.now) c.loop-iteration.ends.items c.in_ok-next.next.items c.loop-iteration._iteration
    c.loop-iteration.invariant
    (λ k. c.in_ok-next.ensures k
    ∙ ap (λ xs. next_end (map body_tree c.args.groups.now) (ends_in xs) k) c.deref.ensures.value)

pub returns-then-are_same_marks : goal.returns-then-are_same_marks
returns-then-are_same_marks c =
    end_is_last (map body_tree c.args.groups.now) c.loop-iteration.ends.items c.in_ok-next.next.items c.loop-iteration._iteration
    (length c.args.groups.now) (omega arith) c.loop-iteration.invariant
    (λ k. c.in_ok-next.ensures k
    ∙ ap (λ xs. next_end (map body_tree c.args.groups.now) (ends_in xs) k) c.deref.ensures.value)
    (sym c.deref-in-loop-iteration.ensures.value ∙ c.are_same_marks.ensures (search rules) ∙ c.deref-in-loop-iteration-2.ensures.value)

pub returns : goal.returns
returns c = λ k.
    c.loop-iteration.invariant k ∙ ap (λ n. iterated_end (map body_tree c.args.groups.now) n k) (omega arith)
