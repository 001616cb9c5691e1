-- Trees that are regular without `\K`, and those in which it may stand.
use Rattle.std.proofs.Common.{ℕ, Bool, true, false}
use Rattle.fancy_regex_tree.specs.Tree.{Tree, Trees, empty, any, assertion, general_newline, literal, concat, alt, group, look_around, repeat, delegate, atomic_group, conditional, verb, keep_out, continue, define_group, subroutine_call, no_trees, more_trees}
use Rattle.fancy_regex_linear.specs.Plain.{IsRegular, AreRegular}
use Rattle.fancy_regex_linear.proofs.PlainLemmas.{regular_resets}

-- where `\K` may stand in a tree or not, it may
pub regular_true : (called : ℕ → Type 0) (resets : Bool) (t : Tree) → IsRegular resets called t → IsRegular true called t
regular_true called true t p = p
regular_true called false t p = regular_resets called t p

-- Whether `\K` stands in a tree does not rest on its calls: what is regular in some way, and without `\K` in another, is so in the first.
module _ (called other : ℕ → Type 0) where
  mutual
    pub regular_as : (resets keeps : Bool) (t : Tree) → IsRegular resets called t → IsRegular keeps other t → IsRegular keeps called t
    regular_as resets keeps empty p q = tt
    regular_as resets keeps (any newline crlf) p q = tt
    regular_as resets keeps (literal val casei) p q = tt
    regular_as resets keeps (delegate class casei) p q = tt
    regular_as resets keeps (general_newline wide) p q = tt
    regular_as resets keeps (assertion a) p q = tt
    regular_as resets keeps (concat ts) p q = all_as resets keeps ts p q
    regular_as resets keeps (alt ts) p q = (p.0, all_as resets keeps ts p.1 q.1)
    regular_as resets keeps (group t) p q = regular_as resets keeps t p q
    regular_as resets keeps (look_around t how) p q = p
    regular_as resets keeps (atomic_group t) p q = regular_as resets keeps t p q
    regular_as resets keeps (conditional c a b) p q =
        (regular_as resets keeps c p.0 q.0, (regular_as resets keeps a p.1.0 q.1.0, regular_as resets keeps b p.1.1 q.1.1))
    regular_as resets keeps (define_group t) p q = tt
    regular_as resets keeps (verb v) p q = p
    regular_as resets keeps keep_out p q = q
    regular_as resets keeps continue p q = tt
    regular_as resets keeps (subroutine_call j) p q = p
    regular_as resets keeps (repeat t lo hi greedy) p q = λ made. regular_as resets keeps t (p made) (q made)
    regular_as resets keeps _ p q = absurd p

    all_as : (resets keeps : Bool) (ts : Trees) → AreRegular resets called ts → AreRegular keeps other ts → AreRegular keeps called ts
    all_as resets keeps no_trees p q = tt
    all_as resets keeps (more_trees t ts) p q = (regular_as resets keeps t p.0 q.0, all_as resets keeps ts p.1 q.1)
