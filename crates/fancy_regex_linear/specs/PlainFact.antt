-- That a tree is plain is a fact: there is one proof of it at most.
use mathlib.Core.HLevel.{Π_prop, ×_prop, Unit-prop, ⊥_prop}
use Rattle.std.specs.Prelude.{Option, Some, None}
use Rattle.fancy_regex_tree.specs.Tree.{Tree, Trees, empty, any, assertion, literal, concat, alt, group, look_around, repeat, delegate, no_trees, more_trees}
use Rattle.fancy_regex_states.specs.declared.atom.Test.{Test}
use Rattle.fancy_regex_linear.specs.Plain.{IsPlain, ArePlain, IsServed, IsOneChar, test_of}

served_fact : (o : Option Test) → IsProp (IsServed o)
served_fact None = ⊥_prop
served_fact (Some test) = Unit-prop

one_char_fact : (t : Tree) → IsProp (IsOneChar t)
one_char_fact (any newline crlf) = Unit-prop
one_char_fact (literal val casei) = Unit-prop
one_char_fact (delegate class casei) = Unit-prop
one_char_fact _ = ⊥_prop

mutual
  pub plain_fact : (t : Tree) → IsProp (IsPlain t)
  plain_fact empty = Unit-prop
  plain_fact (any newline crlf) = Unit-prop
  plain_fact (literal val casei) = Unit-prop
  plain_fact (delegate class casei) = Unit-prop
  plain_fact (assertion a) = served_fact (test_of a)
  plain_fact (concat ts) = all_fact ts
  plain_fact (alt ts) = ×_prop (Π_prop λ e. ⊥_prop) (all_fact ts)
  plain_fact (group t) = plain_fact t
  plain_fact (look_around t how) = one_char_fact t
  plain_fact (repeat t lo hi greedy) = plain_fact t
  plain_fact _ = ⊥_prop

  all_fact : (ts : Trees) → IsProp (ArePlain ts)
  all_fact no_trees = Unit-prop
  all_fact (more_trees t ts) = ×_prop (plain_fact t) (all_fact ts)
