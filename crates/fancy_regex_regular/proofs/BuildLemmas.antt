-- The groups of a pattern, as the analysis counts them.
use Rattle.std.proofs.Common.{◌≡◌, ◌∙◌, ℕ, zero, suc, ◌+◌, ◌≤◌, ◌==◌, Bool, true, false, true≢false, not, length, sym, ap, arith}
use Rattle.fancy_regex_tree.specs.Tree.{Tree}
use Rattle.fancy_regex_meaning.specs.Groups.{Pattern, group_count}
use Rattle.fancy_regex_meaning.proofs.GroupProofs.{groups_are_counted}
use Rattle.fancy_regex_info.specs.Analysis.{analysis}
use Rattle.fancy_regex_info.specs.Infos.{InfoTree, properties_in}
use Rattle.fancy_regex_info.specs.Views.{pattern_in}
use Rattle.fancy_regex_linear.specs.Calls.{IsOfTree, has_own_span}
use Rattle.fancy_regex_linear.proofs.ServedLemmas.{root_is}

counted : (explicit : Bool) (t : Tree) → (pattern_in explicit t).first_group + group_count t ≡ length (pattern_in explicit t).groups
counted true t = omega (arith, groups_are_counted t)
counted false t = omega (arith, groups_are_counted t)

-- the number of the next group after a whole tree is that of its groups
pub groups_are : (x : InfoTree) (explicit : Bool) (t : Tree) → x ≡ analysis explicit t → (properties_in x).end ≡ length (pattern_in explicit t).groups
groups_are x explicit t is = ap (λ f. f.end) (root_is x explicit t is).facts_are ∙ counted explicit t

-- where they begin to count
pub first_is : (x : InfoTree) (explicit : Bool) (t : Tree) → x ≡ analysis explicit t → (properties_in x).start ≡ (pattern_in explicit t).first_group
first_is x explicit t is = ap (λ f. f.start) (root_is x explicit t is).facts_are

-- a pattern that does not write group 0 itself has that group
from_one : (n : ℕ) → not (n == 0) ≡ true → 1 ≤ n
from_one zero own = absurd (true≢false (sym own))
from_one (suc n) own = omega arith

pub groups_with_span : (pattern : Pattern) → IsOfTree pattern → has_own_span pattern ≡ true → 1 ≤ length pattern.groups
groups_with_span pattern of own =
    let one = from_one pattern.first_group own in
    let all = counted of.0 of.1 in
    let first = ap (λ (p : Pattern). p.first_group) of.2 in
    let many = ap (λ (p : Pattern). length p.groups) of.2 in
    omega (arith, one, all, first, many)
