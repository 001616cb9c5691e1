-- What one walk finds of an analyzed tree where calls are written out, by a table of what is known of calls.
use Rattle.std.specs.Prelude.{ℕ, zero, suc, ◌+◌, ◌-◌, ◌*◌, min, max, Bool, true, false, ◌&&◌, ◌||◌, not, List, [], ◌∷◌, ◌++◌, slice_get, Option, Some, None, ◌==◌, if◌then◌else◌}
use Rattle.fancy_regex_tree.specs.Tree.{Tree, Trees, empty, any, assertion, general_newline, literal, concat, alt, group, look_around, repeat, delegate, atomic_group, continue, conditional, subroutine_call, verb, keep_out, define_group, no_trees, more_trees}
use Rattle.fancy_regex_tree.specs.declared.expr.BacktrackingControlVerb.{BacktrackingControlVerb}
use Rattle.fancy_regex_tree.specs.declared.expr.BacktrackingControlVerb.TheVariants.{Fail}
use Rattle.fancy_regex_meaning.specs.Sizes.{unbounded, add, branch_gaps}
use Rattle.fancy_regex_info.specs.PropertyRules.{finite_weight, loop_weight}
use Rattle.fancy_regex_info.specs.Infos.{InfoTree, InfoTrees, known, no_infos, more_infos, properties_in}
use Rattle.fancy_regex_linear.specs.Plain.{has_no_iteration}
use Rattle.fancy_regex_linear.specs.declared.facts.CallFacts.{CallFacts}
use Rattle.fancy_regex_linear.specs.declared.facts.TreeFacts.{TreeFacts}

-- what a table says of the calls of a group; past it, they cannot be written out, and weigh 1
abbrev pub or_not : Option CallFacts → Bool
or_not None = false
or_not (Some facts) = facts.is_callable

abbrev pub or_one : Option CallFacts → ℕ
or_one None = 1
or_one (Some facts) = facts.weight

abbrev pub callable_in : List CallFacts → ℕ → Bool
callable_in calls j = or_not (slice_get calls j)

abbrev pub weight_in : List CallFacts → ℕ → ℕ
weight_in calls j = or_one (slice_get calls j)

abbrev pub nothing_known : CallFacts
nothing_known = record { is_callable = false; weight = 1 }

-- of no trees, and of one more in a row
abbrev pub no_parts : TreeFacts
no_parts = record { is_regular = true; keeps_start = true; weight = 0; depth = 0; may_be_empty = true }

abbrev pub with_part : TreeFacts → TreeFacts → TreeFacts
with_part parts part = record {
  is_regular = parts.is_regular && part.is_regular;
  keeps_start = parts.keeps_start && part.keeps_start;
  weight = add parts.weight part.weight;
  depth = max parts.depth part.depth;
  may_be_empty = parts.may_be_empty && part.may_be_empty;
}

abbrev pub is_group : Tree → Bool
is_group (group t) = true
is_group t = false

abbrev pub have_some : Trees → Bool
have_some no_trees = false
have_some (more_trees t ts) = true

abbrev pub is_fail : BacktrackingControlVerb → Bool
is_fail Fail = true
is_fail v = false

-- Whether a node is regular, where `\K` may reset the start or not, by the trees directly below it: whether they are so, and whether they keep
-- the start, as those of a look-around have to.
abbrev pub regular_by : List CallFacts → Bool → Tree → Bool → Bool → Bool
regular_by calls resets empty parts keep = true
regular_by calls resets (any newline crlf) parts keep = true
regular_by calls resets (literal val casei) parts keep = true
regular_by calls resets (delegate class casei) parts keep = true
regular_by calls resets (general_newline wide) parts keep = true
regular_by calls resets (assertion a) parts keep = true
regular_by calls resets continue parts keep = true
regular_by calls resets (define_group t) parts keep = true
regular_by calls resets (verb v) parts keep = is_fail v
regular_by calls resets keep_out parts keep = resets
regular_by calls resets (concat ts) parts keep = parts
regular_by calls resets (group t) parts keep = parts
regular_by calls resets (look_around t how) parts keep = keep
regular_by calls resets (atomic_group t) parts keep = parts
regular_by calls resets (conditional c a b) parts keep = parts
regular_by calls resets (alt ts) parts keep = have_some ts && parts
regular_by calls resets (repeat t lo hi greedy) parts keep = has_no_iteration lo hi || parts
regular_by calls resets (subroutine_call j) parts keep = callable_in calls j
regular_by calls resets _ parts keep = false

abbrev pub weight_by : List CallFacts → Tree → TreeFacts → ℕ
weight_by calls (concat ts) parts = max parts.weight 1
weight_by calls (alt ts) parts = add parts.weight (min unbounded (3 * branch_gaps [] ts))
weight_by calls (group t) parts = add parts.weight 2
weight_by calls (repeat t lo hi greedy) parts =
    if hi == unbounded then loop_weight lo parts.weight parts.may_be_empty else finite_weight lo hi parts.weight
weight_by calls (look_around t how) parts = add parts.weight 1
weight_by calls (atomic_group t) parts = add parts.weight 1
weight_by calls (conditional c a b) parts = add parts.weight 1
weight_by calls (subroutine_call j) parts = weight_in calls j
weight_by calls keep_out parts = 3
weight_by calls _ parts = 1

abbrev pub facts_by : List CallFacts → Tree → Bool → TreeFacts → TreeFacts
facts_by calls t may_be_empty parts = record {
  is_regular = regular_by calls true t parts.is_regular parts.keeps_start;
  keeps_start = regular_by calls false t parts.keeps_start parts.keeps_start;
  weight = weight_by calls t parts;
  depth = add parts.depth 1;
  may_be_empty = may_be_empty;
}

-- of the calls of a group with such a body, which has to keep the start, and where there is a group at all
abbrev pub call_of : TreeFacts → CallFacts
call_of body = record { is_callable = body.keeps_start; weight = add body.weight (min unbounded (body.depth * 2)) }

abbrev pub own_call : Bool → TreeFacts → List CallFacts
own_call opens body = if opens then call_of body ∷ [] else []

-- over a table
module _ (calls : List CallFacts) where
  unfoldable mutual
    -- of a tree, and of trees that follow others in a row
    pub facts_in : InfoTree → TreeFacts
    facts_in (known f t xs) = facts_by calls t (f.size.least == 0) (row_facts no_parts xs)

    pub row_facts : TreeFacts → InfoTrees → TreeFacts
    row_facts parts no_infos = parts
    row_facts parts (more_infos x xs) = row_facts (with_part parts (facts_in x)) xs

  -- of the calls of the groups in a tree, in the order of their opening parentheses
  unfoldable mutual
    pub found_in : InfoTree → List CallFacts
    found_in (known f t xs) = own_call (is_group t) (row_facts no_parts xs) ++ row_found xs

    pub row_found : InfoTrees → List CallFacts
    row_found no_infos = []
    row_found (more_infos x xs) = found_in x ++ row_found xs

-- of the calls of all groups, by what is known of those in their bodies
abbrev pub next_calls : InfoTree → List CallFacts → List CallFacts
next_calls x calls = own_call (not ((properties_in x).start == 0)) (facts_in calls x) ++ found_in calls x

-- the same after so many levels
unfoldable pub calls_after : InfoTree → ℕ → List CallFacts
calls_after x zero = []
calls_after x (suc depth) = next_calls x (calls_after x depth)
