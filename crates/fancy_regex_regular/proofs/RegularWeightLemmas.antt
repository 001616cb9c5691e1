-- The states of a regular pattern weigh at most twice as much as its tree, and a search looks at the text accordingly.
use Rattle.std.proofs.Common.{◌≡◌, ◌≢◌, ℕ, zero, suc, ◌+◌, ◌*◌, ◌-◌, ◌≤◌, max, Bool, true, false, true≢false, cond, not, List, [], ◌∷◌, length, Option, Some, None, if◌then◌else◌, refl, sym, ap, arith}
use Rattle.std.proofs.Math.Nat.{mul-le-mul_left}
use Rattle.fancy_regex_tree.specs.Tree.{Tree, Trees, Text, empty, any, assertion, general_newline, literal, concat, alt, group, look_around, repeat, delegate, atomic_group, conditional, verb, keep_out, continue, define_group, subroutine_call, no_trees, more_trees}
use Rattle.fancy_regex_tree.specs.declared.expr.Assertion.{Assertion}
use Rattle.fancy_regex_tree.specs.declared.expr.Assertion.TheVariants.{EndTextIgnoreTrailingNewlines}
use Rattle.fancy_regex_tree.specs.declared.expr.LookAround.{LookAround}
use Rattle.fancy_regex_tree.specs.declared.expr.LookAround.TheVariants as L
use Rattle.fancy_regex_meaning.specs.Groups.{Pattern, group_count}
use Rattle.fancy_regex_meaning.specs.Sizes.{target, may_be_empty, branch_gaps}
use Rattle.fancy_regex_meaning.specs.Sizes as sizes
use Rattle.fancy_regex_states.specs.declared.state.State.{State}
use Rattle.fancy_regex_states.specs.declared.state.State.TheVariants.{Match as End}
use Rattle.fancy_regex_linear.specs.Re.{Re}
use Rattle.fancy_regex_linear.specs.Re as re
use Rattle.fancy_regex_linear.specs.Meaning.{is_unbounded}
use Rattle.fancy_regex_linear.specs.Program.{never_empty, weight, repeat_weight}
use Rattle.fancy_regex_linear.specs.Plain.{IsRegular, AreRegular, test_of, newline_re, served, joined, is_negated_look, steps_back, has_no_iteration, unless, classes, re_of, row_of, branches_of, around, each_around}
use Rattle.fancy_regex_linear.specs.Calls.{greatest_nesting, IsOfBody, IsCalled}
use Rattle.fancy_regex_linear.specs.RegularStates.{AreRegularStates}
use Rattle.fancy_regex_linear.proofs.ApartLemmas.{some_body}
use Rattle.fancy_regex_linear.proofs.CallLemmas.{called_flag}
use Rattle.fancy_regex_linear.proofs.WeightLemmas.{emitted_weighs}
use Rattle.fancy_regex_class.specs.declared.class.CharClassMatcher.{CharClassMatcher}
use Rattle.fancy_regex_class.specs.declared.input.RunInput.{RunInput}
use Rattle.fancy_regex_parts.specs.Tables.{cost_of, cost_from, mark_of, due, due_of, table_weight}
use Rattle.fancy_regex_parts.specs.Walk.{dearest}
use Rattle.fancy_regex_regular.specs.Regulars.{IsRegularOf}
use Rattle.fancy_regex_regular.specs.Starts.{last_start}
use Rattle.fancy_regex_regular.specs.Weights.{assertion_weight, steps_of, each_steps, stepping_weight, call_state_weight, state_weight, state_weights, tree_state_weight}
use Rattle.fancy_regex_regular.specs.declared.regular.Regular.{Regular}

served_light : (a : Assertion) → weight (served a (test_of a)) ≤ 2 * assertion_weight a
unfolding weight repeat_weight
served_light (EndTextIgnoreTrailingNewlines true) = omega arith
served_light (EndTextIgnoreTrailingNewlines false) = omega arith
served_light _ = omega arith

newline_light : (wide : Bool) → weight (newline_re wide) ≤ 32
unfolding weight
newline_light true = omega arith
newline_light false = omega arith

-- a part that is asked so many characters before
asked_light : (negated : Bool) (back : ℕ) (body : Re) (w steps : ℕ) → weight body ≤ 2 * w → back ≤ steps
    → weight (re.ask negated back body) ≤ 2 * (1 + w + steps)
unfolding weight
asked_light negated back body w steps light few = omega (arith, light, few)

-- a look-around over anything but branches
asking_light : (unicode : Bool) (groups : List Tree) (called : ℕ → Re) (call : ℕ → ℕ) (n k : ℕ) (how : LookAround) (t : Tree) → steps_of groups t ≡ (sizes.size groups t).least
    → weight (re_of unicode groups called n k t) ≤ 2 * state_weight groups call t
    → weight (re.ask (is_negated_look how) (steps_back groups how t) (re_of unicode groups called n k t))
    ≤ 2 * (1 + state_weight groups call t + stepping_weight groups how t)
asking_light unicode groups called call n k L.LookAhead t same light =
    asked_light false 0 (re_of unicode groups called n k t) (state_weight groups call t) 0 light (omega arith)
asking_light unicode groups called call n k L.LookAheadNeg t same light =
    asked_light true 0 (re_of unicode groups called n k t) (state_weight groups call t) 0 light (omega arith)
asking_light unicode groups called call n k L.LookBehind t same light =
    asked_light false (sizes.size groups t).least (re_of unicode groups called n k t) (state_weight groups call t) (steps_of groups t) light (omega (arith, same))
asking_light unicode groups called call n k L.LookBehindNeg t same light =
    asked_light true (sizes.size groups t).least (re_of unicode groups called n k t) (state_weight groups call t) (steps_of groups t) light (omega (arith, same))

-- a look-around over branches: all of them at once, or each on its own
joined_light : (always negated : Bool) (xs : List Re) (back : ℕ) (body : Re) (w each : ℕ) → weight body ≤ 2 * w
    → weight (re.cats xs) ≤ 2 * (1 + w + each) → weight (re.alts xs) ≤ 2 * (1 + w + each)
    → weight (if not always then joined negated xs else re.ask negated back body) ≤ 2 * (1 + w + (if always then back else each))
joined_light true negated xs back body w each light all one = asked_light negated back body w back light (omega arith)
joined_light false true xs back body w each light all one = all
joined_light false false xs back body w each light all one = one

cats_cons : (x : Re) (xs : List Re) → weight (re.cats (x ∷ xs)) ≡ weight x + weight (re.cats xs)
unfolding weight
cats_cons x xs = refl

cats_one : (x : Re) → weight (re.cats (x ∷ [])) ≡ weight x
unfolding weight
cats_one x = omega arith

alts_cons : (x y : Re) (ys : List Re) → weight (re.alts (x ∷ y ∷ ys)) ≡ weight x + weight (re.alts (y ∷ ys)) + 3
unfolding weight
alts_cons x y ys = refl

-- a repeat that is left out
out_light : (b : Bool) (x : Re) (n : ℕ) → (b ≡ false → weight x ≤ n) → weight (unless b x) ≤ n
unfolding weight
out_light true x n h = omega arith
out_light false x n h = h refl

module _ (unicode : Bool) (groups : List Tree) (called : ℕ → Re) (call : ℕ → ℕ) (known : ℕ → Type 0)
    (call_light : (j : ℕ) → known j → weight (called j) ≤ 2 * call j)
    (flag : (resets : Bool) (n k : ℕ) (t : Tree) → IsRegular resets known t → not (may_be_empty groups t) ≡ never_empty (re_of unicode groups called n k t)) where
  -- a repeat of what weighs at most twice as much
  repeat_light : (u b strict : Bool) (lo hi v w : ℕ) → not b ≡ strict → v ≤ 2 * w
      → repeat_weight u strict lo hi v ≤ 2 * sizes.repeat_weight groups lo (cond u None (Some hi)) w b
  unfolding repeat_weight
  repeat_light true true strict lo hi v w e h = rw (sym e) (omega (arith, mul-le-mul_left (lo + 2) h))
  repeat_light true false strict lo hi v w e h = rw (sym e) (omega (arith, mul-le-mul_left (max lo 1) h))
  repeat_light false b strict lo hi v w e h =
      let more : v + 3 ≤ 2 * (w + 3) = omega arith in
      omega (arith, mul-le-mul_left lo h, mul-le-mul_left (hi - lo) more)

  mutual
    unfolding re_of around each_around weight state_weight branch_gaps steps_of each_steps

    regular_light : (resets : Bool) (n k : ℕ) (t : Tree) → IsRegular resets known t → weight (re_of unicode groups called n k t) ≤ 2 * state_weight groups call t
    regular_light resets n k empty p = omega arith
    regular_light resets n k (any newline crlf) p = omega arith
    regular_light resets n k (literal val casei) p = omega arith
    regular_light resets n k (delegate class casei) p = omega arith
    regular_light resets n k (general_newline wide) p = newline_light wide
    regular_light resets n k (assertion a) p = served_light a
    regular_light resets n k (concat ts) p = omega (arith, regular_row resets n k ts p)
    regular_light resets n k (alt ts) p = regular_branches resets n k ts p.0 p.1
    regular_light resets n k (group t) p = omega (arith, regular_light resets (n + 1) k t p)
    regular_light resets n k (look_around t how) p = around_light n k how t p (regular_light false n k t p)
    regular_light resets n k (atomic_group t) p = omega (arith, regular_light resets n k t p)
    regular_light resets n k (conditional c a b) p =
        omega (
          arith,
          regular_light resets n k c p.0,
          regular_light resets (n + group_count c) (k + length (classes c)) a p.1.0,
          regular_light resets (n + group_count c + group_count a) (k + length (classes c) + length (classes a)) b p.1.1,
        )
    regular_light resets n k (define_group t) p = omega arith
    regular_light resets n k keep_out p = omega arith
    regular_light resets n k (subroutine_call j) p = call_light j p
    regular_light resets n k (repeat t lo hi greedy) p =
        out_light (has_no_iteration lo hi) _ _
        (λ made. repeat_light (is_unbounded hi) (may_be_empty groups t) (never_empty (re_of unicode groups called n k t)) lo hi _ _ (flag resets n k t (p made)) (regular_light resets n k t (p made)))
    regular_light resets n k (verb v) p = omega arith
    regular_light resets n k continue p = omega arith
    regular_light resets n k _ p = absurd p

    regular_row : (resets : Bool) (n k : ℕ) (ts : Trees) → AreRegular resets known ts → weight (row_of unicode groups called n k ts) ≤ 2 * state_weights groups call ts
    regular_row resets n k no_trees p = omega arith
    regular_row resets n k (more_trees t ts) p =
        omega (arith, regular_light resets n k t p.0, regular_row resets (n + group_count t) (k + length (classes t)) ts p.1)

    regular_branches : (resets : Bool) (n k : ℕ) (ts : Trees) → (ts ≢ no_trees) → AreRegular resets known ts
        → weight (branches_of unicode groups called n k ts) ≤ 2 * (state_weights groups call ts + 3 * branch_gaps groups ts)
    regular_branches resets n k no_trees some p = absurd (some refl)
    regular_branches resets n k (more_trees t no_trees) some p = omega (arith, regular_light resets n k t p.0)
    regular_branches resets n k (more_trees t (more_trees u us)) some p =
        omega (arith, regular_light resets n k t p.0, regular_branches resets (n + group_count t) (k + length (classes t)) (more_trees u us) (λ e. cc) p.1)

    -- a look-around over a tree
    around_light : (n k : ℕ) (how : LookAround) (t : Tree) → IsRegular false known t → weight (re_of unicode groups called n k t) ≤ 2 * state_weight groups call t
        → weight (around unicode groups called n k how (re_of unicode groups called n k t) t) ≤ 2 * (1 + state_weight groups call t + stepping_weight groups how t)
    around_light n k L.LookAhead (alt ts) p light = asked_light false 0 (re_of unicode groups called n k (alt ts)) (state_weight groups call (alt ts)) 0 light (omega arith)
    around_light n k L.LookAheadNeg (alt ts) p light = asked_light true 0 (re_of unicode groups called n k (alt ts)) (state_weight groups call (alt ts)) 0 light (omega arith)
    around_light n k L.LookBehind (alt ts) p light =
        joined_light (sizes.size groups (alt ts)).always false (each_around unicode groups called n k L.LookBehind ts) (sizes.size groups (alt ts)).least
        (re_of unicode groups called n k (alt ts)) (state_weight groups call (alt ts)) (each_steps groups ts) light
        (each_cats n k L.LookBehind (λ t. refl) ts p.0 p.1) (each_alts n k L.LookBehind (λ t. refl) ts p.0 p.1)
    around_light n k L.LookBehindNeg (alt ts) p light =
        joined_light (sizes.size groups (alt ts)).always true (each_around unicode groups called n k L.LookBehindNeg ts) (sizes.size groups (alt ts)).least
        (re_of unicode groups called n k (alt ts)) (state_weight groups call (alt ts)) (each_steps groups ts) light
        (each_cats n k L.LookBehindNeg (λ t. refl) ts p.0 p.1) (each_alts n k L.LookBehindNeg (λ t. refl) ts p.0 p.1)
    around_light n k how empty p light = asking_light unicode groups called call n k how empty refl light
    around_light n k how (any newline crlf) p light = omega arith
    around_light n k how (literal val casei) p light = omega arith
    around_light n k how (delegate class casei) p light = omega arith
    around_light n k how (general_newline wide) p light = asking_light unicode groups called call n k how (general_newline wide) refl light
    around_light n k how (assertion a) p light = asking_light unicode groups called call n k how (assertion a) refl light
    around_light n k how (concat ts) p light = asking_light unicode groups called call n k how (concat ts) refl light
    around_light n k how (group t) p light = asking_light unicode groups called call n k how (group t) refl light
    around_light n k how (look_around t inner) p light = asking_light unicode groups called call n k how (look_around t inner) refl light
    around_light n k how (atomic_group t) p light = asking_light unicode groups called call n k how (atomic_group t) refl light
    around_light n k how (conditional c a b) p light = asking_light unicode groups called call n k how (conditional c a b) refl light
    around_light n k how (subroutine_call j) p light = asking_light unicode groups called call n k how (subroutine_call j) refl light
    around_light n k how (define_group t) p light = asking_light unicode groups called call n k how (define_group t) refl light
    around_light n k how (verb v) p light = asking_light unicode groups called call n k how (verb v) refl light
    around_light n k how continue p light = asking_light unicode groups called call n k how continue refl light
    around_light n k how (repeat t lo hi greedy) p light = asking_light unicode groups called call n k how (repeat t lo hi greedy) refl light
    around_light n k how keep_out p light = absurd (true≢false (sym p))
    around_light n k how _ p light = absurd p

    each_cats : (n k : ℕ) (how : LookAround) → ((t : Tree) → stepping_weight groups how t ≡ steps_of groups t) → (ts : Trees) → (ts ≢ no_trees) → AreRegular false known ts
        → weight (re.cats (each_around unicode groups called n k how ts)) ≤ 2 * (1 + (state_weights groups call ts + 3 * branch_gaps groups ts) + each_steps groups ts)
    each_cats n k how is no_trees some p = absurd (some refl)
    each_cats n k how is (more_trees t no_trees) some p =
        let here = around_light n k how t p.0 (regular_light false n k t p.0) in
        omega (arith, here, is t, cats_one (around unicode groups called n k how (re_of unicode groups called n k t) t))
    each_cats n k how is (more_trees t (more_trees u us)) some p =
        let here = around_light n k how t p.0 (regular_light false n k t p.0) in
        let later = each_cats (n + group_count t) (k + length (classes t)) how is (more_trees u us) (λ e. cc) p.1 in
        omega (
          arith,
          here,
          is t,
          later,
          cats_cons (around unicode groups called n k how (re_of unicode groups called n k t) t)
              (each_around unicode groups called (n + group_count t) (k + length (classes t)) how (more_trees u us)),
        )

    each_alts : (n k : ℕ) (how : LookAround) → ((t : Tree) → stepping_weight groups how t ≡ steps_of groups t) → (ts : Trees) → (ts ≢ no_trees) → AreRegular false known ts
        → weight (re.alts (each_around unicode groups called n k how ts)) ≤ 2 * (1 + (state_weights groups call ts + 3 * branch_gaps groups ts) + each_steps groups ts)
    each_alts n k how is no_trees some p = absurd (some refl)
    each_alts n k how is (more_trees t no_trees) some p =
        let here = around_light n k how t p.0 (regular_light false n k t p.0) in
        omega (arith, here, is t)
    each_alts n k how is (more_trees t (more_trees u us)) some p =
        let here = around_light n k how t p.0 (regular_light false n k t p.0) in
        let later = each_alts (n + group_count t) (k + length (classes t)) how is (more_trees u us) (λ e. cc) p.1 in
        omega (arith, here, is t, later)

-- Where calls are written out, each weighs twice as much at most as its body.
module _ (unicode : Bool) (groups : List Tree) (cs : List (Text × Bool)) where
  body_weighs : (depth j : ℕ) (body : Tree) → target groups j ≡ Some body
      → call_state_weight groups (suc depth) j ≡ state_weight groups (call_state_weight groups depth) body
  unfolding call_state_weight
  body_weighs depth j body is =
      ap (λ (o : Option Tree). elim o [ None ↦ 1 | Some inner ↦ state_weight groups (call_state_weight groups depth) inner ]) is

  call_light : (depth : ℕ) → depth ≤ length groups → (j : ℕ) (x : Re) → IsCalled groups unicode cs depth j x
      → weight x ≤ 2 * call_state_weight groups depth j
  unfolding IsCalled
  call_light zero le j x is = absurd is
  call_light (suc depth) le j x is =
      let found = some_body (IsOfBody groups unicode cs (IsCalled groups unicode cs depth) j x) (target groups j) is in
      let called = found.2.0 in
      let inside =
      regular_light unicode groups called (call_state_weight groups depth) (λ i. IsCalled groups unicode cs depth i (called i))
      (λ i known. call_light depth (omega (arith, le)) i (called i) known)
      (λ resets n k t p. called_flag groups unicode cs depth (omega (arith, le)) called resets n k t p) false (j + 1) found.2.1 found.0 found.2.2 in
      omega (arith, ap weight found.2.3, body_weighs depth j found.0 found.1, inside)

  whole_light : (depth : ℕ) → depth ≤ length groups → (called : ℕ → Re) (resets : Bool) (n k : ℕ) (t : Tree)
      → IsRegular resets (λ j. IsCalled groups unicode cs depth j (called j)) t
      → weight (re_of unicode groups called n k t) ≤ 2 * state_weight groups (call_state_weight groups depth) t
  whole_light depth le called resets n k t p =
      regular_light unicode groups called (call_state_weight groups depth) (λ j. IsCalled groups unicode cs depth j (called j))
      (λ j is. call_light depth le j (called j) is) (λ resets n k t p. called_flag groups unicode cs depth le called resets n k t p) resets n k t p

-- A regular pattern has fewer states than twice its weight as states.
pub states_light : (unicode resets : Bool) (states : List State) (entry : ℕ) (matchers : List CharClassMatcher) (pattern : Pattern)
    → AreRegularStates unicode resets states entry matchers pattern → length states + 3 ≤ 2 * tree_state_weight pattern.groups pattern.tree
states_light unicode resets states entry matchers pattern is =
    let pattern_re = re_of unicode pattern.groups is.called pattern.first_group is.base pattern.tree in
    let most = emitted_weighs pattern_re (End ∷ []) 0 in
    let same = ap (λ (made : List State × ℕ). length made.0) is.program in
    omega (
      arith,
      most,
      same,
      whole_light unicode pattern.groups is.all_classes (greatest_nesting (length pattern.groups)) (omega arith) is.called resets pattern.first_group is.base pattern.tree is.regular,
    )

-- Of n states, with no more starts than places, each start costs n looks and one more at most, and each place n.
pub looks_bound : (places starts n due cost w old new : ℕ) → new ≤ old + starts * (due + 1) + places * cost → starts ≤ places
    → due ≤ n → cost ≤ n → n + 3 ≤ 2 * w → new ≤ old + 4 * w * places
looks_bound places starts n due cost w old new most few cheap light weighs =
    let first : (due + 1) * starts ≤ (due + 1) * places = mul-le-mul_left (due + 1) few in
    let each : places * (due + 1) ≤ places * (n + 1) = mul-le-mul_left places (omega arith) in
    let all : places * cost ≤ places * n = mul-le-mul_left places light in
    let whole : places * (2 * n + 1) ≤ places * (4 * w) = mul-le-mul_left places (omega arith) in
    omega (arith, most, first, each, all, whole)

-- Of n states, none much dearer, a walk over no more places costs n + 1 looks for each state and place at most.
pub walk_bound : (places start n due cost dear w old found new : ℕ) → 1 ≤ places → start ≤ places → due ≤ n → cost ≤ n → dear ≤ n + 1 → n + 3 ≤ 2 * w
    → found ≤ old + 4 * w * places → new ≤ found + dear * (due + start * cost + 1) + places * cost
    → new ≤ old + 12 * (w * w) * places
walk_bound places start n due cost dear w old found new some early cheap light dearest weighs first most =
    let steps : due + start * cost + 1 ≤ n + places * n + 1 =
    omega (arith, mul-le-mul_left start light, mul-le-mul_left n early) in
    let rows : places * n ≤ places * (2 * w) = mul-le-mul_left places (omega (arith, weighs)) in
    let twice : n + places * n + 1 ≤ 2 * w * (places + 1) = omega (arith, rows, weighs) in
    let each : dear * (due + start * cost + 1) ≤ dear * (2 * w * (places + 1)) = mul-le-mul_left dear (omega (arith, steps, twice)) in
    let all : (2 * w * (places + 1)) * dear ≤ (2 * w * (places + 1)) * (2 * w) = mul-le-mul_left (2 * w * (places + 1)) (omega (arith, dearest, weighs)) in
    let square : w * w * 1 ≤ w * w * places = mul-le-mul_left (w * w) some in
    let two : w * places * 2 ≤ w * places * w = mul-le-mul_left (w * places) (omega (arith, weighs)) in
    let rest : places * cost ≤ places * (2 * w) = mul-le-mul_left places (omega (arith, light, weighs)) in
    omega (arith, first, most, each, all, square, two, rest)

pub due_most : (mark : Option ℕ) (cost : ℕ) → due_of mark cost ≤ cost
due_most None cost = omega arith
due_most (Some m) cost = omega arith

one_of_two : (b : Bool) (m n most : ℕ) → m ≤ most → n ≤ most → (if b then m else n) ≤ most
one_of_two true m n most h k = h
one_of_two false m n most h k = k

module _ (regular : Regular) (text : List ℕ) (input : RunInput) where
  -- no more starts than places
  starts_few : input.first ≤ input.range.end → input.range.end ≤ length text → last_start input ≤ length text
  starts_few low high = one_of_two input.anchored input.first input.range.end (length text) (omega arith) high

  -- what a search takes whose memory begins at this byte offset
  pub looks_most : (pattern : Pattern) → IsRegularOf regular pattern → input.first ≤ input.range.end → input.range.end ≤ length text
      → (base old new : ℕ) → base ≤ input.first
      → new ≤ old + (last_start input - input.first + 1) * (due regular.table regular.entry + 1)
      + (length text - base + 1) * table_weight regular.table
      → new ≤ old + 4 * tree_state_weight pattern.groups pattern.tree * (length text - base + 1)
  looks_most pattern is low high base old new early most =
      let table = regular.table in
      let light = states_light regular.unicode regular.resets_start table.states.items regular.entry regular.matchers.items pattern is.states in
      let cheap = (regular.right.right regular.entry regular.inside).cheap in
      let few = starts_few low high in
      looks_bound (length text - base + 1) (last_start input - input.first + 1) (length table.states.items) (due table regular.entry) (table_weight table)
      (tree_state_weight pattern.groups pattern.tree) old new most (omega arith)
      (omega (arith, due_most (mark_of table regular.entry) (cost_of table regular.entry), cheap)) regular.right.light light

  -- where nothing is found there is no walk
  pub none_for_groups : (pattern : Pattern) → IsRegularOf regular pattern → (base old new : ℕ)
      → new ≤ old + 4 * tree_state_weight pattern.groups pattern.tree * (length text - base + 1)
      → new ≤ old + 12 * (tree_state_weight pattern.groups pattern.tree * tree_state_weight pattern.groups pattern.tree) * (length text - base + 1)
  none_for_groups pattern is base old new most =
      let light = states_light regular.unicode regular.resets_start regular.table.states.items regular.entry regular.matchers.items pattern is.states in
      let w = tree_state_weight pattern.groups pattern.tree in
      let two : w * (length text - base + 1) * 2 ≤ w * (length text - base + 1) * w = mul-le-mul_left (w * (length text - base + 1)) (omega (arith, light)) in
      omega (arith, most, two)

  -- and with a walk along the match
  pub looks_for_groups : (pattern : Pattern) → IsRegularOf regular pattern → (base start old found new : ℕ) → base ≤ start
      → found ≤ old + 4 * tree_state_weight pattern.groups pattern.tree * (length text - base + 1)
      → new ≤ found + dearest regular.table regular.entry * (due regular.table regular.entry + cost_from regular.table text start + 1)
      + cost_from regular.table text base
      → new ≤ old + 12 * (tree_state_weight pattern.groups pattern.tree * tree_state_weight pattern.groups pattern.tree) * (length text - base + 1)
  unfolding dearest
  looks_for_groups pattern is base start old found new early first most =
      let table = regular.table in
      let light = states_light regular.unicode regular.resets_start table.states.items regular.entry regular.matchers.items pattern is.states in
      let cheap = (regular.right.right regular.entry regular.inside).cheap in
      let due_is = due_most (mark_of table regular.entry) (cost_of table regular.entry) in
      walk_bound (length text - base + 1) (length text - start + 1) (length table.states.items) (due table regular.entry) (table_weight table)
      (max table.most (due table regular.entry)) (tree_state_weight pattern.groups pattern.tree) old found new (omega arith) (omega arith)
      (omega (arith, due_is, cheap)) regular.right.light (omega (arith, due_is, cheap, regular.right.cheap)) light first most
