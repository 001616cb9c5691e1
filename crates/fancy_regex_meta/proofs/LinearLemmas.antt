-- That a pattern is linear is decided by its strategy, and its searches tell no limit.
use mathlib.Core.HLevel.{Π_prop, ×_prop, Unit-prop, ⊥_prop}
use mathlib.Core.Logic.{∥∥₁_elim}
use Rattle.std.proofs.Common.{◌≡◌, ◌⊎◌, ◌↔◌, ◌∙◌, ⊎_elim, inl, inr, Bool, true, false, true≢false, List, ℕ, zero, suc, length, Option, Some, None, refl, sym, ap, subst}
use Rattle.std.proofs.Math.Bool.{Bool-set}
use Rattle.std.proofs.Math.Bridge.{le_prop}
use Rattle.fancy_regex_tree.specs.Tree.{Tree, Trees, tree_of, empty, any, assertion, general_newline, literal, concat, alt, group, look_around, repeat, delegate, atomic_group, conditional, verb, keep_out, continue, define_group, subroutine_call, no_trees, more_trees}
use Rattle.fancy_regex_tree.specs.declared.expr.BacktrackingControlVerb.{BacktrackingControlVerb}
use Rattle.fancy_regex_tree.specs.declared.expr.BacktrackingControlVerb.TheVariants.{Fail}
use Rattle.fancy_regex_tree.specs.declared.expr_tree.ExprTree.{ExprTree}
use Rattle.fancy_regex_meaning.specs.Groups.{Pattern, pattern_of}
use Rattle.fancy_regex_class.specs.declared.input.RunInput.{RunInput}
use Rattle.fancy_regex_input.specs.SearchInputs.{effective_start, run_input_of}
use Rattle.fancy_regex_linear.specs.Plain.{IsFail, IsRegular, AreRegular}
use Rattle.fancy_regex_linear.specs.Calls.{OfBody, greatest_nesting, IsCallable, IsWrittenOut}
use Rattle.fancy_regex_meaning.specs.Sizes.{target}
use Rattle.fancy_regex_regular.specs.Supported.{IsSupported}
use Rattle.fancy_regex_meta.specs.EasyPatterns.{is_easy_tree, uses_easy, pattern_uses_easy}
use Rattle.fancy_regex_meta.specs.LinearPatterns.{IsLinear, PatternIsLinear, is_linear_strategy}
use Rattle.fancy_regex_meta.specs.Patterns.{tree_in, tree_or_empty}
use Rattle.fancy_regex_meta.specs.Reading.{IsReading}
use Rattle.fancy_regex_meta.specs.SearchLimits.{IsSearchError, IsStrategyError, MeetsNoLimit, meta_uses_easy, meta_choices}
use Rattle.fancy_regex_meta.specs.declared.error.Error.{Error}
use Rattle.fancy_regex_meta.specs.declared.error.Error.TheVariants as told
use Rattle.fancy_regex_meta.specs.declared.meta_regex.MetaRegex.{MetaRegex}
use Rattle.fancy_regex_meta.specs.declared.options.RegexOptions.{RegexOptions}
use Rattle.fancy_regex_meta.specs.declared.strategy.Strategy.{Strategy}
use Rattle.fancy_regex_meta.specs.declared.strategy.Strategy.TheVariants.{Easy, Linear, Program, Regular}

-- that a tree is regular is so in one way
fail_prop : (v : BacktrackingControlVerb) → IsProp (IsFail v)
fail_prop Fail = Unit-prop
fail_prop _ = ⊥_prop

module _ (called : ℕ → Type 0) (props : (j : ℕ) → IsProp (called j)) where
  mutual
    regular_prop : (resets : Bool) (t : Tree) → IsProp (IsRegular resets called t)
    regular_prop resets empty = Unit-prop
    regular_prop resets (any newline crlf) = Unit-prop
    regular_prop resets (literal val casei) = Unit-prop
    regular_prop resets (delegate class casei) = Unit-prop
    regular_prop resets (general_newline wide) = Unit-prop
    regular_prop resets (assertion a) = Unit-prop
    regular_prop resets (concat ts) = all_prop resets ts
    regular_prop resets (alt ts) = ×_prop (Π_prop λ e. ⊥_prop) (all_prop resets ts)
    regular_prop resets (group t) = regular_prop resets t
    regular_prop resets (look_around t how) = regular_prop false t
    regular_prop resets (atomic_group t) = regular_prop resets t
    regular_prop resets (conditional c a b) = ×_prop (regular_prop resets c) (×_prop (regular_prop resets a) (regular_prop resets b))
    regular_prop resets (define_group t) = Unit-prop
    regular_prop resets (verb v) = fail_prop v
    regular_prop resets keep_out = Bool-set resets true
    regular_prop resets continue = Unit-prop
    regular_prop resets (subroutine_call j) = props j
    regular_prop resets (repeat t lo hi greedy) = Π_prop λ made. regular_prop resets t
    regular_prop resets _ = ⊥_prop

    all_prop : (resets : Bool) (ts : Trees) → IsProp (AreRegular resets called ts)
    all_prop resets no_trees = Unit-prop
    all_prop resets (more_trees t ts) = ×_prop (regular_prop resets t) (all_prop resets ts)

body_prop : (P : Tree → Type 0) → ((t : Tree) → IsProp (P t)) → (o : Option Tree) → IsProp (OfBody P o)
body_prop P props None = ⊥_prop
body_prop P props (Some t) = props t

callable_prop : (groups : List Tree) (depth j : ℕ) → IsProp (IsCallable groups depth j)
unfolding IsCallable
callable_prop groups zero j = ⊥_prop
callable_prop groups (suc depth) j =
    body_prop (IsRegular false (IsCallable groups depth)) (regular_prop (IsCallable groups depth) (callable_prop groups depth) false) (target groups j)

written_prop : (groups : List Tree) (resets : Bool) (t : Tree) → IsProp (IsWrittenOut groups resets t)
written_prop groups = regular_prop (IsCallable groups (greatest_nesting (length groups))) (callable_prop groups (greatest_nesting (length groups)))

supported_prop : (pattern : Pattern) → IsProp (IsSupported pattern)
supported_prop pattern = hlevel (written_prop, le_prop)

module _ (o : RegexOptions) (t : Tree) where
  by_states : ∥ IsLinear o t ∥₁ → is_easy_tree t ≡ false → IsSupported (pattern_of t)
  by_states is hard =
      ∥∥₁_elim is (supported_prop (pattern_of t))
      (λ linear. ⊎_elim (λ (easy : is_easy_tree t ≡ true). absurd (true≢false (sym easy ∙ hard))) (λ states. states) linear.1)

  either_way : (b : Bool) → is_easy_tree t ≡ b → ∥ IsLinear o t ∥₁ → (is_easy_tree t ≡ true) ⊎ IsSupported (pattern_of t)
  either_way true easy is = inl easy
  either_way false hard is = inr (by_states is hard)

  -- where it is known that there is a proof, there is one
  pub linear_known : ∥ IsLinear o t ∥₁ → IsLinear o t
  linear_known is = (∥∥₁_elim is (Bool-set _ _) (λ linear. linear.0), either_way (is_easy_tree t) refl is)

-- the tree that was read is that of the text
tree_of_text : (o : RegexOptions) (text : List ℕ) (tree : ExprTree) → IsReading o text tree → tree_of tree.expr ≡ tree_in o text
tree_of_text o text tree reading = reading.2.tree ∙ sym (ap tree_or_empty reading.1)

-- what decides of it whether the text is easy, and whether it is linear, decides it of the text
pub easy_of_text : (o : RegexOptions) (text : List ℕ) (tree : ExprTree) (b : Bool) → IsReading o text tree → b ≡ uses_easy o (tree_of tree.expr)
    → b ≡ pattern_uses_easy o text
easy_of_text o text tree b reading is = is ∙ ap (uses_easy o) (tree_of_text o text tree reading)

pub linear_of_text : (o : RegexOptions) (text : List ℕ) (tree : ExprTree) (b : Bool) → IsReading o text tree → (b ≡ true ↔ IsLinear o (tree_of tree.expr))
    → (b ≡ true ↔ ∥ PatternIsLinear o text ∥₁)
linear_of_text o text tree b reading exact =
    let same = tree_of_text o text tree reading in (
      λ yes. ∣ subst (IsLinear o) same (exact.0 yes) ∣₁,
      λ known. ∥∥₁_elim known (Bool-set b true) (λ linear. exact.1 (subst (IsLinear o) (sym same) linear)),
    )

-- A strategy that is no program alone tells no limit.
module _ (served : Bool) (limit choices : ℕ) (o : RegexOptions) (text : List ℕ) (input : RunInput) where
  linear_error : (strategy : Strategy) → is_linear_strategy strategy ≡ true → (e : Error) → IsSearchError served limit choices e
      → IsStrategyError strategy o text input e → e ≡ told.Memory
  linear_error strategy linear told.Memory above passed = refl
  linear_error (Easy easy) linear (told.RuntimeError error) above passed = absurd passed
  linear_error (Linear matcher prog) linear (told.RuntimeError error) above passed = absurd passed
  linear_error (Regular regular prog run relaxed) linear (told.RuntimeError error) above passed = absurd passed
  linear_error (Program prog run) linear e above passed = absurd (true≢false (sym linear))
  linear_error strategy linear (told.ParseError position kind) above passed = absurd above
  linear_error strategy linear (told.CompileError cause) above passed = absurd above

pub tells_no_limit : (s : MetaRegex) → is_linear_strategy s.strategy ≡ true → MeetsNoLimit s
tells_no_limit s linear text config continue_disabled e is =
    linear_error (meta_uses_easy s) s.options.backtrack_limit (meta_choices s text config continue_disabled) s.options text
    (run_input_of config (effective_start config) continue_disabled) s.strategy linear e is.0 is.1
