-- The states of a pattern whose calls are written out, from what was translated; and why a class of it is refused.
use Rattle.std.proofs.Common.{◌≡◌, ◌∙◌, ℕ, Bool, true, List, [], ◌∷◌, ◌++◌, length, refl, sym, ap, ap₂, subst, inl, inr}
use Rattle.fancy_regex_tree.specs.Tree.{Tree}
use Rattle.fancy_regex_meaning.specs.Groups.{Pattern}
use Rattle.fancy_regex_meaning.specs.Sizes.{target}
use Rattle.std.specs.List.{Contains}
use Rattle.fancy_regex_info.specs.AnalysisRelations.{AreCallSizes}
use Rattle.fancy_regex_info.specs.Views.{pattern_in}
use Rattle.fancy_regex_info.specs.declared.error.CompileError.{CompileError}
use Rattle.fancy_regex_info.specs.declared.error.CompileError.TheVariants.{InnerError, Memory}
use Rattle.fancy_regex_linear.specs.Re.{Re, shape}
use Rattle.fancy_regex_linear.specs.Program.{emitted, IsSound}
use Rattle.fancy_regex_linear.specs.Plain.{classes, re_of}
use Rattle.fancy_regex_linear.specs.Calls.{IsOfTree, has_own_span, greatest_nesting, IsCallable, IsWrittenOut, IsCalled}
use Rattle.fancy_regex_linear.specs.CalledClasses.{IsReached, IsBodyCause, IsWrittenCause}
use Rattle.fancy_regex_linear.specs.CallMarks.{WritesCalls}
use Rattle.fancy_regex_linear.specs.Refusals.{IsClassCause, ShowsClass}
use Rattle.fancy_regex_linear.specs.RegularStates.{AreRegularStates, IsMadeFor}
use Rattle.fancy_regex_linear.specs.Translation.{Extends, IsWritable, called_in}
use Rattle.fancy_regex_linear.specs.declared.build.Translator.{Translator}
use Rattle.fancy_regex_linear.specs.declared.node.Node.{Node}
use Rattle.fancy_regex_states.specs.declared.state.State.{State}
use Rattle.fancy_regex_states.specs.declared.state.State.TheVariants.{Match as End}
use Rattle.fancy_regex_linear.proofs.PlainLemmas.{regular_into}
use Rattle.fancy_regex_linear.proofs.KeepLemmas.{regular_true}
use Rattle.fancy_regex_linear.proofs.ApartLemmas.{of_some, some_body}
use Rattle.fancy_regex_linear.proofs.CallTableLemmas.{called_on}
use Rattle.fancy_regex_linear.proofs.CalleeLemmas.{have_count, stand_last}

pub of_a_tree : (explicit : Bool) (t : Tree) → IsOfTree (pattern_in explicit t)
of_a_tree explicit t = (explicit, t, refl)

module _ (unicode : Bool) (pattern : Pattern) (groups : List Tree) (u : Tree) (same_groups : groups ≡ pattern.groups) (same_tree : u ≡ pattern.tree) where
  -- the pattern that the tree became
  pub shape_of : (before : Translator) (node : Node) → before.unicode ≡ unicode → before.next_group ≡ pattern.first_group
      → AreCallSizes groups before.sizes.items → IsMadeFor pattern
      → (IsWritable u → (gs : List Tree) → AreCallSizes gs before.sizes.items
      → shape node ≡ re_of before.unicode gs (called_in before.called.items) before.next_group (length before.matchers.items) u)
      → shape node ≡ re_of unicode pattern.groups (called_in before.called.items) pattern.first_group (length before.matchers.items) pattern.tree
  shape_of before node same first sized made is =
      let deep = greatest_nesting (length pattern.groups) in
      let writable : IsWritable u =
      subst IsWritable (sym same_tree)
      (regular_true (λ j. Unit {0}) (has_own_span pattern) pattern.tree
      (regular_into (IsCallable pattern.groups deep) (λ j. Unit {0}) (λ j h. tt) (has_own_span pattern) pattern.tree made.regular)) in
      let calls = called_in before.called.items in
      let base = length before.matchers.items in
      is writable groups sized
      ∙ ap₂ (λ (b : Bool) (t : Tree). re_of b groups calls before.next_group base t) same same_tree
      ∙ ap₂ (λ (gs : List Tree) (n : ℕ). re_of unicode gs calls n base pattern.tree) same_groups first

  pub are_states : IsOfTree pattern → (resets : Bool) → (resets ≡ true → has_own_span pattern ≡ true) → IsWrittenOut pattern.groups resets pattern.tree
      → (before after : Translator) (node : Node) (states : List State) (entry : ℕ) → before.unicode ≡ unicode
      → before.next_group ≡ pattern.first_group → AreCallSizes groups before.sizes.items → IsMadeFor pattern → WritesCalls groups u unicode before
      → (IsWritable u → (gs : List Tree) → AreCallSizes gs before.sizes.items
      → shape node ≡ re_of before.unicode gs (called_in before.called.items) before.next_group (length before.matchers.items) u)
      → Extends before.unicode before.matchers.items after.matchers.items (classes u) → IsSound (shape node)
      → emitted (shape node) (End ∷ []) 0 ≡ (states, entry) → AreRegularStates unicode resets states entry after.matchers.items pattern
  are_states of resets own out before after node states entry same first sized made writes is adds sound program =
      let calls = called_in before.called.items in
      let base = length before.matchers.items in
      let pattern_is = shape_of before node same first sized made is in
      let all : WritesCalls pattern.groups pattern.tree unicode before =
      subst (λ gs. WritesCalls gs pattern.tree unicode before) same_groups (subst (λ t. WritesCalls groups t unicode before) same_tree writes) in
      let deep = greatest_nesting (length pattern.groups) in
      let more : Extends unicode before.matchers.items after.matchers.items (classes pattern.tree) =
      subst (λ t. Extends unicode before.matchers.items after.matchers.items (classes t)) same_tree
      (subst (λ b. Extends b before.matchers.items after.matchers.items (classes u)) same adds) in
      record {
        of_tree = of;
        all_classes = all.all_classes ++ classes pattern.tree;
        base = base;
        called = calls;
        own_span = own;
        regular =
            regular_into (λ j. IsCalled pattern.groups unicode all.all_classes deep j (calls j))
            (λ j. IsCalled pattern.groups unicode (all.all_classes ++ classes pattern.tree) deep j (calls j))
            (λ j h. called_on pattern.groups unicode all.all_classes (classes pattern.tree) deep j (calls j) h) resets pattern.tree (all.calls resets out);
        program = subst (λ (x : Re). emitted x (End ∷ []) 0 ≡ (states, entry)) pattern_is program;
        sound = subst IsSound pattern_is sound;
        stand = stand_last all.all_classes (classes pattern.tree) base (have_count unicode before.matchers.items all.all_classes all.matchers);
        matchers_are = more.serve all.all_classes all.matchers;
      }

  -- why a class of the tree, or of the body of a group that is called, is refused
  pub cause_of_tree : (error : CompileError) → IsClassCause unicode (classes u) error → IsWrittenCause unicode pattern error
  cause_of_tree (InnerError shown) why = record {
    class = why.class;
    is_there = inl (subst (λ t. Contains (classes t) why.class) same_tree why.is_there);
    is_shown = why.is_shown;
    refused = why.refused;
  }
  cause_of_tree Memory why = tt
  cause_of_tree _ why = absurd why

  reached_there : (j : ℕ) → IsReached groups u j → IsReached pattern.groups pattern.tree j
  reached_there j r = subst (λ gs. IsReached gs pattern.tree j) same_groups (subst (λ t. IsReached groups t j) same_tree r)

  pub cause_of_called : (error : CompileError) → IsBodyCause unicode groups (IsReached groups u) error → IsWrittenCause unicode pattern error
  cause_of_called (InnerError shown) why =
      let found = some_body (λ body. ShowsClass unicode (classes body) _) (target groups why.0) why.2 in
      let here : target pattern.groups why.0 ≡ _ = ap (λ gs. target gs why.0) (sym same_groups) ∙ found.1 in
      record {
        class = found.2.class;
        is_there =
            inr (
              why.0,
              reached_there why.0 why.1,
              of_some (λ body. Contains (classes body) found.2.class) (target pattern.groups why.0) found.0 here found.2.is_there,
            );
        is_shown = found.2.is_shown;
        refused = found.2.refused;
      }
  cause_of_called Memory why = tt
  cause_of_called _ why = absurd why
