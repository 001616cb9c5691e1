-- The translation of an easy tree and its states together are the compiled pattern.
use Rattle.std.proofs.Common.{◌≡◌, ℕ, ◌+◌, ◌==◌, Bool, true, false, not, if◌then◌else◌, List, [], ◌∷◌, length, Option, refl, sym, ap, ap₂, ◌∙◌, arith}
use Rattle.fancy_regex_tree.specs.Tree.{Tree, Text}
use Rattle.fancy_regex_meaning.specs.Groups.{group_count}
use Rattle.fancy_regex_meaning.proofs.GroupProofs.{groups_are_counted}
use Rattle.fancy_regex_class.specs.declared.class.CharClassMatcher.{CharClassMatcher}
use Rattle.fancy_regex_linear.specs.Re.{Re, shape}
use Rattle.fancy_regex_linear.specs.Program.{emitted, IsSound}
use Rattle.fancy_regex_linear.specs.Plain.{IsPlain, no_calls, classes, re_of}
use Rattle.fancy_regex_info.specs.Views.{pattern_in}
use Rattle.fancy_regex_linear.specs.Easy.{IsMade, HaveMatchers, IsCompiledPattern}
use Rattle.fancy_regex_linear.specs.Translation.{Extends, called_in}
use Rattle.fancy_regex_linear.specs.declared.build.Translator.{Translator}
use Rattle.fancy_regex_linear.specs.declared.callee.Callee.{Callee}
use Rattle.fancy_regex_info.specs.AnalysisRelations.{AreCallSizes}
use Rattle.fancy_regex_meaning.specs.Sizes.{size, size_through}
use Rattle.fancy_regex_linear.specs.declared.node.Node.{Node}
use Rattle.fancy_regex_states.specs.declared.state.State.{State}
use Rattle.fancy_regex_states.specs.declared.state.State.TheVariants.{Match as End}

-- states that are emitted for a sound pattern
pub is_made : (re : Re) (states : List State) (entry : ℕ) → IsSound re → emitted re (End ∷ []) 0 ≡ (states, entry) → IsMade states entry
is_made re states entry sound e = ∣ (re, (e, sound)) ∣₁

pub first_is : (explicit : Bool) (tree : Tree) → (if explicit then 0 else 1) ≡ (pattern_in explicit tree).first_group
first_is true tree = refl
first_is false tree = refl

pub tree_is : (explicit : Bool) (tree : Tree) → (pattern_in explicit tree).tree ≡ tree
tree_is true tree = refl
tree_is false tree = refl

pub count_is : (explicit : Bool) (tree : Tree) (n : ℕ) → n ≡ (if explicit then 0 else 1) → n + group_count tree ≡ length (pattern_in explicit tree).groups
count_is true tree n e = omega (arith, groups_are_counted tree)
count_is false tree n e = omega (arith, groups_are_counted tree)

pub whole_is : (explicit : Bool) (tree : Tree) → not explicit ≡ not ((pattern_in explicit tree).first_group == 0)
whole_is true tree = refl
whole_is false tree = refl

-- the pattern, from the translation of a tree without calls
pub shape_is : (unicode explicit : Bool) (tree : Tree) (translator : Translator) (node : Node)
    → translator.unicode ≡ unicode → translator.next_group ≡ (if explicit then 0 else 1) → translator.matchers.items ≡ [] → translator.called.items ≡ []
    → shape node ≡ re_of translator.unicode [] (called_in translator.called.items) translator.next_group (length translator.matchers.items) tree
    → shape node ≡ re_of unicode [] no_calls (pattern_in explicit tree).first_group 0 tree
shape_is unicode explicit tree translator node mode first none uncalled built =
    built
    ∙ ap₂ (λ (b : Bool) (called : List (Option Callee)). re_of b [] (called_in called) translator.next_group (length translator.matchers.items) tree) mode uncalled
    ∙ ap₂ (λ (n : ℕ) (ms : List CharClassMatcher). re_of unicode [] no_calls n (length ms) tree) (first ∙ first_is explicit tree) none

-- and its states
pub program_is : (unicode explicit : Bool) (tree : Tree) (translator : Translator) (node : Node) (states : List State) (entry : ℕ)
    → translator.unicode ≡ unicode → translator.next_group ≡ (if explicit then 0 else 1) → translator.matchers.items ≡ [] → translator.called.items ≡ []
    → shape node ≡ re_of translator.unicode [] (called_in translator.called.items) translator.next_group (length translator.matchers.items) tree
    → emitted (shape node) (End ∷ []) 0 ≡ (states, entry)
    → emitted (re_of unicode [] no_calls (pattern_in explicit tree).first_group 0 tree) (End ∷ []) 0 ≡ (states, entry)
program_is unicode explicit tree translator node states entry mode first none uncalled built e =
    sym (ap (λ re. emitted re (End ∷ []) 0) (shape_is unicode explicit tree translator node mode first none uncalled built)) ∙ e

-- without groups there are no sizes of calls
pub no_sizes : AreCallSizes [] []
unfolding size size_through
no_sizes t = refl

-- a matcher for each class, from those that were added to none
pub serves_all : (unicode : Bool) (before after : List CharClassMatcher) (cs : List (Text × Bool)) → before ≡ [] → Extends unicode before after cs → HaveMatchers unicode after cs
serves_all unicode before after cs none e = let from : Extends unicode [] after cs = rw none at e in from.serve [] tt

pub serves : (unicode explicit : Bool) (tree : Tree) (states : List State) (entry : ℕ) (matchers : List CharClassMatcher) → IsPlain tree
    → emitted (re_of unicode [] no_calls (pattern_in explicit tree).first_group 0 tree) (End ∷ []) 0 ≡ (states, entry)
    → HaveMatchers unicode matchers (classes tree) → IsCompiledPattern unicode states entry matchers (pattern_in explicit tree)
serves unicode true tree states entry matchers plain program s = record { plain = plain; program = program; matchers_are = s }
serves unicode false tree states entry matchers plain program s = record { plain = plain; program = program; matchers_are = s }
