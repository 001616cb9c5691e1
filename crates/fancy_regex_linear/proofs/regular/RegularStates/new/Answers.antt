use Rattle.std.proofs.Common.{◌≡◌, ◌∙◌, [], ◌∷◌, ◌++◌, Bool, List, ℕ, ◌==◌, if◌then◌else◌, Option, None, Some, IsSome, IfSome, map, ap, sym, subst, rules, refl, inl, inr, true≢false}
use Rattle.std.proofs.lemmas.Result.{MatchResult-from_err}
use Rattle.fancy_regex_tree.specs.Tree.{Tree, tree_of}
use Rattle.fancy_regex_info.specs.Analysis.{analysis}
use Rattle.fancy_regex_info.specs.Infos.{info_of}
use Rattle.fancy_regex_info.specs.Views.{body_tree, pattern_in}
use Rattle.fancy_regex_info.specs.declared.info.Info.{out-Info}
use Rattle.fancy_regex_info.specs.declared.error.CompileError.{CompileError}
use Rattle.fancy_regex_info.specs.declared.error.CompileError.TheVariants.{Memory}
use Rattle.fancy_regex_linear.specs.Re.{shape}
use Rattle.fancy_regex_linear.specs.Program.{emitted}
use Rattle.fancy_regex_linear.specs.Plain.{IsRegular, classes}
use Rattle.fancy_regex_linear.specs.CalledClasses.{IsReached, IsBodyCause, IsWrittenCause}
use Rattle.fancy_regex_linear.specs.CallMarks.{WritesCalls}
use Rattle.fancy_regex_linear.specs.Refusals.{IsClassCause}
use Rattle.fancy_regex_linear.specs.RegularStates.{IsMadeFor, IsMadeOrShort}
use Rattle.fancy_regex_linear.specs.Calls.{has_own_span}
use Rattle.fancy_regex_states.specs.declared.state.State.{State}
use Rattle.fancy_regex_states.specs.declared.state.State.TheVariants.{Match as End}
use Rattle.fancy_regex_linear.proofs.ExactLemmas.{groups_same, starts_by}
use Rattle.fancy_regex_linear.proofs.ServedLemmas.{info_is_of}
use Rattle.fancy_regex_linear.proofs.TranslationLemmas.{is_made, first_is, tree_is}
use Rattle.fancy_regex_linear.proofs.WrittenLemmas.{of_a_tree, are_states, cause_of_tree, cause_of_called}
use Rattle.fancy_regex_linear.proofs.regular.RegularStates.new.Goals as goal

-- what is told of a pattern that has states
is_there : (found : Option Bool) (x : Bool) → found ≡ Some x → IsSome found
is_there found x is = subst IsSome (sym is) refl

none_there : (found : Option Bool) → ((x : Bool) → found ≡ Some x → ⊥) → IsSome found → ⊥
none_there None none some = true≢false (sym some)
none_there (Some x) none some = none x refl

told : (P : Bool → Type 0) (found : Option Bool) (x : Bool) → found ≡ Some x → IfSome found P → P x
told P found x is h = subst (λ (o : Option Bool). IfSome o P) is h

pub returns-clause-made : goal.returns-clause-made
returns-clause-made c explicit t is =
    let of = info_is_of c.args.info.now explicit t is in
    let unicode = c.args.options.now.unicode in
    let pattern = pattern_in explicit t in
    let u = tree_of (out-Info c.args.info.now).expr.now in
    let groups = map body_tree c.deref.result.now in
    let begins : (c.start_group-explicit.result == 0) ≡ explicit = ap (λ (n : ℕ). n == 0) c.start_group-explicit.ensures ∙ of.start in
    let same_groups : groups ≡ pattern.groups =
    groups_same c.deref.result.now c.in_ok-bodies.bodies.items c.deref.ensures.value (c.start_group-explicit.result == 0) explicit u t begins of.tree c.in_ok-bodies.ensures in
    let same_tree : u ≡ pattern.tree = of.tree ∙ sym (tree_is explicit t) in
    let one : c.add.new.states.items ≡ End ∷ [] = c.in_ok-add.ensures.states ∙ ap (λ (xs : List State). xs ++ End ∷ []) c.new-states.ensures.items in
    let made : emitted (shape c.in_ok-translated.translated.node) (End ∷ []) 0 ≡ (c.emit.new.states.items, c.in_ok-entry.entry) = rw one at c.in_ok-entry.ensures.made in
    let first : c.write_calls.new.self.next_group ≡ pattern.first_group =
    c.in_ok-write_calls.ensures.groups ∙ c.new-translator.ensures.first ∙ ap (λ b. if b then 0 else 1) begins ∙ first_is explicit t in
    let same : c.write_calls.new.self.unicode ≡ unicode = c.in_ok-write_calls.ensures.unicode ∙ c.new-translator.ensures.unicode in
    let writes : WritesCalls groups u unicode c.write_calls.new.self =
    subst (λ b. WritesCalls groups u b c.write_calls.new.self) c.new-translator.ensures.unicode
    (c.in_ok-write_calls.ensures.calls c.new-translator.ensures.matchers c.new-translator.ensures.tables.1) in
    let made_for : IsMadeFor pattern = (c.in_ok-found.ensures.exact explicit t is).0 (is_there c.in_ok-found.found c.in-Some.resets_start c.in-Some.is) in
    let start = starts_by pattern c.in-Some.resets_start (told _ c.in_ok-found.found c.in-Some.resets_start c.in-Some.is c.in_ok-found.ensures.keeps explicit t is) made_for in
    are_states unicode pattern groups u same_groups same_tree (of_a_tree explicit t) c.in-Some.resets_start start.0 start.1 c.write_calls.new.self c.translated.new.self c.in_ok-translated.translated.node
    c.emit.new.states.items c.in_ok-entry.entry same first c.in_ok-write_calls.ensures.sizes made_for writes
    c.in_ok-translated.ensures.shape c.in_ok-translated.ensures.matchers c.in_ok-translated.ensures.sound made

pub returns-clause-program : goal.returns-clause-program
returns-clause-program c =
    let one : c.add.new.states.items ≡ End ∷ [] = c.in_ok-add.ensures.states ∙ ap (λ (xs : List State). xs ++ End ∷ []) c.new-states.ensures.items in
    let made : emitted (shape c.in_ok-translated.translated.node) (End ∷ []) 0 ≡ (c.emit.new.states.items, c.in_ok-entry.entry) = rw one at c.in_ok-entry.ensures.made in
    is_made (shape c.in_ok-translated.translated.node) c.emit.new.states.items c.in_ok-entry.entry c.in_ok-translated.ensures.sound made

pub returns-clause-keeps : goal.returns-clause-keeps
returns-clause-keeps c = told _ c.in_ok-found.found c.in-Some.resets_start c.in-Some.is c.in_ok-found.ensures.keeps

pub returns-clause-exact : goal.returns-clause-exact
returns-clause-exact c explicit t is =
    (λ some. (c.in_ok-found.ensures.exact explicit t is).0 (is_there c.in_ok-found.found c.in-Some.resets_start c.in-Some.is), λ made. refl)

pub returns-in_default-clause-exact : goal.returns-in_default-clause-exact
returns-in_default-clause-exact c explicit t is =
    (λ some. absurd (true≢false (sym some)), λ made. absurd (none_there c.in_ok-found.found c.in_default.not-Some ((c.in_ok-found.ensures.exact explicit t is).1 made)))

pub returns-in_err-write_calls-clause-refused : goal.returns-in_err-write_calls-clause-refused
returns-in_err-write_calls-clause-refused c =
    let why : (explicit : Bool) (t : Tree) → info_of c.args.info.now ≡ analysis explicit t
    → IsWrittenCause c.args.options.now.unicode (pattern_in explicit t) c.in_err-write_calls.field-0.0 =
    λ explicit t is.
    let of = info_is_of c.args.info.now explicit t is in
    let unicode = c.args.options.now.unicode in
    let pattern = pattern_in explicit t in
    let u = tree_of (out-Info c.args.info.now).expr.now in
    let groups = map body_tree c.deref.result.now in
    let begins : (c.start_group-explicit.result == 0) ≡ explicit = ap (λ (n : ℕ). n == 0) c.start_group-explicit.ensures ∙ of.start in
    let same_groups : groups ≡ pattern.groups =
    groups_same c.deref.result.now c.in_ok-bodies.bodies.items c.deref.ensures.value (c.start_group-explicit.result == 0) explicit u t begins of.tree c.in_ok-bodies.ensures in
    let same_tree : u ≡ pattern.tree = of.tree ∙ sym (tree_is explicit t) in
    cause_of_called unicode pattern groups u same_groups same_tree c.in_err-write_calls.field-0.0
    (subst (λ (b : Bool). IsBodyCause b groups (IsReached groups u) c.in_err-write_calls.field-0.0) c.new-translator.ensures.unicode c.in_err-write_calls.ensures.refused) in
    search rules

pub returns-in_err-translated-clause-refused : goal.returns-in_err-translated-clause-refused
returns-in_err-translated-clause-refused c =
    let why : (explicit : Bool) (t : Tree) → info_of c.args.info.now ≡ analysis explicit t
    → IsWrittenCause c.args.options.now.unicode (pattern_in explicit t) c.in_err-translated.field-0.0 =
    λ explicit t is.
    let of = info_is_of c.args.info.now explicit t is in
    let unicode = c.args.options.now.unicode in
    let pattern = pattern_in explicit t in
    let u = tree_of (out-Info c.args.info.now).expr.now in
    let groups = map body_tree c.deref.result.now in
    let begins : (c.start_group-explicit.result == 0) ≡ explicit = ap (λ (n : ℕ). n == 0) c.start_group-explicit.ensures ∙ of.start in
    let same_groups : groups ≡ pattern.groups =
    groups_same c.deref.result.now c.in_ok-bodies.bodies.items c.deref.ensures.value (c.start_group-explicit.result == 0) explicit u t begins of.tree c.in_ok-bodies.ensures in
    let same_tree : u ≡ pattern.tree = of.tree ∙ sym (tree_is explicit t) in
    cause_of_tree unicode pattern groups u same_groups same_tree c.in_err-translated.field-0.0
    (subst (λ (b : Bool). IsClassCause b (classes u) c.in_err-translated.field-0.0)
    (c.in_ok-write_calls.ensures.unicode ∙ c.new-translator.ensures.unicode) c.in_err-translated.ensures.refused) in
    search rules

pub returns-in_err-bodies-clause-only : goal.returns-in_err-bodies-clause-only
returns-in_err-bodies-clause-only c =
    MatchResult-from_err c.from_residual-in_err-bodies.result _ _ c.from_residual-in_err-bodies.ensures.0
    (λ error explicit t is. inl ((c.in_ok-found.ensures.exact explicit t is).0 (is_there c.in_ok-found.found c.in-Some.resets_start c.in-Some.is)))

pub returns-in_err-write_calls-clause-only : goal.returns-in_err-write_calls-clause-only
returns-in_err-write_calls-clause-only c =
    MatchResult-from_err c.from_residual-in_err-write_calls.result _ _ c.from_residual-in_err-write_calls.ensures.0
    (λ error explicit t is. inl ((c.in_ok-found.ensures.exact explicit t is).0 (is_there c.in_ok-found.found c.in-Some.resets_start c.in-Some.is)))

pub returns-in_err-translated-clause-only : goal.returns-in_err-translated-clause-only
returns-in_err-translated-clause-only c =
    MatchResult-from_err c.from_residual-in_err-translated.result _ _ c.from_residual-in_err-translated.ensures.0
    (λ error explicit t is. inl ((c.in_ok-found.ensures.exact explicit t is).0 (is_there c.in_ok-found.found c.in-Some.resets_start c.in-Some.is)))

pub returns-in_err-add-clause-only : goal.returns-in_err-add-clause-only
returns-in_err-add-clause-only c =
    MatchResult-from_err c.from_residual-in_err-add.result _ _ c.from_residual-in_err-add.ensures.0
    (λ error explicit t is. inl ((c.in_ok-found.ensures.exact explicit t is).0 (is_there c.in_ok-found.found c.in-Some.resets_start c.in-Some.is)))

pub returns-in_err-entry-clause-only : goal.returns-in_err-entry-clause-only
returns-in_err-entry-clause-only c =
    MatchResult-from_err c.from_residual-in_err-entry.result _ _ c.from_residual-in_err-entry.ensures.0
    (λ error explicit t is. inl ((c.in_ok-found.ensures.exact explicit t is).0 (is_there c.in_ok-found.found c.in-Some.resets_start c.in-Some.is)))

pub returns-in_err-found-clause-only : goal.returns-in_err-found-clause-only
returns-in_err-found-clause-only c =
    let only : (error : CompileError) → error ≡ Memory → (explicit : Bool) (t : Tree) → info_of c.args.info.now ≡ analysis explicit t
    → IsMadeOrShort (pattern_in explicit t) error =
    λ error short explicit t is.
    inr (
      short,
      λ p. c.in_err-found.ensures.calls explicit t is
          (subst (IsRegular (has_own_span (pattern_in explicit t)) (λ j. ⊥)) (tree_is explicit t) p),
    ) in
    search rules
