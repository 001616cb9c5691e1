-- What each layer's error says of a tree and of a text.
use Rattle.std.proofs.Common.{◌≡◌, ℕ, Bool, true, false, ◌⊎◌, inl, inr, List, Ok, Err, refl, sym, ap, subst, ◌∙◌, true≢false}
use Rattle.std.specs.Prelude.{chars}
use Rattle.fancy_regex_tree.specs.declared.error.Error as tree
use Rattle.fancy_regex_tree.specs.declared.error.Error.TheVariants as of_reading
use Rattle.fancy_regex_tree.specs.declared.expr_tree.ExprTree.{ExprTree}
use Rattle.fancy_regex_tree.specs.Tree.{Tree, tree_of}
use Rattle.fancy_regex_tree.specs.Parse as reading
use Rattle.fancy_regex_tree.specs.Parse.{Parsed, parse}
use Rattle.fancy_regex_tree.specs.ReferenceSummary.{contains_subroutines}
use Rattle.fancy_regex_tree.specs.ParseResult.{IsParsed}
use Rattle.fancy_regex_meaning.specs.Groups.{pattern_of}
use Rattle.fancy_regex_analysis.specs.AnalysisErrors.{ErrorHolds}
use Rattle.fancy_regex_analysis.specs.NodeErrors.{is_memory}
use Rattle.fancy_regex_info.specs.declared.error.CompileError.{CompileError}
use Rattle.fancy_regex_info.specs.declared.error.CompileError.TheVariants as of_building
use Rattle.fancy_regex_linear.specs.Refusals.{IsCause}
use Rattle.fancy_regex_meta.specs.ErrorConversions.{from_tree_error, from_compile_error}
use Rattle.fancy_regex_meta.specs.Patterns.{read_as, reading_of}
use Rattle.fancy_regex_meta.specs.PatternMatches.{names_in}
use Rattle.fancy_regex_meta.specs.GroupNames.{AreGroupNumbersOf}
use Rattle.fancy_regex_meta.specs.EasyPatterns.{uses_easy, pattern_uses_easy, is_easy_strategy}
use Rattle.fancy_regex_meta.specs.Refusals.{context_of, compile_options_of, HasNoCause, IsTooLong, IsFirst, IsCompileRefusal, IsRefused, by_analysis, by_linear, by_compiler, RefusesTree, IsAccepted, Refuses, Accepts}
use Rattle.fancy_regex_meta.specs.declared.options.RegexOptions.{RegexOptions}
use Rattle.fancy_regex_meta.specs.declared.strategy.Strategy.{Strategy}
use Rattle.fancy_regex_meta.specs.declared.error.Error.{Error}
use Rattle.fancy_regex_meta.specs.declared.error.Error.TheVariants as told

module _ (o : RegexOptions) (marked calls : Bool) (t : Tree) where
  -- want of memory is told as such
  told_as : (cause : CompileError) → (is_memory cause ≡ false → IsRefused o marked calls t cause) → RefusesTree o marked calls t (from_compile_error cause)
  told_as of_building.Memory f = tt
  told_as cause f = (f refl, λ e. true≢false (ap is_memory (sym e)))

  memory_told : (cause : CompileError) → is_memory cause ≡ true → RefusesTree o marked calls t (from_compile_error cause)
  memory_told cause e = told_as cause (λ other. absurd (true≢false (sym e ∙ other)))

  pub analysis_told : (cause : CompileError) → ((is_memory cause ≡ true) ⊎ ErrorHolds (context_of o) marked t cause) →
      IsFirst o marked calls t cause → RefusesTree o marked calls t (from_compile_error cause)
  analysis_told cause (inl e) first = memory_told cause e
  analysis_told cause (inr h) first = told_as cause (λ _. by_analysis h first)

  engine_case : (b : Bool) (cause : CompileError) → uses_easy o t ≡ b → HasNoCause o marked calls t →
      (uses_easy o t ≡ true → IsCause (compile_options_of o calls) (pattern_of t) cause) → (uses_easy o t ≡ false → IsTooLong o marked calls t cause) →
      (uses_easy o t ≡ false → IsCompileRefusal (compile_options_of o calls) t cause) → IsRefused o marked calls t cause
  engine_case true cause e none f g h = by_linear e none (f e)
  engine_case false cause e none f g h = by_compiler e none (g e) (h e)

  pub engine_told : (cause : CompileError) → HasNoCause o marked calls t →
      (uses_easy o t ≡ true → IsCause (compile_options_of o calls) (pattern_of t) cause) → (uses_easy o t ≡ false → IsTooLong o marked calls t cause) →
      (uses_easy o t ≡ false → IsCompileRefusal (compile_options_of o calls) t cause) → RefusesTree o marked calls t (from_compile_error cause)
  engine_told cause none f g h = told_as cause (λ _. engine_case (uses_easy o t) cause refl none f g h)

-- a fault of reading
pub reading_told : (o : RegexOptions) (text : List ℕ) (r : reading.Options) (cause : tree.Error) → r ≡ reading_of o → IsParsed (Err cause) (parse r (chars text)) → Refuses o text (from_tree_error cause)
reading_told o text r (of_reading.ParseError position kind) e h = ap (λ s. parse s (chars text)) (sym e) ∙ h
reading_told o text r of_reading.Memory e h = tt

module _ (o : RegexOptions) (text : List ℕ) (r : reading.Options) (tree : ExprTree) (e : r ≡ reading_of o) (h : IsParsed (Ok tree) (parse r (chars text))) where
  read : read_as o text ≡ Ok h.0
  read = ap (λ s. parse s (chars text)) (sym e) ∙ h.1

  -- a cause that is told of the tree that was read
  pub tree_told : (error : Error) → RefusesTree o tree.named_backref_only tree.contains_subroutines (tree_of tree.expr) error → Refuses o text error
  tree_told (told.CompileError cause) f = (
    h.0,
    read,
    subst (λ b. IsRefused o b (contains_subroutines h.0) h.0.tree cause) h.2.by_number (subst (λ b. IsRefused o tree.named_backref_only b h.0.tree cause) h.2.subroutines
        (subst (λ t. IsRefused o tree.named_backref_only tree.contains_subroutines t cause) h.2.tree f.0)),
    f.1,
  )
  tree_told told.Memory f = tt
  tree_told (told.ParseError position kind) f = absurd f
  tree_told (told.RuntimeError error) f = absurd f

  pub accepted : IsAccepted o tree.named_backref_only tree.contains_subroutines (tree_of tree.expr) → Accepts o text
  accepted f = (
    h.0,
    read,
    subst (λ b. IsAccepted o b (contains_subroutines h.0) h.0.tree) h.2.by_number (subst (λ b. IsAccepted o tree.named_backref_only b h.0.tree) h.2.subroutines
        (subst (λ t. IsAccepted o tree.named_backref_only tree.contains_subroutines t) h.2.tree f)),
  )

  -- what is kept of it
  pub numbers_are : AreGroupNumbersOf tree.named_groups (names_in o text)
  numbers_are = rw read h.2.named

  pub served_is : (strategy : Strategy) → is_easy_strategy strategy ≡ uses_easy o (tree_of tree.expr) → is_easy_strategy strategy ≡ pattern_uses_easy o text
  served_is strategy f = rw read (f ∙ ap (uses_easy o) h.2.tree)
