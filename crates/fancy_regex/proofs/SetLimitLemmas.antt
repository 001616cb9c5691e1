-- The limits of a set's search, one part after another.
use Rattle.std.proofs.Common.{◌≡◌, ℕ, ◌+◌, ◌<◌, ◌≤◌, List, [], ◌∷◌, length, Option, Some, None, Result, Ok, sym, subst, ⊎_elim}
use Rattle.std.specs.Prelude.{MatchOption}
use Rattle.std.proofs.lemmas.Bool.{cases_lt}
use Rattle.fancy_regex_meaning.specs.Searches.{Match, SetAnswer}
use Rattle.fancy_regex_input.specs.declared.config.SearchConfig.{SearchConfig}
use Rattle.fancy_regex_search.specs.Error.{Error}
use Rattle.fancy_regex_search.specs.declared.regex.Regex.{Regex}
use Rattle.fancy_regex.specs.SetAnswers.{answer_of_set, found_from, last_tried, AreInLimits, AreInLimitsBefore}
use Rattle.fancy_regex.specs.SetLimits.{SetStays}

module _ (regexes : List Regex) (text : List ℕ) (config : SearchConfig) where
  -- what is passed over in two goes
  pub limits_join : (p i j : ℕ) → AreInLimits regexes text config p 0 i → AreInLimits regexes text config p i j → AreInLimits regexes text config p 0 j
  limits_join p i j h g = λ k low high. ⊎_elim (λ (lt : k < i). h k low lt) (λ (ge : i ≤ k). g k ge high) (cases_lt k i)

  -- past a member that is shown
  pub passes_on : {X : Type 0} (Shown : ℕ × Match → Type 0) (p : ℕ) (first : Option X) (next after : ℕ) (x : X) → AreInLimits regexes text config p 0 next
      → MatchOption first ((f : ℕ × Match) × (next ≤ f.0) × (after ≡ f.0 + 1) × (found_from regexes text config p next ≡ f ∷ found_from regexes text config p after) × Shown f)
      (λ y. (◌≡◌ {A = Option (Result X Error)} (Some (Ok x)) (Some (Ok y))) × (after ≡ next))
      → MatchOption first (AreInLimits regexes text config p next after) (λ _. Unit {0}) → AreInLimits regexes text config p 0 after
  passes_on Shown p None next after x h told passed = limits_join p next after h passed
  passes_on Shown p (Some y) next after x h told passed = subst (λ (n : ℕ). AreInLimits regexes text config p 0 n) (sym told.1) h

  -- where none is left to show, all members at the position stay within their limits
  pub all_in_limits : {X : Type 0} (p : ℕ) (first : Option X) (next after : ℕ) → AreInLimits regexes text config p 0 next
      → MatchOption first ((found_from regexes text config p next ≡ []) × (found_from regexes text config p after ≡ []))
      (λ y. (◌≡◌ {A = Option (Result X Error)} None (Some (Ok y))) × (after ≡ next))
      → MatchOption first (AreInLimits regexes text config p next (length regexes)) (λ _. Unit {0}) → AreInLimits regexes text config p 0 (length regexes)
  all_in_limits p None next after h told passed = limits_join p next (length regexes) h passed
  all_in_limits p (Some y) next after h told passed = cc (told.0)

  pub set_stays : (answer : SetAnswer) (p : ℕ) → answer_of_set regexes text config ≡ Some answer → answer.position ≡ p → AreInLimitsBefore regexes text config p
      → AreInLimits regexes text config p 0 (length regexes) → SetStays regexes text config
  set_stays answer p is at before here =
      subst (λ (o : Option SetAnswer). MatchOption o (AreInLimitsBefore regexes text config (last_tried config + 1))
      (λ a. AreInLimitsBefore regexes text config a.position × AreInLimits regexes text config a.position 0 (length regexes))) (sym is)
      (subst (λ (q : ℕ). AreInLimitsBefore regexes text config q × AreInLimits regexes text config q 0 (length regexes)) (sym at) (before, here))

  pub set_without_answer_stays : answer_of_set regexes text config ≡ None → AreInLimitsBefore regexes text config (last_tried config + 1) → SetStays regexes text config
  set_without_answer_stays is before =
      subst (λ (o : Option SetAnswer). MatchOption o (AreInLimitsBefore regexes text config (last_tried config + 1))
      (λ a. AreInLimitsBefore regexes text config a.position × AreInLimits regexes text config a.position 0 (length regexes))) (sym is) before
