-- The members that a search of a set has still to show, and its errors.
use Rattle.std.proofs.Common.{◌≡◌, ◌∙◌, ℕ, ◌+◌, ◌<◌, ◌≤◌, List, [], ◌∷◌, length, Option, Some, None, Result, Ok, Err, ap, sym, subst, inl, inr, ⊎_elim}
use Rattle.std.specs.Prelude.{MatchOption}
use Rattle.fancy_regex.specs.Searches.{Match, SetAnswer}
use Rattle.fancy_regex.specs.SearchConfig.{SearchConfig}
use Rattle.fancy_regex.specs.CaptureSpans.{span_in}
use Rattle.fancy_regex.specs.Error.{Error}
use Rattle.fancy_regex.specs.Error.TheVariants as errors
use Rattle.fancy_regex.specs.SetAnswers.{answer_of_set, found_from, AreInLimits, AreInLimitsBefore, IsAnswerOfSet, IsErrorOfMember, IsSetError}
use Rattle.fancy_regex.proofs.SetLimitLemmas.{limits_join}
use Rattle.fancy_regex.specs.Regex.{Regex}
use Rattle.fancy_regex_ffi_lists.specs.Lists.{members_found, IsErrorAtAnswer, IsMemberError}

-- an error is no member
no_member : {X : Type 0} (e : Error) (y : X) → ◌≡◌ {A = Option (Result X Error)} (Some (Err e)) (Some (Ok y)) → ⊥
no_member e y same = cc same

module _ (regexes : List Regex) (text : List ℕ) (config : SearchConfig) where
  -- the error of the search of the set
  pub set_error_is : (e : Error) → IsSetError regexes text config e → IsMemberError regexes text config e
  set_error_is errors.Memory h = tt
  set_error_is (errors.ParseError position kind) h = inl h
  set_error_is (errors.CompileError cause) h = inl h
  set_error_is (errors.RuntimeError cause) h = inl h

  -- the error of a member that is asked after the first of the answer
  pub answer_error_is : (e : Error) → IsErrorAtAnswer regexes text config e → IsMemberError regexes text config e
  answer_error_is errors.Memory h = tt
  answer_error_is (errors.ParseError position kind) h = inr h
  answer_error_is (errors.CompileError cause) h = inr h
  answer_error_is (errors.RuntimeError cause) h = inr h

  -- an error is that of a member at the position of the answer
  pub error_at_answer : {X : Type 0} (answer : SetAnswer) (p : ℕ) (first : Option X) (next after : ℕ) (e : Error) → answer_of_set regexes text config ≡ Some answer → answer.position ≡ p
      → AreInLimitsBefore regexes text config p → AreInLimits regexes text config p 0 next
      → MatchOption first ((k : ℕ) × (next ≤ k) × (after ≡ k + 1) × (found_from regexes text config p next ≡ found_from regexes text config p k) × IsErrorOfMember regexes text config p k e)
      (λ y. (◌≡◌ {A = Option (Result X Error)} (Some (Err e)) (Some (Ok y))) × (after ≡ next))
      → MatchOption first ((k : ℕ) → after ≡ k + 1 → AreInLimits regexes text config p next k) (λ _. Unit {0}) → IsErrorAtAnswer regexes text config e
  error_at_answer answer p None next after e is at before h told passed = record {
    answer = answer;
    is_answer = is;
    number = told.0;
    is_error = subst (λ (q : ℕ). IsErrorOfMember regexes text config q told.0 e) (sym at) told.4;
    before = subst (λ (q : ℕ). AreInLimitsBefore regexes text config q) (sym at) before;
    here = subst (λ (q : ℕ). AreInLimits regexes text config q 0 told.0) (sym at) (limits_join regexes text config p next told.0 h (passed told.0 told.2));
  }
  error_at_answer answer p (Some y) next after e is at before h told passed = absurd (no_member e y told.0)

-- What is left to show, by the member that is shown next, if it is known, of which something is told, and the number of the one after it.
abbrev pub IsLeft : {X : Type 0} → (X → ℕ × Match → Type 0) → List Regex → List ℕ → SearchConfig → ℕ → Option X → ℕ → List (ℕ × Match) → Type 0
IsLeft Tells regexes text config p first next left =
    MatchOption first (left ≡ found_from regexes text config p next)
    (λ x. (found : ℕ × Match) × (left ≡ found ∷ found_from regexes text config p next) × Tells x found)

-- the number and the span of a member that is shown
abbrev pub IsShownAs : ℕ × (ℕ × ℕ) → ℕ × Match → Type 0
IsShownAs shown found = shown ≡ (found.0, span_in found.1)

-- at first it is the answer
pub left_first : {X : Type 0} {Shows : X → ℕ × Match → Type 0} (Tells : X → ℕ × Match → Type 0) (regexes : List Regex) (text : List ℕ) (config : SearchConfig) (p : ℕ) (first : Option X) (next : ℕ)
    → IsAnswerOfSet regexes text config Shows p first next → ((x : X) (f : ℕ × Match) → Shows x f → Tells x f)
    → (left : List (ℕ × Match)) × (left ≡ members_found (answer_of_set regexes text config)) × IsLeft Tells regexes text config p first next left
left_first Tells regexes text config p None next h tells = absurd h.3
left_first Tells regexes text config p (Some x) next h tells =
    (h.0.found, sym (ap members_found h.1), (h.3.0, h.3.2, tells x h.3.0 h.3.3))

module _ {X : Type 0} (Tells : X → ℕ × Match → Type 0) (regexes : List Regex) (text : List ℕ) (config : SearchConfig) (p : ℕ) where
  abbrev found : ℕ → List (ℕ × Match)
  found = found_from regexes text config p

  -- what is shown next is the first of what is left, and what is passed over up to it stays within its limits
  pub left_next : {Shown : ℕ × Match → Type 0} (first : Option X) (next after : ℕ) (x : X) (left : List (ℕ × Match)) → IsLeft Tells regexes text config p first next left
      → MatchOption first ((f : ℕ × Match) × (next ≤ f.0) × (after ≡ f.0 + 1) × (found next ≡ f ∷ found after) × Shown f)
      (λ y. (◌≡◌ {A = Option (Result X Error)} (Some (Ok x)) (Some (Ok y))) × (after ≡ next))
      → ((f : ℕ × Match) → Shown f → Tells x f) → AreInLimits regexes text config p 0 next → MatchOption first (AreInLimits regexes text config p next after) (λ _. Unit {0})
      → (f : ℕ × Match) × (left ≡ f ∷ found after) × Tells x f × AreInLimits regexes text config p 0 after
  left_next None next after x left l h tells before passed = (h.0, l ∙ h.3, tells h.0 h.4, limits_join regexes text config p next after before passed)
  left_next (Some y) next after x left l h tells before passed =
      let same : x ≡ y = cc (h.0) in
      (l.0, l.1 ∙ ap (λ n. l.0 ∷ found n) (sym h.1), subst (λ (z : X). Tells z l.0) (sym same) l.2, subst (λ (n : ℕ). AreInLimits regexes text config p 0 n) (sym h.1) before)

  -- at the end none is left
  pub left_none : (first : Option X) (next after : ℕ) (left : List (ℕ × Match)) → IsLeft Tells regexes text config p first next left
      → MatchOption first ((found next ≡ []) × (found after ≡ [])) (λ y. (◌≡◌ {A = Option (Result X Error)} None (Some (Ok y))) × (after ≡ next)) → left ≡ []
  left_none None next after left l h = l ∙ h.0
  left_none (Some y) next after left l h = cc (h.0)
