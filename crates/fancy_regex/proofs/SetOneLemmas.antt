-- A set of one regex finds what the regex finds.
use Rattle.std.proofs.Common.{◌≡◌, ℕ, List, [], ◌∷◌, drop, Option, Some, None, refl, sym, ap, subst, ◌∙◌}
use Rattle.std.specs.Prelude.{option_map, MatchOption, IfOk, Result, Ok, Err}
use Rattle.std.proofs.lemmas.Option.{none-some, same_Some}
use Rattle.fancy_regex_meaning.specs.Searches.{Match, SetAnswer}
use Rattle.fancy_regex_meaning.specs.SearchLaws.{OneMemberFinds}
use Rattle.fancy_regex_input.specs.SearchInputs.{input_of}
use Rattle.fancy_regex_input.specs.declared.config.SearchConfig.{SearchConfig}
use Rattle.fancy_regex_search.specs.MetaMatches.{meta_match}
use Rattle.fancy_regex_search.specs.declared.regex.Regex.{Regex}
use Rattle.fancy_regex.specs.SetAnswers.{member_of, answer_of_set, found_from, IsAnswerOfSet, IsAnswerOfOne}

-- the first item of a list, or another one
abbrev first_or : {A : Type 0} → A → List A → A
first_or d [] = d
first_or d (x ∷ xs) = x

module _ (law : OneMemberFinds) (regexes : List Regex) (text : List ℕ) (config : SearchConfig) (regex : Regex) (alone : regexes ≡ regex ∷ []) where
  abbrev one_item : Match → List (ℕ × Match)
  one_item m = (0, m) ∷ []

  found_is : option_map (λ (answer : SetAnswer). answer.found) (answer_of_set regexes text config) ≡ option_map one_item (meta_match regex.meta text config)
  found_is =
      ap (λ rs. option_map (λ (answer : SetAnswer). answer.found) (answer_of_set rs text config)) alone
      ∙ law (member_of text config regex) (input_of config)

  none_of : (o : Option Match) → None ≡ option_map one_item o → o ≡ None
  none_of None e = refl
  none_of (Some m) e = absurd (none-some (one_item m) e)

  pub finds_none : answer_of_set regexes text config ≡ None → meta_match regex.meta text config ≡ None
  finds_none e = none_of _ (sym (ap (option_map (λ (answer : SetAnswer). answer.found)) e) ∙ found_is)

  some_of : (items : List (ℕ × Match)) (o : Option Match) → Some items ≡ option_map one_item o → (m : Match) × (o ≡ Some m) × (items ≡ one_item m)
  some_of items None e = absurd (none-some items (sym e))
  some_of items (Some m) e = (m, refl, same_Some items (one_item m) e)

  pub finds_one : {X : Type 0} (Shows : X → ℕ × Match → Type 0) (p : ℕ) (first : Option X) (next : ℕ) →
      IsAnswerOfSet regexes text config Shows p first next → IsAnswerOfOne regexes text config Shows regex p first next
  finds_one Shows p None next h = h.3
  finds_one Shows p (Some x) next h =
      let shown = h.3 in
      let one = some_of h.0.found (meta_match regex.meta text config) (sym (ap (option_map (λ (answer : SetAnswer). answer.found)) h.1) ∙ found_is) in
      let same : shown.0 ∷ found_from regexes text config p next ≡ one_item one.0 = sym shown.2 ∙ one.2 in
      (one.0, one.1, subst (Shows x) (ap (first_or shown.0) same) shown.3, ap (drop 1) same)

-- the same of a search's result
pub one_of_result : {T X E : Type 0} (law : OneMemberFinds) (regexes : List Regex) (text : List ℕ) (config : SearchConfig) (Shows : X → ℕ × Match → Type 0)
    (position : T → ℕ) (first : T → Option X) (next : T → ℕ) (r : Result (Option T) E) →
    IfOk r (λ found. MatchOption found (answer_of_set regexes text config ≡ None) (λ s. IsAnswerOfSet regexes text config Shows (position s) (first s) (next s))) →
    IfOk r (λ found. (regex : Regex) → regexes ≡ regex ∷ [] →
    MatchOption found (meta_match regex.meta text config ≡ None) (λ s. IsAnswerOfOne regexes text config Shows regex (position s) (first s) (next s)))
one_of_result law regexes text config Shows position first next (Ok None) h = λ regex alone. finds_none law regexes text config regex alone h
one_of_result law regexes text config Shows position first next (Ok (Some s)) h =
    λ regex alone. finds_one law regexes text config regex alone Shows (position s) (first s) (next s) h
one_of_result law regexes text config Shows position first next (Err e) h = tt
