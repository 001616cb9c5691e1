-- What a template replaces the matches by.
use Rattle.std.proofs.Common.{◌≡◌, ◌∙◌, ◌++◌, ℕ, List, [], ◌∷◌, Option, Some, Result, Ok, Err, map, refl, ap, sym, subst, append_assoc}
use Rattle.std.specs.Prelude.{IfOk, IfErr, string_bytes, slice_range}
use Rattle.fancy_regex_meaning.specs.Searches.{Match, pieces_from, replaced_from}
use Rattle.fancy_regex_meaning.specs.ItemLaws.{alternately}
use Rattle.fancy_regex_input.specs.SearchInputs.{whole}
use Rattle.fancy_regex_search.specs.MetaRegex.{MetaRegex}
use Rattle.fancy_regex_search.specs.IterationErrors.{IsErrorOfIteration}
use Rattle.fancy_regex_search.specs.RemainingMatches.{all_matches}
use Rattle.fancy_regex_search.specs.Error.{Error}
use Rattle.fancy_regex_search.specs.Error.TheVariants as errors
use Rattle.fancy_regex_search.specs.GroupTexts.{AnswersTemplate, text_without_sign}
use Rattle.fancy_regex_search.specs.Replacements.{CapturesView, AnswersInTurn, FailsInTurn, IsReplacedBy, by_calls, by_text, IsReplaceError, of_search, of_search_by_text, of_call, of_memory, captures_view}
use Rattle.fancy_regex_search.specs.TemplateLaws.{template_text}
use Rattle.fancy_regex_search.proofs.IterationLemmas.{error_made}
use Rattle.fancy_regex.specs.TextMatches.{IsErrorOfSearch}
use Rattle.fancy_regex.specs.ReplacedTexts.{expanded_at, replaced_in}
use Rattle.fancy_regex.proofs.SearchErrorLemmas.{iteration_error_is, memory_is_error}
use Rattle.fancy_regex.proofs.TextMatchLemmas.{all_are}

module _ {S : Type 0} (template_of : S → List ℕ) (r : MetaRegex) (text : List ℕ) (s : S) where
  -- what the template stands for at a match
  abbrev by : Match → List ℕ
  by = expanded_at r.options (string_bytes r.pattern) (template_of s) text

  -- the pieces and the answers of calls in turn
  in_turn : (ms : List Match) (t last : S) (answers : List (List ℕ)) (p : ℕ) → t ≡ s → AnswersInTurn (AnswersTemplate template_of) t (map (captures_view r text) ms) answers last →
      alternately (pieces_from text p ms) answers ≡ replaced_from text by p ms
  in_turn [] t last [] p e h = refl
  in_turn [] t last (w ∷ ws) p e h = absurd h
  in_turn (m ∷ ms) t last [] p e h = absurd h
  in_turn (m ∷ ms) t last (w ∷ ws) p e h =
      let answer : w ≡ by m = h.1.0 ∙ ap (λ (x : S). expanded_at r.options (string_bytes r.pattern) (template_of x) text m) e in
      let rest : alternately (pieces_from text m.end ms) ws ≡ replaced_from text by m.end ms = in_turn ms h.0 last ws m.end (h.1.1 ∙ e) h.2 in
      ap (λ (x : List ℕ). slice_range text p m.start ++ (w ++ x)) rest
      ∙ ap (λ (x : List ℕ). slice_range text p m.start ++ (x ++ replaced_from text by m.end ms)) answer
      ∙ sym (append_assoc (slice_range text p m.start) (by m) (replaced_from text by m.end ms))

  -- where the template has no sign, it stands for itself
  same_text : (t : List ℕ) → text_without_sign (template_of s) ≡ Some t → (m : Match) → by m ≡ t
  same_text t e m = template_text template_of s t (captures_view r text m) (by m) s e (refl, refl)

  by_same : (t : List ℕ) → ((m : Match) → by m ≡ t) → (ms : List Match) (p : ℕ) → replaced_from text (λ _. t) p ms ≡ replaced_from text by p ms
  by_same t e [] p = refl
  by_same t e (m ∷ ms) p =
      ap (λ (x : List ℕ). (slice_range text p m.start ++ t) ++ x) (by_same t e ms m.end)
      ∙ ap (λ (x : List ℕ). (slice_range text p m.start ++ x) ++ replaced_from text by m.end ms) (sym (e m))

  of_replaced : (ms : List Match) (out : List ℕ) (fixed : Option (List ℕ)) → text_without_sign (template_of s) ≡ fixed → IsReplacedBy (AnswersTemplate template_of) r text ms s out fixed →
      out ≡ replaced_from text by 0 ms
  of_replaced ms out _ e (by_calls f last h) = h.2 ∙ in_turn ms s last h.0 0 refl h.1
  of_replaced ms out _ e (by_text t h) = h ∙ by_same t (same_text t e) ms 0

  -- the replaced text is that of the definitions
  pub replaced_is : (out : List ℕ) → IsReplacedBy (AnswersTemplate template_of) r text (all_matches r text (whole text)) s out (text_without_sign (template_of s)) →
      out ≡ replaced_in r.options (string_bytes r.pattern) (template_of s) text
  replaced_is out h = of_replaced (all_matches r text (whole text)) out (text_without_sign (template_of s)) refl h ∙ ap (λ ms. replaced_from text by 0 ms) (all_are r text)

  -- a call fails for want of memory alone
  call_fails : (ms : List Match) (t last : S) (e : Error) → FailsInTurn (AnswersTemplate template_of) r text ms t e last → e ≡ errors.Memory
  call_fails ms t last e h = h.call.0

  pub error_is : (ms : List Match) (fixed : Option (List ℕ)) (e : Error) → IsReplaceError (AnswersTemplate template_of) r text ms s fixed e → IsErrorOfSearch r.options (string_bytes r.pattern) text e
  error_is ms _ _ (of_search fixed done rest answers last e is following turns) = iteration_error_is r text e (error_made r text (whole text) done e following)
  error_is ms _ _ (of_search_by_text t done rest e is following) = iteration_error_is r text e (error_made r text (whole text) done e following)
  error_is ms _ _ (of_call fixed e last h) = subst (λ (x : Error). IsErrorOfSearch r.options (string_bytes r.pattern) text x) (sym (call_fails ms s last e h)) (memory_is_error r.options (string_bytes r.pattern) text)
  error_is ms _ _ (of_memory fixed) = memory_is_error r.options (string_bytes r.pattern) text

  -- where a call answers what replaces the matches, it answers the text of the definitions
  pub replaced_if_ok : {V : Type 0} (bytes_of : V → List ℕ) (answer : Result V Error)
      → IfOk answer (λ v. IsReplacedBy (AnswersTemplate template_of) r text (all_matches r text (whole text)) s (bytes_of v) (text_without_sign (template_of s)))
      → IfOk answer (λ v. bytes_of v ≡ replaced_in r.options (string_bytes r.pattern) (template_of s) text)
  replaced_if_ok bytes_of (Ok v) h = replaced_is (bytes_of v) h
  replaced_if_ok bytes_of (Err e) h = tt

  -- where it fails, its error is one of a search
  pub error_if_err : {V : Type 0} (answer : Result V Error)
      → IfErr answer (IsReplaceError (AnswersTemplate template_of) r text (all_matches r text (whole text)) s (text_without_sign (template_of s)))
      → IfErr answer (IsErrorOfSearch r.options (string_bytes r.pattern) text)
  error_if_err (Ok v) h = tt
  error_if_err (Err e) h = error_is (all_matches r text (whole text)) (text_without_sign (template_of s)) e h

  -- and, unless it is want of memory, one of a search right after some of the matches
  iteration_error : (ms : List Match) (fixed : Option (List ℕ)) (e : Error) → all_matches r text (whole text) ≡ ms → IsReplaceError (AnswersTemplate template_of) r text ms s fixed e →
      (e ≡ errors.Memory → ⊥) → IsErrorOfIteration r text e
  iteration_error ms _ _ all (of_search fixed done rest answers last e is following turns) other = (done, rest, all ∙ is, following)
  iteration_error ms _ _ all (of_search_by_text t done rest e is following) other = (done, rest, all ∙ is, following)
  iteration_error ms _ _ all (of_call fixed e last h) other = absurd (other (call_fails ms s last e h))
  iteration_error ms _ _ all (of_memory fixed) other = absurd (other refl)

  pub iteration_error_if_err : {V : Type 0} (answer : Result V Error)
      → IfErr answer (IsReplaceError (AnswersTemplate template_of) r text (all_matches r text (whole text)) s (text_without_sign (template_of s)))
      → IfErr answer (λ e. (e ≡ errors.Memory → ⊥) → IsErrorOfIteration r text e)
  iteration_error_if_err (Ok v) h = tt
  iteration_error_if_err (Err e) h = iteration_error (all_matches r text (whole text)) (text_without_sign (template_of s)) e refl h
