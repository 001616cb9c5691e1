-- What a command answers, by what its parts did.
use Rattle.std.proofs.Common.{inl, inr, ◌≡◌, ◌++◌, ℕ, List, [], ◌∷◌, map, ap₂, refl, subst}
use Rattle.std.specs.Prelude.{codes, string_bytes}
use Rattle.fancy_regex.specs.Searches.{Match}
use Rattle.fancy_regex.specs.Reading.{IsReadingError}
use Rattle.fancy_regex.specs.Refusals as building
use Rattle.fancy_regex.specs.IterationErrors.{IsErrorOfIteration}
use Rattle.fancy_regex.specs.SetMembers.{AreBuiltOf, IsBuiltOf, RefusesPatterns}
use Rattle.fancy_regex.specs.WayLaws.{Each}
use Rattle.fancy_regex.specs.MetaRegex.{MetaRegex}
use Rattle.fancy_regex.specs.Regex.{Regex}
use Rattle.fancy_regex.specs.Error.{Error}
use Rattle.fancy_regex.specs.Error.TheVariants as errors
use Rattle.fancy_regex.specs.RegexOptions.{RegexOptions}
use Rattle.std.specs.Fmt.{decimal}
use Rattle.fancy_search_text.specs.Lines.{lines_of, span_text}
use Rattle.fancy_regex.specs.TextMatches.{IsErrorOfSearch}
use Rattle.fancy_search_text.specs.Members.{Source, member_lines, IsErrorOfSet, IsFirstError}
use Rattle.fancy_search_run.specs.Answers.{IsAccepted, IsNotMemory, IsSearchFault, IsPrintFault, IsSetFault, MeetsError, SetMeetsError, sources_with, status_of, status_of_lines}
use Rattle.fancy_search_run.specs.FaultConversions.{fault_of_error}
use Rattle.fancy_search_run.specs.declared.status.Status.TheVariants.{Done}

not_memory : (e : Error) → IsNotMemory e → e ≡ errors.Memory → ⊥
not_memory e h is = subst IsNotMemory is h

module _ (o : RegexOptions) (pattern text : List ℕ) where
  -- why the pattern is refused
  pub refusal_is_fault : (e : Error) → building.Refuses o pattern e → IsSearchFault o pattern text (fault_of_error e)
  refusal_is_fault errors.Memory h = tt
  refusal_is_fault (errors.ParseError position kind) h = (tt, inl h)
  refusal_is_fault (errors.CompileError cause) h = (tt, inl h)
  refusal_is_fault (errors.RuntimeError cause) h = (tt, inl h)

  -- the error of a search
  search_error_is_fault : (e : Error) → IsAccepted o pattern → IsErrorOfSearch o pattern text e → ((e ≡ errors.Memory → ⊥) → MeetsError o pattern text e) → IsSearchFault o pattern text (fault_of_error e)
  search_error_is_fault errors.Memory a h met = tt
  search_error_is_fault (errors.ParseError position kind) a h met = (tt, inr (a, h, met (not_memory _ tt)))
  search_error_is_fault (errors.CompileError cause) a h met = (tt, inr (a, h, met (not_memory _ tt)))
  search_error_is_fault (errors.RuntimeError cause) a h met = (tt, inr (a, h, met (not_memory _ tt)))

  -- the error of a search of the regex that was compiled
  pub error_is_fault : (regex : Regex) → IsBuiltOf o pattern regex → (e : Error) → IsErrorOfSearch regex.meta.options (string_bytes regex.meta.pattern) text e
      → ((e ≡ errors.Memory → ⊥) → IsErrorOfIteration regex.meta text e) → IsSearchFault o pattern text (fault_of_error e)
  error_is_fault regex built e h met =
      search_error_is_fault e built.accepted (
      subst (λ (x : RegexOptions). IsErrorOfSearch x pattern text e) built.options_are (subst (λ (p : List ℕ). IsErrorOfSearch regex.meta.options p text e) built.pattern_is h)
      ) (λ other. (regex, built, met other))

-- what the members of a set were compiled from
pub sources_same : (o : RegexOptions) (patterns : List (List ℕ)) (regexes : List _) → AreBuiltOf o patterns regexes →
    map (λ r. record { options = r.meta.options; pattern = string_bytes r.meta.pattern }) regexes ≡ sources_with o patterns
sources_same o [] [] h = refl
sources_same o [] (r ∷ rs) h = absurd h
sources_same o (p ∷ ps) [] h = absurd h
sources_same o (p ∷ ps) (r ∷ rs) h =
    ap₂ (λ x xs. x ∷ xs) (λ i. record { options = h.0.options_are i; pattern = h.0.pattern_is i }) (sources_same o ps rs h.1)

pub all_accepted : (o : RegexOptions) (patterns : List (List ℕ)) (regexes : List _) → AreBuiltOf o patterns regexes → Each (IsAccepted o) patterns
all_accepted o [] rs h = tt
all_accepted o (p ∷ ps) [] h = absurd h
all_accepted o (p ∷ ps) (r ∷ rs) h = (h.0.accepted, all_accepted o ps rs h.1)

module _ (o : RegexOptions) (patterns : List (List ℕ)) (text : List ℕ) where
  -- why a pattern of a set is refused
  pub set_refusal_is_fault : (e : Error) → RefusesPatterns o patterns e → IsSetFault o patterns text (fault_of_error e)
  set_refusal_is_fault errors.Memory h = tt
  set_refusal_is_fault (errors.ParseError position kind) h = (tt, inl h)
  set_refusal_is_fault (errors.CompileError cause) h = (tt, inl h)
  set_refusal_is_fault (errors.RuntimeError cause) h = (tt, inl h)

  -- the error of a member's search
  pub set_error_is_fault : (sources : List Source) → sources ≡ sources_with o patterns → (regexes : List Regex) → AreBuiltOf o patterns regexes → (e : Error) → IsErrorOfSet sources text e
      → ((e ≡ errors.Memory → ⊥) → IsFirstError regexes text e) → IsSetFault o patterns text (fault_of_error e)
  set_error_is_fault sources same regexes built e h met = by_kind e (subst (λ (s : List Source). IsErrorOfSet s text e) same h) (λ other. (regexes, built, met other))
    where
      a : Each (IsAccepted o) patterns
      a = all_accepted o patterns regexes built

      by_kind : (e : Error) → IsErrorOfSet (sources_with o patterns) text e → ((e ≡ errors.Memory → ⊥) → SetMeetsError o patterns text e) → IsSetFault o patterns text (fault_of_error e)
      by_kind errors.Memory h met = tt
      by_kind (errors.ParseError position kind) h met = (tt, inr (a, h, met (not_memory _ tt)))
      by_kind (errors.CompileError cause) h met = (tt, inr (a, h, met (not_memory _ tt)))
      by_kind (errors.RuntimeError cause) h met = (tt, inr (a, h, met (not_memory _ tt)))

-- why the pattern of a printing is no pattern
pub reading_error_is_fault : (o : RegexOptions) (pattern : List ℕ) (e : Error) → IsReadingError o pattern e → IsPrintFault o pattern (fault_of_error e)
reading_error_is_fault o pattern errors.Memory h = tt
reading_error_is_fault o pattern (errors.ParseError position kind) h = (tt, h)
reading_error_is_fault o pattern (errors.CompileError cause) h = absurd h
reading_error_is_fault o pattern (errors.RuntimeError cause) h = absurd h

-- what is made of a regex is made of the pattern and the options that it was compiled from
pub of_compiled : {A : Type 0} (f : RegexOptions → List ℕ → A) (s : MetaRegex) (o : RegexOptions) (pattern : List ℕ) → string_bytes s.pattern ≡ pattern → s.options ≡ o
    → f s.options (string_bytes s.pattern) ≡ f o pattern
of_compiled f s o pattern named made = λ i. f (made i) (named i)

-- whether there are lines tells whether there are matches
some_line : (xs rest : List ℕ) → status_of_lines ((xs ++ codes "\n") ++ rest) ≡ Done
some_line [] rest = refl
some_line (x ∷ xs) rest = refl

pub status_same : (text_of : Match → List ℕ) (ms : List Match) → status_of_lines (lines_of text_of ms) ≡ status_of ms
status_same text_of [] = refl
status_same text_of (m ∷ ms) = some_line (text_of m) (lines_of text_of ms)

-- whether there are lines tells whether there are members
some_member : (xs ys rest : List ℕ) → status_of_lines ((xs ++ (codes " " ++ ys)) ++ rest) ≡ Done
some_member [] ys rest = refl
some_member (x ∷ xs) ys rest = refl

pub members_status : (found : List (ℕ × Match)) → status_of_lines (member_lines found) ≡ status_of found
members_status [] = refl
members_status (f ∷ fs) = some_member (decimal f.0) (span_text (f.1.start, f.1.end) ++ codes "\n") (member_lines fs)
