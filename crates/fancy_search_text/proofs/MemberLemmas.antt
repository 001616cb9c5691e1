-- The members that a set's search finds, by what they were compiled from.
use Rattle.std.proofs.Common.{◌≡◌, ◌∙◌, ◌∷◌, ◌++◌, ◌≤◌, ◌+◌, ℕ, zero, suc, inl, inr, List, [], Option, Some, None, Result, Ok, Err, map, refl, sym, ap, subst, append_assoc, append-nil, arith, IsCharBoundary}
use Rattle.std.specs.Prelude.{string_bytes, slice_get, length, MatchOption}
use Rattle.fancy_regex.specs.Searches.{Match, found_at, set_answer, SetAnswer}
use Rattle.fancy_regex.specs.SearchInputs.{whole, input_of}
use Rattle.fancy_regex.specs.CaptureSpans.{span_in}
use Rattle.fancy_regex.specs.SetAnswers.{answer_of_set, found_from, member_of, members_of, AreInLimits, AreInLimitsBefore, IsAnswerOfSet, IsErrorOfMember, IsSetError}
use Rattle.fancy_regex.specs.Error.{Error}
use Rattle.fancy_regex.specs.Error.TheVariants as errors
use Rattle.fancy_regex.specs.Regex.{Regex}
use Rattle.fancy_regex.specs.declared.set.RegexSet.{RegexSet}
use Rattle.fancy_regex.proofs.SetLimitLemmas.{limits_join}
use Rattle.fancy_search_text.specs.Members.{answer_in, found_at_position, member_in, member_line, member_lines, members_found, sources_of, IsAskedAt, IsErrorAtAnswer, IsErrorOfSet, IsMemberSearchError}

-- one map after another
maps : {A B C : Type 0} (f : A → B) (g : B → C) (h : A → C) → ((x : A) → g (f x) ≡ h x) → (xs : List A) → map g (map f xs) ≡ map h xs
maps f g h same [] = refl
maps f g h same (x ∷ xs) = λ i. same x i ∷ maps f g h same xs i

element_of : {A B : Type 0} (f : A → B) (xs : List A) (k : ℕ) (x : A) → slice_get xs k ≡ Some x → slice_get (map f xs) k ≡ Some (f x)
element_of f [] k x e = cc
element_of f (y ∷ ys) zero x e = ap (λ o. elim o [ None ↦ None | Some z ↦ Some (f z) ]) e
element_of f (y ∷ ys) (suc k) x e = element_of f ys k x e

module _ (set : RegexSet) (text : List ℕ) where
  members_same : map (member_in text) (sources_of set) ≡ members_of text (whole text) set.regexes.items
  members_same = maps _ (member_in text) (member_of text (whole text)) (λ r. refl) set.regexes.items

  -- the answer of the set
  pub answer_same : answer_of_set set.regexes.items text (whole text) ≡ answer_in (sources_of set) text
  answer_same = ap (λ ms. set_answer ms (input_of (whole text)) text) (sym members_same)

  -- what is found at a position
  pub found_same : (p : ℕ) → found_from set.regexes.items text (whole text) p 0 ≡ found_at_position (sources_of set) text p
  found_same p = ap (λ ms. found_at ms (input_of (whole text)) p 0 ms) (sym members_same)

  -- the error of a member
  pub error_is : (p k : ℕ) (e : Error) → IsAskedAt (sources_of set) text p → IsErrorOfMember set.regexes.items text (whole text) p k e → IsErrorOfSet (sources_of set) text e
  error_is p k e asked h = by_kind e h
    where
      told : (e : Error) → IsErrorOfMember set.regexes.items text (whole text) p k e → IsMemberSearchError (sources_of set) text e
      told e h = record {
        position = p;
        number = k;
        source = record { options = h.0.meta.options; pattern = string_bytes h.0.meta.pattern };
        member = element_of (λ r. record { options = r.meta.options; pattern = string_bytes r.meta.pattern }) set.regexes.items k h.0 h.1;
        asked = asked;
        fails = h.2.0;
      }

      by_kind : (e : Error) → IsErrorOfMember set.regexes.items text (whole text) p k e → IsErrorOfSet (sources_of set) text e
      by_kind errors.Memory h = tt
      by_kind (errors.ParseError position kind) h = told _ h
      by_kind (errors.CompileError cause) h = told _ h
      by_kind (errors.RuntimeError cause) h = told _ h

  -- the error of the search of the set
  pub set_error_is : (e : Error) → IsSetError set.regexes.items text (whole text) e → IsErrorOfSet (sources_of set) text e
  set_error_is e h = error_is h.0 h.1 e (h.2, inl (λ q tried lt. sym (found_same q) ∙ h.3 q tried lt)) h.5

  -- the position of the answer
  pub answer_asked : (p : ℕ) → IsCharBoundary text p → p ≤ length text → (answer : SetAnswer) → answer_of_set set.regexes.items text (whole text) ≡ Some answer → answer.position ≡ p
      → IsAskedAt (sources_of set) text p
  answer_asked p cut within answer is here = (record { boundary = cut; following = omega arith; inside = within }, inr (answer, sym answer_same ∙ is, here))

-- What is left to show, by the member that is shown next, if it is known, and the number of the one after it.
abbrev pub IsLeft : {X : Type 0} → (X → ℕ × (ℕ × ℕ)) → RegexSet → List ℕ → ℕ → Option X → ℕ → List (ℕ × Match) → Type 0
IsLeft view set text p first next left =
    MatchOption first (left ≡ found_from set.regexes.items text (whole text) p next)
    (λ x. (found : ℕ × Match) × (left ≡ found ∷ found_from set.regexes.items text (whole text) p next) × (view x ≡ (found.0, span_in found.1)))

-- at first it is the answer
pub left_first : {X : Type 0} {Shows : X → ℕ × Match → Type 0} (view : X → ℕ × (ℕ × ℕ)) (set : RegexSet) (text : List ℕ) (p : ℕ) (first : Option X) (next : ℕ)
    → IsAnswerOfSet set.regexes.items text (whole text) Shows p first next → ((x : X) (f : ℕ × Match) → Shows x f → view x ≡ (f.0, span_in f.1))
    → (left : List (ℕ × Match)) × (left ≡ members_found (answer_in (sources_of set) text)) × IsLeft view set text p first next left
left_first view set text p None next h tells = absurd h.3
left_first view set text p (Some x) next h tells =
    (h.0.found, sym (ap members_found (sym (answer_same set text) ∙ h.1)), (h.3.0, h.3.2, tells x h.3.0 h.3.3))

module _ {X : Type 0} (view : X → ℕ × (ℕ × ℕ)) (set : RegexSet) (text : List ℕ) (p : ℕ) where
  abbrev found : ℕ → List (ℕ × Match)
  found = found_from set.regexes.items text (whole text) p

  -- what is shown next is the first of what is left
  pub left_next : {Shown : ℕ × Match → Type 0} (first : Option X) (next after : ℕ) (x : X) (left : List (ℕ × Match)) → IsLeft view set text p first next left
      → MatchOption first ((f : ℕ × Match) × (next ≤ f.0) × (after ≡ f.0 + 1) × (found next ≡ f ∷ found after) × Shown f)
      (λ y. (◌≡◌ {A = Option (Result X Error)} (Some (Ok x)) (Some (Ok y))) × (after ≡ next))
      → ((f : ℕ × Match) → Shown f → view x ≡ (f.0, span_in f.1)) → (f : ℕ × Match) × (left ≡ f ∷ found after) × (view x ≡ (f.0, span_in f.1))
  left_next None next after x left l h tells = (h.0, l ∙ h.3, tells h.0 h.4)
  left_next (Some y) next after x left l h tells =
      let same : x ≡ y = cc (h.0) in
      (l.0, l.1 ∙ ap (λ n. l.0 ∷ found n) (sym h.1), ap view same ∙ l.2)

  -- at the end none is left
  pub left_none : (first : Option X) (next after : ℕ) (left : List (ℕ × Match)) → IsLeft view set text p first next left
      → MatchOption first ((found next ≡ []) × (found after ≡ [])) (λ y. (◌≡◌ {A = Option (Result X Error)} None (Some (Ok y))) × (after ≡ next)) → left ≡ []
  left_none None next after left l h = l ∙ h.0
  left_none (Some y) next after left l h = cc (h.0)

-- an error is no member
no_member : {X : Type 0} (e : Error) (y : X) → ◌≡◌ {A = Option (Result X Error)} (Some (Err e)) (Some (Ok y)) → ⊥
no_member e y same = cc same

-- an error is one of a member
pub left_error : {X : Type 0} (set : RegexSet) (text : List ℕ) (p : ℕ) (first : Option X) (next after : ℕ) (e : Error)
    → MatchOption first ((k : ℕ) × (next ≤ k) × (after ≡ k + 1)
    × (found_from set.regexes.items text (whole text) p next ≡ found_from set.regexes.items text (whole text) p k)
    × IsErrorOfMember set.regexes.items text (whole text) p k e)
    (λ y. (◌≡◌ {A = Option (Result X Error)} (Some (Err e)) (Some (Ok y))) × (after ≡ next)) → (k : ℕ) × IsErrorOfMember set.regexes.items text (whole text) p k e
left_error set text p None next after e h = (h.0, h.4)
left_error set text p (Some y) next after e h = absurd (no_member e y h.0)

-- and the first one met at the position of the answer
pub error_at_answer : {X : Type 0} (regexes : List Regex) (text : List ℕ) (answer : SetAnswer) (p : ℕ) (first : Option X) (next after : ℕ) (e : Error) → answer_of_set regexes text (whole text) ≡ Some answer
    → answer.position ≡ p → AreInLimitsBefore regexes text (whole text) p → AreInLimits regexes text (whole text) p 0 next
    → MatchOption first ((k : ℕ) × (next ≤ k) × (after ≡ k + 1)
    × (found_from regexes text (whole text) p next ≡ found_from regexes text (whole text) p k) × IsErrorOfMember regexes text (whole text) p k e)
    (λ y. (◌≡◌ {A = Option (Result X Error)} (Some (Err e)) (Some (Ok y))) × (after ≡ next))
    → MatchOption first ((k : ℕ) → after ≡ k + 1 → AreInLimits regexes text (whole text) p next k) (λ _. Unit {0}) → IsErrorAtAnswer regexes text e
error_at_answer regexes text answer p None next after e is at before h told passed = record {
  answer = answer;
  is_answer = is;
  number = told.0;
  is_error = subst (λ (q : ℕ). IsErrorOfMember regexes text (whole text) q told.0 e) (sym at) told.4;
  before = subst (λ (q : ℕ). AreInLimitsBefore regexes text (whole text) q) (sym at) before;
  here = subst (λ (q : ℕ). AreInLimits regexes text (whole text) q 0 told.0) (sym at) (limits_join regexes text (whole text) p next told.0 h (passed told.0 told.2));
}
error_at_answer regexes text answer p (Some y) next after e is at before h told passed = absurd (no_member e y told.0)

-- a line more
pub lines_more : (out line all : List ℕ) (found : ℕ × Match) (left after : List (ℕ × Match)) (shown : ℕ × (ℕ × ℕ)) → out ++ member_lines left ≡ all → left ≡ found ∷ after
    → shown ≡ (found.0, span_in found.1) → line ≡ out ++ member_line shown.0 shown.1 → line ++ member_lines after ≡ all
lines_more out line all found left after shown e is same more =
    ap (λ l. l ++ member_lines after) (more ∙ ap (λ v. out ++ member_line v.0 v.1) same)
    ∙ append_assoc out (member_line found.0 (span_in found.1)) (member_lines after)
    ∙ ap (λ ms. out ++ member_lines ms) (sym is)
    ∙ e

-- all lines are out
pub lines_done : (out all : List ℕ) (left : List (ℕ × Match)) → out ++ member_lines left ≡ all → left ≡ [] → out ≡ all
lines_done out all left e none = sym (append-nil out) ∙ ap (λ ms. out ++ member_lines ms) (sym none) ∙ e
