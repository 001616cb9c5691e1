-- The states that are reached by reading a character, one after another.
use Rattle.std.proofs.Common.{◌≡◌, ℕ, ◌+◌, ◌<◌, Bool, true, false, List, [], ◌∷◌, length, drop, Option, Some, None, refl, sym, ap, ◌∙◌, inl, inr, arith}
use Rattle.std.proofs.Common.{add-one, drop-cons, get_or}
use Rattle.std.proofs.lemmas.Bool.{cases_lt}
use Rattle.std.proofs.lemmas.List.{get_or_past}
use Rattle.std.specs.Prelude.{Contains, if◌then◌else◌}
use Rattle.regex_hir.specs.Text.{is_some_and}
use Rattle.fancy_regex_class.specs.declared.class.CharClassMatcher.{CharClassMatcher}
use Rattle.fancy_regex_states.specs.Attempts.{View, Continuation}
use Rattle.fancy_regex_states.specs.CharTests.{leaf_matches_char}
use Rattle.fancy_regex_states.specs.First.{state_at}
use Rattle.fancy_regex_states.specs.declared.state.State.{State}
use Rattle.fancy_regex_states.specs.declared.state.State.TheVariants as S
use Rattle.fancy_regex_table.specs.Ends.{or_else, end_at, first_end}
use Rattle.fancy_regex_table.specs.Meanings.{ReadsAs, AllReadAs, read_end, first_read, read_next, IsAddedTo, IsNextAdded}
use Rattle.fancy_regex_table.proofs.EndLemmas.{or_else_assoc, or_else_none, first_end_append, first_end_there, none_there, neither}

abbrev pub end_of_next : (ℕ → Continuation) → ℕ → Option ℕ → Option ℕ
end_of_next go j None = None
end_of_next go j (Some next) = end_at go j next

if_next : (go : ℕ → Continuation) (j next : ℕ) (b : Bool) → (if b then end_at go j next else None) ≡ end_of_next go j (if b then Some next else None)
if_next go j next true = refl
if_next go j next false = refl

module _ (go : ℕ → Continuation) (j : ℕ) where
  not_in_none : (x : ℕ) → Contains [] x → ⊥
  not_in_none x (k, lt, is) = let no : k < 0 = lt in absurd (omega arith)

  added_end : (n : Option ℕ) (old new : List ℕ) → IsNextAdded n [] old new → first_end go j new ≡ or_else (first_end go j old) (end_of_next go j n)
  added_end None old new same = ap (first_end go j) same ∙ sym (or_else_none (first_end go j old))
  added_end (Some x) old new (inl more) =
      ap (first_end go j) more ∙ first_end_append go j old (x ∷ []) ∙ ap (or_else (first_end go j old)) (or_else_none (end_at go j x))
  added_end (Some x) old new (inr (same, inl there)) = ap (first_end go j) same ∙ sym (first_end_there go j old x there)
  added_end (Some x) old new (inr (same, inr there)) = absurd (not_in_none x there)

  pub added_none : (others : List ℕ) → first_end go j others ≡ None → (x : ℕ) (old new : List ℕ) → IsAddedTo x others old new → first_end go j new ≡ None
      → (first_end go j old ≡ None) × (end_at go j x ≡ None)
  added_none others none x old new (inl more) e =
      let both = neither (first_end go j old) (first_end go j (x ∷ [])) (sym (ap (first_end go j) more ∙ first_end_append go j old (x ∷ [])) ∙ e) in
      (both.0, sym (or_else_none (end_at go j x)) ∙ both.1)
  added_none others none x old new (inr (same, inl there)) e =
      let was : first_end go j old ≡ None = sym (ap (first_end go j) same) ∙ e in (was, none_there go j old x was there)
  added_none others none x old new (inr (same, inr there)) e =
      let was : first_end go j old ≡ None = sym (ap (first_end go j) same) ∙ e in (was, none_there go j others x none there)

  next_added_none : (others : List ℕ) → first_end go j others ≡ None → (n : Option ℕ) (old new : List ℕ) → IsNextAdded n others old new → first_end go j new ≡ None
      → (first_end go j old ≡ None) × (end_of_next go j n ≡ None)
  next_added_none others none None old new same e = (sym (ap (first_end go j) same) ∙ e, refl)
  next_added_none others none (Some x) old new added e = added_none others none x old new added e

module _ (unicode : Bool) (matchers : List CharClassMatcher) (states : List State) (c : Option ℕ) where
  -- a state that reads ends where the state ends that it leads to
  pub read_end_next : (view : View) (stop : ℕ) (go : ℕ → Continuation) (i : ℕ) (state : State) → ReadsAs unicode matchers view stop i c state
      → read_end view stop go i state ≡ end_of_next go (view.next i) (read_next unicode matchers c state)
  read_end_next view stop go i (S.Read leaf next) h =
      ap (λ (b : Bool). if b then end_at go (view.next i) next else None) h
      ∙ if_next go (view.next i) next (is_some_and c (leaf_matches_char unicode matchers leaf))
  read_end_next view stop go i (S.Look test next) h = refl
  read_end_next view stop go i (S.Split one two) h = refl
  read_end_next view stop go i (S.Enter g next) h = refl
  read_end_next view stop go i (S.Leave g next) h = refl
  read_end_next view stop go i (S.Back next) h = refl
  read_end_next view stop go i (S.Ask part negated next) h = refl
  read_end_next view stop go i (S.Atomic part same moved) h = refl
  read_end_next view stop go i S.Match h = refl

  -- the states that are left give the rest
  abbrev pub IsStepSoFar : List ℕ → List ℕ → List ℕ → Type 0
  IsStepSoFar from rest nexts =
      (view : View) (stop : ℕ) (go : ℕ → Continuation) (i : ℕ) → AllReadAs unicode matchers states view stop i c
      → first_read view stop go i states from ≡ or_else (first_end go (view.next i) nexts) (first_read view stop go i states rest)

  abbrev pub IsBesideSoFar : List ℕ → List ℕ → List ℕ → List ℕ → Type 0
  IsBesideSoFar from others rest nexts =
      (view : View) (stop : ℕ) (go : ℕ → Continuation) (i : ℕ) → AllReadAs unicode matchers states view stop i c
      → first_end go (view.next i) others ≡ None → first_end go (view.next i) nexts ≡ None
      → first_read view stop go i states from ≡ first_read view stop go i states rest

  module _ (from from_all : List ℕ) (k : ℕ) (lt : k < length from_all) where
    split_rest : (view : View) (stop : ℕ) (go : ℕ → Continuation) (i : ℕ) → first_read view stop go i states (drop k from_all)
        ≡ or_else (read_end view stop go i (state_at states (get_or from_all k 0))) (first_read view stop go i states (drop (k + 1) from_all))
    split_rest view stop go i =
        ap (first_read view stop go i states) (drop-cons from_all k 0 lt)
        ∙ ap (λ (n : ℕ). or_else (read_end view stop go i (state_at states (get_or from_all k 0))) (first_read view stop go i states (drop n from_all))) (sym (add-one k))

    read_here : (view : View) (stop : ℕ) (go : ℕ → Continuation) (i : ℕ) → AllReadAs unicode matchers states view stop i c
        → read_end view stop go i (state_at states (get_or from_all k 0))
        ≡ end_of_next go (view.next i) (read_next unicode matchers c (state_at states (get_or from_all k 0)))
    read_here view stop go i all =
        elim (cases_lt (get_or from_all k 0) (length states)) [
          | inl below ↦ read_end_next view stop go i (state_at states (get_or from_all k 0)) (all (get_or from_all k 0) below)
          | inr past ↦
              let none : state_at states (get_or from_all k 0) ≡ S.Match = get_or_past states (get_or from_all k 0) S.Match past in
              ap (read_end view stop go i) none ∙ sym (ap (λ s. end_of_next go (view.next i) (read_next unicode matchers c s)) none)
        ]

    pub step_more : (old new : List ℕ) → IsStepSoFar from (drop k from_all) old
        → IsNextAdded (read_next unicode matchers c (state_at states (get_or from_all k 0))) [] old new → IsStepSoFar from (drop (k + 1) from_all) new
    step_more old new so_far added view stop go i all =
        let n = read_next unicode matchers c (state_at states (get_or from_all k 0)) in
        so_far view stop go i all
        ∙ ap (or_else (first_end go (view.next i) old)) (split_rest view stop go i)
        ∙ ap (λ a. or_else (first_end go (view.next i) old) (or_else a (first_read view stop go i states (drop (k + 1) from_all)))) (read_here view stop go i all)
        ∙ sym (or_else_assoc (first_end go (view.next i) old) (end_of_next go (view.next i) n) (first_read view stop go i states (drop (k + 1) from_all)))
        ∙ sym (ap (λ a. or_else a (first_read view stop go i states (drop (k + 1) from_all))) (added_end go (view.next i) n old new added))

    pub beside_more : (others old new : List ℕ) → IsBesideSoFar from others (drop k from_all) old
        → IsNextAdded (read_next unicode matchers c (state_at states (get_or from_all k 0))) others old new
        → IsBesideSoFar from others (drop (k + 1) from_all) new
    beside_more others old new so_far added view stop go i all none_others none_new =
        let n = read_next unicode matchers c (state_at states (get_or from_all k 0)) in
        let both = next_added_none go (view.next i) others none_others n old new added none_new in
        so_far view stop go i all none_others both.0
        ∙ split_rest view stop go i
        ∙ ap (λ a. or_else a (first_read view stop go i states (drop (k + 1) from_all))) (read_here view stop go i all ∙ both.1)
