-- Where no state asks for the place of `\G`, the states do the same wherever it is.
use Rattle.std.proofs.Common.{◌≡◌, ◌⊎◌, ◌∙◌, ◌<◌, ◌≤◌, ◌==◌, Bool, true, false, true≢false, List, ℕ, Option, None, length, if◌then◌else◌, refl, sym, ap, inl, inr, ⊎_elim}
use Rattle.regex_hir.specs.Text.{is_some_and, char_at, char_before}
use Rattle.fancy_regex_class.specs.declared.class.CharClassMatcher.{CharClassMatcher}
use Rattle.fancy_regex_class.specs.declared.input.RunInput.{RunInput}
use Rattle.fancy_regex_states.specs.Attempts.{View, Continuation, Agrees, Shows, ShowsAll, guard, reads, visit}
use Rattle.fancy_regex_states.specs.CharTests.{passes}
use Rattle.fancy_regex_states.specs.First.{state_at}
use Rattle.fancy_regex_states.specs.declared.atom.Test.{Test}
use Rattle.fancy_regex_states.specs.declared.atom.Test.TheVariants.{StartText, EndText, StartLine, EndLine, WordBoundary, NotWordBoundary, LeftWordBoundary, RightWordBoundary, LeftWordHalfBoundary, RightWordHalfBoundary, StartLineOniguruma, Never, Continue, LookAhead, LookAheadNeg, LookBehind, LookBehindNeg}
use Rattle.fancy_regex_states.specs.declared.state.State.{State}
use Rattle.fancy_regex_states.specs.declared.state.State.TheVariants as S
use Rattle.fancy_regex_parts.specs.Does.{DoWhat}
use Rattle.fancy_regex_parts.specs.Ways.{text_view}
use Rattle.fancy_regex_parts.specs.declared.step.EndRange.{EndRange}
use Rattle.fancy_regex_linear.specs.Easy.{rules_for}
use Rattle.fancy_regex_regular.specs.Continues.{is_continue, asks_place, AskNoPlace}
use Rattle.fancy_regex_regular.specs.Regulars.{continue_place, rules_at}
use Rattle.fancy_regex_regular.specs.declared.regular.Regular.{Regular}

-- what holds where `\G` holds at this place alone
abbrev pub place_holds : View → Option ℕ → Test → ℕ → Bool
place_holds view place Continue i = is_some_and place (λ g. g == i)
place_holds view place test i = view.holds test i

abbrev pub placed : View → Option ℕ → View
placed view place = record view { holds = place_holds view place }

-- the place is the search's, or no state asks for it
abbrev pub IsPlaceFor : Option ℕ → RunInput → List State → Type 0
IsPlaceFor place input states = (place ≡ input.continue_at) ⊎ AskNoPlace states

asks_or_not : (b : Bool) → (b ≡ true) ⊎ (b ≡ false)
asks_or_not true = inl refl
asks_or_not false = inr refl

pub place_for : (regular : Regular) (input : RunInput) → IsPlaceFor (continue_place regular input) input regular.table.states.items
place_for regular input = elim (asks_or_not regular.continues) [
  | inl asks ↦ inl (ap (λ (b : Bool). if b then input.continue_at else None) asks)
  | inr never ↦ inr (regular.placeless.0 never)
]

module _ (view : View) (input : RunInput) (place : Option ℕ) (continued : (i : ℕ) → view.holds Continue i ≡ is_some_and input.continue_at (λ g. g == i)) where
  same_test : (check : Test) → (place ≡ input.continue_at) ⊎ (is_continue check ≡ false) → (i : ℕ) → place_holds view place check i ≡ view.holds check i
  same_test StartText either i = refl
  same_test EndText either i = refl
  same_test (StartLine crlf) either i = refl
  same_test (EndLine crlf) either i = refl
  same_test WordBoundary either i = refl
  same_test NotWordBoundary either i = refl
  same_test LeftWordBoundary either i = refl
  same_test RightWordBoundary either i = refl
  same_test LeftWordHalfBoundary either i = refl
  same_test RightWordHalfBoundary either i = refl
  same_test (StartLineOniguruma crlf) either i = refl
  same_test Never either i = refl
  same_test (LookAhead leaf) either i = refl
  same_test (LookAheadNeg leaf) either i = refl
  same_test (LookBehind leaf) either i = refl
  same_test (LookBehindNeg leaf) either i = refl
  same_test Continue (inl same) i = ap (λ (o : Option ℕ). is_some_and o (λ g. g == i)) same ∙ sym (continued i)
  same_test Continue (inr never) i = absurd (true≢false never)

  visits_same : (stop : ℕ) (go : ℕ → Continuation) (state : State) → (place ≡ input.continue_at) ⊎ (asks_place state ≡ false) → (i : ℕ)
      → visit view stop go state i ≡ visit (placed view place) stop go state i
  unfolding reads
  visits_same stop go (S.Look check next) either i = ap (λ b. guard b (go next i)) (sym (same_test check either i))
  visits_same stop go (S.Read leaf next) either i = refl
  visits_same stop go (S.Back next) either i = refl
  visits_same stop go (S.Split first second) either i = refl
  visits_same stop go (S.Enter g next) either i = refl
  visits_same stop go (S.Leave g next) either i = refl
  visits_same stop go (S.Ask part negated next) either i = refl
  visits_same stop go (S.Atomic part same moved) either i = refl
  visits_same stop go S.Match either i = refl

  agrees_placed : (stop : ℕ) (go : ℕ → Continuation) (n q : ℕ) (state : State) → (place ≡ input.continue_at) ⊎ (asks_place state ≡ false)
      → Agrees view stop go n q state → Agrees (placed view place) stop go n q state
  agrees_placed stop go n q state either agrees =
      record { names = agrees.names; asks = agrees.asks; does = λ i h. agrees.does i h ∙ visits_same stop go state either i }

  -- so the states do the same
  pub does_placed : (len : ℕ) (range : EndRange) (states : List State) (go : ℕ → Continuation) → IsPlaceFor place input states → DoWhat view len range states go
      → DoWhat (placed view place) len range states go
  does_placed len range states go either does = record {
    zero = does.zero;
    final = does.final;
    agree = λ q lt. ⊎_elim (λ e. inl e) (λ agrees.
        inr (agrees_placed len go (length states) q (state_at states q) (⊎_elim (λ same. inl same) (λ none. inr (none q lt)) either) agrees)) (does.agree q lt);
  }

module _ (matchers : List CharClassMatcher) (unicode : Bool) (input : RunInput) (place : Option ℕ) (view : View) (at : ℕ) (before after : Option ℕ)
    (shows : Shows matchers (rules_for unicode false input) (text_view view) at before after) where
  passes_placed : (check : Test) → place_holds view place check at ≡ passes matchers (rules_at unicode input place) check at before after
  passes_placed StartText = shows.holds StartText
  passes_placed EndText = shows.holds EndText
  passes_placed (StartLine crlf) = shows.holds (StartLine crlf)
  passes_placed (EndLine false) = shows.holds (EndLine false)
  passes_placed (EndLine true) = shows.holds (EndLine true)
  passes_placed WordBoundary = shows.holds WordBoundary
  passes_placed NotWordBoundary = shows.holds NotWordBoundary
  passes_placed LeftWordBoundary = shows.holds LeftWordBoundary
  passes_placed RightWordBoundary = shows.holds RightWordBoundary
  passes_placed LeftWordHalfBoundary = shows.holds LeftWordHalfBoundary
  passes_placed RightWordHalfBoundary = shows.holds RightWordHalfBoundary
  passes_placed (StartLineOniguruma crlf) = shows.holds (StartLineOniguruma crlf)
  passes_placed Never = shows.holds Never
  passes_placed (LookAhead leaf) = shows.holds (LookAhead leaf)
  passes_placed (LookAheadNeg leaf) = shows.holds (LookAheadNeg leaf)
  passes_placed (LookBehind leaf) = shows.holds (LookBehind leaf)
  passes_placed (LookBehindNeg leaf) = shows.holds (LookBehindNeg leaf)
  passes_placed Continue = refl

  shown_placed : Shows matchers (rules_at unicode input place) (text_view (placed view place)) at before after
  shown_placed = record { has = shows.has; next = shows.next; back = shows.back; holds = passes_placed; no_parts = refl }

-- and the view still shows the text
pub shows_placed : (matchers : List CharClassMatcher) (unicode : Bool) (input : RunInput) (place : Option ℕ) (view : View) (text : List ℕ)
    → ShowsAll matchers (rules_for unicode false input) text (text_view view)
    → ShowsAll matchers (rules_at unicode input place) text (text_view (placed view place))
shows_placed matchers unicode input place view text shows at boundary =
    shown_placed matchers unicode input place view at (char_before text at) (char_at text at) (shows at boundary)
