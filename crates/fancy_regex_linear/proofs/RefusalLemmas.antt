-- A start that the table of first characters refuses has no match.
use Rattle.std.proofs.Common.{◌≡◌, ℕ, zero, suc, ◌+◌, ◌*◌, ◌<◌, ◌≤◌, ◌⊎◌, ◌&&◌, ◌||◌, ◌==◌, not, Bool, true, false, true≢false, List, length, Option, Some, None, refl, sym, ap, ap₂, subst, ◌∙◌, inl, inr, arith, lt-ltb, IsUtf8, IsCharBoundary}
use Rattle.std.proofs.lemmas.Bool.{and_left}
use Rattle.std.proofs.lemmas.Bool.{cond-true}
use Rattle.std.specs.Char.{len_utf8}
use Rattle.std.specs.Prelude.{is_none, option_map, unwrap_or, IfSome, slice_index_or}
use Rattle.std.proofs.Math.Bool.{Bool-set}
use mathlib.Core.HLevel.{Π_prop, Unit-prop, ⊥_prop}
use mathlib.Core.Logic.{∥∥₁_elim}
use Rattle.regex_hir.specs.Text.{char_at, char_before}
use Rattle.fancy_regex_class.specs.declared.class.CharClassMatcher.{CharClassMatcher}
use Rattle.fancy_regex_states.specs.CharTests.{passes, is_char}
use Rattle.fancy_regex_states.specs.Before.{may_pass, CannotBeginAfter, OnlyLeadsOn, LeadsAfter, ReachesAfter, RefusesAfter}
use Rattle.fancy_regex_states.specs.Before as B
use Rattle.fancy_regex_states.specs.First.{state_at, MayHold, Leads, Reaches, here, onward, CannotRead, CannotBegin, CannotGoOn, CannotFollow, IsTableOf, RefusesSecond}
use Rattle.fancy_regex_states.specs.declared.atom.Test.{Test}
use Rattle.fancy_regex_states.specs.declared.atom.Test.TheVariants.{StartText, EndText, StartLine, EndLine, WordBoundary, NotWordBoundary, LeftWordBoundary, RightWordBoundary, LeftWordHalfBoundary, RightWordHalfBoundary, StartLineOniguruma, Never, Continue, LookAhead, LookAheadNeg, LookBehind, LookBehindNeg}
use Rattle.fancy_regex_states.specs.declared.first.FirstChars.{FirstChars}
use Rattle.fancy_regex_states.specs.declared.rules.Rules.{Rules}
use Rattle.fancy_regex_states.specs.declared.state.State.{State}
use Rattle.fancy_regex_states.specs.declared.state.State.TheVariants.{Split, Enter, Leave, Ask, Atomic, Match}
use Rattle.fancy_regex_states.specs.declared.state.State.TheVariants as S
use Rattle.fancy_regex_states.specs.Attempts.{View, reads, Continuation, Trace, write, better_trace, asked_answer, passed_answer, passed_depth, resume, Shows, NamesBelow, visit, AllAgree}
use Rattle.fancy_regex_linear.specs.Search.{Explains, HasMarks, RefusesAscii}
use Rattle.regex_hir.proofs.Utf8Lemmas.{char_at_cases}
use Rattle.fancy_regex_class.proofs.AdjacentCharLemmas.{boundary_past_ascii}
use Rattle.fancy_regex_linear.specs.Passing.{RefusesWideIf}
use Rattle.fancy_regex_linear.specs.Starts.{HasRefusedPair, IsRefusedAt, IsRefusedAfter, IsSkippedAt, IsWideAt}
use Rattle.fancy_regex_linear.specs.declared.search.SearchContext.{SearchContext}
use Rattle.fancy_regex_linear.proofs.CharTestLemmas.{before_some}
use Rattle.fancy_regex_linear.proofs.DfsLemmas.{guard_yes, guard_no}

CannotRead-prop : (unicode : Bool) (matchers : List CharClassMatcher) (after : Option ℕ) (state : State) → IsProp (CannotRead unicode matchers after state)
CannotRead-prop unicode matchers after (S.Read leaf next) = Bool-set _ _
CannotRead-prop unicode matchers after (S.Look check next) = Unit-prop
CannotRead-prop unicode matchers after (Split first second) = Unit-prop
CannotRead-prop unicode matchers after (Enter g next) = Unit-prop
CannotRead-prop unicode matchers after (Leave g next) = Unit-prop
CannotRead-prop unicode matchers after (Ask part negated next) = Unit-prop
CannotRead-prop unicode matchers after (Atomic part same moved) = Unit-prop
CannotRead-prop unicode matchers after (S.Back next) = ⊥_prop
CannotRead-prop unicode matchers after Match = ⊥_prop

-- what the states' table says of a character holds
pub table_says : (unicode : Bool) (matchers : List CharClassMatcher) (states : List State) (entry : ℕ) (after : Option ℕ) (table : FirstChars)
    → ∥ IfSome (Some table) (IsTableOf unicode matchers states entry) ∥₁ → (IsTableOf unicode matchers states entry table → CannotBegin unicode matchers states entry after)
    → CannotBegin unicode matchers states entry after
table_says unicode matchers states entry after table is says =
    ∥∥₁_elim is (Π_prop λ q. Π_prop λ _. CannotRead-prop unicode matchers after (state_at states q)) says

true_or_false : (b : Bool) → (b ≡ true) ⊎ (b ≡ false)
true_or_false true = inl refl
true_or_false false = inr refl

line_fails : (one two crlf cr more : Bool) → (one || two) ≡ false → two ≡ (crlf && cr) → (one || (crlf && cr && more)) ≡ false
line_fails true two crlf cr more never is = absurd (true≢false never)
line_fails false two false cr more never is = refl
line_fails false two true false more never is = refl
line_fails false two true true more never is = absurd (true≢false (sym is ∙ never))

none_saved : (slot i : ℕ) (a : Option Trace) → a ≡ None → write slot i a ≡ None
none_saved slot i a e = ap (write slot i) e

-- where what follows fails, so does what asks a part before it
none_asked : (negated : Bool) (part : Option Trace) → asked_answer negated part None ≡ None
none_asked false None = refl
none_asked false (Some t) = refl
none_asked true None = refl
none_asked true (Some t) = refl

none_better : (longest : Bool) (a b : Option Trace) → a ≡ None → b ≡ None → better_trace longest a b ≡ None
none_better longest a b e f = ap₂ (better_trace longest) e f

module _ (view : View) (stop : ℕ) (states : List State) (go : ℕ → Continuation) (matchers : List CharClassMatcher) (rules : Rules) (entry at : ℕ) (before after : Option ℕ)
    (not_first : is_none before ≡ false) (shows : Shows matchers rules view at before after) where
  -- an assertion that cannot hold after a character does not hold
  holds_not : (check : Test) → (view.holds check at ≡ false) ⊎ MayHold check
  holds_not StartText = inl (shows.holds StartText ∙ and_left _ _ not_first)
  holds_not check = inr tt

  -- the state leads to the state of this number without reading, by assertions of which this is said
  abbrev pub LeadsBy : (Test → Type 0) → State → ℕ → Type 0
  LeadsBy May (S.Look check next) p = May check × (p ≡ next)
  LeadsBy May state p = Leads state p

  -- what a state that reads comes to, or one that is final
  abbrev pub ReadFails : ℕ → State → Type 0
  ReadFails q (S.Read leaf next) = (go q at).answer ≡ None
  ReadFails q (S.Back next) = ⊥
  ReadFails q Match = ⊥
  ReadFails q _ = Unit {0}

  -- a state fails that does not read, where those fail that it leads to
  one_fails : (May : Test → Type 0) → ((check : Test) → (view.holds check at ≡ false) ⊎ May check)
      → (n q : ℕ) (state : State) → NamesBelow (length states) state → go q at ≡ visit view stop go state at → (go q at).depth < suc n
      → ReadFails q state
      → ((p : ℕ) → LeadsBy May state p → p < length states → (go p at).depth < n → (go p at).answer ≡ None)
      → (go q at).answer ≡ None
  one_fails May or_not n q (S.Read leaf next) names e d fails later = fails
  one_fails May or_not n q (S.Look check next) names e d fails later =
      elim (true_or_false (view.holds check at)) [
        | inl is ↦
            let on = guard_yes (go q at) (go next at) (view.holds check at) e is in
            elim (or_not check) [
              | inl never ↦ guard_no (go q at) (go next at) (view.holds check at) e never
              | inr may ↦ on.0 ∙ later next (may, refl) names (omega (arith, on.1, d))
            ]
        | inr never ↦ guard_no (go q at) (go next at) (view.holds check at) e never
      ]
  one_fails May or_not n q (Split first second) names e d fails later =
      let deep : (go q at).depth ≡ (go first at).depth + (go second at).depth + 1 = ap (λ r. r.depth) e in
      let found : (go q at).answer ≡ better_trace view.longest (go first at).answer (go second at).answer = ap (λ r. r.answer) e in
      found ∙ none_better view.longest (go first at).answer (go second at).answer (later first (inl refl) names.0 (omega arith)) (later second (inr refl) names.1 (omega arith))
  one_fails May or_not n q (Enter g next) names e d fails later =
      let deep : (go q at).depth ≡ (go next at).depth + 1 = ap (λ r. r.depth) e in
      let found : (go q at).answer ≡ write (2 * g) at (go next at).answer = ap (λ r. r.answer) e in
      found ∙ none_saved (2 * g) at (go next at).answer (later next refl names (omega arith))
  one_fails May or_not n q (Leave g next) names e d fails later =
      let deep : (go q at).depth ≡ (go next at).depth + 1 = ap (λ r. r.depth) e in
      let found : (go q at).answer ≡ write (2 * g + 1) at (go next at).answer = ap (λ r. r.answer) e in
      found ∙ none_saved (2 * g + 1) at (go next at).answer (later next refl names (omega arith))
  one_fails May or_not n q (Ask part negated next) names e d fails later =
      let deep : (go q at).depth ≡ (go part at).depth + (go next at).depth + 1 = ap (λ r. r.depth) e in
      let found : (go q at).answer ≡ asked_answer negated (go part at).answer (go next at).answer = ap (λ r. r.answer) e in
      found ∙ ap (asked_answer negated (go part at).answer) (later next refl names.1 (omega arith)) ∙ none_asked negated (go part at).answer
  one_fails May or_not n q (Atomic part same moved) names e d fails later =
      let deep : (go q at).depth ≡ (go part at).depth + passed_depth (go part at).answer (resume at (go same) (go moved)) + 1 = ap (λ r. r.depth) e in
      let found : (go q at).answer ≡ passed_answer (go part at).answer (resume at (go same) (go moved)) = ap (λ r. r.answer) e in
      found ∙ ap (λ a. passed_answer a (resume at (go same) (go moved))) (later part refl names.0 (omega arith))
  one_fails May or_not n q (S.Back next) names e d fails later = absurd fails
  one_fails May or_not n q Match names e d fails later = absurd fails

  leads_any : (state : State) (p : ℕ) → LeadsBy MayHold state p → Leads state p
  leads_any (S.Read leaf next) p leads = leads
  leads_any (S.Look check next) p leads = leads
  leads_any (Split first second) p leads = leads
  leads_any (Enter g next) p leads = leads
  leads_any (Leave g next) p leads = leads
  leads_any (Ask part negated next) p leads = leads
  leads_any (Atomic part same moved) p leads = leads
  leads_any (S.Back next) p leads = leads
  leads_any Match p leads = leads

  reached_fails : AllAgree view stop states go → at ≤ stop → ((q : ℕ) → q < length states → Reaches states entry q → ReadFails q (state_at states q))
      → (n q : ℕ) → q < length states → Reaches states entry q → (go q at).depth < n → (go q at).answer ≡ None
  reached_fails agree inside fails zero q lt from d = absurd (omega arith)
  reached_fails agree inside fails (suc n) q lt from d =
      one_fails MayHold holds_not n q (state_at states q) (agree q lt).names ((agree q lt).does at inside) d (fails q lt from)
      (λ p leads low less. reached_fails agree inside fails n p low (onward q p from (leads_any (state_at states q) p leads)) less)

  -- no match begins at a place where all fail that read
  pub readers_fail : AllAgree view stop states go → at ≤ stop → entry < length states → ((q : ℕ) → q < length states → Reaches states entry q → ReadFails q (state_at states q))
      → (go entry at).answer ≡ None
  readers_fail agree inside low fails =
      reached_fails agree inside fails ((go entry at).depth + 1) entry low here (omega arith)

  -- what does not read the character fails
  refused_reader : (q : ℕ) (state : State) → go q at ≡ visit view stop go state at → CannotRead rules.unicode matchers after state → ReadFails q state
  unfolding reads
  refused_reader q (S.Read leaf next) e cannot = guard_no (go q at) (go next (view.next at)) (reads view stop leaf at) e (and_left _ _ (shows.has leaf ∙ cannot))
  refused_reader q (S.Look check next) e cannot = tt
  refused_reader q (Split first second) e cannot = tt
  refused_reader q (Enter g next) e cannot = tt
  refused_reader q (Leave g next) e cannot = tt
  refused_reader q (Ask part negated next) e cannot = tt
  refused_reader q (Atomic part same moved) e cannot = tt
  refused_reader q (S.Back next) e cannot = cannot
  refused_reader q Match e cannot = cannot

  -- no match begins at a place that is refused
  pub refused_fails : AllAgree view stop states go → at ≤ stop → entry < length states → CannotBegin rules.unicode matchers states entry after
      → (go entry at).answer ≡ None
  refused_fails agree inside low cannot =
      readers_fail agree inside low (λ q lt from. refused_reader q (state_at states q) ((agree q lt).does at inside) (cannot q from))

-- after a character that no match begins after
module _ (view : View) (stop : ℕ) (states : List State) (go : ℕ → Continuation) (matchers : List CharClassMatcher) (rules : Rules) (entry at c : ℕ) (after : Option ℕ)
    (shows : Shows matchers rules view at (Some c) after) where
  abbrev May : Test → Type 0
  May check = may_pass rules.unicode matchers check c ≡ true

  -- an assertion that does not pass after the character does not hold
  never_holds : (check : Test) → may_pass rules.unicode matchers check c ≡ false → passes matchers rules check at (Some c) after ≡ false
  never_holds StartText never = refl
  never_holds (StartLine crlf) never = line_fails (c == 10) (crlf && c == 13) crlf (c == 13) (not (is_char 10 after)) never refl
  never_holds (LookBehind leaf) never = never
  never_holds (LookBehindNeg leaf) never = never
  never_holds EndText never = absurd (true≢false never)
  never_holds (EndLine crlf) never = absurd (true≢false never)
  never_holds WordBoundary never = absurd (true≢false never)
  never_holds NotWordBoundary never = absurd (true≢false never)
  never_holds LeftWordBoundary never = absurd (true≢false never)
  never_holds RightWordBoundary never = absurd (true≢false never)
  never_holds (LookAhead leaf) never = absurd (true≢false never)
  never_holds LeftWordHalfBoundary never = absurd (true≢false never)
  never_holds RightWordHalfBoundary never = absurd (true≢false never)
  never_holds (StartLineOniguruma crlf) never = absurd (true≢false never)
  never_holds Never never = absurd (true≢false never)
  never_holds Continue never = absurd (true≢false never)
  never_holds (LookAheadNeg leaf) never = absurd (true≢false never)

  may_or_not : (check : Test) → (view.holds check at ≡ false) ⊎ May check
  may_or_not check = elim (true_or_false (may_pass rules.unicode matchers check c)) [
    | inl may ↦ inr may
    | inr never ↦ inl (shows.holds check ∙ never_holds check never)
  ]

  -- what neither reads nor is final leads on after the character
  leading_on_fails : (q : ℕ) (state : State) → OnlyLeadsOn state → ReadFails view stop states go matchers rules entry at (Some c) after refl shows q state
  leading_on_fails q (S.Read leaf next) leads_on = absurd leads_on
  leading_on_fails q (S.Look check next) leads_on = tt
  leading_on_fails q (Split first second) leads_on = tt
  leading_on_fails q (Enter g next) leads_on = tt
  leading_on_fails q (Leave g next) leads_on = tt
  leading_on_fails q (Ask part negated next) leads_on = tt
  leading_on_fails q (Atomic part same moved) leads_on = tt
  leading_on_fails q (S.Back next) leads_on = absurd leads_on
  leading_on_fails q Match leads_on = absurd leads_on

  leads_after : (state : State) (p : ℕ) → LeadsBy view stop states go matchers rules entry at (Some c) after refl shows May state p
      → LeadsAfter rules.unicode matchers c state p
  leads_after (S.Read leaf next) p leads = leads
  leads_after (S.Look check next) p leads = leads
  leads_after (Split first second) p leads = leads
  leads_after (Enter g next) p leads = leads
  leads_after (Leave g next) p leads = leads
  leads_after (Ask part negated next) p leads = leads
  leads_after (Atomic part same moved) p leads = leads
  leads_after (S.Back next) p leads = leads
  leads_after Match p leads = leads

  all_fail_after : AllAgree view stop states go → at ≤ stop → CannotBeginAfter rules.unicode matchers states entry c
      → (n q : ℕ) → q < length states → ReachesAfter rules.unicode matchers states entry c q → (go q at).depth < n → (go q at).answer ≡ None
  all_fail_after agree inside cannot zero q lt from d = absurd (omega arith)
  all_fail_after agree inside cannot (suc n) q lt from d =
      one_fails view stop states go matchers rules entry at (Some c) after refl shows May may_or_not n q (state_at states q)
      (agree q lt).names ((agree q lt).does at inside) d (leading_on_fails q (state_at states q) (cannot q from))
      (λ p leads low less. all_fail_after agree inside cannot n p low (B.onward q p from (leads_after (state_at states q) p leads)) less)

  pub after_fails : AllAgree view stop states go → at ≤ stop → entry < length states → CannotBeginAfter rules.unicode matchers states entry c
      → (go entry at).answer ≡ None
  after_fails agree inside low cannot = all_fail_after agree inside cannot ((go entry at).depth + 1) entry low B.here (omega arith)

-- a state that reads fails where no way goes on after what it reads
followed_reader : (view : View) (stop : ℕ) (states : List State) (go : ℕ → Continuation) (matchers : List CharClassMatcher) (rules : Rules) (entry at : ℕ) (before after : Option ℕ)
    (not_first : is_none before ≡ false) (shows : Shows matchers rules view at before after) (two second : Option ℕ) (last : is_none two ≡ false)
    (further : Shows matchers rules view (view.next at) two second) → AllAgree view stop states go → view.next at ≤ stop → (q : ℕ) (state : State)
    → NamesBelow (length states) state → go q at ≡ visit view stop go state at → CannotGoOn rules.unicode matchers states second state
    → ReadFails view stop states go matchers rules entry at before after not_first shows q state
followed_reader view stop states go matchers rules entry at before after not_first shows two second last further agree inside q (S.Read leaf next) names e cannot =
    elim (true_or_false (reads view stop leaf at)) [
      | inl passes ↦
          (guard_yes (go q at) (go next (view.next at)) (reads view stop leaf at) e passes).0
          ∙ refused_fails view stop states go matchers rules next (view.next at) two second last further agree inside names cannot
      | inr never ↦ guard_no (go q at) (go next (view.next at)) (reads view stop leaf at) e never
    ]
followed_reader view stop states go matchers rules entry at before after not_first shows two second last further agree inside q (S.Look check next) names e cannot = tt
followed_reader view stop states go matchers rules entry at before after not_first shows two second last further agree inside q (Split one other) names e cannot = tt
followed_reader view stop states go matchers rules entry at before after not_first shows two second last further agree inside q (Enter g next) names e cannot = tt
followed_reader view stop states go matchers rules entry at before after not_first shows two second last further agree inside q (Leave g next) names e cannot = tt
followed_reader view stop states go matchers rules entry at before after not_first shows two second last further agree inside q (Ask part negated next) names e cannot = tt
followed_reader view stop states go matchers rules entry at before after not_first shows two second last further agree inside q (Atomic part same moved) names e cannot = tt
followed_reader view stop states go matchers rules entry at before after not_first shows two second last further agree inside q (S.Back next) names e cannot = cannot
followed_reader view stop states go matchers rules entry at before after not_first shows two second last further agree inside q Match names e cannot = cannot

CannotBegin-prop : (unicode : Bool) (matchers : List CharClassMatcher) (states : List State) (entry : ℕ) (after : Option ℕ) → IsProp (CannotBegin unicode matchers states entry after)
CannotBegin-prop unicode matchers states entry after = Π_prop λ q. Π_prop λ _. CannotRead-prop unicode matchers after (state_at states q)

CannotGoOn-prop : (unicode : Bool) (matchers : List CharClassMatcher) (states : List State) (after : Option ℕ) (state : State) → IsProp (CannotGoOn unicode matchers states after state)
CannotGoOn-prop unicode matchers states after (S.Read leaf next) = CannotBegin-prop unicode matchers states next after
CannotGoOn-prop unicode matchers states after (S.Look check next) = Unit-prop
CannotGoOn-prop unicode matchers states after (Split first second) = Unit-prop
CannotGoOn-prop unicode matchers states after (Enter g next) = Unit-prop
CannotGoOn-prop unicode matchers states after (Leave g next) = Unit-prop
CannotGoOn-prop unicode matchers states after (Ask part negated next) = Unit-prop
CannotGoOn-prop unicode matchers states after (Atomic part same moved) = Unit-prop
CannotGoOn-prop unicode matchers states after (S.Back next) = ⊥_prop
CannotGoOn-prop unicode matchers states after Match = ⊥_prop

-- what the states' table says of a second character holds
pub second_says : (unicode : Bool) (matchers : List CharClassMatcher) (states : List State) (entry : ℕ) (after : Option ℕ) (table : FirstChars)
    → ∥ IfSome (Some table) (IsTableOf unicode matchers states entry) ∥₁ → (IsTableOf unicode matchers states entry table → CannotFollow unicode matchers states entry after)
    → CannotFollow unicode matchers states entry after
second_says unicode matchers states entry after table is says =
    ∥∥₁_elim is (Π_prop λ q. Π_prop λ _. CannotGoOn-prop unicode matchers states after (state_at states q)) says

-- what the marks say of a character holds
pub marks_say : (unicode : Bool) (matchers : List CharClassMatcher) (states : List State) (entry : ℕ) (marks : List Bool) → ∥ RefusesAscii unicode matchers states entry marks ∥₁
    → (c : ℕ) → c < 128 → slice_index_or marks c false ≡ true → CannotBegin unicode matchers states entry (Some c)
marks_say unicode matchers states entry marks is c low marked =
    ∥∥₁_elim is (Π_prop λ q. Π_prop λ _. CannotRead-prop unicode matchers (Some c) (state_at states q)) (λ refuses. refuses c low marked)

OnlyLeadsOn-prop : (state : State) → IsProp (OnlyLeadsOn state)
OnlyLeadsOn-prop (S.Read leaf next) = ⊥_prop
OnlyLeadsOn-prop (S.Look check next) = Unit-prop
OnlyLeadsOn-prop (Split first second) = Unit-prop
OnlyLeadsOn-prop (Enter g next) = Unit-prop
OnlyLeadsOn-prop (Leave g next) = Unit-prop
OnlyLeadsOn-prop (Ask part negated next) = Unit-prop
OnlyLeadsOn-prop (Atomic part same moved) = Unit-prop
OnlyLeadsOn-prop (S.Back next) = ⊥_prop
OnlyLeadsOn-prop Match = ⊥_prop

-- what the marks of characters before starts say holds, and what is said of those that are not ASCII
pub after_say : (unicode : Bool) (matchers : List CharClassMatcher) (states : List State) (entry : ℕ) (marks : List Bool) → ∥ RefusesAfter unicode matchers states entry marks ∥₁
    → (c : ℕ) → c < 128 → slice_index_or marks c false ≡ true → CannotBeginAfter unicode matchers states entry c
after_say unicode matchers states entry marks is c low marked =
    ∥∥₁_elim is (Π_prop λ q. Π_prop λ _. OnlyLeadsOn-prop (state_at states q)) (λ refuses. refuses.ascii c low marked)

pub wide_after_say : (unicode : Bool) (matchers : List CharClassMatcher) (states : List State) (entry : ℕ) (marks : List Bool) → ∥ RefusesAfter unicode matchers states entry marks ∥₁
    → (c : ℕ) → 128 ≤ c → CannotBeginAfter unicode matchers states entry c
wide_after_say unicode matchers states entry marks is c high =
    ∥∥₁_elim is (Π_prop λ q. Π_prop λ _. OnlyLeadsOn-prop (state_at states q)) (λ refuses. refuses.wide c high)

-- what the marks of second characters say holds
pub seconds_say : (unicode : Bool) (matchers : List CharClassMatcher) (states : List State) (entry : ℕ) (marks : List Bool) → ∥ RefusesSecond unicode matchers states entry marks ∥₁
    → (c : ℕ) → c < 128 → slice_index_or marks c false ≡ true → CannotFollow unicode matchers states entry (Some c)
seconds_say unicode matchers states entry marks is c low marked =
    ∥∥₁_elim is (Π_prop λ q. Π_prop λ _. CannotGoOn-prop unicode matchers states (Some c) (state_at states q)) (λ refuses. refuses c low marked)

-- no match begins where this character is refused, after another character of the text
pub start_fails : (context : SearchContext) (text : List ℕ) (view : View) (go : ℕ → Continuation) → Explains context text view go → IsUtf8 text
    → (at : ℕ) (after : Option ℕ) → IsCharBoundary text at → 0 < at → at ≤ context.stop → context.entry < length context.states.now → char_at text at ≡ after
    → CannotBegin context.rules.unicode context.matchers.now context.states.now context.entry after → (go context.entry at).answer ≡ None
start_fails context text view go explains u at after b some high low is cannot =
    let before = before_some text at u b some in
    refused_fails view context.stop context.states.now go context.matchers.now context.rules context.entry at (char_before text at) (char_at text at)
    (ap is_none before.1) (explains.shows at b) explains.agree high low
    (subst (CannotBegin context.rules.unicode context.matchers.now context.states.now context.entry) (sym is) cannot)

-- no match begins where the character after is second in none, after another character of the text
pub pair_fails : (context : SearchContext) (text : List ℕ) (view : View) (go : ℕ → Continuation) → Explains context text view go → IsUtf8 text
    → (at : ℕ) → IsCharBoundary text at → 0 < at → context.entry < length context.states.now → HasRefusedPair context text at → (go context.entry at).answer ≡ None
pair_fails context text view go explains u at b some low pair =
    let c : ℕ = pair.first.0 in
    let long : len_utf8 c ≡ 1 = cond-true _ _ _ (lt-ltb c 0x80 pair.first.1) in
    let next_is : view.next at ≡ at + 1 = (explains.shows at b).next ∙ ap (λ o. at + unwrap_or (option_map len_utf8 o) 1) pair.first.2 ∙ ap (λ n. at + n) long in
    let bound : IsCharBoundary text (at + 1) = boundary_past_ascii text at c u b pair.first.1 pair.first.2 in
    let before = before_some text at u b some in
    let two = before_some text (at + 1) u bound (omega arith) in
    let high : at ≤ context.stop = omega (arith, pair.inside) in
    let further : Shows context.matchers.now context.rules view (view.next at) (char_before text (at + 1)) (char_at text (at + 1)) =
    subst (λ (j : ℕ). Shows context.matchers.now context.rules view j (char_before text (at + 1)) (char_at text (at + 1))) (sym next_is) (explains.shows (at + 1) bound) in
    let cannot : CannotFollow context.rules.unicode context.matchers.now context.states.now context.entry (char_at text (at + 1)) =
    subst (CannotFollow context.rules.unicode context.matchers.now context.states.now context.entry) (sym pair.second.2) pair.second.3 in
    readers_fail view context.stop context.states.now go context.matchers.now context.rules context.entry at (char_before text at) (char_at text at)
    (ap is_none before.1) (explains.shows at b) explains.agree high low
    (λ q lt from.
    followed_reader view context.stop context.states.now go context.matchers.now context.rules context.entry at (char_before text at) (char_at text at)
    (ap is_none before.1) (explains.shows at b) (char_before text (at + 1)) (char_at text (at + 1)) (ap is_none two.1) further explains.agree
    (subst (λ (j : ℕ). j ≤ context.stop) (sym next_is) (omega (arith, pair.inside))) q (state_at context.states.now q) (explains.agree q lt).names
    ((explains.agree q lt).does at high) (cannot q from))

-- what is said of characters that are not ASCII holds
pub wide_says : (wide unicode : Bool) (matchers : List CharClassMatcher) (states : List State) (entry : ℕ) → ∥ RefusesWideIf wide unicode matchers states entry ∥₁
    → RefusesWideIf wide unicode matchers states entry
wide_says wide unicode matchers states entry is =
    ∥∥₁_elim is (Π_prop λ _. Π_prop λ after. Π_prop λ _. CannotBegin-prop unicode matchers states entry after) (λ says. says)

-- no ASCII character begins with a byte that is not ASCII
wide_char : (text : List ℕ) (i : ℕ) → 128 ≤ slice_index_or text i 0 → (o : Option ℕ) → char_at text i ≡ o → IfSome o (λ c. 128 ≤ c)
wide_char text i byte None e = tt
wide_char text i byte (Some c) e = let cases = char_at_cases text i c e in omega (arith, byte, cases)

-- no match starts that is passed over
module _ (context : SearchContext) (text : List ℕ) (view : View) (go : ℕ → Continuation) (explains : Explains context text view go) (utf8 : IsUtf8 text)
    (below : context.entry < length context.states.now) (marks : HasMarks context) (i : ℕ) (boundary : IsCharBoundary text i) (some : 0 < i) (high : i ≤ context.stop) where
  wide_fails : IsWideAt context text i → (go context.entry i).answer ≡ None
  wide_fails wide =
      start_fails context text view go explains utf8 i (char_at text i) boundary some high below refl
      (wide.none (char_at text i) (wide_char text i wide.byte (char_at text i) refl))

  refused_start_fails : IsRefusedAt context text i → (go context.entry i).answer ≡ None
  refused_start_fails is =
      elim is [
        | inl a ↦
            start_fails context text view go explains utf8 i (Some a.0) boundary some high below a.2
            (marks_say context.rules.unicode context.matchers.now context.states.now context.entry context.refused.now marks a.0 a.1 a.3)
        | inr pair ↦ pair_fails context text view go explains utf8 i boundary some below pair
      ]

  after_start_fails : IsRefusedAfter context text i → (go context.entry i).answer ≡ None
  after_start_fails is =
      let before = before_some text i utf8 boundary some in
      after_fails view context.stop context.states.now go context.matchers.now context.rules context.entry i before.0 (char_at text i)
      (subst (λ (o : Option ℕ). Shows context.matchers.now context.rules view i o (char_at text i)) before.1 (explains.shows i boundary))
      explains.agree high below (is.none utf8 boundary before.0 before.1)

  pub skipped_fails : IsSkippedAt context text i → (go context.entry i).answer ≡ None
  skipped_fails is =
      elim is [
        | inl refused ↦ refused_start_fails refused
        | inr other ↦ elim other [
          | inl wide ↦ wide_fails wide
          | inr after ↦ after_start_fails after
        ]
      ]
