-- Where cells lead to.
use Rattle.std.proofs.Common.{◌≡◌, ℕ, ◌+◌, ◌<◌, Bool, false, List, [], length, Option, Some, None, sym, ap, subst, ◌∙◌, inl, inr, arith}
use Rattle.std.proofs.Common.{drop, add-one, drop-cons, get_or}
use Rattle.std.proofs.lemmas.Bool.{cases_lt}
use Rattle.fancy_regex_states.specs.Attempts.{Continuation}
use Rattle.fancy_regex_table.specs.Ends.{or_else, end_if, end_at, first_end}
use Rattle.fancy_regex_table.specs.Cells.{Parts, Search, NoneBefore, noted, AreLate, IsOpen, IsPlace, IsFirstMatch}
use Rattle.fancy_regex_table.specs.declared.row.Found.{Found}
use Rattle.fancy_regex_table.specs.declared.row.Found.TheVariants.{Nothing, Own, Later}
use Rattle.fancy_regex_table.specs.declared.sort.Sort.{Sort}
use Rattle.fancy_regex_table.specs.Meanings.{IsClosing, IsStep, IsStepBeside, IsAddedTo}
use Rattle.fancy_regex_table.specs.declared.close.Closed.{Closed}
use Rattle.fancy_regex_table.proofs.StepLemmas.{added_none}
use Rattle.fancy_regex_table.proofs.EndLemmas.{or_else_assoc, or_else_none}

module _ {parts : Parts} {s : Search} {before after : Sort} {c : Option ℕ} {at next : ℕ} (place : IsPlace parts s before after c at next) where
  -- a start at the place fails too, and there is none before the next one
  pub none_more : NoneBefore s at → end_at s.go at s.entry ≡ None → NoneBefore s next
  none_more early here p low high boundary =
      elim (cases_lt p at) [
        | inl less ↦ early p low less boundary
        | inr ge ↦
            elim (cases_lt at p) [
              | inl over ↦ absurd (place.alone p over high boundary)
              | inr le ↦ let same : at ≡ p = omega arith in subst (λ (q : ℕ). end_at s.go q s.entry ≡ None) same here
            ]
      ]

  -- the first match is empty
  pub empty_here : NoneBefore s at → end_at s.go at s.entry ≡ Some at → IsFirstMatch s at at
  empty_here early e = record { low = place.low; boundary = place.boundary; early = early; end_is = e }

  late_here : (found : Found) (own later : List ℕ) → AreLate s found next at own later
  late_here Nothing own later = λ none_own none_later p over high boundary. absurd (place.alone p over high boundary)
  late_here Own own later = tt
  late_here Later own later = tt

  -- the first attempt begins here
  pub opened : (nexts : List ℕ) (found : Found) (last : ℕ) → NoneBefore s at
      → end_at s.go at s.entry ≡ or_else (first_end s.go next nexts) (noted found last) → IsOpen s next at last nexts [] found
  opened nexts found last early e = record {
    low = place.low;
    boundary = place.boundary;
    early = early;
    own_end = e;
    late = late_here found nexts [];
  }

  -- no attempt goes on
  pub all_failed : {start last : ℕ} {own later : List ℕ} → IsOpen s at start last own later Nothing → first_end s.go at own ≡ None
      → first_end s.go at later ≡ None → NoneBefore s at
  all_failed {start} {last} {own} {later} row none_own none_later p low high boundary =
      elim (cases_lt p start) [
        | inl less ↦ row.early p low less boundary
        | inr ge ↦
            elim (cases_lt start p) [
              | inl over ↦ row.late none_own none_later p over high boundary
              | inr le ↦
                  let same : start ≡ p = omega arith in
                  subst (λ (q : ℕ). end_at s.go q s.entry ≡ None) same (row.own_end ∙ ap (λ a. or_else a None) none_own)
            ]
      ]

  -- attempts go on
  pub later_more : {start last : ℕ} {own later : List ℕ} (nexts later_nexts begun : List ℕ) → IsOpen s at start last own later Nothing
      → first_end s.go at own ≡ or_else (first_end s.go next nexts) None
      → (first_end s.go next nexts ≡ None → first_end s.go next later_nexts ≡ None
      → (first_end s.go at later ≡ None) × (first_end s.go next begun ≡ None))
      → end_at s.go at s.entry ≡ or_else (first_end s.go next begun) None
      → IsOpen s next start last nexts later_nexts Nothing
  later_more {start} {last} {own} {later} nexts later_nexts begun row own_is later_is begun_is = record {
    low = row.low;
    boundary = row.boundary;
    early = row.early;
    own_end = row.own_end ∙ ap (λ a. or_else a None) (own_is ∙ or_else_none (first_end s.go next nexts));
    late = λ none_own none_later p over high boundary.
        let both = later_is none_own none_later in
        elim (cases_lt p at) [
          | inl less ↦ row.late (own_is ∙ ap (λ a. or_else a None) none_own) both.0 p over less boundary
          | inr ge ↦
              elim (cases_lt at p) [
                | inl past ↦ absurd (place.alone p past high boundary)
                | inr le ↦
                    let same : at ≡ p = omega arith in
                    subst (λ (q : ℕ). end_at s.go q s.entry ≡ None) same (begun_is ∙ ap (λ a. or_else a None) both.1)
              ]
        ];
  }

-- the match of the first attempt is the first
pub first_of_open : {s : Search} {at start last : ℕ} {own later : List ℕ} {found : Found} → IsOpen s at start last own later found → (end : ℕ)
    → end_at s.go start s.entry ≡ Some end → IsFirstMatch s start end
first_of_open row end e = record { low = row.low; boundary = row.boundary; early = row.early; end_is = e }

-- the first attempt has a match and goes on
pub own_more : {s : Search} {at start last : ℕ} {own later : List ℕ} {found : Found} → IsOpen s at start last own later found → (next noted_last : ℕ) (nexts : List ℕ)
    → end_at s.go start s.entry ≡ or_else (first_end s.go next nexts) (Some noted_last) → IsOpen s next start noted_last nexts [] Own
own_more row next noted_last nexts e = record { low = row.low; boundary = row.boundary; early = row.early; own_end = e; late = tt }

-- the first attempt goes on, and a later start may have a match
pub late_more : {s : Search} {at start last : ℕ} {own later : List ℕ} {found : Found} → IsOpen s at start last own later found → (next : ℕ) (nexts : List ℕ)
    → first_end s.go at own ≡ or_else (first_end s.go next nexts) None → noted found last ≡ None → IsOpen s next start last nexts [] Later
late_more {s} {at} {start} {last} {own} row next nexts own_is none = record {
  low = row.low;
  boundary = row.boundary;
  early = row.early;
  own_end = row.own_end ∙ ap (or_else (first_end s.go at own)) none ∙ ap (λ a. or_else a None) (own_is ∙ or_else_none (first_end s.go next nexts));
  late = tt;
}

-- what the first attempt comes to where it has a match here
pub own_here : {s : Search} {at start last : ℕ} {own later : List ℕ} {found : Found} → IsOpen s at start last own later found → (next : ℕ) (nexts : List ℕ)
    → first_end s.go at own ≡ or_else (first_end s.go next nexts) (Some at) → end_at s.go start s.entry ≡ or_else (first_end s.go next nexts) (Some at)
own_here {s} {at} {start} {last} {own} {later} {found} row next nexts own_is =
    row.own_end ∙ ap (λ a. or_else a (noted found last)) own_is ∙ or_else_assoc (first_end s.go next nexts) (Some at) (noted found last)

-- the same where it had one
pub own_earlier : {s : Search} {at start last : ℕ} {own later : List ℕ} {found : Found} → IsOpen s at start last own later found → found ≡ Own → (next : ℕ) (nexts : List ℕ)
    → first_end s.go at own ≡ or_else (first_end s.go next nexts) None → end_at s.go start s.entry ≡ or_else (first_end s.go next nexts) (Some last)
own_earlier {s} {at} {start} {last} {own} {later} {found} row is_own next nexts own_is =
    row.own_end ∙ ap (λ (f : Found). or_else (first_end s.go at own) (noted f last)) is_own
    ∙ ap (λ a. or_else a (Some last)) (own_is ∙ or_else_none (first_end s.go next nexts))

-- the states that are left are to be added
abbrev pub IsUnionSoFar : List ℕ → List ℕ → List ℕ → List ℕ → List ℕ → Type 0
IsUnionSoFar added rest others before after = (go : ℕ → Continuation) (j : ℕ) → first_end go j others ≡ None → first_end go j after ≡ None
    → (first_end go j before ≡ None) × (first_end go j added ≡ first_end go j rest)

pub union_more : (added others before old new : List ℕ) (k : ℕ) → k < length added → IsUnionSoFar added (drop k added) others before old
    → IsAddedTo (get_or added k 0) others old new → IsUnionSoFar added (drop (k + 1) added) others before new
union_more added others before old new k lt so_far more go j none_others none_new =
    let both = added_none go j others none_others (get_or added k 0) old new more none_new in
    let was = so_far go j none_others both.0 in (
      was.0,
      was.1 ∙ ap (first_end go j) (drop-cons added k 0 lt) ∙ ap (λ (n : ℕ). or_else (end_at go j (get_or added k 0)) (first_end go j (drop n added))) (sym (add-one k))
          ∙ ap (λ a. or_else a (first_end go j (drop (k + 1) added))) both.1,
    )

module _ {parts : Parts} {s : Search} {before after : Sort} {c : Option ℕ} {at next : ℕ} (place : IsPlace parts s before after c at next) where
  -- the states of an attempt after the character
  pub stepped : (own nexts : List ℕ) (closed : Closed) → IsClosing parts.states before after own closed
      → IsStep parts.unicode parts.matchers parts.states c closed.reads.items nexts
      → first_end s.go at own ≡ or_else (first_end s.go next nexts) (end_if closed.is_end at)
  stepped own nexts closed closing step =
      closing s.view s.stop s.go at place.meaning place.high place.holds
      ∙ ap (λ a. or_else a (end_if closed.is_end at)) (step s.view s.stop s.go at place.reads ∙ ap (λ (n : ℕ). first_end s.go n nexts) place.next_is)

  -- the same where it has no match here
  pub stepped_on : (own nexts : List ℕ) (closed : Closed) → IsClosing parts.states before after own closed
      → IsStep parts.unicode parts.matchers parts.states c closed.reads.items nexts → closed.is_end ≡ false
      → first_end s.go at own ≡ or_else (first_end s.go next nexts) None
  stepped_on own nexts closed closing step no_end =
      stepped own nexts closed closing step ∙ ap (λ (b : Bool). or_else (first_end s.go next nexts) (end_if b at)) no_end

  -- those of attempts from later starts
  pub stepped_beside : (later others nexts : List ℕ) (closed : Closed) → IsClosing parts.states before after later closed
      → IsStepBeside parts.unicode parts.matchers parts.states c closed.reads.items others nexts → closed.is_end ≡ false
      → first_end s.go next others ≡ None → first_end s.go next nexts ≡ None → first_end s.go at later ≡ None
  stepped_beside later others nexts closed closing step no_end none_others none_nexts =
      let e : (n : ℕ) → next ≡ n → (first_end s.go n others ≡ None) × (first_end s.go n nexts ≡ None) =
      λ n same. subst (λ (m : ℕ). (first_end s.go m others ≡ None) × (first_end s.go m nexts ≡ None)) same (none_others, none_nexts) in
      let there = e (s.view.next at) (sym place.next_is) in
      closing s.view s.stop s.go at place.meaning place.high place.holds
      ∙ ap (λ a. or_else a (end_if closed.is_end at)) (step s.view s.stop s.go at place.reads there.0 there.1)
      ∙ ap (λ (b : Bool). end_if b at) no_end

  -- all attempts fail that are under way
  pub nothing_left : {start last : ℕ} {own later : List ℕ} (nexts later_nexts : List ℕ) → IsOpen s at start last own later Nothing
      → first_end s.go at own ≡ or_else (first_end s.go next nexts) None
      → (first_end s.go next nexts ≡ None → first_end s.go next later_nexts ≡ None → first_end s.go at later ≡ None)
      → nexts ≡ [] → later_nexts ≡ [] → NoneBefore s at
  nothing_left {start} {last} {own} {later} nexts later_nexts row own_is later_is none_own none_later =
      let no_own : first_end s.go next nexts ≡ None = ap (first_end s.go next) none_own in
      let no_later : first_end s.go next later_nexts ≡ None = ap (first_end s.go next) none_later in
      all_failed place row (own_is ∙ ap (λ a. or_else a None) no_own) (later_is no_own no_later)
