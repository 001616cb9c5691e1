-- The classes of characters, one after another.
use Rattle.std.proofs.Common.{◌≡◌, ℕ, ◌+◌, ◌<◌, Bool, List, length, set, Option, Some, sym, subst, inl, inr, arith, get_or}
use Rattle.std.proofs.lemmas.Bool.{cases_lt}
use Rattle.std.proofs.lemmas.List.{get_or-set_same, get_or-set_other}
use Rattle.fancy_regex_class.specs.declared.class.CharClassMatcher.{CharClassMatcher}
use Rattle.fancy_regex_states.specs.First.{state_at}
use Rattle.fancy_regex_states.specs.declared.atom.Leaf.{Leaf}
use Rattle.fancy_regex_states.specs.declared.state.State.{State}
use Rattle.fancy_regex_states.specs.declared.state.State.TheVariants as S
use Rattle.fancy_regex_table.specs.Alphabets.{HasLeaf, HaveLeaves, Agree, HasClass, KeepsSamples, IsSampled}
use Rattle.fancy_regex_table.specs.Making.{ReadsAlike}
use Rattle.fancy_regex_table.specs.declared.sort.Asked.{Asked}

pub class_kept : (unicode : Bool) (matchers : List CharClassMatcher) (leaves : List Leaf) (asked : Asked) (old new : List (Option ℕ)) (c : Option ℕ) (class : ℕ)
    → KeepsSamples old new → HasClass unicode matchers leaves asked old c class → HasClass unicode matchers leaves asked new c class
class_kept unicode matchers leaves asked old new c class kept h =
    record { sample = h.sample; is_there = kept class h.sample h.is_there; agrees = h.agrees }

-- one more character has a class
pub classes_more : (unicode : Bool) (matchers : List CharClassMatcher) (leaves : List Leaf) (asked : Asked) (old new : List (Option ℕ)) (ascii : List ℕ) (code class : ℕ)
    → code < length ascii → KeepsSamples old new
    → ((c : ℕ) → c < code → HasClass unicode matchers leaves asked old (Some c) (get_or ascii c 0))
    → HasClass unicode matchers leaves asked new (Some code) class
    → (c : ℕ) → c < code + 1 → HasClass unicode matchers leaves asked new (Some c) (get_or (set ascii code class) c 0)
classes_more unicode matchers leaves asked old new ascii code class inside kept all here c lt =
    elim (cases_lt c code) [
      | inl less ↦
          let same : get_or (set ascii code class) c 0 ≡ get_or ascii c 0 = get_or-set_other ascii code c class 0 (λ e. omega arith) in
          subst (HasClass unicode matchers leaves asked new (Some c)) (sym same) (class_kept unicode matchers leaves asked old new (Some c) (get_or ascii c 0) kept (all c less))
      | inr ge ↦
          let same : code ≡ c = omega arith in
          let is : get_or (set ascii code class) code 0 ≡ class = get_or-set_same ascii code class 0 inside in
          subst (λ (n : ℕ). HasClass unicode matchers leaves asked new (Some n) (get_or (set ascii code class) n 0)) same
          (subst (HasClass unicode matchers leaves asked new (Some code)) (sym is) here)
    ]

reads_alike : (unicode : Bool) (matchers : List CharClassMatcher) (leaves : List Leaf) (asked : Asked) (one other : Option ℕ) (state : State)
    → Agree unicode matchers leaves asked one other → HasLeaf leaves state → ReadsAlike unicode matchers one other state
reads_alike unicode matchers leaves asked one other (S.Read leaf next) agree has = agree.1 leaf has
reads_alike unicode matchers leaves asked one other (S.Look test next) agree has = tt
reads_alike unicode matchers leaves asked one other (S.Split first second) agree has = tt
reads_alike unicode matchers leaves asked one other (S.Enter g next) agree has = tt
reads_alike unicode matchers leaves asked one other (S.Leave g next) agree has = tt
reads_alike unicode matchers leaves asked one other (S.Back next) agree has = tt
reads_alike unicode matchers leaves asked one other (S.Ask part negated next) agree has = tt
reads_alike unicode matchers leaves asked one other (S.Atomic part same moved) agree has = tt
reads_alike unicode matchers leaves asked one other S.Match agree has = tt

pub sampled : (unicode : Bool) (matchers : List CharClassMatcher) (states : List State) (leaves : List Leaf) (asked : Asked) (samples : List (Option ℕ)) (c class : ℕ)
    → HaveLeaves leaves states → HasClass unicode matchers leaves asked samples (Some c) class → IsSampled unicode matchers states asked samples c class
sampled unicode matchers states leaves asked samples c class have h = record {
  sample = h.sample;
  is_there = h.is_there;
  alike = record {
    sorts = h.agrees.0;
    alike = λ q lt. reads_alike unicode matchers leaves asked (Some c) h.sample (state_at states q) h.agrees (have q lt);
  };
}
