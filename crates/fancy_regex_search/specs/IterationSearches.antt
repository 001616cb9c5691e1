-- Which searches an iteration makes.
use Rattle.std.specs.Prelude.{◌≡◌, ℕ, ◌≤◌, ◌==◌, Bool, false, List, [], ◌∷◌, Option, Some, max, nat_lt, if◌then◌else◌}
use Rattle.fancy_regex_meaning.specs.Searches.{Match}
use Rattle.fancy_regex_input.specs.declared.config.SearchConfig.{SearchConfig}
use Rattle.fancy_regex_meta.specs.MetaMatches.{meta_match_from}
use Rattle.fancy_regex_meta.specs.declared.meta_regex.MetaRegex.{MetaRegex}
use Rattle.fancy_regex_search.specs.RemainingMatches.{next_start}
use Rattle.fancy_regex_search.specs.declared.match_iter.IterState.{IterState}

-- `\G` is disabled in the search after an empty match at the start of its own search
abbrev pub continue_disabled_after : ℕ → Match → Bool
continue_disabled_after q m = if nat_lt m.start m.end then false else (m.end == q)

-- An iteration over a range whose next search starts at p (with `\G` disabled if the flag is set) makes a search that starts
-- at q: the next one, or one after a match.
pub data MakesSearch (text : List ℕ) (find : ℕ → Bool → Option Match) (first end : ℕ) : ℕ → Bool → ℕ → Bool → Type 0 where
  next : (p : ℕ) (continue_disabled : Bool) → max p first ≤ end → MakesSearch text find first end p continue_disabled p continue_disabled
  following : (p : ℕ) (continue_disabled : Bool) (m : Match) (q : ℕ) (o : Bool) → max p first ≤ end → find (max p first) continue_disabled ≡ Some m →
      MakesSearch text find first end (next_start text m.start m.end) (continue_disabled_after (max p first) m) q o → MakesSearch text find first end p continue_disabled q o

-- a compiled pattern's iteration makes the search
abbrev pub MakesSearchFrom : MetaRegex → List ℕ → SearchConfig → Bool → ℕ → Bool → Type 0
MakesSearchFrom s text config continue_disabled q o = MakesSearch text (meta_match_from s text config) config.range_start config.range_end config.start continue_disabled q o

-- Every search that is made from the new state is made from the old one.
abbrev pub KeepsSearches : MetaRegex → List ℕ → SearchConfig → Bool → SearchConfig → Bool → Type 0
KeepsSearches s text old continue_disabled new still = (q : ℕ) (o : Bool) → MakesSearchFrom s text new still q o → MakesSearchFrom s text old continue_disabled q o

-- From the end of the previous match, the start of the next search and whether `\G` is disabled in it, an iteration comes to
-- this search by skipping matches alone: empty ones that end where the previous match ended.
pub data SkipsTo (text : List ℕ) (find : ℕ → Bool → Option Match) (first end : ℕ) : Option ℕ → ℕ → Bool → ℕ → Bool → Type 0 where
  at_once : (last : Option ℕ) (p : ℕ) (continue_disabled : Bool) → SkipsTo text find first end last p continue_disabled p continue_disabled
  skipped : (last : Option ℕ) (p : ℕ) (continue_disabled : Bool) (m : Match) (q : ℕ) (o : Bool) → max p first ≤ end → find (max p first) continue_disabled ≡ Some m →
      m.end ≤ m.start → last ≡ Some m.end →
      SkipsTo text find first end (Some m.end) (next_start text m.start m.end) (continue_disabled_after (max p first) m) q o →
      SkipsTo text find first end last p continue_disabled q o

-- a compiled pattern's iteration in this state comes to the search that starts at q by skipping matches alone
abbrev pub SkipsToFrom : MetaRegex → List ℕ → SearchConfig → IterState → ℕ → Bool → Type 0
SkipsToFrom s text config state q o =
    SkipsTo text (meta_match_from s text config) config.range_start config.range_end state.last config.start state.continue_disabled q o

-- Every search that the new state comes to by skipping, the old one comes to by skipping.
abbrev pub KeepsSkips : MetaRegex → List ℕ → SearchConfig → IterState → SearchConfig → IterState → Type 0
KeepsSkips s text old before new after = (q : ℕ) (o : Bool) → SkipsToFrom s text new after q o → SkipsToFrom s text old before q o

-- An iteration returns a match, unless the match is empty and ends where the previous one ended.
abbrev pub IsReturned : Option ℕ → Match → Type 0
IsReturned last m = m.end ≤ m.start → last ≡ Some m.end → ⊥

-- From the end of the previous match, the start of the next search and whether `\G` is disabled in it, an iteration returns these
-- matches, one after the other, and comes from there to the search that starts at q by skipping matches alone.
pub data ComesAfter (text : List ℕ) (find : ℕ → Bool → Option Match) (first end : ℕ) : List Match → Option ℕ → ℕ → Bool → ℕ → Bool → Type 0 where
  no_item : (last : Option ℕ) (p : ℕ) (continue_disabled : Bool) (q : ℕ) (o : Bool) → SkipsTo text find first end last p continue_disabled q o →
      ComesAfter text find first end [] last p continue_disabled q o
  one_item : (last : Option ℕ) (p : ℕ) (continue_disabled : Bool) (at : ℕ) (off : Bool) (m : Match) (items : List Match) (q : ℕ) (o : Bool) →
      SkipsTo text find first end last p continue_disabled at off → max at first ≤ end → find (max at first) off ≡ Some m → IsReturned last m →
      ComesAfter text find first end items (Some m.end) (next_start text m.start m.end) (continue_disabled_after (max at first) m) q o →
      ComesAfter text find first end (m ∷ items) last p continue_disabled q o

-- the same of a compiled pattern's iteration under this configuration, from any start
abbrev pub ComesTo : MetaRegex → List ℕ → SearchConfig → List Match → Option ℕ → ℕ → Bool → ℕ → Bool → Type 0
ComesTo s text config items last p continue_disabled q o =
    ComesAfter text (meta_match_from s text config) config.range_start config.range_end items last p continue_disabled q o

-- This match is the item between the two states: the old one comes by skipping to a search that finds it and returns it, and the new
-- one is that after it.
pub record PassesItem (s : MetaRegex) (text : List ℕ) (old : SearchConfig) (before : IterState) (m : Match) (new : SearchConfig) (after : IterState) : Type 0 where
  pub at : ℕ
  pub off : Bool
  pub skips : SkipsToFrom s text old before at off
  pub inside : max at old.range_start ≤ old.range_end
  pub found : meta_match_from s text old (max at old.range_start) off ≡ Some m
  pub returned : IsReturned before.last m
  pub last : after.last ≡ Some m.end
  pub start : new.start ≡ next_start text m.start m.end
  pub flag : after.continue_disabled ≡ continue_disabled_after (max at old.range_start) m
