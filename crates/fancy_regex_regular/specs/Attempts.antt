-- The attempt of a search that finds its match. The match may be said to begin elsewhere.
use Rattle.std.specs.Prelude.{◌≡◌, ℕ, Bool, List, Option, option_map}
use Rattle.std.specs.List.{filter}
use Rattle.fancy_regex_meaning.specs.Groups.{Pattern}
use Rattle.fancy_regex_meaning.specs.Ways.{Setting}
use Rattle.fancy_regex_meaning.specs.Searches.{Search, chosen, first_some, is_admitted, starts, ways_at}
use Rattle.fancy_regex_class.specs.RunInputs.{setting_for, search_for}
use Rattle.fancy_regex_class.specs.declared.input.RunInput.{RunInput}
use Rattle.fancy_regex_regular.specs.Regulars.{IsRegularOf}
use Rattle.fancy_regex_regular.specs.declared.regular.Regular.{Regular}

module _ (s : Setting) (pattern : Pattern) (find : Search) where
  -- where the attempt from this place starts and ends, if it finds a way
  abbrev pub attempt_at : ℕ → Option (ℕ × ℕ)
  attempt_at p = option_map (λ w. (p, w.position)) (chosen find.options.longest (filter (is_admitted find) (ways_at s pattern find p)))

  -- the same of the first attempt that finds one
  abbrev pub first_attempt : Option (ℕ × ℕ)
  first_attempt = first_some attempt_at (starts s pattern find)

-- this is where the attempt starts and ends that finds the match of the definitions: the first, or the longest
abbrev pub IsAttemptOf : Bool → Regular → List ℕ → RunInput → Option (ℕ × ℕ) → Type 0
IsAttemptOf longest regular text input found = (pattern : Pattern) → IsRegularOf regular pattern
    → found ≡ first_attempt (setting_for regular.unicode text input) pattern (search_for longest input)

-- the same of the match that is wanted
abbrev pub IsAttempt : Regular → List ℕ → RunInput → Option (ℕ × ℕ) → Type 0
IsAttempt regular text input found = IsAttemptOf regular.longest regular text input found
