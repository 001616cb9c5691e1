-- Sets whose members have options of their own.
use Rattle.std.specs.Prelude.{◌≡◌, ⊤, ℕ, List, [], ◌∷◌, take, Some, slice_get}
use Rattle.fancy_regex.specs.Refusals.{Accepts, Refuses}
use Rattle.fancy_regex.specs.Error.{Error}
use Rattle.fancy_regex.specs.Error.TheVariants as told
use Rattle.fancy_regex.specs.Regex.{Regex}
use Rattle.fancy_regex.specs.SetMembers.{IsBuiltOf}
use Rattle.fancy_regex_ffi_lists.specs.Choices.{chosen}
use Rattle.fancy_regex_ffi_lists.specs.declared.options.Options.{Options}

-- each of the regexes is built of the pattern with its number, with the options of that number
abbrev pub AreBuiltEach : List Options → List (List ℕ) → List Regex → Type 0
AreBuiltEach os [] [] = ⊤
AreBuiltEach os [] (r ∷ rs) = ⊥
AreBuiltEach [] (p ∷ ps) rs = ⊥
AreBuiltEach (o ∷ os) (p ∷ ps) [] = ⊥
AreBuiltEach (o ∷ os) (p ∷ ps) (r ∷ rs) = IsBuiltOf (chosen o) p r × AreBuiltEach os ps rs

-- each of so many patterns is accepted with the options of its number
abbrev pub AcceptsEach : List Options → List (List ℕ) → Type 0
AcceptsEach os [] = ⊤
AcceptsEach [] (p ∷ ps) = ⊥
AcceptsEach (o ∷ os) (p ∷ ps) = Accepts (chosen o) p × AcceptsEach os ps

-- the error is one of building the pattern with some number, and those before it are accepted
abbrev pub IsErrorOfEach : List Options → List (List ℕ) → Error → Type 0
IsErrorOfEach os ps e = (i : ℕ) × (o : Options) × (p : List ℕ) × (slice_get os i ≡ Some o) × (slice_get ps i ≡ Some p) × AcceptsEach os (take i ps) × Refuses (chosen o) p e

-- `Memory`, or the error of the first pattern that is refused
abbrev pub RefusesEach : List Options → List (List ℕ) → Error → Type 0
RefusesEach os ps told.Memory = ⊤
RefusesEach os ps e = IsErrorOfEach os ps e
