-- Groups that write nothing but characters.
use Rattle.std.specs.Prelude.{◌≡◌, ℕ, ◌≤◌, false, List, map, slice_get, Option, Some}
use Rattle.std.specs.Borrow.{Bor}
use Rattle.fancy_regex_meaning.specs.Ways.{is_at_call_limit}
use Rattle.fancy_regex_desugar.specs.CorePatterns.{CorePattern}
use Rattle.fancy_regex_desugar.specs.ProgramSizes.{room}
use Rattle.fancy_regex_info.specs.Infos.{InfoTree, info_of}
use Rattle.fancy_regex_info.specs.declared.info.Info.{Info}
use Rattle.fancy_regex_compiler.specs.Known.{info_call}

-- The pattern has room for so many characters at least.
pub record IsText (n : ℕ) (p : CorePattern) : Type 0 where
  pub fits : n ≤ room p

-- So does the pattern over those of calls, where it does for the calls of groups with no more characters.
abbrev pub WritesText : List (Option ℕ) → ℕ → ((ℕ → CorePattern) → CorePattern) → Type 0
WritesText lengths n pattern = (call : ℕ → CorePattern) →
    ((k m : ℕ) → slice_get lengths k ≡ Some (Some m) → m ≤ n → IsText m (call k)) → IsText n (pattern call)

-- A call of a group with at most so many characters is not at its limit, where those calls are open.
abbrev pub IsFree : List (Option ℕ) → ℕ → List ℕ → Type 0
IsFree lengths most opened = (k n : ℕ) → slice_get lengths k ≡ Some (Some n) → n ≤ most → is_at_call_limit opened k ≡ false

-- So many groups have a number of characters: that of a call, where at least as many calls may open and none in it is at its limit.
abbrev pub AreTexts : List InfoTree → List (Option ℕ) → ℕ → Type 0
AreTexts groups lengths known = (k n m : ℕ) (opened : List ℕ) → slice_get lengths k ≡ Some (Some n) → known ≤ m →
    IsFree lengths n opened → IsText n (info_call groups m opened k)

-- what the analysis says of the groups, by their numbers
abbrev pub infos_at : List (Bor Info) → List InfoTree
infos_at groups = map (λ i. info_of i.now) groups
