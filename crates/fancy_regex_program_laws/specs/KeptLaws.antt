-- The law of programs in which calls stay calls: a run returns the result of its pattern's search.
use Rattle.std.specs.Prelude.{◌≡◌, ℕ, ◌≤◌, Bool, List, Some}
use Rattle.fancy_regex_meaning.specs.Groups.{Pattern}
use Rattle.fancy_regex_desugar.specs.CorePatterns.{CorePattern}
use Rattle.fancy_regex_desugar.specs.Unfolded.{core_pattern_of}
use Rattle.fancy_regex_program.specs.Ops.{Op}
use Rattle.fancy_regex_program.specs.Machine.{RunParameters, Ending, anchored_by, run}
use Rattle.fancy_regex_program.specs.Code.{Layout}
use Rattle.fancy_regex_program.specs.Layouts.{IsKept}
use Rattle.fancy_regex_program_laws.specs.ProgramLaws.{RunRequirements, Answers}

-- After j steps the run of this program has ended, with the result of the pattern's search.
pub record KeptTerminates (r : RunParameters) (p : CorePattern) (whole anchored : Bool) (count : ℕ) (code : List Op) (slots j : ℕ) : Type 0 where
  pub ending : Ending
  pub comes : run code slots (anchored_by anchored r) j ≡ Some ending
  pub answers : Answers r p whole anchored count ending

-- From some number of steps on, the run has ended with the result of the search: that of the pattern with its calls written out.
abbrev pub KeptProgramsAnswerSearches : Type 0
KeptProgramsAnswerSearches = (r : RunParameters) (pattern : Pattern) (whole anchored : Bool) (count : ℕ) (layout : Layout) (code : List Op) (slots : ℕ) →
    RunRequirements r (core_pattern_of pattern) whole count →
    IsKept r.setting.has_member r.setting.fold whole layout anchored count pattern.groups (core_pattern_of pattern) code slots →
    (n : ℕ) × ((j : ℕ) → n ≤ j → KeptTerminates r (core_pattern_of pattern) whole anchored count code slots j)
