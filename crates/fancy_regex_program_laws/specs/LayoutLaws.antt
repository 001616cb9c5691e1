-- The law of layouts: the program of a pattern with its calls written out and the one in which calls stay run alike.
use Rattle.std.specs.Prelude.{◌≡◌, ℕ, ◌+◌, ◌*◌, Bool, List, Option, Some, option_map}
use Rattle.fancy_regex_meaning.specs.Groups.{Pattern}
use Rattle.fancy_regex_desugar.specs.Unfolded.{core_pattern_of}
use Rattle.fancy_regex_program.specs.Ops.{Op}
use Rattle.fancy_regex_program.specs.Machine.{RunParameters, Ending, anchored_by, run}
use Rattle.fancy_regex_program.specs.Code.{Layout, slots_in, program_of}
use Rattle.fancy_regex_program.specs.Layouts.{IsKept}
use Rattle.fancy_regex_program_laws.specs.ProgramLaws.{RunRequirements, found_by_thread}

-- Two runs end alike: with the same match, after as many backtracks, with as many branches open at most, and where they first have more
-- than `most_branches` open, after as many backtracks. Their numbers of steps may differ.
pub record AreAlike (whole : Bool) (count : ℕ) (a b : Ending) : Type 0 where
  pub answer : option_map (found_by_thread whole (2 * count)) a.answer ≡ option_map (found_by_thread whole (2 * count)) b.answer
  pub backtracks : a.backtracks ≡ b.backtracks
  pub peak : a.peak ≡ b.peak
  pub overflow : a.overflow ≡ b.overflow

-- A run, given by how it ends within each number of steps, ends like that within some number of steps.
pub record EndsAlike (whole : Bool) (count : ℕ) (runs : ℕ → Option Ending) (e : Ending) : Type 0 where
  pub steps : ℕ
  pub ending : Ending
  pub comes : runs steps ≡ Some ending
  pub alike : AreAlike whole count e ending

-- Where one of two runs ends, the other ends alike.
pub record RunAlike (whole : Bool) (count : ℕ) (first second : ℕ → Option Ending) : Type 0 where
  pub there : (n : ℕ) (e : Ending) → first n ≡ Some e → EndsAlike whole count second e
  pub back : (n : ℕ) (e : Ending) → second n ≡ Some e → EndsAlike whole count first e

-- The program of a pattern with its calls written out, and one in which calls stay.
abbrev pub LayoutsRunAlike : Type 0
LayoutsRunAlike = (r : RunParameters) (pattern : Pattern) (whole anchored : Bool) (count : ℕ) (layout : Layout) (code : List Op) (slots : ℕ) →
    RunRequirements r (core_pattern_of pattern) whole count →
    IsKept r.setting.has_member r.setting.fold whole layout anchored count pattern.groups (core_pattern_of pattern) code slots →
    RunAlike whole count
    (run (program_of r.setting.has_member r.setting.fold whole anchored count (core_pattern_of pattern)) (2 * count + slots_in (core_pattern_of pattern)) (anchored_by anchored r))
    (run code slots (anchored_by anchored r))
