-- The backtracking machine and the linear engine return the same match.
use Rattle.std.specs.Prelude.{◌≡◌, ℕ, Bool, false, List, Option, None, Result, Ok, IfOk, option_map, Vec}
use Rattle.std.specs.declared.alloc.AllocError.{AllocError}
use Rattle.std.specs.declared.alloc.Global.{Global}
use Rattle.fancy_regex_meaning.specs.Groups.{Pattern}
use Rattle.fancy_regex_meaning.specs.Searches.{first_match}
use Rattle.fancy_regex_desugar.specs.Unfolded.{core_pattern_of}
use Rattle.fancy_regex_machine.specs.ProgramLaws.{RunRequirements}
use Rattle.fancy_regex_compiler.specs.Prog.{Prog}
use Rattle.fancy_regex_class.specs.RunInputs.{setting_for, search_for, match_slots}
use Rattle.fancy_regex_linear.specs.EasyPatterns.{IsEasyOf}
use Rattle.fancy_regex_linear.specs.declared.easy.Easy.{Easy}
use Rattle.fancy_regex_class.specs.declared.input.RunInput.{RunInput}
use Rattle.fancy_regex_compiler.specs.Programs.{IsProgramOf}
use Rattle.fancy_regex_machine.specs.SearchAnswers.{Answered}
use Rattle.fancy_regex_machine.specs.RunArguments.{run_parameters_for}
use Rattle.fancy_regex_machine.specs.RuntimeError.{RuntimeError}
use Rattle.fancy_regex_machine.specs.declared.search.RunOptions.{RunOptions}

-- the slots of a match, two byte offsets for each group, or None
abbrev pub Places : Type 0
Places = Option (Vec ℕ Global)

-- the slots as a list
abbrev pub listed : Places → Option (List ℕ)
listed = option_map (λ (v : Vec ℕ Global). v.items)

-- the contract of `run` on its result
abbrev pub RunAnswers : Prog → List ℕ → RunInput → RunOptions → Result Places RuntimeError → Type 0
RunAnswers prog text input options result = (pattern : Pattern) (anchored : Bool) → IsProgramOf prog pattern anchored
    → RunRequirements (run_parameters_for prog.unicode prog.longest text input options) (core_pattern_of pattern) prog.whole prog.groups
    → Answered (run_parameters_for prog.unicode prog.longest text input options) pattern prog.whole anchored result options.backtrack_limit

-- the contract of `Easy::search` on its result
abbrev pub SearchAnswers : Easy → List ℕ → RunInput → Result Places AllocError → Type 0
SearchAnswers easy text input result = IfOk result (λ found. (pattern : Pattern) → IsEasyOf easy pattern
    → listed found ≡ option_map (match_slots pattern) (first_match (setting_for easy.unicode text input) pattern (search_for easy.longest input)))

-- The program and the states of the linear engine were made from one pattern, with the same options.
pub record AreOfSamePattern (prog : Prog) (easy : Easy) (pattern : Pattern) : Type 0 where
  pub program : IsProgramOf prog pattern false
  pub states : IsEasyOf easy pattern
  pub whole : prog.whole ≡ easy.whole
  pub unicode : prog.unicode ≡ easy.unicode
  pub longest : prog.longest ≡ easy.longest

-- The run tries each start position and admits empty matches.
pub record TriesAllStarts (options : RunOptions) : Type 0 where
  pub empty : options.find_not_empty ≡ false
  pub seek : options.seek ≡ None

-- Wherever both succeed, they return the same slots.
abbrev pub EnginesAgree : Type 0
EnginesAgree = (prog : Prog) (easy : Easy) (pattern : Pattern) (text : List ℕ) (input : RunInput) (options : RunOptions) (ran searched : Places)
    → AreOfSamePattern prog easy pattern → TriesAllStarts options
    → RunRequirements (run_parameters_for prog.unicode prog.longest text input options) (core_pattern_of pattern) prog.whole prog.groups
    → RunAnswers prog text input options (Ok ran) → SearchAnswers easy text input (Ok searched) → listed ran ≡ listed searched
