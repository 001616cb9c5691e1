-- When a strategy executes a tree under options, and which search it makes.
use Rattle.std.specs.Prelude.{◌≡◌, ℕ, Bool, true, false, List, length, Option, Some, None, IfSome}
use Rattle.fancy_regex_tree.specs.Tree.{Tree}
use Rattle.fancy_regex_meaning.specs.Groups.{pattern_of}
use Rattle.fancy_regex_meaning.specs.Searches.{Search, first_match}
use Rattle.fancy_regex_meaning.specs.SizeLaws.{IsInOrder}
use Rattle.fancy_regex_desugar.specs.Unfolded.{core_pattern_of}
use Rattle.fancy_regex_desugar.specs.Shapes.{StepsBackOnlyFirst}
use Rattle.fancy_regex_compiler.specs.Programs.{IsProgramOf, KeepsCap}
use Rattle.fancy_regex_program.specs.Shapes.{IsWritable}
use Rattle.fancy_regex_compiler.specs.Prog.{Prog}
use Rattle.fancy_regex_linear.specs.EasyPatterns.{IsEasyOf}
use Rattle.fancy_regex_linear.specs.declared.easy.Easy.{Easy as EasyMatcher}
use Rattle.fancy_regex_regular.specs.Regulars.{IsRegularOf}
use Rattle.fancy_regex_regular.specs.declared.regular.Regular.{Regular as RegularStates}
use Rattle.fancy_regex_class.specs.RunInputs.{setting_for}
use Rattle.fancy_regex_class.specs.declared.input.RunInput.{RunInput}
use Rattle.fancy_regex_relaxed.specs.Skips.{IsRelaxedOf, input_from}
use Rattle.fancy_regex_relaxed.specs.declared.relaxed.Relaxed.{Relaxed}
use Rattle.fancy_regex_machine.specs.declared.search.RunOptions.{RunOptions}
use Rattle.fancy_regex_meta.specs.Patterns.{options_in}
use Rattle.fancy_regex_meta.specs.SeekTables.{IsSeekTable}
use Rattle.fancy_regex_meta.specs.declared.options.RegexOptions.{RegexOptions}
use Rattle.fancy_regex_meta.specs.declared.strategy.Strategy.{Strategy}
use Rattle.fancy_regex_meta.specs.declared.strategy.Strategy.TheVariants.{Easy, Linear, Program, Regular}

-- The program is the compiled program of the tree's pattern, with its calls written out or kept.
pub record IsCompiled (prog : Prog) (t : Tree) : Type 0 where
  pub program : IsProgramOf prog (pattern_of t) false
  pub whole : prog.whole ≡ true
  pub writable : IsWritable 1 (length (pattern_of t).groups) (core_pattern_of (pattern_of t))
  pub placed : StepsBackOnlyFirst false (core_pattern_of (pattern_of t))

-- the options of a run of a program: the backtrack limit, whether empty matches are refused, and the seek table
abbrev pub run_options_of : RegexOptions → Option (List Bool) → RunOptions
run_options_of o seek = record { backtrack_limit = o.backtrack_limit; find_not_empty = o.find_not_empty; seek = seek }

-- A program is run with these options, and with the kept seek table.
abbrev pub RunsUnder : Strategy → RegexOptions → Type 0
RunsUnder (Easy easy) o = Unit {0}
RunsUnder (Linear linear prog) o = Unit {0}
RunsUnder (Program prog run) o = run ≡ run_options_of o run.seek
RunsUnder (Regular regular prog run relaxed) o = Unit {0}

-- The matcher searches as this tree means under these options, which allow empty matches.
abbrev pub IsMatcherFor : EasyMatcher → RegexOptions → Tree → Type 0
IsMatcherFor easy o t = IsEasyOf easy (pattern_of t) × (easy.unicode ≡ o.unicode_mode) × (easy.longest ≡ o.leftmost_longest) × (o.find_not_empty ≡ false)

-- The states with parts search as this tree means under these options, which allow empty matches.
pub record IsRegularFor (regular : RegularStates) (o : RegexOptions) (t : Tree) : Type 0 where
  pub of : IsRegularOf regular (pattern_of t)
  pub unicode : regular.unicode ≡ o.unicode_mode
  pub longest : regular.longest ≡ o.leftmost_longest
  pub empty : o.find_not_empty ≡ false

-- The program of the tree, with its seek table, where no repeat is reversed; with the options' Unicode mode and leftmost-longest mode, and
-- run with the options' backtrack limit.
abbrev pub IsProgramFor : Prog → RunOptions → RegexOptions → Tree → Type 0
IsProgramFor prog run o t =
    IsCompiled prog t × (prog.unicode ≡ o.unicode_mode) × (prog.longest ≡ o.leftmost_longest) × IsSeekTable o t run.seek × IsInOrder t
    × (run ≡ run_options_of o run.seek)

-- the greatest limit on backtracks that an option can name
abbrev pub greatest_limit : ℕ
greatest_limit = 18446744073709551615

-- these options, with that limit
abbrev pub unlimited : RegexOptions → RegexOptions
unlimited o = record o { backtrack_limit = greatest_limit }

-- the same of the options of a run
abbrev pub unlimited_run : RunOptions → RunOptions
unlimited_run run = record run { backtrack_limit = greatest_limit }

-- A relaxed pattern, if there is one, is that of this tree under these options.
abbrev pub IsRelaxedFor : Option Relaxed → RegexOptions → Tree → Type 0
IsRelaxedFor found o t = IfSome found (λ relaxed. IsRelaxedOf relaxed o.unicode_mode t)

-- The strategy executes this tree under these options: the linear-time matcher of the tree, where empty matches are allowed,
-- or its program with its seek table, where no repeat is reversed; both with the options' Unicode mode and leftmost-longest
-- mode. The program is run with the options' backtrack limit, or with the greatest one where states answer in its place once its allowance
-- is exhausted. Where a tree that is not easy has a matcher, its program is kept too.
abbrev pub Executes : Strategy → RegexOptions → Tree → Type 0
Executes (Easy easy) o t = IsMatcherFor easy o t
Executes (Linear linear prog) o t = IsMatcherFor linear o t × IsCompiled prog t
Executes (Program prog run) o t = IsProgramFor prog run o t
Executes (Regular regular prog run relaxed) o t = IsRegularFor regular o t × IsProgramFor prog run (unlimited o) t × IsRelaxedFor relaxed o t

-- A program has no more instructions than the cap, if one is set. The linear-time matcher has no cap.
abbrev pub StrategyKeepsCap : Option ℕ → Strategy → Type 0
StrategyKeepsCap most (Easy easy) = Unit {0}
StrategyKeepsCap most (Linear linear prog) = KeepsCap most prog
StrategyKeepsCap most (Program prog run) = KeepsCap most prog
StrategyKeepsCap most (Regular regular prog run relaxed) = KeepsCap most prog

-- group 0 of a program is the whole match
abbrev pub is_whole : Strategy → Bool
is_whole (Easy easy) = true
is_whole (Linear linear prog) = true
is_whole (Program prog run) = prog.whole
is_whole (Regular regular prog run relaxed) = prog.whole

-- the search of the definitions for a strategy's input
abbrev pub search_of : RegexOptions → RunInput → Search
search_of o input = record { first = input.first; stop = input.range.end; anchored = input.anchored; options = options_in o }

-- There is no match; or the match of this search is that of the same search from this start.
abbrev pub IsNextStart : RegexOptions → List ℕ → RunInput → Tree → Option ℕ → Type 0
IsNextStart o text input t None = first_match (setting_for o.unicode_mode text input) (pattern_of t) (search_of o input) ≡ None
IsNextStart o text input t (Some start) =
    first_match (setting_for o.unicode_mode text input) (pattern_of t) (search_of o input)
    ≡ first_match (setting_for o.unicode_mode text (input_from input start)) (pattern_of t) (search_of o (input_from input start))
