-- A program and a runner answer the same.
use Rattle.std.proofs.Common.{◌≡◌, ◌<◌, ◌≤◌, length, subst, arith, IsUtf8, IsCharBoundary, ℕ, Bool, true, false, List, [], Option, Some, None, refl, ap, sym, ◌∙◌}
use Rattle.std.specs.Prelude.{option_map, Ok, Err, Vec}
use Rattle.std.specs.declared.alloc.Global.{Global}
use Rattle.fancy_regex_tree.specs.Tree.{Tree}
use Rattle.fancy_regex_meaning.specs.Groups.{Pattern, pattern_of}
use Rattle.fancy_regex_meaning.specs.Searches.{Match, first_match}
use Rattle.fancy_regex_class.specs.RunInputs.{setting_for, match_slots}
use Rattle.fancy_regex_class.specs.declared.input.RunInput.{RunInput}
use Rattle.fancy_regex_desugar.specs.Unfolded.{core_pattern_of}
use Rattle.fancy_regex_program.specs.Machine.{unset, RunParameters, Ending}
use Rattle.fancy_regex_program.specs.Shapes.{IsWritable}
use Rattle.fancy_regex_compiler.specs.Prog.{Prog}
use Rattle.fancy_regex_machine.specs.ProgramLaws.{first_group_number, RunRequirements}
use Rattle.fancy_regex_machine.specs.SearchAnswers.{match_places, found_match, found_choices, Answered, AnsweredSpan}
use Rattle.fancy_regex_machine.specs.MachineLimits.{MachinePassesLimit}
use Rattle.fancy_regex_machine.specs.RunArguments.{run_parameters_for, machine_ending, AgreesOnGroups, AgreesOnSpan}
use Rattle.fancy_regex_machine.specs.RuntimeError.{RuntimeError}
use Rattle.fancy_regex_machine.specs.RuntimeError.TheVariants.{StackOverflow, BacktrackLimitExceeded, Memory}
use Rattle.fancy_regex_machine.specs.declared.search.RunOptions.{RunOptions}
use Rattle.fancy_regex_meta.specs.ErrorConversions.{from_runtime_error}
use Rattle.fancy_regex_meta.specs.FoundParts.{wanted_parts}
use Rattle.fancy_regex_meta.specs.declared.found.MatchDetail.TheVariants.{Span}
use Rattle.fancy_regex_meta.specs.Strategies.{search_of, run_options_of, IsCompiled}
use Rattle.fancy_regex_meta.specs.SearchLimits.{IsSearchError, IsStrategyError, MachineStaysInLimits, run_choices}
use Rattle.fancy_regex_meta.specs.declared.strategy.Strategy.TheVariants.{Program}
use Rattle.fancy_regex_meta.specs.declared.options.RegexOptions.{RegexOptions}
use Rattle.fancy_regex_meta.proofs.SeekLemmas.{CanSeek, found-same, choices-fewer}

-- where group 0 is the whole match, both give the same offsets
slots-same : (t : Tree) (m : Match) → match_places true m ≡ match_slots (pattern_of t) m
slots-same t m = refl

map-same : (t : Tree) (o : Option Match) → option_map (match_places true) o ≡ option_map (match_slots (pattern_of t)) o
map-same t None = refl
map-same t (Some m) = ap Some (slots-same t m)

-- a program finds the match of the search
pub program-answers : (o : RegexOptions) (t : Tree) (text : List ℕ) (input : RunInput) (seek : Option (List Bool)) → CanSeek o t text input seek → (unicode longest whole : Bool) →
    unicode ≡ o.unicode_mode → longest ≡ o.leftmost_longest → whole ≡ true → (slots : Option (List ℕ)) →
    slots ≡ option_map (match_places whole) (found_match (run_parameters_for unicode longest text input (run_options_of o seek)) (pattern_of t) false) →
    slots ≡ option_map (match_slots (pattern_of t)) (first_match (setting_for o.unicode_mode text input) (pattern_of t) (search_of o input))
program-answers o t text input seek can unicode longest whole u l w slots e =
    (rw (u, l, w) at e) ∙ ap (option_map (match_places true)) (found-same o t text input seek can) ∙ map-same t _

-- the same of a run for spans
pub program-spans : (o : RegexOptions) (t : Tree) (text : List ℕ) (input : RunInput) (seek : Option (List Bool)) → CanSeek o t text input seek → (unicode longest : Bool) →
    unicode ≡ o.unicode_mode → longest ≡ o.leftmost_longest → (span : Option (ℕ × ℕ)) →
    span ≡ option_map (λ (m : Match). (m.start, m.end)) (found_match (run_parameters_for unicode longest text input (run_options_of o seek)) (pattern_of t) false) →
    span ≡ option_map (λ (m : Match). (m.start, m.end)) (first_match (setting_for o.unicode_mode text input) (pattern_of t) (search_of o input))
program-spans o t text input seek can unicode longest u l span e = (rw (u, l) at e) ∙ ap (option_map (λ (m : Match). (m.start, m.end))) (found-same o t text input seek can)

-- the span of a match is all that is wanted of it
pub span-parts : (t : Tree) (o : Option Match) → option_map (λ (s : ℕ × ℕ). (s.0, (s.1, []))) (option_map (λ (m : Match). (m.start, m.end)) o) ≡ option_map (wanted_parts Span (pattern_of t)) o
span-parts t None = refl
span-parts t (Some m) = refl

-- an error of a run for spans is one of a run for groups
pub span-error : (r : RunParameters) (pattern : Pattern) (whole anchored : Bool) (e : RuntimeError) (limit : ℕ) →
    AnsweredSpan r pattern anchored (Err e) limit → Answered r pattern whole anchored (Err e) limit
span-error r pattern whole anchored BacktrackLimitExceeded limit h = h
span-error r pattern whole anchored StackOverflow limit h = h
span-error r pattern whole anchored Memory limit h = h

-- the requirements of a program's run hold
pub run-requirements : (prog : Prog) (t : Tree) (r : RunParameters) → IsCompiled prog t → IsUtf8 r.setting.text → length r.setting.text < unset →
    IsCharBoundary r.setting.text r.find.first → r.find.stop ≤ length r.setting.text → RunRequirements r (core_pattern_of (pattern_of t)) prog.whole prog.groups
run-requirements prog t r made utf8 small first stop =
    let pat = core_pattern_of (pattern_of t) in
    record {
      utf8 = utf8;
      small = small;
      first = first;
      stop = stop;
      groups = λ _. subst (λ (n : ℕ). 1 ≤ n) (sym made.program.groups) (omega arith);
      spans = λ _. made.whole;
      writable = subst (λ (w : Bool). IsWritable (first_group_number w) prog.groups pat) (sym made.whole)
          (subst (λ (n : ℕ). IsWritable 1 n pat) (sym made.program.groups) made.writable);
      placed = made.placed;
    }

past : (a b c : ℕ) → a < b → b ≤ c → a < c
past a b c h k = omega (arith, h, k)

above : (o : RegexOptions) (t : Tree) (text : List ℕ) (input : RunInput) (seek : Option (List Bool)) → CanSeek o t text input seek → (most : ℕ) (unicode longest : Bool) →
    unicode ≡ o.unicode_mode → longest ≡ o.leftmost_longest →
    most < found_choices (run_parameters_for unicode longest text input (run_options_of o seek)) (pattern_of t) false →
    most < run_choices o text input t
above o t text input seek can most unicode longest u l h = past most _ _ (rw (u, l) at h) (choices-fewer o t text input seek can)

-- a program's search meets a limit only where its choices are above it
pub program-limits : (o : RegexOptions) (t : Tree) (text : List ℕ) (input : RunInput) (seek : Option (List Bool)) → CanSeek o t text input seek →
    (unicode longest whole : Bool) (e : RuntimeError) → unicode ≡ o.unicode_mode → longest ≡ o.leftmost_longest →
    Answered (run_parameters_for unicode longest text input (run_options_of o seek)) (pattern_of t) whole false (Err e) o.backtrack_limit →
    IsSearchError false o.backtrack_limit (run_choices o text input t) (from_runtime_error e)
program-limits o t text input seek can unicode longest whole BacktrackLimitExceeded u l h = (refl, above o t text input seek can o.backtrack_limit unicode longest u l h)
program-limits o t text input seek can unicode longest whole StackOverflow u l h = (refl, above o t text input seek can 1000000 unicode longest u l h)
program-limits o t text input seek can unicode longest whole Memory u l h = tt

-- and one that the machine passes
pub program-passed : (prog : Prog) (run : RunOptions) (o : RegexOptions) (text : List ℕ) (input : RunInput) (e : RuntimeError) →
    MachinePassesLimit prog text input (run_options_of o run.seek) e → IsStrategyError (Program prog run) o text input (from_runtime_error e)
program-passed prog run o text input BacktrackLimitExceeded h = h
program-passed prog run o text input StackOverflow h = h
program-passed prog run o text input Memory h = tt

-- where a run answers, the machine stays within the limits
pub program-stays : (prog : Prog) (text : List ℕ) (input : RunInput) (options : RunOptions) (count : ℕ) (found : Option (Vec ℕ Global)) →
    ((n : ℕ) (e : Ending) → machine_ending prog text input options n ≡ Some e → AgreesOnGroups count (Ok found) e options.backtrack_limit) →
    MachineStaysInLimits prog text input options
program-stays prog text input options count found tells n e is = let told = tells n e is in (told.1, told.2)

-- the same of a run for spans
pub span-stays : (prog : Prog) (text : List ℕ) (input : RunInput) (options : RunOptions) (found : Option (ℕ × ℕ)) →
    ((n : ℕ) (e : Ending) → machine_ending prog text input options n ≡ Some e → AgreesOnSpan (Ok found) e options.backtrack_limit) →
    MachineStaysInLimits prog text input options
span-stays prog text input options found tells n e is = let told = tells n e is in (told.1, told.2)
