-- Why a text cannot be compiled.
use Rattle.std.specs.Prelude.{◌≡◌, ◌≢◌, ℕ, ◌+◌, ◌*◌, Bool, true, false, List, Ok, Err}
use Rattle.fancy_regex_text.specs.ParseFault.{kind_of}
use Rattle.fancy_regex_tree.specs.Tree.{Tree}
use Rattle.fancy_regex_tree.specs.Parse.{Parsed}
use Rattle.fancy_regex_tree.specs.ReferenceSummary.{named_backref_only, contains_subroutines}
use Rattle.fancy_regex_meaning.specs.Choices.{program_nodes}
use Rattle.fancy_regex_meaning.specs.Groups.{pattern_of}
use Rattle.fancy_regex_analysis.specs.AnalysisErrors.{ErrorHolds, is_too_complex}
use Rattle.fancy_regex_analysis.specs.NodeErrors.{has_reversed_repeat}
use Rattle.fancy_regex_info.specs.declared.error.CompileError.{CompileError}
use Rattle.fancy_regex_info.specs.declared.error.CompileError.TheVariants as of_building
use Rattle.fancy_regex_info.specs.declared.options.AnalyzeContext.{AnalyzeContext}
use Rattle.fancy_regex_info.specs.declared.options.BytesMode.TheVariants.{Unicode}
use Rattle.fancy_regex_info.specs.declared.options.CompileOptions.{CompileOptions}
use Rattle.fancy_regex_program.specs.Caps.{IsPastCap}
use Rattle.fancy_regex_compiler.specs.Refusals.{IsRefusal, ReadsClasses}
use Rattle.fancy_regex_linear.specs.Refusals.{IsTaken, IsCause}
use Rattle.fancy_regex_meta.specs.Patterns.{read_as}
use Rattle.fancy_regex_meta.specs.EasyPatterns.{uses_easy}
use Rattle.fancy_regex_meta.specs.declared.options.RegexOptions.{RegexOptions}
use Rattle.fancy_regex_meta.specs.declared.error.Error.{Error}
use Rattle.fancy_regex_meta.specs.declared.error.Error.TheVariants as told

-- the options of the analysis
abbrev pub context_of : RegexOptions → AnalyzeContext
context_of o = record { explicit_capture_group_0 = false; find_not_empty = o.find_not_empty }

-- the options of the compiler; the flag says whether the tree has subroutine calls
abbrev pub compile_options_of : RegexOptions → Bool → CompileOptions
compile_options_of o calls = record {
  anchored = false;
  contains_subroutines = calls;
  bytes_mode = o.bytes_mode;
  unicode = o.unicode_mode;
  max_prog_size = o.max_prog_size;
  leftmost_longest = o.leftmost_longest;
}

-- why the compiler refuses a tree that the analysis accepts
abbrev pub IsCompileRefusal : CompileOptions → Tree → CompileError → Type 0
IsCompileRefusal options t cause = IsRefusal options.bytes_mode options.unicode (pattern_of t).groups t cause

-- For a tree, its mark for references by number where only named groups capture, and whether it has subroutine calls.
module _ (o : RegexOptions) (marked calls : Bool) (t : Tree) where
  -- none of the analysis's reasons to refuse the tree holds
  abbrev pub HasNoCause : Type 0
  HasNoCause = (cause : CompileError) → ErrorHolds (context_of o) marked t cause → ⊥

  -- A program is too long only where a cap is set, and it is below sixteen instructions for each node of the tree, a call
  -- counting as its target's body, and sixteen more.
  abbrev pub IsTooLong : CompileError → Type 0
  IsTooLong cause = is_too_complex cause ≡ true → IsPastCap o.max_prog_size (16 * (program_nodes (pattern_of t) + 1))

  -- where some repeat's least count is above its greatest, that is the reason
  abbrev pub IsFirst : CompileError → Type 0
  IsFirst cause = has_reversed_repeat t ≡ true → cause ≡ of_building.RepeatBoundsReversed

  -- The reason is one of the analysis, reversed bounds before all others; or the analysis has none, and it is one of the
  -- linear-time matcher's construction or of the compiler.
  pub data IsRefused (cause : CompileError) : Type 0 where
    by_analysis : ErrorHolds (context_of o) marked t cause → IsFirst cause → IsRefused cause
    by_linear : uses_easy o t ≡ true → HasNoCause → IsCause (compile_options_of o calls) (pattern_of t) cause → IsRefused cause
    by_compiler : uses_easy o t ≡ false → HasNoCause → IsTooLong cause → IsCompileRefusal (compile_options_of o calls) t cause → IsRefused cause

  -- An error for a parsed tree. Want of memory is `Memory`, and no reason.
  abbrev pub RefusesTree : Error → Type 0
  RefusesTree (told.CompileError cause) = IsRefused cause × (cause ≢ of_building.Memory)
  RefusesTree told.Memory = Unit {0}
  RefusesTree _ = ⊥

  -- An accepted tree has no such reason, and the bytes mode is Unicode. If the linear-time matcher executes it, its
  -- construction succeeds; otherwise the grammar of `regex` accepts each character class of the program.
  pub record IsAccepted : Type 0 where
    pub no_cause : HasNoCause
    pub bytes_mode : o.bytes_mode ≡ Unicode
    pub taken : uses_easy o t ≡ true → IsTaken (compile_options_of o calls) (pattern_of t)
    pub readable : uses_easy o t ≡ false → ReadsClasses o.unicode_mode (pattern_of t).groups t

-- An error for a text: the first parse error with its byte offset, if it is no pattern; a reason that holds, if the pattern is
-- refused; or `Memory`, which alone is told of want of memory.
abbrev pub Refuses : RegexOptions → List ℕ → Error → Type 0
Refuses o text (told.ParseError position kind) = read_as o text ≡ Err (record { kind = kind_of kind; position = position })
Refuses o text (told.CompileError cause) =
    (found : Parsed) × (read_as o text ≡ Ok found) × IsRefused o (named_backref_only found) (contains_subroutines found) found.tree cause
    × (cause ≢ of_building.Memory)
Refuses o text (told.RuntimeError error) = ⊥
Refuses o text told.Memory = Unit {0}

-- The text is a pattern and is accepted.
abbrev pub Accepts : RegexOptions → List ℕ → Type 0
Accepts o text =
    (found : Parsed) × (read_as o text ≡ Ok found) × IsAccepted o (named_backref_only found) (contains_subroutines found) found.tree
