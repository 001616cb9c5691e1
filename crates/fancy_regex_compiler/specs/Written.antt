-- The instructions of a whole pattern, by what the analysis says of it and of its groups.
use Rattle.std.specs.Prelude.{◌≡◌, ℕ, ◌+◌, ◌<◌, Bool, List, length, Option, None, ◌⊎◌}
use Rattle.fancy_regex_desugar.specs.ProgramSizes.{room}
use Rattle.fancy_regex_info.specs.Infos.{InfoTree}
use Rattle.fancy_regex_program.specs.Shapes.{IsAllowed, IsWritable}
use Rattle.fancy_regex_program.specs.declared.insn.Insn.{Insn}
use Rattle.fancy_regex_compiled.specs.Programs.{IsWhole, IsWritableIfAllowed}
use Rattle.fancy_regex_compiler.specs.Kept.{pattern_at, KeepsCallsOf}
use Rattle.fancy_regex_compiler.specs.Known.{pat_with}

-- The calls of the pattern stay calls, no cap is set, and with its calls written out it might have more than `most` instructions.
pub record IsLongKept (cap : Option ℕ) (most : ℕ) (unicode whole anchored : Bool) (infos : List InfoTree) (x : InfoTree) (insns : List Insn)
    (slots : ℕ) : Type 0 where
  pub kept : KeepsCallsOf unicode whole anchored infos x insns slots
  pub uncapped : cap ≡ None
  pub long : most < room (pat_with infos x) + 4

-- The calls of the pattern are written out, or they stay calls where no cap is set and it might have more instructions than that.
abbrev pub IsWritten : Option ℕ → ℕ → Bool → Bool → Bool → List InfoTree → InfoTree → List Insn → ℕ → Type 0
IsWritten cap most unicode whole anchored infos x insns slots =
    IsWhole unicode whole anchored (length infos) (pat_with infos x) insns slots
    ⊎ IsLongKept cap most unicode whole anchored infos x insns slots

-- The pattern can be written if the compiler lets it through, and so can the body of each group.
pub record AreWritableIfAllowed (unicode whole : Bool) (infos : List InfoTree) (x : InfoTree) : Type 0 where
  pub main : IsWritableIfAllowed unicode whole (length infos) (pat_with infos x)
  pub bodies : (k : ℕ) (keeps : Bool) → k < length infos → IsAllowed unicode keeps (pattern_at infos k) → IsWritable main.first (length infos) (pattern_at infos k)
