-- Which patterns are searched by states with parts.
use Rattle.std.specs.Prelude.{◌≡◌, ◌≤◌, ◌⊎◌}
use Rattle.fancy_regex_meaning.specs.Groups.{Pattern}
use Rattle.fancy_regex_info.specs.declared.error.CompileError.{CompileError}
use Rattle.fancy_regex_info.specs.declared.error.CompileError.TheVariants.{Memory}
use Rattle.fancy_regex_linear.specs.Plain.{IsRegular}
use Rattle.fancy_regex_linear.specs.Calls.{has_own_span, IsWrittenOut, written_weight}

-- Exactly these patterns are searched by states with parts: those whose tree, with its calls written out, is regular and weighs at most so much.
pub record IsSupported (pattern : Pattern) : Type 0 where
  pub regular : IsWrittenOut pattern.groups (has_own_span pattern) pattern.tree
  pub light : written_weight pattern.groups pattern.tree ≤ 4000

-- An error comes only where the pattern is supported; or it is want of memory, and the tree is not regular by itself, so that this is not known yet.
abbrev pub IsSupportedOrShort : Pattern → CompileError → Type 0
IsSupportedOrShort pattern error = IsSupported pattern ⊎ ((error ≡ Memory) × (IsRegular (has_own_span pattern) (λ j. ⊥) pattern.tree → ⊥))
