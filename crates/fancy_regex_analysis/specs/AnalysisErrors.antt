-- The errors that apply to a tree.
use Rattle.std.specs.Prelude.{◌≡◌, ◌<◌, ◌⊎◌, Bool, true, false, ◌&&◌, ◌||◌, ◌==◌, nat_lt, length}
use Rattle.fancy_regex_tree.specs.Tree.{Tree}
use Rattle.fancy_regex_meaning.specs.Groups.{Pattern}
use Rattle.fancy_regex_meaning.specs.Sizes.{size, tree_weight}
use Rattle.fancy_regex_analysis.specs.TerminationFixpoint.{never_ends}
use Rattle.fancy_regex_info.specs.Infos.{NodeProperties}
use Rattle.fancy_regex_analysis.specs.NodeErrors.{some_node, is_invalid_node, shows}
use Rattle.fancy_regex_analysis.specs.UnsupportedParts.{is_unsupported, stops}
use Rattle.fancy_regex_analysis.specs.LeftRecursion.{IsLeftRecursive}
use Rattle.fancy_regex_info.specs.Views.{pattern_in}
use Rattle.fancy_regex_analysis.specs.EmittedParts.{SomeEmittedPart}
use Rattle.fancy_regex_info.specs.declared.options.AnalyzeContext.{AnalyzeContext}
use Rattle.fancy_regex_info.specs.declared.error.CompileError.{CompileError}
use Rattle.fancy_regex_info.specs.declared.error.CompileError.TheVariants.{NamedBackrefOnly, LeftRecursiveSubroutineCall, NeverEndingRecursion, PatternTooComplex, PatternCanNeverMatch}

-- errors of the root: too great a weight, and only empty matches
abbrev pub is_too_heavy : NodeProperties → Bool
is_too_heavy f = nat_lt 4294967293 f.weight

abbrev pub is_always_empty : NodeProperties → Bool
is_always_empty f = f.size.always && f.size.least == 0

abbrev pub is_too_complex : CompileError → Bool
is_too_complex PatternTooComplex = true
is_too_complex _ = false

abbrev pub is_never_matching : CompileError → Bool
is_never_matching PatternCanNeverMatch = true
is_never_matching _ = false

-- where empty matches are not wanted, or are
abbrev pub is_root_refused : Bool → NodeProperties → Bool
is_root_refused not_empty f = is_too_heavy f || (not_empty && is_always_empty f)

abbrev pub is_root_error : Bool → NodeProperties → CompileError → Bool
is_root_error not_empty f e = (is_too_heavy f && is_too_complex e) || ((not_empty && is_always_empty f) && is_never_matching e)

-- The error applies to the tree. `is_marked` says that unnamed groups do not capture, names exist, and a reference other than a
-- call of the whole pattern goes by number.
module _ (context : AnalyzeContext) (is_marked : Bool) (t : Tree) where
  abbrev pub pattern : Pattern
  pattern = pattern_in context.explicit_capture_group_0 t

  -- it applies to some node by itself
  abbrev pub NodeHasError : CompileError → Type 0
  NodeHasError e = some_node (shows (length pattern.groups) e) t ≡ true

  -- it applies to the tree as a whole
  abbrev pub TreeHasError : CompileError → Type 0
  TreeHasError NamedBackrefOnly = is_marked ≡ true
  TreeHasError NeverEndingRecursion = never_ends pattern.groups t ≡ true
  TreeHasError PatternTooComplex = 4294967295 < tree_weight pattern.groups t
  TreeHasError PatternCanNeverMatch =
      (context.find_not_empty ≡ true) × ((size pattern.groups t).always ≡ true) × ((size pattern.groups t).least ≡ 0)
  TreeHasError (LeftRecursiveSubroutineCall k) = IsLeftRecursive pattern.groups k
  TreeHasError _ = ⊥

  -- it applies to some emitted part
  abbrev pub PartHasError : CompileError → Type 0
  PartHasError e = SomeEmittedPart pattern.groups t (stops (size pattern.groups) e)

  abbrev pub ErrorHolds : CompileError → Type 0
  ErrorHolds e = TreeHasError e ⊎ (NodeHasError e ⊎ PartHasError e)

-- What is refused whatever else is asked of the tree; its groups count from 0, or from 1.
module _ (explicit : Bool) (t : Tree) where
  -- a cause holds of some node alone
  abbrev pub has_invalid_node : Bool
  has_invalid_node = some_node (is_invalid_node (length (pattern_in explicit t).groups)) t

  -- a part is written out that no program is made of
  abbrev pub HasUnsupportedPart : Type 0
  HasUnsupportedPart = SomeEmittedPart (pattern_in explicit t).groups t (is_unsupported (size (pattern_in explicit t).groups))
