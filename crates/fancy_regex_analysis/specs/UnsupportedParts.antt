-- Unsupported features, and look-behind of variable length.
use Rattle.std.specs.Prelude.{ℕ, Bool, true, false, not, ◌&&◌, ◌||◌, List, bytes_eq, codes, string_bytes, Option, Some, None, is_some}
use Rattle.fancy_regex_tree.specs.Tree.{Tree, Trees, literal_bytes, alt, look_around, backref_with_level, keep_out, backref_exists, verb}
use Rattle.fancy_regex_tree.specs.Tree.{absent_repeater, absent_expression, absent_stopper, absent_clear, no_trees, more_trees}
use Rattle.fancy_regex_tree.specs.declared.expr.LookAround.TheVariants.{LookBehind, LookBehindNeg}
use Rattle.fancy_regex_tree.specs.declared.expr.BacktrackingControlVerb.TheVariants.{Fail}
use Rattle.fancy_regex_meaning.specs.Sizes.{Size}
use Rattle.fancy_regex_info.specs.declared.error.CompileError.{CompileError}
use Rattle.fancy_regex_info.specs.declared.error.CompileError.TheVariants.{LookBehindNotConst, FeatureNotYetSupported}
use Rattle.fancy_regex_analysis.specs.declared.emitted.Inside.{Inside}
use Rattle.fancy_regex_analysis.specs.declared.emitted.Inside.TheVariants.{Nothing, Absent}
use Rattle.fancy_regex_analysis.specs.declared.unsupported.UnsupportedFeature.{UnsupportedFeature}
use Rattle.fancy_regex_analysis.specs.declared.unsupported.UnsupportedFeature.TheVariants.{RawBytes, ControlVerb, AbsentOperator, RecursionLevel, KeepOut}

abbrev pub words : UnsupportedFeature → List ℕ
words RawBytes = codes "raw bytes"
words ControlVerb = codes "control verb"
words AbsentOperator = codes "absent operator"
words RecursionLevel = codes "recursion level"
words KeepOut = codes "keep out"

-- the unsupported feature of the node in this context, if it has one
abbrev pub unsupported_feature_in : Inside → Tree → Option UnsupportedFeature
unsupported_feature_in i (literal_bytes bytes) = Some RawBytes
unsupported_feature_in i (verb Fail) = None
unsupported_feature_in i (verb v) = Some ControlVerb
unsupported_feature_in i (backref_with_level k level casei) = Some RecursionLevel
unsupported_feature_in i (backref_exists k (Some level)) = Some RecursionLevel
unsupported_feature_in Absent (absent_repeater t) = Some AbsentOperator
unsupported_feature_in i (absent_expression a t) = Some AbsentOperator
unsupported_feature_in i (absent_stopper t) = Some AbsentOperator
unsupported_feature_in i absent_clear = Some AbsentOperator
unsupported_feature_in Nothing keep_out = None
unsupported_feature_in i keep_out = Some KeepOut
unsupported_feature_in i t = None

-- where the sizes of trees are given
module _ (size_at : Tree → Size) where
  -- all matches have the same length, or the node is an alternation whose branches each have this property
  unfoldable mutual
    pub is_fixed_length : Tree → Bool
    is_fixed_length (alt ts) = (size_at (alt ts)).always || are_fixed_length ts
    is_fixed_length t = (size_at t).always

    pub are_fixed_length : Trees → Bool
    are_fixed_length no_trees = true
    are_fixed_length (more_trees t ts) = is_fixed_length t && are_fixed_length ts

  -- a look-behind whose body has no fixed length
  abbrev pub is_variable_look_behind : Tree → Bool
  is_variable_look_behind (look_around t LookBehind) = not (is_fixed_length t)
  is_variable_look_behind (look_around t LookBehindNeg) = not (is_fixed_length t)
  is_variable_look_behind t = false

  -- no program is made of the node, apart from what is below it
  abbrev pub is_unsupported : Inside → Tree → Bool
  is_unsupported i t = is_some (unsupported_feature_in i t) || is_variable_look_behind t

abbrev pub is_not_const : CompileError → Bool
is_not_const LookBehindNotConst = true
is_not_const _ = false

-- the cause with the words of what is missing
abbrev pub is_unsupported_error : CompileError → Option UnsupportedFeature → Bool
is_unsupported_error (FeatureNotYetSupported text) (Some m) = bytes_eq (string_bytes text) (words m)
is_unsupported_error _ _ = false

-- the node shows the cause
abbrev pub stops : (Tree → Size) → CompileError → Inside → Tree → Bool
stops size_at e i t = is_unsupported_error e (unsupported_feature_in i t) || (is_variable_look_behind size_at t && is_not_const e)
