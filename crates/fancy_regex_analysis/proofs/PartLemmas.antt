-- Parts of fixed length, and tests that hold of emitted parts.
use Rattle.std.proofs.Common.{◌≡◌, Bool, true, false, ◌&&◌, Option, Some, None, is_some, refl, sym, ◌∙◌}
use Rattle.fancy_regex_tree.specs.Tree.{Tree, Trees, no_trees, more_trees}
use Rattle.fancy_regex_meaning.specs.Sizes.{Size}
use Rattle.fancy_regex_analysis.specs.UnsupportedParts.{unsupported_feature_in, is_fixed_length, are_fixed_length, is_variable_look_behind, is_unsupported, is_not_const, is_unsupported_error, stops}
use Rattle.fancy_regex_analysis.specs.EmittedParts.{some_emitted, emitted_parts}
use Rattle.fancy_regex_info.specs.declared.error.CompileError.{CompileError}
use Rattle.fancy_regex_info.specs.declared.error.CompileError.TheVariants.{FeatureNotYetSupported}
use Rattle.fancy_regex_analysis.specs.declared.unsupported.UnsupportedFeature.{UnsupportedFeature}
use Rattle.fancy_regex_analysis.specs.declared.emitted.Inside.{Inside}
use Rattle.fancy_regex_analysis.proofs.AnyLemmas.{any_has, any_finds}
use Rattle.fancy_regex_analysis.proofs.PartErrorLemmas.{or_keeps}
use Rattle.fancy_regex_analysis.proofs.PartListLemmas.{some_of_parts, passes}

-- branches that are all as long
module _ (S : Tree → Size) where
  pub all_steady : are_fixed_length S no_trees ≡ true
  unfolding is_fixed_length are_fixed_length
  all_steady = refl

  pub more_steady : (t : Tree) (ts : Trees) → are_fixed_length S (more_trees t ts) ≡ (is_fixed_length S t && are_fixed_length S ts)
  unfolding is_fixed_length are_fixed_length
  more_steady t ts = refl

and_left : (a b : Bool) → (a && b) ≡ true → a ≡ true
and_left true b h = refl
and_left false b h = cc

-- a test that holds wherever another does
pub some_written_keeps : (f g : Inside → Tree → Bool) → ((i : Inside) (t : Tree) → f i t ≡ true → g i t ≡ true) → (i : Inside) (t : Tree) →
    some_emitted f i t ≡ true → some_emitted g i t ≡ true
some_written_keeps f g keeps i t h =
    let parts = emitted_parts i t in
    let found = any_finds (passes f) parts (sym (some_of_parts f i t) ∙ h) in
    some_of_parts g i t ∙ any_has (passes g) parts found.0 found.2 (keeps found.0.0 found.0.1 found.1)

told_missing : (e : CompileError) (m : Option UnsupportedFeature) → is_unsupported_error e m ≡ true → is_some m ≡ true
told_missing (FeatureNotYetSupported text) (Some m) h = refl
told_missing (FeatureNotYetSupported text) None h = cc
told_missing e (Some m) h = refl
told_missing e None h = cc

-- a node that shows a cause is none that a program is made of
pub stops_stopped : (S : Tree → Size) (e : CompileError) (i : Inside) (t : Tree) → stops S e i t ≡ true → is_unsupported S i t ≡ true
stops_stopped S e i t =
    or_keeps (is_unsupported_error e (unsupported_feature_in i t)) (is_variable_look_behind S t && is_not_const e) (is_some (unsupported_feature_in i t)) (is_variable_look_behind S t)
    (told_missing e (unsupported_feature_in i t)) (and_left (is_variable_look_behind S t) (is_not_const e))
