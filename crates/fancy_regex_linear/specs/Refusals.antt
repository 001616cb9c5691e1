-- Which patterns compile, and why others are refused.
use Rattle.std.specs.Prelude.{◌≡◌, ◌≢◌, ◌<◌, ◌≤◌, ℕ, Bool, List, All, IsTrue, chars, codes, string_bytes}
use Rattle.std.specs.List.{Contains}
use Rattle.fancy_regex_tree.specs.Tree.{Text}
use Rattle.fancy_regex_meaning.specs.Groups.{Pattern}
use Rattle.fancy_regex_meaning.specs.Sizes.{tree_weight}
use Rattle.fancy_regex_class.specs.Classes.{is_class, class_text}
use Rattle.fancy_regex_class.specs.Matchers.{RefusesText}
use Rattle.fancy_regex_info.specs.declared.options.BytesMode.TheVariants.{Unicode}
use Rattle.fancy_regex_info.specs.declared.options.CompileOptions.{CompileOptions}
use Rattle.fancy_regex_info.specs.declared.error.CompileError.{CompileError}
use Rattle.fancy_regex_info.specs.declared.error.CompileError.TheVariants.{InnerError, FeatureNotYetSupported, PatternTooComplex, Memory}
use Rattle.fancy_regex_linear.specs.Plain.{classes}

-- the greatest weight of a whole pattern
abbrev pub greatest_weight : ℕ
greatest_weight = 4294967295

-- The text is that of one of these classes, and `regex` refuses that class.
pub record ShowsClass (unicode : Bool) (cs : List (Text × Bool)) (shown : List ℕ) : Type 0 where
  pub class : Text × Bool
  pub is_there : Contains cs class
  pub is_shown : chars shown ≡ class.0
  pub refused : RefusesText (class_text unicode class.1 class.0)

-- why there is no matcher for each of these classes
abbrev pub IsClassCause : Bool → List (Text × Bool) → CompileError → Type 0
IsClassCause unicode cs (InnerError shown) = ShowsClass unicode cs (string_bytes shown)
IsClassCause unicode cs Memory = Unit {0}
IsClassCause unicode cs _ = ⊥

-- why an easy pattern is refused
abbrev pub IsCause : CompileOptions → Pattern → CompileError → Type 0
IsCause options pattern (InnerError shown) = ShowsClass options.unicode (classes pattern.tree) (string_bytes shown)
IsCause options pattern (FeatureNotYetSupported shown) = (string_bytes shown ≡ codes "bytes mode") × (options.bytes_mode ≢ Unicode)
IsCause options pattern PatternTooComplex = greatest_weight < tree_weight pattern.groups pattern.tree
IsCause options pattern Memory = Unit {0}
IsCause options pattern _ = ⊥

-- the grammar of `regex` reads the class
abbrev pub IsRead : Bool → Text × Bool → Type 0
IsRead unicode class = IsTrue (is_class unicode class.0 class.1)

-- The pattern has no cause for refusal, except that `regex` may refuse a class that it parses.
pub record IsTaken (options : CompileOptions) (pattern : Pattern) : Type 0 where
  pub bytes_mode : options.bytes_mode ≡ Unicode
  pub light : tree_weight pattern.groups pattern.tree ≤ greatest_weight
  pub read : All (IsRead options.unicode) (classes pattern.tree)
