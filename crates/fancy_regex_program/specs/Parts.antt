-- What the compiler says of the parts that it delegates.
use Rattle.std.specs.Prelude.{◌≡◌, Bool, true, false, All, Option, Some, None, string_bytes}
use Rattle.fancy_regex_tree.specs.Tree.{Tree, tree_of}
use Rattle.fancy_regex_desugar.specs.Delegates.{searched, is_delegated}
use Rattle.fancy_regex_info.specs.declared.error.CompileError.{CompileError}
use Rattle.fancy_regex_info.specs.declared.error.CompileError.TheVariants.{InnerError, Memory}
use Rattle.fancy_regex_linear.specs.Plain.{classes}
use Rattle.fancy_regex_linear.specs.Refusals.{IsRead, ShowsClass}
use Rattle.fancy_regex_program.specs.declared.delegate.Delegate.{Delegate}

-- The part is this tree, which is delegated, and the grammar of `regex` reads each class in what is searched for it. With `for_any` it only
-- matters that there is a match.
pub record IsDelegateOf (unicode for_any : Bool) (t : Tree) (d : Delegate) : Type 0 where
  pub part : tree_of d.part ≡ t
  pub for_any_is : d.for_any ≡ for_any
  pub unicode_is : d.easy.unicode ≡ unicode
  pub delegated : is_delegated for_any t ≡ true
  pub read : All (IsRead unicode) (classes (searched for_any t))

-- a part where the tree is delegated, and none where it is not
abbrev pub IsDelegateIfAny : Bool → Bool → Tree → Option Delegate → Type 0
IsDelegateIfAny unicode for_any t None = is_delegated for_any t ≡ false
IsDelegateIfAny unicode for_any t (Some d) = IsDelegateOf unicode for_any t d

-- why there is no part of a tree that is delegated
abbrev pub IsPartCause : Bool → Bool → Tree → CompileError → Type 0
IsPartCause unicode for_any t (InnerError shown) = (is_delegated for_any t ≡ true) × ShowsClass unicode (classes (searched for_any t)) (string_bytes shown)
IsPartCause unicode for_any t Memory = Unit {0}
IsPartCause unicode for_any t _ = ⊥
