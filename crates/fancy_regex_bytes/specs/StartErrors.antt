-- The errors of a computation of start bytes.
use Rattle.std.specs.Prelude.{◌≡◌, ⊤, ◌⊎◌, ℕ, Bool, List, [], ◌∷◌, chars, string_bytes}
use Rattle.fancy_regex_tree.specs.Tree.{Tree, Trees, delegate}
use Rattle.fancy_regex_tree.specs.Traversal.{nodes, all_nodes}
use Rattle.fancy_regex_class.specs.Classes.{class_text}
use Rattle.fancy_regex_class.specs.Matchers.{RefusesText}
use Rattle.fancy_regex_class.specs.declared.class.ClassError.{ClassError}
use Rattle.fancy_regex_class.specs.declared.class.ClassError.TheVariants.{InnerError, Memory}

-- one of the list
abbrev pub SomeOf : {A : Type 0} → (A → Type 0) → List A → Type 0
SomeOf P [] = ⊥
SomeOf P (x ∷ xs) = P x ⊎ SomeOf P xs

-- the node is a class with this text, which `regex` refuses
abbrev pub IsRefusedClass : Bool → List ℕ → Tree → Type 0
IsRefusedClass unicode shown (delegate class casei) = (chars shown ≡ class) × RefusesText (class_text unicode casei class)
IsRefusedClass unicode shown _ = ⊥

-- want of memory, or the text of a class of the tree that `regex` refuses
abbrev pub IsStartError : Bool → Tree → ClassError → Type 0
IsStartError unicode t (InnerError shown) = SomeOf (IsRefusedClass unicode (string_bytes shown)) (nodes t)
IsStartError unicode t Memory = ⊤

-- the same of a row of trees
abbrev pub AreStartErrors : Bool → Trees → ClassError → Type 0
AreStartErrors unicode ts (InnerError shown) = SomeOf (IsRefusedClass unicode (string_bytes shown)) (all_nodes ts)
AreStartErrors unicode ts Memory = ⊤
