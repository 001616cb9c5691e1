-- The tree of a text in which no character has a meaning of its own.
use Rattle.std.specs.Prelude.{Bool, false, List, [], ◌∷◌}
use Rattle.fancy_regex_tree.specs.Tree.{Text, Tree, literal}
use Rattle.fancy_regex_tree.specs.TreeBuilders.{branch_of}

-- each character as a literal
abbrev pub literals : Bool → Text → List Tree
literals casei [] = []
literals casei (c ∷ t) = literal (c ∷ []) casei ∷ literals casei t

-- the characters one after another
abbrev pub plain_tree : Text → Tree
plain_tree t = branch_of (literals false t)
