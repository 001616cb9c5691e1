-- Values of the code as values of the definitions.
use Rattle.fancy_regex_tree.specs.Tree.{tree_of}
use Rattle.fancy_regex_tree.specs.Quantifiers.{Atom}
use Rattle.fancy_regex_tree.specs.declared.quantifiers.Atom as declared

abbrev pub atom_of : declared.Atom → Atom
atom_of a = record { tree = tree_of a.tree; is_non_capturing_group = a.is_non_capturing_group }
