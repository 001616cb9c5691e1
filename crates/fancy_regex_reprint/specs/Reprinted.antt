-- The printed text of a tree that reprints.
use Rattle.std.specs.Prelude.{Bool, true, Option, Some, None, String, chars, string_bytes, if◌then◌else◌}
use Rattle.std.specs.Global.{Global}
use Rattle.fancy_regex_text.specs.Text.{Text}
use Rattle.fancy_regex_tree.specs.Tree.{Tree, delegate}
use Rattle.fancy_regex_tree.specs.NormalForm.{class_alone}
use Rattle.fancy_regex_tree.specs.Printable.{is_same_class, reprints}
use Rattle.fancy_regex_tree.specs.Printed.{printed}

-- the characters of a string
abbrev pub text_in : String Global → Text
text_in s = chars (string_bytes s)

-- the node is no class, or the text of its class is parsed as itself
unfoldable pub class_reads_back : Tree → Bool
class_reads_back (delegate inner casei) = is_same_class inner (class_alone inner)
class_reads_back _ = true

-- the printed text of a tree; None where the tree does not reprint
abbrev pub reprinted : Tree → Option Text
reprinted t = if reprints t then Some (printed 0 t) else None
