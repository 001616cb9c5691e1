-- The normal form of a tree: what its printed text is parsed as.
use Rattle.std.specs.Prelude.{false, [], ◌∷◌, Option, Some, None, Ok, Err, unwrap_or, if◌then◌else◌}
use Rattle.fancy_regex_text.specs.Text.{Text, ◌∈◌}
use Rattle.fancy_regex_text.specs.ParseFault.{ParseOutcome}
use Rattle.fancy_regex_lex.specs.Escapes.{Escape, class_escape, escape}
use Rattle.fancy_regex_lex.specs.Classes.{bracketed_class}
use Rattle.fancy_regex_tree.specs.Tree.{Tree, empty, any, assertion, concat, alt, group, repeat, delegate, Trees, no_trees, more_trees}
use Rattle.fancy_regex_tree.specs.declared.normal_form_kind.NormalFormKind.{NormalFormKind}
use Rattle.fancy_regex_tree.specs.declared.normal_form_kind.NormalFormKind.TheVariants.{Empty, Anchor, Repeatable}

-- the parsed class, if nothing is left of the text
unfoldable pub whole_class : ParseOutcome (Text × Text) → Option Text
whole_class (Ok (class, [])) = Some class
whole_class (Ok (class, c ∷ rest)) = None
whole_class (Err e) = None

-- the class that an escape stands for, if nothing is left of the text
unfoldable pub whole_escape : ParseOutcome (Escape × Text) → Option Text
whole_escape (Ok (class_escape class, [])) = Some class
whole_escape _ = None

-- the class that a whole text is parsed as; None if it is not one class
unfoldable pub class_alone : Text → Option Text
class_alone [] = None
class_alone (c ∷ t) =
    if c ∈ "[" then whole_class (bracketed_class false (c ∷ t))
    else if c ∈ "\\" then whole_escape (escape false (c ∷ t))
    else None

-- the kind of a node, as far as concatenation and quantifiers need it
unfoldable pub node_kind : Tree → NormalFormKind
node_kind empty = Empty
node_kind (assertion a) = Anchor
node_kind _ = Repeatable

-- a piece in front of others; an empty node is left out
unfoldable pub with_piece : Tree → Trees → Trees
with_piece t ts = elim (node_kind t) [ Empty ↦ ts | Anchor ↦ more_trees t ts | Repeatable ↦ more_trees t ts ]

-- a concatenation: the empty node for no piece, the piece itself for one
unfoldable pub row_of : Trees → Tree
row_of no_trees = empty
row_of (more_trees t no_trees) = t
row_of (more_trees t (more_trees u ts)) = concat (more_trees t (more_trees u ts))

unfoldable mutual
  pub normal_form : Tree → Tree
  normal_form (any newline crlf) = any newline (if newline then false else crlf)
  normal_form (delegate inner casei) = delegate (unwrap_or (class_alone inner) inner) casei
  normal_form (concat ts) = row_of (normal_pieces ts)
  normal_form (alt ts) = alt (normal_branches ts)
  normal_form (group t) = group (normal_form t)
  normal_form (repeat t lo hi greedy) = repeat (normal_form t) lo hi greedy
  normal_form t = t

  pub normal_pieces : Trees → Trees
  normal_pieces no_trees = no_trees
  normal_pieces (more_trees t ts) = with_piece (normal_form t) (normal_pieces ts)

  pub normal_branches : Trees → Trees
  normal_branches no_trees = no_trees
  normal_branches (more_trees t ts) = more_trees (normal_form t) (normal_branches ts)
