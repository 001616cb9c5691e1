-- Kinds of concatenations.
use Rattle.fancy_regex_tree.specs.declared.normal_form_kind.NormalFormKind.{NormalFormKind}
use Rattle.fancy_regex_tree.specs.declared.normal_form_kind.NormalFormKind.TheVariants.{Empty, Anchor, Repeatable}

-- the kind of a concatenation of a node of the first kind and a node of the second
unfoldable pub followed_by : NormalFormKind → NormalFormKind → NormalFormKind
followed_by Empty next = next
followed_by Anchor Empty = Anchor
followed_by Anchor Anchor = Repeatable
followed_by Anchor Repeatable = Repeatable
followed_by Repeatable next = Repeatable
