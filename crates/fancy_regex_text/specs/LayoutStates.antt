-- The states of the layout scanner of the code as those of the definitions.
use Rattle.fancy_regex_text.specs.Layout.{nothing, line, comment, comment_escape}
use Rattle.fancy_regex_text.specs.Layout as layout
use Rattle.fancy_regex_text.specs.declared.layout.LayoutState.{LayoutState}
use Rattle.fancy_regex_text.specs.declared.layout.LayoutState.TheVariants.{Nothing, Line, Comment, CommentEscape}

abbrev pub layout_state_of : LayoutState → layout.LayoutState
layout_state_of Nothing = nothing
layout_state_of Line = line
layout_state_of Comment = comment
layout_state_of CommentEscape = comment_escape
