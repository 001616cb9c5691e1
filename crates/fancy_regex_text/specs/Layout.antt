-- What stands between tokens: comments, and under the flag x blanks and lines from `#` on.
use Rattle.std.specs.Prelude.{ℕ, Bool, [], ◌∷◌, Option, Some, None, is_some, option_map, Ok, if◌then◌else◌, codes}
use Rattle.fancy_regex_text.specs.Text.{Text, ◌∈◌, strip_prefix}
use Rattle.fancy_regex_text.specs.ParseFault.{ParseOutcome, fail_at, unclosed_open_paren}

-- the state of the scanner of layout at a position
pub data LayoutState : Type 0 where
  -- between tokens
  nothing : LayoutState
  -- in a comment after `#`, which ends with the next newline
  line : LayoutState
  -- in a comment `(?#..)`
  comment : LayoutState
  -- in a comment `(?#..)`, directly after a backslash
  comment_escape : LayoutState

-- the state after a blank or a `#` between tokens, which are layout only under the flag x; None for any other character
unfoldable pub state_after_blank : ℕ → Option LayoutState
state_after_blank c = if c ∈ " \t\r\n" then Some nothing else if c ∈ "#" then Some line else None

unfoldable pub begins_comment : Text → Bool
begins_comment t = is_some (strip_prefix (codes "(?#") t)

-- the state after the first character c of t; None if that character is not layout
unfoldable pub state_after : Bool → LayoutState → ℕ → Text → Option LayoutState
state_after verbose nothing c t =
    if begins_comment t then Some comment else if verbose then state_after_blank c else None
state_after verbose line c t = if c ∈ "\n" then Some nothing else Some line
state_after verbose comment c t = if c ∈ ")" then Some nothing else if c ∈ "\\" then Some comment_escape else Some comment
state_after verbose comment_escape c t = Some comment

-- the text, if layout may end in this state; None inside a comment `(?#..)`
unfoldable pub ended : LayoutState → Text → Option Text
ended nothing t = Some t
ended line t = Some t
ended comment t = None
ended comment_escape t = None

-- the text after its leading layout, from this state on; None if the text ends inside a comment `(?#..)`
unfoldable pub skip_layout_from : Bool → LayoutState → Text → Option Text
skip_layout_from verbose inside [] = ended inside []
skip_layout_from verbose inside (c ∷ t) =
    elim (state_after verbose inside c (c ∷ t)) [ None ↦ Some (c ∷ t) | Some next ↦ skip_layout_from verbose next t ]

-- the text after its leading layout, from the first token on; None if the text ends inside a comment `(?#..)`
unfoldable pub next_token : Bool → Text → Option Text
next_token verbose t = skip_layout_from verbose nothing t

-- the text after its leading layout; a comment that is not closed is an error at the end of the text
unfoldable pub skip : Bool → Text → ParseOutcome Text
skip verbose t = elim (next_token verbose t) [ Some rest ↦ Ok rest | None ↦ fail_at unclosed_open_paren [] ]

-- one character of layout: the state after it, and the rest of the text
unfoldable pub layout_step : Bool → LayoutState → Text → Option (LayoutState × Text)
layout_step verbose inside [] = None
layout_step verbose inside (c ∷ t) = option_map (λ next. (next, t)) (state_after verbose inside c (c ∷ t))
