-- The printed text of a tree, which is parsed as the normal form of the tree.
use Rattle.std.specs.Prelude.{ℕ, Bool, ◌&&◌, ◌==◌, nat_lt, [], ◌∷◌, ◌++◌, codes, decimal, if◌then◌else◌}
use Rattle.fancy_regex_text.specs.Text.{◌∈◌, unbounded}
use Rattle.fancy_regex_tree.specs.Tree.{Text, Tree, any, assertion, literal, concat, alt, group, repeat, delegate, Trees, no_trees, more_trees}
use Rattle.fancy_regex_tree.specs.declared.expr.Assertion.{Assertion}
use Rattle.fancy_regex_tree.specs.declared.expr.Assertion.TheVariants.{StartText, EndText, StartLine, EndLine, LeftWordBoundary, LeftWordHalfBoundary, RightWordBoundary}
use Rattle.fancy_regex_tree.specs.declared.expr.Assertion.TheVariants.{RightWordHalfBoundary, WordBoundary, NotWordBoundary}

-- a metacharacter, which a pattern must escape
abbrev pub is_metacharacter : ℕ → Bool
is_metacharacter c = c ∈ "\\.+*?()|[]{}^$#"

-- a character as a literal: metacharacters after a backslash; newline, carriage return and tab as `\n`, `\r`, `\t`
unfoldable pub escaped_char : ℕ → Text
escaped_char c =
    if c ∈ "\n" then codes "\\n"
    else if c ∈ "\r" then codes "\\r"
    else if c ∈ "\t" then codes "\\t"
    else if is_metacharacter c then 0x5C ∷ c ∷ []
    else c ∷ []

unfoldable pub escaped : Text → Text
escaped [] = []
escaped (c ∷ t) = escaped_char c ++ escaped t

-- what opens a group that captures nothing, and what closes a group, where one is needed
unfoldable pub group_start : Bool → Text
group_start needed = if needed then codes "(?:" else []

unfoldable pub group_end : Bool → Text
group_end needed = if needed then codes ")" else []

-- in a non-capturing group, where one is needed
unfoldable pub in_group : Bool → Text → Text
in_group needed t = group_start needed ++ t ++ group_end needed

-- what opens a group that disregards case, where one is needed
unfoldable pub case_start : Bool → Text
case_start casei = if casei then codes "(?i:" else []

-- with the flag that disregards case, where it does
unfoldable pub with_case : Bool → Text → Text
with_case casei t = case_start casei ++ t ++ group_end casei

-- a dot, with the flags for a newline and for carriage returns
unfoldable pub dot_text : Bool → Bool → Text
dot_text newline crlf =
    if newline then codes "(?s:.)"
    else if crlf then codes "(?R-s:.)"
    else codes "."

unfoldable pub start_line_text : Bool → Text
start_line_text crlf = if crlf then codes "(?Rm:^)" else codes "(?m:^)"

unfoldable pub end_line_text : Bool → Text
end_line_text crlf = if crlf then codes "(?Rm:$)" else codes "(?m:$)"

-- nothing for an assertion that is not printable
unfoldable pub assertion_text : Assertion → Text
assertion_text StartText = codes "^"
assertion_text EndText = codes "$"
assertion_text (StartLine crlf) = start_line_text crlf
assertion_text (EndLine crlf) = end_line_text crlf
assertion_text LeftWordBoundary = codes "\\<"
assertion_text RightWordBoundary = codes "\\>"
assertion_text LeftWordHalfBoundary = codes "\\b{start-half}"
assertion_text RightWordHalfBoundary = codes "\\b{end-half}"
assertion_text WordBoundary = codes "\\b"
assertion_text NotWordBoundary = codes "\\B"
assertion_text _ = []

-- bounds in braces: the first of `{n}`, `{n,}`, `{n,m}` that means them
unfoldable pub braces_text : ℕ → ℕ → Text
braces_text lo hi =
    if lo == hi then codes "{" ++ decimal lo ++ codes "}"
    else if hi == unbounded then codes "{" ++ decimal lo ++ codes ",}"
    else codes "{" ++ decimal lo ++ codes "," ++ decimal hi ++ codes "}"

-- the first of `?`, `*`, `+` and bounds in braces that means these bounds
unfoldable pub bounds_text : ℕ → ℕ → Text
bounds_text lo hi =
    if lo == 0 && hi == 1 then codes "?"
    else if lo == 0 && hi == unbounded then codes "*"
    else if lo == 1 && hi == unbounded then codes "+"
    else braces_text lo hi

-- a quantifier, with the mark of a lazy one
unfoldable pub quantifier_text : ℕ → ℕ → Bool → Text
quantifier_text lo hi greedy = if greedy then bounds_text lo hi else bounds_text lo hi ++ codes "?"

-- `|`, where there is a branch before
unfoldable pub bar : Bool → Text
bar needed = if needed then codes "|" else []

-- The text of a tree at a precedence: 0 for a whole pattern, 1 for a branch, 2 for a piece, 3 before a quantifier. What is said of it
-- holds for printable trees alone.
unfoldable mutual
  pub printed : ℕ → Tree → Text
  printed precedence (any newline crlf) = dot_text newline crlf
  printed precedence (assertion a) = assertion_text a
  printed precedence (literal val casei) = with_case casei (escaped val)
  printed precedence (delegate inner casei) = with_case casei inner
  printed precedence (concat ts) = in_group (nat_lt 1 precedence) (printed_pieces ts)
  printed precedence (alt ts) = in_group (nat_lt 0 precedence) (printed_branches ts)
  printed precedence (group t) = codes "(" ++ printed 0 t ++ codes ")"
  printed precedence (repeat t lo hi greedy) = in_group (nat_lt 2 precedence) (printed 3 t ++ quantifier_text lo hi greedy)
  printed precedence _ = []

  -- the texts of a concatenation
  pub printed_pieces : Trees → Text
  printed_pieces no_trees = []
  printed_pieces (more_trees t ts) = printed 2 t ++ printed_pieces ts

  -- the branches of an alternation with `|` between them
  pub printed_branches : Trees → Text
  printed_branches no_trees = []
  printed_branches (more_trees t ts) = printed 1 t ++ later_branches ts

  -- branches, each after a `|`
  pub later_branches : Trees → Text
  later_branches no_trees = []
  later_branches (more_trees t ts) = codes "|" ++ printed 1 t ++ later_branches ts
