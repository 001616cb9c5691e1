-- The parser as functions: groups, pieces, branches, and whole patterns before their references are resolved.
use Rattle.std.specs.Prelude.{ℕ, zero, suc, ◌+◌, Bool, true, false, List, [], ◌∷◌, length, Option, Some, None, is_some, Ok, if◌then◌else◌, codes}
use Rattle.fancy_regex_text.specs.Text.{Text, ◌∈◌, is_empty, strip_prefix, bytes}
use Rattle.fancy_regex_text.specs.ParseFault.{ParseOutcome, ◌>>=◌, fail_at, general_parse_error, unclosed_open_paren, recursion_exceeded, target_not_repeatable}
use Rattle.fancy_regex_text.specs.Layout.{skip}
use Rattle.fancy_regex_lex.specs.Escapes.{escape}
use Rattle.fancy_regex_lex.specs.Classes.{bracketed_class}
use Rattle.fancy_regex_lex.specs.Quantifiers.{leading_quantifier, most_quantifiers}
use Rattle.fancy_regex_lex.specs.Openings.{Opening, capturing, non_capturing, set_flags, atomic, look, if_set, if_matches, define, absent, absent_bar, whole_reference, whole_call, whole_verb, opening}
use Rattle.fancy_regex_lex.specs.declared.token.Flags.{Flags}
use Rattle.fancy_regex_tree.specs.declared.parser_config.ParserConfig.{ParserConfig}
use Rattle.fancy_regex_tree.specs.Tree.{Tree, empty, any, alt, delegate, look_around, atomic_group, conditional, verb, absent_repeater, absent_expression, absent_stopper, absent_clear}
use Rattle.fancy_regex_tree.specs.Tree.{define_group, ast_group, ast_backref, ast_call, ast_condition}
use Rattle.fancy_regex_tree.specs.TreeBuilders.{branch_of, all_branches, joined, pattern_of}
use Rattle.fancy_regex_tree.specs.Atoms.{place, target_named, look_of, verb_of, char_tree, escape_tree, line_start, line_end}
use Rattle.fancy_regex_tree.specs.Quantifiers.{Atom, parse_quantifiers}

-- branches, each a list of pieces
abbrev pub Branches : Type 0
Branches = List (List Tree)

-- A parser of branches up to their `)` or to the end of the text. Its arguments are whether it is inside a look-around, the flags in
-- force there, and the text; it answers the branches, the flags in force after them, and the rest of the text.
abbrev pub AlternationParser : Type 0
AlternationParser = Bool → Flags → Text → ParseOutcome (Branches × Flags × Text)

-- one branch without a piece
abbrev pub is_empty_body : Branches → Bool
is_empty_body ([] ∷ []) = true
is_empty_body _ = false

abbrev pub plain : Tree → Atom
plain e = record { tree = e; is_non_capturing_group = false }

-- the alternation of the branches after the first
abbrev pub others_of : Branches → Tree
others_of branches = joined alt (all_branches branches)

-- a conditional: the first branch is the true branch, the alternation of the others the false one
abbrev pub conditional_of_branches : Tree → Branches → Tree
conditional_of_branches c [] = conditional c empty empty
conditional_of_branches c (first ∷ others) = conditional c (branch_of first) (others_of others)

-- a conditional on a capture group; the condition alone, if the body is empty
abbrev pub make_conditional : Tree → Branches → Tree
make_conditional c body = if is_empty_body body then c else conditional_of_branches c body

-- an absent stopper of one branch; an absent expression of more
abbrev pub absent_of_branches : Branches → Tree
absent_of_branches [] = absent_clear
absent_of_branches (b ∷ []) = absent_stopper (branch_of b)
absent_of_branches (b ∷ c ∷ bs) = absent_expression (branch_of b) (others_of (c ∷ bs))

-- the node of `(?~|..)`
abbrev pub absent_bar_of : Branches → Tree
absent_bar_of body = if is_empty_body body then absent_clear else absent_of_branches body

-- a branch ends at the front of this text
abbrev pub ends_branch : Text → Bool
ends_branch [] = true
ends_branch (c ∷ t) = c ∈ "|)"

-- A literal character. A quantifier in its place is an error.
unfoldable pub parse_character : Flags → ℕ → Text → ParseOutcome (Tree × Text)
parse_character f c t = if is_some (leading_quantifier f.verbose (c ∷ t)) then fail_at target_not_repeatable (c ∷ t) else Ok (char_tree f c, t)

module _ (p : ParserConfig) where
  -- the body of a group as branches, and its `)`
  unfoldable pub parse_group_body : AlternationParser → Bool → Flags → Text → ParseOutcome (Branches × Flags × Text)
  parse_group_body inner in_look f t = do
    (branches, g, rest) ← inner in_look f t
    elim (strip_prefix (codes ")") rest) [ None ↦ fail_at unclosed_open_paren [] | Some after ↦ Ok (branches, g, after) ]

  -- the body of a group as one node, and its `)`
  unfoldable pub parse_group_expression : AlternationParser → Bool → Flags → Text → ParseOutcome (Tree × Flags × Text)
  parse_group_expression inner in_look f t = do
    (branches, g, rest) ← parse_group_body inner in_look f t
    Ok (pattern_of branches, g, rest)

  -- a conditional whose condition is an expression, from after `(?(`; `here` begins with its `(`
  unfoldable pub parse_expression_conditional : AlternationParser → Bool → Text → Flags → Text → ParseOutcome (Tree × Flags × Text)
  parse_expression_conditional inner in_look here f t = do
    (c, g, between) ← parse_group_expression inner in_look f t
    (body, h, rest) ← parse_group_body inner in_look g between
    if is_empty_body body then fail_at (general_parse_error (codes "condition without branches")) here
        else Ok (conditional_of_branches c body, h, rest)

  -- The rest of a group, from after its opening token; `here` begins with its `(`. Only `(?flags:..)` restores the flags at its end.
  unfoldable pub parse_group : AlternationParser → Bool → Text → Flags → Opening → Text → ParseOutcome (Atom × Flags × Text)
  parse_group inner in_look here f (capturing name) t = do
    (body, g, rest) ← parse_group_expression inner in_look f t
    Ok (plain (ast_group name body (place p here)), g, rest)
  parse_group inner in_look here f (non_capturing changed) t = do
    (body, g, rest) ← parse_group_expression inner in_look changed t
    Ok (record { tree = body; is_non_capturing_group = true }, f, rest)
  parse_group inner in_look here f (set_flags changed) t = Ok (plain empty, changed, t)
  parse_group inner in_look here f atomic t = do
    (body, g, rest) ← parse_group_expression inner in_look f t
    Ok (plain (atomic_group body), g, rest)
  parse_group inner in_look here f (look k) t = do
    (body, g, rest) ← parse_group_expression inner true f t
    Ok (plain (look_around body (look_of k)), g, rest)
  parse_group inner in_look here f (if_set target level) t = do
    (body, g, rest) ← parse_group_body inner in_look f t
    Ok (plain (make_conditional (ast_condition (target_named target) level (place p here)) body), g, rest)
  parse_group inner in_look here f if_matches t = do
    (e, g, rest) ← parse_expression_conditional inner in_look here f t
    Ok (plain e, g, rest)
  parse_group inner in_look here f define t = do
    (body, g, rest) ← parse_group_expression inner in_look f t
    Ok (plain (define_group body), g, rest)
  parse_group inner in_look here f absent t = do
    (body, g, rest) ← parse_group_expression inner in_look f t
    Ok (plain (absent_repeater body), g, rest)
  parse_group inner in_look here f absent_bar t = do
    (body, g, rest) ← parse_group_body inner in_look f t
    Ok (plain (absent_bar_of body), g, rest)
  parse_group inner in_look here f (whole_reference target level) t =
      Ok (plain (ast_backref (target_named target) f.casei level (place p here)), f, t)
  parse_group inner in_look here f (whole_call target) t = Ok (plain (ast_call (target_named target) (place p here)), f, t)
  parse_group inner in_look here f (whole_verb v) t = Ok (plain (verb (verb_of v)), f, t)

  -- A group. Without a parser for its body it is too deep.
  unfoldable pub parse_parenthesized : Option AlternationParser → Bool → Flags → Text → ParseOutcome (Atom × Flags × Text)
  parse_parenthesized None in_look f here = fail_at recursion_exceeded here
  parse_parenthesized (Some inner) in_look f here = do
    (how, t) ← opening p.unicode f here
    parse_group inner in_look here f how t

  -- the escape at the front of the text
  unfoldable pub parse_escape : Flags → Text → ParseOutcome (Tree × Text)
  parse_escape f here = do
    (found, rest) ← escape p.oniguruma here
    Ok (escape_tree p f (place p here) found, rest)

  -- the class in brackets at the front of the text
  unfoldable pub parse_bracketed_class : Flags → Text → ParseOutcome (Tree × Text)
  parse_bracketed_class f here = do
    (found, rest) ← bracketed_class p.oniguruma here
    Ok (delegate found f.casei, rest)

  -- an atom that does not begin with a parenthesis
  unfoldable pub parse_simple_atom : Bool → Flags → ℕ → Text → ParseOutcome (Tree × Text)
  parse_simple_atom in_look f c t =
      if c ∈ "[" then parse_bracketed_class f (c ∷ t)
      else if c ∈ "\\" then parse_escape f (c ∷ t)
      else if c ∈ "." then Ok (any f.dot_newline f.crlf, t)
      else if c ∈ "^" then Ok (line_start p f in_look, t)
      else if c ∈ "$" then Ok (line_end f, t)
      else parse_character f c t

  -- an atom that leaves the flags as they are
  abbrev pub as_atom : Flags → Tree × Text → Atom × Flags × Text
  as_atom f found = (plain found.0, f, found.1)

  -- the atom at the front of the text
  unfoldable pub parse_atom : Option AlternationParser → Bool → Flags → Text → ParseOutcome (Atom × Flags × Text)
  parse_atom inner in_look f [] = Ok (plain empty, f, [])
  parse_atom inner in_look f (c ∷ t) =
      if c ∈ "(" then parse_parenthesized inner in_look f (c ∷ t) else (parse_simple_atom in_look f c t >>= λ found. Ok (as_atom f found))

  -- an atom with its quantifiers
  unfoldable pub parse_piece : Option AlternationParser → Bool → Flags → Text → ParseOutcome (Tree × Flags × Text)
  parse_piece inner in_look f t = do
    (e, g, after) ← parse_atom inner in_look f t
    (tree, rest) ← parse_quantifiers p g (most_quantifiers p.oniguruma) e after
    Ok (tree, g, rest)

  -- The pieces of a branch, up to `|`, `)` or the end of the text. The number bounds them; each reads a character, so
  -- with one more than the text has the bound is not met.
  unfoldable pub parse_branch : Option AlternationParser → ℕ → Bool → Flags → Text → ParseOutcome (List Tree × Flags × Text)
  parse_branch inner zero in_look f t = fail_at recursion_exceeded t
  parse_branch inner (suc n) in_look f t = do
    here ← skip f.verbose t
    if ends_branch here then Ok ([], f, here) else (do
      (e, g, after) ← parse_piece inner in_look f here
      (others, h, rest) ← parse_branch inner n in_look g after
      Ok (e ∷ others, h, rest))

  -- Branches with `|` between them. The number bounds how many there may be, as with pieces.
  unfoldable pub branches : Option AlternationParser → ℕ → AlternationParser
  branches inner zero in_look f t = fail_at recursion_exceeded t
  branches inner (suc n) in_look f t = do
    (branch, g, after) ← parse_branch inner (length t + 1) in_look f t
    elim (strip_prefix (codes "|") after) [
      | None ↦ Ok (branch ∷ [], g, after)
      | Some next ↦ branches inner n in_look g next >>= λ (others, h, rest). Ok (branch ∷ others, h, rest)
    ]

  -- branches in which so many more levels of parentheses may open
  unfoldable pub parse_alternation : ℕ → AlternationParser
  parse_alternation zero in_look f t = branches None (length t + 1) in_look f t
  parse_alternation (suc levels) in_look f t = branches (Some (parse_alternation levels)) (length t + 1) in_look f t

  -- the parser for the body of a group, if one more level may open
  abbrev pub inner_parser : ℕ → Option AlternationParser
  inner_parser zero = None
  inner_parser (suc levels) = Some (parse_alternation levels)

  -- nothing may be left of the text
  abbrev pub expect_end : Tree → Text → ParseOutcome Tree
  expect_end e rest = if is_empty rest then Ok e else fail_at (general_parse_error (codes "end of string not reached")) rest

  -- a whole pattern, with 63 levels of parentheses
  unfoldable pub parse_whole_pattern : Flags → Text → ParseOutcome Tree
  parse_whole_pattern f t = do
    (found, g, rest) ← parse_alternation 63 false f t
    expect_end (pattern_of found) rest

-- The tree of a whole pattern, with unresolved references. The arguments are whether it is in Oniguruma mode, the flag `u`, the other
-- flags and the pattern.
unfoldable pub parse_pattern : Bool → Bool → Flags → Text → ParseOutcome Tree
parse_pattern oniguruma unicode f t = parse_whole_pattern (record { size = bytes t; oniguruma = oniguruma; unicode = unicode }) f t
