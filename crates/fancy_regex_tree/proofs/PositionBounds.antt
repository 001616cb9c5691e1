-- The positions in what is parsed are inside the pattern.
use Rattle.std.proofs.Common.{ℕ, zero, suc, ◌+◌, ◌≤◌, Bool, true, false, cond, List, [], ◌∷◌, codes, length, Option, Some, None, Ok, Err, IfOk, is_some, ◌||◌, ◌&&◌}
use Rattle.std.proofs.Math.Nat.{sub-le}
use Rattle.fancy_regex_text.specs.Text.{Text, ◌∈◌, bytes, is_empty, strip_prefix}
use Rattle.fancy_regex_text.specs.ParseFault.{ParseOutcome, ◌>>=◌}
use Rattle.fancy_regex_text.specs.Layout.{skip}
use Rattle.fancy_regex_lex.specs.Escapes.{Escape, char_escape, byte_escape, class_escape, any_escape, newline_escape, assertion_escape, continue_escape, keep_out_escape, reference_escape}
use Rattle.fancy_regex_lex.specs.Escapes.{call_escape, escape}
use Rattle.fancy_regex_lex.specs.Classes.{bracketed_class}
use Rattle.fancy_regex_lex.specs.Quantifiers.{leading_quantifier, most_quantifiers, quantifier_suffix}
use Rattle.fancy_regex_lex.specs.FlagLetters.{same}
use Rattle.fancy_regex_lex.specs.Openings.{Opening, capturing, non_capturing, set_flags, atomic, look, if_set, if_matches, define, absent, absent_bar, whole_reference, whole_call, whole_verb, opening}
use Rattle.fancy_regex_lex.specs.declared.token.Quantifier.{Quantifier}
use Rattle.fancy_regex_lex.specs.declared.token.QuantifierSuffix.{QuantifierSuffix}
use Rattle.fancy_regex_lex.specs.declared.token.Flags.{Flags}
use Rattle.fancy_regex_tree.specs.declared.parser_config.ParserConfig.{ParserConfig}
use Rattle.fancy_regex_tree.specs.Tree.{Tree, trees, concat, alt, atomic_group}
use Rattle.fancy_regex_tree.specs.Atoms.{escape_tree, place}
use Rattle.fancy_regex_tree.specs.TreeBuilders.{is_empty_tree, is_repeatable, without_empty, joined, branch_of, all_branches, pattern_of}
use Rattle.fancy_regex_tree.specs.Quantifiers.{Atom, is_reversed, loop_of, is_dropped, repeated, marked, apply_quantifier, full, parse_quantifiers}
use Rattle.fancy_regex_tree.specs.Parser.{Branches, AlternationParser, is_empty_body, conditional_of_branches, absent_of_branches, absent_bar_of, ends_branch}
use Rattle.fancy_regex_tree.specs.Parser.{parse_character, parse_group_body, parse_group_expression, parse_expression_conditional, parse_group, parse_parenthesized, parse_escape}
use Rattle.fancy_regex_tree.specs.Parser.{parse_bracketed_class, parse_simple_atom, parse_atom, parse_piece, parse_branch, branches, parse_alternation}
use Rattle.fancy_regex_tree.specs.Parser.{parse_whole_pattern, parse_pattern}
use Rattle.fancy_regex_tree.specs.Positions.{HasPositionsWithin, HavePositionsWithin}

-- One step and then another; a choice; a step on what there is.
and_then : {A B : Type 0} (P : A → Type 0) (Q : B → Type 0) (r : ParseOutcome A) (f : A → ParseOutcome B) → IfOk r P → ((a : A) → P a → IfOk (f a) Q) → IfOk (r >>= f) Q
and_then P Q (Ok a) f h k = k a h
and_then P Q (Err e) f h k = tt

after : {A B : Type 0} (Q : B → Type 0) (r : ParseOutcome A) (f : A → ParseOutcome B) → ((a : A) → IfOk (f a) Q) → IfOk (r >>= f) Q
after Q (Ok a) f k = k a
after Q (Err e) f k = tt

either : {A : Type 0} (Q : A → Type 0) (b : Bool) (x y : ParseOutcome A) → IfOk x Q → IfOk y Q → IfOk (cond b x y) Q
either Q true x y h k = h
either Q false x y h k = k

on_some : {X A : Type 0} (Q : A → Type 0) (o : Option X) (x : ParseOutcome A) (f : X → ParseOutcome A) → IfOk x Q → ((a : X) → IfOk (f a) Q) →
    IfOk (elim o [ None ↦ x | Some a ↦ f a ]) Q
on_some Q None x f h k = h
on_some Q (Some a) x f h k = k a

abbrev PiecesPlaced : ℕ → List Tree → Type 0
PiecesPlaced size es = HavePositionsWithin size (trees es)

abbrev BranchesPlaced : ℕ → Branches → Type 0
BranchesPlaced size [] = Unit {0}
BranchesPlaced size (b ∷ bs) = PiecesPlaced size b × BranchesPlaced size bs

module _ (size : ℕ) where
  kept_placed : (e : Tree) (es : List Tree) (b : Bool) → HasPositionsWithin size e → PiecesPlaced size es → PiecesPlaced size (elim b [ true ↦ es | false ↦ e ∷ es ])
  kept_placed e es true h k = k
  kept_placed e es false h k = (h, k)

  without_empty_placed : (es : List Tree) → PiecesPlaced size es → PiecesPlaced size (without_empty es)
  without_empty_placed [] h = h
  without_empty_placed (e ∷ es) h = kept_placed e (without_empty es) (is_empty_tree e) h.0 (without_empty_placed es h.1)

  concat_placed : (es : List Tree) → PiecesPlaced size es → HasPositionsWithin size (joined concat es)
  concat_placed [] h = tt
  concat_placed (e ∷ []) h = h.0
  concat_placed (e ∷ d ∷ es) h = h

  alt_placed : (es : List Tree) → PiecesPlaced size es → HasPositionsWithin size (joined alt es)
  alt_placed [] h = tt
  alt_placed (e ∷ []) h = h.0
  alt_placed (e ∷ d ∷ es) h = h

  branch_placed : (es : List Tree) → PiecesPlaced size es → HasPositionsWithin size (branch_of es)
  branch_placed es h = concat_placed (without_empty es) (without_empty_placed es h)

  all_placed : (bs : Branches) → BranchesPlaced size bs → PiecesPlaced size (all_branches bs)
  all_placed [] h = h
  all_placed (b ∷ bs) h = (branch_placed b h.0, all_placed bs h.1)

  pattern_placed : (bs : Branches) → BranchesPlaced size bs → HasPositionsWithin size (pattern_of bs)
  pattern_placed bs h = alt_placed (all_branches bs) (all_placed bs h)

  yes_and_no_placed : (c : Tree) (bs : Branches) → HasPositionsWithin size c → BranchesPlaced size bs → HasPositionsWithin size (conditional_of_branches c bs)
  yes_and_no_placed c [] h k = (h, tt, tt)
  yes_and_no_placed c (b ∷ bs) h k = (h, branch_placed b k.0, pattern_placed bs k.1)

  bounded_placed : (bs : Branches) → BranchesPlaced size bs → HasPositionsWithin size (absent_of_branches bs)
  bounded_placed [] h = tt
  bounded_placed (b ∷ []) h = branch_placed b h.0
  bounded_placed (b ∷ c ∷ bs) h = (branch_placed b h.0, pattern_placed (c ∷ bs) h.1)

  either_placed : (b : Bool) (t u : Tree) → HasPositionsWithin size t → HasPositionsWithin size u → HasPositionsWithin size (cond b t u)
  either_placed true t u h k = h
  either_placed false t u h k = k

  absent_placed : (bs : Branches) → BranchesPlaced size bs → HasPositionsWithin size (absent_bar_of bs)
  absent_placed bs h = either_placed (is_empty_body bs) _ (absent_of_branches bs) tt (bounded_placed bs h)

  escape_placed : (p : ParserConfig) (f : Flags) (position : ℕ) (e : Escape) → position ≤ size → HasPositionsWithin size (escape_tree p f position e)
  escape_placed p f position (char_escape c) h = tt
  escape_placed p f position (byte_escape b) h = tt
  escape_placed p f position (class_escape t) h = tt
  escape_placed p f position (any_escape newline) h = tt
  escape_placed p f position newline_escape h = tt
  escape_placed p f position (assertion_escape a) h = tt
  escape_placed p f position continue_escape h = tt
  escape_placed p f position keep_out_escape h = tt
  escape_placed p f position (reference_escape target level) h = h
  escape_placed p f position (call_escape target) h = h

  -- quantifiers
  loop_placed : (p : ParserConfig) (q : Quantifier) (greedy : Bool) (e : Tree) → HasPositionsWithin size e → HasPositionsWithin size (loop_of p q greedy e)
  loop_placed p q greedy e h = either_placed (is_reversed p q) _ _ h h

  repeated_placed : (p : ParserConfig) (f : Flags) (q : Quantifier) (m : QuantifierSuffix) (e : Tree) → HasPositionsWithin size e → HasPositionsWithin size (repeated p f q m e)
  unfolding repeated
  repeated_placed p f q m e h =
      let loop = loop_of p q (same m.lazy f.swap_greed) e in
      let placed = loop_placed p q (same m.lazy f.swap_greed) e h in
      either_placed (m.possessive || is_reversed p q) (atomic_group loop) loop placed placed

  abbrev FrontPlaced : Tree × Text → Type 0
  FrontPlaced found = HasPositionsWithin size found.0

  marked_placed : (p : ParserConfig) (f : Flags) (q : Quantifier) (e : Tree) (t : Text) → HasPositionsWithin size e → IfOk (marked p f q e t) FrontPlaced
  unfolding marked
  marked_placed p f q e t h =
      after FrontPlaced (quantifier_suffix p.oniguruma f.verbose q.braces t) _
      (λ found. either_placed (is_repeatable e) (repeated p f q found.0 e) e (repeated_placed p f q found.0 e h) h)

  apply_placed : (p : ParserConfig) (f : Flags) (here : Text) (q : Quantifier) (e : Atom) (t : Text) → HasPositionsWithin size e.tree →
      IfOk (apply_quantifier p f here q e t) FrontPlaced
  unfolding apply_quantifier
  apply_placed p f here q e t h = either FrontPlaced (is_repeatable e.tree || is_dropped p e) _ _ (marked_placed p f q e.tree t h) tt

  full_placed : (p : ParserConfig) (f : Flags) (here : Text) (e : Tree) → HasPositionsWithin size e → IfOk (full p f here e) FrontPlaced
  unfolding full
  full_placed p f here e h = either FrontPlaced (p.oniguruma && is_some (leading_quantifier f.verbose here)) _ _ tt h

  quantifiers_placed : (p : ParserConfig) (f : Flags) (more : ℕ) (e : Atom) (t : Text) → HasPositionsWithin size e.tree →
      IfOk (parse_quantifiers p f more e t) FrontPlaced
  unfolding parse_quantifiers
  quantifiers_placed p f zero e t h = after FrontPlaced (skip f.verbose t) _ (λ here. full_placed p f here e.tree h)
  quantifiers_placed p f (suc more) e t h =
      after FrontPlaced (skip f.verbose t) _
      (λ here. on_some FrontPlaced (leading_quantifier f.verbose here) _ _ h
      (λ q. and_then FrontPlaced FrontPlaced (apply_quantifier p f here q.0 e q.1) _ (apply_placed p f here q.0 e q.1 h)
      (λ found placed. quantifiers_placed p f more (record e { tree = found.0 }) found.1 placed)))

module _ (p : ParserConfig) where
  at : (t : Text) → place p t ≤ p.size
  at t = sub-le p.size (bytes t)

  abbrev BodyPlaced : Branches × Flags × Text → Type 0
  BodyPlaced found = BranchesPlaced p.size found.0

  abbrev TreePlaced : Tree × Flags × Text → Type 0
  TreePlaced found = HasPositionsWithin p.size found.0

  abbrev AtomPlaced : Atom × Flags × Text → Type 0
  AtomPlaced found = HasPositionsWithin p.size found.0.tree

  abbrev BranchPlaced : List Tree × Flags × Text → Type 0
  BranchPlaced found = PiecesPlaced p.size found.0

  abbrev ParserPlaced : AlternationParser → Type 0
  ParserPlaced inner = (in_look : Bool) (f : Flags) (t : Text) → IfOk (inner in_look f t) BodyPlaced

  module _ (inner : AlternationParser) (inside : ParserPlaced inner) where
    body_placed : (in_look : Bool) (f : Flags) (t : Text) → IfOk (parse_group_body p inner in_look f t) BodyPlaced
    unfolding parse_group_body
    body_placed in_look f t =
        and_then BodyPlaced BodyPlaced (inner in_look f t) _ (inside in_look f t)
        (λ found placed. on_some BodyPlaced (strip_prefix (codes ")") found.2) _ _ tt (λ rest. placed))

    expression_placed : (in_look : Bool) (f : Flags) (t : Text) → IfOk (parse_group_expression p inner in_look f t) TreePlaced
    unfolding parse_group_expression
    expression_placed in_look f t =
        and_then BodyPlaced TreePlaced (parse_group_body p inner in_look f t) _ (body_placed in_look f t) (λ found placed. pattern_placed p.size found.0 placed)

    conditional_placed : (in_look : Bool) (here : Text) (f : Flags) (t : Text) → IfOk (parse_expression_conditional p inner in_look here f t) TreePlaced
    unfolding parse_expression_conditional
    conditional_placed in_look here f t =
        and_then TreePlaced TreePlaced (parse_group_expression p inner in_look f t) _ (expression_placed in_look f t)
        (λ c condition. and_then BodyPlaced TreePlaced (parse_group_body p inner in_look c.1 c.2) _ (body_placed in_look c.1 c.2)
        (λ found placed. either TreePlaced (is_empty_body found.0) _ _ tt (yes_and_no_placed p.size c.0 found.0 condition placed)))

    -- the body of a group as one node in the node of the group
    in_group_placed : (in_look : Bool) (f : Flags) (t : Text) (node : Tree × Flags × Text → Atom × Flags × Text) →
        ((found : Tree × Flags × Text) → TreePlaced found → AtomPlaced (node found)) →
        IfOk (parse_group_expression p inner in_look f t >>= λ found. Ok (node found)) AtomPlaced
    in_group_placed in_look f t node h = and_then TreePlaced AtomPlaced (parse_group_expression p inner in_look f t) _ (expression_placed in_look f t) h

    group_placed : (in_look : Bool) (here : Text) (f : Flags) (how : Opening) (t : Text) → IfOk (parse_group p inner in_look here f how t) AtomPlaced
    unfolding parse_group
    group_placed in_look here f (capturing name) t = in_group_placed in_look f t _ (λ found placed. (at here, placed))
    group_placed in_look here f (non_capturing changed) t = in_group_placed in_look changed t _ (λ found placed. placed)
    group_placed in_look here f (set_flags changed) t = tt
    group_placed in_look here f atomic t = in_group_placed in_look f t _ (λ found placed. placed)
    group_placed in_look here f (look k) t = in_group_placed true f t _ (λ found placed. placed)
    group_placed in_look here f (if_set target level) t =
        and_then BodyPlaced AtomPlaced (parse_group_body p inner in_look f t) _ (body_placed in_look f t)
        (λ found placed. either_placed p.size (is_empty_body found.0) _ _ (at here) (yes_and_no_placed p.size _ found.0 (at here) placed))
    group_placed in_look here f if_matches t =
        and_then TreePlaced AtomPlaced (parse_expression_conditional p inner in_look here f t) _ (conditional_placed in_look here f t) (λ found placed. placed)
    group_placed in_look here f define t = in_group_placed in_look f t _ (λ found placed. placed)
    group_placed in_look here f absent t = in_group_placed in_look f t _ (λ found placed. placed)
    group_placed in_look here f absent_bar t =
        and_then BodyPlaced AtomPlaced (parse_group_body p inner in_look f t) _ (body_placed in_look f t) (λ found placed. absent_placed p.size found.0 placed)
    group_placed in_look here f (whole_reference target level) t = at here
    group_placed in_look here f (whole_call target) t = at here
    group_placed in_look here f (whole_verb v) t = tt

  abbrev InnerPlaced : Option AlternationParser → Type 0
  InnerPlaced None = Unit {0}
  InnerPlaced (Some inner) = ParserPlaced inner

  simple_atom_placed : (in_look : Bool) (f : Flags) (c : ℕ) (t : Text) → IfOk (parse_simple_atom p in_look f c t) (FrontPlaced p.size)
  unfolding parse_simple_atom parse_escape parse_bracketed_class parse_character
  simple_atom_placed in_look f c t =
      let front = FrontPlaced p.size in
      either front (c ∈ "[") _ _ (after front (bracketed_class p.oniguruma (c ∷ t)) _ (λ found. tt))
      (either front (c ∈ "\\") _ _ (after front (escape p.oniguruma (c ∷ t)) _ (λ found. escape_placed p.size p f _ found.0 (at (c ∷ t))))
      (either front (c ∈ ".") _ _ tt
      (either front (c ∈ "^") _ _ tt
      (either front (c ∈ "$") _ _ tt
      (either front (is_some (leading_quantifier f.verbose (c ∷ t))) _ _ tt tt)))))

  parenthesized_placed : (inner : Option AlternationParser) → InnerPlaced inner → (in_look : Bool) (f : Flags) (here : Text) →
      IfOk (parse_parenthesized p inner in_look f here) AtomPlaced
  unfolding parse_parenthesized
  parenthesized_placed None inside in_look f here = tt
  parenthesized_placed (Some inner) inside in_look f here =
      after AtomPlaced (opening p.unicode f here) _ (λ found. group_placed inner inside in_look here f found.0 found.1)

  module _ (inner : Option AlternationParser) (inside : InnerPlaced inner) where
    atom_placed : (in_look : Bool) (f : Flags) (t : Text) → IfOk (parse_atom p inner in_look f t) AtomPlaced
    unfolding parse_atom
    atom_placed in_look f [] = tt
    atom_placed in_look f (c ∷ t) =
        either AtomPlaced (c ∈ "(") _ _ (parenthesized_placed inner inside in_look f (c ∷ t))
        (and_then (FrontPlaced p.size) AtomPlaced (parse_simple_atom p in_look f c t) _ (simple_atom_placed in_look f c t) (λ found placed. placed))

    piece_placed : (in_look : Bool) (f : Flags) (t : Text) → IfOk (parse_piece p inner in_look f t) TreePlaced
    unfolding parse_piece
    piece_placed in_look f t =
        and_then AtomPlaced TreePlaced (parse_atom p inner in_look f t) _ (atom_placed in_look f t)
        (λ atom h. and_then (FrontPlaced p.size) TreePlaced (parse_quantifiers p atom.1 (most_quantifiers p.oniguruma) atom.0 atom.2) _
        (quantifiers_placed p.size p atom.1 (most_quantifiers p.oniguruma) atom.0 atom.2 h) (λ found placed. placed))

    pieces_placed : (n : ℕ) (in_look : Bool) (f : Flags) (t : Text) → IfOk (parse_branch p inner n in_look f t) BranchPlaced
    unfolding parse_branch
    pieces_placed zero in_look f t = tt
    pieces_placed (suc n) in_look f t =
        after BranchPlaced (skip f.verbose t) _
        (λ here. either BranchPlaced (ends_branch here) _ _ tt
        (and_then TreePlaced BranchPlaced (parse_piece p inner in_look f here) _ (piece_placed in_look f here)
        (λ first h. and_then BranchPlaced BranchPlaced (parse_branch p inner n in_look first.1 first.2) _ (pieces_placed n in_look first.1 first.2)
        (λ others k. (h, k)))))

    branches_placed : (n : ℕ) → ParserPlaced (branches p inner n)
    unfolding branches
    branches_placed zero in_look f t = tt
    branches_placed (suc n) in_look f t =
        and_then BranchPlaced BodyPlaced (parse_branch p inner (length t + 1) in_look f t) _ (pieces_placed (length t + 1) in_look f t)
        (λ first h. on_some BodyPlaced (strip_prefix (codes "|") first.2) _ _ (h, tt)
        (λ next. and_then BodyPlaced BodyPlaced (branches p inner n in_look first.1 next) _ (branches_placed n in_look first.1 next) (λ others k. (h, k))))

  alternation_placed : (levels : ℕ) → ParserPlaced (parse_alternation p levels)
  unfolding parse_alternation
  alternation_placed zero in_look f t = branches_placed None tt (length t + 1) in_look f t
  alternation_placed (suc levels) in_look f t = branches_placed (Some (parse_alternation p levels)) (alternation_placed levels) (length t + 1) in_look f t

  whole_placed : (f : Flags) (t : Text) → IfOk (parse_whole_pattern p f t) (HasPositionsWithin p.size)
  unfolding parse_whole_pattern
  whole_placed f t =
      and_then BodyPlaced (HasPositionsWithin p.size) (parse_alternation p 63 false f t) _ (alternation_placed 63 false f t)
      (λ found placed. either (HasPositionsWithin p.size) (is_empty found.2) _ _ (pattern_placed p.size found.0 placed) tt)

-- each position in the tree of a pattern is at most its length in bytes
pub parsed_placed : (oniguruma unicode : Bool) (f : Flags) (t : Text) → IfOk (parse_pattern oniguruma unicode f t) (HasPositionsWithin (bytes t))
unfolding parse_pattern
parsed_placed oniguruma unicode f t = whole_placed (record { size = bytes t; oniguruma = oniguruma; unicode = unicode }) f t
