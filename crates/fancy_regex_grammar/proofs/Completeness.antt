-- What the relations have, the functions read, or stop at.
use Rattle.std.proofs.Common.{◌≡◌, ℕ, zero, suc, ◌+◌, ◌<◌, Bool, true, false, Option, Ok, Err, List, [], ◌∷◌, length, refl, ap, ◌∙◌, not-suc-le-zero, arith, if◌then◌else◌}
use Rattle.fancy_regex_text.specs.Text.{Text, strip_prefix}
use Rattle.fancy_regex_text.specs.ParseFault.{ParseFault, ParseOutcome, ◌>>=◌, unclosed_open_paren}
use Rattle.fancy_regex_lex.specs.Quantifiers.{most_quantifiers}
use Rattle.fancy_regex_lex.specs.declared.token.Flags.{Flags}
use Rattle.fancy_regex_tree.specs.declared.parser_config.ParserConfig.{ParserConfig}
use Rattle.fancy_regex_tree.specs.Tree.{Tree}
use Rattle.fancy_regex_tree.specs.Quantifiers.{Atom, parse_quantifiers}
use Rattle.fancy_regex_tree.specs.Parser.{Branches, AlternationParser, plain, is_empty_body, conditional_of_branches, make_conditional, ends_branch, parse_group_body, parse_group_expression, parse_group, parse_simple_atom, parse_atom, parse_piece, parse_branch, branches, parse_alternation, inner_parser}
use Rattle.fancy_regex_tree.proofs.Loops.{nested_is}
use Rattle.fancy_regex_lex_grammar.specs.Exact.{at}
use Rattle.fancy_regex_grammar.specs.Patterns.{IsAtom, dot, caret, dollar, a_class, escaped, character, capturing_group, bare_group, flag_setting, an_atomic_group, a_look_around, bare_condition, if_reference, if_expression, definitions, an_absent_repeater, absent_bounds, a_reference, a_call, a_verb, IsPiece, with_quantifiers, IsBranch, no_more_pieces, and_piece, IsBranches, last_branch, and_branch}
use Rattle.fancy_regex_grammar.specs.Faults.{NoClosing, AtomFails, class_stops, escape_stops, no_atom, too_deep, opening_stops, inside_stops, unclosed, body_stops, body_unclosed, without_branches, PieceFails, atom_stops, quantifiers_stop, BranchFails, layout_stops, piece_stops, later_piece_stops, BranchesFail, first_stops, later_branch_stops}
use Rattle.fancy_regex_grammar.proofs.LengthLemmas.{skipped_shorter, piece_shorter, branch_shorter}
use Rattle.fancy_regex_grammar.proofs.QuantifierProofs.{quantifiers_are_exact}
use Rattle.fancy_regex_grammar.proofs.ReadingLemmas.{ok_tree, ok_body, other_goes_on, quantifier_goes_on, class_read, class_stopped, escape_read, escape_stopped, character_read, no_atom_stopped, opened, opening_stopped, none_inside, closed_read, closed_stops, closed_lacks, construct_stops, condition_then, branches_there, no_branches, body_stopped, layout_stopped, pieces_end, pieces_go_on, branch_then, no_bar}

pub one_more_is_greater : (k : ℕ) → k < k + 1
one_more_is_greater k = omega arith

module _ (p : ParserConfig) where
  atom_goes_on : {n : ℕ} {in_look : Bool} {f g : Flags} {t rest : Text} {e : Atom} → IsAtom p n in_look f t e g rest → ends_branch t ≡ false
  atom_goes_on dot = refl
  atom_goes_on caret = refl
  atom_goes_on dollar = refl
  atom_goes_on (a_class c) = refl
  atom_goes_on (escaped e) = refl
  atom_goes_on (character {c = c} {t} h n) = other_goes_on c t h
  atom_goes_on (capturing_group o b) = refl
  atom_goes_on (bare_group o b) = refl
  atom_goes_on (flag_setting o) = refl
  atom_goes_on (an_atomic_group o b) = refl
  atom_goes_on (a_look_around o b) = refl
  atom_goes_on (bare_condition o b c) = refl
  atom_goes_on (if_reference o b c) = refl
  atom_goes_on (if_expression o b c d) = refl
  atom_goes_on (definitions o b) = refl
  atom_goes_on (an_absent_repeater o b) = refl
  atom_goes_on (absent_bounds o b) = refl
  atom_goes_on (a_reference o) = refl
  atom_goes_on (a_call o) = refl
  atom_goes_on (a_verb o) = refl

  piece_goes_on : {n : ℕ} {in_look : Bool} {f g : Flags} {t rest : Text} {e : Tree} → IsPiece p n in_look f t e g rest → ends_branch t ≡ false
  piece_goes_on (with_quantifiers a q) = atom_goes_on a

  -- branches inside a construct, with the `)` after them
  inside : (n : ℕ) (in_look : Bool) (f : Flags) (t : Text) {g : Flags} {rest : Text} {body : Branches} →
      branches p (inner_parser p n) (length t + 1) in_look f t ≡ Ok (body, g, 0x29 ∷ rest) → parse_group_body p (parse_alternation p n) in_look f t ≡ Ok (body, g, rest)
  inside n in_look f t h = closed_read p (parse_alternation p n) in_look f t (nested_is p n in_look f t ∙ h)

  abbrev with_others : Tree → ParseOutcome (List Tree × Flags × Text) → ParseOutcome (List Tree × Flags × Text)
  with_others e r = r >>= λ y. Ok (e ∷ y.0, y.1, y.2)

  abbrev with_branches : List Tree → ParseOutcome (Branches × Flags × Text) → ParseOutcome (Branches × Flags × Text)
  with_branches branch r = r >>= λ y. Ok (branch ∷ y.0, y.1, y.2)

  abbrev piece_from : ParseOutcome (Atom × Flags × Text) → ParseOutcome (Tree × Flags × Text)
  piece_from r = r >>= λ x. parse_quantifiers p x.1 (most_quantifiers p.oniguruma) x.0 x.2 >>= λ y. Ok (y.0, x.1, y.1)

  abbrev branch_from : Option AlternationParser → ℕ → Bool → ParseOutcome (Tree × Flags × Text) → ParseOutcome (List Tree × Flags × Text)
  branch_from inner m in_look r = r >>= λ x. with_others x.0 (parse_branch p inner m in_look x.1 x.2)

  tested_bare : (c : Tree) (body : Branches) → is_empty_body body ≡ true → make_conditional c body ≡ c
  tested_bare c body h = ap (λ k. if k then c else conditional_of_branches c body) h

  tested_full : (c : Tree) (body : Branches) → is_empty_body body ≡ false → make_conditional c body ≡ conditional_of_branches c body
  tested_full c body h = ap (λ k. if k then c else conditional_of_branches c body) h

  mutual
    unfolding parse_atom parse_simple_atom parse_group parse_group_expression parse_piece strip_prefix

    pub atom_complete : {n : ℕ} {in_look : Bool} {f g : Flags} {t rest : Text} {e : Atom} → IsAtom p n in_look f t e g rest →
        parse_atom p (inner_parser p n) in_look f t ≡ Ok (e, g, rest)
    atom_complete dot = refl
    atom_complete caret = refl
    atom_complete dollar = refl
    atom_complete (a_class {n} {in_look} {f} c) = class_read p (inner_parser p n) in_look f c
    atom_complete (escaped {n} {in_look} {f} e) = escape_read p (inner_parser p n) in_look f e
    atom_complete (character {n} {in_look} {f} {c} {t} h k) = character_read p (inner_parser p n) in_look f c t h k
    atom_complete (capturing_group {n} {in_look} {f} o b) = opened p n in_look f o ∙ ok_tree p _ _ (inside n _ _ _ (branches_complete b _ (one_more_is_greater _)))
    atom_complete (bare_group {n} {in_look} {f} o b) = opened p n in_look f o ∙ ok_tree p _ _ (inside n _ _ _ (branches_complete b _ (one_more_is_greater _)))
    atom_complete (flag_setting {n} {in_look} {f} o) = opened p n in_look f o
    atom_complete (an_atomic_group {n} {in_look} {f} o b) = opened p n in_look f o ∙ ok_tree p _ _ (inside n _ _ _ (branches_complete b _ (one_more_is_greater _)))
    atom_complete (a_look_around {n} {in_look} {f} o b) = opened p n in_look f o ∙ ok_tree p _ _ (inside n _ _ _ (branches_complete b _ (one_more_is_greater _)))
    atom_complete (bare_condition {n} {in_look} {f} {g} {rest = rest} {body} o b h) =
        opened p n in_look f o ∙ ok_body _ _ (inside n _ _ _ (branches_complete b _ (one_more_is_greater _))) ∙ ap (λ (e : Tree). Ok (plain e, g, rest)) (tested_bare _ body h)
    atom_complete (if_reference {n} {in_look} {f} {g} {rest = rest} {body} o b h) =
        opened p n in_look f o ∙ ok_body _ _ (inside n _ _ _ (branches_complete b _ (one_more_is_greater _))) ∙ ap (λ (e : Tree). Ok (plain e, g, rest)) (tested_full _ body h)
    atom_complete (if_expression {n} {in_look} {f} o b c h) =
        opened p n in_look f o ∙ condition_then p _ _ _ _ _ (inside n _ _ _ (branches_complete b _ (one_more_is_greater _)))
        ∙ branches_there p _ _ _ (inside n _ _ _ (branches_complete c _ (one_more_is_greater _))) h
    atom_complete (definitions {n} {in_look} {f} o b) = opened p n in_look f o ∙ ok_tree p _ _ (inside n _ _ _ (branches_complete b _ (one_more_is_greater _)))
    atom_complete (an_absent_repeater {n} {in_look} {f} o b) = opened p n in_look f o ∙ ok_tree p _ _ (inside n _ _ _ (branches_complete b _ (one_more_is_greater _)))
    atom_complete (absent_bounds {n} {in_look} {f} o b) = opened p n in_look f o ∙ ok_body _ _ (inside n _ _ _ (branches_complete b _ (one_more_is_greater _)))
    atom_complete (a_reference {n} {in_look} {f} o) = opened p n in_look f o
    atom_complete (a_call {n} {in_look} {f} o) = opened p n in_look f o
    atom_complete (a_verb {n} {in_look} {f} o) = opened p n in_look f o

    pub piece_complete : {n : ℕ} {in_look : Bool} {f g : Flags} {t rest : Text} {e : Tree} → IsPiece p n in_look f t e g rest →
        parse_piece p (inner_parser p n) in_look f t ≡ Ok (e, g, rest)
    piece_complete (with_quantifiers {g = g} {after = after} {rest} {e} {whole} a q) =
        ap piece_from (atom_complete a)
        ∙ ap (λ r. r >>= λ y. Ok (y.0, g, y.1)) ((quantifiers_are_exact p g (most_quantifiers p.oniguruma) e after).complete (whole, rest) q)

    pub branch_complete : {n : ℕ} {in_look : Bool} {f g : Flags} {t rest : Text} {es : List Tree} → IsBranch p n in_look f t es g rest →
        (m : ℕ) → length t < m → parse_branch p (inner_parser p n) m in_look f t ≡ Ok (es, g, rest)
    branch_complete (no_more_pieces s e) zero k = absurd (not-suc-le-zero k)
    branch_complete (no_more_pieces {n} {in_look} {f} s e) (suc m) k = pieces_end p (inner_parser p n) m in_look f s e
    branch_complete (and_piece s q b) zero k = absurd (not-suc-le-zero k)
    branch_complete (and_piece {n} {in_look} {f} {e = e} s q b) (suc m) k =
        pieces_go_on p (inner_parser p n) m in_look f s (piece_goes_on q) ∙ ap (branch_from (inner_parser p n) m in_look) (piece_complete q)
        ∙ ap (with_others e) (branch_complete b m (let x = skipped_shorter s in let y = piece_shorter p q in omega arith))

    pub branches_complete : {n : ℕ} {in_look : Bool} {f g : Flags} {t rest : Text} {body : Branches} → IsBranches p n in_look f t body g rest →
        (m : ℕ) → length t < m → branches p (inner_parser p n) m in_look f t ≡ Ok (body, g, rest)
    branches_complete (last_branch b c) zero k = absurd (not-suc-le-zero k)
    branches_complete (last_branch {n} {in_look} {f} {t = t} b c) (suc m) k =
        branch_then p (inner_parser p n) m in_look f t (branch_complete b (length t + 1) (one_more_is_greater (length t))) ∙ no_bar p (inner_parser p n) m in_look c
    branches_complete (and_branch b c) zero k = absurd (not-suc-le-zero k)
    branches_complete (and_branch {n} {in_look} {f} {t = t} {branch = branch} b c) (suc m) k =
        branch_then p (inner_parser p n) m in_look f t (branch_complete b (length t + 1) (one_more_is_greater (length t)))
        ∙ ap (with_branches branch) (branches_complete c m (let x = branch_shorter p b in omega arith))

  -- the faults

  atom_stop_goes_on : {n : ℕ} {in_look : Bool} {f : Flags} {t : Text} {e : ParseFault} → AtomFails p n in_look f t e → ends_branch t ≡ false
  atom_stop_goes_on (class_stops s) = refl
  atom_stop_goes_on (escape_stops s) = refl
  atom_stop_goes_on (no_atom q) = quantifier_goes_on q
  atom_stop_goes_on too_deep = refl
  atom_stop_goes_on (opening_stops s) = refl
  atom_stop_goes_on (inside_stops o h s) = refl
  atom_stop_goes_on (unclosed o h b l) = refl
  atom_stop_goes_on (body_stops o b s) = refl
  atom_stop_goes_on (body_unclosed o b c l) = refl
  atom_stop_goes_on (without_branches o b c h) = refl

  piece_stop_goes_on : {n : ℕ} {in_look : Bool} {f : Flags} {t : Text} {e : ParseFault} → PieceFails p n in_look f t e → ends_branch t ≡ false
  piece_stop_goes_on (atom_stops s) = atom_stop_goes_on s
  piece_stop_goes_on (quantifiers_stop a s) = atom_goes_on a

  -- branches inside a construct, that stop or have no `)` after them
  inside_stopped : (n : ℕ) (in_look : Bool) (f : Flags) (t : Text) {e : ParseFault} → branches p (inner_parser p n) (length t + 1) in_look f t ≡ Err e →
      parse_group_body p (parse_alternation p n) in_look f t ≡ Err e
  inside_stopped n in_look f t h = closed_stops p (parse_alternation p n) in_look f t (nested_is p n in_look f t ∙ h)

  inside_unclosed : (n : ℕ) (in_look : Bool) (f : Flags) (t : Text) {g : Flags} {rest : Text} {body : Branches} →
      branches p (inner_parser p n) (length t + 1) in_look f t ≡ Ok (body, g, rest) → NoClosing rest →
      parse_group_body p (parse_alternation p n) in_look f t ≡ Err (at unclosed_open_paren [])
  inside_unclosed n in_look f t h l = closed_lacks p (parse_alternation p n) in_look f t (nested_is p n in_look f t ∙ h) l

  mutual
    unfolding parse_piece strip_prefix

    pub atom_stop : {n : ℕ} {in_look : Bool} {f : Flags} {t : Text} {e : ParseFault} → AtomFails p n in_look f t e → parse_atom p (inner_parser p n) in_look f t ≡ Err e
    atom_stop (class_stops {n} {in_look} {f} s) = class_stopped p (inner_parser p n) in_look f s
    atom_stop (escape_stops {n} {in_look} {f} s) = escape_stopped p (inner_parser p n) in_look f s
    atom_stop (no_atom {n} {in_look} {f} q) = no_atom_stopped p (inner_parser p n) in_look f q
    atom_stop (too_deep {in_look} {f} {t}) = none_inside p in_look f t
    atom_stop (opening_stops {n} {in_look} {f} s) = opening_stopped p n in_look f s
    atom_stop (inside_stops {n} {in_look} {f = f} o h s) =
        opened p n in_look f o ∙ construct_stops p (parse_alternation p n) _ _ h (inside_stopped n _ _ _ (branches_stop s _ (one_more_is_greater _)))
    atom_stop (unclosed {n} {in_look} {f = f} o h b l) =
        opened p n in_look f o ∙ construct_stops p (parse_alternation p n) _ _ h (inside_unclosed n _ _ _ (branches_complete b _ (one_more_is_greater _)) l)
    atom_stop (body_stops {n} {in_look} {f} o b s) =
        opened p n in_look f o ∙ condition_then p _ _ _ _ _ (inside n _ _ _ (branches_complete b _ (one_more_is_greater _)))
        ∙ body_stopped p _ _ _ (inside_stopped n _ _ _ (branches_stop s _ (one_more_is_greater _)))
    atom_stop (body_unclosed {n} {in_look} {f} o b c l) =
        opened p n in_look f o ∙ condition_then p _ _ _ _ _ (inside n _ _ _ (branches_complete b _ (one_more_is_greater _)))
        ∙ body_stopped p _ _ _ (inside_unclosed n _ _ _ (branches_complete c _ (one_more_is_greater _)) l)
    atom_stop (without_branches {n} {in_look} {f} o b c h) =
        opened p n in_look f o ∙ condition_then p _ _ _ _ _ (inside n _ _ _ (branches_complete b _ (one_more_is_greater _)))
        ∙ no_branches p _ _ _ (inside n _ _ _ (branches_complete c _ (one_more_is_greater _))) h

    pub piece_stop : {n : ℕ} {in_look : Bool} {f : Flags} {t : Text} {e : ParseFault} → PieceFails p n in_look f t e → parse_piece p (inner_parser p n) in_look f t ≡ Err e
    piece_stop (atom_stops s) = ap piece_from (atom_stop s)
    piece_stop (quantifiers_stop {g = g} {after = after} {a} {e} h s) =
        ap piece_from (atom_complete h)
        ∙ ap (λ r. r >>= λ y. Ok (y.0, g, y.1)) ((quantifiers_are_exact p g (most_quantifiers p.oniguruma) a after).fault_is_complete e s)

    pub branch_stop : {n : ℕ} {in_look : Bool} {f : Flags} {t : Text} {e : ParseFault} → BranchFails p n in_look f t e → (m : ℕ) → length t < m →
        parse_branch p (inner_parser p n) m in_look f t ≡ Err e
    branch_stop s zero k = absurd (not-suc-le-zero k)
    branch_stop (layout_stops {n} {in_look} {f} s) (suc m) k = layout_stopped p (inner_parser p n) m in_look f s
    branch_stop (piece_stops {n} {in_look} {f} s q) (suc m) k =
        pieces_go_on p (inner_parser p n) m in_look f s (piece_stop_goes_on q) ∙ ap (branch_from (inner_parser p n) m in_look) (piece_stop q)
    branch_stop (later_piece_stops {n} {in_look} {f} {tree = tree} s q b) (suc m) k =
        pieces_go_on p (inner_parser p n) m in_look f s (piece_goes_on q) ∙ ap (branch_from (inner_parser p n) m in_look) (piece_complete q)
        ∙ ap (with_others tree) (branch_stop b m (let x = skipped_shorter s in let y = piece_shorter p q in omega arith))

    pub branches_stop : {n : ℕ} {in_look : Bool} {f : Flags} {t : Text} {e : ParseFault} → BranchesFail p n in_look f t e → (m : ℕ) → length t < m →
        branches p (inner_parser p n) m in_look f t ≡ Err e
    branches_stop s zero k = absurd (not-suc-le-zero k)
    branches_stop (first_stops {n} {in_look} {f} {t} s) (suc m) k =
        branch_then p (inner_parser p n) m in_look f t (branch_stop s (length t + 1) (one_more_is_greater (length t)))
    branches_stop (later_branch_stops {n} {in_look} {f} {t = t} {branch = branch} b s) (suc m) k =
        branch_then p (inner_parser p n) m in_look f t (branch_complete b (length t + 1) (one_more_is_greater (length t)))
        ∙ ap (with_branches branch) (branches_stop s m (let x = branch_shorter p b in omega arith))
