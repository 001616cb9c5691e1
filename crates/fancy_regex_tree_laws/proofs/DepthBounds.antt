-- How long the paths in pieces and branches are, where so many levels of parentheses may nest.
use Rattle.std.proofs.Common.{ℕ, ◌+◌, ◌*◌, ◌≤◌, Bool, true, false, List, ◌∷◌, arith}
use Rattle.std.proofs.Math.Nat.{max-le}
use Rattle.fancy_regex_text.specs.Text.{Text}
use Rattle.fancy_regex_lex.specs.Quantifiers.{most_quantifiers}
use Rattle.fancy_regex_lex.specs.declared.token.Quantifier.{Quantifier}
use Rattle.fancy_regex_lex.specs.declared.token.QuantifierSuffix.{QuantifierSuffix}
use Rattle.fancy_regex_lex.specs.declared.token.Flags.{Flags}
use Rattle.fancy_regex_tree.specs.declared.parser_config.ParserConfig.{ParserConfig}
use Rattle.fancy_regex_tree.specs.Tree.{Tree, ast_condition}
use Rattle.fancy_regex_tree.specs.Atoms.{place, target_named}
use Rattle.fancy_regex_tree.specs.TreeBuilders.{pattern_of}
use Rattle.fancy_regex_tree.specs.Quantifiers.{Atom}
use Rattle.fancy_regex_tree.specs.Parser.{Branches}
use Rattle.fancy_regex_tree.specs.Bounds.{depth, max_depth, max_depth_of_all}
use Rattle.fancy_regex_tree.proofs.TreeBounds.{pattern_low, yes_and_no_low, absent_low}
use Rattle.fancy_regex_grammar.specs.Quantifiers.{IsRepeated, a_repeat, possessive, reversed, IsQuantifierApplied, repeats, dropped, IsQuantified, no_more, enough, and_quantifier}
use Rattle.fancy_regex_grammar.specs.Patterns.{IsAtom, dot, caret, dollar, a_class, escaped, character, capturing_group, bare_group, flag_setting, an_atomic_group, a_look_around}
use Rattle.fancy_regex_grammar.specs.Patterns.{bare_condition, if_reference, if_expression, definitions, an_absent_repeater, absent_bounds, a_reference, a_call, a_verb, IsPiece}
use Rattle.fancy_regex_grammar.specs.Patterns.{with_quantifiers, IsBranch, no_more_pieces, and_piece, IsBranches, last_branch, and_branch}
use Rattle.fancy_regex_tree_laws.proofs.NodeBounds.{escape_leaf}

repeated_low : {p : ParserConfig} {f : Flags} {q : Quantifier} {m : QuantifierSuffix} {e tree : Tree} → IsRepeated p f q m e tree → depth tree ≤ depth e + 2
repeated_low (a_repeat i h g) = omega arith
repeated_low (possessive i h g) = omega arith
repeated_low (reversed i h g) = omega arith

under_low : {p : ParserConfig} {f : Flags} {q : Quantifier} {m : QuantifierSuffix} {e : Atom} {tree : Tree} → IsQuantifierApplied p f q m e tree → depth tree ≤ depth e.tree + 2
under_low (repeats h r) = repeated_low r
under_low (dropped d) = omega arith

quantified_low : {p : ParserConfig} {f : Flags} {more : ℕ} {e : Atom} {t rest : Text} {whole : Tree} → IsQuantified p f more e t whole rest →
    depth whole ≤ depth e.tree + 2 * more
quantified_low (no_more s n) = omega arith
quantified_low (enough s n) = omega arith
quantified_low (and_quantifier s q m u more) = let d = under_low u in let e = quantified_low more in omega (arith, d, e)

most_is_five : (oniguruma : Bool) → most_quantifiers oniguruma ≤ 5
most_is_five true = omega arith
most_is_five false = omega arith

paths_low : (n : ℕ) (body : Branches) → max_depth_of_all body ≤ 13 * n + 11 → depth (pattern_of body) ≤ 13 * n + 13
paths_low n body h = let k = pattern_low (13 * n + 11) body h in omega (arith, k)

module _ (p : ParserConfig) where
  mutual
    atom_low : {n : ℕ} {in_look : Bool} {f g : Flags} {t rest : Text} {e : Atom} → IsAtom p n in_look f t e g rest → depth e.tree ≤ 13 * n + 1
    atom_low dot = omega arith
    atom_low caret = omega arith
    atom_low dollar = omega arith
    atom_low (a_class c) = omega arith
    atom_low (escaped {f = f} {t = t} {e = e} h) = omega (arith, (escape_leaf p f (place p (0x5C ∷ t)) e).1)
    atom_low (character a k) = omega arith
    atom_low (capturing_group {n = n} {body = body} o b) = let k = paths_low n body (branches_low b) in omega (arith, k)
    atom_low (bare_group {n = n} {body = body} o b) = let k = paths_low n body (branches_low b) in omega (arith, k)
    atom_low (flag_setting o) = omega arith
    atom_low (an_atomic_group {n = n} {body = body} o b) = let k = paths_low n body (branches_low b) in omega (arith, k)
    atom_low (a_look_around {n = n} {body = body} o b) = let k = paths_low n body (branches_low b) in omega (arith, k)
    atom_low (bare_condition o b c) = omega arith
    atom_low (if_reference {n = n} {t = t} {body = body} {target = target} {level = level} o b c) =
        let k = yes_and_no_low (13 * n + 11) (ast_condition (target_named target) level (place p (0x28 ∷ t))) body (branches_low b) (omega arith) in
        omega (arith, k)
    atom_low (if_expression {n = n} {c = c} {body = body} o b d h) =
        let k = yes_and_no_low (13 * n + 11) (pattern_of c) body (branches_low d) (omega (arith, paths_low n c (branches_low b))) in omega (arith, k)
    atom_low (definitions {n = n} {body = body} o b) = let k = paths_low n body (branches_low b) in omega (arith, k)
    atom_low (an_absent_repeater {n = n} {body = body} o b) = let k = paths_low n body (branches_low b) in omega (arith, k)
    atom_low (absent_bounds {n = n} {body = body} o b) = let k = absent_low (13 * n + 11) body (branches_low b) in omega (arith, k)
    atom_low (a_reference o) = omega arith
    atom_low (a_call o) = omega arith
    atom_low (a_verb o) = omega arith

    piece_low : {n : ℕ} {in_look : Bool} {f g : Flags} {t rest : Text} {e : Tree} → IsPiece p n in_look f t e g rest → depth e ≤ 13 * n + 11
    piece_low (with_quantifiers a q) = let k = atom_low a in let m = quantified_low q in omega (arith, k, m, most_is_five p.oniguruma)

    branch_low : {n : ℕ} {in_look : Bool} {f g : Flags} {t rest : Text} {es : List Tree} → IsBranch p n in_look f t es g rest → max_depth es ≤ 13 * n + 11
    branch_low (no_more_pieces s e) = omega arith
    branch_low (and_piece s q b) = max-le (piece_low q) (branch_low b)

    branches_low : {n : ℕ} {in_look : Bool} {f g : Flags} {t rest : Text} {body : Branches} → IsBranches p n in_look f t body g rest →
        max_depth_of_all body ≤ 13 * n + 11
    branches_low (last_branch b c) = max-le (branch_low b) (omega arith)
    branches_low (and_branch b c) = max-le (branch_low b) (branches_low c)

  pub body_low : {n : ℕ} {in_look : Bool} {f g : Flags} {t rest : Text} {body : Branches} → IsBranches p n in_look f t body g rest →
      depth (pattern_of body) ≤ 13 * n + 13
  body_low {n = n} {body = body} b = paths_low n body (branches_low b)
