-- How many units pieces and branches make, by the rows of the grammar. Lengths are those of the texts before and after what is read.
use Rattle.std.proofs.Common.{◌≡◌, ℕ, suc, ◌+◌, ◌*◌, ◌≤◌, ◌<◌, Bool, List, ◌∷◌, Option, ℤ, length, refl, arith}
use Rattle.fancy_regex_text.specs.Text.{Text}
use Rattle.fancy_regex_text.specs.Names.{Named}
use Rattle.fancy_regex_lex.specs.Escapes.{Escape, char_escape, byte_escape, class_escape, any_escape, newline_escape, assertion_escape, continue_escape, keep_out_escape, reference_escape, call_escape}
use Rattle.fancy_regex_lex.specs.Openings.{if_set}
use Rattle.fancy_regex_lex.specs.declared.token.Quantifier.{Quantifier}
use Rattle.fancy_regex_lex.specs.declared.token.QuantifierSuffix.{QuantifierSuffix}
use Rattle.fancy_regex_lex.specs.declared.token.Flags.{Flags}
use Rattle.fancy_regex_lex_grammar.specs.Prefixes.{IsTextUntil, here, later}
use Rattle.fancy_regex_lex_grammar.specs.Openings.{IsOpening, reference_condition}
use Rattle.fancy_regex_lex_grammar.proofs.ClassProofs.{escape_shorter}
use Rattle.fancy_regex_tree.specs.declared.parser_config.ParserConfig.{ParserConfig}
use Rattle.fancy_regex_tree.specs.Tree.{Tree, ast_condition}
use Rattle.fancy_regex_tree.specs.Atoms.{place, escape_tree, target_named}
use Rattle.fancy_regex_tree.specs.TreeBuilders.{pattern_of}
use Rattle.fancy_regex_tree.specs.Quantifiers.{Atom}
use Rattle.fancy_regex_tree.specs.Parser.{Branches}
use Rattle.fancy_regex_grammar.specs.Quantifiers.{IsRepeated, a_repeat, possessive, reversed, IsQuantifierApplied, repeats, dropped, IsQuantified, no_more, enough, and_quantifier}
use Rattle.fancy_regex_grammar.specs.Patterns.{IsAtom, dot, caret, dollar, a_class, escaped, character, capturing_group, bare_group, flag_setting, an_atomic_group, a_look_around}
use Rattle.fancy_regex_grammar.specs.Patterns.{bare_condition, if_reference, if_expression, definitions, an_absent_repeater, absent_bounds, a_reference, a_call, a_verb, IsPiece}
use Rattle.fancy_regex_grammar.specs.Patterns.{with_quantifiers, IsBranch, no_more_pieces, and_piece, IsBranches, last_branch, and_branch}
use Rattle.fancy_regex_tree_laws.proofs.WeightUnits.{units, pieces_measure, branches_measure}
use Rattle.fancy_regex_tree_laws.proofs.BranchWeights.{pattern_read, expression_read, absent_read, whole_read}
use Rattle.fancy_regex_grammar.proofs.LengthLemmas.{skipped_shorter, quantifier_shorter, marks_shorter, class_shorter, opening_shorter, branches_shorter}

-- an escape is one unit
escape_leaf : (p : ParserConfig) (f : Flags) (position : ℕ) (e : Escape) → units (escape_tree p f position e) ≡ 1
escape_leaf p f position (char_escape c) = refl
escape_leaf p f position (byte_escape b) = refl
escape_leaf p f position (class_escape t) = refl
escape_leaf p f position (any_escape newline) = refl
escape_leaf p f position newline_escape = refl
escape_leaf p f position (assertion_escape a) = refl
escape_leaf p f position continue_escape = refl
escape_leaf p f position keep_out_escape = refl
escape_leaf p f position (reference_escape target level) = refl
escape_leaf p f position (call_escape target) = refl

before_shorter : {close : ℕ} {t front rest : Text} → IsTextUntil close t front rest → length rest < length t
before_shorter here = omega arith
before_shorter (later n b) = let k = before_shorter b in omega arith

-- a reference as condition opens with more than its parenthesis
long_condition : {unicode : Bool} {f : Flags} {t rest : Text} {target : Named} {level : Option ℤ} → IsOpening unicode f t (if_set target level) rest →
    length rest + 1 ≤ length t
long_condition (reference_condition c) = let k = before_shorter c.parted in omega arith

repeated_small : {p : ParserConfig} {f : Flags} {q : Quantifier} {m : QuantifierSuffix} {e tree : Tree} → IsRepeated p f q m e tree → units tree ≤ units e + 4
repeated_small (a_repeat i h g) = omega arith
repeated_small (possessive i h g) = omega arith
repeated_small (reversed i h g) = omega arith

under_small : {p : ParserConfig} {f : Flags} {q : Quantifier} {m : QuantifierSuffix} {e : Atom} {tree : Tree} → IsQuantifierApplied p f q m e tree → units tree ≤ units e.tree + 4
under_small (repeats h r) = repeated_small r
under_small (dropped d) = omega arith

-- each quantifier takes a character at least, and makes four units at most
quantified_small : {p : ParserConfig} {f : Flags} {more : ℕ} {e : Atom} {t rest : Text} {whole : Tree} → IsQuantified p f more e t whole rest →
    units whole + 4 * length rest ≤ units e.tree + 4 * length t
quantified_small (no_more s n) = let a = skipped_shorter s in omega arith
quantified_small (enough s n) = let a = skipped_shorter s in omega arith
quantified_small (and_quantifier s q m u more) =
    let a = skipped_shorter s in let b = quantifier_shorter q in let c = marks_shorter m in let d = under_small u in let e = quantified_small more in
    omega (arith, a, b, c, d, e)

-- a construct with this inside
within : (body : Branches) (t text rest : ℕ) → text ≤ t → branches_measure body + 4 * suc rest ≤ 4 * text + 4 → suc rest ≤ text →
    units (pattern_of body) + 4 * rest + 3 ≤ 4 * t
within body t text rest h small shorter = omega (arith, pattern_read body text rest (omega (arith, small)) (omega (arith, shorter)), h)

module _ (p : ParserConfig) where
  mutual
    atom_small : {n : ℕ} {in_look : Bool} {f g : Flags} {t rest : Text} {e : Atom} → IsAtom p n in_look f t e g rest →
        units e.tree + 4 * length rest + 3 ≤ 4 * length t
    atom_small dot = omega arith
    atom_small caret = omega arith
    atom_small dollar = omega arith
    atom_small (a_class c) = let k = class_shorter c in omega arith
    atom_small (escaped {f = f} {t = t} {e = e} h) =
        let k = escape_shorter h in omega (arith, k, escape_leaf p f (place p (0x5C ∷ t)) e)
    atom_small (character a k) = omega arith
    atom_small (capturing_group {t = t} {inside = text} {rest = rest} {body = body} o b) =
        let k = within body (length t) (length text) (length rest) (opening_shorter o) (branches_small b) (branches_shorter p b) in omega (arith, k)
    atom_small (bare_group {t = t} {inside = text} {rest = rest} {body = body} o b) =
        let k = within body (length t) (length text) (length rest) (opening_shorter o) (branches_small b) (branches_shorter p b) in omega (arith, k)
    atom_small (flag_setting o) = let k = opening_shorter o in omega arith
    atom_small (an_atomic_group {t = t} {inside = text} {rest = rest} {body = body} o b) =
        let k = within body (length t) (length text) (length rest) (opening_shorter o) (branches_small b) (branches_shorter p b) in omega (arith, k)
    atom_small (a_look_around {t = t} {inside = text} {rest = rest} {body = body} o b) =
        let k = within body (length t) (length text) (length rest) (opening_shorter o) (branches_small b) (branches_shorter p b) in omega (arith, k)
    atom_small (bare_condition o b c) = let k = opening_shorter o in let m = branches_shorter p b in omega arith
    atom_small (if_reference {t = t} {inside = text} {rest = rest} {body = body} {target = target} {level = level} o b c) =
        let k = long_condition o in
        let small = branches_small b in
        let shorter = branches_shorter p b in
        let all = expression_read (ast_condition (target_named target) level (place p (0x28 ∷ t))) body (length text + 1) (length text) (length rest)
        (omega arith) (omega (arith, small)) (omega (arith, shorter)) in
        omega (arith, k, all)
    atom_small (if_expression {inside = text} {between = between} {rest = rest} {c = c} {body = body} o b d h) =
        let k = opening_shorter o in
        let first = pattern_read c (length text) (length between) (omega (arith, branches_small b)) (omega (arith, branches_shorter p b)) in
        let small = branches_small d in
        let shorter = branches_shorter p d in
        let all = expression_read (pattern_of c) body (length text) (length between) (length rest) first (omega (arith, small)) (omega (arith, shorter)) in
        omega (arith, k, all)
    atom_small (definitions {t = t} {inside = text} {rest = rest} {body = body} o b) =
        let k = within body (length t) (length text) (length rest) (opening_shorter o) (branches_small b) (branches_shorter p b) in omega (arith, k)
    atom_small (an_absent_repeater {t = t} {inside = text} {rest = rest} {body = body} o b) =
        let k = within body (length t) (length text) (length rest) (opening_shorter o) (branches_small b) (branches_shorter p b) in omega (arith, k)
    atom_small (absent_bounds {inside = text} {rest = rest} {body = body} o b) =
        let k = opening_shorter o in
        let all = absent_read body (length text) (length rest) (omega (arith, branches_small b)) (omega (arith, branches_shorter p b)) in
        omega (arith, k, all)
    atom_small (a_reference o) = let k = opening_shorter o in omega arith
    atom_small (a_call o) = let k = opening_shorter o in omega arith
    atom_small (a_verb o) = let k = opening_shorter o in omega arith

    piece_small : {n : ℕ} {in_look : Bool} {f g : Flags} {t rest : Text} {e : Tree} → IsPiece p n in_look f t e g rest →
        units e + 4 * length rest + 3 ≤ 4 * length t
    piece_small (with_quantifiers a q) = let k = atom_small a in let m = quantified_small q in omega (arith, k, m)

    branch_small : {n : ℕ} {in_look : Bool} {f g : Flags} {t rest : Text} {es : List Tree} → IsBranch p n in_look f t es g rest →
        pieces_measure es + 4 * length rest ≤ 4 * length t
    branch_small (no_more_pieces s e) = let k = skipped_shorter s in omega arith
    branch_small (and_piece s q b) = let k = skipped_shorter s in let m = piece_small q in let l = branch_small b in omega (arith, k, m, l)

    branches_small : {n : ℕ} {in_look : Bool} {f g : Flags} {t rest : Text} {body : Branches} → IsBranches p n in_look f t body g rest →
        branches_measure body + 4 * length rest ≤ 4 * length t + 4
    branches_small (last_branch b c) = let k = branch_small b in omega (arith, k)
    branches_small (and_branch b c) = let k = branch_small b in let m = branches_small c in omega (arith, k, m)

  pub body_small : {n : ℕ} {in_look : Bool} {f g : Flags} {t : Text} {body : Branches} {rest : Text} → IsBranches p n in_look f t body g rest →
      units (pattern_of body) ≤ 4 * length t + 1
  body_small {t = t} {body = body} {rest = rest} b = whole_read body (length t) (length rest) (branches_small b)
