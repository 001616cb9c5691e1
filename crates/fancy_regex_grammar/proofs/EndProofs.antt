-- What is left after branches is an end of the text, and no fault lies outside of it.
use Rattle.std.proofs.Common.{◌≤◌, ℕ, Bool, List, ◌∷◌, le_refl, le_trans, le_of_eq}
use Rattle.fancy_regex_text.specs.Text.{Text, bytes}
use Rattle.fancy_regex_text.specs.ParseFault.{ParseFault}
use Rattle.fancy_regex_lex.specs.declared.token.Flags.{Flags}
use Rattle.fancy_regex_tree.specs.declared.parser_config.ParserConfig.{ParserConfig}
use Rattle.fancy_regex_tree.specs.Tree.{Tree}
use Rattle.fancy_regex_tree.specs.Quantifiers.{Atom}
use Rattle.fancy_regex_tree.specs.Parser.{Branches}
use Rattle.fancy_regex_lex_grammar.proofs.EndProofs.{Ends, all, past, further, is_end, bytes_left, none_left, skipped_ends, quantifier_ends, marks_end, escape_ends, class_ends, opening_ends, layout_inside, class_inside, opening_inside}
use Rattle.fancy_regex_grammar.specs.Quantifiers.{IsQuantified, no_more, enough, and_quantifier, QuantifiersFail, before_quantifier, too_many, no_target, before_marks, after_quantifier}
use Rattle.fancy_regex_grammar.specs.Patterns.{IsAtom, dot, caret, dollar, a_class, escaped, character, capturing_group, bare_group, flag_setting, an_atomic_group, a_look_around, bare_condition, if_reference, if_expression, definitions, an_absent_repeater, absent_bounds, a_reference, a_call, a_verb, IsPiece, with_quantifiers, IsBranch, no_more_pieces, and_piece, IsBranches, last_branch, and_branch}
use Rattle.fancy_regex_grammar.specs.Faults.{AtomFails, class_stops, escape_stops, no_atom, too_deep, opening_stops, inside_stops, unclosed, body_stops, body_unclosed, without_branches, PieceFails, atom_stops, quantifiers_stop, BranchFails, layout_stops, piece_stops, later_piece_stops, BranchesFail, first_stops, later_branch_stops, PatternFails, inside_pattern, nothing_to_close}
use Rattle.fancy_regex_grammar.specs.GrammarLaws.{RestIsSuffix, PatternFaultsAreInside}

quantified_ends : {p : ParserConfig} {f : Flags} {more : ℕ} {e : Atom} {t rest : Text} {whole : Tree} → IsQuantified p f more e t whole rest → Ends rest t
quantified_ends (no_more s n) = skipped_ends s
quantified_ends (enough s n) = skipped_ends s
quantified_ends (and_quantifier s q m u more) = further (quantified_ends more) (further (marks_end m) (further (quantifier_ends q) (skipped_ends s)))

quantifiers_inside : {p : ParserConfig} {f : Flags} {more : ℕ} {e : Atom} {t : Text} {fault : ParseFault} → QuantifiersFail p f more e t fault → fault.left ≤ bytes t
quantifiers_inside (before_quantifier l) = layout_inside l
quantifiers_inside (too_many s h q) = bytes_left (skipped_ends s)
quantifiers_inside (no_target s q h n) = bytes_left (skipped_ends s)
quantifiers_inside (before_marks s q d l) = le_trans (layout_inside l) (bytes_left (further (quantifier_ends q) (skipped_ends s)))
quantifiers_inside (after_quantifier s q m u more) =
    le_trans (quantifiers_inside more) (bytes_left (further (marks_end m) (further (quantifier_ends q) (skipped_ends s))))

module _ (p : ParserConfig) where
  -- after a construct with this inside
  around : {t inside rest : Text} → Ends (0x29 ∷ rest) inside → Ends inside t → Ends rest (0x28 ∷ t)
  around h k = past (further (further (past all) h) k)

  mutual
    atom_ends : {n : ℕ} {in_look : Bool} {f g : Flags} {t rest : Text} {e : Atom} → IsAtom p n in_look f t e g rest → Ends rest t
    atom_ends dot = past all
    atom_ends caret = past all
    atom_ends dollar = past all
    atom_ends (a_class c) = past (class_ends c)
    atom_ends (escaped e) = past (escape_ends e)
    atom_ends (character h n) = past all
    atom_ends (capturing_group o b) = around (branches_end b) (opening_ends o)
    atom_ends (bare_group o b) = around (branches_end b) (opening_ends o)
    atom_ends (flag_setting o) = past (opening_ends o)
    atom_ends (an_atomic_group o b) = around (branches_end b) (opening_ends o)
    atom_ends (a_look_around o b) = around (branches_end b) (opening_ends o)
    atom_ends (bare_condition o b h) = around (branches_end b) (opening_ends o)
    atom_ends (if_reference o b h) = around (branches_end b) (opening_ends o)
    atom_ends (if_expression o b c h) = around (branches_end c) (further (further (past all) (branches_end b)) (opening_ends o))
    atom_ends (definitions o b) = around (branches_end b) (opening_ends o)
    atom_ends (an_absent_repeater o b) = around (branches_end b) (opening_ends o)
    atom_ends (absent_bounds o b) = around (branches_end b) (opening_ends o)
    atom_ends (a_reference o) = past (opening_ends o)
    atom_ends (a_call o) = past (opening_ends o)
    atom_ends (a_verb o) = past (opening_ends o)

    piece_ends : {n : ℕ} {in_look : Bool} {f g : Flags} {t rest : Text} {e : Tree} → IsPiece p n in_look f t e g rest → Ends rest t
    piece_ends (with_quantifiers a q) = further (quantified_ends q) (atom_ends a)

    branch_ends : {n : ℕ} {in_look : Bool} {f g : Flags} {t rest : Text} {es : List Tree} → IsBranch p n in_look f t es g rest → Ends rest t
    branch_ends (no_more_pieces s e) = skipped_ends s
    branch_ends (and_piece s q b) = further (branch_ends b) (further (piece_ends q) (skipped_ends s))

    branches_end : {n : ℕ} {in_look : Bool} {f g : Flags} {t rest : Text} {body : Branches} → IsBranches p n in_look f t body g rest → Ends rest t
    branches_end (last_branch b c) = branch_ends b
    branches_end (and_branch b c) = further (branches_end c) (further (past all) (branch_ends b))

  mutual
    atom_inside : {n : ℕ} {in_look : Bool} {f : Flags} {t : Text} {e : ParseFault} → AtomFails p n in_look f t e → e.left ≤ bytes t
    atom_inside (class_stops s) = le_trans (class_inside s) (bytes_left (past all))
    atom_inside (escape_stops s) = le_of_eq s.place
    atom_inside (no_atom {t = t} q) = le_refl (bytes t)
    atom_inside (too_deep {t = t}) = le_refl (bytes (0x28 ∷ t))
    atom_inside (opening_stops s) = opening_inside s
    atom_inside (inside_stops o h s) = le_trans (branches_inside s) (bytes_left (past (opening_ends o)))
    atom_inside (unclosed {t = t} o h b l) = none_left (0x28 ∷ t)
    atom_inside (body_stops o b s) = le_trans (branches_inside s) (bytes_left (around (branches_end b) (opening_ends o)))
    atom_inside (body_unclosed {t = t} o b c l) = none_left (0x28 ∷ t)
    atom_inside (without_branches {t = t} o b c h) = le_refl (bytes (0x28 ∷ t))

    piece_inside : {n : ℕ} {in_look : Bool} {f : Flags} {t : Text} {e : ParseFault} → PieceFails p n in_look f t e → e.left ≤ bytes t
    piece_inside (atom_stops s) = atom_inside s
    piece_inside (quantifiers_stop a s) = le_trans (quantifiers_inside s) (bytes_left (atom_ends a))

    branch_inside : {n : ℕ} {in_look : Bool} {f : Flags} {t : Text} {e : ParseFault} → BranchFails p n in_look f t e → e.left ≤ bytes t
    branch_inside (layout_stops s) = layout_inside s
    branch_inside (piece_stops s q) = le_trans (piece_inside q) (bytes_left (skipped_ends s))
    branch_inside (later_piece_stops s q b) = le_trans (branch_inside b) (bytes_left (further (piece_ends q) (skipped_ends s)))

    branches_inside : {n : ℕ} {in_look : Bool} {f : Flags} {t : Text} {e : ParseFault} → BranchesFail p n in_look f t e → e.left ≤ bytes t
    branches_inside (first_stops s) = branch_inside s
    branches_inside (later_branch_stops b s) = le_trans (branches_inside s) (bytes_left (further (past all) (branch_ends b)))

  pattern_inside : {f : Flags} {t : Text} {e : ParseFault} → PatternFails p f t e → e.left ≤ bytes t
  pattern_inside (inside_pattern s) = branches_inside s
  pattern_inside (nothing_to_close b n) = bytes_left (branches_end b)

pub left_is_end : RestIsSuffix
left_is_end p n in_look f g t rest body b = is_end (branches_end p b)

pub pattern_faults_are_inside : PatternFaultsAreInside
pattern_faults_are_inside p f t e s = pattern_inside p s
