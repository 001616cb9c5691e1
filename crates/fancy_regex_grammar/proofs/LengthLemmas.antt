-- What is left is no longer than the text, and shorter after an atom.
use Rattle.std.proofs.Common.{ℕ, ◌<◌, ◌≤◌, Bool, Option, List, length, codes, arith}
use Rattle.std.proofs.lemmas.List.{length-append}
use Rattle.fancy_regex_text.specs.Text.{Text}
use Rattle.fancy_regex_lex.specs.Openings.{Opening}
use Rattle.fancy_regex_lex.specs.declared.token.Quantifier.{Quantifier}
use Rattle.fancy_regex_lex.specs.declared.token.QuantifierSuffix.{QuantifierSuffix}
use Rattle.fancy_regex_lex.specs.declared.token.Flags.{Flags}
use Rattle.fancy_regex_tree.specs.declared.parser_config.ParserConfig.{ParserConfig}
use Rattle.fancy_regex_tree.specs.Tree.{Tree}
use Rattle.fancy_regex_tree.specs.Quantifiers.{Atom}
use Rattle.fancy_regex_tree.specs.Parser.{Branches}
use Rattle.fancy_regex_lex_grammar.specs.Prefixes.{IsRun, at_end, at_other, one_more, IsTextUntil, here, later, IsOptional, there, absent_at_end, absent}
use Rattle.fancy_regex_lex_grammar.specs.Layout.{IsComment, closes, hides, goes_on, IsLine, newline, longer, IsLayout, nothing_more, a_comment, a_blank, a_line, IsSkipped}
use Rattle.fancy_regex_lex_grammar.specs.Layout as layout
use Rattle.fancy_regex_lex_grammar.specs.Names.{IsLeadingNumber, no_digits, some_digits}
use Rattle.fancy_regex_lex_grammar.specs.Counts.{IsSpacedNumber, IsBracedQuantifier, exactly, at_least, at_most, between, IsQuantifier, optional, any_number, one_or_more, counted, IsMarks, no_marks, lazy, possessive, lazy_and_possessive}
use Rattle.fancy_regex_lex_grammar.specs.Flags.{IsFlags, before_body, alone, and_flag}
use Rattle.fancy_regex_lex_grammar.specs.Classes as classes
use Rattle.fancy_regex_lex_grammar.specs.Classes.{IsClassItem, itself, backspace, IsClassItems, closes_inner, opens_inner, and_part, IsClass, class}
use Rattle.fancy_regex_lex_grammar.specs.Openings as openings
use Rattle.fancy_regex_lex_grammar.specs.Openings.{IsVerb, IsOpening, a_group, a_named_group, a_python_named_group, flags_for_body, flags_alone, look_ahead, no_look_ahead, look_behind, no_look_behind, reference_condition, expression_condition, absent_repeater}
use Rattle.fancy_regex_lex_grammar.proofs.ClassProofs.{escape_shorter}
use Rattle.fancy_regex_grammar.specs.Quantifiers.{IsQuantified, no_more, enough, and_quantifier}
use Rattle.fancy_regex_grammar.specs.Patterns.{IsAtom, dot, caret, dollar, a_class, escaped, character, capturing_group, bare_group, flag_setting, an_atomic_group, a_look_around, bare_condition, if_reference, if_expression, definitions, an_absent_repeater, absent_bounds, a_reference, a_call, a_verb, IsPiece, with_quantifiers, IsBranch, no_more_pieces, and_piece, IsBranches, last_branch, and_branch}

before_shorter : {close : ℕ} {t front rest : Text} → IsTextUntil close t front rest → length rest < length t
before_shorter here = omega arith
before_shorter (later n b) = let k = before_shorter b in omega arith

run_shorter : {test : ℕ → Bool} {t front rest : Text} → IsRun test t front rest → length rest ≤ length t
run_shorter at_end = omega arith
run_shorter (at_other h) = omega arith
run_shorter (one_more h r) = let k = run_shorter r in omega arith

comment_shorter : {t u : Text} → IsComment t u → length u ≤ length t
comment_shorter closes = omega arith
comment_shorter (hides h) = let k = comment_shorter h in omega arith
comment_shorter (goes_on a b h) = let k = comment_shorter h in omega arith

line_shorter : {t u : Text} → IsLine t u → length u ≤ length t
line_shorter layout.at_end = omega arith
line_shorter newline = omega arith
line_shorter (longer a h) = let k = line_shorter h in omega arith

layout_shorter : {verbose : Bool} {t u : Text} → IsLayout verbose t u → length u ≤ length t
layout_shorter nothing_more = omega arith
layout_shorter (a_comment c l) = let k = comment_shorter c in let m = layout_shorter l in omega arith
layout_shorter (a_blank v b l) = let m = layout_shorter l in omega arith
layout_shorter (a_line v c l) = let k = line_shorter c in let m = layout_shorter l in omega arith

pub skipped_shorter : {verbose : Bool} {t u : Text} → IsSkipped verbose t u → length u ≤ length t
skipped_shorter s = layout_shorter s.layout

counted_shorter : {t rest : Text} {n : Option ℕ} → IsLeadingNumber t n rest → length rest ≤ length t
counted_shorter (no_digits r) = run_shorter r
counted_shorter (some_digits r m) = run_shorter r

number_shorter : {verbose : Bool} {t rest : Text} {n : ℕ} → IsSpacedNumber verbose t n rest → length rest ≤ length t
number_shorter s =
    let a = skipped_shorter s.layout_before in let b = counted_shorter s.number in let c = skipped_shorter s.layout_after in omega (arith, a, b, c)

braced_shorter : {verbose : Bool} {t rest : Text} {q : Quantifier} → IsBracedQuantifier verbose t q rest → length rest ≤ length t
braced_shorter (exactly s a) = let k = number_shorter s in omega arith
braced_shorter (at_least s r a) = let k = number_shorter s in let m = skipped_shorter r in omega arith
braced_shorter (at_most s r a) = let k = skipped_shorter s in let m = number_shorter r in omega arith
braced_shorter (between s r a b) = let k = number_shorter s in let m = number_shorter r in omega arith

pub quantifier_shorter : {verbose : Bool} {t rest : Text} {q : Quantifier} → IsQuantifier verbose t q rest → length rest < length t
quantifier_shorter optional = omega arith
quantifier_shorter any_number = omega arith
quantifier_shorter one_or_more = omega arith
quantifier_shorter (counted b) = let k = braced_shorter b in omega arith

pub marks_shorter : {oniguruma verbose braces : Bool} {t rest : Text} {m : QuantifierSuffix} → IsMarks oniguruma verbose braces t m rest → length rest ≤ length t
marks_shorter (no_marks s n m) = skipped_shorter s
marks_shorter (lazy s n) = let k = skipped_shorter s in omega arith
marks_shorter (possessive s n) = let k = skipped_shorter s in omega arith
marks_shorter (lazy_and_possessive s n) = let k = skipped_shorter s in omega arith

optional_shorter : {sign : ℕ} {t text rest : Text} → IsOptional sign t text rest → length rest ≤ length t
optional_shorter there = omega arith
optional_shorter absent_at_end = omega arith
optional_shorter (absent n) = omega arith

part_shorter : {oniguruma : Bool} {t part rest : Text} → IsClassItem oniguruma t part rest → length rest ≤ length t
part_shorter (itself h) = omega arith
part_shorter backspace = omega arith
part_shorter (classes.escaped e a) = let k = escape_shorter e in omega arith

parts_shorter : {oniguruma : Bool} {level : ℕ} {t text rest : Text} → IsClassItems oniguruma level t text rest → length rest ≤ length t
parts_shorter classes.closes = omega arith
parts_shorter (closes_inner p) = let k = parts_shorter p in omega arith
parts_shorter (opens_inner p) = let k = parts_shorter p in omega arith
parts_shorter (and_part p q) = let k = part_shorter p in let m = parts_shorter q in omega arith

pub class_shorter : {oniguruma : Bool} {t text rest : Text} → IsClass oniguruma t text rest → length rest ≤ length t
class_shorter (class a b p) = let x = optional_shorter a in let y = optional_shorter b in let z = parts_shorter p in omega arith

flags_shorter : {unicode on body : Bool} {f g : Flags} {t rest : Text} → IsFlags unicode on f t g body rest → length rest ≤ length t
flags_shorter before_body = omega arith
flags_shorter alone = omega arith
flags_shorter (and_flag flag flags) = let k = flags_shorter flags in omega arith

pub opening_shorter : {unicode : Bool} {f : Flags} {t rest : Text} {how : Opening} → IsOpening unicode f t how rest → length rest ≤ length t
opening_shorter (a_group n m) = omega arith
opening_shorter (a_named_group c) = let k = before_shorter c.parted in omega arith
opening_shorter (a_python_named_group c) = let k = before_shorter c.parted in omega arith
opening_shorter (flags_for_body h) = let k = flags_shorter h in omega arith
opening_shorter (flags_alone h) = let k = flags_shorter h in omega arith
opening_shorter openings.an_atomic_group = omega arith
opening_shorter look_ahead = omega arith
opening_shorter no_look_ahead = omega arith
opening_shorter look_behind = omega arith
opening_shorter no_look_behind = omega arith
opening_shorter {rest = rest} openings.definitions = let k = length-append (codes "?(DEFINE)") rest in omega arith
opening_shorter (reference_condition c) = let k = before_shorter c.parted in omega arith
opening_shorter (expression_condition n m) = omega arith
opening_shorter openings.absent_bounds = omega arith
opening_shorter (absent_repeater n) = omega arith
opening_shorter (openings.a_reference c) = let k = before_shorter c.parted in omega arith
opening_shorter (openings.a_call c) = let k = before_shorter c.parted in omega arith
opening_shorter (openings.a_verb {word} {rest} v) = let k = length-append word rest in omega arith

pub quantified_shorter : {p : ParserConfig} {f : Flags} {more : ℕ} {e : Atom} {t rest : Text} {whole : Tree} → IsQuantified p f more e t whole rest →
    length rest ≤ length t
quantified_shorter (no_more s n) = skipped_shorter s
quantified_shorter (enough s n) = skipped_shorter s
quantified_shorter (and_quantifier s q m u more) =
    let a = skipped_shorter s in let b = quantifier_shorter q in let c = marks_shorter m in let d = quantified_shorter more in omega arith

module _ (p : ParserConfig) where
  mutual
    pub atom_shorter : {n : ℕ} {in_look : Bool} {f g : Flags} {t rest : Text} {e : Atom} → IsAtom p n in_look f t e g rest → length rest < length t
    atom_shorter dot = omega arith
    atom_shorter caret = omega arith
    atom_shorter dollar = omega arith
    atom_shorter (a_class c) = let k = class_shorter c in omega arith
    atom_shorter (escaped e) = let k = escape_shorter e in omega arith
    atom_shorter (character a k) = omega arith
    atom_shorter (capturing_group o b) = let k = opening_shorter o in let m = branches_shorter b in omega arith
    atom_shorter (bare_group o b) = let k = opening_shorter o in let m = branches_shorter b in omega arith
    atom_shorter (flag_setting o) = let k = opening_shorter o in omega arith
    atom_shorter (an_atomic_group o b) = let k = opening_shorter o in let m = branches_shorter b in omega arith
    atom_shorter (a_look_around o b) = let k = opening_shorter o in let m = branches_shorter b in omega arith
    atom_shorter (bare_condition o b c) = let k = opening_shorter o in let m = branches_shorter b in omega arith
    atom_shorter (if_reference o b c) = let k = opening_shorter o in let m = branches_shorter b in omega arith
    atom_shorter (if_expression o b c d) = let k = opening_shorter o in let m = branches_shorter b in let l = branches_shorter c in omega arith
    atom_shorter (definitions o b) = let k = opening_shorter o in let m = branches_shorter b in omega arith
    atom_shorter (an_absent_repeater o b) = let k = opening_shorter o in let m = branches_shorter b in omega arith
    atom_shorter (absent_bounds o b) = let k = opening_shorter o in let m = branches_shorter b in omega arith
    atom_shorter (a_reference o) = let k = opening_shorter o in omega arith
    atom_shorter (a_call o) = let k = opening_shorter o in omega arith
    atom_shorter (a_verb o) = let k = opening_shorter o in omega arith

    pub piece_shorter : {n : ℕ} {in_look : Bool} {f g : Flags} {t rest : Text} {e : Tree} → IsPiece p n in_look f t e g rest → length rest < length t
    piece_shorter (with_quantifiers a q) = let k = atom_shorter a in let m = quantified_shorter q in omega arith

    pub branch_shorter : {n : ℕ} {in_look : Bool} {f g : Flags} {t rest : Text} {es : List Tree} → IsBranch p n in_look f t es g rest → length rest ≤ length t
    branch_shorter (no_more_pieces s e) = skipped_shorter s
    branch_shorter (and_piece s q b) = let k = skipped_shorter s in let m = piece_shorter q in let l = branch_shorter b in omega arith

    pub branches_shorter : {n : ℕ} {in_look : Bool} {f g : Flags} {t rest : Text} {body : Branches} → IsBranches p n in_look f t body g rest →
        length rest ≤ length t
    branches_shorter (last_branch b c) = branch_shorter b
    branches_shorter (and_branch b c) = let k = branch_shorter b in let m = branches_shorter c in omega arith
