-- What is left of a text is an end of it.
use Rattle.std.proofs.Common.{◌≤◌, ℕ, ℤ, ◌+◌, Bool, Option, [], ◌∷◌, ◌++◌, codes, refl, sym, ap, subst, le_refl, le_trans, arith}
use Rattle.std.specs.Char.{len_utf8}
use Rattle.fancy_regex_text.specs.Text.{Text, IsSuffix, bytes}
use Rattle.fancy_regex_text.specs.ParseFault.{ParseFault}
use Rattle.fancy_regex_text.specs.Names.{Named}
use Rattle.fancy_regex_lex.specs.Escapes.{Escape}
use Rattle.fancy_regex_lex.specs.Openings.{Opening}
use Rattle.fancy_regex_lex.specs.declared.token.Quantifier.{Quantifier}
use Rattle.fancy_regex_lex.specs.declared.token.QuantifierSuffix.{QuantifierSuffix}
use Rattle.fancy_regex_lex.specs.declared.token.Flags.{Flags}
use Rattle.fancy_regex_lex_grammar.specs.Prefixes.{IsRun, at_end, at_other, one_more, IsRunOfLength, none, and_one, IsTextUntil, here, later, IsOptional, there, absent_at_end, absent}
use Rattle.fancy_regex_lex_grammar.specs.Layout as layout
use Rattle.fancy_regex_lex_grammar.specs.Layout.{IsComment, closes, hides, goes_on, IsLine, newline, longer, IsLayout, nothing_more, a_comment, a_blank, a_line, IsSkipped, LayoutFails}
use Rattle.fancy_regex_lex_grammar.specs.Names.{IsLeadingNumber, no_digits, some_digits}
use Rattle.fancy_regex_lex_grammar.specs.Counts.{IsSpacedNumber, IsBracedQuantifier, exactly, at_least, at_most, between, IsQuantifier, optional, any_number, one_or_more, counted, IsMarks, no_marks, lazy, possessive, lazy_and_possessive}
use Rattle.fancy_regex_lex_grammar.specs.Flags.{IsFlags, before_body, alone, and_flag, FlagsFail, text_ends, at_letter, at_later_letter}
use Rattle.fancy_regex_lex_grammar.specs.Escapes as escapes
use Rattle.fancy_regex_lex_grammar.specs.Escapes.{IsBracedHex, IsClosedReference, IsBracketed, in_angles, in_quotes, IsEscape, a_byte, ascii, four_or_eight, code_in_braces, property_of_one_letter, negated_property, named_boundary, word_boundary, numbered_reference, back_reference, call}
use Rattle.fancy_regex_lex_grammar.specs.Classes as classes
use Rattle.fancy_regex_lex_grammar.specs.Classes.{IsClassItem, itself, backspace, IsClassItems, closes_inner, opens_inner, and_part, IsClass, class, ClassItemsFail, misplaced, after_closing, after_opening, after_part, ClassFails, inside_class}
use Rattle.fancy_regex_lex_grammar.specs.Openings as openings
use Rattle.fancy_regex_lex_grammar.specs.Openings.{IsOpening, a_group, a_named_group, a_python_named_group, flags_for_body, flags_alone, an_atomic_group, look_ahead, no_look_ahead, look_behind, no_look_behind, definitions, reference_condition, expression_condition, absent_bounds, absent_repeater, a_reference, a_call, a_verb, OpeningFails, no_name, no_python_name, in_flags}
use Rattle.fancy_regex_lex_grammar.specs.TokenBounds.{TokensArePrefixes, TokenFaultsAreInside}

-- the first is the end of the second
pub data Ends : Text → Text → Type 0 where
  all : {t : Text} → Ends t t
  past : {c : ℕ} {rest t : Text} → Ends rest t → Ends rest (c ∷ t)

pub further : {a b c : Text} → Ends a b → Ends b c → Ends a c
further h all = h
further h (past k) = past (further h k)

pub past_word : (word rest : Text) → Ends rest (word ++ rest)
past_word [] rest = all
past_word (c ∷ word) rest = past (past_word word rest)

pub is_end : {rest t : Text} → Ends rest t → IsSuffix rest t
is_end all = ([], refl)
is_end (past {c} h) = let (front, is) = is_end h in (c ∷ front, ap (λ x. c ∷ x) is)

pub bytes_left : {rest t : Text} → Ends rest t → bytes rest ≤ bytes t
unfolding bytes
bytes_left {rest} all = le_refl (bytes rest)
bytes_left (past {c} {t = t} h) = le_trans (bytes_left h) (more (len_utf8 c) (bytes t))
  where
    more : (a b : ℕ) → b ≤ a + b
    more a b = omega arith

pub none_left : (t : Text) → bytes [] ≤ bytes t
unfolding bytes
none_left t = at_least_none (bytes t)
  where
    at_least_none : (n : ℕ) → 0 ≤ n
    at_least_none n = omega arith

before_ends : {close : ℕ} {t front rest : Text} → IsTextUntil close t front rest → Ends rest t
before_ends here = past all
before_ends (later n b) = past (before_ends b)

run_ends : {test : ℕ → Bool} {t front rest : Text} → IsRun test t front rest → Ends rest t
run_ends at_end = all
run_ends (at_other h) = all
run_ends (one_more h r) = past (run_ends r)

front_ends : {test : ℕ → Bool} {n : ℕ} {t front rest : Text} → IsRunOfLength test n t front rest → Ends rest t
front_ends none = all
front_ends (and_one h f) = past (front_ends f)

optional_ends : {sign : ℕ} {t text rest : Text} → IsOptional sign t text rest → Ends rest t
optional_ends there = past all
optional_ends absent_at_end = all
optional_ends (absent n) = all

comment_ends : {t u : Text} → IsComment t u → Ends u t
comment_ends closes = past all
comment_ends (hides h) = past (past (comment_ends h))
comment_ends (goes_on a b h) = past (comment_ends h)

line_ends : {t u : Text} → IsLine t u → Ends u t
line_ends layout.at_end = all
line_ends newline = past all
line_ends (longer a h) = past (line_ends h)

layout_ends : {verbose : Bool} {t u : Text} → IsLayout verbose t u → Ends u t
layout_ends nothing_more = all
layout_ends (a_comment c l) = past (past (past (further (layout_ends l) (comment_ends c))))
layout_ends (a_blank v b l) = past (layout_ends l)
layout_ends (a_line v c l) = past (further (layout_ends l) (line_ends c))

pub skipped_ends : {verbose : Bool} {t u : Text} → IsSkipped verbose t u → Ends u t
skipped_ends s = layout_ends s.layout

pub counted_ends : {t rest : Text} {n : Option ℕ} → IsLeadingNumber t n rest → Ends rest t
counted_ends (no_digits r) = run_ends r
counted_ends (some_digits r m) = run_ends r

number_ends : {verbose : Bool} {t rest : Text} {n : ℕ} → IsSpacedNumber verbose t n rest → Ends rest t
number_ends s = further (skipped_ends s.layout_after) (further (counted_ends s.number) (skipped_ends s.layout_before))

braced_ends : {verbose : Bool} {t rest : Text} {q : Quantifier} → IsBracedQuantifier verbose t q rest → Ends rest t
braced_ends (exactly s a) = further (past all) (number_ends s)
braced_ends (at_least s r a) = further (past all) (further (skipped_ends r) (further (past all) (number_ends s)))
braced_ends (at_most s r a) = further (past all) (further (number_ends r) (further (past all) (skipped_ends s)))
braced_ends (between s r a b) = further (past all) (further (number_ends r) (further (past all) (number_ends s)))

pub quantifier_ends : {verbose : Bool} {t rest : Text} {q : Quantifier} → IsQuantifier verbose t q rest → Ends rest t
quantifier_ends optional = past all
quantifier_ends any_number = past all
quantifier_ends one_or_more = past all
quantifier_ends (counted b) = past (braced_ends b)

pub marks_end : {oniguruma verbose braces : Bool} {t rest : Text} {m : QuantifierSuffix} → IsMarks oniguruma verbose braces t m rest → Ends rest t
marks_end (no_marks s n m) = skipped_ends s
marks_end (lazy s n) = further (past all) (skipped_ends s)
marks_end (possessive s n) = further (past all) (skipped_ends s)
marks_end (lazy_and_possessive s n) = further (past (past all)) (skipped_ends s)

pub flags_end : {unicode on body : Bool} {f g : Flags} {t rest : Text} → IsFlags unicode on f t g body rest → Ends rest t
flags_end before_body = past all
flags_end alone = past all
flags_end (and_flag flag flags) = past (flags_end flags)

hex_ends : {t rest : Text} {code : ℕ} → IsBracedHex t code rest → Ends rest t
hex_ends (escapes.braced_hex b f x y) = before_ends b

pub closed_ends : {allow_level : Bool} {close : ℕ} {t rest : Text} {target : Named} {level : Option ℤ} → IsClosedReference allow_level close t target level rest → Ends rest t
closed_ends c = before_ends c.parted

bracketed_ends : {allow_level : Bool} {t rest : Text} {target : Named} {level : Option ℤ} → IsBracketed allow_level t target level rest → Ends rest t
bracketed_ends (in_angles c) = past (closed_ends c)
bracketed_ends (in_quotes c) = past (closed_ends c)

pub escape_ends : {oniguruma : Bool} {t rest : Text} {e : Escape} → IsEscape oniguruma t e rest → Ends rest t
escape_ends (escapes.a_sign s) = past all
escape_ends (a_byte f h) = past (front_ends f)
escape_ends (ascii f h) = past (front_ends f)
escape_ends (four_or_eight l n f p) = past (front_ends f)
escape_ends (code_in_braces l b p) = past (past (hex_ends b))
escape_ends (property_of_one_letter l n) = past (past all)
escape_ends (escapes.property l b n) = past (past (before_ends b))
escape_ends (negated_property l b) = past (past (before_ends b))
escape_ends (named_boundary {name} {rest} b) = past (past_word name rest)
escape_ends (word_boundary n) = past all
escape_ends (numbered_reference r m) = run_ends r
escape_ends (back_reference b) = past (bracketed_ends b)
escape_ends (call b) = past (bracketed_ends b)

part_ends : {oniguruma : Bool} {t part rest : Text} → IsClassItem oniguruma t part rest → Ends rest t
part_ends (itself h) = past all
part_ends backspace = past (past all)
part_ends (classes.escaped e a) = past (escape_ends e)

parts_end : {oniguruma : Bool} {level : ℕ} {t text rest : Text} → IsClassItems oniguruma level t text rest → Ends rest t
parts_end classes.closes = past all
parts_end (closes_inner p) = past (parts_end p)
parts_end (opens_inner p) = past (parts_end p)
parts_end (and_part p q) = further (parts_end q) (part_ends p)

pub class_ends : {oniguruma : Bool} {t text rest : Text} → IsClass oniguruma t text rest → Ends rest t
class_ends (class a b p) = further (parts_end p) (further (optional_ends b) (optional_ends a))

pub opening_ends : {unicode : Bool} {f : Flags} {t rest : Text} {how : Opening} → IsOpening unicode f t how rest → Ends rest t
opening_ends (a_group n m) = all
opening_ends (a_named_group c) = past (past (before_ends c.parted))
opening_ends (a_python_named_group c) = past (past (past (before_ends c.parted)))
opening_ends (flags_for_body h) = past (flags_end h)
opening_ends (flags_alone h) = past (flags_end h)
opening_ends an_atomic_group = past (past all)
opening_ends look_ahead = past (past all)
opening_ends no_look_ahead = past (past all)
opening_ends look_behind = past (past (past all))
opening_ends no_look_behind = past (past (past all))
opening_ends {rest = rest} definitions = past_word (codes "?(DEFINE)") rest
opening_ends (reference_condition c) = past (past (before_ends c.parted))
opening_ends (expression_condition n m) = past (past all)
opening_ends absent_bounds = past (past (past all))
opening_ends (absent_repeater n) = past (past all)
opening_ends (a_reference c) = past (past (past (closed_ends c)))
opening_ends (a_call c) = past (past (past (closed_ends c)))
opening_ends (a_verb {word} {rest} v) = past_word word rest

pub tokens_are_prefixes : TokensArePrefixes
tokens_are_prefixes = record {
  of_layout = λ verbose t rest s. is_end (skipped_ends s);
  of_digits = λ t rest n c. is_end (counted_ends c);
  of_quantifier = λ verbose t rest count q. is_end (quantifier_ends q);
  of_marks = λ oniguruma verbose braces t rest marks m. is_end (marks_end m);
  of_flags = λ unicode on body f g t rest h. is_end (flags_end h);
  of_reference = λ allow_level close t rest target level c. is_end (closed_ends c);
  of_escape = λ oniguruma t rest e h. is_end (escape_ends h);
  of_class = λ oniguruma t text rest c. is_end (class_ends c);
  of_opening = λ unicode f t rest how o. is_end (opening_ends o);
}

-- faults

pub layout_inside : {verbose : Bool} {t : Text} {e : ParseFault} → LayoutFails verbose t e → e.left ≤ bytes t
layout_inside {t = t} s = subst (λ n. n ≤ bytes t) (sym (ap (λ x. x.left) s.fault)) (none_left t)

pub flags_inside : {unicode : Bool} {start : Text} {on : Bool} {f : Flags} {t : Text} {e : ParseFault} → FlagsFail unicode start on f t e → e.left ≤ bytes start
flags_inside {start = start} text_ends = none_left start
flags_inside {start = start} (at_letter s) = le_refl (bytes start)
flags_inside (at_later_letter flag s) = flags_inside s

parts_inside : {oniguruma : Bool} {level : ℕ} {t : Text} {e : ParseFault} → ClassItemsFail oniguruma level t e → e.left ≤ bytes t
parts_inside classes.text_ends = le_refl (bytes [])
parts_inside (misplaced {t = t} h l n) = le_refl (bytes (0x5C ∷ t))
parts_inside (classes.no_escape {t = t} s) = le_refl (bytes (0x5C ∷ t))
parts_inside (after_closing s) = le_trans (parts_inside s) (bytes_left (past all))
parts_inside (after_opening s) = le_trans (parts_inside s) (bytes_left (past all))
parts_inside (after_part p s) = le_trans (parts_inside s) (bytes_left (part_ends p))

pub class_inside : {oniguruma : Bool} {t : Text} {e : ParseFault} → ClassFails oniguruma t e → e.left ≤ bytes t
class_inside (inside_class a b s) = le_trans (parts_inside s) (bytes_left (further (optional_ends b) (optional_ends a)))

pub opening_inside : {unicode : Bool} {f : Flags} {start t : Text} {e : ParseFault} → OpeningFails unicode f start t e → e.left ≤ bytes start
opening_inside {start = start} (no_name n m l) = le_refl (bytes start)
opening_inside {start = start} (no_python_name l) = le_refl (bytes start)
opening_inside {start = start} (openings.no_reference l) = le_refl (bytes start)
opening_inside {start = start} (openings.no_call l) = le_refl (bytes start)
opening_inside (in_flags n s) = flags_inside s

pub token_faults_are_inside : TokenFaultsAreInside
token_faults_are_inside = record {
  of_layout = λ verbose t e s. layout_inside s;
  of_flags = λ unicode on f here t e s. flags_inside s;
  of_class = λ oniguruma t e s. class_inside s;
  of_opening = λ unicode f here t e s. opening_inside s;
}
