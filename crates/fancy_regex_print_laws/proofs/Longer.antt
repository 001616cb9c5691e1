-- Tokens with more text after them.
use Rattle.std.proofs.Common.{◌≡◌, ℕ, Bool, true, false, [], ◌∷◌, ◌++◌, refl, sym}
use Rattle.std.proofs.lemmas.Bool.{false≢true}
use Rattle.fancy_regex_text.specs.Text.{Text}
use Rattle.fancy_regex_lex.specs.Escapes.{Escape}
use Rattle.fancy_regex_lex_grammar.specs.Prefixes.{IsRunOfLength, none, and_one, IsTextUntil, here, later, IsOptional, there, absent_at_end, absent}
use Rattle.fancy_regex_lex_grammar.specs.Escapes.{IsEscape, a_sign, a_byte, ascii, four_or_eight, code_in_braces, property_of_one_letter, property, negated_property, named_boundary}
use Rattle.fancy_regex_lex_grammar.specs.Escapes.{word_boundary, numbered_reference, back_reference, call, IsBracedHex, braced_hex}
use Rattle.fancy_regex_lex_grammar.specs.Classes.{IsEscapeInClass, IsClassItem, itself, backspace, escaped, IsClassItems, closes, closes_inner, opens_inner, and_part, IsClass, class}

front_longer : {test : ℕ → Bool} {n : ℕ} {t front rest : Text} (s : Text) → IsRunOfLength test n t front rest → IsRunOfLength test n (t ++ s) front (rest ++ s)
front_longer s none = none
front_longer s (and_one passes more) = and_one passes (front_longer s more)

before_longer : {close : ℕ} {t front rest : Text} (s : Text) → IsTextUntil close t front rest → IsTextUntil close (t ++ s) front (rest ++ s)
before_longer s here = here
before_longer s (later other more) = later other (before_longer s more)

braced_longer : {t rest : Text} {code : ℕ} (s : Text) → IsBracedHex t code rest → IsBracedHex (t ++ s) code (rest ++ s)
braced_longer s (braced_hex before digits least most) = braced_hex (before_longer s before) digits least most

-- an escape that a class may hold ends by itself
pub escape_longer : {oniguruma : Bool} {t rest text : Text} {e : Escape} (s : Text) → IsEscape oniguruma t e rest → IsEscapeInClass e text →
    IsEscape oniguruma (t ++ s) e (rest ++ s)
escape_longer s (a_sign sign) added = a_sign sign
escape_longer s (a_byte digits above) added = elim added [ ]
escape_longer s (ascii digits below) added = ascii (front_longer s digits) below
escape_longer s (four_or_eight letter long digits code) added = four_or_eight letter long (front_longer s digits) code
escape_longer s (code_in_braces letter braces code) added = code_in_braces letter (braced_longer s braces) code
escape_longer s (property_of_one_letter letter other) added = property_of_one_letter letter other
escape_longer s (property letter name other) added = property letter (before_longer s name) other
escape_longer s (negated_property letter name) added = negated_property letter (before_longer s name)
escape_longer s (named_boundary name) added = elim added [ ]
escape_longer s (word_boundary other) added = elim added [ ]
escape_longer s (numbered_reference run number) added = elim added [ ]
escape_longer s (back_reference reference) added = elim added [ ]
escape_longer s (call reference) added = elim added [ ]

part_longer : {oniguruma : Bool} {t text rest : Text} (s : Text) → IsClassItem oniguruma t text rest → IsClassItem oniguruma (t ++ s) text (rest ++ s)
part_longer s (itself plain) = itself plain
part_longer s backspace = backspace
part_longer s (escaped escape added) = escaped (escape_longer s escape added) added

parts_longer : {oniguruma : Bool} {level : ℕ} {t text rest : Text} (s : Text) → IsClassItems oniguruma level t text rest →
    IsClassItems oniguruma level (t ++ s) text (rest ++ s)
parts_longer s closes = closes
parts_longer s (closes_inner parts) = closes_inner (parts_longer s parts)
parts_longer s (opens_inner parts) = opens_inner (parts_longer s parts)
parts_longer s (and_part part parts) = and_part (part_longer s part) (parts_longer s parts)

is_nil : Text → Bool
is_nil [] = true
is_nil (c ∷ t) = false

part_is_some : {oniguruma : Bool} {t text rest : Text} → IsClassItem oniguruma t text rest → is_nil t ≡ false
unfolding is_nil
part_is_some (itself plain) = refl
part_is_some backspace = refl
part_is_some (escaped escape added) = refl

parts_are_some : {oniguruma : Bool} {level : ℕ} {t text rest : Text} → IsClassItems oniguruma level t text rest → is_nil t ≡ false
unfolding is_nil
parts_are_some closes = refl
parts_are_some (closes_inner parts) = refl
parts_are_some (opens_inner parts) = refl
parts_are_some (and_part part parts) = part_is_some part

-- what may be there is so with more text, where there is text
optional_longer : {sign : ℕ} {t found after : Text} (s : Text) → IsOptional sign t found after → is_nil after ≡ false →
    IsOptional sign (t ++ s) found (after ++ s)
unfolding is_nil
optional_longer s there some = there
optional_longer s absent_at_end some = absurd (false≢true (sym some))
optional_longer s (absent other) some = absent other

optional_some : {sign : ℕ} {t found after : Text} → IsOptional sign t found after → is_nil after ≡ false → is_nil t ≡ false
unfolding is_nil
optional_some there some = refl
optional_some absent_at_end some = some
optional_some (absent other) some = refl

pub class_longer : {oniguruma : Bool} {t text rest : Text} (s : Text) → IsClass oniguruma t text rest → IsClass oniguruma (t ++ s) text (rest ++ s)
class_longer s (class caret bracket parts) =
    let inside = parts_are_some parts in
    class (optional_longer s caret (optional_some bracket inside)) (optional_longer s bracket inside) (parts_longer s parts)
