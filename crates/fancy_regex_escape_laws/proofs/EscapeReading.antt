-- Escaped texts, character by character.
use Rattle.std.proofs.Common.{◌≡◌, ℕ, Bool, true, false, cond, [], ◌∷◌, ◌++◌, refl, ap, subst}
use Rattle.std.proofs.lemmas.Bool.{or_parts, false≢true}
use Rattle.std.specs.List.{flat_map}
use Rattle.fancy_regex_text.specs.Text.{Text}
use Rattle.fancy_regex_tree.specs.Tree.{literal}
use Rattle.fancy_regex_tree.specs.Parser.{plain}
use Rattle.fancy_regex_tree.specs.Printed.{is_metacharacter}
use Rattle.fancy_regex_tree.specs.Printed as printed
use Rattle.fancy_regex_grammar.specs.Quantifiers.{no_more}
use Rattle.fancy_regex_grammar.specs.Patterns.{IsAtom, IsBranch, character, with_quantifiers, no_more_pieces, and_piece, last_branch, at_end}
use Rattle.fancy_regex_print_laws.specs.ReprintLaws.{plain_mode}
use Rattle.fancy_regex_print_laws.specs.PrintedParts.{PlainStart}
use Rattle.fancy_regex_print_laws.proofs.Starts.{skipped, no_quantifier, no_sign, character_plain_start}
use Rattle.fancy_regex_print_laws.proofs.PlainStarts.{escaped_plain_start}
use Rattle.fancy_regex_print_laws.proofs.Tokens.{literal_atom, is_bar}
use Rattle.fancy_regex_template.specs.PatternEscape.{is_special, has_special, escaped_char, escaped_pattern}
use Rattle.fancy_regex_escape_laws.specs.EscapeLaws.{case_flag, EscapedTextsAreRead}
use Rattle.fancy_regex_escape_laws.specs.Literals.{literals}

-- both definitions of an escaped character agree
escaped_char_is : (c : ℕ) → printed.escaped_char c ≡ escaped_char c
unfolding printed.escaped_char
escaped_char_is c = refl

-- how a character may be written: escaped or, if it is not special, as it is
pub record IsUnit (c : ℕ) (unit : Text) : Type 0 where
  pub start : (rest : Text) → PlainStart (unit ++ rest)
  pub atom : (size : ℕ) (unicode casei : Bool) (n : ℕ) (rest : Text) →
      IsAtom (plain_mode size unicode) n false (case_flag casei) (unit ++ rest) (plain (literal (c ∷ []) casei)) (case_flag casei) rest

escaped_unit : (c : ℕ) → IsUnit c (escaped_char c)
escaped_unit c = record {
  start = λ rest. subst (λ (u : Text). PlainStart (u ++ rest)) (escaped_char_is c) (escaped_plain_start c rest);
  atom = λ size unicode casei n rest. subst (λ (u : Text). IsAtom (plain_mode size unicode) n false (case_flag casei) (u ++ rest) (plain (literal (c ∷ []) casei)) (case_flag casei) rest)
      (escaped_char_is c) (literal_atom size unicode n casei c rest);
}

plain_unit : (c : ℕ) → is_special c ≡ false → IsUnit c (c ∷ [])
plain_unit c h = record {
  start = λ rest. character_plain_start c rest h;
  atom = λ size unicode casei n rest. character
      (rw (no_sign c 0x28 h refl, no_sign c 0x5B h refl, no_sign c 0x5C h refl, no_sign c 0x2E h refl, no_sign c 0x5E h refl, no_sign c 0x24 h refl, no_sign c 0x7C h refl, no_sign c 0x29 h refl) refl)
      (no_quantifier (character_plain_start c rest h).quiet);
}

-- a text that is written unit by unit
data IsSpelled : Text → Text → Type 0 where
  no_unit : IsSpelled [] []
  and_unit : {c : ℕ} {unit u t : Text} → IsUnit c unit → IsSpelled u t → IsSpelled (unit ++ u) (c ∷ t)

all_escaped : (t : Text) → IsSpelled (flat_map escaped_char t) t
all_escaped [] = no_unit
all_escaped (c ∷ t) = and_unit (escaped_unit c) (all_escaped t)

none_special : (t : Text) → has_special t ≡ false → IsSpelled t t
none_special [] h = no_unit
none_special (c ∷ t) h =
    let parts = or_parts (is_special c) (has_special t) h in
    and_unit {unit = c ∷ []} {u = t} (plain_unit c parts.0) (none_special t parts.1)

pattern_spelled : (t : Text) → IsSpelled (escaped_pattern t) t
pattern_spelled t = at (has_special t) refl
  where
    at : (b : Bool) → has_special t ≡ b → IsSpelled (cond b (flat_map escaped_char t) t) t
    at true h = all_escaped t
    at false h = none_special t h

starts_plain : {u t : Text} → IsSpelled u t → PlainStart u
starts_plain no_unit = record { quiet = refl; token = refl }
starts_plain (and_unit {c} {unit} {u} {t} is more) = is.start u

branch_read : (size : ℕ) (unicode casei : Bool) (n : ℕ) {u t : Text} → IsSpelled u t →
    IsBranch (plain_mode size unicode) n false (case_flag casei) u (literals casei t) (case_flag casei) []
branch_read size unicode casei n no_unit = no_more_pieces (skipped refl) at_end
branch_read size unicode casei n (and_unit {c} {unit} {u} {t} is more) =
    let next = starts_plain more in
    and_piece (skipped (is.start u).token) (with_quantifiers (is.atom size unicode casei n u) (no_more (skipped next.token) (no_quantifier next.quiet)))
    (branch_read size unicode casei n more)

pub escaped_texts_are_read : EscapedTextsAreRead
escaped_texts_are_read size unicode casei t = record {
  body = literals casei t ∷ [];
  flags_after = case_flag casei;
  derivation = last_branch (branch_read size unicode casei 63 (pattern_spelled t)) (λ u h. false≢true (ap is_bar h));
  tree = refl;
}
