-- Escapes of one letter or sign.
use Rattle.std.proofs.Common.{◌≡◌, ℕ, Bool, true, false, cond, ◌==◌, Option, Some, None, codes, refl, sym, ap, ◌∙◌, true≢false, eqb-true, ⊎_elim}
use Rattle.std.proofs.lemmas.Bool.{or_cases, or_parts, or_from, false_from_ne_true}
use Rattle.std.specs.Char.{is_ascii_alphabetic}
use Rattle.fancy_regex_text.specs.Text.{Text, ◌∈◌, is_decimal}
use Rattle.fancy_regex_lex.specs.Escapes.{Escape, char_escape, class_escape, any_escape, newline_escape, continue_escape, keep_out_escape, assertion_escape, control_letter, class_letter, assertion_letter, other_letter, plain_sign, other_sign, one_letter}
use Rattle.fancy_regex_lex.specs.declared.token.AssertionEscape.{AssertionEscape}
use Rattle.fancy_regex_lex.specs.declared.token.AssertionEscape.TheVariants as places
use Rattle.fancy_regex_lex_grammar.specs.Escapes as signs
use Rattle.fancy_regex_lex_grammar.specs.Escapes.{IsClassLetter, digit, not_digit, word, not_word, white_space, not_white_space, IsCharacterEscape, bell, escape_character, form_feed, newline, carriage_return, tab, vertical_tab, hex_digit, not_hex_digit, any_but_newline, any_character, general_newline, text_start, text_end, text_end_or_newlines, not_word_boundary, left_word_boundary, right_word_boundary, continue_from_previous_match_end, keep_out, left_angle, right_angle, itself}
use Rattle.fancy_regex_lex_grammar.proofs.ReadingLemmas.{at_char, Found, is_found, is_none, if_found}

class_letter_of : (c : ℕ) → c ∈ "dDwWsS" ≡ true → IsClassLetter c
class_letter_of c h =
    ⊎_elim (λ a. at_char c 0x64 IsClassLetter a digit) (λ h1.
    ⊎_elim (λ a. at_char c 0x44 IsClassLetter a not_digit) (λ h2.
    ⊎_elim (λ a. at_char c 0x77 IsClassLetter a word) (λ h3.
    ⊎_elim (λ a. at_char c 0x57 IsClassLetter a not_word) (λ h4.
    ⊎_elim (λ a. at_char c 0x73 IsClassLetter a white_space) (λ a. at_char c 0x53 IsClassLetter a not_white_space)
    (or_cases (c == 0x73) (c == 0x53) h4)) (or_cases (c == 0x57) (c ∈ "sS") h3)) (or_cases (c == 0x77) (c ∈ "WsS") h2))
    (or_cases (c == 0x44) (c ∈ "wWsS") h1)) (or_cases (c == 0x64) (c ∈ "DwWsS") h)

module _ (oniguruma : Bool) (c : ℕ) where
  control_of : Found (λ d. IsCharacterEscape oniguruma c (char_escape d)) (Unit {0}) (control_letter c)
  unfolding control_letter
  control_of =
      if_found (c == 0x61) _ _ (λ h. is_found (at_char c 0x61 (λ d. IsCharacterEscape oniguruma d (char_escape 0x07)) h bell)) (λ h.
      if_found (c == 0x65) _ _ (λ h. is_found (at_char c 0x65 (λ d. IsCharacterEscape oniguruma d (char_escape 0x1B)) h escape_character)) (λ h.
      if_found (c == 0x66) _ _ (λ h. is_found (at_char c 0x66 (λ d. IsCharacterEscape oniguruma d (char_escape 0x0C)) h form_feed)) (λ h.
      if_found (c == 0x6E) _ _ (λ h. is_found (at_char c 0x6E (λ d. IsCharacterEscape oniguruma d (char_escape 0x0A)) h newline)) (λ h.
      if_found (c == 0x72) _ _ (λ h. is_found (at_char c 0x72 (λ d. IsCharacterEscape oniguruma d (char_escape 0x0D)) h carriage_return)) (λ h.
      if_found (c == 0x74) _ _ (λ h. is_found (at_char c 0x74 (λ d. IsCharacterEscape oniguruma d (char_escape 0x09)) h tab)) (λ h.
      if_found (c == 0x76) _ _ (λ h. is_found (at_char c 0x76 (λ d. IsCharacterEscape oniguruma d (char_escape 0x0B)) h vertical_tab)) (λ h.
      is_none tt)))))))

  class_of : Found (λ t. IsCharacterEscape oniguruma c (class_escape t)) (Unit {0}) (class_letter c)
  unfolding class_letter
  class_of =
      if_found (c ∈ "dDwWsS") _ _ (λ h. is_found (signs.class_letter (class_letter_of c h))) (λ h.
      if_found (c == 0x68) _ _ (λ h. is_found (at_char c 0x68 (λ d. IsCharacterEscape oniguruma d (class_escape (codes "[0-9A-Fa-f]"))) h hex_digit)) (λ h.
      if_found (c == 0x48) _ _ (λ h. is_found (at_char c 0x48 (λ d. IsCharacterEscape oniguruma d (class_escape (codes "[^0-9A-Fa-f]"))) h not_hex_digit)) (λ h.
      is_none tt)))

  -- an angle is no place in Oniguruma mode alone
  record NoPlace : Type 0 where
    left : (c == 0x3C) ≡ true → oniguruma ≡ true
    right : (c == 0x3E) ≡ true → oniguruma ≡ true

  abbrev PlaceFound : Option AssertionEscape → Type 0
  PlaceFound = Found (λ a. IsCharacterEscape oniguruma c (assertion_escape a)) NoPlace

  at_left : (c == 0x3C) ≡ true → (o : Bool) → oniguruma ≡ o → PlaceFound (cond o None (Some places.LeftWordBoundary))
  at_left h true e = is_none (record { left = λ k. e; right = λ k. e })
  at_left h false e = is_found (at_char c 0x3C (λ d. IsCharacterEscape oniguruma d (assertion_escape places.LeftWordBoundary)) h (left_word_boundary e))

  at_right : (c == 0x3E) ≡ true → (o : Bool) → oniguruma ≡ o → PlaceFound (cond o None (Some places.RightWordBoundary))
  at_right h true e = is_none (record { left = λ k. e; right = λ k. e })
  at_right h false e = is_found (at_char c 0x3E (λ d. IsCharacterEscape oniguruma d (assertion_escape places.RightWordBoundary)) h (right_word_boundary e))

  place_of : PlaceFound (assertion_letter oniguruma c)
  unfolding assertion_letter
  place_of =
      if_found (c == 0x41) _ _ (λ h. is_found (at_char c 0x41 (λ d. IsCharacterEscape oniguruma d (assertion_escape places.TextStart)) h text_start)) (λ h.
      if_found (c == 0x7A) _ _ (λ h. is_found (at_char c 0x7A (λ d. IsCharacterEscape oniguruma d (assertion_escape places.TextEnd)) h text_end)) (λ h.
      if_found (c == 0x5A) _ _ (λ h. is_found (at_char c 0x5A (λ d. IsCharacterEscape oniguruma d (assertion_escape places.TextEndOrNewlines)) h text_end_or_newlines)) (λ h.
      if_found (c == 0x42) _ _ (λ h. is_found (at_char c 0x42 (λ d. IsCharacterEscape oniguruma d (assertion_escape places.NotWordBoundary)) h not_word_boundary)) (λ h.
      if_found (c == 0x3C) _ _ (λ h. at_left h oniguruma refl) (λ h5.
      if_found (c == 0x3E) _ _ (λ h. at_right h oniguruma refl) (λ h6.
      is_none (record { left = λ k. absurd (true≢false (sym k ∙ h5)); right = λ k. absurd (true≢false (sym k ∙ h6)) })))))))

  other_of : Found (IsCharacterEscape oniguruma c) (Unit {0}) (other_letter c)
  unfolding other_letter
  other_of =
      if_found (c == 0x4E) _ _ (λ h. is_found (at_char c 0x4E (λ d. IsCharacterEscape oniguruma d (any_escape false)) h any_but_newline)) (λ h.
      if_found (c == 0x4F) _ _ (λ h. is_found (at_char c 0x4F (λ d. IsCharacterEscape oniguruma d (any_escape true)) h any_character)) (λ h.
      if_found (c == 0x52) _ _ (λ h. is_found (at_char c 0x52 (λ d. IsCharacterEscape oniguruma d newline_escape) h general_newline)) (λ h.
      if_found (c == 0x47) _ _ (λ h. is_found (at_char c 0x47 (λ d. IsCharacterEscape oniguruma d continue_escape) h continue_from_previous_match_end)) (λ h.
      if_found (c == 0x4B) _ _ (λ h. is_found (at_char c 0x4B (λ d. IsCharacterEscape oniguruma d keep_out_escape) h keep_out)) (λ h. is_none tt)))))

  plain_of : is_decimal c ≡ false → NoPlace → Found (IsCharacterEscape oniguruma c) (is_ascii_alphabetic c ≡ true) (plain_sign c)
  unfolding plain_sign
  plain_of n angles =
      if_found (is_ascii_alphabetic c) _ _ (λ h. is_none h) (λ h. is_found (sign h (c == 0x3C) (c == 0x3E) refl refl))
    where
      sign : is_ascii_alphabetic c ≡ false → (l r : Bool) → (c == 0x3C) ≡ l → (c == 0x3E) ≡ r → IsCharacterEscape oniguruma c (char_escape c)
      sign h true r e d = at_char c 0x3C (λ x. IsCharacterEscape oniguruma x (char_escape x)) e (left_angle (angles.left e))
      sign h false true e d = at_char c 0x3E (λ x. IsCharacterEscape oniguruma x (char_escape x)) d (right_angle (angles.right d))
      sign h false false e d = itself h n (or_from (c == 0x3C) (c == 0x3E) e d)

  abbrev SignFound : Option Escape → Type 0
  SignFound = Found (IsCharacterEscape oniguruma c) (is_ascii_alphabetic c ≡ true)

  pub sign_of : is_decimal c ≡ false → SignFound (one_letter oniguruma c)
  unfolding one_letter other_sign
  sign_of n = by_control (control_letter c) control_of
    where
      by_other : NoPlace → (o : Option Escape) → Found (IsCharacterEscape oniguruma c) (Unit {0}) o → SignFound (elim o [ Some e ↦ Some e | None ↦ plain_sign c ])
      by_other angles (Some e) (is_found s) = is_found s
      by_other angles None (is_none l) = plain_of n angles

      by_place : (o : Option AssertionEscape) → PlaceFound o →
          SignFound (elim o [ Some a ↦ Some (assertion_escape a) | None ↦ elim (other_letter c) [ Some e ↦ Some e | None ↦ plain_sign c ] ])
      by_place (Some a) (is_found s) = is_found s
      by_place None (is_none angles) = by_other angles (other_letter c) other_of

      by_class : (o : Option Text) → Found (λ t. IsCharacterEscape oniguruma c (class_escape t)) (Unit {0}) o →
          SignFound (elim o [ Some t ↦ Some (class_escape t) | None ↦ other_sign oniguruma c ])
      by_class (Some t) (is_found s) = is_found s
      by_class None (is_none l) = by_place (assertion_letter oniguruma c) place_of

      by_control : (o : Option ℕ) → Found (λ d. IsCharacterEscape oniguruma c (char_escape d)) (Unit {0}) o →
          SignFound (elim o [
            | Some d ↦ Some (char_escape d)
            | None ↦ elim (class_letter c) [ Some t ↦ Some (class_escape t) | None ↦ other_sign oniguruma c ]
          ])
      by_control (Some d) (is_found s) = is_found s
      by_control None (is_none l) = by_class (class_letter c) class_of

-- a character that fails a test is none that passes it
pub other_than : (test : ℕ → Bool) (c d : ℕ) → test d ≡ true → test c ≡ false → (c == d) ≡ false
other_than test c d h k = false_from_ne_true (c == d) (λ e. true≢false (sym h ∙ ap test (sym (eqb-true c d e)) ∙ k))

pub other_than_these : (test : ℕ → Bool) (c d : ℕ) → test d ≡ false → test c ≡ true → (c == d) ≡ false
other_than_these test c d h k = false_from_ne_true (c == d) (λ e. true≢false (sym k ∙ ap test (eqb-true c d e) ∙ h))

itself_read : (oniguruma : Bool) (c : ℕ) → is_ascii_alphabetic c ≡ false → c ∈ "<>" ≡ false → one_letter oniguruma c ≡ Some (char_escape c)
unfolding one_letter control_letter class_letter other_sign assertion_letter other_letter plain_sign
itself_read oniguruma c h k =
    let apart : (d : ℕ) → is_ascii_alphabetic d ≡ true → (c == d) ≡ false = λ d e. other_than is_ascii_alphabetic c d e h in
    let (left, right) = or_parts (c == 0x3C) (c == 0x3E) k in
    rw (one_letter, control_letter, apart 0x61 refl, apart 0x65 refl, apart 0x66 refl, apart 0x6E refl, apart 0x72 refl, apart 0x74 refl, apart 0x76 refl)
    (rw (class_letter, apart 0x64 refl, apart 0x44 refl, apart 0x77 refl, apart 0x57 refl, apart 0x73 refl, apart 0x53 refl, apart 0x68 refl, apart 0x48 refl)
    (rw (other_sign, assertion_letter, apart 0x41 refl, apart 0x7A refl, apart 0x5A refl, apart 0x42 refl, left, right)
    (rw (other_letter, apart 0x4E refl, apart 0x4F refl, apart 0x52 refl, apart 0x47 refl, apart 0x4B refl) (rw (plain_sign, h) refl))))

pub sign_read : {oniguruma : Bool} {c : ℕ} {e : Escape} → IsCharacterEscape oniguruma c e → one_letter oniguruma c ≡ Some e
unfolding one_letter control_letter class_letter other_sign assertion_letter other_letter plain_sign
sign_read bell = refl
sign_read escape_character = refl
sign_read form_feed = refl
sign_read newline = refl
sign_read carriage_return = refl
sign_read tab = refl
sign_read vertical_tab = refl
sign_read (signs.class_letter digit) = refl
sign_read (signs.class_letter not_digit) = refl
sign_read (signs.class_letter word) = refl
sign_read (signs.class_letter not_word) = refl
sign_read (signs.class_letter white_space) = refl
sign_read (signs.class_letter not_white_space) = refl
sign_read hex_digit = refl
sign_read not_hex_digit = refl
sign_read any_but_newline = refl
sign_read any_character = refl
sign_read general_newline = refl
sign_read text_start = refl
sign_read text_end = refl
sign_read text_end_or_newlines = refl
sign_read not_word_boundary = refl
sign_read (left_word_boundary h) = rw h refl
sign_read (right_word_boundary h) = rw h refl
sign_read continue_from_previous_match_end = refl
sign_read keep_out = refl
sign_read (left_angle h) = rw h refl
sign_read (right_angle h) = rw h refl
sign_read {oniguruma} (itself {c} h n k) = itself_read oniguruma c h k

-- neither a letter that begins more, nor a digit
pub record IsAlone (c : ℕ) : Type 0 where
  pub letter : c ∈ "xuUpPbkg" ≡ false
  pub digit : is_decimal c ≡ false

pub sign_alone : {oniguruma : Bool} {c : ℕ} {e : Escape} → IsCharacterEscape oniguruma c e → IsAlone c
sign_alone bell = record { letter = refl; digit = refl }
sign_alone escape_character = record { letter = refl; digit = refl }
sign_alone form_feed = record { letter = refl; digit = refl }
sign_alone newline = record { letter = refl; digit = refl }
sign_alone carriage_return = record { letter = refl; digit = refl }
sign_alone tab = record { letter = refl; digit = refl }
sign_alone vertical_tab = record { letter = refl; digit = refl }
sign_alone (signs.class_letter digit) = record { letter = refl; digit = refl }
sign_alone (signs.class_letter not_digit) = record { letter = refl; digit = refl }
sign_alone (signs.class_letter word) = record { letter = refl; digit = refl }
sign_alone (signs.class_letter not_word) = record { letter = refl; digit = refl }
sign_alone (signs.class_letter white_space) = record { letter = refl; digit = refl }
sign_alone (signs.class_letter not_white_space) = record { letter = refl; digit = refl }
sign_alone hex_digit = record { letter = refl; digit = refl }
sign_alone not_hex_digit = record { letter = refl; digit = refl }
sign_alone any_but_newline = record { letter = refl; digit = refl }
sign_alone any_character = record { letter = refl; digit = refl }
sign_alone general_newline = record { letter = refl; digit = refl }
sign_alone text_start = record { letter = refl; digit = refl }
sign_alone text_end = record { letter = refl; digit = refl }
sign_alone text_end_or_newlines = record { letter = refl; digit = refl }
sign_alone not_word_boundary = record { letter = refl; digit = refl }
sign_alone (left_word_boundary h) = record { letter = refl; digit = refl }
sign_alone (right_word_boundary h) = record { letter = refl; digit = refl }
sign_alone continue_from_previous_match_end = record { letter = refl; digit = refl }
sign_alone keep_out = record { letter = refl; digit = refl }
sign_alone (left_angle h) = record { letter = refl; digit = refl }
sign_alone (right_angle h) = record { letter = refl; digit = refl }
sign_alone (itself {c} h n k) =
    let apart : (d : ℕ) → is_ascii_alphabetic d ≡ true → (c == d) ≡ false = λ d e. other_than is_ascii_alphabetic c d e h in
    record {
      letter = rw (apart 0x78 refl, apart 0x75 refl, apart 0x55 refl, apart 0x70 refl, apart 0x50 refl, apart 0x62 refl, apart 0x6B refl, apart 0x67 refl) refl;
      digit = n;
    }
