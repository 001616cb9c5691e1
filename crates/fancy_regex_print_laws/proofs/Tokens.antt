-- The atoms of printed texts.
use Rattle.std.proofs.Common.{◌≡◌, ℕ, Bool, true, false, not, ◌&&◌, ◌==◌, List, [], ◌∷◌, ◌++◌, codes, refl, sym, ap, subst, ◌∙◌, cond, ⊎_elim}
use Rattle.std.proofs.lemmas.Bool.{eqb-true, false≢true, and_parts, or_cases}
use Rattle.std.specs.Char.{is_ascii_alphabetic}
use Rattle.fancy_regex_text.specs.Text.{Text, ◌∈◌, is_among, is_decimal}
use Rattle.fancy_regex_lex.specs.Escapes.{char_escape}
use Rattle.fancy_regex_lex.specs.declared.token.Flags.{Flags}
use Rattle.fancy_regex_tree.specs.declared.parser_config.ParserConfig.{ParserConfig}
use Rattle.fancy_regex_lex_grammar.specs.Escapes.{a_sign, IsCharacterEscape, newline, carriage_return, tab, itself}
use Rattle.fancy_regex_grammar.specs.Quantifiers.{no_more}
use Rattle.fancy_regex_grammar.specs.Patterns.{IsAtom, IsBranches, escaped, character, with_quantifiers, no_more_pieces, and_piece, last_branch, at_close}
use Rattle.fancy_regex_tree.specs.Tree.{literal}
use Rattle.fancy_regex_tree.specs.Quantifiers.{Atom}
use Rattle.fancy_regex_tree.specs.Parser.{plain}
use Rattle.fancy_regex_tree.specs.Printed.{is_metacharacter, escaped_char}
use Rattle.fancy_regex_print_laws.specs.ReprintLaws.{plain_mode}
use Rattle.fancy_regex_print_laws.proofs.Starts.{skipped, no_quantifier, no_sign, character_plain_start}
use Rattle.fancy_regex_print_laws.specs.PrintedParts.{is_comment}

abbrev pub is_bar : Text → Bool
is_bar [] = false
is_bar (c ∷ t) = c == 0x7C

-- flags of which these may be set
abbrev pub flags : Bool → Bool → Bool → Bool → Flags
flags casei multi new crlf =
    record { casei = casei; multi = multi; dot_newline = new; verbose = false; swap_greed = false; crlf = crlf }

-- a test that all the characters of a word pass
abbrev pub all_pass : (ℕ → Bool) → List ℕ → Bool
all_pass test [] = true
all_pass test (c ∷ cs) = test c && all_pass test cs

same_passes : (test : ℕ → Bool) (c d : ℕ) → (c == d) ≡ true → test d ≡ true → test c ≡ true
same_passes test c d is passes = ap test (eqb-true c d is) ∙ passes

pub among_passes : (test : ℕ → Bool) (c : ℕ) (cs : List ℕ) → is_among c cs ≡ true → all_pass test cs ≡ true → test c ≡ true
among_passes test c [] is passes = absurd (false≢true is)
among_passes test c (d ∷ []) is passes = same_passes test c d is (and_parts (test d) true passes).0
among_passes test c (d ∷ e ∷ cs) is passes =
    let parts = and_parts (test d) (all_pass test (e ∷ cs)) passes in
    ⊎_elim (λ same. same_passes test c d same parts.0) (λ later. among_passes test c (e ∷ cs) later parts.1) (or_cases (c == d) (is_among c (e ∷ cs)) is)

-- neither letter, digit nor angle
abbrev pub is_itself : ℕ → Bool
is_itself c = not (is_ascii_alphabetic c) && (not (is_decimal c) && not (c ∈ "<>"))

not_false : (b : Bool) → not b ≡ true → b ≡ false
not_false true h = absurd (false≢true h)
not_false false h = refl

pub sign_is_itself : (c : ℕ) → is_metacharacter c ≡ true → IsCharacterEscape false c (char_escape c)
sign_is_itself c sign =
    let all = among_passes is_itself c (codes "\\.+*?()|[]{}^$#") sign refl in
    let first = and_parts (not (is_ascii_alphabetic c)) (not (is_decimal c) && not (c ∈ "<>")) all in
    let more = and_parts (not (is_decimal c)) (not (c ∈ "<>")) first.1 in
    itself (not_false _ first.0) (not_false _ more.0) (not_false _ more.1)

-- a character that is no sign is a literal
plain_is_character : (c : ℕ) → is_metacharacter c ≡ false → c ∈ "([\\.^$|)" ≡ false
plain_is_character c h =
    rw (no_sign c 0x28 h refl, no_sign c 0x5B h refl, no_sign c 0x5C h refl, no_sign c 0x2E h refl, no_sign c 0x5E h refl, no_sign c 0x24 h refl, no_sign c 0x7C h refl, no_sign c 0x29 h refl) refl

module _ (size : ℕ) (unicode : Bool) where
  abbrev pub p : ParserConfig
  p = plain_mode size unicode

  -- a character as a literal
  pub literal_atom : (n : ℕ) (casei : Bool) (c : ℕ) (rest : Text) →
      IsAtom p n false (flags casei false false false) (escaped_char c ++ rest) (plain (literal (c ∷ []) casei)) (flags casei false false false) rest
  unfolding escaped_char
  literal_atom n casei c rest = at_newline (c == 0x0A) refl
    where
      Is : Text → Type 0
      Is t = IsAtom p n false (flags casei false false false) (t ++ rest) (plain (literal (c ∷ []) casei)) (flags casei false false false) rest

      at_sign : (b : Bool) → is_metacharacter c ≡ b → Is (cond b (0x5C ∷ c ∷ []) (c ∷ []))
      at_sign true is = escaped (a_sign (sign_is_itself c is))
      at_sign false is = character (plain_is_character c is) (no_quantifier (character_plain_start c rest is).quiet)

      at_tab : (b : Bool) → (c == 0x09) ≡ b → Is (cond b (codes "\\t") (cond (is_metacharacter c) (0x5C ∷ c ∷ []) (c ∷ [])))
      at_tab true is = subst (λ (d : ℕ). IsAtom p n false (flags casei false false false) (codes "\\t" ++ rest) (plain (literal (d ∷ []) casei)) (flags casei false false false) rest) (sym (eqb-true c 0x09 is)) (escaped (a_sign tab))
      at_tab false is = at_sign (is_metacharacter c) refl

      at_return : (b : Bool) → (c == 0x0D) ≡ b → Is (cond b (codes "\\r") (cond (c == 0x09) (codes "\\t") (cond (is_metacharacter c) (0x5C ∷ c ∷ []) (c ∷ []))))
      at_return true is = subst (λ (d : ℕ). IsAtom p n false (flags casei false false false) (codes "\\r" ++ rest) (plain (literal (d ∷ []) casei)) (flags casei false false false) rest) (sym (eqb-true c 0x0D is)) (escaped (a_sign carriage_return))
      at_return false is = at_tab (c == 0x09) refl

      at_newline : (b : Bool) → (c == 0x0A) ≡ b → Is (cond b (codes "\\n") (cond (c == 0x0D) (codes "\\r") (cond (c == 0x09) (codes "\\t") (cond (is_metacharacter c) (0x5C ∷ c ∷ []) (c ∷ [])))))
      at_newline true is = subst (λ (d : ℕ). IsAtom p n false (flags casei false false false) (codes "\\n" ++ rest) (plain (literal (d ∷ []) casei)) (flags casei false false false) rest) (sym (eqb-true c 0x0A is)) (escaped (a_sign newline))
      at_newline false is = at_return (c == 0x0D) refl

  -- an atom alone up to a `)`
  pub alone : {n : ℕ} {casei multi new crlf : Bool} {t rest : Text} {a : Atom} → is_comment t ≡ false →
      IsAtom p n false (flags casei multi new crlf) t a (flags casei multi new crlf) (0x29 ∷ rest) →
      IsBranches p n false (flags casei multi new crlf) t ((a.tree ∷ []) ∷ []) (flags casei multi new crlf) (0x29 ∷ rest)
  alone token atom =
      last_branch (and_piece (skipped token) (with_quantifiers atom (no_more (skipped refl) (no_quantifier refl)))
      (no_more_pieces (skipped refl) at_close)) (λ u h. false≢true (ap is_bar h))
