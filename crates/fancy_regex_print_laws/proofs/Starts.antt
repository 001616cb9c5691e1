-- How printed texts begin.
use Rattle.std.proofs.Common.{◌≡◌, ℕ, Bool, true, false, not, ◌&&◌, ◌==◌, [], ◌∷◌, refl, sym, ap, ◌∙◌}
use Rattle.std.proofs.lemmas.Bool.{eqb-true, false≢true, true≢false}
use Rattle.fancy_regex_text.specs.Text.{Text, ◌∈◌}
use Rattle.fancy_regex_lex.specs.declared.token.Quantifier.{Quantifier}
use Rattle.fancy_regex_lex_grammar.specs.Layout.{BeginsLayout, comment_begins, blank_begins, line_begins, IsSkipped, nothing_more}
use Rattle.fancy_regex_lex_grammar.specs.Counts.{IsQuantifier, optional, any_number, one_or_more, counted}
use Rattle.fancy_regex_grammar.specs.Quantifiers.{NoQuantifier}
use Rattle.fancy_regex_tree.specs.Printed.{is_metacharacter}
use Rattle.fancy_regex_print_laws.specs.PrintedParts.{begins_no_quantifier, is_sharp, is_comment, PlainStart}

layout_is_comment : {verbose : Bool} {t : Text} → verbose ≡ false → BeginsLayout verbose t → is_comment t ≡ true
layout_is_comment plain comment_begins = refl
layout_is_comment plain (blank_begins on blank) = absurd (false≢true (sym plain ∙ on))
layout_is_comment plain (line_begins on) = absurd (false≢true (sym plain ∙ on))

pub no_layout : {t : Text} → is_comment t ≡ false → BeginsLayout false t → ⊥
no_layout token begins = false≢true (sym token ∙ layout_is_comment refl begins)

pub skipped : {t : Text} → is_comment t ≡ false → IsSkipped false t t
skipped token = record { layout = nothing_more; longest = no_layout token }

quantifier_begins_quantifier : {verbose : Bool} {t rest : Text} {count : Quantifier} → IsQuantifier verbose t count rest → begins_no_quantifier t ≡ false
quantifier_begins_quantifier optional = refl
quantifier_begins_quantifier any_number = refl
quantifier_begins_quantifier one_or_more = refl
quantifier_begins_quantifier (counted braces) = refl

pub no_quantifier : {verbose : Bool} {t : Text} → begins_no_quantifier t ≡ true → NoQuantifier verbose t
no_quantifier quiet count rest is = true≢false (sym quiet ∙ quantifier_begins_quantifier is)

-- a parenthesis before a text that begins with no sign of a quantifier
pub paren_token : (t : Text) → begins_no_quantifier t ≡ true → is_comment (0x28 ∷ t) ≡ false
paren_token [] quiet = refl
paren_token (c ∷ t) quiet = at_question (c == 0x3F) refl
  where
    at_question : (b : Bool) → (c == 0x3F) ≡ b → ((c == 0x3F) && is_sharp t) ≡ false
    at_question true is = absurd (true≢false (sym quiet ∙ ap (λ d. begins_no_quantifier (d ∷ t)) (eqb-true c 0x3F is)))
    at_question false is = ap (λ b. b && is_sharp t) is

-- a character that is no sign is none of the signs
pub no_sign : (c d : ℕ) → is_metacharacter c ≡ false → is_metacharacter d ≡ true → (c == d) ≡ false
no_sign c d plain sign = at_same (c == d) refl
  where
    at_same : (b : Bool) → (c == d) ≡ b → b ≡ false
    at_same true is = absurd (false≢true (sym plain ∙ ap is_metacharacter (eqb-true c d is) ∙ sign))
    at_same false is = refl

pub character_plain_start : (c : ℕ) (t : Text) → is_metacharacter c ≡ false → PlainStart (c ∷ t)
character_plain_start c t plain = record {
  quiet = rw (no_sign c 0x3F plain refl, no_sign c 0x2A plain refl, no_sign c 0x2B plain refl, no_sign c 0x7B plain refl) refl;
  token = rw (no_sign c 0x28 plain refl) refl;
}
