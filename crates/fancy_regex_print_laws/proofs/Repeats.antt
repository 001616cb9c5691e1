-- Atoms under printed quantifiers.
use Rattle.std.proofs.Common.{◌≡◌, ℕ, ◌<◌, ◌≤◌, Bool, true, false, ◌∷◌, ◌++◌, codes, refl, sym, ap, subst, ◌∙◌, append_assoc}
use Rattle.std.proofs.lemmas.Bool.{false≢true, true≢false}
use Rattle.fancy_regex_text.specs.Text.{Text, unbounded}
use Rattle.fancy_regex_lex.specs.declared.token.Quantifier.{Quantifier}
use Rattle.fancy_regex_lex.specs.declared.token.QuantifierSuffix.{QuantifierSuffix}
use Rattle.fancy_regex_lex_grammar.specs.Counts.{IsQuantifier, optional, any_number, one_or_more, counted, IsMarks, no_marks, lazy, NoPlus, NoQuestionMark}
use Rattle.fancy_regex_grammar.specs.Quantifiers.{IsQuantified, and_quantifier, enough, repeats, a_repeat, in_plain_mode, IsGreedy}
use Rattle.fancy_regex_grammar.specs.Quantifiers as quantifiers
use Rattle.fancy_regex_tree.specs.Tree.{repeat}
use Rattle.fancy_regex_tree.specs.TreeBuilders.{is_repeatable}
use Rattle.fancy_regex_tree.specs.Quantifiers.{Atom}
use Rattle.fancy_regex_tree.specs.Printed.{bounds_text, quantifier_text}
use Rattle.fancy_regex_print_laws.specs.ReprintLaws.{plain_mode, no_flags}
use Rattle.fancy_regex_print_laws.proofs.Starts.{skipped}
use Rattle.fancy_regex_print_laws.proofs.PrintedQuantifiers.{bounds_found}
use Rattle.fancy_regex_print_laws.specs.PrintedParts.{begins_no_quantifier, is_comment, PlainStart}

quantifier_token : {t rest : Text} {count : Quantifier} → IsQuantifier false t count rest → is_comment t ≡ false
quantifier_token optional = refl
quantifier_token any_number = refl
quantifier_token one_or_more = refl
quantifier_token (counted braces) = refl

no_question : (t : Text) → begins_no_quantifier t ≡ true → NoQuestionMark t
no_question t quiet rest is = true≢false (sym quiet ∙ ap begins_no_quantifier is)

no_plus : (t : Text) (braces : Bool) → begins_no_quantifier t ≡ true → NoPlus false braces t
no_plus t braces quiet rest is mark = true≢false (sym quiet ∙ ap begins_no_quantifier is)

under : (size : ℕ) (unicode : Bool) (a : Atom) (t rest marked : Text) (count : Quantifier) (marks : QuantifierSuffix) (greedy : Bool) →
    is_repeatable a.tree ≡ true → IsQuantifier false t count marked → IsMarks false false count.braces marked marks rest →
    marks.possessive ≡ false → IsGreedy marks.lazy false greedy → PlainStart rest →
    IsQuantified (plain_mode size unicode) no_flags 1 a t (repeat a.tree count.lo count.hi greedy) rest
under size unicode a t rest marked count marks greedy target quantifier is_marks plain is_greedy plain_start =
    and_quantifier (skipped (quantifier_token quantifier)) quantifier is_marks (repeats target (a_repeat (in_plain_mode refl) plain is_greedy))
    (enough (skipped plain_start.token) (λ mode. absurd (false≢true mode)))

pub under_printed : (size : ℕ) (unicode : Bool) (a : Atom) (lo hi : ℕ) (greedy : Bool) (rest : Text) → is_repeatable a.tree ≡ true →
    lo < unbounded → hi ≤ unbounded → PlainStart rest →
    IsQuantified (plain_mode size unicode) no_flags 1 a (quantifier_text lo hi greedy ++ rest) (repeat a.tree lo hi greedy) rest
unfolding quantifier_text
under_printed size unicode a lo hi true rest target low high plain_start =
    let found = bounds_found lo hi rest low high in
    subst (λ (k : ℕ). IsQuantified (plain_mode size unicode) no_flags 1 a (bounds_text lo hi ++ rest) (repeat a.tree k hi true) rest) found.lo_is
    (subst (λ (k : ℕ). IsQuantified (plain_mode size unicode) no_flags 1 a (bounds_text lo hi ++ rest) (repeat a.tree found.count.lo k true) rest) found.hi_is
    (under size unicode a _ rest rest found.count _ true target found.quantifier
    (no_marks (skipped plain_start.token) (no_question rest plain_start.quiet) (no_plus rest found.count.braces plain_start.quiet)) refl quantifiers.greedy plain_start))
under_printed size unicode a lo hi false rest target low high plain_start =
    let found = bounds_found lo hi (0x3F ∷ rest) low high in
    subst (λ (t : Text). IsQuantified (plain_mode size unicode) no_flags 1 a t (repeat a.tree lo hi false) rest) (sym (append_assoc (bounds_text lo hi) (codes "?") rest))
    (subst (λ (k : ℕ). IsQuantified (plain_mode size unicode) no_flags 1 a (bounds_text lo hi ++ (0x3F ∷ rest)) (repeat a.tree k hi false) rest) found.lo_is
    (subst (λ (k : ℕ). IsQuantified (plain_mode size unicode) no_flags 1 a (bounds_text lo hi ++ (0x3F ∷ rest)) (repeat a.tree found.count.lo k false) rest) found.hi_is
    (under size unicode a _ rest (0x3F ∷ rest) found.count _ false target found.quantifier
    (lazy (skipped refl) (no_plus rest found.count.braces plain_start.quiet)) refl quantifiers.lazy plain_start)))
