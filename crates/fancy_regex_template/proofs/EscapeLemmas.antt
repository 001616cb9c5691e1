-- Escaped texts.
use Rattle.std.proofs.Common.{◌≡◌, ℕ, true, cond, ◌==◌, [], ◌∷◌, ◌++◌, refl, ap, ◌∙◌}
use Rattle.std.proofs.lemmas.Bool.{not-true}
use Rattle.fancy_regex_text.specs.Text.{Text}
use Rattle.fancy_regex_template.specs.Parts.{is_no_sign, sign_of}
use Rattle.fancy_regex_template.specs.Cuts.{AllPass}
use Rattle.fancy_regex_template.specs.Expansion.{escaped, doubled_if_sign}
use Rattle.fancy_regex_template.specs.declared.syntax.TemplateSyntax.{TemplateSyntax}

pub single_is : (syntax : TemplateSyntax) (c : ℕ) → is_no_sign syntax c ≡ true → doubled_if_sign syntax c ≡ c ∷ []
single_is syntax c h = ap (λ b. cond b (c ∷ c ∷ []) (c ∷ [])) (not-true (c == sign_of syntax) h)

-- a text without a sign stays
pub run_stays : (syntax : TemplateSyntax) (run : Text) → AllPass (is_no_sign syntax) run → escaped syntax run ≡ run
run_stays syntax [] all = refl
run_stays syntax (c ∷ run) all = ap (λ x. x ++ escaped syntax run) (single_is syntax c all.0) ∙ ap (λ x. c ∷ x) (run_stays syntax run all.1)
