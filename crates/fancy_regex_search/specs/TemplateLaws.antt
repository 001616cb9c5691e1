-- A template without a sign stands for itself.
use Rattle.std.proofs.Common.{◌≡◌, ◌∙◌, ◌==◌, Bool, true, false, List, [], ◌∷◌, ℕ, Option, Some, None, Ok, refl, sym, ap, chars}
use Rattle.std.proofs.lemmas.Bool.{false≢true}
use Rattle.std.proofs.lemmas.Option.{none-some, same_Some}
use Rattle.std.specs.Prelude.{encode_utf8_all, not, ◌||◌, if◌then◌else◌}
use Rattle.fancy_regex_tree.specs.Tree.{Text}
use Rattle.fancy_regex_template.specs.Parts.{is_no_sign, sign_of}
use Rattle.fancy_regex_template.specs.Cuts.{AllPass}
use Rattle.fancy_regex_template.specs.declared.syntax.TemplateSyntax.TheVariants.{Dollar}
use Rattle.fancy_regex_template.proofs.LawProofs.{plain_templates_stay}
use Rattle.fancy_regex_search.specs.Replacements.{CapturesView}
use Rattle.fancy_regex_search.specs.GroupTexts.{texts_of, AnswersTemplate, has_sign, text_without_sign}

neither : (a b : Bool) → (a || b) ≡ false → (a ≡ false) × (b ≡ false)
neither true b e = absurd (false≢true (sym e))
neither false b e = (refl, e)

all_pass : (t : Text) → has_sign t ≡ false → AllPass (is_no_sign Dollar) t
all_pass [] h = tt
all_pass (c ∷ t) h = let e = neither (c == sign_of Dollar) (has_sign t) h in (ap not e.0, all_pass t e.1)

chosen : (b : Bool) (x t : List ℕ) → ◌≡◌ {A = Option (List ℕ)} (if b then None else Some x) (Some t) → (b ≡ false) × (x ≡ t)
chosen true x t e = absurd (none-some t e)
chosen false x t e = (refl, same_Some x t e)

-- what replaces each match by such a template is that text
pub template_text : {S : Type 0} (template_of : S → List ℕ) (s : S) (t : List ℕ) (m : CapturesView) (w : List ℕ) (next : S) → text_without_sign (template_of s) ≡ Some t → AnswersTemplate template_of s m (Ok w) next → w ≡ t
template_text template_of s t m w next e h =
    let plain = chosen (has_sign (chars (template_of s))) (encode_utf8_all (chars (template_of s))) t e in
    h.0 ∙ ap encode_utf8_all (plain_templates_stay Dollar (texts_of m.regex m.text m.slots) (chars (template_of s)) (all_pass (chars (template_of s)) plain.0)) ∙ plain.1
