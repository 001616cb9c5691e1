-- Texts that are appended.
use Rattle.std.proofs.Common.{◌≡◌, ℕ, List, [], ◌++◌, ◌∷◌, length, take, Option, Some, None, option_map, unwrap_or, refl, sym, ap, ◌∙◌, subst, chars, IsUtf8, encode_utf8_all, append_assoc, arith, Bor}
use Rattle.std.specs.Str.{IsCharBoundary}
use Rattle.std.specs.String.Boundary.{IsSplitPoint}
use Rattle.std.proofs.lemmas.Str.{chars-nil, encodes-append, encodes-chars, IsCharBoundary-from_take}
use Rattle.std.proofs.lemmas.List.{length-append}
use Rattle.std.proofs.Math.Seq.{take-append_seam}
use Rattle.fancy_regex_text.specs.Text.{Text}
use Rattle.fancy_regex_template.specs.Parts.{Part, part_of}
use Rattle.fancy_regex_template.specs.Expansion.{Texts, part_text, parts_text}
use Rattle.fancy_regex_template.specs.declared.parts.TemplatePart.{TemplatePart}
use Rattle.fancy_regex_template.specs.declared.syntax.TemplateSyntax.{TemplateSyntax}

pub or_empty : (o : Option (Bor (List ℕ))) (b : Bor (List ℕ)) → b.now ≡ [] → chars (unwrap_or o b).now ≡ unwrap_or (option_map (λ t. chars t.now) o) []
or_empty None b h = ap chars h ∙ chars-nil
or_empty (Some t) b h = refl

-- what follows the first bytes may be cut off
pub cut_back : (old new more : List ℕ) (n : ℕ) → n ≡ length old → IsUtf8 old → IsUtf8 new → new ≡ old ++ more → IsSplitPoint new n
cut_back old new more n is u v e =
    let at : IsCharBoundary new (length old) =
    IsCharBoundary-from_take new (length old) v (omega (arith, ap length e, length-append old more))
    (subst IsUtf8 (sym (ap (take (length old)) e ∙ take-append_seam old more)) u) in
    subst (IsSplitPoint new) (sym is) (at.0, λ _. at.1)

pub bytes_back : (old new more cut : List ℕ) (n : ℕ) → n ≡ length old → new ≡ old ++ more → cut ≡ take n new → cut ≡ old
bytes_back old new more cut n is e h = h ∙ ap (λ m. take m new) is ∙ ap (take (length old)) e ∙ take-append_seam old more

-- one more text is appended
pub appended : (old out new text : List ℕ) (done : Text) → IsUtf8 text → out ≡ old ++ encode_utf8_all done → new ≡ out ++ text →
    new ≡ old ++ encode_utf8_all (done ++ chars text)
appended old out new text done u e h =
    h ∙ ap (λ x. x ++ text) e ∙ append_assoc old (encode_utf8_all done) text
    ∙ ap (λ x. old ++ x) (ap (λ x. encode_utf8_all done ++ x) (sym (encodes-chars text u)) ∙ sym (encodes-append done (chars text)))

-- the text of one more part is done
pub more_done : (syntax : TemplateSyntax) (texts : Texts) (done here : Text) (part : TemplatePart) (before after : List Part) (all : Text) →
    here ≡ part_text syntax texts (part_of part) → before ≡ part_of part ∷ after → done ++ parts_text syntax texts before ≡ all →
    (done ++ here) ++ parts_text syntax texts after ≡ all
more_done syntax texts done here part before after all is steps e =
    append_assoc done here (parts_text syntax texts after) ∙ ap (λ x. done ++ (x ++ parts_text syntax texts after)) is
    ∙ ap (λ ps. done ++ parts_text syntax texts ps) (sym steps) ∙ e
