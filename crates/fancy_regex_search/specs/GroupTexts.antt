-- The texts of the capture groups of a match, as templates read them.
use Rattle.std.specs.Prelude.{◌≡◌, ℕ, ◌+◌, ◌*◌, ◌==◌, nat_lt, nat_le, Bool, ◌&&◌, List, Option, Some, None, length, chars, slice_index, slice_range, encode_utf8_all, if◌then◌else◌}
use Rattle.std.specs.declared.result.Result.{Result}
use Rattle.std.specs.List.{list_any}
use Rattle.regex_hir.specs.Text.{is_boundary}
use Rattle.fancy_regex_tree.specs.Tree.{Text}
use Rattle.fancy_regex_tree.specs.Numbering.{last_named}
use Rattle.fancy_regex_template.specs.Parts.{sign_of}
use Rattle.fancy_regex_template.specs.Expansion.{Texts, expansion}
use Rattle.fancy_regex_template.specs.declared.syntax.TemplateSyntax.{TemplateSyntax}
use Rattle.fancy_regex_template.specs.declared.syntax.TemplateSyntax.TheVariants.{Dollar}
use Rattle.fancy_regex_meta.specs.declared.error.Error.{Error}
use Rattle.fancy_regex_meta.specs.declared.meta_regex.MetaRegex.{MetaRegex}
use Rattle.fancy_regex_search.specs.GroupLookup.{meta_group_names}
use Rattle.fancy_regex_search.specs.Replacements.{CapturesView, IsAnswerOfText}

-- the group participated in the match
abbrev pub has_participated : List ℕ → List ℕ → ℕ → Bool
has_participated text slots k =
    let start = slice_index slots (2 * k) in
    let end = slice_index slots (2 * k + 1) in
    nat_lt (2 * k + 1) (length slots) && (nat_le start end && (nat_le end (length text) && (is_boundary text start && is_boundary text end)))

-- the characters that the group matched; None if it did not participate
unfoldable pub text_at : List ℕ → List ℕ → ℕ → Option Text
text_at text slots k =
    if has_participated text slots k then Some (chars (slice_range text (slice_index slots (2 * k)) (slice_index slots (2 * k + 1)))) else None

-- the texts of the groups of a match of a regex, from the start and end offsets of each group
abbrev pub texts_of : MetaRegex → List ℕ → List ℕ → Texts
texts_of s text slots = record {
  by_name = λ name. elim (last_named (meta_group_names s) name) [ None ↦ None | Some k ↦ text_at text slots k ];
  by_number = text_at text slots;
}

-- the bytes that a template expands to for a match
abbrev pub expanded : TemplateSyntax → MetaRegex → List ℕ → List ℕ → List ℕ → List ℕ
expanded syntax s text slots template = encode_utf8_all (expansion syntax (texts_of s text slots) (chars template))

-- How a replacer that is a template answers.
abbrev pub AnswersTemplate : {S : Type 0} → (S → List ℕ) → S → CapturesView → Result (List ℕ) Error → S → Type 0
AnswersTemplate template_of s m result next = IsAnswerOfText (expanded Dollar m.regex m.text m.slots (template_of s)) result × (next ≡ s)

abbrev pub is_sign : ℕ → Bool
is_sign c = c == sign_of Dollar

-- the template has a `$`
abbrev pub has_sign : Text → Bool
has_sign t = list_any is_sign t

-- the text of a template without a `$`, which is the template
abbrev pub text_without_sign : List ℕ → Option (List ℕ)
text_without_sign template = if has_sign (chars template) then None else Some (encode_utf8_all (chars template))
