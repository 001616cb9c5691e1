-- What a template expands to. All texts are characters.
use Rattle.std.specs.Prelude.{◌≡◌, ℕ, ◌==◌, List, [], ◌∷◌, Option, Some, None, unwrap_or, if◌then◌else◌}
use Rattle.std.specs.List.{flat_map}
use Rattle.fancy_regex_text.specs.Text.{Text}
use Rattle.fancy_regex_template.specs.Numbers.{number_of}
use Rattle.fancy_regex_template.specs.Parts.{Part, literal, doubled_sign, named, numbered, loose_sign, sign_of, is_no_sign, parts}
use Rattle.fancy_regex_template.specs.Cuts.{AllPass}
use Rattle.fancy_regex_template.specs.declared.syntax.TemplateSyntax.{TemplateSyntax}

-- The texts of capture groups, by name and by number: None where there is no such group, or it took no part in the match.
pub record Texts : Type 0 where
  pub by_name : Text → Option Text
  pub by_number : ℕ → Option Text

-- the text of the group whose number the name writes
abbrev pub text_by_digits : Texts → Text → Option Text
text_by_digits texts name = elim (number_of name) [ None ↦ None | Some n ↦ texts.by_number n ]

-- the text of a name: of the group with this name or, where that gives none, of the group whose number it writes; else empty
abbrev pub named_text : Texts → Text → Text
named_text texts name = elim (texts.by_name name) [ Some t ↦ t | None ↦ unwrap_or (text_by_digits texts name) [] ]

-- what a part stands for
abbrev pub part_text : TemplateSyntax → Texts → Part → Text
part_text syntax texts (literal t) = t
part_text syntax texts doubled_sign = sign_of syntax ∷ []
part_text syntax texts (named name) = named_text texts name
part_text syntax texts (numbered n) = unwrap_or (texts.by_number n) []
part_text syntax texts loose_sign = sign_of syntax ∷ []

-- what parts stand for, in order
abbrev pub parts_text : TemplateSyntax → Texts → List Part → Text
parts_text syntax texts ps = flat_map (part_text syntax texts) ps

-- what a template expands to
abbrev pub expansion : TemplateSyntax → Texts → Text → Text
expansion syntax texts t = parts_text syntax texts (parts syntax t)

-- the text with each sign doubled
abbrev pub doubled_if_sign : TemplateSyntax → ℕ → Text
doubled_if_sign syntax c = if c == sign_of syntax then c ∷ c ∷ [] else c ∷ []

abbrev pub escaped : TemplateSyntax → Text → Text
escaped syntax t = flat_map (doubled_if_sign syntax) t

-- a template without a sign expands to itself
abbrev pub PlainTemplatesStay : Type 0
PlainTemplatesStay = (syntax : TemplateSyntax) (texts : Texts) (t : Text) → AllPass (is_no_sign syntax) t → expansion syntax texts t ≡ t

-- an escaped text expands to the text
abbrev pub EscapedTextsComeBack : Type 0
EscapedTextsComeBack = (syntax : TemplateSyntax) (texts : Texts) (t : Text) → expansion syntax texts (escaped syntax t) ≡ t
