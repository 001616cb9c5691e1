-- The parts of a template.
use Rattle.std.specs.Prelude.{ℕ, zero, suc, Bool, not, ◌==◌, List, [], ◌∷◌, length, codes, chars, Option, Some, None, option_map, if◌then◌else◌}
use Rattle.fancy_regex_text.specs.Text.{Text, strip_prefix, span, is_empty}
use Rattle.fancy_regex_text.specs.Names.{is_name_char}
use Rattle.fancy_regex_template.specs.Numbers.{leading_number}
use Rattle.fancy_regex_template.specs.declared.syntax.TemplateSyntax.{TemplateSyntax}
use Rattle.fancy_regex_template.specs.declared.syntax.TemplateSyntax.TheVariants.{Dollar, Python}
use Rattle.fancy_regex_template.specs.declared.parts.TemplatePart.{TemplatePart}
use Rattle.fancy_regex_template.specs.declared.parts.TemplatePart.TheVariants.{Literal, DoubledSign, Named, Numbered, LooseSign}

-- a part of a template
pub data Part : Type 0 where
  -- characters that stand for themselves
  literal : Text → Part
  -- two signs, which stand for one
  doubled_sign : Part
  -- a reference to a group by its name or, where that gives no text, by the number that the name writes
  named : Text → Part
  -- a reference to a group by its number
  numbered : ℕ → Part
  -- a sign that begins nothing, and stands for itself
  loose_sign : Part

-- the character that begins a reference
abbrev pub sign_of : TemplateSyntax → ℕ
sign_of Dollar = 0x24
sign_of Python = 0x5C

-- what encloses a name after the sign
abbrev pub opening_of : TemplateSyntax → Text
opening_of Dollar = codes "{"
opening_of Python = codes "g<"

abbrev pub closing_of : TemplateSyntax → Text
closing_of Dollar = codes "}"
closing_of Python = codes ">"

-- the name that the text begins with, as long as possible, and the rest; None if it begins with none
unfoldable pub leading_name : Text → Option (Text × Text)
leading_name t = let parts = span is_name_char t in if is_empty parts.0 then None else Some parts

-- the enclosed name that the text begins with, and the rest
unfoldable pub enclosed_name : TemplateSyntax → Text → Option (Text × Text)
enclosed_name syntax t = elim (strip_prefix (opening_of syntax) t) [
  | None ↦ None
  | Some inside ↦
      elim (leading_name inside) [
        | None ↦ None
        | Some found ↦
            option_map (λ rest. (found.0, rest)) (strip_prefix (closing_of syntax) found.1)
      ]
]

abbrev pub named_part : Text × Text → Part × Text
named_part found = (named found.0, found.1)

abbrev pub numbered_part : ℕ × Text → Part × Text
numbered_part found = (numbered found.0, found.1)

-- the reference without brackets that the text begins with, and the rest: a name, or in Python's syntax a number
unfoldable pub bare_reference : TemplateSyntax → Text → Option (Part × Text)
bare_reference Dollar t = option_map named_part (leading_name t)
bare_reference Python t = option_map numbered_part (leading_number t)

-- the reference that the text after a sign begins with, and the rest
unfoldable pub reference : TemplateSyntax → Text → Option (Part × Text)
reference syntax t = elim (enclosed_name syntax t) [ None ↦ bare_reference syntax t | Some found ↦ Some (named_part found) ]

-- the text after a sign; None if it does not begin with one
unfoldable pub strip_sign : TemplateSyntax → Text → Option Text
strip_sign syntax [] = None
strip_sign syntax (c ∷ t) = if c == sign_of syntax then Some t else None

-- the part that a sign begins, from the text after it, and the rest
unfoldable pub part_after_sign : TemplateSyntax → Text → Part × Text
part_after_sign syntax t = elim (strip_sign syntax t) [
  | Some rest ↦ (doubled_sign, rest)
  | None ↦
      elim (reference syntax t) [ None ↦ (loose_sign, t) | Some found ↦ found ]
]

abbrev pub is_no_sign : TemplateSyntax → ℕ → Bool
is_no_sign syntax c = not (c == sign_of syntax)

abbrev pub literal_part : Text × Text → Part × Text
literal_part found = (literal found.0, found.1)

-- the first part of a template, and the rest; None if the template is empty
unfoldable pub first_part : TemplateSyntax → Text → Option (Part × Text)
first_part syntax t = if is_empty t then None else elim (strip_sign syntax t) [
  | None ↦ Some (literal_part (span (is_no_sign syntax) t))
  | Some following ↦ Some (part_after_sign syntax following)
]

-- the first n parts of a template
unfoldable pub first_parts : ℕ → TemplateSyntax → Text → List Part
first_parts zero syntax t = []
first_parts (suc n) syntax t = elim (first_part syntax t) [ None ↦ [] | Some found ↦ found.0 ∷ first_parts n syntax found.1 ]

-- the parts of a template: no more than it has characters
unfoldable pub parts : TemplateSyntax → Text → List Part
parts syntax t = first_parts (length t) syntax t

-- a part of the code, with its texts as characters
abbrev pub part_of : TemplatePart → Part
part_of (Literal s) = literal (chars s.now)
part_of DoubledSign = doubled_sign
part_of (Named id) = named (chars id.now)
part_of (Numbered n) = numbered n
part_of LooseSign = loose_sign
