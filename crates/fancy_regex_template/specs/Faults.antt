-- The first fault of a template, for the groups of a pattern.
use Rattle.std.specs.Prelude.{◌≡◌, ◌<◌, ◌⊎◌, ◌↔◌, ℕ, nat_lt, ◌==◌, Bool, true, false, List, [], ◌∷◌, Option, Some, None, if◌then◌else◌}
use Rattle.fancy_regex_text.specs.Text.{Text}
use Rattle.fancy_regex_template.specs.Numbers.{number_of}
use Rattle.fancy_regex_template.specs.Parts.{Part, literal, doubled_sign, named, numbered, loose_sign}

-- what is wrong with a part
pub data TemplateFault : Type 0 where
  begins_nothing : TemplateFault
  named_backref_only : TemplateFault
  invalid_backref : ℕ → TemplateFault
  invalid_group_name_backref : Text → TemplateFault

-- The groups of a pattern: which names there are, whether there are any, and how many groups there are, with group 0.
pub record Groups : Type 0 where
  pub contains_name : Text → Bool
  pub has_names : Bool
  pub count : ℕ

-- what is wrong with a reference to a number
abbrev pub number_fault : Groups → ℕ → Option TemplateFault
number_fault groups n =
    if n == 0 then None else if groups.has_names then Some named_backref_only else if nat_lt n groups.count then None else Some (invalid_backref n)

-- what is wrong with a reference to a name that no group has
abbrev pub digits_fault : Groups → Text → Option TemplateFault
digits_fault groups name = elim (number_of name) [ Some n ↦ number_fault groups n | None ↦ Some (invalid_group_name_backref name) ]

abbrev pub part_fault : Groups → Part → Option TemplateFault
part_fault groups (literal t) = None
part_fault groups doubled_sign = None
part_fault groups (named name) = if groups.contains_name name then None else digits_fault groups name
part_fault groups (numbered n) = number_fault groups n
part_fault groups loose_sign = Some begins_nothing

-- the first fault from the left
abbrev pub first_fault : Groups → List Part → Option TemplateFault
first_fault groups [] = None
first_fault groups (p ∷ ps) = elim (part_fault groups p) [ Some fault ↦ Some fault | None ↦ first_fault groups ps ]

-- the number may be referred to: it is 0, or the number of a group of a pattern without names
abbrev pub NumberExists : Groups → ℕ → Type 0
NumberExists groups n = (n ≡ 0) ⊎ ((groups.has_names ≡ false) × (n < groups.count))

-- the part refers to nothing that does not exist
abbrev pub Exists : Groups → Part → Type 0
Exists groups (literal t) = Unit {0}
Exists groups doubled_sign = Unit {0}
Exists groups (named name) = (groups.contains_name name ≡ true) ⊎ ((n : ℕ) × (number_of name ≡ Some n) × NumberExists groups n)
Exists groups (numbered n) = NumberExists groups n
Exists groups loose_sign = ⊥

abbrev pub AllExist : Groups → List Part → Type 0
AllExist groups [] = Unit {0}
AllExist groups (p ∷ ps) = Exists groups p × AllExist groups ps

-- exactly the templates are accepted whose references exist and whose signs all begin something
abbrev pub AcceptedTemplatesExist : Type 0
AcceptedTemplatesExist = (groups : Groups) (ps : List Part) → (first_fault groups ps ≡ None) ↔ AllExist groups ps
