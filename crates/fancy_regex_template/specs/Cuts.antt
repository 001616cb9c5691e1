-- A template and its parts, as a relation. Each part is as long as possible, and the texts of the parts in the template are the template.
use Rattle.std.specs.Prelude.{◌≡◌, ◌≢◌, ◌≤◌, ◌<◌, ◌⊎◌, ◌↔◌, ℕ, Bool, true, false, List, [], ◌∷◌, ◌++◌, Some, ◌==◌}
use Rattle.fancy_regex_text.specs.Text.{Text, is_decimal, value, unbounded}
use Rattle.fancy_regex_text.specs.Names.{is_name_char}
use Rattle.fancy_regex_template.specs.Numbers.{number_of}
use Rattle.fancy_regex_template.specs.Parts.{Part, literal, doubled_sign, named, numbered, loose_sign, sign_of, opening_of, closing_of, is_no_sign, parts}
use Rattle.fancy_regex_template.specs.declared.syntax.TemplateSyntax.{TemplateSyntax}
use Rattle.fancy_regex_template.specs.declared.syntax.TemplateSyntax.TheVariants.{Dollar, Python}

-- each character passes the test
abbrev pub AllPass : (ℕ → Bool) → Text → Type 0
AllPass test [] = Unit {0}
AllPass test (c ∷ t) = (test c ≡ true) × AllPass test t

-- the text does not begin with a character that passes the test
abbrev pub StopsAt : (ℕ → Bool) → Text → Type 0
StopsAt test [] = Unit {0}
StopsAt test (c ∷ t) = test c ≡ false

-- The text is a front of one or more characters that pass the test, as long as possible, and the rest.
pub record IsRun (test : ℕ → Bool) (t front rest : Text) : Type 0 where
  pub whole : t ≡ front ++ rest
  pub present : front ≢ []
  pub all : AllPass test front
  pub longest : StopsAt test rest

-- the digits write a number of at most 64 bits; after them there is no further digit, or with it the number has more
pub record IsLongestNumber (t digits rest : Text) : Type 0 where
  pub whole : t ≡ digits ++ rest
  pub present : digits ≢ []
  pub all : AllPass is_decimal digits
  pub fits : value 10 digits ≤ unbounded
  pub longest : (c : ℕ) (more : Text) → rest ≡ c ∷ more → is_decimal c ≡ true → unbounded < value 10 (digits ++ c ∷ [])

-- a name between the brackets of the syntax
pub record IsEnclosed (syntax : TemplateSyntax) (t name rest : Text) : Type 0 where
  pub whole : t ≡ opening_of syntax ++ (name ++ (closing_of syntax ++ rest))
  pub present : name ≢ []
  pub all : AllPass is_name_char name

-- The text after a sign begins with a reference without brackets.
abbrev pub IsBare : TemplateSyntax → Text → Part → Text → Type 0
IsBare Dollar t part rest = (name : Text) × (part ≡ named name) × IsRun is_name_char t name rest
IsBare Python t part rest = (digits : Text) × (part ≡ numbered (value 10 digits)) × IsLongestNumber t digits rest

-- The text after a sign begins with a reference.
abbrev pub IsReference : TemplateSyntax → Text → Part → Text → Type 0
IsReference syntax t part rest = ((name : Text) × (part ≡ named name) × IsEnclosed syntax t name rest) ⊎ IsBare syntax t part rest

-- The text begins with this part, and the rest follows.
pub data BeginsWith (syntax : TemplateSyntax) (t : Text) (part : Part) (rest : Text) : Type 0 where
  plain : (run : Text) → part ≡ literal run → IsRun (is_no_sign syntax) t run rest → BeginsWith syntax t part rest
  doubled : part ≡ doubled_sign → t ≡ sign_of syntax ∷ sign_of syntax ∷ rest → BeginsWith syntax t part rest
  refers : (following : Text) → t ≡ sign_of syntax ∷ following → IsReference syntax following part rest → BeginsWith syntax t part rest
  loose : part ≡ loose_sign → t ≡ sign_of syntax ∷ rest → StopsAt (λ c. c == sign_of syntax) rest →
      ((other : Part) (after : Text) → IsReference syntax rest other after → ⊥) → BeginsWith syntax t part rest

-- The template is cut into these parts.
pub data Cuts (syntax : TemplateSyntax) : Text → List Part → Type 0 where
  nothing_left : Cuts syntax [] []
  one_part : {part : Part} {ps : List Part} (t rest : Text) → BeginsWith syntax t part rest → Cuts syntax rest ps → Cuts syntax t (part ∷ ps)

-- the parts are the one way to cut the template
abbrev pub PartsAreCut : Type 0
PartsAreCut = (syntax : TemplateSyntax) (t : Text) (ps : List Part) → Cuts syntax t ps ↔ (ps ≡ parts syntax t)

-- a text writes a number exactly if it is one or more decimal digits whose number has at most 64 bits
abbrev pub NumbersAreDigits : Type 0
NumbersAreDigits = (t : Text) (n : ℕ) → (number_of t ≡ Some n) ↔ ((t ≢ []) × AllPass is_decimal t × (n ≡ value 10 t) × (n ≤ unbounded))
