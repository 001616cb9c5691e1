-- The notation of examples of parsed patterns, with groups numbered and references resolved.
use Rattle.std.specs.Prelude.{◌≡◌, ℕ, true, List, [], Result, Ok, Err, codes}
use Prim.Native.String.{String}
use Rattle.fancy_regex_text.specs.ParseFault.{Kind}
use Rattle.fancy_regex_tree.specs.Tree.{Text, Tree}
use Rattle.fancy_regex_tree.specs.Numbering.{Names, PositionedFault, numbers_of}
use Rattle.fancy_regex_tree.specs.Parse.{Options, Parsed, parse}
use Rattle.fancy_regex_tree.specs.Options.{unicode_only}

abbrev pub ignoring_numbered : Options
ignoring_numbered = record unicode_only { ignore_numbered = true }

abbrev pub in_oniguruma_mode : Options
in_oniguruma_mode = record unicode_only { oniguruma = true }

-- a property of a parsed pattern, or a given value if there is an error
abbrev pub parsed_property : {A : Type 0} → A → (Parsed → A) → Options → String → A
parsed_property otherwise what o s = elim (parse o (codes s)) [ Ok found ↦ what found | Err e ↦ otherwise ]

abbrev pub tree_only : Result Parsed PositionedFault → Result Tree PositionedFault
tree_only (Ok found) = Ok found.tree
tree_only (Err e) = Err e

-- the text is parsed as this tree
abbrev pub TextParsesAs : Options → Text → Tree → Type 0
TextParsesAs o t e = tree_only (parse o t) ≡ Ok e

abbrev pub ParsesAs : Options → String → Tree → Type 0
ParsesAs o s e = TextParsesAs o (codes s) e

-- the text has this error first, at this byte offset
abbrev pub FailsWith : Options → String → Kind → ℕ → Type 0
FailsWith o s kind position = parse o (codes s) ≡ Err (record { kind = kind; position = position })

-- the text is parsed as this tree, and its groups have these names
abbrev pub ParsesWithNames : Options → String → Tree → Names → Type 0
ParsesWithNames o s e names = (tree_only (parse o (codes s)) ≡ Ok e) × (parsed_property [] (λ found. found.names) o s ≡ names)

-- the numbers of the groups of this name
abbrev pub NumbersAre : Options → String → String → List ℕ → Type 0
NumbersAre o s name numbers = parsed_property [] (λ found. numbers_of (codes name) 0 found.names) o s ≡ numbers
