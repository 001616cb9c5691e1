-- What parsing a pattern under options returns.
use Rattle.std.specs.Prelude.{◌≡◌, ℕ, List, Ok, Err}
use Rattle.fancy_regex_text.specs.ParseFault.{kind_of}
use Rattle.fancy_regex_tree.specs.Parse.{Parsed}
use Rattle.fancy_regex_tree.specs.ParseResult.{IsExprTreeOf}
use Rattle.fancy_regex_tree.specs.declared.expr_tree.ExprTree.{ExprTree}
use Rattle.fancy_regex_meta.specs.Patterns.{read_as}
use Rattle.fancy_regex_meta.specs.declared.options.RegexOptions.{RegexOptions}
use Rattle.fancy_regex_meta.specs.declared.error.Error.{Error}
use Rattle.fancy_regex_meta.specs.declared.error.Error.TheVariants as told

-- the text is a pattern, and this is its tree
abbrev pub IsReading : RegexOptions → List ℕ → ExprTree → Type 0
IsReading o text tree = (found : Parsed) × (read_as o text ≡ Ok found) × IsExprTreeOf tree found

-- the first error of a text that is no pattern, with its byte offset; or want of memory
abbrev pub IsReadingError : RegexOptions → List ℕ → Error → Type 0
IsReadingError o text (told.ParseError position kind) = read_as o text ≡ Err (record { kind = kind_of kind; position = position })
IsReadingError o text told.Memory = Unit {0}
IsReadingError o text _ = ⊥
