-- The notation of examples of syntax, before references are resolved.
use Rattle.std.specs.Prelude.{◌≡◌, ℕ, zero, suc, ◌+◌, ◌-◌, Bool, true, false, List, [], ◌∷◌, None, Ok, Err, codes}
use Prim.Native.String.{String}
use Rattle.fancy_regex_text.specs.Text.{Text, bytes}
use Rattle.fancy_regex_text.specs.ParseFault.{Kind}
use Rattle.fancy_regex_lex.specs.FlagExamples.{no_flags}
use Rattle.fancy_regex_tree.specs.Tree.{Tree, ast_group, literal, concat, alt, trees}
use Rattle.fancy_regex_tree.specs.Parser.{parse_pattern}

-- how a text is parsed
pub record Mode : Type 0 where
  pub oniguruma : Bool
  pub unicode : Bool

abbrev pub unicode_only : Mode
unicode_only = record { oniguruma = false; unicode = true }

abbrev pub no_options : Mode
no_options = record { oniguruma = false; unicode = false }

abbrev pub in_oniguruma_mode : Mode
in_oniguruma_mode = record { oniguruma = true; unicode = true }

-- the text is parsed as this tree
abbrev pub TextParsesAs : Mode → Text → Tree → Type 0
TextParsesAs m t e = parse_pattern m.oniguruma m.unicode no_flags t ≡ Ok e

abbrev pub ParsesAs : Mode → String → Tree → Type 0
ParsesAs m s e = TextParsesAs m (codes s) e

-- the text has this error first, at this byte offset
abbrev pub TextFailsWith : Mode → Text → Kind → ℕ → Type 0
TextFailsWith m t kind position = parse_pattern m.oniguruma m.unicode no_flags t ≡ Err (record { kind = kind; left = bytes t - position })

abbrev pub FailsWith : Mode → String → Kind → ℕ → Type 0
FailsWith m s kind position = TextFailsWith m (codes s) kind position

-- a case-sensitive character
abbrev pub ch : String → Tree
ch s = literal (codes s) false

abbrev pub concat_of : List Tree → Tree
concat_of es = concat (trees es)

abbrev pub alt_of : List Tree → Tree
alt_of es = alt (trees es)

-- the tree in so many capture groups, of which the outermost opens at this byte offset
abbrev pub groups_from : ℕ → ℕ → Tree → Tree
groups_from place zero e = e
groups_from place (suc n) e = ast_group None (groups_from (place + 1) n e) place

abbrev pub group_in : ℕ → Tree → Tree
group_in n e = groups_from 0 n e

abbrev pub each_char : Text → List Tree
each_char [] = []
each_char (c ∷ t) = literal (c ∷ []) false ∷ each_char t

abbrev pub list_of_chars : String → List Tree
list_of_chars s = each_char (codes s)

abbrev pub list_of_chars_in_a_row : String → Tree
list_of_chars_in_a_row s = concat_of (list_of_chars s)
