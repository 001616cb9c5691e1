-- Each token is a prefix of the text and the rest is a suffix of it; no error position is outside of the text.
use Rattle.std.specs.Prelude.{◌≤◌, ℕ, ℤ, Bool, Option}
use Rattle.fancy_regex_text.specs.Text.{Text, IsSuffix, bytes}
use Rattle.fancy_regex_text.specs.Names.{Named}
use Rattle.fancy_regex_text.specs.ParseFault.{ParseFault}
use Rattle.fancy_regex_lex.specs.Escapes.{Escape}
use Rattle.fancy_regex_lex.specs.Openings.{Opening}
use Rattle.fancy_regex_lex.specs.declared.token.Quantifier.{Quantifier}
use Rattle.fancy_regex_lex.specs.declared.token.QuantifierSuffix.{QuantifierSuffix}
use Rattle.fancy_regex_lex.specs.declared.token.Flags.{Flags}
use Rattle.fancy_regex_lex_grammar.specs.Layout.{IsSkipped, LayoutFails}
use Rattle.fancy_regex_lex_grammar.specs.Names.{IsLeadingNumber}
use Rattle.fancy_regex_lex_grammar.specs.Counts.{IsQuantifier, IsMarks}
use Rattle.fancy_regex_lex_grammar.specs.Flags.{IsFlags, FlagsFail}
use Rattle.fancy_regex_lex_grammar.specs.Escapes.{IsEscape, IsClosedReference}
use Rattle.fancy_regex_lex_grammar.specs.Classes.{IsClass, ClassFails}
use Rattle.fancy_regex_lex_grammar.specs.Openings.{IsOpening, OpeningFails}

-- For each kind of token, the rest is a suffix of the text.
pub record TokensArePrefixes : Type 0 where
  pub of_layout : (verbose : Bool) (t rest : Text) → IsSkipped verbose t rest → IsSuffix rest t
  pub of_digits : (t rest : Text) (n : Option ℕ) → IsLeadingNumber t n rest → IsSuffix rest t
  pub of_quantifier : (verbose : Bool) (t rest : Text) (count : Quantifier) → IsQuantifier verbose t count rest → IsSuffix rest t
  pub of_marks : (oniguruma verbose braces : Bool) (t rest : Text) (marks : QuantifierSuffix) → IsMarks oniguruma verbose braces t marks rest → IsSuffix rest t
  pub of_flags : (unicode on body : Bool) (f g : Flags) (t rest : Text) → IsFlags unicode on f t g body rest → IsSuffix rest t
  pub of_reference : (allow_level : Bool) (close : ℕ) (t rest : Text) (target : Named) (level : Option ℤ) → IsClosedReference allow_level close t target level rest → IsSuffix rest t
  pub of_escape : (oniguruma : Bool) (t rest : Text) (e : Escape) → IsEscape oniguruma t e rest → IsSuffix rest t
  pub of_class : (oniguruma : Bool) (t text rest : Text) → IsClass oniguruma t text rest → IsSuffix rest t
  pub of_opening : (unicode : Bool) (f : Flags) (t rest : Text) (how : Opening) → IsOpening unicode f t how rest → IsSuffix rest t

-- The number of bytes after an error position is at most that of the text, so the position is in the text or at its end.
pub record TokenFaultsAreInside : Type 0 where
  pub of_layout : (verbose : Bool) (t : Text) (e : ParseFault) → LayoutFails verbose t e → e.left ≤ bytes t
  pub of_flags : (unicode on : Bool) (f : Flags) (here t : Text) (e : ParseFault) → FlagsFail unicode here on f t e → e.left ≤ bytes here
  pub of_class : (oniguruma : Bool) (t : Text) (e : ParseFault) → ClassFails oniguruma t e → e.left ≤ bytes t
  pub of_opening : (unicode : Bool) (f : Flags) (here t : Text) (e : ParseFault) → OpeningFails unicode f here t e → e.left ≤ bytes here
