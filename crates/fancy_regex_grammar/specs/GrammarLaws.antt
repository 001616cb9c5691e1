-- The laws: the parsing functions return exactly what the relations describe.
use Rattle.std.specs.Prelude.{◌≤◌, ℕ, Bool}
use Rattle.fancy_regex_text.specs.Text.{Text, IsSuffix, bytes}
use Rattle.fancy_regex_text.specs.ParseFault.{ParseFault}
use Rattle.fancy_regex_lex.specs.declared.token.Flags.{Flags}
use Rattle.fancy_regex_tree.specs.declared.parser_config.ParserConfig.{ParserConfig}
use Rattle.fancy_regex_tree.specs.Tree.{Tree}
use Rattle.fancy_regex_tree.specs.Quantifiers.{Atom, parse_quantifiers}
use Rattle.fancy_regex_tree.specs.Parser.{Branches, parse_alternation, parse_pattern}
use Rattle.fancy_regex_lex_grammar.specs.Exact.{ReadsExactly}
use Rattle.fancy_regex_grammar.specs.Quantifiers.{IsQuantified, QuantifiersFail}
use Rattle.fancy_regex_grammar.specs.Patterns.{IsBranches, IsPattern}
use Rattle.fancy_regex_grammar.specs.Faults.{BranchesFail, PatternFails}

-- the quantifiers after an atom, of which at most `more` are allowed
abbrev pub QuantifiersAreExact : Type 0
QuantifiersAreExact = (p : ParserConfig) (f : Flags) (more : ℕ) (e : Atom) (t : Text) →
    ReadsExactly (parse_quantifiers p f more e t) (λ (r : Tree × Text). IsQuantified p f more e t r.0 r.1) (QuantifiersFail p f more e t)

-- branches, in which at most n levels of parentheses may nest
abbrev pub BranchesAreExact : Type 0
BranchesAreExact = (p : ParserConfig) (n : ℕ) (in_look : Bool) (f : Flags) (t : Text) →
    ReadsExactly (parse_alternation p n in_look f t) (λ (r : Branches × Flags × Text). IsBranches p n in_look f t r.0 r.1 r.2) (BranchesFail p n in_look f t)

-- whole patterns, before their references are resolved
abbrev pub PatternsAreExact : Type 0
PatternsAreExact = (oniguruma unicode : Bool) (f : Flags) (t : Text) →
    let p : ParserConfig = record { size = bytes t; oniguruma = oniguruma; unicode = unicode } in
    ReadsExactly (parse_pattern oniguruma unicode f t) (IsPattern p f t) (PatternFails p f t)

-- the rest after branches is a suffix of the text
abbrev pub RestIsSuffix : Type 0
RestIsSuffix = (p : ParserConfig) (n : ℕ) (in_look : Bool) (f g : Flags) (t rest : Text) (body : Branches) → IsBranches p n in_look f t body g rest → IsSuffix rest t

-- the number of bytes after a parse error is at most that of the pattern
abbrev pub PatternFaultsAreInside : Type 0
PatternFaultsAreInside = (p : ParserConfig) (f : Flags) (t : Text) (e : ParseFault) → PatternFails p f t e → e.left ≤ bytes t
