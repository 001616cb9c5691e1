-- Whole patterns, as the function reads them.
use Rattle.std.proofs.Common.{◌≡◌, ◌≢◌, ℕ, false, Ok, Err, [], ◌∷◌, codes, refl, sym, ap, ◌∙◌}
use Rattle.fancy_regex_text.specs.Text.{Text, bytes}
use Rattle.fancy_regex_text.specs.ParseFault.{ParseFault, ParseOutcome, ◌>>=◌, general_parse_error}
use Rattle.fancy_regex_lex.specs.declared.token.Flags.{Flags}
use Rattle.fancy_regex_tree.specs.declared.parser_config.ParserConfig.{ParserConfig}
use Rattle.fancy_regex_tree.specs.Tree.{Tree}
use Rattle.fancy_regex_tree.specs.TreeBuilders.{pattern_of}
use Rattle.fancy_regex_tree.specs.Parser.{Branches, parse_alternation, expect_end, parse_whole_pattern, parse_pattern}
use Rattle.fancy_regex_lex_grammar.specs.Exact.{at}
use Rattle.fancy_regex_lex_grammar.proofs.ReadingLemmas.{Meant, is_read, is_stopped, reads_exactly}
use Rattle.fancy_regex_grammar.specs.Patterns.{IsBranches, IsPattern}
use Rattle.fancy_regex_grammar.specs.Faults.{BranchesFail, PatternFails, inside_pattern, nothing_to_close}
use Rattle.fancy_regex_grammar.specs.GrammarLaws.{PatternsAreExact}
use Rattle.fancy_regex_grammar.proofs.Soundness.{nested_means}
use Rattle.fancy_regex_grammar.proofs.BranchProofs.{branches_are_exact}

module _ (p : ParserConfig) (f : Flags) (t : Text) where
  abbrev PatternMeans : ParseOutcome Tree → Type 0
  PatternMeans = Meant (IsPattern p f t) (PatternFails p f t)

  some_left : {c : ℕ} {u : Text} → c ∷ u ≢ []
  some_left h = cc

  end_means : (body : Branches) (g : Flags) (rest : Text) → IsBranches p 63 false f t body g rest → PatternMeans (expect_end p (pattern_of body) rest)
  end_means body g [] b = is_read (record { body = body; flags_after = g; derivation = b; tree = refl })
  end_means body g (c ∷ rest) b = is_stopped (nothing_to_close b some_left)

  pattern_means : PatternMeans (parse_whole_pattern p f t)
  unfolding parse_whole_pattern
  pattern_means = by_branches (parse_alternation p 63 false f t) (nested_means p 63 false f t)
    where
      by_branches : (r : ParseOutcome (Branches × Flags × Text)) →
          Meant (λ (x : Branches × Flags × Text). IsBranches p 63 false f t x.0 x.1 x.2) (BranchesFail p 63 false f t) r →
          PatternMeans (r >>= λ x. expect_end p (pattern_of x.0) x.2)
      by_branches (Ok x) (is_read b) = end_means x.0 x.1 x.2 b
      by_branches (Err e) (is_stopped s) = is_stopped (inside_pattern s)

  abbrev to_end : Branches × Flags × Text → ParseOutcome Tree
  to_end x = expect_end p (pattern_of x.0) x.2

  pattern_read : (e : Tree) → IsPattern p f t e → parse_whole_pattern p f t ≡ Ok e
  unfolding parse_whole_pattern
  pattern_read e h =
      ap (λ r. r >>= to_end) ((branches_are_exact p 63 false f t).complete (h.body, h.flags_after, []) h.derivation) ∙ ap Ok (sym h.tree)

  not_at_end : (e : Tree) (rest : Text) → rest ≢ [] → expect_end p e rest ≡ Err (at (general_parse_error (codes "end of string not reached")) rest)
  not_at_end e [] n = absurd (n refl)
  not_at_end e (c ∷ rest) n = refl

  pattern_stops : (e : ParseFault) → PatternFails p f t e → parse_whole_pattern p f t ≡ Err e
  unfolding parse_whole_pattern
  pattern_stops e (inside_pattern s) = ap (λ r. r >>= to_end) ((branches_are_exact p 63 false f t).fault_is_complete e s)
  pattern_stops e (nothing_to_close {g} {rest} {body} b n) =
      ap (λ r. r >>= to_end) ((branches_are_exact p 63 false f t).complete (body, g, rest) b) ∙ not_at_end (pattern_of body) rest n

pub patterns_are_exact : PatternsAreExact
unfolding parse_pattern
patterns_are_exact oniguruma unicode f t =
    let p : ParserConfig = record { size = bytes t; oniguruma = oniguruma; unicode = unicode } in
    reads_exactly (parse_whole_pattern p f t) (pattern_means p f t) (pattern_read p f t) (pattern_stops p f t)
