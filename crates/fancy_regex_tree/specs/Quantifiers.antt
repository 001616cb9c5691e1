-- The nodes of an atom with quantifiers.
use Rattle.std.specs.Prelude.{ℕ, zero, suc, Bool, ◌&&◌, ◌||◌, nat_lt, Some, None, is_some, Ok, if◌then◌else◌}
use Rattle.fancy_regex_text.specs.Text.{Text}
use Rattle.fancy_regex_text.specs.ParseFault.{ParseOutcome, ◌>>=◌, fail_at, recursion_exceeded, target_not_repeatable}
use Rattle.fancy_regex_text.specs.Layout.{skip}
use Rattle.fancy_regex_lex.specs.Quantifiers.{leading_quantifier, quantifier_suffix}
use Rattle.fancy_regex_lex.specs.FlagLetters.{same}
use Rattle.fancy_regex_lex.specs.declared.token.Quantifier.{Quantifier}
use Rattle.fancy_regex_lex.specs.declared.token.QuantifierSuffix.{QuantifierSuffix}
use Rattle.fancy_regex_lex.specs.declared.token.Flags.{Flags}
use Rattle.fancy_regex_tree.specs.declared.parser_config.ParserConfig.{ParserConfig}
use Rattle.fancy_regex_tree.specs.Tree.{Tree, repeat, atomic_group}
use Rattle.fancy_regex_tree.specs.TreeBuilders.{is_repeatable, is_empty_tree}

-- a parsed atom, before its quantifiers
pub record Atom : Type 0 where
  pub tree : Tree
  -- it is a non-capturing group, `(?:..)` or `(?i:..)`, whose body stands for it in the tree
  pub is_non_capturing_group : Bool

-- In Oniguruma mode bounds in the wrong order are swapped.
abbrev pub is_reversed : ParserConfig → Quantifier → Bool
is_reversed p q = p.oniguruma && nat_lt q.hi q.lo

abbrev pub loop_of : ParserConfig → Quantifier → Bool → Tree → Tree
loop_of p q greedy e = if is_reversed p q then repeat e q.hi q.lo greedy else repeat e q.lo q.hi greedy

-- an empty non-capturing group, whose quantifiers are ignored in Oniguruma mode
abbrev pub is_dropped : ParserConfig → Atom → Bool
is_dropped p e = p.oniguruma && e.is_non_capturing_group && is_empty_tree e.tree

module _ (p : ParserConfig) (f : Flags) where
  -- the repetition of a node by a quantifier with its suffix
  unfoldable pub repeated : Quantifier → QuantifierSuffix → Tree → Tree
  repeated q m e =
      let loop = loop_of p q (same m.lazy f.swap_greed) e in
      if m.possessive || is_reversed p q then atomic_group loop else loop

  -- the node under the quantifier q, and the rest after its suffix; t is the text after q without its suffix
  unfoldable pub marked : Quantifier → Tree → Text → ParseOutcome (Tree × Text)
  marked q e t = do
    (m, rest) ← quantifier_suffix p.oniguruma f.verbose q.braces t
    Ok (if is_repeatable e then repeated q m e else e, rest)

  -- the node of an atom under the quantifier q, which begins at `here`, and the rest; an error if it may not be repeated
  unfoldable pub apply_quantifier : Text → Quantifier → Atom → Text → ParseOutcome (Tree × Text)
  apply_quantifier here q e t =
      if is_repeatable e.tree || is_dropped p e then marked q e.tree t else fail_at target_not_repeatable here

  -- the end of the quantifiers; in Oniguruma mode a further one is an error
  unfoldable pub full : Text → Tree → ParseOutcome (Tree × Text)
  full here e =
      if p.oniguruma && is_some (leading_quantifier f.verbose here) then fail_at recursion_exceeded here else Ok (e, here)

  -- The node under the quantifiers after an atom, of which there may be `more`, and the rest.
  unfoldable pub parse_quantifiers : ℕ → Atom → Text → ParseOutcome (Tree × Text)
  parse_quantifiers zero e t = do
    here ← skip f.verbose t
    full here e.tree
  parse_quantifiers (suc more) e t = do
    here ← skip f.verbose t
    elim (leading_quantifier f.verbose here) [
      | None ↦ Ok (e.tree, here)
      | Some q ↦
          apply_quantifier here q.0 e q.1 >>= λ found. parse_quantifiers more (record e { tree = found.0 }) found.1
    ]
