-- Atoms with quantifiers.
use Rattle.std.specs.Prelude.{◌≡◌, ◌≤◌, ◌<◌, ℕ, zero, suc, Bool, true, false}
use Rattle.fancy_regex_text.specs.Text.{Text}
use Rattle.fancy_regex_text.specs.ParseFault.{ParseFault, recursion_exceeded, target_not_repeatable}
use Rattle.fancy_regex_lex.specs.declared.token.Quantifier.{Quantifier}
use Rattle.fancy_regex_lex.specs.declared.token.QuantifierSuffix.{QuantifierSuffix}
use Rattle.fancy_regex_lex.specs.declared.token.Flags.{Flags}
use Rattle.fancy_regex_tree.specs.declared.parser_config.ParserConfig.{ParserConfig}
use Rattle.fancy_regex_tree.specs.Tree.{Tree, empty, repeat, atomic_group}
use Rattle.fancy_regex_tree.specs.TreeBuilders.{is_repeatable}
use Rattle.fancy_regex_tree.specs.Quantifiers.{Atom}
use Rattle.fancy_regex_lex_grammar.specs.Exact.{at}
use Rattle.fancy_regex_lex_grammar.specs.Layout.{IsSkipped, LayoutFails}
use Rattle.fancy_regex_lex_grammar.specs.Counts.{IsQuantifier, IsMarks}

-- the text does not begin with a quantifier
abbrev pub NoQuantifier : Bool → Text → Type 0
NoQuantifier verbose t = (count : Quantifier) (rest : Text) → IsQuantifier verbose t count rest → ⊥

-- Whether a quantifier is greedy, by its mark `?` and the flag U.
pub data IsGreedy : Bool → Bool → Bool → Type 0 where
  greedy : IsGreedy false false true
  lazy : IsGreedy true false false
  swapped_to_lazy : IsGreedy false true false
  swapped_to_greedy : IsGreedy true true true

module _ (p : ParserConfig) (f : Flags) where
  -- the bounds are in order; only Oniguruma mode needs that for a plain repetition
  pub data IsInOrder (count : Quantifier) : Type 0 where
    in_plain_mode : p.oniguruma ≡ false → IsInOrder count
    not_reversed : count.lo ≤ count.hi → IsInOrder count

  -- the tree of an expression with a quantifier and its marks
  pub data IsRepeated (count : Quantifier) (marks : QuantifierSuffix) (e : Tree) : Tree → Type 0 where
    a_repeat : {greedy : Bool} → IsInOrder count → marks.possessive ≡ false → IsGreedy marks.lazy f.swap_greed greedy →
        IsRepeated count marks e (repeat e count.lo count.hi greedy)
    possessive : {greedy : Bool} → IsInOrder count → marks.possessive ≡ true → IsGreedy marks.lazy f.swap_greed greedy →
        IsRepeated count marks e (atomic_group (repeat e count.lo count.hi greedy))
    reversed : {greedy : Bool} → p.oniguruma ≡ true → count.hi < count.lo → IsGreedy marks.lazy f.swap_greed greedy →
        IsRepeated count marks e (atomic_group (repeat e count.hi count.lo greedy))

  -- in Oniguruma mode a quantifier on an empty `(?:)` is dropped
  pub record IsDropped (e : Atom) : Type 0 where
    pub mode : p.oniguruma ≡ true
    pub written : e.is_non_capturing_group ≡ true
    pub nothing : e.tree ≡ empty

  -- the tree of an atom with one quantifier and its marks
  pub data IsQuantifierApplied (count : Quantifier) (marks : QuantifierSuffix) (e : Atom) : Tree → Type 0 where
    repeats : {tree : Tree} → is_repeatable e.tree ≡ true → IsRepeated count marks e.tree tree → IsQuantifierApplied count marks e tree
    dropped : IsDropped e → IsQuantifierApplied count marks e empty

  -- the quantifiers after an atom, of which at most this many are allowed: the tree, and the rest
  pub data IsQuantified : ℕ → Atom → Text → Tree → Text → Type 0 where
    no_more : {more : ℕ} {e : Atom} {t here : Text} → IsSkipped f.verbose t here → NoQuantifier f.verbose here →
        IsQuantified (suc more) e t e.tree here
    -- outside of Oniguruma mode one more quantifier begins a piece of its own
    enough : {e : Atom} {t here : Text} → IsSkipped f.verbose t here → (p.oniguruma ≡ true → NoQuantifier f.verbose here) →
        IsQuantified zero e t e.tree here
    and_quantifier : {more : ℕ} {e : Atom} {t here marked after rest : Text} {count : Quantifier} {marks : QuantifierSuffix} {tree whole : Tree} →
        IsSkipped f.verbose t here → IsQuantifier f.verbose here count marked → IsMarks p.oniguruma f.verbose count.braces marked marks after →
        IsQuantifierApplied count marks e tree → IsQuantified more (record e { tree = tree }) after whole rest → IsQuantified (suc more) e t whole rest

  -- where quantifiers fail, and the error
  pub data QuantifiersFail : ℕ → Atom → Text → ParseFault → Type 0 where
    before_quantifier : {more : ℕ} {e : Atom} {t : Text} {fault : ParseFault} → LayoutFails f.verbose t fault → QuantifiersFail more e t fault
    too_many : {e : Atom} {t here rest : Text} {count : Quantifier} → IsSkipped f.verbose t here → p.oniguruma ≡ true →
        IsQuantifier f.verbose here count rest → QuantifiersFail zero e t (at recursion_exceeded here)
    no_target : {more : ℕ} {e : Atom} {t here marked : Text} {count : Quantifier} → IsSkipped f.verbose t here → IsQuantifier f.verbose here count marked →
        is_repeatable e.tree ≡ false → (IsDropped e → ⊥) → QuantifiersFail (suc more) e t (at target_not_repeatable here)
    before_marks : {more : ℕ} {e : Atom} {t here marked : Text} {count : Quantifier} {fault : ParseFault} → IsSkipped f.verbose t here →
        IsQuantifier f.verbose here count marked → (is_repeatable e.tree ≡ false → IsDropped e) → LayoutFails f.verbose marked fault →
        QuantifiersFail (suc more) e t fault
    after_quantifier : {more : ℕ} {e : Atom} {t here marked after : Text} {count : Quantifier} {marks : QuantifierSuffix} {tree : Tree} {fault : ParseFault} →
        IsSkipped f.verbose t here → IsQuantifier f.verbose here count marked → IsMarks p.oniguruma f.verbose count.braces marked marks after →
        IsQuantifierApplied count marks e tree → QuantifiersFail more (record e { tree = tree }) after fault → QuantifiersFail (suc more) e t fault
