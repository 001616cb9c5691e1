use Rattle.std.proofs.Common.{◌∙◌, ◌==◌, sym, subst, arith, eqb-true}
use Rattle.std.proofs.lemmas.Bool.{ltb-true}
use Rattle.fancy_regex_class.proofs.FoldLemmas.{ascii_folding, not_yes}
use Rattle.fancy_regex_states.specs.CharTests.{IsAsciiLeaf}
use Rattle.fancy_regex_states.specs.declared.atom.Leaf.{Leaf}
use Rattle.fancy_regex_states.proofs.char_tests.is_ascii_leaf.Goals as goal

pub returns-in-Char : goal.returns-in-Char
returns-in-Char c said =
    let small = ltb-true c.in-Char.wanted 128 said in
    subst (λ (leaf : Leaf). IsAsciiLeaf c.args.unicode c.args.matchers.now leaf) (sym c.in-Char.is)
    (λ k low. not_yes (k == c.in-Char.wanted) (λ same. let is = eqb-true k c.in-Char.wanted same in omega (arith, low, is, small)))

pub returns-in-Folded : goal.returns-in-Folded
returns-in-Folded c said =
    subst (λ (leaf : Leaf). IsAsciiLeaf c.args.unicode c.args.matchers.now leaf) (sym c.in-Folded.is)
    (ascii_folding c.args.unicode c.in-Folded.wanted (sym c.is_ascii_folding.ensures ∙ said))
