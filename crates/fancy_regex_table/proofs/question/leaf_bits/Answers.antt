use Rattle.std.proofs.Common.{true, ◌∙◌, ap, sym}
use Rattle.fancy_regex_states.specs.CharTests.{leaf_matches_char}
use Rattle.fancy_regex_states.specs.declared.atom.Leaf.{Leaf}
use Rattle.fancy_regex_table.proofs.QuestionLemmas.{bits_as, any_bits}
use Rattle.fancy_regex_table.proofs.question.leaf_bits.Goals as goal

pub returns-in-Any : goal.returns-in-Any
returns-in-Any c =
    bits_as c.constant_bits.result (λ _. true) (leaf_matches_char c.args.reader.now.unicode c.args.reader.now.matchers.now c.args.leaf) c.constant_bits.ensures
    (λ d low. any_bits c.args.reader.now.unicode c.args.reader.now.matchers.now _ _ d low
    ∙ ap (λ (leaf : Leaf). leaf_matches_char c.args.reader.now.unicode c.args.reader.now.matchers.now leaf d) (sym c.in-Any.is))
