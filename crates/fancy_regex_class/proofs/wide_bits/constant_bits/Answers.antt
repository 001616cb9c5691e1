use Rattle.std.proofs.Common.{◌∙◌, [], ◌∷◌, sym}
use Rattle.regex_class.proofs.RangesLemmas.{in_ranges-nil}
use Rattle.fancy_regex_class.proofs.WideBitLemmas.{wide_from, in_all}
use Rattle.fancy_regex_class.proofs.wide_bits.constant_bits.Goals as goal

pub returns-then-all : goal.returns-then-all
returns-then-all c =
    wide_from c.words_of.result ((128, 1114111) ∷ []) (λ _. c.args.all) c.words_of.ensures.filled c.words_of.ensures.members
    (λ d _ low below. in_all d low below ∙ sym c.if-all.true)

pub returns-else-all : goal.returns-else-all
returns-else-all c =
    wide_from c.words_of-else-all.result [] (λ _. c.args.all) c.words_of-else-all.ensures.filled c.words_of-else-all.ensures.members
    (λ d _ _ _. in_ranges-nil d ∙ sym c.if-all.false)
