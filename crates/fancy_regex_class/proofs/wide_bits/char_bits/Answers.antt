use Rattle.std.proofs.Common.{[], ◌∷◌, ◌==◌}
use Rattle.fancy_regex_class.proofs.WideBitLemmas.{wide_from, in_one}
use Rattle.fancy_regex_class.proofs.wide_bits.char_bits.Goals as goal

pub returns : goal.returns
returns c =
    wide_from c.words_of.result ((c.args.c, c.args.c) ∷ []) (λ d. d == c.args.c) c.words_of.ensures.filled c.words_of.ensures.members (λ d _ _ _. in_one c.args.c d)
