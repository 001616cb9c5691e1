use Rattle.std.proofs.Common.{◌∙◌, [], codes, false}
use Rattle.regex_class.proofs.RangesLemmas.{in_ranges-nil}
use Rattle.fancy_regex_class.specs.Classes.{in_class}
use Rattle.fancy_regex_class.proofs.WideBitLemmas.{wide_from, in_words, in_no_words}
use Rattle.fancy_regex_class.proofs.wide_bits.word_bits.Goals as goal

pub returns-in_ok-ranges : goal.returns-in_ok-ranges
returns-in_ok-ranges c =
    wide_from c.words_of.result c.deref.result.now (in_class c.args.unicode (codes "\\w") false) c.words_of.ensures.filled c.words_of.ensures.members
    (λ d scalar _ _. rw (c.if-unicode.true, c.deref.ensures.value) (in_words c.in_ok-ranges.ranges.items c.in_ok-ranges.ensures.members d scalar))

pub returns-else-unicode : goal.returns-else-unicode
returns-else-unicode c =
    wide_from c.words_of-else-unicode.result [] (in_class c.args.unicode (codes "\\w") false) c.words_of-else-unicode.ensures.filled c.words_of-else-unicode.ensures.members
    (λ d scalar low _. rw c.if-unicode.false (in_ranges-nil d ∙ in_no_words d scalar low))
