use Rattle.std.proofs.Common.{chars}
use Rattle.fancy_regex_linear.proofs.BuildLemmas.{extends_more}
use Rattle.fancy_regex_linear.proofs.build.Translator.class_leaf.Goals as goal

pub returns-clause-matchers : goal.returns-clause-matchers
returns-clause-matchers c =
    rw c.in_ok-add.ensures (extends_more c.args.self.now.unicode c.args.self.now.matchers.items c.in_ok-matcher.matcher (chars c.args.class.now) c.args.casei c.in_ok-matcher.ensures.members c.in_ok-matcher.ensures.read)
