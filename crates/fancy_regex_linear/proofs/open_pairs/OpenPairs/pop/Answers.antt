use Rattle.std.proofs.Common.{◌<◌, reverse, take, ap, arith}
use Rattle.fancy_regex_linear.specs.Quick.{open_of}
use Rattle.fancy_regex_linear.specs.declared.open_pairs.OpenPair.{OpenPair}
use Rattle.fancy_regex_linear.proofs.QuickLemmas.{popped_pair}
use Rattle.fancy_regex_linear.proofs.open_pairs.OpenPairs.pop.Goals as goal

pub returns-then-self-eq0 : goal.returns-then-self-eq0
unfolding open_of
returns-then-self-eq0 c = ap (λ n. reverse {A = OpenPair} (take n c.args.self.now.pairs)) c.if-self-eq0.true

pub returns : goal.returns
unfolding open_of
returns c =
    let some : 0 < c.args.self.now.count = omega (arith, c.if-self-eq0.false) in
    popped_pair c.args.self.now.pairs c.args.self.now.count _ some c.args.self.now.room
