use Rattle.std.proofs.Common.{◌<◌, length, arith}
use Rattle.fancy_regex_linear.specs.Quick.{open_of}
use Rattle.fancy_regex_linear.proofs.QuickLemmas.{pushed_pair}
use Rattle.fancy_regex_linear.proofs.open_pairs.OpenPairs.push.Goals as goal

pub returns : goal.returns
unfolding open_of
returns c was =
    let room : c.args.self.now.count < length c.args.self.now.pairs = omega arith in
    pushed_pair c.args.self.now.pairs c.args.self.now.count (record { state = c.args.state; at = c.args.at }) room
