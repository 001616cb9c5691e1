use Rattle.std.proofs.Common.{ℕ, replicate}
use Rattle.std.proofs.lemmas.List.{length-replicate}
use Rattle.fancy_regex_table.proofs.BlockLemmas.{zero_at}
use Rattle.fancy_regex_table.proofs.WideLemmas.{none_known}
use Rattle.fancy_regex_table.proofs.wide_maker.wide_of.Goals as goal

pub add_classes-requires-clause-known : goal.add_classes-requires-clause-known
add_classes-requires-clause-known c =
    none_known c.args.tests.now.reader.now.unicode c.args.tests.now.reader.now.matchers.now c.args.tests.now.leaves.now c.args.tests.now.asked
    c.deref-3.result.now c.args.samples.now.items (replicate 256 0) (length-replicate {A = ℕ} 256 0) (zero_at 256)
