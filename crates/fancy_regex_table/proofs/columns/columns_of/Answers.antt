use Rattle.std.proofs.Common.{arith, length-append}
use Rattle.std.proofs.lemmas.Option.{slice_get_within}
use Rattle.fancy_regex_table.proofs.MakingLemmas.{columns_more}
use Rattle.fancy_regex_table.proofs.columns.columns_of.Goals as goal

pub loop-i-preserved : goal.loop-i-preserved
loop-i-preserved c =
    let inv = c.loop-i.invariant in
    record {
      long = rw c.in_ok-push.ensures.items (simp length-append (omega arith));
      right = rw c.in_ok-push.ensures.items
          (columns_more c.args.reader.now.matchers.now c.args.alphabet.now.asked c.args.reader.now.unicode c.args.alphabet.now.samples.items c.loop-i.columns.items
          (record { sample = c.index-sample.result.now; sort = c.sort_of.result }) c.loop-i.i inv.long inv.right c.index-sample.ensures c.sort_of.ensures);
    }

pub returns : goal.returns
returns c k sample there =
    let within = slice_get_within c.args.alphabet.now.samples.items k sample there in
    c.loop-i.invariant.right k sample (omega arith) there
