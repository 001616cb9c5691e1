use Rattle.std.proofs.Common.{refl, Some, None, false, get_or, arith, length-append}
use Rattle.fancy_regex_table.specs.LeafSets.{no_leaves}
use Rattle.fancy_regex_table.specs.Making.{parts_of}
use Rattle.fancy_regex_table.specs.declared.columns.Column.{Column}
use Rattle.fancy_regex_table.proofs.MakingLemmas.{begun_more, some_begun}
use Rattle.fancy_regex_table.proofs.begun.home_of.Goals as goal

pub returns : goal.returns
returns c = (refl, λ k column begun there is. c.loop-k.invariant.right k (Some begun) is column there)

pub loop-k-preserved : goal.loop-k-preserved
loop-k-preserved c =
    let parts = parts_of c.args.pattern.now in
    let inv = c.loop-k.invariant in
    let d : Column = record { sample = None; sort = record { edge = false; newline = false; carriage_return = false; word = false; matched = no_leaves } } in
    let column = get_or c.args.columns.now c.loop-k.k d in
    let found = rw c.deref.ensures.value at c.in_ok-found.ensures in
    record {
      long = rw c.in_ok-push.ensures.items (simp length-append (omega arith));
      right = rw c.in_ok-push.ensures.items
          (begun_more parts c.args.columns.now c.args.before c.loop-k.begun.items c.in_ok-found.found d column c.loop-k.k inv.long refl inv.right
          (some_begun parts c.args.before column.sort column.sample c.in_ok-readings.readings.items c.in_ok-found.found found c.in_ok-readings.ensures));
    }
