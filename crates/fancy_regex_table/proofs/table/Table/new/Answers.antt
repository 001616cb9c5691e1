use Rattle.std.proofs.Common.{◌≡◌, arith, length}
use Rattle.fancy_regex_table.proofs.MadeLemmas.{table_is}
use Rattle.fancy_regex_table.proofs.table.Table.new.Goals as goal

pub returns : goal.returns
returns c =
    let columns = c.in_ok-columns.columns.items in
    let homes = rw c.deref.ensures.value at c.in_ok-homes.ensures in
    let made = rw (c.deref-2.ensures.value, c.deref-3.ensures.value) at c.in_ok-made.ensures in
    let classes : c.len.result ≡ length columns = omega (arith, c.len.ensures) in
    let again : c.len-2.result ≡ length columns = omega (arith, c.len-2.ensures) in
    let cells = rw (c.deref-4.ensures.value, classes) at c.in_ok-cells.ensures in
    let fresh = rw (c.deref-5.ensures.value, again) at c.in_ok-fresh.ensures in
    let begins = rw (c.deref-6.ensures.value, c.deref-7.ensures.value) at c.in_ok-begins.ensures in
    let ended = rw (c.deref-8.ensures.value) at c.needed_of.ensures.ended in
    let needed = rw (c.deref-8.ensures.value, c.deref-9.ensures.value) at c.in_ok-needed.ensures.needed in
    table_is (record { states = c.args.states.now; entry = c.args.entry; matchers = c.args.matchers.now; unicode = c.args.unicode })
    columns c.in_ok-alphabet.alphabet c.in_ok-alphabet.ensures c.in_ok-columns.ensures c.in_ok-cells.cells.items c.needed_of.new.cells c.classes_of-classes.result c.in_ok-made.made.cells.items
    c.in_ok-made.made.fresh.items c.in_ok-fresh.fresh c.in_ok-begins.begins c.in_ok-made.made.is_whole c.in_ok-needed.needed _
    (made homes) cells fresh ended needed begins c.classes_of-classes.ensures.ascii
