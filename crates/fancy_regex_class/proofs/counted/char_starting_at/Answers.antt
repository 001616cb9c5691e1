use Rattle.std.proofs.Common.{◌≡◌, ◌<◌, Some, length, sym, arith}
use Rattle.std.proofs.lemmas.Bool.Decides.{nat_tests}
use Rattle.regex_hir.specs.Text.{char_at}
use Rattle.regex_hir.proofs.TextLemmas.{char_at_past}
use Rattle.fancy_regex_class.proofs.AdjacentCharLemmas.{ascii_at, boundary_past}
use Rattle.fancy_regex_class.proofs.counted.char_starting_at.Goals as goal
use Rattle.fancy_regex_class.proofs.counted.char_starting_at.Goals.{In-Some}

ascii : (c : In-Some) → c.in-Some.byte.now < 128 → char_at c.args.text.now c.args.position ≡ Some c.in-Some.byte.now
ascii c small =
    let value = c.as_bytes.ensures.value in
    let look = rw value at c.in-Some.ensures.lookup in
    let inside : c.args.position < length c.args.text.now = grind (arith, nat_tests, look.0) in
    ascii_at c.args.text.now c.args.position c.in-Some.byte.now _ inside look.1 small

pub returns-in-Some-clause-after : goal.returns-in-Some-clause-after
returns-in-Some-clause-after c = sym (ascii (goal.at.returns-in-Some-clause-after c).In-Some c.if-byte-lt128.true)

pub returns-in-Some-clause-next : goal.returns-in-Some-clause-next
returns-in-Some-clause-next c =
    boundary_past c.args.text.now c.args.position c.utf8.text c.requires (Some c.in-Some.byte.now) (ascii (goal.at.returns-in-Some-clause-next c).In-Some c.if-byte-lt128.true)

pub returns-in-None-clause-after : goal.returns-in-None-clause-after
returns-in-None-clause-after c =
    let look = rw c.as_bytes.ensures.value at c.in-None.ensures.lookup in
    sym (char_at_past c.args.text.now c.args.position (grind (arith, nat_tests, look.0)))
