use Rattle.std.proofs.Common.{arith}
use Rattle.fancy_regex_table.proofs.DecodeLemmas.{char_to, scalar_here}
use Rattle.fancy_regex_table.proofs.table.Table.wide_char.Goals as goal

pub returns-then-c-stop : goal.returns-then-c-stop
returns-then-c-stop c =
    let it = c.decode-c.ensures in
    record {
      c = it.c;
      is_scalar = scalar_here c.args.self.now.unicode c.args.matchers.now c.args.self.now.wide c.args.text.now c.args.at it.c it.low it.here;
      low = it.low;
      char = char_to c.args.text.now c.args.at it.c c.decode-c.result.next c.utf8.text c.requires.boundary it.here it.next;
      class = λ pos. absurd (omega (arith, pos));
      inside = λ pos. absurd (omega (arith, pos));
    }

pub returns : goal.returns
returns c =
    let it = c.decode-c.ensures in
    record {
      c = it.c;
      is_scalar = scalar_here c.args.self.now.unicode c.args.matchers.now c.args.self.now.wide c.args.text.now c.args.at it.c it.low it.here;
      low = it.low;
      char = char_to c.args.text.now c.args.at it.c c.decode-c.result.next c.utf8.text c.requires.boundary it.here it.next;
      class = λ pos. it.class;
      inside = λ pos. omega (arith, c.if-c-stop.false);
    }
