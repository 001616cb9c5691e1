use Rattle.std.proofs.Common.{arith, ◌∙◌, ap, sym, length}
use Rattle.fancy_regex_ffi_lists.proofs.FrontLemmas.{written_after}
use Rattle.fancy_regex_ffi_lists.proofs.front.FrontWrite.write_str.Goals as goal

pub returns : goal.returns
returns c =
    let inv = c.loop-i.invariant in
    let value = c.as_bytes-bytes.ensures.value in
    record {
      ok = λ _. (
        written_after c.args.self.now.room.now c.loop-i.self.room.now c.args.s.now c.args.self.now.length c.in-Some.end c.loop-i.i inv.same_room
            (omega (arith, c.in-Some.ensures, ap length value)) inv.low inv.high (λ k inside below. omega (arith, inside, below, c.loop-i-test.false, c.min-i-end.ensures, inv.same_room))
            inv.before (rw value at inv.between) inv.after,
        inv.same_name,
      );
    }
