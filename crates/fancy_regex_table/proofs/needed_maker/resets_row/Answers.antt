use Rattle.std.proofs.Common.{inl, inr}
use Rattle.fancy_regex_table.proofs.needed_maker.resets_row.Goals as goal

pub returns-then-matched-string : goal.returns-then-matched-string
returns-then-matched-string c e =
    record { after = c.matched_after-matched.result; is_after = c.matched_after-matched.ensures; done = inl c.if-matched-string.true }

pub returns : goal.returns
returns c e =
    let has = c.resets_at.ensures e in
    record {
      after = c.matched_after-matched.result;
      is_after = c.matched_after-matched.ensures;
      done = inr (record { cell = has.cell; is_there = has.is_there; is_so = has.is_so });
    }
