use Rattle.std.proofs.Common.{arith}
use Rattle.fancy_regex_table.proofs.needed.Needed.onset.Goals as goal

pub returns-clause-passed : goal.returns-clause-passed
returns-clause-passed c marks =
    let stop = c.stop_from-stop.ensures in
    let place = c.reset_before-place.ensures in
    record {
      range = (place.range.0, omega (arith, place.range.1, stop.range.1));
      passed = λ i low less. stop.passed marks i low (omega (arith, less, place.range.1));
      reset = place.reset;
    }
