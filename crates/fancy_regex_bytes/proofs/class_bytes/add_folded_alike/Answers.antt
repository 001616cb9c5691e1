use Rattle.std.proofs.Common.{ap, ◌∙◌, get_or}
use Rattle.fancy_regex_bytes.specs.ByteSets.{has}
use Rattle.fancy_regex_bytes.proofs.ByteSetLemmas.{any_more, is_start_of_pair, pair_begins, pair_is_other, other_first, no_scalar}
use Rattle.fancy_regex_bytes.proofs.class_bytes.add_folded_alike.Goals.{then-pair-c+in-Some, then-pair-c+in_default, else-pair-c}
use Rattle.fancy_regex_bytes.proofs.class_bytes.add_folded_alike.Goals as goal

pub loop-pair-preserved : goal.loop-pair-preserved
loop-pair-preserved c =
    let pairs = c.fold_pairs-pair-items.result.now in
    let i = c.loop-pair.pair-index in
    let pair = get_or pairs i (0, 0) in
    let char = c.args.c in
    let more = any_more (is_start_of_pair char) (has c.args.set.now) (has c.loop-pair.set) (has c.if-pair-c.set) pairs i (0, 0) c.loop-pair.invariant in
    elim c.if-pair-c.branch [
      | then-pair-c+in-Some w ↦
          more (ap has w.set-is ∙ pair_begins pair char w.in-Some.other w.first_byte.result (has c.loop-pair.set) (has w.insert.new.self) w.if-pair-c.true
          w.in-Some.ensures.value.0 w.in-Some.ensures.value.1 w.first_byte.ensures w.insert.ensures) c.loop-pair-test.true
      | then-pair-c+in_default w ↦
          more (pair_is_other pair char (has c.loop-pair.set) (has c.if-pair-c.set) (no_scalar pair char w.in_default.ensures.value) (ap has w.set-is)) c.loop-pair-test.true
      | else-pair-c w ↦
          more (pair_is_other pair char (has c.loop-pair.set) (has c.if-pair-c.set) (other_first pair char w.if-pair-c.false) (ap has w.set-is)) c.loop-pair-test.true
    ]
