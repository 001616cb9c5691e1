use Rattle.std.proofs.Common.{ℕ, ◌+◌, ◌*◌, ◌/◌, ◌%◌, get_or, replicate, arith}
use Rattle.std.specs.Prelude.{nat_lt}
use Rattle.fancy_regex_table.specs.Questions.{number_of}
use Rattle.fancy_regex_table.proofs.BlockLemmas.{no_inside, no_class}
use Rattle.fancy_regex_table.proofs.wide.Wide.unknown.Goals as goal

pub invariant_of-result : goal.invariant_of-result
invariant_of-result c = record { inside = no_inside c.in_ok-vec.field-0.items (omega (arith, c.in_ok-vec.ensures.len)) }

pub returns : goal.returns
returns c unicode matchers d =
    no_class (nat_lt d 65536) c.in_ok-vec.field-0.items (get_or {A = ℕ} (replicate 1024 0) (d / 64) 0 * 64 + d % 64)
    (number_of unicode matchers c.new.result.items d) (c.in_ok-vec.ensures.items_if_clones_equal (λ y same. cc))
