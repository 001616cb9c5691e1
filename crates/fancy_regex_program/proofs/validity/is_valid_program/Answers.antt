use Rattle.std.proofs.Common.{◌-◌, ◌∙◌, ℕ, sym, ap}
use Rattle.std.specs.Prelude.{slice_get}
use Rattle.std.proofs.lemmas.List.{length-map}
use Rattle.fancy_regex_program.specs.Ops.{op_of, ops_of}
use Rattle.fancy_regex_program.specs.ValidPrograms.{is_finish}
use Rattle.fancy_regex_program.proofs.validity.is_valid_program.Goals as goal

pub returns-then-ends_with_end-clause-valid : goal.returns-then-ends_with_end-clause-valid
returns-then-ends_with_end-clause-valid c = λ valid.
    let body = c.args.body.now in
    record {
      last = ap (λ (n : ℕ). is_finish (slice_get (ops_of body) (n - 1))) (length-map body op_of) ∙ sym c.ends_with_end.ensures ∙ c.if-ends_with_end.true;
      ops = c.are_valid.ensures.valid valid;
    }
