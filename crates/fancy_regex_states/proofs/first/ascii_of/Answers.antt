use Rattle.std.proofs.Common.{◌≡◌, ◌<◌, ◌≤◌, false, arith, ◌∙◌, ⊎_elim, length-set}
use Rattle.std.proofs.lemmas.List.{get_or-set_same, get_or-set_other}
use Rattle.std.proofs.lemmas.Bool.{cases_lt}
use Rattle.fancy_regex_states.proofs.first.ascii_of.Goals as goal

pub loop-code-preserved : goal.loop-code-preserved
loop-code-preserved c = record {
  long = length-set c.loop-code.ascii c.loop-code.code c.matches_one.result ∙ c.loop-code.invariant.long;
  answers = λ k low. ⊎_elim
      (λ (less : k < c.loop-code.code). get_or-set_other c.loop-code.ascii c.loop-code.code k c.matches_one.result false (λ e. omega arith)
      ∙ c.loop-code.invariant.answers k less)
      (λ (high : c.loop-code.code ≤ k). let same : k ≡ c.loop-code.code = omega arith in
      rw same (get_or-set_same c.loop-code.ascii c.loop-code.code c.matches_one.result false (omega arith) ∙ c.matches_one.ensures))
      (cases_lt k c.loop-code.code);
}
