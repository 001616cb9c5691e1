use Rattle.std.proofs.Common.{◌≡◌, ◌<◌, ◌≤◌, false, arith, sym, ◌∙◌, ⊎_elim, length-set}
use Rattle.std.proofs.lemmas.List.{get_or-set_same, get_or-set_other}
use Rattle.std.proofs.lemmas.Bool.{cases_lt}
use Rattle.fancy_regex_linear.proofs.starts.refused_ascii.Goals as goal

pub loop-code-preserved : goal.loop-code-preserved
loop-code-preserved c = record {
  long = length-set c.loop-code.refused c.loop-code.code c.refuses.result ∙ c.loop-code.invariant.long;
  marks = λ states entry is k low marked. ⊎_elim
      (λ (less : k < c.loop-code.code). c.loop-code.invariant.marks states entry is k less
      (sym (get_or-set_other c.loop-code.refused c.loop-code.code k c.refuses.result false (λ e. omega arith)) ∙ marked))
      (λ (high : c.loop-code.code ≤ k). let same : k ≡ c.loop-code.code = omega arith in
      rw same (c.refuses.ensures (sym (get_or-set_same c.loop-code.refused c.loop-code.code c.refuses.result false (omega arith)) ∙ rw same at marked) states entry is))
      (cases_lt k c.loop-code.code);
}
