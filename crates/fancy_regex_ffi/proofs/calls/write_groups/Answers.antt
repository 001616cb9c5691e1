use Rattle.std.proofs.Common.{◌≡◌, ◌<◌, ◌≤◌, arith, ◌∙◌, ⊎_elim}
use Rattle.std.proofs.lemmas.List.{get_or-set_same, get_or-set_other}
use Rattle.std.proofs.lemmas.Bool.{cases_lt}
use Rattle.fancy_regex_ffi.proofs.calls.write_groups.Goals as goal

pub loop-group-preserved : goal.loop-group-preserved
loop-group-preserved c = λ k below d. ⊎_elim
    (λ (less : k < c.loop-group.group). let old = c.loop-group.invariant k less d in
    (old.0, old.1, get_or-set_other c.loop-group.spans c.loop-group.group k c.group_span.result d (λ e. omega arith) ∙ old.2))
    (λ (high : c.loop-group.group ≤ k). let same : k ≡ c.loop-group.group = omega arith in let new = c.group_span.ensures in
    rw same (new.0, new.1, get_or-set_same c.loop-group.spans c.loop-group.group c.group_span.result d (omega arith) ∙ new.2))
    (cases_lt k c.loop-group.group)
