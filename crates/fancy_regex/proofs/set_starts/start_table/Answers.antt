use Rattle.std.proofs.Common.{ℕ, List, Bor, map}
use Rattle.fancy_regex.proofs.SetStartLemmas.{passes_over}
use Rattle.fancy_regex.proofs.set_starts.start_table.Goals as goal

pub returns-clause-passes : goal.returns-clause-passes
returns-clause-passes c regexes built =
    passes_over c.args.options.now.options (map (λ (p : Bor (List ℕ)). p.now) c.args.patterns.now) regexes c.in_ok-members.members.items c.in_ok-new.field-0 built
    c.in_ok-members.ensures.starts (rw c.deref.ensures.value at c.in_ok-new.ensures)
