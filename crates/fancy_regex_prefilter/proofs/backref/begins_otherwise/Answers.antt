use Rattle.std.proofs.Common.{ℕ, List, subst, arith}
use Rattle.std.specs.Prelude.{nat_le, length}
use Rattle.fancy_regex_prefilter.specs.Backrefs.{Differ}
use Rattle.fancy_regex_prefilter.proofs.BackrefLemmas.{begin_otherwise}
use Rattle.fancy_regex_prefilter.proofs.backref.begins_otherwise.Goals as goal

pub returns : goal.returns
returns c is =
    let text = c.args.run.now.text.now in
    begin_otherwise (nat_le c.args.next (length text)) text c.args.start c.args.end c.args.position c.args.next (omega arith) (omega (arith, c.requires))
    (subst (λ (l : List ℕ). Differ l c.args.start c.args.position) c.as_bytes.ensures.value (c.differ.ensures is))
