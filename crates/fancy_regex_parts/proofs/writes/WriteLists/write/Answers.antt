use Rattle.std.proofs.Common.{◌∙◌, ℕ, List, sym, ap, arith}
use Rattle.std.proofs.lemmas.List.{set_past}
use Rattle.fancy_regex_parts.specs.Writes.{apply, list_of, pair_of}
use Rattle.fancy_regex_parts.proofs.ListLemmas.{apply_first, apply_none}
use Rattle.fancy_regex_parts.proofs.writes.WriteLists.write.Goals as goal

pub returns-in_default : goal.returns-in_default
returns-in_default c =
    sym (apply_none c.writes.slots) ∙ ap (λ (l : List (ℕ × ℕ)). apply l c.writes.slots) (sym c.in_default.ensures) ∙ c.writes.invariant

pub writes-preserved-then-write-slots : goal.writes-preserved-then-write-slots
writes-preserved-then-write-slots c =
    let rest : List (ℕ × ℕ) = list_of c.args.self.now.writes.items c.in-Some.write.rest in
    sym (apply_first (pair_of c.in-Some.write) rest c.writes.slots)
    ∙ ap (λ (l : List (ℕ × ℕ)). apply l c.writes.slots) (sym c.in-Some.ensures.1) ∙ c.writes.invariant

pub writes-preserved : goal.writes-preserved
writes-preserved c =
    let rest : List (ℕ × ℕ) = list_of c.args.self.now.writes.items c.in-Some.write.rest in
    ap (apply rest) (sym (set_past c.writes.slots c.in-Some.write.slot c.in-Some.write.at (omega arith)))
    ∙ sym (apply_first (pair_of c.in-Some.write) rest c.writes.slots)
    ∙ ap (λ (l : List (ℕ × ℕ)). apply l c.writes.slots) (sym c.in-Some.ensures.1) ∙ c.writes.invariant
