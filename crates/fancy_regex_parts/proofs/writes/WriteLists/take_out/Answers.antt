use Rattle.std.proofs.Common.{◌∙◌, ◌++◌, ℕ, List, [], ◌∷◌, refl, sym, ap, append_assoc}
use Rattle.fancy_regex_parts.specs.Writes.{list_of, pair_of, pairs_of}
use Rattle.fancy_regex_parts.specs.declared.writes.Write.{Write}
use Rattle.fancy_regex_parts.proofs.ListLemmas.{pairs_none, pairs_pushed}
use Rattle.fancy_regex_parts.proofs.writes.WriteLists.take_out.Goals as goal

pub writes-init : goal.writes-init
writes-init c =
    let all : List (ℕ × ℕ) = list_of c.args.self.now.writes.items c.args.list in
    record {
      moved = ap (λ (l : List Write). pairs_of l ++ all) c.clear.ensures.items ∙ ap (λ (l : List (ℕ × ℕ)). l ++ all) pairs_none;
      writes = refl;
      held = refl;
    }

pub writes-preserved : goal.writes-preserved
writes-preserved c =
    let old : List Write = c.writes.self.moved.items in
    let rest : List (ℕ × ℕ) = list_of c.writes.self.writes.items c.in-Some.write.rest in
    record {
      moved = ap (λ (l : List Write). pairs_of l ++ rest) c.in_ok-push.ensures.items
          ∙ ap (λ (l : List (ℕ × ℕ)). l ++ rest) (pairs_pushed old c.in-Some.write)
          ∙ append_assoc (pairs_of old) (pair_of c.in-Some.write ∷ []) rest
          ∙ ap (λ (l : List (ℕ × ℕ)). pairs_of old ++ l) (sym c.in-Some.ensures.1)
          ∙ c.writes.invariant.moved;
      writes = c.writes.invariant.writes;
      held = c.writes.invariant.held;
    }
