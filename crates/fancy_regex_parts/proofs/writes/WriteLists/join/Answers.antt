use Rattle.std.proofs.Common.{◌≡◌, ◌∙◌, ◌++◌, ℕ, List, [], ◌∷◌, sym, ap, ap₂, subst, arith, append_assoc}
use Rattle.std.proofs.lemmas.List.{nil_from_length}
use Rattle.fancy_regex_parts.specs.Writes.{list_of, pair_of, pairs_of, IsExtended, SameWrites}
use Rattle.fancy_regex_parts.specs.declared.writes.Write.{Write}
use Rattle.fancy_regex_parts.proofs.ListLemmas.{extended_none, extended_on, known_list, pairs_none, pairs_pushed, same_after, same_by, same_on}
use Rattle.fancy_regex_parts.proofs.writes.WriteLists.join.Goals as goal

pub writes-init : goal.writes-init
writes-init c =
    let writes : List Write = c.args.self.now.writes.items in
    let same : c.take_out.new.self.writes.items ≡ writes = c.in_ok-take_out.ensures.writes in
    let known = known_list writes c.args.rest c.known-all.result (rw same at c.known-all.ensures.low) (rw same at c.known-all.ensures.high) in
    record {
      moved = same_by _ _
          (ap₂ (λ (xs ys : List (ℕ × ℕ)). xs ++ ys) c.in_ok-take_out.ensures.moved
          (ap (λ (l : List Write). list_of l c.known-all.result) same ∙ known.1));
      extended = subst (IsExtended writes) (sym same) (extended_none writes);
      low = rw same known.0;
      held = c.in_ok-take_out.ensures.held;
    }

pub returns-in_default-clause-list : goal.returns-in_default-clause-list
returns-in_default-clause-list c =
    let none : c.writes.self.moved.items ≡ [] = nil_from_length _ (omega (arith, c.in_default.ensures.cases.0, c.writes.self.moved.ok.0)) in
    let left : pairs_of c.writes.self.moved.items ≡ [] = ap pairs_of none ∙ pairs_none in (
      c.writes.invariant.low,
      subst
          (λ (l : List (ℕ × ℕ)). SameWrites (l ++ list_of c.writes.self.writes.items c.writes.all)
          (list_of c.args.self.now.writes.items c.args.list ++ list_of c.args.self.now.writes.items c.args.rest)) left c.writes.invariant.moved,
    )

pub writes-preserved : goal.writes-preserved
writes-preserved c =
    let first : List Write = c.pop.new.self.items in
    let w : Write = c.in-Some.write in
    let before : List (ℕ × ℕ) = list_of c.writes.self.writes.items c.writes.all in
    let after : List (ℕ × ℕ) = list_of c.add.new.self.writes.items c.in_ok-all.all in
    let goes : List (ℕ × ℕ) = list_of c.args.self.now.writes.items c.args.list ++ list_of c.args.self.now.writes.items c.args.rest in
    let popped : pairs_of first ++ (pair_of w ∷ before) ≡ pairs_of c.writes.self.moved.items ++ before =
    sym (append_assoc (pairs_of first) (pair_of w ∷ []) before)
    ∙ ap (λ (l : List (ℕ × ℕ)). l ++ before) (sym (pairs_pushed first w) ∙ ap pairs_of (sym c.in-Some.ensures.items)) in
    let moved : SameWrites (pairs_of first ++ after) goes =
    same_on (pairs_of first ++ after) (pairs_of first ++ (pair_of w ∷ before)) goes
    (same_after (pairs_of first) after (pair_of w ∷ before) c.in_ok-all.ensures.list.1)
    (subst (λ (l : List (ℕ × ℕ)). SameWrites l goes) (sym popped) c.writes.invariant.moved) in
    record {
      moved = rw c.in_ok-all.ensures.moved moved;
      extended = extended_on c.writes.invariant.extended c.in_ok-all.ensures.extended;
      low = c.in_ok-all.ensures.list.0;
      held = c.in_ok-all.ensures.held ∙ c.writes.invariant.held;
    }
