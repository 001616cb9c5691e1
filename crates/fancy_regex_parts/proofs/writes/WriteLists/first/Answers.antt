use Rattle.std.proofs.Common.{◌≡◌, ◌∙◌, ◌∷◌, ◌-◌, ◌<◌, ◌≤◌, ℕ, List, sym, ap, subst, arith, get_or, length}
use Rattle.std.proofs.lemmas.List.{get_or_read}
use Rattle.fancy_regex_parts.specs.Writes.{list_of, pair_of}
use Rattle.fancy_regex_parts.specs.declared.writes.Write.{Write}
use Rattle.fancy_regex_parts.proofs.ListLemmas.{first_at, list_none, list_past}
use Rattle.fancy_regex_parts.proofs.writes.WriteLists.first.Goals as goal

pub returns-then-list-eq0 : goal.returns-then-list-eq0
returns-then-list-eq0 c = ap (list_of c.args.self.now.writes.items) c.if-list-eq0.true ∙ list_none c.args.self.now.writes.items

pub returns-then-list-len : goal.returns-then-list-len
returns-then-list-len c = list_past c.args.self.now.writes.items c.args.list (omega (arith, c.if-list-len.true, c.len.ensures))

pub returns : goal.returns
returns c =
    let writes : List Write = c.args.self.now.writes.items in
    let list : ℕ = c.args.list in
    let rest : ℕ = c.below.result in
    let none : Write = record { slot = 0; at = 0; rest = 0 } in
    let low : list - 1 < length writes = omega (arith, c.if-list-eq0.false, c.if-list-len.false, c.len.ensures) in
    let is : c.index-write.result.now ≡ get_or writes (list - 1) none = get_or_read writes (list - 1) _ low c.index-write.ensures none in
    subst (λ (w : Write). (rest < list) × (list_of writes list ≡ pair_of w ∷ list_of writes rest)) (sym is)
    (first_at writes list rest none (omega (arith, c.if-list-eq0.false)) (omega (arith, c.if-list-eq0.false, low))
    (subst (λ (w : Write). w.rest < list → rest ≡ w.rest) is c.below.ensures.low)
    (subst (λ (w : Write). list ≤ w.rest → rest ≡ 0) is c.below.ensures.high))
