-- Where the first way of a delegated part ends.
use Rattle.std.proofs.Common.{◌≡◌, ℕ, ◌<◌, ◌≤◌, List, [], ◌∷◌, length, replicate, Option, Some, None, sym, ◌∙◌, subst, arith, ⊎_elim}
use Rattle.std.specs.Prelude.{option_map, slice_index_or}
use Rattle.std.specs.List.{filter}
use Rattle.std.specs.Str.{IsUtf8, IsCharBoundary}
use Rattle.std.proofs.lemmas.Bool.{cases_lt}
use Rattle.std.proofs.lemmas.List.{get_or-replicate, get_or_past, length-replicate}
use Rattle.std.proofs.lemmas.Option.{none-some, same_Some}
use Rattle.fancy_regex_tree.specs.Tree.{Tree}
use Rattle.fancy_regex_meaning.specs.Groups.{pattern_of}
use Rattle.fancy_regex_meaning.specs.Ways.{MatchState, Setting, ways}
use Rattle.fancy_regex_meaning.specs.WayLaws.{Each, HasStartBetween, IsForwardTo, HasCharBoundaries}
use Rattle.fancy_regex_meaning.specs.Searches.{first_item, start_way}
use Rattle.fancy_regex_meaning.proofs.EachLemmas.{Each-filter}
use Rattle.fancy_regex_meaning.proofs.ForwardProofs.{ways_cut_well}
use Rattle.fancy_regex_meaning.proofs.MatchStartProofs.{keeps_start}
use Rattle.fancy_regex_desugar.specs.Delegates.{first_end, ends_until, first_end_until}

-- what holds of each way holds of the first one
first_holds : (P : MatchState → Type 0) (ws : List MatchState) → Each P ws → (q : ℕ) → option_map (λ w. w.position) (first_item ws) ≡ Some q →
    (v : MatchState) × P v × (v.position ≡ q)
first_holds P [] h q e = absurd (none-some q e)
first_holds P (w ∷ ws) h q e = (w, h.0, same_Some w.position q e)

-- no group is set where a part begins
no_pairs : (n k : ℕ) → ◌≡◌ {A = Option (ℕ × ℕ)} (slice_index_or (replicate n None) k None) None
no_pairs n k =
    ⊎_elim (λ (lt : k < n). get_or-replicate n k None None lt)
    (λ (ge : n ≤ k). get_or_past (replicate n None) k None (omega (arith, ge, length-replicate n (no_pair))))
    (cases_lt k n)
  where
    no_pair : Option (ℕ × ℕ)
    no_pair = None

-- It ends no earlier than it begins.
pub ends_onward : (s : Setting) (t : Tree) (p q : ℕ) → first_end s t p ≡ Some q → p ≤ q
unfolding first_end
ends_onward s t p q e =
    let pattern = pattern_of t in
    let found = first_holds (HasStartBetween (start_way pattern p)) (ways s pattern.groups pattern.first_group t (start_way pattern p))
    (keeps_start s pattern.groups pattern.first_group t (start_way pattern p)) q e in
    let on : p ≤ found.0.position = found.1.0 in
    omega (arith, on, found.2)

-- It ends between characters.
pub ends_cut : (s : Setting) → IsUtf8 s.text → (t : Tree) (p q : ℕ) → IsCharBoundary s.text p → first_end s t p ≡ Some q → IsCharBoundary s.text q
unfolding first_end
ends_cut s utf8 t p q here e =
    let pattern = pattern_of t in
    let alone = start_way pattern p in
    let begins : HasCharBoundaries s.text alone = (here, λ k a b set. absurd (none-some _ (sym (no_pairs (length pattern.groups) k) ∙ set)), here) in
    let found = first_holds (IsForwardTo (HasCharBoundaries s.text) alone) (ways s pattern.groups pattern.first_group t alone)
    (ways_cut_well s pattern.groups utf8 pattern.first_group t alone begins) q e in
    subst (IsCharBoundary s.text) found.2 found.1.1.0

-- The same of the first way that ends in range.
pub ends_until_onward : (s : Setting) (t : Tree) (stop p q : ℕ) → first_end_until s t stop p ≡ Some q → p ≤ q
unfolding first_end_until
ends_until_onward s t stop p q e =
    let pattern = pattern_of t in
    let alone = start_way pattern p in
    let all = ways s pattern.groups pattern.first_group t alone in
    let found = first_holds (HasStartBetween alone) (filter (ends_until stop) all)
    (Each-filter (HasStartBetween alone) (ends_until stop) all (keeps_start s pattern.groups pattern.first_group t alone)) q e in
    let on : p ≤ found.0.position = found.1.0 in
    omega (arith, on, found.2)

pub ends_until_cut : (s : Setting) → IsUtf8 s.text → (t : Tree) (stop p q : ℕ) → IsCharBoundary s.text p → first_end_until s t stop p ≡ Some q →
    IsCharBoundary s.text q
unfolding first_end_until
ends_until_cut s utf8 t stop p q here e =
    let pattern = pattern_of t in
    let alone = start_way pattern p in
    let all = ways s pattern.groups pattern.first_group t alone in
    let begins : HasCharBoundaries s.text alone = (here, λ k a b set. absurd (none-some _ (sym (no_pairs (length pattern.groups) k) ∙ set)), here) in
    let found = first_holds (IsForwardTo (HasCharBoundaries s.text) alone) (filter (ends_until stop) all)
    (Each-filter (IsForwardTo (HasCharBoundaries s.text) alone) (ends_until stop) all
    (ways_cut_well s pattern.groups utf8 pattern.first_group t alone begins)) q e in
    subst (IsCharBoundary s.text) found.2 found.1.1.0
