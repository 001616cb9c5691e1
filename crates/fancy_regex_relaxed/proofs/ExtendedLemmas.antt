-- Where the extended tree has no match, the tree has none.
use Rattle.std.proofs.Common.{◌≡◌, ℕ, ◌+◌, ◌≤◌, Bool, true, false, cond, ◌&&◌, List, [], ◌∷◌, ◌++◌, length, None, nat_le, map, refl, sym, ap, subst, ◌∙◌, inl, inr, le-leb}
use Rattle.std.proofs.lemmas.Option.{none-some}
use Rattle.std.proofs.lemmas.Bool.{false≢true}
use Rattle.std.specs.Prelude.{option_map}
use Rattle.std.specs.List.{flat_map, filter}
use Rattle.fancy_regex_tree.specs.Tree.{Tree, Trees, concat, alt, group, look_around, atomic_group, no_trees, more_trees}
use Rattle.fancy_regex_tree.specs.declared.expr.LookAround.{LookAround}
use Rattle.fancy_regex_tree.specs.declared.expr.LookAround.TheVariants.{LookAhead, LookAheadNeg, LookBehind, LookBehindNeg}
use Rattle.fancy_regex_meaning.specs.Groups.{Pattern, group_count, pattern_of}
use Rattle.fancy_regex_meaning.specs.Searches.{Search, chosen, first_item, is_admitted, match_of, start_way, ways_at, match_at}
use Rattle.fancy_regex_meaning.specs.Ways.{MatchState, Moves, Setting, meaning, meanings, all_of, any_of, call_ways, max_open_calls, ways, keep_only_pairs, first_only, set_pair}
use Rattle.fancy_regex_meaning.specs.WayLaws.{Each, IsForward}
use Rattle.fancy_regex_meaning.proofs.ForwardProofs.{ways_go_onward}
use Rattle.fancy_regex_relaxed.specs.Relaxed.{IsRelaxable, AreRelaxable, relaxed, extended, extended_row, extended_branches}
use Rattle.fancy_regex_relaxed.proofs.RelaxedLemmas.{Reaches, AreReached, Covers, relaxed_covers}

-- Where the second list has no way, the first has none.
abbrev pub IsFound : List MatchState → List MatchState → Type 0
IsFound us vs = vs ≡ [] → us ≡ []

-- so it is with the ways from any two states at the same place
abbrev pub Finds : Moves → Moves → Type 0
Finds f g = (w v : MatchState) → w.position ≡ v.position → IsFound (f w) (g v)

cons-nil : (w : MatchState) (ws : List MatchState) → w ∷ ws ≡ [] → ⊥
cons-nil w ws e = cc

-- an empty list has two empty parts
parts_empty : (us vs : List MatchState) → us ++ vs ≡ [] → (us ≡ []) × (vs ≡ [])
parts_empty [] vs e = (refl, e)
parts_empty (u ∷ us) vs e = absurd (cons-nil u (us ++ vs) e)

both_found : (ws xs us vs : List MatchState) → IsFound ws us → IsFound xs vs → IsFound (ws ++ xs) (us ++ vs)
both_found ws xs us vs h k e =
    let parts = parts_empty us vs e in
    ap (λ l. l ++ xs) (h parts.0) ∙ k parts.1

found_reached : (ws vs : List MatchState) → AreReached ws vs → IsFound ws vs
found_reached [] vs h e = refl
found_reached (w ∷ ws) [] h e = absurd h.0
found_reached (w ∷ ws) (v ∷ vs) h e = absurd (cons-nil v vs e)

covers_finds : (f g : Moves) → Covers f g → Finds f g
covers_finds f g h w v e = found_reached (f w) (g v) (h w v e)

-- what follows a way, against what follows the other way at its place
onward_found : (f g : Moves) → Finds f g → (w : MatchState) (vs : List MatchState) → Reaches w.position vs → IsFound (f w) (flat_map g vs)
onward_found f g h w [] r e = absurd r
onward_found f g h w (v ∷ vs) (inl same) e = h w v same (parts_empty (g v) (flat_map g vs) e).0
onward_found f g h w (v ∷ vs) (inr r) e = onward_found f g h w vs r (parts_empty (g v) (flat_map g vs) e).1

follow_found : (f g : Moves) → Finds f g → (ws vs : List MatchState) → AreReached ws vs → IsFound (flat_map f ws) (flat_map g vs)
follow_found f g h [] vs r e = refl
follow_found f g h (w ∷ ws) vs r e = ap (λ l. l ++ flat_map f ws) (onward_found f g h w vs r.0 e) ∙ follow_found f g h ws vs r.1 e

-- a row of one part has the ways of that part
one_found : (ws vs : List MatchState) → IsFound ws vs → IsFound (flat_map (λ w. w ∷ []) ws) (flat_map (λ v. v ∷ []) vs)
one_found [] vs h e = refl
one_found (w ∷ ws) [] h e = absurd (cons-nil w ws (h refl))
one_found (w ∷ ws) (v ∷ vs) h e = absurd (cons-nil v _ e)

module _ (s : Setting) (groups others : List Tree) (call other : ℕ → Moves) where
  -- another look-around than a positive look-ahead
  look_leads : (n m : ℕ) (t : Tree) (how : LookAround) → IsRelaxable t
      → Finds (meaning s groups call n (look_around t how)).from (meaning s others other m (relaxed (look_around t how))).from
  look_leads n m t how p w v same e =
      covers_finds (meaning s groups call n (look_around t how)).from (meaning s others other m (relaxed (look_around t how))).from
      (relaxed_covers s groups others call other n m (look_around t how) p) w v same e

  mutual
    unfolding meaning extended

    extended_leads : (n m : ℕ) (t : Tree) → IsRelaxable t → Finds (meaning s groups call n t).from (meaning s others other m (extended t)).from
    extended_leads n m (concat ts) p w v same e = row_leads n m ts p w v same e
    extended_leads n m (alt ts) p w v same e = branches_lead n m ts p w v same e
    extended_leads n m (group t) p w v same e =
        ap (map (λ u. set_pair n (w.position, u.position) u)) (extended_leads (n + 1) m t p w v same e)
    extended_leads n m (atomic_group t) p w v same e = ap first_only (extended_leads n m t p w v same e)
    extended_leads n m (look_around t LookAhead) p w v same e = ap (keep_only_pairs w) (extended_leads n m t p w v same e)
    extended_leads n m (look_around t LookAheadNeg) p w v same e = look_leads n m t LookAheadNeg p w v same e
    extended_leads n m (look_around t LookBehind) p w v same e = look_leads n m t LookBehind p w v same e
    extended_leads n m (look_around t LookBehindNeg) p w v same e = look_leads n m t LookBehindNeg p w v same e
    extended_leads n m t p w v same e =
        covers_finds (meaning s groups call n t).from (meaning s others other m (relaxed t)).from (relaxed_covers s groups others call other n m t p) w v same e

    row_leads : (n m : ℕ) (ts : Trees) → AreRelaxable ts → Finds (all_of (meanings s groups call n ts)) (all_of (meanings s others other m (extended_row ts)))
    row_leads n m no_trees p w v same e = absurd (cons-nil v [] e)
    row_leads n m (more_trees t no_trees) p w v same e =
        one_found ((meaning s groups call n t).from w) ((meaning s others other m (extended t)).from v) (extended_leads n m t p.0 w v same) e
    row_leads n m (more_trees t (more_trees u us)) p w v same e =
        follow_found (all_of (meanings s groups call (n + group_count t) (more_trees u us)))
        (all_of (meanings s others other (m + group_count (relaxed t)) (extended_row (more_trees u us))))
        (row_leads (n + group_count t) (m + group_count (relaxed t)) (more_trees u us) p.1)
        ((meaning s groups call n t).from w) ((meaning s others other m (relaxed t)).from v)
        (relaxed_covers s groups others call other n m t p.0 w v same) e

    branches_lead : (n m : ℕ) (ts : Trees) → AreRelaxable ts → Finds (any_of (meanings s groups call n ts)).from (any_of (meanings s others other m (extended_branches ts))).from
    branches_lead n m no_trees p w v same e = refl
    branches_lead n m (more_trees t ts) p w v same e =
        both_found ((meaning s groups call n t).from w) ((any_of (meanings s groups call (n + group_count t) ts)).from w)
        ((meaning s others other m (extended t)).from v) ((any_of (meanings s others other (m + group_count (extended t)) (extended_branches ts))).from v)
        (extended_leads n m t p.0 w v same) (branches_lead (n + group_count t) (m + group_count (extended t)) ts p.1 w v same) e

-- the same search for the first way, which may be empty
abbrev pub first_of : Search → Search
first_of find = record find { options = record { find_not_empty = false; longest = false } }

-- A search to the end of the text, in which a match may be empty, admits each way that ends in the text.
admitted_here : (b : Bool) (w : MatchState) (ws : List MatchState) → b ≡ true → option_map match_of (first_item (cond (b && true) (w ∷ ws) ws)) ≡ None → ⊥
admitted_here true w ws is e = none-some (match_of w) (sym e)
admitted_here false w ws is e = absurd (false≢true is)

none_admitted : (s : Setting) (find : Search) → find.stop ≡ length s.text → (w : MatchState) (vs : List MatchState) → Each (IsForward s.text w) vs
    → option_map match_of (first_item (filter (is_admitted (first_of find)) vs)) ≡ None → vs ≡ []
none_admitted s find end w [] h e = refl
none_admitted s find end w (v ∷ vs) h e =
    absurd (admitted_here (nat_le v.position find.stop) v (filter (is_admitted (first_of find)) vs)
    (le-leb v.position find.stop (subst (λ n. v.position ≤ n) (sym end) h.0.1)) e)

-- no way, and so no match
none_chosen : (longest : Bool) → option_map match_of (chosen longest []) ≡ None
none_chosen true = refl
none_chosen false = refl

pub extended_finds : (s : Setting) (find : Search) (t : Tree) → IsRelaxable t → find.stop ≡ length s.text → find.options.find_not_empty ≡ false
    → (p : ℕ) → p ≤ length s.text → match_at s (pattern_of (extended t)) (first_of find) p ≡ None → match_at s (pattern_of t) find p ≡ None
unfolding match_at ways
extended_finds s find t relaxable end any_length p inside e =
    let plain : Pattern = pattern_of (extended t) in
    let pattern : Pattern = pattern_of t in
    let none : ways_at s plain (first_of find) p ≡ [] =
    none_admitted s find end (start_way plain p) (ways_at s plain (first_of find) p) (ways_go_onward s plain.groups plain.first_group plain.tree (start_way plain p) inside) e in
    let no_way : ways_at s pattern find p ≡ [] =
    extended_leads s pattern.groups plain.groups (call_ways s pattern.groups (max_open_calls pattern.groups) []) (call_ways s plain.groups (max_open_calls plain.groups) [])
    pattern.first_group plain.first_group t relaxable (start_way pattern p) (start_way plain p) refl none in
    ap (λ ws. option_map match_of (chosen find.options.longest (filter (is_admitted find) ws))) no_way ∙ none_chosen find.options.longest
