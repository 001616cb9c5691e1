-- The haystack of a match has the required bytes.
use Rattle.std.proofs.Common.{◌≡◌, ⊎_elim, ℕ, zero, suc, ◌+◌, Bool, true, false, cond, ◌==◌, List, [], ◌∷◌, Option, Some, None, slice_get, slice_index, encode_utf8, sym, subst, arith, eqb-true, ne_eqb}
use Rattle.std.specs.List.{flat_map}
use Rattle.std.specs.Char.{len_utf8}
use Rattle.std.proofs.lemmas.Bool.{and_parts, or_cases, cond_both, cond-false, false≢true}
use Rattle.regex_hir.specs.Text.{char_at}
use Rattle.fancy_regex_tree.specs.Tree.{Tree, Trees, literal, concat, alt, group, repeat, atomic_group, no_trees, more_trees}
use Rattle.fancy_regex_meaning.specs.Groups.{Pattern, group_count}
use Rattle.fancy_regex_meaning.specs.Sizes.{bound_of}
use Rattle.fancy_regex_meaning.specs.Ways as meant
use Rattle.fancy_regex_meaning.specs.Ways.{MatchState, Moves, Meaning, Setting, meaning, meanings, call_ways, ways, max_open_calls, all_of, any_of, due, loop, up_to, first_only, is_literal, character, with_position}
use Rattle.fancy_regex_meaning.specs.WayLaws.{Each}
use Rattle.fancy_regex_meaning.specs.Searches.{Search, Match, starts as tried, first_match, match_at, match_of, is_admitted, start_way}
use Rattle.fancy_regex_meaning.proofs.EachLemmas.{Each-weaker, Each-append, Each-map, Each-flat_map, Each-filter, Each-for_some}
use Rattle.fancy_regex_meaning.proofs.MatchStartProofs.{chosen_holds, found_in_list, first_in_list}
use Rattle.fancy_regex_bytes.specs.ByteSets.{Bytes, no_bytes, either_bytes, both_bytes, bytes_in}
use Rattle.fancy_regex_bytes.specs.RequiredBytes.{required_bytes, required_in_row, required_in_branches, MatchesHold, RequiredBytesHold}
use Rattle.fancy_regex_bytes.proofs.CharacterLemmas.{read_bytes}

-- what holds without regard to the element
every : {A : Type 0} (H : Type 0) → H → (xs : List A) → Each (λ x. H) xs
every H h [] = tt
every H h (x ∷ xs) = (h, every H h xs)

every_first : (H : Type 0) (vs : List MatchState) → Each (λ v. H) vs → Each (λ v. H) (first_only vs)
every_first H [] h = tt
every_first H (v ∷ vs) h = (h.0, tt)

module _ (s : Setting) where
  -- the haystack has each byte of the set
  abbrev Holds : Bytes → Type 0
  Holds f = (b : ℕ) → f b ≡ true → (i : ℕ) × (slice_get s.text i ≡ Some b)

  none : Holds no_bytes
  none b e = absurd (false≢true e)

  join : (f g : Bytes) → Holds f → Holds g → Holds (either_bytes f g)
  join f g h k b e = ⊎_elim (h b) (k b) (or_cases (f b) (g b) e)

  of_first : (f g : Bytes) → Holds f → Holds (both_bytes f g)
  of_first f g h b e = h b (and_parts (f b) (g b) e).0

  of_second : (f g : Bytes) → Holds g → Holds (both_bytes f g)
  of_second f g h b e = h b (and_parts (f b) (g b) e).1

  read_literal : (d : ℕ) (w : MatchState) → Each (λ v. Holds (λ b. bytes_in (encode_utf8 d) b)) (character s (is_literal s d false) w)
  read_literal d w =
      Each-for_some _ _ (char_at s.text w.position) (λ c e.
      cond_both (c == d) (with_position w (w.position + len_utf8 c) ∷ []) [] (Each (λ v. Holds (λ b. bytes_in (encode_utf8 d) b)))
      (λ same. ((λ b h. read_bytes s.text w.position c b e (subst (λ x. bytes_in (encode_utf8 x) b ≡ true) (sym (eqb-true c d same)) h)), tt))
      (λ other. tt))

  -- an iteration that is due
  hold_due : (lo : ℕ) (H : Type 0) (body rest : Moves) → ((w : MatchState) → Each (λ v. H) (body w)) → (w : MatchState) → Each (λ v. H) (due (suc lo) body rest w)
  hold_due lo H body rest p w = Each-flat_map (λ v. H) (λ u. H) (due lo body rest) (λ v h. every H h (due lo body rest v)) (body w) (p w)

  hold_repeat : (lo : ℕ) (hi : Option ℕ) (greedy : Bool) (H : Type 0) (body : Moves) → ((w : MatchState) → Each (λ v. H) (body w)) →
      (w : MatchState) → Each (λ v. H) (meant.repeat s (suc lo) hi greedy body w)
  hold_repeat lo None greedy H body p w = hold_due lo H body _ p w
  hold_repeat lo (Some hi) greedy H body p w = hold_due lo H body _ p w

  hold_repeated : (f : Bytes) (lo : ℕ) (hi : Option ℕ) (greedy : Bool) (body : Moves) → ((w : MatchState) → Each (λ v. Holds f) (body w)) →
      (w : MatchState) → Each (λ v. Holds (cond (lo == 0) no_bytes f)) (meant.repeat s lo hi greedy body w)
  hold_repeated f zero hi greedy body p w = every (Holds no_bytes) none _
  hold_repeated f (suc lo) hi greedy body p w =
      subst (λ g. Each (λ v. Holds g) (meant.repeat s (suc lo) hi greedy body w)) (sym (cond-false (suc lo == 0) no_bytes f (ne_eqb (suc lo) 0 (omega arith))))
      (hold_repeat lo hi greedy (Holds f) body p w)

  module _ (groups : List Tree) (call : ℕ → Moves) where
    abbrev M : ℕ → Tree → Meaning
    M = meaning s groups call

    mutual
      unfolding meaning meanings required_bytes required_in_row required_in_branches

      hold : (n : ℕ) (t : Tree) (w : MatchState) → Each (λ v. Holds (required_bytes t)) ((M n t).from w)
      hold n (literal val false) w = read_literal (slice_index val 0) w
      hold n (concat ts) w = hold_row n ts w
      hold n (alt ts) w = hold_branches n ts w
      hold n (group t) w = Each-map _ _ _ (λ v h. h) ((M (n + 1) t).from w) (hold (n + 1) t w)
      hold n (atomic_group t) w = every_first _ _ (hold n t w)
      hold n (repeat t lo hi greedy) w = hold_repeated (required_bytes t) lo (bound_of hi) greedy (M n t).from (hold n t) w
      hold n t w = every (Holds no_bytes) none ((M n t).from w)

      hold_row : (n : ℕ) (ts : Trees) (w : MatchState) → Each (λ v. Holds (required_in_row ts)) (all_of (meanings s groups call n ts) w)
      hold_row n no_trees w = (none, tt)
      hold_row n (more_trees t ts) w =
          Each-flat_map (λ v. Holds (required_bytes t)) (λ u. Holds (either_bytes (required_bytes t) (required_in_row ts)))
          (all_of (meanings s groups call (n + group_count t) ts))
          (λ v h. Each-weaker _ _ (λ u k. join (required_bytes t) (required_in_row ts) h k) _ (hold_row (n + group_count t) ts v))
          ((M n t).from w) (hold n t w)

      hold_branches : (n : ℕ) (ts : Trees) (w : MatchState) → Each (λ v. Holds (required_in_branches ts)) (flat_map (λ m. m.from w) (meanings s groups call n ts))
      hold_branches n no_trees w = tt
      hold_branches n (more_trees t no_trees) w = Each-append _ ((M n t).from w) [] (hold n t w) tt
      hold_branches n (more_trees t (more_trees u ts)) w =
          Each-append _ ((M n t).from w) _
          (Each-weaker _ _ (λ v h. of_first (required_bytes t) (required_in_branches (more_trees u ts)) h) _ (hold n t w))
          (Each-weaker _ _ (λ v h. of_second (required_bytes t) (required_in_branches (more_trees u ts)) h) _ (hold_branches (n + group_count t) (more_trees u ts) w))

ways_hold : (s : Setting) (groups : List Tree) (n : ℕ) (t : Tree) (w : MatchState) → Each (λ v. Holds s (required_bytes t)) (ways s groups n t w)
unfolding ways
ways_hold s groups n t w = hold s groups (call_ways s groups (max_open_calls groups) []) n t w

match_holds : (s : Setting) (pattern : Pattern) (find : Search) (p : ℕ) (m : Match) → match_at s pattern find p ≡ Some m → Holds s (required_bytes pattern.tree)
unfolding match_at
match_holds s pattern find p m e =
    let found = found_in_list match_of _ m e in
    chosen_holds (λ v. Holds s (required_bytes pattern.tree)) find.options.longest _
    (Each-filter _ (is_admitted find) _ (ways_hold s pattern.groups pattern.first_group pattern.tree (start_way pattern p))) found.0 found.1

matches_hold : (t : Tree) → MatchesHold t (required_bytes t)
matches_hold t s pattern same find p m e = subst (λ u. Holds s (required_bytes u)) same (match_holds s pattern find p m e)

search_holds : (s : Setting) (pattern : Pattern) (find : Search) (m : Match) → first_match s pattern find ≡ Some m → Holds s (required_bytes pattern.tree)
unfolding first_match
search_holds s pattern find m e =
    let found = first_in_list (λ p. Unit {0}) (match_at s pattern find) (tried s pattern find) (every (Unit {0}) tt (tried s pattern find)) m e in
    match_holds s pattern find found.0 m found.2

pub required_bytes_hold : (t : Tree) → RequiredBytesHold t (required_bytes t)
required_bytes_hold t = (
  matches_hold t,
  λ s pattern same find m e. subst (λ u. Holds s (required_bytes u)) same (search_holds s pattern find m e),
)
