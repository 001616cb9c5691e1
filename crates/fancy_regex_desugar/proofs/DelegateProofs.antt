-- The ways of an easy part without a capture group differ only in where they end, and these ends depend on nothing but the text and the
-- position.
use Rattle.std.proofs.Common.{◌≡◌, ℕ, zero, suc, ◌+◌, ◌-◌, Bool, true, false, cond, true≢false, List, [], ◌∷◌, ◌++◌, length, map, Option, Some, None, refl, sym, ap, ap₂, ◌∙◌, slice_index, arith}
use Rattle.std.specs.Prelude.{◌==◌, ◌&&◌, not, nat_le, option_map}
use Rattle.std.specs.List.{flat_map}
use Rattle.std.specs.Char.{len_utf8}
use Rattle.std.proofs.lemmas.Bool.Decides.{nat_tests}
use Rattle.std.proofs.lemmas.List.{map-append}
use Rattle.regex_hir.specs.Text.{char_at}
use Rattle.fancy_regex_tree.specs.Tree as tree
use Rattle.fancy_regex_tree.specs.Tree.{Tree, Trees, no_trees, more_trees}
use Rattle.fancy_regex_tree.specs.Printable.{is_printable}
use Rattle.fancy_regex_meaning.specs.Groups.{pattern_of, group_count, row_group_count}
use Rattle.fancy_regex_meaning.specs.Sizes.{bound_of}
use Rattle.fancy_regex_meaning.specs.Ways as row
use Rattle.fancy_regex_meaning.specs.Ways.{MatchState, Moves, Meaning, Setting, with_position, for_some, first_only, match_empty_if, character, prefer, due, up_to, loop, all_of, is_any, is_literal, holds, call_ways, max_open_calls, meaning, meanings, ways}
use Rattle.fancy_regex_meaning.specs.Searches.{first_item, start_way}
use Rattle.fancy_regex_info.specs.Easy.{is_easy, all_easy}
use Rattle.fancy_regex_info.specs.References.{is_read}
use Rattle.fancy_regex_desugar.specs.Delegates.{own_properties, is_light_part, is_searchable, searched, offers_choices, is_delegated, first_end}
use Rattle.fancy_regex_desugar.specs.CoreWays.{end_ways}

-- where ways end, by where they begin
abbrev pub Ends : Type 0
Ends = ℕ → List ℕ

-- each way ends at one of these positions, in this order, and is the same state otherwise
abbrev pub EndsAt : Moves → Ends → Type 0
EndsAt f ends = (w : MatchState) → f w ≡ map (with_position w) (ends w.position)

both_true : (a b : Bool) → (a && b) ≡ true → (a ≡ true) × (b ≡ true)
both_true true b h = (refl, h)
both_true false b h = absurd (true≢false (sym h))

over : (w : MatchState) (g : Moves) (to : Ends) → ((p : ℕ) → g (with_position w p) ≡ map (with_position w) (to p)) → (ps : List ℕ) →
    flat_map g (map (with_position w) ps) ≡ map (with_position w) (flat_map to ps)
over w g to h [] = refl
over w g to h (p ∷ ps) = ap₂ (λ xs ys. xs ++ ys) (h p) (over w g to h ps) ∙ sym (map-append (with_position w) (to p) (flat_map to ps))

ends_over : (f g : Moves) (ends to : Ends) → EndsAt f ends → EndsAt g to → EndsAt (λ w. flat_map g (f w)) (λ p. flat_map to (ends p))
ends_over f g ends to h k w = ap (flat_map g) (h w) ∙ over w g to (λ p. k (with_position w p)) (ends w.position)

ends_if : (b : Bool) (w : MatchState) → match_empty_if b w ≡ map (with_position w) (cond b (w.position ∷ []) [])
ends_if true w = refl
ends_if false w = refl

abbrev pub picked : Bool → List ℕ → List ℕ → List ℕ
picked true on stop = on ++ stop
picked false on stop = stop ++ on

ends_pick : (greedy : Bool) (w : MatchState) (on stop : List ℕ) →
    prefer greedy (map (with_position w) on) (map (with_position w) stop) ≡ map (with_position w) (picked greedy on stop)
ends_pick true w on stop = sym (map-append (with_position w) on stop)
ends_pick false w on stop = sym (map-append (with_position w) stop on)

ends_either : (b : Bool) (w : MatchState) (xs ys : List ℕ) →
    cond b (map (with_position w) xs) (map (with_position w) ys) ≡ map (with_position w) (cond b xs ys)
ends_either true w xs ys = refl
ends_either false w xs ys = refl

abbrev pub due_ends : ℕ → Ends → Ends → Ends
due_ends zero ends rest p = rest p
due_ends (suc n) ends rest p = flat_map (due_ends n ends rest) (ends p)

ends_due : (n : ℕ) (f g : Moves) (ends rest : Ends) → EndsAt f ends → EndsAt g rest → EndsAt (due n f g) (due_ends n ends rest)
ends_due zero f g ends rest h k w = k w
ends_due (suc n) f g ends rest h k w = ends_over f (due n f g) ends (due_ends n ends rest) h (ends_due n f g ends rest h k) w

abbrev pub up_to_ends : ℕ → Bool → Ends → Ends
up_to_ends zero greedy ends p = p ∷ []
up_to_ends (suc n) greedy ends p = picked greedy (flat_map (up_to_ends n greedy ends) (ends p)) (p ∷ [])

ends_up_to : (n : ℕ) (greedy : Bool) (f : Moves) (ends : Ends) → EndsAt f ends → EndsAt (up_to n greedy f) (up_to_ends n greedy ends)
ends_up_to zero greedy f ends h w = refl
ends_up_to (suc n) greedy f ends h w =
    ap (λ l. prefer greedy l (w ∷ [])) (ends_over f (up_to n greedy f) ends (up_to_ends n greedy ends) h (ends_up_to n greedy f ends h) w)
    ∙ ends_pick greedy w (flat_map (up_to_ends n greedy ends) (ends w.position)) (w.position ∷ [])

abbrev pub loop_ends : ℕ → Bool → Ends → Ends
loop_ends zero greedy ends p = []
loop_ends (suc n) greedy ends p = picked greedy (flat_map (λ q. cond (q == p) (q ∷ []) (loop_ends n greedy ends q)) (ends p)) (p ∷ [])

ends_loop : (n : ℕ) (greedy : Bool) (f : Moves) (ends : Ends) → EndsAt f ends → EndsAt (loop n greedy f) (loop_ends n greedy ends)
ends_loop zero greedy f ends h w = refl
ends_loop (suc n) greedy f ends h w =
    let again : Moves = λ v. cond (v.position == w.position) (v ∷ []) (loop n greedy f v) in
    let to : Ends = λ q. cond (q == w.position) (q ∷ []) (loop_ends n greedy ends q) in
    let each : (q : ℕ) → again (with_position w q) ≡ map (with_position w) (to q) = λ q.
    ap (λ l. cond (q == w.position) (with_position w q ∷ []) l) (ends_loop n greedy f ends h (with_position w q))
    ∙ ends_either (q == w.position) w (q ∷ []) (loop_ends n greedy ends q) in
    ap (λ l. prefer greedy (flat_map again l) (w ∷ [])) (h w)
    ∙ ap (λ l. prefer greedy l (w ∷ [])) (over w again to each (ends w.position))
    ∙ ends_pick greedy w (flat_map to (ends w.position)) (w.position ∷ [])

module _ (s : Setting) where
  abbrev char_ends : (ℕ → Bool) → Ends
  char_ends test p = for_some (λ c. cond (test c) ((p + len_utf8 c) ∷ []) []) (char_at s.text p)

  ends_char : (test : ℕ → Bool) → EndsAt (character s test) (char_ends test)
  ends_char test w = at (char_at s.text w.position)
    where
      at : (o : Option ℕ) → for_some (λ c. cond (test c) (with_position w (w.position + len_utf8 c) ∷ []) []) o
          ≡ map (with_position w) (for_some (λ c. cond (test c) ((w.position + len_utf8 c) ∷ []) []) o)
      at None = refl
      at (Some c) = ends_either (test c) w ((w.position + len_utf8 c) ∷ []) []

  abbrev pub repeat_ends : ℕ → Option ℕ → Bool → Ends → Ends
  repeat_ends lo None greedy ends = due_ends lo ends (loop_ends (length s.text + 1) greedy ends)
  repeat_ends lo (Some hi) greedy ends = due_ends lo ends (up_to_ends (hi - lo) greedy ends)

  ends_repeat : (lo : ℕ) (hi : Option ℕ) (greedy : Bool) (f : Moves) (ends : Ends) → EndsAt f ends →
      EndsAt (row.repeat s lo hi greedy f) (repeat_ends lo hi greedy ends)
  ends_repeat lo None greedy f ends h =
      ends_due lo f (loop (length s.text + 1) greedy f) ends (loop_ends (length s.text + 1) greedy ends) h (ends_loop (length s.text + 1) greedy f ends h)
  ends_repeat lo (Some hi) greedy f ends h =
      ends_due lo f (up_to (hi - lo) greedy f) ends (up_to_ends (hi - lo) greedy ends) h (ends_up_to (hi - lo) greedy f ends h)

  abbrev mutual
    pub tree_ends : Tree → Ends
    tree_ends (tree.concat ts) = row_ends ts
    tree_ends (tree.alt ts) = branch_ends ts
    tree_ends tree.empty = λ p. p ∷ []
    tree_ends (tree.any newline crlf) = char_ends (is_any s newline crlf)
    tree_ends (tree.literal val casei) = char_ends (is_literal s (slice_index val 0) casei)
    tree_ends (tree.delegate text casei) = char_ends (s.has_member text casei)
    tree_ends (tree.assertion a) = λ p. cond (holds s a p) (p ∷ []) []
    tree_ends (tree.repeat t lo hi greedy) = repeat_ends lo (bound_of hi) greedy (tree_ends t)
    tree_ends _ = λ p. []

    pub row_ends : Trees → Ends
    row_ends no_trees = λ p. p ∷ []
    row_ends (more_trees t ts) = λ p. flat_map (row_ends ts) (tree_ends t p)

    pub branch_ends : Trees → Ends
    branch_ends no_trees = λ p. []
    branch_ends (more_trees t ts) = λ p. tree_ends t p ++ branch_ends ts p

  module _ (reads : ℕ → Bool) (groups : List Tree) (call : ℕ → Moves) where
    mutual
      unfolding meaning is_easy all_easy group_count row_group_count

      pub ends_tree : (k n : ℕ) (t : Tree) → is_easy reads k t ≡ true → group_count t ≡ 0 → EndsAt (meaning s groups call n t).from (tree_ends t)
      ends_tree k n (tree.concat ts) e c = ends_row k n ts e c
      ends_tree k n (tree.alt no_trees) e c = absurd (true≢false (sym e))
      ends_tree k n (tree.alt (more_trees t ts)) e c = ends_branches k n (more_trees t ts) e c
      ends_tree k n tree.empty e c = λ w. refl
      ends_tree k n (tree.any newline crlf) e c = ends_char (is_any s newline crlf)
      ends_tree k n (tree.literal val casei) e c = ends_char (is_literal s (slice_index val 0) casei)
      ends_tree k n (tree.delegate text casei) e c = ends_char (s.has_member text casei)
      ends_tree k n (tree.assertion a) e c = λ w. ends_if (holds s a w.position) w
      ends_tree k n (tree.repeat t lo hi greedy) e c =
          ends_repeat lo (bound_of hi) greedy (meaning s groups call n t).from (tree_ends t) (ends_tree k n t e c)
      ends_tree k n (tree.group t) e c = absurd (omega (arith, c))
      ends_tree k n (tree.general_newline unicode) e c = absurd (true≢false (sym e))
      ends_tree k n (tree.look_around t how) e c = absurd (true≢false (sym e))
      ends_tree k n (tree.atomic_group t) e c = absurd (true≢false (sym e))
      ends_tree k n (tree.backref j casei) e c = absurd (true≢false (sym e))
      ends_tree k n (tree.backref_exists j level) e c = absurd (true≢false (sym e))
      ends_tree k n (tree.conditional x y z) e c = absurd (true≢false (sym e))
      ends_tree k n (tree.subroutine_call j) e c = absurd (true≢false (sym e))
      ends_tree k n tree.keep_out e c = absurd (true≢false (sym e))
      ends_tree k n tree.continue e c = absurd (true≢false (sym e))
      ends_tree k n (tree.verb v) e c = absurd (true≢false (sym e))
      ends_tree k n (tree.absent_repeater t) e c = absurd (true≢false (sym e))
      ends_tree k n (tree.define_group t) e c = absurd (true≢false (sym e))
      ends_tree k n (tree.literal_bytes bytes) e c = absurd (true≢false (sym e))
      ends_tree k n (tree.backref_with_level j level casei) e c = absurd (true≢false (sym e))
      ends_tree k n (tree.absent_expression a t) e c = absurd (true≢false (sym e))
      ends_tree k n (tree.absent_stopper t) e c = absurd (true≢false (sym e))
      ends_tree k n tree.absent_clear e c = absurd (true≢false (sym e))
      ends_tree k n (tree.ast_group name t position) e c = absurd (true≢false (sym e))
      ends_tree k n (tree.ast_backref goal casei level position) e c = absurd (true≢false (sym e))
      ends_tree k n (tree.ast_call goal position) e c = absurd (true≢false (sym e))
      ends_tree k n (tree.ast_condition goal level position) e c = absurd (true≢false (sym e))

      ends_row : (k n : ℕ) (ts : Trees) → all_easy reads k ts ≡ true → row_group_count ts ≡ 0 →
          EndsAt (all_of (meanings s groups call n ts)) (row_ends ts)
      ends_row k n no_trees e c = λ w. refl
      ends_row k n (more_trees t ts) e c =
          let both = both_true (is_easy reads k t) (all_easy reads (k + group_count t) ts) e in
          ends_over (meaning s groups call n t).from (all_of (meanings s groups call (n + group_count t) ts)) (tree_ends t) (row_ends ts)
          (ends_tree k n t both.0 (omega (arith, c))) (ends_row (k + group_count t) (n + group_count t) ts both.1 (omega (arith, c)))

      ends_branches : (k n : ℕ) (ts : Trees) → all_easy reads k ts ≡ true → row_group_count ts ≡ 0 →
          EndsAt (λ w. flat_map (λ m. m.from w) (meanings s groups call n ts)) (branch_ends ts)
      ends_branches k n no_trees e c = λ w. refl
      ends_branches k n (more_trees t ts) e c = λ w.
          let both = both_true (is_easy reads k t) (all_easy reads (k + group_count t) ts) e in
          ap₂ (λ xs ys. xs ++ ys) (ends_tree k n t both.0 (omega (arith, c)) w)
          (ends_branches (k + group_count t) (n + group_count t) ts both.1 (omega (arith, c)) w)
          ∙ sym (map-append (with_position w) (tree_ends t w.position) (branch_ends ts w.position))

-- a tree that a search can take over is easy, and has no capture group
pub record IsPart (t : Tree) : Type 0 where
  pub easy : is_easy (is_read (length (pattern_of t).groups) t) 1 t ≡ true
  pub groupless : group_count t ≡ 0
  pub light : nat_le (own_properties t).weight 4096 ≡ true
  pub printable : is_printable t ≡ true

not_not : (b : Bool) → not (not b) ≡ true → b ≡ true
not_not true h = refl
not_not false h = absurd (true≢false (sym h))

no_more : (n : ℕ) → (1 == 1 + n) ≡ true → n ≡ 0
no_more n h = grind (arith, nat_tests)

pub part_of : (t : Tree) → is_searchable t ≡ true → IsPart t
unfolding is_searchable
part_of t h =
    let f = own_properties t in
    let fit = both_true (is_light_part f) (is_printable t) h in
    let two = both_true (not f.hard && f.start == f.end) (nat_le f.weight 4096) fit.0 in
    let three = both_true (not f.hard) (f.start == f.end) two.0 in
    record { easy = not_not _ three.0; groupless = no_more (group_count t) three.1; light = two.1; printable = fit.1 }

-- the tree that is searched for a delegated body can be searched
pub searched_can_be : (for_any : Bool) (t : Tree) → is_delegated for_any t ≡ true → is_searchable (searched for_any t) ≡ true
unfolding is_delegated
searched_can_be for_any t h = (both_true (offers_choices for_any t) (is_searchable (searched for_any t)) h).1

first_of : (w v : MatchState) (ps : List ℕ) →
    first_only (map (with_position w) ps) ≡ end_ways (option_map (λ u. u.position) (first_item (map (with_position v) ps))) w
first_of w v [] = refl
first_of w v (p ∷ ps) = refl

-- The ways of a searchable tree as a pattern of its own differ only in where they end.
pub own_ways : (s : Setting) (t : Tree) → is_searchable t ≡ true → (p : ℕ) →
    ways s (pattern_of t).groups (pattern_of t).first_group t (start_way (pattern_of t) p)
    ≡ map (with_position (start_way (pattern_of t) p)) (tree_ends s t p)
unfolding ways
own_ways s t h p =
    let part = part_of t h in
    let gs = (pattern_of t).groups in
    ends_tree s (is_read (length gs) t) gs (call_ways s gs (max_open_calls gs) []) 1 1 t part.easy part.groupless (start_way (pattern_of t) p)

-- The first way of a searchable tree leads to the end of its first way as a pattern of its own.
pub searchable_way : (s : Setting) (groups : List Tree) (call : ℕ → Moves) (n : ℕ) (t : Tree) → is_searchable t ≡ true → (w : MatchState) →
    first_only ((meaning s groups call n t).from w) ≡ end_ways (first_end s t w.position) w
unfolding first_end
searchable_way s groups call n t h w =
    let part = part_of t h in
    let alone = start_way (pattern_of t) w.position in
    ap first_only (ends_tree s (is_read (length (pattern_of t).groups) t) groups call 1 n t part.easy part.groupless w)
    ∙ first_of w alone (tree_ends s t w.position)
    ∙ ap (λ l. end_ways (option_map (λ u. u.position) (first_item l)) w) (sym (own_ways s t h w.position))
