-- A pattern that is written out has at most the choices of its tree.
use Rattle.std.proofs.Common.{◌≡◌, ℕ, zero, suc, ◌+◌, ◌-◌, ◌≤◌, Bool, true, false, cond, List, [], ◌∷◌, length, map, Option, Some, None, refl, sym, ap, ◌∙◌, arith, slice_index}
use Rattle.std.specs.Prelude.{◌==◌, sum_by}
use Rattle.std.proofs.lemmas.List.Sums.{sum_by-cons, sum_by-le-sum_by}
use Rattle.fancy_regex_tree.specs.declared.expr.LookAround.{LookAround}
use Rattle.fancy_regex_tree.specs.declared.expr.LookAround.TheVariants.{LookAhead, LookAheadNeg, LookBehind, LookBehindNeg}
use Rattle.fancy_regex_tree.specs.Tree as tree
use Rattle.fancy_regex_tree.specs.Tree.{Tree, Trees, no_trees, more_trees}
use Rattle.fancy_regex_meaning.specs.Positions.{boundaries, position_before}
use Rattle.fancy_regex_meaning.specs.Groups.{group_count}
use Rattle.fancy_regex_meaning.specs.Sizes.{size, target, bound_of}
use Rattle.fancy_regex_meaning.specs.Ways.{MatchState, Moves, Meaning, Setting, with_position, first_only, for_some, call_ways, meaning, meanings, is_at_call_limit, max_open_calls}
use Rattle.fancy_regex_meaning.specs.Choices.{Count, and_then, due_choices, up_to_choices, loop_choices, all_choices, any_choices, look_choices, branch_choices, repeat_choices, absent_choices, count_of, branch_counts, count, counts, call_choices, choices_at}
use Rattle.fancy_regex_meaning.specs.Searches.{start_way}
use Rattle.fancy_regex_desugar.specs.CorePatterns.{any, literal, class, CorePattern, nothing, read, general_newline, check, continue, keep_out, fail, cat, group, back, atomic, delegate, tail, repeat, backref, exists, conditional, absent}
use Rattle.fancy_regex_desugar.specs.Delegates.{searched, is_delegated, begins_tail}
use Rattle.fancy_regex_desugar.specs.CoreWays.{core_ways, core_choices}
use Rattle.fancy_regex_desugar.specs.Unfolded.{repeated, Written, pat_for, cat_all, alt_all, body_of, first_way_of, look, node, branches, written, written_all, written_call, written_plain, written_tail, written_whole, core_pattern_of}
use Rattle.fancy_regex_desugar.specs.DesugarLaws.{UnfoldedKeepsChoices, PatternKeepsChoices}
use Rattle.fancy_regex_desugar.proofs.ThinnedLemmas.{Thins, thin_fewer}
use Rattle.fancy_regex_desugar.proofs.WaysProofs.{Has, AllSame, FirstIsFound, found_first, first_way, same, same_all, same_calls}

-- The pattern has at most these choices.
pub record Chooses (s : Setting) (bound : Option ℕ) (own : MatchState → ℕ) (p : CorePattern) : Type 0 where
  pub is : (w : MatchState) → core_choices s bound p w ≤ own w

-- And so it has from as far back.
pub record Agrees (s : Setting) (bound : Option ℕ) (c : Count) (u : Written) : Type 0 where
  pub front : Chooses s bound c.from u.front
  pub behind : Chooses s bound c.behind u.behind

abbrev pub AllAgree : Setting → Option ℕ → List Count → List Written → Type 0
AllAgree s bound [] [] = Unit {0}
AllAgree s bound [] (u ∷ us) = ⊥
AllAgree s bound (c ∷ cs) [] = ⊥
AllAgree s bound (c ∷ cs) (u ∷ us) = Agrees s bound c u × AllAgree s bound cs us

-- the choices of the branch that follows go by the first way alone
choices_of_first : (ws : List MatchState) (first second : MatchState → ℕ) (w : MatchState) →
    branch_choices ws first second w ≡ branch_choices (first_only ws) first second w
choices_of_first [] first second w = refl
choices_of_first (v ∷ vs) first second w = refl

fewer_of_branch : (ws : List MatchState) (f g k l : MatchState → ℕ) → ((w : MatchState) → k w ≤ f w) → ((w : MatchState) → l w ≤ g w) → (w : MatchState) →
    branch_choices ws k l w ≤ branch_choices ws f g w
fewer_of_branch [] f g k l h j w = j w
fewer_of_branch (v ∷ vs) f g k l h j w = h v

fewer_after : (f g : Moves) (own less rest last : MatchState → ℕ) → Thins f g → ((w : MatchState) → less w ≤ own w) → ((w : MatchState) → last w ≤ rest w) →
    (w : MatchState) → and_then g less last w ≤ and_then f own rest w
fewer_after f g own less rest last h j k w = omega (arith, j w, thin_fewer last (f w) (g w) (h w), sum_by-le-sum_by last rest (f w) k)

module _ (f g : Moves) (own less : MatchState → ℕ) (h : Thins f g) (j : (w : MatchState) → less w ≤ own w) where
  fewer_of_due : (n : ℕ) (rest last : MatchState → ℕ) → ((w : MatchState) → last w ≤ rest w) → (w : MatchState) →
      due_choices n g less last w ≤ due_choices n f own rest w
  fewer_of_due zero rest last k w = k w
  fewer_of_due (suc n) rest last k w =
      fewer_after f g own less (due_choices n f own rest) (due_choices n g less last) h j (fewer_of_due n rest last k) w

  fewer_of_up_to : (n : ℕ) (w : MatchState) → up_to_choices n g less w ≤ up_to_choices n f own w
  fewer_of_up_to zero w = omega arith
  fewer_of_up_to (suc n) w =
      let later : and_then g less (up_to_choices n g less) w ≤ and_then f own (up_to_choices n f own) w =
      fewer_after f g own less (up_to_choices n f own) (up_to_choices n g less) h j (fewer_of_up_to n) w in
      omega arith

  none_or_fewer : (b : Bool) (m n : ℕ) → m ≤ n → cond b 0 m ≤ cond b 0 n
  none_or_fewer true m n le = omega arith
  none_or_fewer false m n le = le

  fewer_of_loop : (n : ℕ) (w : MatchState) → loop_choices n g less w ≤ loop_choices n f own w
  fewer_of_loop zero w = omega arith
  fewer_of_loop (suc n) w =
      let more : MatchState → ℕ = λ v. cond (v.position == w.position) 0 (loop_choices n f own v) in
      let fewer : MatchState → ℕ = λ v. cond (v.position == w.position) 0 (loop_choices n g less v) in
      let later : and_then g less fewer w ≤ and_then f own more w =
      fewer_after f g own less more fewer h j
      (λ v. none_or_fewer (v.position == w.position) (loop_choices n g less v) (loop_choices n f own v) (fewer_of_loop n v)) w in
      omega arith

module _ (s : Setting) (bound : Option ℕ) where
  chooses_row : (ms : List Meaning) (cs : List Count) (us : List Written) → AllSame s bound ms us → AllAgree s bound cs us →
      Chooses s bound (all_choices ms cs) (cat_all us)
  unfolding core_choices
  chooses_row [] [] [] h k = record { is = λ w. omega arith }
  chooses_row [] (c ∷ cs) [] h k = absurd k
  chooses_row [] cs (u ∷ us) h k = absurd h
  chooses_row (m ∷ ms) cs [] h k = absurd h
  chooses_row (m ∷ ms) [] (u ∷ us) h k = absurd k
  chooses_row (m ∷ ms) (c ∷ cs) (u ∷ us) h k =
      record {
        is = fewer_after m.from (core_ways s bound u.front) c.from (core_choices s bound u.front) (all_choices ms cs) (core_choices s bound (cat_all us))
            h.0.front.is k.0.front.is (chooses_row ms cs us h.1 k.1).is;
      }

  chooses_front : (cs : List Count) (us : List Written) → AllAgree s bound cs us → (w : MatchState) →
      core_choices s bound (alt_all (map (λ u. u.front) us)) w ≤ length cs - 1 + sum_by (λ c. c.from w) cs
  unfolding core_choices
  chooses_front [] [] h w = omega arith
  chooses_front [] (u ∷ us) h w = absurd h
  chooses_front (c ∷ cs) [] h w = absurd h
  chooses_front (c ∷ []) (u ∷ []) h w =
      omega (arith, h.0.front.is w, sum_by-cons (λ c. c.from w) c [])
  chooses_front (c ∷ []) (u ∷ v ∷ us) h w = absurd h.1
  chooses_front (c ∷ d ∷ cs) (u ∷ []) h w = absurd h.1
  chooses_front (c ∷ d ∷ cs) (u ∷ v ∷ us) h w =
      omega (arith, h.0.front.is w, chooses_front (d ∷ cs) (v ∷ us) h.1 w, sum_by-cons (λ c. c.from w) c (d ∷ cs))

  chooses_behind : (cs : List Count) (us : List Written) → AllAgree s bound cs us → (w : MatchState) →
      core_choices s bound (alt_all (map (λ u. u.behind) us)) w ≤ length cs - 1 + sum_by (λ c. c.behind w) cs
  unfolding core_choices
  chooses_behind [] [] h w = omega arith
  chooses_behind [] (u ∷ us) h w = absurd h
  chooses_behind (c ∷ cs) [] h w = absurd h
  chooses_behind (c ∷ []) (u ∷ []) h w =
      omega (arith, h.0.behind.is w, sum_by-cons (λ c. c.behind w) c [])
  chooses_behind (c ∷ []) (u ∷ v ∷ us) h w = absurd h.1
  chooses_behind (c ∷ d ∷ cs) (u ∷ []) h w = absurd h.1
  chooses_behind (c ∷ d ∷ cs) (u ∷ v ∷ us) h w =
      omega (arith, h.0.behind.is w, chooses_behind (d ∷ cs) (v ∷ us) h.1 w, sum_by-cons (λ c. c.behind w) c (d ∷ cs))

  -- so many characters back, and from there
  chooses_back : (n : ℕ) (own : MatchState → ℕ) (p : CorePattern) → Chooses s bound own p →
      Chooses s bound (λ w. elim (position_before s.text n w.position) [ None ↦ 0 | Some q ↦ own (with_position w q) ]) (cat (back n) p)
  unfolding core_ways core_choices
  chooses_back n own p h = record { is = λ w. from_there w (position_before s.text n w.position) }
    where
      from_there : (w : MatchState) (o : Option ℕ) →
          0 + sum_by (core_choices s bound p) (for_some (λ q. with_position w q ∷ []) o) ≤ elim o [ None ↦ 0 | Some q ↦ own (with_position w q) ]
      from_there w None = omega arith
      from_there w (Some q) = omega (arith, h.is (with_position w q), sum_by-cons (core_choices s bound p) (with_position w q) [])

  -- where nothing is chosen there, nothing is chosen after
  chooses_none : (n : ℕ) (p : CorePattern) → Chooses s bound (λ w. 0) p → Chooses s bound (λ w. 0) (cat (back n) p)
  unfolding core_ways core_choices
  chooses_none n p h = record { is = λ w. from_there w (position_before s.text n w.position) }
    where
      from_there : (w : MatchState) (o : Option ℕ) → 0 + sum_by (core_choices s bound p) (for_some (λ q. with_position w q ∷ []) o) ≤ 0
      from_there w None = omega arith
      from_there w (Some q) = omega (arith, h.is (with_position w q), sum_by-cons (core_choices s bound p) (with_position w q) [])

  chooses_one : (b : Bool) (f g : MatchState → ℕ) (p q : CorePattern) → Chooses s bound f p → Chooses s bound g q → Chooses s bound (λ w. cond b (f w) (g w)) (cond b p q)
  chooses_one true f g p q h k = record { is = h.is }
  chooses_one false f g p q h k = record { is = k.is }

  chooses_either : (b : Bool) (own : MatchState → ℕ) (p q : CorePattern) → Chooses s bound own p → Chooses s bound own q → Chooses s bound own (cond b p q)
  chooses_either true own p q h k = h
  chooses_either false own p q h k = k

  -- a body that is delegated counts as its pattern
  chooses_body : (for_any : Bool) (t : Tree) (own : MatchState → ℕ) (p : CorePattern) → Chooses s bound own p → Chooses s bound own (body_of for_any t p)
  unfolding core_choices
  chooses_body for_any t own p h =
      elim (is_delegated for_any t) as (λ b. Chooses s bound own (cond b (delegate (searched for_any t) p) p)) [ true ↦ record { is = h.is } | false ↦ record { is = h.is } ]

  chooses_look : (t : Tree) (how : LookAround) (c : Count) (u : Written) → Agrees s bound c u → Chooses s bound (look_choices how c) (look t how u)
  unfolding core_choices
  chooses_look t LookAhead c u h = record { is = (chooses_body true t c.from u.front h.front).is }
  chooses_look t LookAheadNeg c u h = record { is = λ w. omega (arith, (chooses_body true t c.from u.front h.front).is w) }
  chooses_look t LookBehind c u h = record { is = h.behind.is }
  chooses_look t LookBehindNeg c u h = record { is = λ w. omega (arith, h.behind.is w) }

  chooses_group : (k : ℕ) (own : MatchState → ℕ) (p : CorePattern) → Chooses s bound own p → Chooses s bound own (group k p)
  unfolding core_choices
  chooses_group k own p h = record { is = h.is }

  chooses_atomic : (t : Tree) (own : MatchState → ℕ) (p : CorePattern) → Chooses s bound own p → Chooses s bound own (atomic (first_way_of t p))
  unfolding core_choices
  chooses_atomic t own p h = record { is = (chooses_body false t own p h).is }

  chooses_repeat : (lo : ℕ) (hi : Option ℕ) (greedy : Bool) (f : Moves) (own : MatchState → ℕ) (p : CorePattern) → Has s bound f p → Chooses s bound own p →
      Chooses s bound (repeat_choices s lo hi f own) (repeat p lo hi greedy)
  unfolding core_choices
  chooses_repeat lo None greedy f own p h k = record {
    is = fewer_of_due f (core_ways s bound p) own (core_choices s bound p) h.is k.is lo _ _
        (fewer_of_loop f (core_ways s bound p) own (core_choices s bound p) h.is k.is (length s.text + 1));
  }
  chooses_repeat lo (Some hi) greedy f own p h k = record {
    is = fewer_of_due f (core_ways s bound p) own (core_choices s bound p) h.is k.is lo _ _
        (fewer_of_up_to f (core_ways s bound p) own (core_choices s bound p) h.is k.is (hi - lo));
  }

  chooses_repeated : (lo hi : ℕ) (greedy : Bool) (f : Moves) (own : MatchState → ℕ) (p : CorePattern) → Has s bound f p → Chooses s bound own p →
      Chooses s bound (repeat_choices s lo (bound_of hi) f own) (repeated p lo hi greedy)
  unfolding core_choices
  chooses_repeated zero zero greedy f own p h k = record { is = λ w. omega arith }
  chooses_repeated zero (suc hi) greedy f own p h k = chooses_repeat 0 (bound_of (suc hi)) greedy f own p h k
  chooses_repeated (suc lo) hi greedy f own p h k = chooses_repeat (suc lo) (bound_of hi) greedy f own p h k

  chooses_conditional : (t : Tree) (f : Moves) (own first second : MatchState → ℕ) (p q r : CorePattern) → Has s bound f p → FirstIsFound s bound t f →
      Chooses s bound own p → Chooses s bound first q → Chooses s bound second r →
      Chooses s bound (λ w. 1 + own w + branch_choices (f w) first second w) (conditional (first_way_of t p) q r)
  unfolding core_choices
  chooses_conditional t f own first second p q r h d k a b = record {
    is = λ w.
        let body : List MatchState = core_ways s bound (first_way_of t p) w in
        let same : branch_choices (f w) first second w ≡ branch_choices body first second w =
        choices_of_first (f w) first second w ∙ ap (λ ws. branch_choices ws first second w) (first_way s bound t f p h d w)
        ∙ sym (choices_of_first body first second w) in
        omega (
          arith,
          same,
          (chooses_body false t own p k).is w,
          fewer_of_branch body first second (core_choices s bound q) (core_choices s bound r) a.is b.is w,
        );
  }

  chooses_absent : (own : MatchState → ℕ) (p : CorePattern) → Chooses s bound own p → Chooses s bound (absent_choices s own) (absent p)
  unfolding core_choices
  chooses_absent own p h = record {
    is = λ w. sum_by-le-sum_by (λ q. 1 + core_choices s bound p (with_position w q)) (λ q. 1 + own (with_position w q))
        (boundaries s.text w.position (length s.text)) (λ q. omega (arith, h.is (with_position w q)));
  }

  module _ (groups : List Tree) where
    agrees_node : (t : Tree) (own : MatchState → ℕ) (p : CorePattern) → Chooses s bound own p → Agrees s bound (count_of s groups t own) (node groups t p)
    agrees_node t own p h = record { front = h; behind = chooses_back (size groups t).least own p h }

    agrees_leaf : (t : Tree) (p : CorePattern) → Chooses s bound (λ w. 0) p → Agrees s bound (record { from = λ w. 0; behind = λ w. 0 }) (node groups t p)
    agrees_leaf t p h = record { front = h; behind = chooses_none (size groups t).least p h }

    agree_branches : (t : Tree) (cs : List Count) (us : List Written) → AllAgree s bound cs us →
        Agrees s bound (branch_counts s groups t cs) (branches groups t us)
    agree_branches t cs us h =
        let front : Chooses s bound (any_choices cs).from (alt_all (map (λ u. u.front) us)) = record { is = chooses_front cs us h } in
        let behind : Chooses s bound (any_choices cs).behind (alt_all (map (λ u. u.behind) us)) = record { is = chooses_behind cs us h } in
        record {
          front = front;
          behind = chooses_one (size groups t).always _ _ _ _ (chooses_back (size groups t).least _ _ front) behind;
        }

    module _ (call : ℕ → Moves) (call_count : ℕ → MatchState → ℕ) (pat : ℕ → CorePattern) (same_call : (k : ℕ) → Has s bound (call k) (pat k)) (same_count : (k : ℕ) → Chooses s bound (call_count k) (pat k)) where
      abbrev ways_of : (n : ℕ) (t : Tree) → Has s bound (meaning s groups call n t).from (written groups pat n t).front
      ways_of n t = (same s bound groups call pat same_call n t).front

      mutual
        unfolding core_choices meaning written count

        agrees : (n : ℕ) (t : Tree) → Agrees s bound (count s groups call call_count n t) (written groups pat n t)
        agrees n (tree.alt ts) =
            agree_branches (tree.alt ts) (counts s groups call call_count n ts) (written_all groups pat n ts) (agree_all n ts)
        agrees n (tree.concat ts) =
            agrees_node (tree.concat ts) _ _
            (chooses_row (meanings s groups call n ts) (counts s groups call call_count n ts) (written_all groups pat n ts)
            (same_all s bound groups call pat same_call n ts) (agree_all n ts))
        agrees n tree.empty = agrees_leaf tree.empty nothing (record { is = λ w. omega arith })
        agrees n (tree.any newline crlf) = agrees_leaf (tree.any newline crlf) (read (any newline crlf)) (record { is = λ w. omega arith })
        agrees n (tree.assertion a) = agrees_leaf (tree.assertion a) (check a) (record { is = λ w. omega arith })
        agrees n (tree.general_newline unicode) =
            agrees_node (tree.general_newline unicode) (λ w. 1) (general_newline unicode) (record { is = λ w. omega arith })
        agrees n (tree.literal val casei) =
            agrees_leaf (tree.literal val casei) (read (literal (slice_index val 0) casei)) (record { is = λ w. omega arith })
        agrees n (tree.delegate text casei) = agrees_leaf (tree.delegate text casei) (read (class text casei)) (record { is = λ w. omega arith })
        agrees n (tree.group t) = agrees_node (tree.group t) _ _ (chooses_group n _ _ (agrees (n + 1) t).front)
        agrees n (tree.look_around t how) = agrees_node (tree.look_around t how) _ _
            (chooses_look t how (count s groups call call_count n t) (written groups pat n t) (agrees n t))
        agrees n (tree.repeat t lo hi greedy) =
            agrees_node (tree.repeat t lo hi greedy) _ _
            (chooses_repeated lo hi greedy _ _ _ (ways_of n t) (agrees n t).front)
        agrees n (tree.atomic_group t) =
            agrees_node (tree.atomic_group t) _ _
            (chooses_atomic t _ _ (agrees n t).front)
        agrees n (tree.backref k casei) = agrees_leaf (tree.backref k casei) (backref k casei) (record { is = λ w. omega arith })
        agrees n (tree.backref_exists k None) = agrees_leaf (tree.backref_exists k None) (exists k) (record { is = λ w. omega arith })
        agrees n (tree.backref_exists k (Some level)) =
            agrees_leaf (tree.backref_exists k (Some level)) fail (record { is = λ w. omega arith })
        agrees n (tree.conditional c a b) = agrees_node (tree.conditional c a b) _ _
            (chooses_conditional c _ _ _ _ _ _ _ (ways_of n c) (found_first s bound groups call n c) (agrees n c).front (agrees (n + group_count c) a).front
            (agrees (n + group_count c + group_count a) b).front)
        agrees n (tree.subroutine_call k) = agrees_node (tree.subroutine_call k) _ _ (same_count k)
        agrees n tree.keep_out = agrees_leaf tree.keep_out keep_out (record { is = λ w. omega arith })
        agrees n tree.continue = agrees_leaf tree.continue continue (record { is = λ w. omega arith })
        agrees n (tree.verb v) = agrees_leaf (tree.verb v) fail (record { is = λ w. omega arith })
        agrees n (tree.absent_repeater t) = agrees_node (tree.absent_repeater t) _ _ (chooses_absent _ _ (agrees n t).front)
        agrees n (tree.define_group t) = agrees_leaf (tree.define_group t) nothing (record { is = λ w. omega arith })
        agrees n (tree.literal_bytes bytes) = agrees_leaf (tree.literal_bytes bytes) fail (record { is = λ w. omega arith })
        agrees n (tree.backref_with_level k level casei) =
            agrees_leaf (tree.backref_with_level k level casei) fail (record { is = λ w. omega arith })
        agrees n (tree.absent_expression a t) = agrees_leaf (tree.absent_expression a t) fail (record { is = λ w. omega arith })
        agrees n (tree.absent_stopper t) = agrees_leaf (tree.absent_stopper t) fail (record { is = λ w. omega arith })
        agrees n tree.absent_clear = agrees_leaf tree.absent_clear fail (record { is = λ w. omega arith })
        agrees n (tree.ast_group name t position) = agrees_leaf (tree.ast_group name t position) fail (record { is = λ w. omega arith })
        agrees n (tree.ast_backref goal casei level position) =
            agrees_leaf (tree.ast_backref goal casei level position) fail (record { is = λ w. omega arith })
        agrees n (tree.ast_call goal position) = agrees_leaf (tree.ast_call goal position) fail (record { is = λ w. omega arith })
        agrees n (tree.ast_condition goal level position) =
            agrees_leaf (tree.ast_condition goal level position) fail (record { is = λ w. omega arith })

        agree_all : (n : ℕ) (ts : Trees) → AllAgree s bound (counts s groups call call_count n ts) (written_all groups pat n ts)
        agree_all n no_trees = tt
        agree_all n (more_trees t ts) = (agrees n t, agree_all (n + group_count t) ts)

      -- a tail makes the choices of its pattern
      chooses_plain : (n : ℕ) (ts : Trees) →
          Chooses s bound (all_choices (meanings s groups call n ts) (counts s groups call call_count n ts)) (written_plain groups pat n ts)
      unfolding core_choices
      chooses_plain n ts =
          let row : CorePattern = cat_all (written_all groups pat n ts) in
          let h = chooses_row (meanings s groups call n ts) (counts s groups call call_count n ts) (written_all groups pat n ts)
          (same_all s bound groups call pat same_call n ts) (agree_all n ts) in
          elim (is_delegated false (tree.concat ts)) as (λ b.
          Chooses s bound (all_choices (meanings s groups call n ts) (counts s groups call call_count n ts)) (cond b (tail (tree.concat ts) row) row)) [
            | true ↦ record { is = h.is }
            | false ↦ h
          ]

      chooses_tail : (n : ℕ) (ts : Trees) →
          Chooses s bound (all_choices (meanings s groups call n ts) (counts s groups call call_count n ts)) (written_tail groups pat n ts)
      unfolding core_choices meaning written count written_tail
      chooses_tail n no_trees = record { is = λ w. omega arith }
      chooses_tail n (more_trees t ts) = chooses_either (begins_tail (more_trees t ts)) _ _ _ (chooses_plain n (more_trees t ts))
          (record {
            is = fewer_after (meaning s groups call n t).from (core_ways s bound (written groups pat n t).front) (count s groups call call_count n t).from
                (core_choices s bound (written groups pat n t).front)
                (all_choices (meanings s groups call (n + group_count t) ts) (counts s groups call call_count (n + group_count t) ts))
                (core_choices s bound (written_tail groups pat (n + group_count t) ts))
                (ways_of n t).is (agrees n t).front.is (chooses_tail (n + group_count t) ts).is;
          })

      chooses_whole : (n : ℕ) (t : Tree) → Chooses s bound (count s groups call call_count n t).from (written_whole groups pat n t)
      unfolding core_choices meaning written count written_whole
      chooses_whole n (tree.concat ts) = chooses_tail n ts
      chooses_whole n t = (agrees n t).front

    chooses_target : (b : Bool) (o : Option Tree) (own : Tree → MatchState → ℕ) (p : Tree → CorePattern) → ((t : Tree) → Chooses s bound (own t) (p t)) →
        Chooses s bound (λ w. elim b [ true ↦ 0 | false ↦ elim o [ None ↦ 0 | Some t ↦ own t w ] ]) (cond b fail (pat_for p o))
    unfolding core_choices
    chooses_target true o own p h = record { is = λ w. omega arith }
    chooses_target false None own p h = record { is = λ w. omega arith }
    chooses_target false (Some t) own p h = record { is = (h t).is }

    same_counts : (m : ℕ) (opened : List ℕ) (k : ℕ) → Chooses s bound (call_choices s groups m opened k) (written_call groups m opened k)
    unfolding core_choices call_choices written_call
    same_counts zero opened k = record { is = λ w. omega arith }
    same_counts (suc m) opened k = record {
      is = (chooses_target (is_at_call_limit opened k) (target groups k)
          (λ body. (count s groups (call_ways s groups m (k ∷ opened)) (call_choices s groups m (k ∷ opened)) (k + 1) body).from)
          (λ body. (written groups (written_call groups m (k ∷ opened)) (k + 1) body).front)
          (λ body. (agrees _ _ _ (same_calls s bound groups m (k ∷ opened)) (same_counts m (k ∷ opened)) (k + 1) body).front)).is;
    }

pub unfolded_has_the_choices : UnfoldedKeepsChoices
unfolded_has_the_choices s bound groups m opened n t w =
    let h = agrees s bound groups _ _ _ (same_calls s bound groups m opened) (same_counts s bound groups m opened) n t in
    (h.front.is w, h.behind.is w)

pub pattern_has_the_choices : PatternKeepsChoices
unfolding core_pattern_of choices_at
pattern_has_the_choices s bound pattern p =
    let groups = pattern.groups in
    let m = max_open_calls groups in
    (chooses_whole s bound groups _ _ _ (same_calls s bound groups m []) (same_counts s bound groups m []) pattern.first_group pattern.tree).is
    (start_way pattern p)
