-- A pattern has at most one way more than it has choices.
use Rattle.std.proofs.Common.{◌≡◌, ℕ, zero, suc, ◌+◌, ◌-◌, ◌≤◌, Bool, true, false, cond, List, [], ◌∷◌, length, reverse, Option, Some, None, arith, ◌==◌, length-append}
use Rattle.std.proofs.lemmas.List.{length-map, length-reverse}
use Rattle.std.specs.Prelude.{sum_by, ◌&&◌}
use Rattle.std.specs.List.{flat_map, filter}
use Rattle.std.proofs.lemmas.Bool.{cond_both}
use Rattle.std.proofs.lemmas.List.Sums.{sum_by-cons, length-filter, count_by-le-length}
use Rattle.regex_hir.specs.Text.{char_at}
use Rattle.fancy_regex_meaning.specs.Positions.{boundaries, position_before, is_before_byte}
use Rattle.fancy_regex_meaning.specs.Sizes.{size, target, bound_of}
use Rattle.fancy_regex_meaning.specs.Groups.{group_count}
use Rattle.fancy_regex_tree.specs.declared.expr.LookAround.{LookAround}
use Rattle.fancy_regex_tree.specs.declared.expr.LookAround.TheVariants.{LookAhead, LookAheadNeg, LookBehind, LookBehindNeg}
use Rattle.fancy_regex_tree.specs.Tree as tree
use Rattle.fancy_regex_tree.specs.Tree.{Tree, Trees, empty, any, assertion, general_newline, literal, literal_bytes, concat, alt, look_around, delegate, backref_with_level, atomic_group, keep_out, continue, backref_exists, subroutine_call, verb, absent_repeater, absent_expression, absent_stopper, absent_clear, define_group, ast_group, ast_backref, ast_call, ast_condition, no_trees, more_trees}
use Rattle.fancy_regex_meaning.specs.Ways.{MatchState, Moves, Meaning, Setting, all_of, any_of, branches, meaning, meanings, call_ways, first_only, set_pair, with_position, match_empty, never_match, reset_match_start, look, is_none_of, prefer, due, up_to, loop, conditional, character, group, node, for_some, repeat, absent, backref, general_newline_ways, is_newline, is_free, is_at_call_limit}
use Rattle.fancy_regex_meaning.specs.Choices.{Count, and_then, all_choices, any_choices, due_choices, up_to_choices, loop_choices, look_choices, branch_choices, repeat_choices, absent_choices, count_of, branch_counts, count, counts, call_choices}
use Rattle.fancy_regex_meaning.specs.WayLaws.{WaysAreFew}

abbrev Few : Meaning → Count → Type 0
Few m c = ((w : MatchState) → length (m.from w) ≤ 1 + c.from w) × ((w : MatchState) → length (m.behind w) ≤ 1 + c.behind w)

few_flat_map : (g : Moves) (rest : MatchState → ℕ) → ((w : MatchState) → length (g w) ≤ 1 + rest w) → (xs : List MatchState) →
    length (flat_map g xs) ≤ length xs + sum_by rest xs
few_flat_map g rest h [] = omega arith
few_flat_map g rest h (x ∷ xs) = omega (arith, h x, few_flat_map g rest h xs, length-append (g x) (flat_map g xs), sum_by-cons rest x xs)

few_then : (f g : Moves) (own rest : MatchState → ℕ) → ((w : MatchState) → length (f w) ≤ 1 + own w) → ((w : MatchState) → length (g w) ≤ 1 + rest w) →
    (w : MatchState) → length (flat_map g (f w)) ≤ 1 + and_then f own rest w
few_then f g own rest p q w = omega (arith, p w, few_flat_map g rest q (f w))

length-prefer : (greedy : Bool) (xs ys : List MatchState) → length (prefer greedy xs ys) ≡ length xs + length ys
length-prefer true xs ys = length-append xs ys
length-prefer false xs ys = omega (arith, length-append ys xs)

few_due : (n : ℕ) (f rest : Moves) (own last : MatchState → ℕ) → ((w : MatchState) → length (f w) ≤ 1 + own w) → ((w : MatchState) → length (rest w) ≤ 1 + last w) →
    (w : MatchState) → length (due n f rest w) ≤ 1 + due_choices n f own last w
few_due zero f rest own last p q w = q w
few_due (suc n) f rest own last p q w = few_then f (due n f rest) own (due_choices n f own last) p (few_due n f rest own last p q) w

few_up_to : (n : ℕ) (greedy : Bool) (f : Moves) (own : MatchState → ℕ) → ((w : MatchState) → length (f w) ≤ 1 + own w) →
    (w : MatchState) → length (up_to n greedy f w) ≤ 1 + up_to_choices n f own w
few_up_to zero greedy f own p w = omega arith
few_up_to (suc n) greedy f own p w =
    omega (
      arith,
      length-prefer greedy (flat_map (up_to n greedy f) (f w)) (w ∷ []),
      few_then f (up_to n greedy f) own (up_to_choices n f own) p (few_up_to n greedy f own p) w,
    )

-- what follows an iteration of a loop
few_next : (b : Bool) (v : MatchState) (ws : List MatchState) (n : ℕ) → length ws ≤ 1 + n → length (cond b (v ∷ []) ws) ≤ 1 + cond b 0 n
few_next true v ws n h = omega arith
few_next false v ws n h = h

few_loop : (n : ℕ) (greedy : Bool) (f : Moves) (own : MatchState → ℕ) → ((w : MatchState) → length (f w) ≤ 1 + own w) →
    (w : MatchState) → length (loop n greedy f w) ≤ 1 + loop_choices n f own w
few_loop zero greedy f own p w = omega arith
few_loop (suc n) greedy f own p w =
    let next : Moves = λ v. cond (v.position == w.position) (v ∷ []) (loop n greedy f v) in
    let own_next : MatchState → ℕ = λ v. cond (v.position == w.position) 0 (loop_choices n f own v) in
    omega (
      arith,
      length-prefer greedy (flat_map next (f w)) (w ∷ []),
      few_then f next own own_next p (λ v. few_next (v.position == w.position) v (loop n greedy f v) (loop_choices n f own v) (few_loop n greedy f own p v)) w,
    )

abbrev AllFew : List Meaning → List Count → Type 0
AllFew [] [] = Unit {0}
AllFew [] (c ∷ cs) = ⊥
AllFew (m ∷ ms) [] = ⊥
AllFew (m ∷ ms) (c ∷ cs) = Few m c × AllFew ms cs

few_all : (ms : List Meaning) (cs : List Count) → AllFew ms cs → (w : MatchState) → length (all_of ms w) ≤ 1 + all_choices ms cs w
few_all [] [] h w = omega arith
few_all [] (c ∷ cs) h w = absurd h
few_all (m ∷ ms) [] h w = absurd h
few_all (m ∷ ms) (c ∷ cs) h w = few_then m.from (all_of ms) c.from (all_choices ms cs) h.0.0 (few_all ms cs h.1) w

few_branches : (ms : List Meaning) (cs : List Count) → AllFew ms cs → (w : MatchState) →
    length ((any_of ms).from w) ≤ length cs + sum_by (λ c. c.from w) cs
few_branches [] [] h w = omega arith
few_branches [] (c ∷ cs) h w = absurd h
few_branches (m ∷ ms) [] h w = absurd h
few_branches (m ∷ ms) (c ∷ cs) h w =
    omega (arith, h.0.0 w, few_branches ms cs h.1 w, length-append (m.from w) ((any_of ms).from w), sum_by-cons (λ d. d.from w) c cs)

few_behind : (ms : List Meaning) (cs : List Count) → AllFew ms cs → (w : MatchState) →
    length ((any_of ms).behind w) ≤ length cs + sum_by (λ c. c.behind w) cs
few_behind [] [] h w = omega arith
few_behind [] (c ∷ cs) h w = absurd h
few_behind (m ∷ ms) [] h w = absurd h
few_behind (m ∷ ms) (c ∷ cs) h w =
    omega (arith, h.0.1 w, few_behind ms cs h.1 w, length-append (m.behind w) ((any_of ms).behind w), sum_by-cons (λ d. d.behind w) c cs)

few_any : (ms : List Meaning) (cs : List Count) → AllFew ms cs → Few (any_of ms) (any_choices cs)
few_any ms cs h = (λ w. omega (arith, few_branches ms cs h w), λ w. omega (arith, few_behind ms cs h w))

one_if_any : (b : Bool) (w : MatchState) → length (cond b (w ∷ []) []) ≤ 1
one_if_any true w = omega arith
one_if_any false w = omega arith

few_look : (how : LookAround) (m : Meaning) (c : Count) → Few m c → (w : MatchState) → length (look how m w) ≤ 1 + look_choices how c w
few_look LookAhead m c h w = omega (arith, h.0 w, length-map (m.from w) (λ v. record w { pairs = v.pairs }))
few_look LookAheadNeg m c h w = omega (arith, one_if_any (is_none_of (m.from w)) w)
few_look LookBehind m c h w = omega (arith, h.1 w, length-map (m.behind w) (λ v. record w { pairs = v.pairs }))
few_look LookBehindNeg m c h w = omega (arith, one_if_any (is_none_of (m.behind w)) w)

one_first : (ws : List MatchState) → length (first_only ws) ≤ 1
one_first [] = omega arith
one_first (w ∷ ws) = omega arith

few_conditional : (vs : List MatchState) (a b : Moves) (x y : MatchState → ℕ) → ((w : MatchState) → length (a w) ≤ 1 + x w) → ((w : MatchState) → length (b w) ≤ 1 + y w) →
    (w : MatchState) → length (conditional vs a b w) ≤ 1 + branch_choices vs x y w
few_conditional [] a b x y p q w = q w
few_conditional (v ∷ vs) a b x y p q w = p v

one_at_a_place : (f : ℕ → List MatchState) (o : Option ℕ) → ((c : ℕ) → length (f c) ≤ 1) → length (for_some f o) ≤ 1
one_at_a_place f None h = omega arith
one_at_a_place f (Some c) h = h c

each_counts : (own : ℕ → ℕ) (ps : List ℕ) → length ps ≤ sum_by (λ p. 1 + own p) ps
each_counts own [] = omega arith
each_counts own (p ∷ ps) = omega (arith, each_counts own ps, sum_by-cons (λ q. 1 + own q) p ps)

module _ (s : Setting) where
  one_character : (test : ℕ → Bool) (w : MatchState) → length (character s test w) ≤ 1
  one_character test w = one_at_a_place _ (char_at s.text w.position) (λ c. one_if_any (test c) _)

  one_newline : (unicode : Bool) (w : MatchState) → length (general_newline_ways s unicode w) ≤ 1
  one_newline unicode w =
      cond_both (is_before_byte s.text 13 w.position && is_before_byte s.text 10 (w.position + 1)) (with_position w (w.position + 2) ∷ [])
      (character s (is_newline s unicode) w) (λ ws. length ws ≤ 1) (λ e. omega arith) (λ e. one_character _ w)

  one_backref : (casei : Bool) (o : Option (ℕ × ℕ)) (w : MatchState) → length (backref s casei o w) ≤ 1
  one_backref casei None w = omega arith
  one_backref casei (Some pair) w = one_if_any _ _

  few_repeat : (lo : ℕ) (hi : Option ℕ) (greedy : Bool) (f : Moves) (own : MatchState → ℕ) → ((w : MatchState) → length (f w) ≤ 1 + own w) →
      (w : MatchState) → length (repeat s lo hi greedy f w) ≤ 1 + repeat_choices s lo hi f own w
  few_repeat lo None greedy f own p = few_due lo f _ own _ p (few_loop (length s.text + 1) greedy f own p)
  few_repeat lo (Some hi) greedy f own p = few_due lo f _ own _ p (few_up_to (hi - lo) greedy f own p)

  few_absent : (f : Moves) (own : MatchState → ℕ) (w : MatchState) → length (absent s f w) ≤ 1 + absent_choices s own w
  few_absent f own w =
      let places = boundaries s.text w.position (length s.text) in
      omega (
        arith,
        length-map (filter (is_free s f w) (reverse places)) (with_position w),
        length-filter (is_free s f w) (reverse places),
        count_by-le-length (is_free s f w) (reverse places),
        length-reverse places,
        each_counts (λ p. own (with_position w p)) places,
      )

  module _ (groups : List Tree) where
    few_node : (t : Tree) (f : Moves) (own : MatchState → ℕ) → ((w : MatchState) → length (f w) ≤ 1 + own w) → Few (node s groups t f) (count_of s groups t own)
    few_node t f own p = (p, λ w. back w (position_before s.text (size groups t).least w.position))
      where
        back : (w : MatchState) (o : Option ℕ) → length (for_some (λ q. f (with_position w q)) o) ≤ 1 + (elim o [ None ↦ 0 | Some q ↦ own (with_position w q) ])
        back w None = omega arith
        back w (Some q) = p (with_position w q)

    few_leaf : (t : Tree) (f : Moves) → ((w : MatchState) → length (f w) ≤ 1) → Few (node s groups t f) (record { from = λ w. 0; behind = λ w. 0 })
    few_leaf t f p = (λ w. omega (arith, p w), λ w. one_at_a_place_or_less w (position_before s.text (size groups t).least w.position))
      where
        one_at_a_place_or_less : (w : MatchState) (o : Option ℕ) → length (for_some (λ q. f (with_position w q)) o) ≤ 1 + 0
        one_at_a_place_or_less w None = omega arith
        one_at_a_place_or_less w (Some q) = omega (arith, p (with_position w q))

    few_if : (b : Bool) (xs ys : List MatchState) (m n : ℕ) → length xs ≤ 1 + m → length ys ≤ 1 + n → length (cond b xs ys) ≤ 1 + cond b m n
    few_if true xs ys m n p q = p
    few_if false xs ys m n p q = q

    few_alternation : (t : Tree) (ms : List Meaning) (cs : List Count) → AllFew ms cs → Few (branches s groups t ms) (branch_counts s groups t cs)
    few_alternation t ms cs h =
        let any = few_any ms cs h in
        (any.0, λ w. few_if (size groups t).always _ _ _ _ ((few_node t (any_of ms).from (any_choices cs).from any.0).1 w) (any.1 w))

    module _ (call : ℕ → Moves) (call_count : ℕ → MatchState → ℕ) (few_calls : (k : ℕ) (w : MatchState) → length (call k w) ≤ 1 + call_count k w) where
      mutual
        unfolding meaning count

        few : (n : ℕ) (t : Tree) → Few (meaning s groups call n t) (count s groups call call_count n t)
        few n (alt ts) = few_alternation (alt ts) _ _ (few_row n ts)
        few n (concat ts) = few_node (concat ts) _ _ (few_all _ _ (few_row n ts))
        few n empty = few_leaf empty match_empty (λ w. omega arith)
        few n (any newline crlf) = few_leaf _ _ (one_character _)
        few n (assertion a) = few_leaf (assertion a) _ (λ w. one_if_any _ w)
        few n (general_newline unicode) =
            few_node (general_newline unicode) _ (λ w. 1) (λ w. omega (arith, one_newline unicode w))
        few n (literal val casei) = few_leaf _ _ (one_character _)
        few n (delegate class casei) = few_leaf _ _ (one_character _)
        few n (tree.group t) =
            few_node (tree.group t) (group n (meaning s groups call (n + 1) t).from) (count s groups call call_count (n + 1) t).from (λ w.
            omega (
              arith,
              (few (n + 1) t).0 w,
              length-map ((meaning s groups call (n + 1) t).from w) (λ v. set_pair n (w.position, v.position) v),
            ))
        few n (look_around t how) = few_node (look_around t how) _ _ (few_look how _ _ (few n t))
        few n (tree.repeat t lo hi greedy) =
            few_node (tree.repeat t lo hi greedy) _ _ (few_repeat lo (bound_of hi) greedy _ _ (few n t).0)
        few n (atomic_group t) =
            few_node (atomic_group t) (λ w. first_only ((meaning s groups call n t).from w)) (count s groups call call_count n t).from (λ w.
            omega (arith, one_first ((meaning s groups call n t).from w)))
        few n (tree.backref k casei) = few_leaf (tree.backref k casei) _ (λ w. one_backref casei _ w)
        few n (backref_exists k None) = few_leaf (backref_exists k None) _ (λ w. one_if_any _ w)
        few n (backref_exists k (Some level)) = few_leaf (backref_exists k (Some level)) never_match (λ w. omega arith)
        few n (tree.conditional c a b) = few_node (tree.conditional c a b) _ _ (λ w.
            omega (
              arith,
              few_conditional ((meaning s groups call n c).from w) _ _ _ _ (few (n + group_count c) a).0
                  (few (n + group_count c + group_count a) b).0 w,
            ))
        few n (subroutine_call k) = few_node (subroutine_call k) _ _ (few_calls k)
        few n keep_out = few_leaf keep_out reset_match_start (λ w. omega arith)
        few n continue = few_leaf continue _ (λ w. one_if_any _ w)
        few n (verb v) = few_leaf (verb v) never_match (λ w. omega arith)
        few n (absent_repeater t) =
            few_node (absent_repeater t) _ _ (few_absent (meaning s groups call n t).from (count s groups call call_count n t).from)
        few n (define_group t) = few_leaf (define_group t) match_empty (λ w. omega arith)
        few n (literal_bytes bytes) = few_leaf (literal_bytes bytes) never_match (λ w. omega arith)
        few n (backref_with_level k level casei) = few_leaf (backref_with_level k level casei) never_match (λ w. omega arith)
        few n (absent_expression a t) = few_leaf (absent_expression a t) never_match (λ w. omega arith)
        few n (absent_stopper t) = few_leaf (absent_stopper t) never_match (λ w. omega arith)
        few n absent_clear = few_leaf absent_clear never_match (λ w. omega arith)
        few n (ast_group name t position) = few_leaf (ast_group name t position) never_match (λ w. omega arith)
        few n (ast_backref goal casei level position) = few_leaf (ast_backref goal casei level position) never_match (λ w. omega arith)
        few n (ast_call goal position) = few_leaf (ast_call goal position) never_match (λ w. omega arith)
        few n (ast_condition goal level position) = few_leaf (ast_condition goal level position) never_match (λ w. omega arith)

        few_row : (n : ℕ) (ts : Trees) → AllFew (meanings s groups call n ts) (counts s groups call call_count n ts)
        few_row n no_trees = tt
        few_row n (more_trees t ts) = (few n t, few_row (n + group_count t) ts)

    open_or_full : {A : Type 0} (b : Bool) (o : Option A) (f : A → List MatchState) (own : A → ℕ) → ((x : A) → length (f x) ≤ 1 + own x) →
        length (cond b [] (for_some f o)) ≤ 1 + (elim b [ true ↦ 0 | false ↦ elim o [ None ↦ 0 | Some x ↦ own x ] ])
    open_or_full true o f own h = omega arith
    open_or_full false None f own h = omega arith
    open_or_full false (Some x) f own h = h x

    few_calls : (n : ℕ) (opened : List ℕ) (k : ℕ) (w : MatchState) → length (call_ways s groups n opened k w) ≤ 1 + call_choices s groups n opened k w
    unfolding call_ways call_choices
    few_calls zero opened k w = omega arith
    few_calls (suc n) opened k w =
        open_or_full (is_at_call_limit opened k) (target groups k) _ _ (λ body. (few _ _ (few_calls n (k ∷ opened)) (k + 1) body).0 w)

pub ways_are_few : WaysAreFew
ways_are_few s groups m opened n t w = (few s groups _ _ (few_calls s groups m opened) n t).0 w
