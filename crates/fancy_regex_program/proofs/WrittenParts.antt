-- What holds part by part holds of two patterns that are written of one tree, where it holds of what stands for its calls.
use Rattle.std.proofs.Common.{◌≡◌, ℕ, zero, suc, ◌+◌, Bool, true, false, cond, List, [], ◌∷◌, map, length, Option, Some, None, refl, ap, arith, slice_index}
use Rattle.fancy_regex_tree.specs.declared.expr.Assertion.{Assertion}
use Rattle.fancy_regex_tree.specs.declared.expr.LookAround.{LookAround}
use Rattle.fancy_regex_tree.specs.declared.expr.LookAround.TheVariants.{LookAhead, LookAheadNeg, LookBehind, LookBehindNeg}
use Rattle.fancy_regex_tree.specs.Tree as tree
use Rattle.fancy_regex_tree.specs.Tree.{Tree, Trees, no_trees, more_trees}
use Rattle.fancy_regex_meaning.specs.Groups.{group_count}
use Rattle.fancy_regex_meaning.specs.Sizes.{size}
use Rattle.fancy_regex_desugar.specs.CorePatterns.{CharacterTest, any, literal, class, CorePattern, nothing, read, general_newline, check, continue, keep_out, fail, cat, alt, group, ahead, never, back, atomic, delegate, tail, repeat, backref, exists, conditional, absent}
use Rattle.fancy_regex_desugar.specs.Delegates.{searched, is_delegated, begins_tail}
use Rattle.fancy_regex_desugar.specs.Unfolded.{repeated, Written, cat_all, alt_all, body_of, look, node, branches, written, written_all, written_plain, written_tail, written_whole}

-- The relation holds of two patterns of one form where it holds of their parts.
pub record PartByPart (R : CorePattern → CorePattern → Type 0) : Type 0 where
  pub of_nothing : R nothing nothing
  pub of_read : (c : CharacterTest) → R (read c) (read c)
  pub of_newline : (unicode : Bool) → R (general_newline unicode) (general_newline unicode)
  pub of_check : (a : Assertion) → R (check a) (check a)
  pub of_continue : R continue continue
  pub of_keep_out : R keep_out keep_out
  pub of_fail : R fail fail
  pub of_back : (n : ℕ) → R (back n) (back n)
  pub of_backref : (k : ℕ) (casei : Bool) → R (backref k casei) (backref k casei)
  pub of_exists : (k : ℕ) → R (exists k) (exists k)
  pub of_cat : (a b c d : CorePattern) → R a c → R b d → R (cat a b) (cat c d)
  pub of_alt : (a b c d : CorePattern) → R a c → R b d → R (alt a b) (alt c d)
  pub of_group : (k : ℕ) (a b : CorePattern) → R a b → R (group k a) (group k b)
  pub of_ahead : (a b : CorePattern) → R a b → R (ahead a) (ahead b)
  pub of_never : (a b : CorePattern) → R a b → R (never a) (never b)
  pub of_atomic : (a b : CorePattern) → R a b → R (atomic a) (atomic b)
  pub of_delegate : (t : Tree) (a b : CorePattern) → R a b → R (delegate t a) (delegate t b)
  pub of_tail : (t : Tree) (a b : CorePattern) → R a b → R (tail t a) (tail t b)
  pub of_repeat : (a b : CorePattern) (lo : ℕ) (hi : Option ℕ) (greedy : Bool) → R a b → R (repeat a lo hi greedy) (repeat b lo hi greedy)
  pub of_conditional : (a b c d e f : CorePattern) → R a d → R b e → R c f → R (conditional a b c) (conditional d e f)
  pub of_absent : (a b : CorePattern) → R a b → R (absent a) (absent b)

module _ (R : CorePattern → CorePattern → Type 0) (parts : PartByPart R) where
  pub record BothForms (u v : Written) : Type 0 where
    pub front : R u.front v.front
    pub behind : R u.behind v.behind

  -- as a row, and as branches
  pub record EachForm (us vs : List Written) : Type 0 where
    pub long : length us ≡ length vs
    pub row : R (cat_all us) (cat_all vs)
    pub fronts : R (alt_all (map (λ u. u.front) us)) (alt_all (map (λ u. u.front) vs))
    pub behinds : R (alt_all (map (λ u. u.behind) us)) (alt_all (map (λ u. u.behind) vs))

  pub one_form_more : (u v : Written) (us vs : List Written) → BothForms u v → EachForm us vs → EachForm (u ∷ us) (v ∷ vs)
  one_form_more u v [] [] h k = record { long = refl; row = parts.of_cat u.front nothing v.front nothing h.front k.row; fronts = h.front; behinds = h.behind }
  one_form_more u v (x ∷ us) (y ∷ vs) h k = record {
    long = ap suc k.long;
    row = parts.of_cat u.front (cat_all (x ∷ us)) v.front (cat_all (y ∷ vs)) h.front k.row;
    fronts = parts.of_alt u.front (alt_all (map (λ w. w.front) (x ∷ us))) v.front (alt_all (map (λ w. w.front) (y ∷ vs))) h.front k.fronts;
    behinds = parts.of_alt u.behind (alt_all (map (λ w. w.behind) (x ∷ us))) v.behind (alt_all (map (λ w. w.behind) (y ∷ vs))) h.behind k.behinds;
  }
  one_form_more u v [] (y ∷ vs) h k = absurd (omega (arith, k.long))
  one_form_more u v (x ∷ us) [] h k = absurd (omega (arith, k.long))

  pub of_either : (b : Bool) (p q p' q' : CorePattern) → R p p' → R q q' → R (cond b p q) (cond b p' q')
  of_either true p q p' q' h k = h
  of_either false p q p' q' h k = k

  pub of_repeated : (p q : CorePattern) (lo hi : ℕ) (greedy : Bool) → R p q → R (repeated p lo hi greedy) (repeated q lo hi greedy)
  of_repeated p q zero zero greedy h = parts.of_nothing
  of_repeated p q zero (suc hi) greedy h = parts.of_repeat p q 0 _ greedy h
  of_repeated p q (suc lo) hi greedy h = parts.of_repeat p q (suc lo) _ greedy h

  pub of_body : (for_any : Bool) (t : Tree) (p q : CorePattern) → R p q → R (body_of for_any t p) (body_of for_any t q)
  of_body for_any t p q h = of_either (is_delegated for_any t) (delegate (searched for_any t) p) p (delegate (searched for_any t) q) q (parts.of_delegate (searched for_any t) p q h) h

  pub of_look : (t : Tree) (how : LookAround) (u v : Written) → BothForms u v → R (look t how u) (look t how v)
  of_look t LookAhead u v h = parts.of_ahead (body_of true t u.front) (body_of true t v.front) (of_body true t u.front v.front h.front)
  of_look t LookAheadNeg u v h = parts.of_never (body_of true t u.front) (body_of true t v.front) (of_body true t u.front v.front h.front)
  of_look t LookBehind u v h = parts.of_ahead u.behind v.behind h.behind
  of_look t LookBehindNeg u v h = parts.of_never u.behind v.behind h.behind

  module _ (groups : List Tree) where
    of_node : (t : Tree) (p q : CorePattern) → R p q → BothForms (node groups t p) (node groups t q)
    of_node t p q h = record { front = h; behind = parts.of_cat (back (size groups t).least) p (back (size groups t).least) q (parts.of_back (size groups t).least) h }

    of_branches : (t : Tree) (us vs : List Written) → EachForm us vs → BothForms (branches groups t us) (branches groups t vs)
    of_branches t us vs h = record {
      front = h.fronts;
      behind = of_either (size groups t).always (cat (back (size groups t).least) (alt_all (map (λ u. u.front) us))) (alt_all (map (λ u. u.behind) us))
          (cat (back (size groups t).least) (alt_all (map (λ u. u.front) vs))) (alt_all (map (λ u. u.behind) vs))
          (parts.of_cat (back (size groups t).least) (alt_all (map (λ u. u.front) us)) (back (size groups t).least) (alt_all (map (λ u. u.front) vs)) (parts.of_back (size groups t).least) h.fronts)
          h.behinds;
    }

    module _ (f g : ℕ → CorePattern) (calls : (k : ℕ) → R (f k) (g k)) where
      mutual
        unfolding written

        pub of_tree : (n : ℕ) (t : Tree) → BothForms (written groups f n t) (written groups g n t)
        of_tree n (tree.alt ts) = of_branches (tree.alt ts) _ _ (of_trees n ts)
        of_tree n (tree.concat ts) = of_node (tree.concat ts) _ _ (of_trees n ts).row
        of_tree n tree.empty = of_node tree.empty nothing nothing parts.of_nothing
        of_tree n (tree.any newline crlf) = of_node (tree.any newline crlf) _ _ (parts.of_read (any newline crlf))
        of_tree n (tree.assertion a) = of_node (tree.assertion a) _ _ (parts.of_check a)
        of_tree n (tree.general_newline unicode) = of_node (tree.general_newline unicode) _ _ (parts.of_newline unicode)
        of_tree n (tree.literal val casei) = of_node (tree.literal val casei) _ _ (parts.of_read (literal (slice_index val 0) casei))
        of_tree n (tree.delegate text casei) = of_node (tree.delegate text casei) _ _ (parts.of_read (class text casei))
        of_tree n (tree.group t) = of_node (tree.group t) _ _ (parts.of_group n _ _ (of_tree (n + 1) t).front)
        of_tree n (tree.look_around t how) = of_node (tree.look_around t how) _ _ (of_look t how (written groups f n t) (written groups g n t) (of_tree n t))
        of_tree n (tree.repeat t lo hi greedy) = of_node (tree.repeat t lo hi greedy) _ _ (of_repeated _ _ lo hi greedy (of_tree n t).front)
        of_tree n (tree.atomic_group t) =
            of_node (tree.atomic_group t) _ _
            (parts.of_atomic (body_of false t (written groups f n t).front) (body_of false t (written groups g n t).front)
            (of_body false t (written groups f n t).front (written groups g n t).front (of_tree n t).front))
        of_tree n (tree.backref k casei) = of_node (tree.backref k casei) _ _ (parts.of_backref k casei)
        of_tree n (tree.backref_exists k None) = of_node (tree.backref_exists k None) _ _ (parts.of_exists k)
        of_tree n (tree.backref_exists k (Some level)) = of_node (tree.backref_exists k (Some level)) _ _ parts.of_fail
        of_tree n (tree.conditional c a b) =
            of_node (tree.conditional c a b) _ _
            (parts.of_conditional (body_of false c (written groups f n c).front) _ _ (body_of false c (written groups g n c).front) _ _
            (of_body false c (written groups f n c).front (written groups g n c).front (of_tree n c).front)
            (of_tree (n + group_count c) a).front (of_tree (n + group_count c + group_count a) b).front)
        of_tree n (tree.subroutine_call k) = of_node (tree.subroutine_call k) (f k) (g k) (calls k)
        of_tree n tree.keep_out = of_node tree.keep_out _ _ parts.of_keep_out
        of_tree n tree.continue = of_node tree.continue _ _ parts.of_continue
        of_tree n (tree.verb v) = of_node (tree.verb v) _ _ parts.of_fail
        of_tree n (tree.absent_repeater t) = of_node (tree.absent_repeater t) _ _ (parts.of_absent _ _ (of_tree n t).front)
        of_tree n (tree.define_group t) = of_node (tree.define_group t) _ _ parts.of_nothing
        of_tree n (tree.literal_bytes bytes) = of_node (tree.literal_bytes bytes) _ _ parts.of_fail
        of_tree n (tree.backref_with_level k level casei) = of_node (tree.backref_with_level k level casei) _ _ parts.of_fail
        of_tree n (tree.absent_expression a t) = of_node (tree.absent_expression a t) _ _ parts.of_fail
        of_tree n (tree.absent_stopper t) = of_node (tree.absent_stopper t) _ _ parts.of_fail
        of_tree n tree.absent_clear = of_node tree.absent_clear _ _ parts.of_fail
        of_tree n (tree.ast_group name t position) = of_node (tree.ast_group name t position) _ _ parts.of_fail
        of_tree n (tree.ast_backref goal casei level position) = of_node (tree.ast_backref goal casei level position) _ _ parts.of_fail
        of_tree n (tree.ast_call goal position) = of_node (tree.ast_call goal position) _ _ parts.of_fail
        of_tree n (tree.ast_condition goal level position) = of_node (tree.ast_condition goal level position) _ _ parts.of_fail

        of_trees : (n : ℕ) (ts : Trees) → EachForm (written_all groups f n ts) (written_all groups g n ts)
        of_trees n no_trees = record { long = refl; row = parts.of_nothing; fronts = parts.of_fail; behinds = parts.of_fail }
        of_trees n (more_trees t ts) =
            one_form_more (written groups f n t) (written groups g n t) (written_all groups f (n + group_count t) ts) (written_all groups g (n + group_count t) ts)
            (of_tree n t) (of_trees (n + group_count t) ts)

      of_plain : (n : ℕ) (ts : Trees) → R (written_plain groups f n ts) (written_plain groups g n ts)
      of_plain n ts =
          let row = cat_all (written_all groups f n ts) in
          let row' = cat_all (written_all groups g n ts) in
          of_either (is_delegated false (tree.concat ts)) (tail (tree.concat ts) row) row (tail (tree.concat ts) row') row'
          (parts.of_tail (tree.concat ts) row row' (of_trees n ts).row) (of_trees n ts).row

      of_row : (n : ℕ) (ts : Trees) → R (written_tail groups f n ts) (written_tail groups g n ts)
      unfolding written written_tail
      of_row n no_trees = parts.of_nothing
      of_row n (more_trees t ts) =
          of_either (begins_tail (more_trees t ts)) (written_plain groups f n (more_trees t ts))
          (cat (written groups f n t).front (written_tail groups f (n + group_count t) ts)) (written_plain groups g n (more_trees t ts))
          (cat (written groups g n t).front (written_tail groups g (n + group_count t) ts)) (of_plain n (more_trees t ts))
          (parts.of_cat (written groups f n t).front (written_tail groups f (n + group_count t) ts) (written groups g n t).front
          (written_tail groups g (n + group_count t) ts) (of_tree n t).front (of_row (n + group_count t) ts))

      pub of_whole : (n : ℕ) (t : Tree) → R (written_whole groups f n t) (written_whole groups g n t)
      unfolding written written_whole
      of_whole n (tree.concat ts) = of_row n ts
      of_whole n t = (of_tree n t).front
