-- What cannot end has no least size.
use Rattle.std.proofs.Common.{◌≡◌, ℕ, zero, suc, Bool, true, false, cond, List, length, Option, Some, None, refl, sym, ap, subst, ◌∙◌, ⊎_elim, ◌⊎◌, inl, inr, arith}
use Rattle.std.specs.Prelude.{◌&&◌, ◌||◌, ◌==◌}
use Rattle.std.proofs.lemmas.Bool.{or_parts, false≢true}
use Rattle.std.proofs.lemmas.Nat.{mul-le}
use Rattle.fancy_regex_tree.specs.Tree as tree
use Rattle.fancy_regex_tree.specs.Tree.{Tree, Trees, empty, any, assertion, general_newline, literal, literal_bytes, concat, alt, group, look_around, delegate, backref, backref_with_level, atomic_group, keep_out, continue, backref_exists, conditional, subroutine_call, verb, absent_repeater, absent_expression, absent_stopper, absent_clear, define_group, ast_group, ast_backref, ast_call, ast_condition, no_trees, more_trees}
use Rattle.fancy_regex_meaning.specs.Sizes.{Size, unbounded, times, size_with, concat_size, alternation_size, size_through, size, target, is_recursive}
use Rattle.fancy_regex_meaning.specs.Termination.{can_end_with, all_can_end, some_can_end, can_end}
use Rattle.fancy_regex_meaning.specs.WayLaws.{Each}
use Rattle.fancy_regex_meaning.specs.TerminationLaws.{EndsAlone, CallsCount, CallsCountInRow, CallsCountInBranches, NonTerminatingIsUnbounded}
use Rattle.fancy_regex_meaning.proofs.LeastLemmas.{called, call_size, through_is}
use Rattle.fancy_regex_meaning.proofs.TerminationProofs.{more, table, table_none, table_some, through_table}
use Rattle.fancy_regex_meaning.proofs.SizeProofs.{each_at}

one_fails : (a b : Bool) → (a && b) ≡ false → (a ≡ false) ⊎ (b ≡ false)
one_fails true b h = inr h
one_fails false b h = inl refl

abbrev HasNoLeast : Size → Type 0
HasNoLeast z = z.least ≡ unbounded

endless_times : (lo a : ℕ) → (lo == 0) ≡ false → a ≡ unbounded → times lo a ≡ unbounded
endless_times zero a h e = absurd (false≢true (sym h))
endless_times (suc lo) a h e = omega (arith, e, mul-le 1 a (suc lo) a (omega arith) (omega arith))

module _ (call : ℕ → Bool) (sizes : ℕ → Size) (calls : (k : ℕ) → call k ≡ false → HasNoLeast (sizes k)) where
  alone : {A : Type 0} (t : Tree) → EndsAlone t → can_end_with call t ≡ false → A
  alone t h e = absurd (false≢true (sym e ∙ more (λ k. false) call (λ k f. absurd (false≢true f)) t h))

  mutual
    unfolding can_end_with size_with CallsCount

    endless : (t : Tree) → CallsCount t → can_end_with call t ≡ false → HasNoLeast (size_with sizes t)
    endless (concat ts) c h = endless_row ts c h
    endless (alt ts) c h = endless_branches ts c h
    endless (group t) c h = endless t c h
    endless (tree.repeat t lo hi greedy) c h =
        let parts = or_parts (lo == 0) (can_end_with call t) h in
        endless_times lo ((size_with sizes t).least) parts.0 (endless t c parts.1)
    endless (atomic_group t) c h = endless t c h
    endless (conditional c a b) r h =
        ⊎_elim (λ (no : can_end_with call c ≡ false). alone c r.0 no)
        (λ (no : (can_end_with call a || can_end_with call b) ≡ false).
        let parts = or_parts (can_end_with call a) (can_end_with call b) no in
        omega (arith, endless a r.1 parts.0, endless b r.2 parts.1))
        (one_fails (can_end_with call c) (can_end_with call a || can_end_with call b) h)
    endless (subroutine_call k) c h = calls k h
    endless (look_around t how) c h = alone t c h
    endless (absent_repeater t) c h = alone t c h
    endless (absent_expression a t) c h =
        ⊎_elim (λ (no : can_end_with call t ≡ false). alone t c.1 no) (λ (no : can_end_with call a ≡ false). alone a c.0 no)
        (one_fails (can_end_with call t) (can_end_with call a) h)
    endless (absent_stopper t) c h = alone t c h
    endless (define_group t) c h = alone t c h
    endless (ast_group name t position) c h = alone t c h
    endless _ c h = absurd (false≢true (sym h))

    endless_row : (ts : Trees) → CallsCountInRow ts → all_can_end call ts ≡ false → HasNoLeast (concat_size sizes ts)
    endless_row no_trees c h = absurd (false≢true (sym h))
    endless_row (more_trees t ts) c h =
        ⊎_elim (λ (no : can_end_with call t ≡ false). omega (arith, endless t c.0 no))
        (λ (no : all_can_end call ts ≡ false). omega (arith, endless_row ts c.1 no))
        (one_fails (can_end_with call t) (all_can_end call ts) h)

    endless_branches : (ts : Trees) → CallsCountInBranches ts → some_can_end call ts ≡ false → HasNoLeast (alternation_size sizes ts)
    endless_branches no_trees c h = absurd c
    endless_branches (more_trees t no_trees) c h = endless t c (or_parts (can_end_with call t) false h).0
    endless_branches (more_trees t (more_trees u ts)) c h =
        let parts = or_parts (can_end_with call t) (some_can_end call (more_trees u ts)) h in
        omega (arith, endless t c.0 parts.0, endless_branches (more_trees u ts) c.1 parts.1)

module _ (groups : List Tree) (count : Each CallsCount groups) where
  no_least : (b : Bool) (z : Size) → HasNoLeast z → HasNoLeast (cond b (record { least = z.least; greatest = unbounded; always = false }) z)
  no_least true z h = h
  no_least false z h = h

  endless_first : (k : ℕ) (o : Option Tree) → target groups k ≡ o → table groups zero k ≡ false → HasNoLeast (call_size groups zero k)
  unfolding call_size
  endless_first k None e h = absurd (false≢true (sym h ∙ table_none groups zero k e))
  endless_first k (Some body) e h = ap (λ o. (called (λ body. record { least = unbounded; greatest = unbounded; always = false }) o).least) e

  endless_next : (n k : ℕ) → ((j : ℕ) → table groups n j ≡ false → HasNoLeast (call_size groups n j)) →
      (o : Option Tree) → target groups k ≡ o → table groups (suc n) k ≡ false → HasNoLeast (call_size groups (suc n) k)
  unfolding call_size
  endless_next n k earlier None e h = absurd (false≢true (sym h ∙ table_none groups (suc n) k e))
  endless_next n k earlier (Some body) e h =
      let inside : HasNoLeast (size_through groups n body) =
      subst HasNoLeast (sym (through_is groups n body))
      (endless (table groups n) (call_size groups n) earlier body (each_at CallsCount groups k body count e) (sym (table_some groups n k body e) ∙ h)) in
      subst (λ o. HasNoLeast (called (λ t. let s = size_through groups n t in
      cond (is_recursive groups k t) (record { least = s.least; greatest = unbounded; always = false }) s) o)) (sym e)
      (no_least (is_recursive groups k body) (size_through groups n body) inside)

  endless_calls : (n k : ℕ) → table groups n k ≡ false → HasNoLeast (call_size groups n k)
  endless_calls zero k h = endless_first k (target groups k) refl h
  endless_calls (suc n) k h = endless_next n k (endless_calls n) (target groups k) refl h

pub endless_is_unbounded : (groups : List Tree) → NonTerminatingIsUnbounded groups
unfolding size can_end
endless_is_unbounded groups count t c h =
    let most = length groups in
    subst HasNoLeast (sym (through_is groups most t))
    (endless (table groups most) (call_size groups most) (endless_calls groups count most) t c (sym (through_table groups most t) ∙ h))
