-- The ways of relaxed and extended trees keep the start that the match will be said to have.
use Rattle.std.proofs.Common.{◌≡◌, ℕ, zero, suc, ◌+◌, ◌-◌, ◌==◌, Bool, true, false, List, [], ◌∷◌, length, Option, Some, None, if◌then◌else◌, refl, ◌∙◌}
use Rattle.std.specs.List.{flat_map}
use Rattle.std.specs.Char.{len_utf8}
use Rattle.regex_hir.specs.Text.{char_at}
use Rattle.fancy_regex_tree.specs.Tree.{Tree, Trees, empty, any, assertion, literal, concat, alt, group, look_around, repeat, delegate, atomic_group, no_trees, more_trees}
use Rattle.fancy_regex_tree.specs.declared.expr.Assertion.{Assertion}
use Rattle.fancy_regex_tree.specs.declared.expr.LookAround.{LookAround}
use Rattle.fancy_regex_meaning.specs.Groups.{group_count}
use Rattle.fancy_regex_meaning.specs.Sizes.{bound_of}
use Rattle.fancy_regex_meaning.specs.Ways.{MatchState, Moves, Setting, meaning, meanings, all_of, any_of, prefer, due, up_to, loop, with_position, for_some, holds}
use Rattle.fancy_regex_meaning.specs.Ways as ways
use Rattle.fancy_regex_meaning.proofs.EachLemmas.{Each-weaker, Each-append, Each-flat_map}
use Rattle.fancy_regex_states.specs.declared.atom.Test.{Test}
use Rattle.fancy_regex_linear.specs.Plain.{test_of}
use Rattle.fancy_regex_linear.proofs.SameStartLemmas.{HaveStartOf, KeepsStart, keeps_start}
use Rattle.fancy_regex_relaxed.specs.Relaxed.{relaxed, relaxed_row, extended, extended_row, extended_branches, if_tested, reads_one, is_look_ahead}

follow : (w : MatchState) (f : Moves) (vs : List MatchState) → KeepsStart f → HaveStartOf w vs → HaveStartOf w (flat_map f vs)
follow w f vs h k =
    Each-flat_map (λ v. v.match_start ≡ w.match_start) (λ v. v.match_start ≡ w.match_start) f
    (λ v e. Each-weaker (λ u. u.match_start ≡ v.match_start) (λ u. u.match_start ≡ w.match_start) (λ u q. q ∙ e) (f v) (h v)) vs k

in_turn : (g : Bool) (w : MatchState) (us vs : List MatchState) → HaveStartOf w us → HaveStartOf w vs → HaveStartOf w (prefer g us vs)
in_turn true w us vs h k = Each-append (λ v. v.match_start ≡ w.match_start) us vs h k
in_turn false w us vs h k = Each-append (λ v. v.match_start ≡ w.match_start) vs us k h

due_keeps : (n : ℕ) (f g : Moves) → KeepsStart f → KeepsStart g → KeepsStart (due n f g)
due_keeps zero f g h k w = k w
due_keeps (suc n) f g h k w = follow w (due n f g) (f w) (due_keeps n f g h k) (h w)

up_to_keeps : (n : ℕ) (g : Bool) (f : Moves) → KeepsStart f → KeepsStart (up_to n g f)
up_to_keeps zero g f h w = (refl, tt)
up_to_keeps (suc n) g f h w = in_turn g w _ (w ∷ []) (follow w (up_to n g f) (f w) (up_to_keeps n g f h) (h w)) (refl, tt)

iteration_keeps : (b : Bool) (w v : MatchState) (again : List MatchState) → v.match_start ≡ w.match_start → HaveStartOf v again → HaveStartOf w (if b then v ∷ [] else again)
iteration_keeps true w v again e h = (e, tt)
iteration_keeps false w v again e h = Each-weaker (λ u. u.match_start ≡ v.match_start) (λ u. u.match_start ≡ w.match_start) (λ u q. q ∙ e) again h

loop_keeps : (n : ℕ) (g : Bool) (f : Moves) → KeepsStart f → KeepsStart (loop n g f)
loop_keeps zero g f h w = tt
loop_keeps (suc n) g f h w =
    in_turn g w _ (w ∷ [])
    (Each-flat_map (λ v. v.match_start ≡ w.match_start) (λ v. v.match_start ≡ w.match_start) _
    (λ v e. iteration_keeps (v.position == w.position) w v (loop n g f v) e (loop_keeps n g f h v)) (f w) (h w))
    (refl, tt)

repeat_keeps : (s : Setting) (lo : ℕ) (bound : Option ℕ) (g : Bool) (f : Moves) → KeepsStart f → KeepsStart (ways.repeat s lo bound g f)
repeat_keeps s lo None g f h w = due_keeps lo f (loop (length s.text + 1) g f) h (loop_keeps (length s.text + 1) g f h) w
repeat_keeps s lo (Some hi) g f h w = due_keeps lo f (up_to (hi - lo) g f) h (up_to_keeps (hi - lo) g f h) w

if_keeps : (b : Bool) (w v : MatchState) → v.match_start ≡ w.match_start → HaveStartOf w (if b then v ∷ [] else [])
if_keeps true w v e = (e, tt)
if_keeps false w v e = tt

char_keeps : (test : ℕ → Bool) (w : MatchState) (o : Option ℕ) → HaveStartOf w (for_some (λ c. if test c then with_position w (w.position + len_utf8 c) ∷ [] else []) o)
char_keeps test w None = tt
char_keeps test w (Some c) = if_keeps (test c) w (with_position w (w.position + len_utf8 c)) refl

module _ (s : Setting) (groups : List Tree) (call : ℕ → Moves) where
  abbrev TreeKeeps : ℕ → Tree → Type 0
  TreeKeeps n t = KeepsStart (meaning s groups call n t).from

  tested_keeps : (n : ℕ) (a : Assertion) (o : Option Test) → TreeKeeps n (if_tested a o)
  unfolding meaning
  tested_keeps n a None w = (refl, tt)
  tested_keeps n a (Some test) w = if_keeps (holds s a w.position) w w refl

  either_keeps : (n : ℕ) (b : Bool) (t u : Tree) → TreeKeeps n t → TreeKeeps n u → TreeKeeps n (if b then t else u)
  either_keeps n true t u h k = h
  either_keeps n false t u h k = k

  -- a look-around for one character, or nothing in its place
  looked_keeps : (n : ℕ) (t : Tree) (how : LookAround) → TreeKeeps n (if reads_one t then look_around t how else empty)
  unfolding meaning
  looked_keeps n (any newline crlf) how w = keeps_start s groups call n (look_around (any newline crlf) how) tt w
  looked_keeps n (literal val casei) how w = keeps_start s groups call n (look_around (literal val casei) how) tt w
  looked_keeps n (delegate class casei) how w = keeps_start s groups call n (look_around (delegate class casei) how) tt w
  looked_keeps n t how w = (refl, tt)

  mutual
    unfolding meaning relaxed

    relaxed_keeps : (n : ℕ) (t : Tree) → TreeKeeps n (relaxed t)
    relaxed_keeps n (any newline crlf) w = char_keeps _ w (char_at s.text w.position)
    relaxed_keeps n (literal val casei) w = char_keeps _ w (char_at s.text w.position)
    relaxed_keeps n (delegate class casei) w = char_keeps _ w (char_at s.text w.position)
    relaxed_keeps n (assertion a) w = tested_keeps n a (test_of a) w
    relaxed_keeps n (concat ts) w = row_keeps n ts w
    relaxed_keeps n (alt ts) w = branches_keeps n ts w
    relaxed_keeps n (group t) w = relaxed_keeps n t w
    relaxed_keeps n (look_around t how) w = looked_keeps n t how w
    relaxed_keeps n (atomic_group t) w = relaxed_keeps n t w
    relaxed_keeps n (repeat t lo hi greedy) w = repeat_keeps s lo (bound_of hi) greedy (meaning s groups call n (relaxed t)).from (relaxed_keeps n t) w
    relaxed_keeps n _ w = (refl, tt)

    row_keeps : (n : ℕ) (ts : Trees) → KeepsStart (all_of (meanings s groups call n (relaxed_row ts)))
    row_keeps n no_trees w = (refl, tt)
    row_keeps n (more_trees t ts) w =
        follow w (all_of (meanings s groups call (n + group_count (relaxed t)) (relaxed_row ts))) ((meaning s groups call n (relaxed t)).from w)
        (row_keeps (n + group_count (relaxed t)) ts) (relaxed_keeps n t w)

    branches_keeps : (n : ℕ) (ts : Trees) → KeepsStart (any_of (meanings s groups call n (relaxed_row ts))).from
    branches_keeps n no_trees w = tt
    branches_keeps n (more_trees t ts) w =
        Each-append (λ v. v.match_start ≡ w.match_start) ((meaning s groups call n (relaxed t)).from w)
        ((any_of (meanings s groups call (n + group_count (relaxed t)) (relaxed_row ts))).from w)
        (relaxed_keeps n t w) (branches_keeps (n + group_count (relaxed t)) ts w)

  mutual
    unfolding meaning extended

    pub extended_keeps : (n : ℕ) (t : Tree) → TreeKeeps n (extended t)
    extended_keeps n (concat ts) w = extended_row_keeps n ts w
    extended_keeps n (alt ts) w = extended_branches_keep n ts w
    extended_keeps n (group t) w = extended_keeps n t w
    extended_keeps n (atomic_group t) w = extended_keeps n t w
    extended_keeps n (look_around t how) w = either_keeps n (is_look_ahead how) (extended t) (relaxed (look_around t how)) (extended_keeps n t) (relaxed_keeps n (look_around t how)) w
    extended_keeps n t w = relaxed_keeps n t w

    extended_row_keeps : (n : ℕ) (ts : Trees) → KeepsStart (all_of (meanings s groups call n (extended_row ts)))
    extended_row_keeps n no_trees w = (refl, tt)
    extended_row_keeps n (more_trees t no_trees) w =
        follow w (all_of []) ((meaning s groups call n (extended t)).from w) (λ v. (refl, tt)) (extended_keeps n t w)
    extended_row_keeps n (more_trees t (more_trees u us)) w =
        follow w (all_of (meanings s groups call (n + group_count (relaxed t)) (extended_row (more_trees u us)))) ((meaning s groups call n (relaxed t)).from w)
        (extended_row_keeps (n + group_count (relaxed t)) (more_trees u us)) (relaxed_keeps n t w)

    extended_branches_keep : (n : ℕ) (ts : Trees) → KeepsStart (any_of (meanings s groups call n (extended_branches ts))).from
    extended_branches_keep n no_trees w = tt
    extended_branches_keep n (more_trees t ts) w =
        Each-append (λ v. v.match_start ≡ w.match_start) ((meaning s groups call n (extended t)).from w)
        ((any_of (meanings s groups call (n + group_count (extended t)) (extended_branches ts))).from w)
        (extended_keeps n t w) (extended_branches_keep (n + group_count (extended t)) ts w)
