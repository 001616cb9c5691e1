-- The ways of a tree that is regular without `\K` keep the start that the match will be said to have.
use Rattle.std.proofs.Common.{◌≡◌, ℕ, zero, suc, ◌+◌, ◌-◌, ◌==◌, Bool, true, false, ◌&&◌, List, [], ◌∷◌, length, Option, Some, None, if◌then◌else◌, true≢false, refl, sym, ◌∙◌}
use Rattle.std.specs.List.{flat_map}
use Rattle.std.specs.Char.{len_utf8}
use Rattle.regex_hir.specs.Text.{char_at}
use Rattle.fancy_regex_tree.specs.Tree.{Tree, Trees, empty, any, assertion, general_newline, literal, concat, alt, group, look_around, repeat, delegate, atomic_group, conditional, verb, keep_out, continue, define_group, subroutine_call, no_trees, more_trees}
use Rattle.fancy_regex_tree.specs.declared.expr.LookAround.{LookAround}
use Rattle.fancy_regex_tree.specs.declared.expr.LookAround.TheVariants.{LookAhead, LookAheadNeg, LookBehind, LookBehindNeg}
use Rattle.fancy_regex_meaning.specs.Groups.{group_count}
use Rattle.fancy_regex_meaning.specs.Positions.{is_before_byte}
use Rattle.fancy_regex_meaning.specs.Sizes.{bound_of}
use Rattle.fancy_regex_meaning.specs.Ways.{MatchState, Moves, Setting, Meaning, meaning, meanings, all_of, any_of, prefer, due, up_to, loop, with_position, for_some, is_none_of, keep_only_pairs, first_only, look, holds}
use Rattle.fancy_regex_meaning.specs.Ways as ways
use Rattle.fancy_regex_meaning.specs.WayLaws.{Each}
use Rattle.fancy_regex_meaning.proofs.EachLemmas.{Each-cond, Each-weaker, Each-append, Each-map, Each-flat_map}
use Rattle.fancy_regex_linear.specs.Plain.{IsPlain, IsRegular, AreRegular, has_no_iteration}
use Rattle.fancy_regex_linear.proofs.MeaningLemmas.{no_iterations}
use Rattle.fancy_regex_linear.proofs.PlainLemmas.{plain_regular}

abbrev pub HaveStartOf : MatchState → List MatchState → Type 0
HaveStartOf w vs = Each (λ v. v.match_start ≡ w.match_start) vs

abbrev pub KeepsStart : Moves → Type 0
KeepsStart f = (w : MatchState) → HaveStartOf w (f w)

follow : (w : MatchState) (f : Moves) (vs : List MatchState) → KeepsStart f → HaveStartOf w vs → HaveStartOf w (flat_map f vs)
follow w f vs h k =
    Each-flat_map (λ v. v.match_start ≡ w.match_start) (λ v. v.match_start ≡ w.match_start) f
    (λ v e. Each-weaker (λ u. u.match_start ≡ v.match_start) (λ u. u.match_start ≡ w.match_start) (λ u q. q ∙ e) (f v) (h v)) vs k

in_turn : (g : Bool) (w : MatchState) (us vs : List MatchState) → HaveStartOf w us → HaveStartOf w vs → HaveStartOf w (prefer g us vs)
in_turn true w us vs h k = Each-append (λ v. v.match_start ≡ w.match_start) us vs h k
in_turn false w us vs h k = Each-append (λ v. v.match_start ≡ w.match_start) vs us k h

due_keeps : (n : ℕ) (f g : Moves) → KeepsStart f → KeepsStart g → KeepsStart (due n f g)
due_keeps zero f g h k w = k w
due_keeps (suc n) f g h k w = follow w (due n f g) (f w) (due_keeps n f g h k) (h w)

up_to_keeps : (n : ℕ) (g : Bool) (f : Moves) → KeepsStart f → KeepsStart (up_to n g f)
up_to_keeps zero g f h w = (refl, tt)
up_to_keeps (suc n) g f h w = in_turn g w _ (w ∷ []) (follow w (up_to n g f) (f w) (up_to_keeps n g f h) (h w)) (refl, tt)

iteration_keeps : (b : Bool) (w v : MatchState) (again : List MatchState) → v.match_start ≡ w.match_start → HaveStartOf v again → HaveStartOf w (if b then v ∷ [] else again)
iteration_keeps true w v again e h = (e, tt)
iteration_keeps false w v again e h = Each-weaker (λ u. u.match_start ≡ v.match_start) (λ u. u.match_start ≡ w.match_start) (λ u q. q ∙ e) again h

loop_keeps : (n : ℕ) (g : Bool) (f : Moves) → KeepsStart f → KeepsStart (loop n g f)
loop_keeps zero g f h w = tt
loop_keeps (suc n) g f h w =
    in_turn g w _ (w ∷ [])
    (Each-flat_map (λ v. v.match_start ≡ w.match_start) (λ v. v.match_start ≡ w.match_start) _
    (λ v e. iteration_keeps (v.position == w.position) w v (loop n g f v) e (loop_keeps n g f h v)) (f w) (h w))
    (refl, tt)

repeat_keeps : (s : Setting) (lo : ℕ) (bound : Option ℕ) (g : Bool) (f : Moves) → KeepsStart f → KeepsStart (ways.repeat s lo bound g f)
repeat_keeps s lo None g f h w = due_keeps lo f (loop (length s.text + 1) g f) h (loop_keeps (length s.text + 1) g f h) w
repeat_keeps s lo (Some hi) g f h w = due_keeps lo f (up_to (hi - lo) g f) h (up_to_keeps (hi - lo) g f h) w

-- one with no iteration does
run_keeps : (s : Setting) (lo hi : ℕ) (g : Bool) (f : Moves) (b : Bool) → (b ≡ true → (lo ≡ 0) × (hi ≡ 0)) → (b ≡ false → KeepsStart f)
    → KeepsStart (ways.repeat s lo (bound_of hi) g f)
run_keeps s lo hi g f true zeros h w = rw ((zeros refl).0, (zeros refl).1) (refl, tt)
run_keeps s lo hi g f false zeros h w = repeat_keeps s lo (bound_of hi) g f (h refl) w

if_keeps : (b : Bool) (w v : MatchState) → v.match_start ≡ w.match_start → HaveStartOf w (if b then v ∷ [] else [])
if_keeps true w v e = (e, tt)
if_keeps false w v e = tt

char_keeps : (test : ℕ → Bool) (w : MatchState) (o : Option ℕ) → HaveStartOf w (for_some (λ c. if test c then with_position w (w.position + len_utf8 c) ∷ [] else []) o)
char_keeps test w None = tt
char_keeps test w (Some c) = if_keeps (test c) w (with_position w (w.position + len_utf8 c)) refl

pairs_keep : (w : MatchState) (vs : List MatchState) → HaveStartOf w (keep_only_pairs w vs)
pairs_keep w [] = tt
pairs_keep w (v ∷ vs) = (refl, pairs_keep w vs)

look_keeps : (how : LookAround) (m : Meaning) (w : MatchState) → HaveStartOf w (look how m w)
look_keeps LookAhead m w = pairs_keep w (m.from w)
look_keeps LookAheadNeg m w = if_keeps (is_none_of (m.from w)) w w refl
look_keeps LookBehind m w = pairs_keep w (m.behind w)
look_keeps LookBehindNeg m w = if_keeps (is_none_of (m.behind w)) w w refl

first_keeps : (w : MatchState) (vs : List MatchState) → HaveStartOf w vs → HaveStartOf w (first_only vs)
first_keeps w [] h = tt
first_keeps w (v ∷ vs) h = (h.0, tt)

conditional_keeps : (w : MatchState) (vs : List MatchState) (f g : Moves) → HaveStartOf w vs → KeepsStart f → KeepsStart g → HaveStartOf w (ways.conditional vs f g w)
conditional_keeps w [] f g h k l = l w
conditional_keeps w (v ∷ vs) f g h k l = Each-weaker (λ u. u.match_start ≡ v.match_start) (λ u. u.match_start ≡ w.match_start) (λ u q. q ∙ h.0) (f v) (k v)

module _ (s : Setting) (groups : List Tree) (call : ℕ → Moves) (known : ℕ → Type 0) (keeps : (j : ℕ) → known j → KeepsStart (call j)) where
  mutual
    unfolding meaning

    pub regular_keeps_start : (n : ℕ) (t : Tree) → IsRegular false known t → KeepsStart (meaning s groups call n t).from
    regular_keeps_start n empty p w = (refl, tt)
    regular_keeps_start n (any newline crlf) p w = char_keeps _ w (char_at s.text w.position)
    regular_keeps_start n (literal val casei) p w = char_keeps _ w (char_at s.text w.position)
    regular_keeps_start n (delegate class casei) p w = char_keeps _ w (char_at s.text w.position)
    regular_keeps_start n (general_newline wide) p w =
        Each-cond (λ v. v.match_start ≡ w.match_start) (is_before_byte s.text 13 w.position && is_before_byte s.text 10 (w.position + 1)) (with_position w (w.position + 2) ∷ []) _
        (refl, tt) (char_keeps _ w (char_at s.text w.position))
    regular_keeps_start n (assertion a) p w = if_keeps (holds s a w.position) w w refl
    regular_keeps_start n (look_around t how) p w = look_keeps how (meaning s groups call n t) w
    regular_keeps_start n (atomic_group t) p w = first_keeps w ((meaning s groups call n t).from w) (regular_keeps_start n t p w)
    regular_keeps_start n (concat ts) p w = row_keeps n ts p w
    regular_keeps_start n (alt ts) p w = branches_keeps n ts p.1 w
    regular_keeps_start n (group t) p w =
        Each-map (λ v. v.match_start ≡ w.match_start) (λ v. v.match_start ≡ w.match_start) (λ v. ways.set_pair n (w.position, v.position) v) (λ v e. e) ((meaning s groups call (n + 1) t).from w) (regular_keeps_start (n + 1) t p w)
    regular_keeps_start n (repeat t lo hi greedy) p w =
        run_keeps s lo hi greedy (meaning s groups call n t).from (has_no_iteration lo hi) (no_iterations lo hi) (λ made. regular_keeps_start n t (p made)) w
    regular_keeps_start n (subroutine_call j) p w = keeps j p w
    regular_keeps_start n (conditional c a b) p w =
        conditional_keeps w ((meaning s groups call n c).from w) (meaning s groups call (n + group_count c) a).from
        (meaning s groups call (n + group_count c + group_count a) b).from (regular_keeps_start n c p.0 w)
        (regular_keeps_start (n + group_count c) a p.1.0) (regular_keeps_start (n + group_count c + group_count a) b p.1.1)
    regular_keeps_start n (define_group t) p w = (refl, tt)
    regular_keeps_start n (verb v) p w = tt
    regular_keeps_start n keep_out p w = absurd (true≢false (sym p))
    regular_keeps_start n continue p w = if_keeps _ w w refl
    regular_keeps_start n _ p w = absurd p

    row_keeps : (n : ℕ) (ts : Trees) → AreRegular false known ts → KeepsStart (all_of (meanings s groups call n ts))
    row_keeps n no_trees p w = (refl, tt)
    row_keeps n (more_trees t ts) p w =
        follow w (all_of (meanings s groups call (n + group_count t) ts)) ((meaning s groups call n t).from w) (row_keeps (n + group_count t) ts p.1) (regular_keeps_start n t p.0 w)

    pub branches_keeps : (n : ℕ) (ts : Trees) → AreRegular false known ts → KeepsStart (any_of (meanings s groups call n ts)).from
    branches_keeps n no_trees p w = tt
    branches_keeps n (more_trees t ts) p w =
        Each-append (λ v. v.match_start ≡ w.match_start) ((meaning s groups call n t).from w) ((any_of (meanings s groups call (n + group_count t) ts)).from w) (regular_keeps_start n t p.0 w) (branches_keeps (n + group_count t) ts p.1 w)

-- a plain tree has no calls
pub keeps_start : (s : Setting) (groups : List Tree) (call : ℕ → Moves) (n : ℕ) (t : Tree) → IsPlain t → KeepsStart (meaning s groups call n t).from
keeps_start s groups call n t p = regular_keeps_start s groups call (λ j. ⊥) (λ j none. absurd none) n t (plain_regular (λ j. ⊥) false t p)
