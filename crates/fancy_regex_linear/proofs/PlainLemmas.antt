-- What the pattern of a tree is: sound, numbered from its first group on and, of a plain tree, no heavier than it.
use Rattle.std.proofs.Common.{◌≡◌, ◌≢◌, ℕ, zero, suc, ◌+◌, ◌*◌, ◌-◌, ◌<◌, ◌≤◌, ◌==◌, min, max, Bool, true, false, cond, not, ◌&&◌, ◌||◌, if◌then◌else◌, List, [], ◌∷◌, length, Option, Some, None, nat_lt, refl, sym, ap, ap₂, ◌∙◌, arith, eq-eqb, ne_eqb, lt-ltb, true≢false}
use Rattle.std.proofs.Math.Nat.{mul-le-mul_left}
use Rattle.fancy_regex_tree.specs.Tree.{Tree, Trees, empty, any, assertion, general_newline, literal, concat, alt, group, look_around, repeat, delegate, atomic_group, conditional, verb, keep_out, continue, define_group, subroutine_call, no_trees, more_trees}
use Rattle.fancy_regex_tree.specs.declared.expr.Assertion.{Assertion}
use Rattle.fancy_regex_tree.specs.declared.expr.LookAround.{LookAround}
use Rattle.fancy_regex_meaning.specs.Groups.{group_count}
use Rattle.fancy_regex_meaning.specs.Sizes.{Size, size_with, concat_size, alternation_size, size, size_through, may_be_empty, unbounded, weights, branch_gaps}
use Rattle.fancy_regex_meaning.specs.Sizes as sizes
use Rattle.fancy_regex_linear.specs.Re.{Re}
use Rattle.fancy_regex_linear.specs.Re as re
use Rattle.fancy_regex_linear.specs.Meaning.{is_unbounded}
use Rattle.fancy_regex_linear.specs.Program.{never_empty, IsSound, MayAskIn, weight, repeat_weight}
use Rattle.fancy_regex_linear.specs.Plain.{IsPlain, ArePlain, IsRegular, AreRegular, IsOneChar, IsServed, test_of, ends_by_crlf, newline_re, text_end_re, served, joined, is_negated_look, is_look_behind, steps_back, looked, around, each_around, char_leaf, char_classes, has_no_iteration, unless, classes, re_of, row_of, branches_of}
use Rattle.fancy_regex_states.specs.declared.atom.Leaf.{Leaf}
use Rattle.fancy_regex_states.specs.declared.atom.Test.{Test}
use Rattle.fancy_regex_linear.proofs.CarryLemmas.{Lacks}

-- each of them is so
abbrev pub AllOf : (Re → Type 0) → List Re → Type 0
AllOf P [] = Unit {0}
AllOf P (x ∷ xs) = P x × AllOf P xs

may_served : (a : Assertion) (o : Option Test) → IsServed o → MayAskIn false (served a o)
may_served a None p = absurd p
may_served a (Some t) p = tt

-- `\R` and `\Z`
lacks_newline : (m : ℕ) (wide : Bool) → Lacks m (newline_re wide)
lacks_newline m true = ((tt, (tt, tt)), ((tt, (tt, tt)), (tt, (tt, (tt, (tt, (tt, tt)))))))
lacks_newline m false = ((tt, (tt, tt)), ((tt, (tt, tt)), (tt, (tt, tt))))

pub sound_newline : (wide : Bool) → IsSound (newline_re wide)
sound_newline true = ((tt, (tt, tt)), ((tt, (tt, tt)), (tt, (tt, (tt, (tt, (tt, tt)))))))
sound_newline false = ((tt, (tt, tt)), ((tt, (tt, tt)), (tt, (tt, tt))))

pub never_newline : (wide : Bool) → never_empty (newline_re wide) ≡ true
never_newline true = refl
never_newline false = refl

lacks_text_end : (m : ℕ) (crlf : Bool) → Lacks m (text_end_re crlf)
lacks_text_end m true = ((tt, (tt, (tt, tt))), (tt, (tt, tt)))
lacks_text_end m false = (tt, (tt, (tt, tt)))

pub sound_text_end : (crlf : Bool) → IsSound (text_end_re crlf)
sound_text_end true = (((λ e. refl), (tt, (tt, (tt, tt)))), (tt, (tt, tt)))
sound_text_end false = (((λ e. refl), tt), (tt, (tt, tt)))

lacks_served : (m : ℕ) (a : Assertion) (o : Option Test) → Lacks m (served a o)
lacks_served m a None = lacks_text_end m (ends_by_crlf a)
lacks_served m a (Some t) = tt

sound_served : (a : Assertion) (o : Option Test) → IsSound (served a o)
sound_served a None = sound_text_end (ends_by_crlf a)
sound_served a (Some t) = tt

weight_served : (a : Assertion) (o : Option Test) → IsServed o → weight (served a o) ≤ 1
unfolding weight
weight_served a None p = absurd p
weight_served a (Some t) p = omega arith

never_served : (a : Assertion) (o : Option Test) → never_empty (served a o) ≡ false
never_served a None = refl
never_served a (Some t) = refl

-- a look-around that is a test, or asks a part
lacks_looked : (m : ℕ) (how : LookAround) (o : Option Leaf) (asked : Re) → Lacks m asked → Lacks m (looked how o asked)
lacks_looked m how None asked h = h
lacks_looked m how (Some leaf) asked h = tt

pub sound_looked : (how : LookAround) (o : Option Leaf) (asked : Re) → IsSound asked → IsSound (looked how o asked)
sound_looked how None asked h = h
sound_looked how (Some leaf) asked h = tt

pub never_looked : (how : LookAround) (o : Option Leaf) (asked : Re) → never_empty asked ≡ false → never_empty (looked how o asked) ≡ false
never_looked how None asked h = h
never_looked how (Some leaf) asked h = refl

-- those of branches, joined
cats_lack : (m : ℕ) (xs : List Re) → AllOf (Lacks m) xs → Lacks m (re.cats xs)
cats_lack m [] h = tt
cats_lack m (x ∷ xs) h = (h.0, cats_lack m xs h.1)

alts_lack : (m : ℕ) (xs : List Re) → AllOf (Lacks m) xs → Lacks m (re.alts xs)
alts_lack m [] h = tt
alts_lack m (x ∷ []) h = h.0
alts_lack m (x ∷ y ∷ ys) h = (h.0, alts_lack m (y ∷ ys) h.1)

joined_lack : (m : ℕ) (negated : Bool) (xs : List Re) → AllOf (Lacks m) xs → Lacks m (joined negated xs)
joined_lack m true xs h = cats_lack m xs h
joined_lack m false xs h = alts_lack m xs h

cats_sound : (xs : List Re) → AllOf IsSound xs → IsSound (re.cats xs)
cats_sound [] h = tt
cats_sound (x ∷ xs) h = (h.0, cats_sound xs h.1)

alts_sound : (xs : List Re) → AllOf IsSound xs → IsSound (re.alts xs)
alts_sound [] h = tt
alts_sound (x ∷ []) h = h.0
alts_sound (x ∷ y ∷ ys) h = (h.0, alts_sound (y ∷ ys) h.1)

pub joined_sound : (negated : Bool) (xs : List Re) → AllOf IsSound xs → IsSound (joined negated xs)
joined_sound true xs h = cats_sound xs h
joined_sound false xs h = alts_sound xs h

abbrev pub IsStill : Re → Type 0
IsStill x = never_empty x ≡ false

cats_still : (xs : List Re) → AllOf IsStill xs → IsStill (re.cats xs)
cats_still [] h = refl
cats_still (x ∷ xs) h = rw (h.0, cats_still xs h.1) refl

alts_still : (xs : List Re) → AllOf IsStill xs → IsStill (re.alts xs)
alts_still [] h = refl
alts_still (x ∷ []) h = h.0
alts_still (x ∷ y ∷ ys) h = rw (h.0) refl

pub joined_still : (negated : Bool) (xs : List Re) → AllOf IsStill xs → IsStill (joined negated xs)
joined_still true xs h = cats_still xs h
joined_still false xs h = alts_still xs h

-- one of two
if_has : (P : Re → Type 0) (b : Bool) (x y : Re) → P x → P y → P (if b then x else y)
if_has P true x y h k = h
if_has P false x y h k = k

-- a tree of one character becomes a pattern with parts
one_char_regular : (resets : Bool) (called : ℕ → Type 0) (t : Tree) → IsOneChar t → IsRegular resets called t
one_char_regular resets called (any newline crlf) p = tt
one_char_regular resets called (literal val casei) p = tt
one_char_regular resets called (delegate class casei) p = tt
one_char_regular resets called _ p = absurd p

-- so does a look-around for one character
one_char_look : (resets : Bool) (called : ℕ → Type 0) (t : Tree) (how : LookAround) → IsOneChar t → IsRegular resets called (look_around t how)
one_char_look resets called t how p = one_char_regular false called t p

-- a tree of one character has a test
pub has_leaf : (unicode : Bool) (k : ℕ) (t : Tree) → IsOneChar t → char_leaf unicode k t ≡ None → ⊥
has_leaf unicode k (any newline crlf) p e = cc
has_leaf unicode k (literal val casei) p e = cc
has_leaf unicode k (delegate class casei) p e = cc
has_leaf unicode k _ p e = absurd p

-- a tree of one character has the class that it reads
pub one_char_classes : (t : Tree) → IsOneChar t → classes t ≡ char_classes t
unfolding classes
one_char_classes (any newline crlf) p = refl
one_char_classes (literal val casei) p = refl
one_char_classes (delegate class casei) p = refl
one_char_classes _ p = absurd p

-- a plain tree becomes a pattern with parts, whatever its calls are: it has none
module _ (called : ℕ → Type 0) (resets : Bool) where
  mutual
    pub plain_regular : (t : Tree) → IsPlain t → IsRegular resets called t
    plain_regular empty p = tt
    plain_regular (any newline crlf) p = tt
    plain_regular (literal val casei) p = tt
    plain_regular (delegate class casei) p = tt
    plain_regular (assertion a) p = tt
    plain_regular (concat ts) p = all_regular ts p
    plain_regular (alt ts) p = (p.0, all_regular ts p.1)
    plain_regular (group t) p = plain_regular t p
    plain_regular (look_around t how) p = one_char_look resets called t how p
    plain_regular (repeat t lo hi greedy) p = λ made. plain_regular t p
    plain_regular _ p = absurd p

    all_regular : (ts : Trees) → ArePlain ts → AreRegular resets called ts
    all_regular no_trees p = tt
    all_regular (more_trees t ts) p = (plain_regular t p.0, all_regular ts p.1)

-- a tree that is regular without `\K` is so where `\K` may be in it
module _ (called : ℕ → Type 0) (resets : Bool) where
  mutual
    pub regular_either : (t : Tree) → IsRegular false called t → IsRegular resets called t
    regular_either empty p = tt
    regular_either (any newline crlf) p = tt
    regular_either (literal val casei) p = tt
    regular_either (delegate class casei) p = tt
    regular_either (general_newline wide) p = tt
    regular_either (assertion a) p = tt
    regular_either (concat ts) p = all_either ts p
    regular_either (alt ts) p = (p.0, all_either ts p.1)
    regular_either (group t) p = regular_either t p
    regular_either (look_around t how) p = p
    regular_either (atomic_group t) p = regular_either t p
    regular_either (conditional c a b) p = (regular_either c p.0, (regular_either a p.1.0, regular_either b p.1.1))
    regular_either (define_group t) p = tt
    regular_either (verb v) p = p
    regular_either keep_out p = absurd (true≢false (sym p))
    regular_either continue p = tt
    regular_either (subroutine_call j) p = p
    regular_either (repeat t lo hi greedy) p = λ made. regular_either t (p made)
    regular_either _ p = absurd p

    pub all_either : (ts : Trees) → AreRegular false called ts → AreRegular resets called ts
    all_either no_trees p = tt
    all_either (more_trees t ts) p = (regular_either t p.0, all_either ts p.1)

pub regular_resets : (called : ℕ → Type 0) (t : Tree) → IsRegular false called t → IsRegular true called t
regular_resets called t p = regular_either called true t p

pub all_resets : (called : ℕ → Type 0) (ts : Trees) → AreRegular false called ts → AreRegular true called ts
all_resets called ts p = all_either called true ts p

-- a regular tree is one where its calls are so in another way
module _ (called other : ℕ → Type 0) (into : (j : ℕ) → called j → other j) where
  mutual
    pub regular_into : (resets : Bool) (t : Tree) → IsRegular resets called t → IsRegular resets other t
    regular_into resets empty p = tt
    regular_into resets (any newline crlf) p = tt
    regular_into resets (literal val casei) p = tt
    regular_into resets (delegate class casei) p = tt
    regular_into resets (general_newline wide) p = tt
    regular_into resets (assertion a) p = tt
    regular_into resets (concat ts) p = all_into resets ts p
    regular_into resets (alt ts) p = (p.0, all_into resets ts p.1)
    regular_into resets (group t) p = regular_into resets t p
    regular_into resets (look_around t how) p = regular_into false t p
    regular_into resets (atomic_group t) p = regular_into resets t p
    regular_into resets (conditional c a b) p = (regular_into resets c p.0, (regular_into resets a p.1.0, regular_into resets b p.1.1))
    regular_into resets (define_group t) p = tt
    regular_into resets (verb v) p = p
    regular_into resets keep_out p = p
    regular_into resets continue p = tt
    regular_into resets (subroutine_call j) p = into j p
    regular_into resets (repeat t lo hi greedy) p = λ made. regular_into resets t (p made)
    regular_into resets _ p = absurd p

    pub all_into : (resets : Bool) (ts : Trees) → AreRegular resets called ts → AreRegular resets other ts
    all_into resets no_trees p = tt
    all_into resets (more_trees t ts) p = (regular_into resets t p.0, all_into resets ts p.1)

-- a tree that is regular where its calls are so, and where they are so in another way, is where they are so in both
module _ (called other : ℕ → Type 0) where
  mutual
    pub regular_both : (resets : Bool) (t : Tree) → IsRegular resets called t → IsRegular resets other t → IsRegular resets (λ j. called j × other j) t
    regular_both resets empty p q = tt
    regular_both resets (any newline crlf) p q = tt
    regular_both resets (literal val casei) p q = tt
    regular_both resets (delegate class casei) p q = tt
    regular_both resets (general_newline wide) p q = tt
    regular_both resets (assertion a) p q = tt
    regular_both resets (concat ts) p q = all_both resets ts p q
    regular_both resets (alt ts) p q = (p.0, all_both resets ts p.1 q.1)
    regular_both resets (group t) p q = regular_both resets t p q
    regular_both resets (look_around t how) p q = regular_both false t p q
    regular_both resets (atomic_group t) p q = regular_both resets t p q
    regular_both resets (conditional c a b) p q =
        (regular_both resets c p.0 q.0, (regular_both resets a p.1.0 q.1.0, regular_both resets b p.1.1 q.1.1))
    regular_both resets (define_group t) p q = tt
    regular_both resets (verb v) p q = p
    regular_both resets keep_out p q = p
    regular_both resets continue p q = tt
    regular_both resets (subroutine_call j) p q = (p, q)
    regular_both resets (repeat t lo hi greedy) p q = λ made. regular_both resets t (p made) (q made)
    regular_both resets _ p q = absurd p

    all_both : (resets : Bool) (ts : Trees) → AreRegular resets called ts → AreRegular resets other ts → AreRegular resets (λ j. called j × other j) ts
    all_both resets no_trees p q = tt
    all_both resets (more_trees t ts) p q = (regular_both resets t p.0 q.0, all_both resets ts p.1 q.1)

-- a look-around for one character is a test
module _ (unicode : Bool) (groups : List Tree) (called : ℕ → Re) (n k : ℕ) (how : LookAround) (body : Re) where
  look_light : (t : Tree) → IsOneChar t → weight (around unicode groups called n k how body t) ≤ 1
  unfolding weight around
  look_light (any newline crlf) p = omega arith
  look_light (literal val casei) p = omega arith
  look_light (delegate class casei) p = omega arith
  look_light _ p = absurd p

  look_may : (t : Tree) → IsOneChar t → MayAskIn false (around unicode groups called n k how body t)
  unfolding around
  look_may (any newline crlf) p = tt
  look_may (literal val casei) p = tt
  look_may (delegate class casei) p = tt
  look_may _ p = absurd p

-- a tree of one character has no group
pub one_char_groups : (t : Tree) → IsOneChar t → group_count t ≡ 0
unfolding group_count
one_char_groups (any newline crlf) p = refl
one_char_groups (literal val casei) p = refl
one_char_groups (delegate class casei) p = refl
one_char_groups _ p = absurd p

-- a repeat that is left out
out_lacks : (m : ℕ) (b : Bool) (x : Re) → (b ≡ false → Lacks m x) → Lacks m (unless b x)
out_lacks m true x h = tt
out_lacks m false x h = h refl

out_may : (b : Bool) (x : Re) → MayAskIn false x → MayAskIn false (unless b x)
out_may true x h = tt
out_may false x h = h

out_sound : (b : Bool) (x : Re) → (b ≡ false → IsSound x) → IsSound (unless b x)
out_sound true x h = tt
out_sound false x h = h refl

out_light : (b : Bool) (x : Re) (n : ℕ) → weight x ≤ n → weight (unless b x) ≤ n
unfolding weight
out_light true x n h = omega arith
out_light false x n h = h

-- no group of the tree has this number, where the first one has that
module _ (m : ℕ) where
  abbrev mutual
    pub Misses : ℕ → Tree → Type 0
    Misses n (group t) = (m ≡ n → ⊥) × Misses (n + 1) t
    Misses n (concat ts) = MissesRow n ts
    Misses n (alt ts) = MissesRow n ts
    Misses n (look_around t how) = Misses n t
    Misses n (atomic_group t) = Misses n t
    Misses n (conditional c a b) = Misses n c × (Misses (n + group_count c) a × Misses (n + group_count c + group_count a) b)
    Misses n (repeat t lo hi greedy) = has_no_iteration lo hi ≡ false → Misses n t
    Misses n _ = Unit {0}

    pub MissesRow : ℕ → Trees → Type 0
    MissesRow n no_trees = Unit {0}
    MissesRow n (more_trees t ts) = Misses n t × MissesRow (n + group_count t) ts

  -- one before the first
  mutual
    pub below : (n : ℕ) (t : Tree) → m < n → Misses n t
    below n (group t) h = ((λ e. omega arith), below (n + 1) t (omega arith))
    below n (concat ts) h = row_below n ts h
    below n (alt ts) h = row_below n ts h
    below n (look_around t how) h = below n t h
    below n (atomic_group t) h = below n t h
    below n (conditional c a b) h = (below n c h, (below (n + group_count c) a (omega arith), below (n + group_count c + group_count a) b (omega arith)))
    below n (repeat t lo hi greedy) h = λ made. below n t h
    below n _ h = tt

    row_below : (n : ℕ) (ts : Trees) → m < n → MissesRow n ts
    row_below n no_trees h = tt
    row_below n (more_trees t ts) h = (below n t h, row_below (n + group_count t) ts (omega arith))

module _ (unicode : Bool) (groups : List Tree) (called : ℕ → Re) (m : ℕ) where
  -- what is called lacks the group
  abbrev pub CallLacks : ℕ → Type 0
  CallLacks j = Lacks m (called j)

  mutual
    unfolding re_of around each_around

    -- A group that is not in the tree and is not written by its calls is not in the pattern. `\K` writes group 0.
    pub lacks : (resets : Bool) → (resets ≡ true → 1 ≤ m) → (n k : ℕ) (t : Tree) → IsRegular resets CallLacks t → Misses m n t
        → Lacks m (re_of unicode groups called n k t)
    lacks resets low n k empty p h = tt
    lacks resets low n k (any newline crlf) p h = tt
    lacks resets low n k (literal val casei) p h = tt
    lacks resets low n k (delegate class casei) p h = tt
    lacks resets low n k (general_newline wide) p h = lacks_newline m wide
    lacks resets low n k (assertion a) p h = lacks_served m a (test_of a)
    lacks resets low n k (concat ts) p h = row_lacks resets low n k ts p h
    lacks resets low n k (alt ts) p h = branches_lack resets low n k ts p.1 h
    lacks resets low n k (look_around t how) p h =
        around_lacks n k how (re_of unicode groups called n k t) t p h (lacks false (λ e. absurd (true≢false (sym e))) n k t p h)
    lacks resets low n k (atomic_group t) p h = lacks resets low n k t p h
    lacks resets low n k (conditional c a b) p h =
        (lacks resets low n k c p.0 h.0, (lacks resets low _ _ a p.1.0 h.1.0, lacks resets low _ _ b p.1.1 h.1.1))
    lacks resets low n k (define_group t) p h = tt
    lacks resets low n k (verb v) p h = tt
    lacks resets low n k keep_out p h = ((λ e. let le = low p in omega (arith, e, le)), tt)
    lacks resets low n k continue p h = tt
    lacks resets low n k (subroutine_call j) p h = p
    lacks resets low n k (group t) p h = (h.0, lacks resets low (n + 1) k t p h.1)
    lacks resets low n k (repeat t lo hi greedy) p h = out_lacks m (has_no_iteration lo hi) _ (λ made. lacks resets low n k t (p made) (h made))
    lacks resets low n k _ p h = absurd p

    row_lacks : (resets : Bool) → (resets ≡ true → 1 ≤ m) → (n k : ℕ) (ts : Trees) → AreRegular resets CallLacks ts → MissesRow m n ts
        → Lacks m (row_of unicode groups called n k ts)
    row_lacks resets low n k no_trees p h = tt
    row_lacks resets low n k (more_trees t ts) p h = (lacks resets low n k t p.0 h.0, row_lacks resets low _ _ ts p.1 h.1)

    branches_lack : (resets : Bool) → (resets ≡ true → 1 ≤ m) → (n k : ℕ) (ts : Trees) → AreRegular resets CallLacks ts → MissesRow m n ts
        → Lacks m (branches_of unicode groups called n k ts)
    branches_lack resets low n k no_trees p h = tt
    branches_lack resets low n k (more_trees t no_trees) p h = lacks resets low n k t p.0 h.0
    branches_lack resets low n k (more_trees t (more_trees u us)) p h =
        (lacks resets low n k t p.0 h.0, branches_lack resets low _ _ (more_trees u us) p.1 h.1)

    around_lacks : (n k : ℕ) (how : LookAround) (body : Re) (t : Tree) → IsRegular false CallLacks t → Misses m n t → Lacks m body
        → Lacks m (around unicode groups called n k how body t)
    around_lacks n k how body (alt ts) p h b =
        if_has (Lacks m) (is_look_behind how && not (size groups (alt ts)).always) _ _
        (joined_lack m (is_negated_look how) (each_around unicode groups called n k how ts) (each_lack n k how ts p.1 h)) b
    around_lacks n k how body t p h b = lacks_looked m how (char_leaf unicode k t) (re.ask (is_negated_look how) (steps_back groups how t) body) b

    each_lack : (n k : ℕ) (how : LookAround) (ts : Trees) → AreRegular false CallLacks ts → MissesRow m n ts
        → AllOf (Lacks m) (each_around unicode groups called n k how ts)
    each_lack n k how no_trees p h = tt
    each_lack n k how (more_trees t ts) p h =
        (around_lacks n k how _ t p.0 h.0 (lacks false (λ e. absurd (true≢false (sym e))) n k t p.0 h.0), each_lack _ _ how ts p.1 h.1)

-- a look-around is never sure to move
module _ (unicode : Bool) (groups : List Tree) (called : ℕ → Re) where
  mutual
    unfolding around each_around

    pub around_still : (n k : ℕ) (how : LookAround) (body : Re) (t : Tree) → never_empty (around unicode groups called n k how body t) ≡ false
    around_still n k how body (alt ts) =
        if_has IsStill (is_look_behind how && not (size groups (alt ts)).always) _ _
        (joined_still (is_negated_look how) (each_around unicode groups called n k how ts) (each_still n k how ts)) refl
    around_still n k how body t = never_looked how (char_leaf unicode k t) (re.ask (is_negated_look how) (steps_back groups how t) body) refl

    pub each_still : (n k : ℕ) (how : LookAround) (ts : Trees) → AllOf IsStill (each_around unicode groups called n k how ts)
    each_still n k how no_trees = tt
    each_still n k how (more_trees t ts) = (around_still n k how _ t, each_still _ _ how ts)

-- when a sum, a least and a product that stop at a bound are zero
above_zero : (n : ℕ) → (suc n == 0) ≡ false
above_zero n = ne_eqb (suc n) 0 (omega arith)

sum_zero : (a b : ℕ) → (min unbounded (a + b) == 0) ≡ ((a == 0) && (b == 0))
sum_zero zero zero = refl
sum_zero zero (suc b) = ne_eqb _ 0 (omega arith) ∙ sym (above_zero b)
sum_zero (suc a) b = ne_eqb _ 0 (omega arith) ∙ sym (ap (λ x. x && (b == 0)) (above_zero a))

least_zero : (a b : ℕ) → (min a b == 0) ≡ ((a == 0) || (b == 0))
least_zero zero b = eq-eqb _ 0 (omega arith)
least_zero (suc a) zero = eq-eqb _ 0 (omega arith) ∙ sym (ap (λ x. x || true) (above_zero a))
least_zero (suc a) (suc b) = ne_eqb _ 0 (omega arith) ∙ sym (ap₂ ◌||◌ (above_zero a) (above_zero b))

product_zero : (a b : ℕ) → (min unbounded (a * b) == 0) ≡ ((a == 0) || (b == 0))
product_zero zero b = eq-eqb _ 0 (omega arith)
product_zero (suc a) zero = eq-eqb _ 0 (omega arith) ∙ sym (ap (λ x. x || true) (above_zero a))
product_zero (suc a) (suc b) = ne_eqb _ 0 (omega arith) ∙ sym (ap₂ ◌||◌ (above_zero a) (above_zero b))

not_or : (a b : Bool) → (not a && not b) ≡ not (a || b)
not_or true b = refl
not_or false b = refl

not_and : (a b : Bool) → (not a || not b) ≡ not (a && b)
not_and true b = refl
not_and false b = refl

zero_test : (n : ℕ) → (n == 0) ≡ not (nat_lt 0 n)
zero_test zero = refl
zero_test (suc n) = ne_eqb (suc n) 0 (omega arith) ∙ sym (ap not (lt-ltb 0 (suc n) (omega arith)))

-- a repeat may be empty exactly where its pattern may
repeat_empties : (lo hi least : ℕ) (greedy : Bool) (x : Re) → (b : Bool) → has_no_iteration lo hi ≡ b → (b ≡ false → (least == 0) ≡ not (never_empty x))
    → (min unbounded (lo * least) == 0) ≡ not (never_empty (unless b (re.repeat lo hi greedy (never_empty x) x)))
repeat_empties zero hi least greedy x true e h = eq-eqb _ 0 (omega arith)
repeat_empties (suc lo) hi least greedy x true e h = absurd (true≢false (sym e ∙ ap (λ b. b && (hi == 0)) (ne_eqb (suc lo) 0 (omega arith))))
repeat_empties lo hi least greedy x false e h = product_zero lo least ∙ ap₂ ◌||◌ (zero_test lo) (h refl) ∙ not_and (nat_lt 0 lo) (never_empty x)

module _ (unicode : Bool) (groups : List Tree) (called : ℕ → Re) (call : ℕ → Size) (known : ℕ → Type 0)
    (call_empties : (j : ℕ) → known j → ((call j).least == 0) ≡ not (never_empty (called j))) (resets : Bool) where
  mutual
    unfolding re_of size_with

    -- a tree may be empty exactly where its pattern may
    pub empties : (n k : ℕ) (t : Tree) → IsRegular resets known t → ((size_with call t).least == 0) ≡ not (never_empty (re_of unicode groups called n k t))
    empties n k empty p = refl
    empties n k (any newline crlf) p = refl
    empties n k (literal val casei) p = refl
    empties n k (delegate class casei) p = refl
    empties n k (general_newline wide) p = sym (ap not (never_newline wide))
    empties n k (assertion a) p = sym (ap not (never_served a (test_of a)))
    empties n k (concat ts) p = row_empties n k ts p
    empties n k (alt ts) p = branch_empties n k ts p.0 p.1
    empties n k (group t) p = empties (n + 1) k t p
    empties n k (look_around t how) p = sym (ap not (around_still unicode groups called n k how (re_of unicode groups called n k t) t))
    empties n k (atomic_group t) p = empties n k t p
    empties n k (conditional c a b) p =
        least_zero (min unbounded ((size_with call c).least + (size_with call a).least)) (size_with call b).least
        ∙ ap₂ ◌||◌
        (sum_zero (size_with call c).least (size_with call a).least ∙ ap₂ ◌&&◌ (empties n k c p.0) (empties _ _ a p.1.0) ∙ not_or _ _)
        (empties _ _ b p.1.1)
        ∙ not_and _ _
    empties n k (define_group t) p = refl
    empties n k (verb v) p = refl
    empties n k keep_out p = refl
    empties n k continue p = refl
    empties n k (subroutine_call j) p = call_empties j p
    empties n k (repeat t lo hi greedy) p =
        repeat_empties lo hi (size_with call t).least greedy (re_of unicode groups called n k t) (has_no_iteration lo hi) refl (λ made. empties n k t (p made))
    empties n k _ p = absurd p

    row_empties : (n k : ℕ) (ts : Trees) → AreRegular resets known ts → ((concat_size call ts).least == 0) ≡ not (never_empty (row_of unicode groups called n k ts))
    row_empties n k no_trees p = refl
    row_empties n k (more_trees t ts) p =
        sum_zero (size_with call t).least (concat_size call ts).least ∙ ap₂ ◌&&◌ (empties n k t p.0) (row_empties _ _ ts p.1) ∙ not_or _ _

    branch_empties : (n k : ℕ) (ts : Trees) → (ts ≢ no_trees) → AreRegular resets known ts → ((alternation_size call ts).least == 0) ≡ not (never_empty (branches_of unicode groups called n k ts))
    branch_empties n k no_trees some p = absurd (some refl)
    branch_empties n k (more_trees t no_trees) some p = empties n k t p.0
    branch_empties n k (more_trees t (more_trees u us)) some p =
        least_zero (size_with call t).least (alternation_size call (more_trees u us)).least
        ∙ ap₂ ◌||◌ (empties n k t p.0) (branch_empties _ _ (more_trees u us) (λ e. cc) p.1) ∙ not_and _ _

pub not_twice : (b : Bool) → not (not b) ≡ b
not_twice true = refl
not_twice false = refl

not_not : (b c : Bool) → b ≡ not c → not b ≡ true → c ≡ true
not_not true c e h = absurd (true≢false (sym h))
not_not false true e h = refl
not_not false false e h = absurd (true≢false (sym e))

-- no call is known
abbrev pub NoCall : ℕ → Type 0
NoCall j = ⊥

module _ (unicode : Bool) (groups : List Tree) (called : ℕ → Re) where
  empties_through : (resets : Bool) (all : List Tree) (m n k : ℕ) (t : Tree) → IsRegular resets NoCall t
      → ((size_through all m t).least == 0) ≡ not (never_empty (re_of unicode groups called n k t))
  unfolding size_through
  empties_through resets all zero n k t p = empties unicode groups called _ NoCall (λ j none. absurd none) resets n k t p
  empties_through resets all (suc m) n k t p = empties unicode groups called _ NoCall (λ j none. absurd none) resets n k t p

  -- a tree without calls is never empty where it may not be
  pub flag_is : (resets : Bool) (all : List Tree) (n k : ℕ) (t : Tree) → IsRegular resets NoCall t
      → not (may_be_empty all t) ≡ never_empty (re_of unicode groups called n k t)
  unfolding size
  flag_is resets all n k t p = ap not (empties_through resets all (length all) n k t p) ∙ not_twice _

  -- what is called is sound
  abbrev CallSound : ℕ → Type 0
  CallSound j = IsSound (called j)

  mutual
    unfolding re_of around each_around

    pub regular_sound : (resets : Bool) (n k : ℕ) (t : Tree) → IsRegular resets CallSound t → IsSound (re_of unicode groups called n k t)
    regular_sound resets n k empty p = tt
    regular_sound resets n k (any newline crlf) p = tt
    regular_sound resets n k (literal val casei) p = tt
    regular_sound resets n k (delegate class casei) p = tt
    regular_sound resets n k (general_newline wide) p = sound_newline wide
    regular_sound resets n k (assertion a) p = sound_served a (test_of a)
    regular_sound resets n k (concat ts) p = row_sound resets n k ts p
    regular_sound resets n k (alt ts) p = branches_sound resets n k ts p.1
    regular_sound resets n k (group t) p = regular_sound resets (n + 1) k t p
    regular_sound resets n k (look_around t how) p = around_sound n k how (re_of unicode groups called n k t) t p (regular_sound false n k t p)
    regular_sound resets n k (atomic_group t) p = regular_sound resets n k t p
    regular_sound resets n k (conditional c a b) p = (regular_sound resets n k c p.0, (regular_sound resets _ _ a p.1.0, regular_sound resets _ _ b p.1.1))
    regular_sound resets n k (define_group t) p = tt
    regular_sound resets n k (verb v) p = tt
    regular_sound resets n k keep_out p = tt
    regular_sound resets n k continue p = tt
    regular_sound resets n k (subroutine_call j) p = p
    regular_sound resets n k (repeat t lo hi greedy) p = out_sound (has_no_iteration lo hi) _ (λ made. (λ moves. moves, regular_sound resets n k t (p made)))
    regular_sound resets n k _ p = absurd p

    row_sound : (resets : Bool) (n k : ℕ) (ts : Trees) → AreRegular resets CallSound ts → IsSound (row_of unicode groups called n k ts)
    row_sound resets n k no_trees p = tt
    row_sound resets n k (more_trees t ts) p = (regular_sound resets n k t p.0, row_sound resets _ _ ts p.1)

    branches_sound : (resets : Bool) (n k : ℕ) (ts : Trees) → AreRegular resets CallSound ts → IsSound (branches_of unicode groups called n k ts)
    branches_sound resets n k no_trees p = tt
    branches_sound resets n k (more_trees t no_trees) p = regular_sound resets n k t p.0
    branches_sound resets n k (more_trees t (more_trees u us)) p = (regular_sound resets n k t p.0, branches_sound resets _ _ (more_trees u us) p.1)

    around_sound : (n k : ℕ) (how : LookAround) (body : Re) (t : Tree) → IsRegular false CallSound t → IsSound body → IsSound (around unicode groups called n k how body t)
    around_sound n k how body (alt ts) p b =
        if_has IsSound (is_look_behind how && not (size groups (alt ts)).always) _ _
        (joined_sound (is_negated_look how) (each_around unicode groups called n k how ts) (each_sound n k how ts p.1)) b
    around_sound n k how body t p b = sound_looked how (char_leaf unicode k t) (re.ask (is_negated_look how) (steps_back groups how t) body) b

    each_sound : (n k : ℕ) (how : LookAround) (ts : Trees) → AreRegular false CallSound ts → AllOf IsSound (each_around unicode groups called n k how ts)
    each_sound n k how no_trees p = tt
    each_sound n k how (more_trees t ts) p = (around_sound n k how _ t p.0 (regular_sound false n k t p.0), each_sound _ _ how ts p.1)

  pub sound : (n k : ℕ) (t : Tree) → IsPlain t → IsSound (re_of unicode groups called n k t)
  sound n k t p = regular_sound false n k t (plain_regular CallSound false t p)

  mutual
    unfolding re_of

    -- the pattern of a plain tree asks no parts
    pub plain_may : (n k : ℕ) (t : Tree) → IsPlain t → MayAskIn false (re_of unicode groups called n k t)
    plain_may n k empty p = tt
    plain_may n k (any newline crlf) p = tt
    plain_may n k (literal val casei) p = tt
    plain_may n k (delegate class casei) p = tt
    plain_may n k (assertion a) p = may_served a (test_of a) p
    plain_may n k (concat ts) p = row_may n k ts p
    plain_may n k (alt ts) p = branches_may n k ts p.1
    plain_may n k (group t) p = plain_may (n + 1) k t p
    plain_may n k (look_around t how) p = look_may unicode groups called n k how (re_of unicode groups called n k t) t p
    plain_may n k (repeat t lo hi greedy) p = out_may (has_no_iteration lo hi) _ (plain_may n k t p)
    plain_may n k _ p = absurd p

    row_may : (n k : ℕ) (ts : Trees) → ArePlain ts → MayAskIn false (row_of unicode groups called n k ts)
    row_may n k no_trees p = tt
    row_may n k (more_trees t ts) p = (plain_may n k t p.0, row_may _ _ ts p.1)

    branches_may : (n k : ℕ) (ts : Trees) → ArePlain ts → MayAskIn false (branches_of unicode groups called n k ts)
    branches_may n k no_trees p = tt
    branches_may n k (more_trees t no_trees) p = plain_may n k t p.0
    branches_may n k (more_trees t (more_trees u us)) p = (plain_may n k t p.0, branches_may _ _ (more_trees u us) p.1)

  module _ (all : List Tree) where
    -- a repeat of what is lighter is lighter
    lighter : (u b strict : Bool) (lo hi v w : ℕ) → not b ≡ strict → v ≤ w
        → repeat_weight u strict lo hi v ≤ sizes.repeat_weight all lo (cond u None (Some hi)) w b
    unfolding repeat_weight
    lighter true true strict lo hi v w e h = rw (sym e) (omega (arith, mul-le-mul_left (lo + 2) h))
    lighter true false strict lo hi v w e h = rw (sym e) (omega (arith, mul-le-mul_left (max lo 1) h))
    lighter false b strict lo hi v w e h =
        let more : v + 3 ≤ w + 3 = omega arith in
        omega (arith, mul-le-mul_left lo h, mul-le-mul_left (hi - lo) more)

    mutual
      unfolding re_of weight sizes.weight

      pub light : (n k : ℕ) (t : Tree) → IsPlain t → weight (re_of unicode groups called n k t) ≤ sizes.weight all t
      light n k empty p = omega arith
      light n k (any newline crlf) p = omega arith
      light n k (literal val casei) p = omega arith
      light n k (delegate class casei) p = omega arith
      light n k (assertion a) p = weight_served a (test_of a) p
      light n k (concat ts) p = omega (arith, row_light n k ts p)
      light n k (alt ts) p = branches_light n k ts p.0 p.1
      light n k (group t) p = omega (arith, light (n + 1) k t p)
      light n k (look_around t how) p = omega (arith, look_light unicode groups called n k how (re_of unicode groups called n k t) t p)
      light n k (repeat t lo hi greedy) p =
          out_light (has_no_iteration lo hi) _ _ (lighter (is_unbounded hi) (may_be_empty all t) (never_empty (re_of unicode groups called n k t)) lo hi _ _
          (flag_is false all n k t (plain_regular NoCall false t p)) (light n k t p))
      light n k _ p = absurd p

      row_light : (n k : ℕ) (ts : Trees) → ArePlain ts → weight (row_of unicode groups called n k ts) ≤ weights all ts
      row_light n k no_trees p = omega arith
      row_light n k (more_trees t ts) p = omega (arith, light n k t p.0, row_light (n + group_count t) (k + length (classes t)) ts p.1)

      branches_light : (n k : ℕ) (ts : Trees) → (ts ≢ no_trees) → ArePlain ts → weight (branches_of unicode groups called n k ts) ≤ weights all ts + 3 * branch_gaps all ts
      branches_light n k no_trees some p = absurd (some refl)
      branches_light n k (more_trees t no_trees) some p = omega (arith, light n k t p.0)
      branches_light n k (more_trees t (more_trees u us)) some p =
          omega (arith, light n k t p.0, branches_light (n + group_count t) (k + length (classes t)) (more_trees u us) (λ e. cc) p.1)
