-- Where no look-behind steps back over characters, no state does.
use Rattle.std.proofs.Common.{◌≡◌, ◌∙◌, ℕ, zero, suc, ◌+◌, ◌-◌, Bool, true, false, true≢false, not, List, [], ◌∷◌, ◌++◌, length, Option, Some, None, get_or, if◌then◌else◌, refl, sym, ap, subst, arith}
use Rattle.std.proofs.lemmas.Bool.{eqb-true}
use Rattle.std.specs.Prelude.{slice_set, ◌==◌}
use Rattle.fancy_regex_tree.specs.Tree.{Tree, Trees, Text, empty, any, assertion, general_newline, literal, concat, alt, group, look_around, repeat, delegate, atomic_group, conditional, verb, keep_out, continue, define_group, subroutine_call, no_trees, more_trees}
use Rattle.fancy_regex_tree.specs.declared.expr.Assertion.{Assertion}
use Rattle.fancy_regex_tree.specs.declared.expr.Assertion.TheVariants.{EndTextIgnoreTrailingNewlines}
use Rattle.fancy_regex_tree.specs.declared.expr.LookAround.{LookAround}
use Rattle.fancy_regex_tree.specs.declared.expr.LookAround.TheVariants as L
use Rattle.fancy_regex_meaning.specs.Groups.{Pattern, group_count}
use Rattle.fancy_regex_meaning.specs.Sizes.{target, size}
use Rattle.fancy_regex_states.specs.declared.state.State.{State}
use Rattle.fancy_regex_states.specs.declared.state.State.TheVariants.{Split, Enter, Leave, Match}
use Rattle.fancy_regex_states.specs.declared.state.State.TheVariants as S
use Rattle.fancy_regex_parts.specs.Tables.{steps_back, AreStill}
use Rattle.fancy_regex_linear.specs.Meaning.{is_unbounded}
use Rattle.fancy_regex_linear.specs.Re.{Re}
use Rattle.fancy_regex_linear.specs.Re as re
use Rattle.fancy_regex_linear.specs.Program.{loop_head, push, Emitter, BothEmitter, emitted_back, emitted_times, emitted_both_times, emitted_upto, emitted_both_upto, emitted_star, emitted_both_star, emitted_plus, emitted_both_plus, emitted_many, emitted_both_many, emitted_repeat, emitted_both_repeat, emitted_both_group, emitted_part, emitted_both_part, emitted_both_asking, emitted, emitted_both, emitted_choice}
use Rattle.fancy_regex_linear.specs.Plain.{IsRegular, AreRegular, test_of, newline_re, served, joined, has_no_iteration, unless, classes, re_of, row_of, branches_of, around, each_around}
use Rattle.fancy_regex_linear.specs.Calls.{greatest_nesting, IsOfBody, IsCalled}
use Rattle.fancy_regex_linear.proofs.ApartLemmas.{some_body}
use Rattle.fancy_regex_regular.specs.Weights.{steps_of, each_steps, stepping_weight, steps_in, each_steps_in, call_steps, written_steps}
use Rattle.fancy_regex_class.specs.declared.input.RunInput.{RunInput}
use Rattle.fancy_regex_regular.specs.Regulars.{IsRegularOf, lowest_asked, lowest_seen}
use Rattle.fancy_regex_regular.specs.declared.regular.Regular.{Regular}

-- none of these states steps back
abbrev AllStill : List State → Type 0
AllStill [] = Unit {0}
AllStill (s ∷ ss) = (steps_back s ≡ false) × AllStill ss

pushed : (states : List State) (s : State) → AllStill states → steps_back s ≡ false → AllStill (states ++ s ∷ [])
pushed [] s h still = (still, tt)
pushed (x ∷ xs) s h still = (h.0, pushed xs s h.1 still)

put : (states : List State) (k : ℕ) (s : State) → AllStill states → steps_back s ≡ false → AllStill (slice_set states k s)
put [] k s h still = tt
put (x ∷ xs) zero s h still = (still, h.1)
put (x ∷ xs) (suc k) s h still = (h.0, put xs k s h.1 still)

head : (greedy : Bool) (iteration exit : ℕ) → steps_back (loop_head greedy iteration exit) ≡ false
head true iteration exit = refl
head false iteration exit = refl

still_at : (states : List State) → AllStill states → (q : ℕ) → steps_back (get_or states q Match) ≡ false
still_at [] h q = refl
still_at (x ∷ xs) h zero = h.0
still_at (x ∷ xs) h (suc q) = still_at xs h.1 q

pub are_still : (states : List State) → AllStill states → AreStill states
are_still states h q low = still_at states h q

-- an emitter adds no state that steps back
abbrev pub Keeps : Emitter → Type 0
Keeps one = (states : List State) (next : ℕ) → AllStill states → AllStill (one states next).0

abbrev pub KeepsBoth : BothEmitter → Type 0
KeepsBoth both = (states : List State) (same moved : ℕ) → AllStill states → AllStill (both states same moved).0

times_keeps : (one : Emitter) → Keeps one → (n : ℕ) → Keeps (emitted_times one n)
unfolding emitted_times
times_keeps one h zero states next still = still
times_keeps one h (suc n) states next still =
    let rest = emitted_times one n states next in
    h rest.0 rest.1 (times_keeps one h n states next still)

times_keep_both : (both : BothEmitter) → KeepsBoth both → (n : ℕ) → KeepsBoth (emitted_both_times both n)
unfolding emitted_both_times
times_keep_both both h zero states same moved still = still
times_keep_both both h (suc n) states same moved still =
    let rest = emitted_both_times both n states same moved in
    h rest.0 rest.1 rest.2 (times_keep_both both h n states same moved still)

upto_keeps : (greedy : Bool) (one : Emitter) → Keeps one → (n : ℕ) → Keeps (emitted_upto greedy one n)
unfolding emitted_upto
upto_keeps greedy one h zero states next still = still
upto_keeps greedy one h (suc n) states next still =
    let rest = emitted_upto greedy one n states next in
    let body = one rest.0 rest.1 in
    pushed body.0 _ (h rest.0 rest.1 (upto_keeps greedy one h n states next still)) (head greedy body.1 next)

upto_keep_both : (greedy : Bool) (both : BothEmitter) → KeepsBoth both → (n : ℕ) → KeepsBoth (emitted_both_upto greedy both n)
unfolding emitted_both_upto
upto_keep_both greedy both h zero states same moved still = still
upto_keep_both greedy both h (suc n) states same moved still =
    let rest = emitted_both_upto greedy both n states same moved in
    let body = both rest.0 rest.1 rest.2 in
    let one = pushed body.0 _ (h rest.0 rest.1 rest.2 (upto_keep_both greedy both h n states same moved still)) (head greedy body.1 same) in
    pushed _ _ one (head greedy body.2 moved)

star_keeps : (greedy : Bool) (both : BothEmitter) → KeepsBoth both → Keeps (emitted_star greedy both)
unfolding emitted_star
star_keeps greedy both h states next still =
    let body = both (push states Match) next (length states) in
    put body.0 (length states) _ (h (push states Match) next (length states) (pushed states Match still refl)) (head greedy body.1 next)

star_keeps_both : (greedy : Bool) (both : BothEmitter) → KeepsBoth both → KeepsBoth (emitted_both_star greedy both)
unfolding emitted_both_star
star_keeps_both greedy both h states same moved still =
    let loop = emitted_star greedy both states moved in
    let first = both loop.0 same loop.1 in
    pushed first.0 _ (h loop.0 same loop.1 (star_keeps greedy both h states moved still)) (head greedy first.1 same)

plus_keeps : (greedy : Bool) (one : Emitter) → Keeps one → (states : List State) (next : ℕ) → AllStill states
    → AllStill (emitted_plus greedy one states next).0
unfolding emitted_plus
plus_keeps greedy one h states next still =
    let body = one (push states Match) (length states) in
    put body.0 (length states) _ (h (push states Match) (length states) (pushed states Match still refl)) (head greedy body.1 next)

plus_keeps_both : (greedy : Bool) (both : BothEmitter) → KeepsBoth both → (states : List State) (same moved : ℕ) → AllStill states
    → AllStill (emitted_both_plus greedy both states same moved).0
unfolding emitted_both_plus
plus_keeps_both greedy both h states same moved still =
    let body = both (push states Match) same (length states) in
    put body.0 (length states) _ (h (push states Match) same (length states) (pushed states Match still refl)) (head greedy body.2 moved)

many_keeps : (greedy : Bool) (one : Emitter) → Keeps one → (lo : ℕ) → Keeps (emitted_many lo greedy one)
unfolding emitted_many
many_keeps greedy one h zero states next still = plus_keeps greedy one h states next still
many_keeps greedy one h (suc n) states next still =
    let loop = emitted_plus greedy one states next in
    times_keeps one h n loop.0 loop.2 (plus_keeps greedy one h states next still)

many_keep_both : (greedy : Bool) (both : BothEmitter) → KeepsBoth both → (lo : ℕ) → KeepsBoth (emitted_both_many lo greedy both)
unfolding emitted_both_many
many_keep_both greedy both h zero states same moved still =
    let loop = emitted_both_plus greedy both states same moved in
    pushed loop.0 _ (plus_keeps_both greedy both h states same moved still) (head greedy loop.2 same)
many_keep_both greedy both h (suc n) states same moved still =
    let loop = emitted_both_plus greedy both states same moved in
    times_keep_both both h n loop.0 loop.2 loop.3 (plus_keeps_both greedy both h states same moved still)

repeat_keeps : (one : Emitter) (both : BothEmitter) → Keeps one → KeepsBoth both → (u strict : Bool) (lo hi : ℕ) (greedy : Bool)
    → Keeps (emitted_repeat u strict lo hi greedy one both)
unfolding emitted_repeat
repeat_keeps one both h hb true true lo hi greedy states next still = many_keeps greedy one h lo states next still
repeat_keeps one both h hb true false lo hi greedy states next still =
    let rest = emitted_star greedy both states next in
    times_keeps one h lo rest.0 rest.1 (star_keeps greedy both hb states next still)
repeat_keeps one both h hb false strict lo hi greedy states next still =
    let rest = emitted_upto greedy one (hi - lo) states next in
    times_keeps one h lo rest.0 rest.1 (upto_keeps greedy one h (hi - lo) states next still)

repeat_keeps_both : (both : BothEmitter) → KeepsBoth both → (u strict : Bool) (lo hi : ℕ) (greedy : Bool)
    → KeepsBoth (emitted_both_repeat u strict lo hi greedy both)
unfolding emitted_both_repeat
repeat_keeps_both both h true true lo hi greedy states same moved still = many_keep_both greedy both h lo states same moved still
repeat_keeps_both both h true false lo hi greedy states same moved still =
    let rest = emitted_both_star greedy both states same moved in
    times_keep_both both h lo rest.0 rest.1 rest.2 (star_keeps_both greedy both h states same moved still)
repeat_keeps_both both h false strict lo hi greedy states same moved still =
    let rest = emitted_both_upto greedy both (hi - lo) states same moved in
    times_keep_both both h lo rest.0 rest.1 rest.2 (upto_keep_both greedy both h (hi - lo) states same moved still)

group_keeps_both : (g : ℕ) (both : BothEmitter) → KeepsBoth both → KeepsBoth (emitted_both_group g both)
unfolding emitted_both_group
group_keeps_both g both h states same moved still =
    let one = push states (Leave g same) in
    let two = push one (Leave g moved) in
    let body = both two (length states) (length one) in
    let before = pushed one (Leave g moved) (pushed states (Leave g same) still refl) refl in
    pushed _ _ (pushed body.0 (Enter g body.1) (h two (length states) (length one) before) refl) refl

asking_keeps : (same moved : State) (states : List State) → AllStill states → steps_back same ≡ false → steps_back moved ≡ false
    → AllStill (emitted_both_asking same moved states).0
unfolding emitted_both_asking
asking_keeps same moved states still s m = pushed _ moved (pushed states same still s) m

choice_keeps : (first second : State) (states : List State) → AllStill states → steps_back first ≡ false → steps_back second ≡ false
    → AllStill (emitted_choice first second states).0
unfolding emitted_choice
choice_keeps first second states still f s =
    let one = push states first in
    pushed _ (Split (length states) (length one)) (pushed one second (pushed states first still f) s) refl

-- no step is made
back_keeps : (back : ℕ) (states : List State) (next : ℕ) → back ≡ 0 → AllStill states → AllStill (emitted_back back states next).0
unfolding emitted_back
back_keeps zero states next none still = still
back_keeps (suc n) states next none still = absurd (omega (arith, none))

-- no part of this pattern is asked from a place before
abbrev pub NoSteps : Re → Type 0
NoSteps re.nothing = Unit {0}
NoSteps (re.read leaf) = Unit {0}
NoSteps (re.test check) = Unit {0}
NoSteps (re.cat a b) = NoSteps a × NoSteps b
NoSteps (re.alt a b) = NoSteps a × NoSteps b
NoSteps (re.group g a) = NoSteps a
NoSteps (re.repeat lo hi greedy strict a) = NoSteps a
NoSteps (re.ask negated back a) = (back ≡ 0) × NoSteps a
NoSteps (re.atomic a) = NoSteps a
NoSteps (re.conditional c a b) = NoSteps c × (NoSteps a × NoSteps b)

both_keeps : (t : Re) → NoSteps t → KeepsBoth (emitted_both t)
unfolding emitted_both
both_keeps re.nothing none states same moved still = still
both_keeps (re.read leaf) none states same moved still = pushed states _ still refl
both_keeps (re.test check) none states same moved still = pushed _ _ (pushed states (S.Look check same) still refl) refl
both_keeps (re.cat a b) none states same moved still =
    let second = emitted_both b states same moved in
    both_keeps a none.0 second.0 second.1 second.2 (both_keeps b none.1 states same moved still)
both_keeps (re.alt a b) none states same moved still =
    let second = emitted_both b states same moved in
    let first = both_keeps a none.0 second.0 same moved (both_keeps b none.1 states same moved still) in
    pushed _ _ (pushed _ _ first refl) refl
both_keeps (re.group g a) none states same moved still = group_keeps_both g (emitted_both a) (both_keeps a none) states same moved still
both_keeps (re.repeat lo hi greedy strict a) none states same moved still =
    repeat_keeps_both (emitted_both a) (both_keeps a none) (is_unbounded hi) strict lo hi greedy states same moved still
both_keeps (re.ask negated back a) none states same moved still =
    let body = emitted_both_part (emitted_both a) states in
    let inside = both_keeps a none.1 (push states Match) (length states) (length states) (pushed states Match still refl) in
    asking_keeps _ _ _ (back_keeps back body.0 body.1 none.0 inside) refl refl
both_keeps (re.atomic a) none states same moved still =
    asking_keeps _ _ _ (both_keeps a none (push states Match) (length states) (length states) (pushed states Match still refl)) refl refl
both_keeps (re.conditional c a b) none states same moved still =
    let right = emitted_both b states same moved in
    let left = emitted_both a right.0 same moved in
    let inside = both_keeps a none.1.0 right.0 same moved (both_keeps b none.1.1 states same moved still) in
    let part = both_keeps c none.0 (push left.0 Match) (length left.0) (length left.0) (pushed left.0 Match inside refl) in
    choice_keeps _ _ _ (choice_keeps _ _ _ part refl refl) refl refl

keeps : (t : Re) → NoSteps t → Keeps (emitted t)
unfolding emitted
keeps re.nothing none states next still = still
keeps (re.read leaf) none states next still = pushed states _ still refl
keeps (re.test check) none states next still = pushed states _ still refl
keeps (re.cat a b) none states next still =
    let second = emitted b states next in
    keeps a none.0 second.0 second.1 (keeps b none.1 states next still)
keeps (re.alt a b) none states next still =
    let second = emitted b states next in
    pushed _ _ (keeps a none.0 second.0 next (keeps b none.1 states next still)) refl
keeps (re.group g a) none states next still =
    pushed _ _ (keeps a none (push states (Leave g next)) (length states) (pushed states (Leave g next) still refl)) refl
keeps (re.repeat lo hi greedy strict a) none states next still =
    repeat_keeps (emitted a) (emitted_both a) (keeps a none) (both_keeps a none) (is_unbounded hi) strict lo hi greedy states next still
keeps (re.ask negated back a) none states next still =
    let body = emitted_part (emitted a) states in
    let inside = keeps a none.1 (push states Match) (length states) (pushed states Match still refl) in
    pushed _ _ (back_keeps back body.0 body.1 none.0 inside) refl
keeps (re.atomic a) none states next still =
    pushed _ _ (keeps a none (push states Match) (length states) (pushed states Match still refl)) refl
keeps (re.conditional c a b) none states next still =
    let right = emitted b states next in
    let left = emitted a right.0 next in
    let inside = keeps a none.1.0 right.0 next (keeps b none.1.1 states next still) in
    choice_keeps _ _ _ (keeps c none.0 (push left.0 Match) (length left.0) (pushed left.0 Match inside refl)) refl refl

-- the states of such a pattern
pub emitted_still : (t : Re) → NoSteps t → (states : List State) (entry : ℕ) → emitted t (Match ∷ []) 0 ≡ (states, entry) → AreStill states
emitted_still t none states entry program =
    are_still states (subst (λ (made : List State × ℕ). AllStill made.0) program (keeps t none (Match ∷ []) 0 (refl, tt)))

-- a tree in which no look-behind steps back becomes such a pattern
served_none : (a : Assertion) → NoSteps (served a (test_of a))
served_none (EndTextIgnoreTrailingNewlines true) = (refl, (((tt, (tt, (tt, tt)))), (tt, (tt, tt))))
served_none (EndTextIgnoreTrailingNewlines false) = (refl, (tt, (tt, (tt, tt))))
served_none _ = tt

newline_none : (wide : Bool) → NoSteps (newline_re wide)
newline_none true = ((tt, (tt, tt)), ((tt, (tt, tt)), (tt, (tt, (tt, (tt, (tt, tt)))))))
newline_none false = ((tt, (tt, tt)), ((tt, (tt, tt)), (tt, (tt, tt))))

unless_none : (b : Bool) (x : Re) → (b ≡ false → NoSteps x) → NoSteps (unless b x)
unless_none true x h = tt
unless_none false x h = h refl

joined_none : (always negated : Bool) (xs : List Re) (back each : ℕ) (body : Re) → (if always then back else each) ≡ 0 → NoSteps body
    → (each ≡ 0 → NoSteps (re.cats xs)) → (each ≡ 0 → NoSteps (re.alts xs)) → NoSteps (if not always then joined negated xs else re.ask negated back body)
joined_none true negated xs back each body none h all one = (none, h)
joined_none false true xs back each body none h all one = all none
joined_none false false xs back each body none h all one = one none

module _ (unicode : Bool) (groups : List Tree) (called : ℕ → Re) (call : ℕ → ℕ) (known : ℕ → Type 0)
    (call_still : (j : ℕ) → known j → call j ≡ 0 → NoSteps (called j)) where
  mutual
    unfolding re_of around each_around steps_of each_steps steps_in each_steps_in

    pub still_tree : (resets : Bool) (n k : ℕ) (t : Tree) → IsRegular resets known t → steps_in groups call t ≡ 0 → NoSteps (re_of unicode groups called n k t)
    still_tree resets n k empty p none = tt
    still_tree resets n k (any newline crlf) p none = tt
    still_tree resets n k (literal val casei) p none = tt
    still_tree resets n k (delegate class casei) p none = tt
    still_tree resets n k (general_newline wide) p none = newline_none wide
    still_tree resets n k (assertion a) p none = served_none a
    still_tree resets n k (concat ts) p none = still_row resets n k ts p none
    still_tree resets n k (alt ts) p none = still_branches resets n k ts p.1 none
    still_tree resets n k (group t) p none = still_tree resets (n + 1) k t p none
    still_tree resets n k (look_around t how) p none =
        still_around n k how t p (still_tree false n k t p (omega (arith, none))) (omega (arith, none)) (omega (arith, none))
    still_tree resets n k (atomic_group t) p none = still_tree resets n k t p none
    still_tree resets n k (repeat t lo hi greedy) p none = unless_none (has_no_iteration lo hi) _ (λ made. still_tree resets n k t (p made) none)
    still_tree resets n k (conditional c a b) p none = (
      still_tree resets n k c p.0 (omega (arith, none)),
      (
        still_tree resets (n + group_count c) (k + length (classes c)) a p.1.0 (omega (arith, none)),
        still_tree resets (n + group_count c + group_count a) (k + length (classes c) + length (classes a)) b p.1.1 (omega (arith, none)),
      ),
    )
    still_tree resets n k (define_group t) p none = tt
    still_tree resets n k (subroutine_call j) p none = call_still j p none
    still_tree resets n k (verb v) p none = tt
    still_tree resets n k keep_out p none = tt
    still_tree resets n k continue p none = tt
    still_tree resets n k _ p none = absurd p

    still_row : (resets : Bool) (n k : ℕ) (ts : Trees) → AreRegular resets known ts → each_steps_in groups call ts ≡ 0 → NoSteps (row_of unicode groups called n k ts)
    still_row resets n k no_trees p none = tt
    still_row resets n k (more_trees t ts) p none =
        (still_tree resets n k t p.0 (omega (arith, none)), still_row resets (n + group_count t) (k + length (classes t)) ts p.1 (omega (arith, none)))

    still_branches : (resets : Bool) (n k : ℕ) (ts : Trees) → AreRegular resets known ts → each_steps_in groups call ts ≡ 0 → NoSteps (branches_of unicode groups called n k ts)
    still_branches resets n k no_trees p none = tt
    still_branches resets n k (more_trees t no_trees) p none = still_tree resets n k t p.0 (omega (arith, none))
    still_branches resets n k (more_trees t (more_trees u us)) p none =
        (still_tree resets n k t p.0 (omega (arith, none)), still_branches resets (n + group_count t) (k + length (classes t)) (more_trees u us) p.1 (omega (arith, none)))

    still_around : (n k : ℕ) (how : LookAround) (t : Tree) → IsRegular false known t → NoSteps (re_of unicode groups called n k t) → steps_in groups call t ≡ 0
        → stepping_weight groups how t ≡ 0 → NoSteps (around unicode groups called n k how (re_of unicode groups called n k t) t)
    still_around n k L.LookAhead (alt ts) p body inside none = (refl, body)
    still_around n k L.LookAheadNeg (alt ts) p body inside none = (refl, body)
    still_around n k L.LookBehind (alt ts) p body inside none =
        joined_none (size groups (alt ts)).always false (each_around unicode groups called n k L.LookBehind ts) (size groups (alt ts)).least (each_steps groups ts)
        (re_of unicode groups called n k (alt ts)) none body
        (λ each. each_still_all n k L.LookBehind (λ t. refl) ts p.1 inside each) (λ each. each_still_one n k L.LookBehind (λ t. refl) ts p.1 inside each)
    still_around n k L.LookBehindNeg (alt ts) p body inside none =
        joined_none (size groups (alt ts)).always true (each_around unicode groups called n k L.LookBehindNeg ts) (size groups (alt ts)).least (each_steps groups ts)
        (re_of unicode groups called n k (alt ts)) none body
        (λ each. each_still_all n k L.LookBehindNeg (λ t. refl) ts p.1 inside each) (λ each. each_still_one n k L.LookBehindNeg (λ t. refl) ts p.1 inside each)
    still_around n k L.LookAhead empty p body inside none = (refl, body)
    still_around n k L.LookAheadNeg empty p body inside none = (refl, body)
    still_around n k L.LookBehind empty p body inside none = (none, body)
    still_around n k L.LookBehindNeg empty p body inside none = (none, body)
    still_around n k how (any newline crlf) p body inside none = tt
    still_around n k how (literal val casei) p body inside none = tt
    still_around n k how (delegate class casei) p body inside none = tt
    still_around n k L.LookAhead (general_newline wide) p body inside none = (refl, body)
    still_around n k L.LookAheadNeg (general_newline wide) p body inside none = (refl, body)
    still_around n k L.LookBehind (general_newline wide) p body inside none = (none, body)
    still_around n k L.LookBehindNeg (general_newline wide) p body inside none = (none, body)
    still_around n k L.LookAhead (assertion a) p body inside none = (refl, body)
    still_around n k L.LookAheadNeg (assertion a) p body inside none = (refl, body)
    still_around n k L.LookBehind (assertion a) p body inside none = (none, body)
    still_around n k L.LookBehindNeg (assertion a) p body inside none = (none, body)
    still_around n k L.LookAhead (concat ts) p body inside none = (refl, body)
    still_around n k L.LookAheadNeg (concat ts) p body inside none = (refl, body)
    still_around n k L.LookBehind (concat ts) p body inside none = (none, body)
    still_around n k L.LookBehindNeg (concat ts) p body inside none = (none, body)
    still_around n k L.LookAhead (group t) p body inside none = (refl, body)
    still_around n k L.LookAheadNeg (group t) p body inside none = (refl, body)
    still_around n k L.LookBehind (group t) p body inside none = (none, body)
    still_around n k L.LookBehindNeg (group t) p body inside none = (none, body)
    still_around n k L.LookAhead (look_around t inner) p body inside none = (refl, body)
    still_around n k L.LookAheadNeg (look_around t inner) p body inside none = (refl, body)
    still_around n k L.LookBehind (look_around t inner) p body inside none = (none, body)
    still_around n k L.LookBehindNeg (look_around t inner) p body inside none = (none, body)
    still_around n k L.LookAhead (atomic_group t) p body inside none = (refl, body)
    still_around n k L.LookAheadNeg (atomic_group t) p body inside none = (refl, body)
    still_around n k L.LookBehind (atomic_group t) p body inside none = (none, body)
    still_around n k L.LookBehindNeg (atomic_group t) p body inside none = (none, body)
    still_around n k L.LookAhead (conditional c a b) p body inside none = (refl, body)
    still_around n k L.LookAheadNeg (conditional c a b) p body inside none = (refl, body)
    still_around n k L.LookBehind (conditional c a b) p body inside none = (none, body)
    still_around n k L.LookBehindNeg (conditional c a b) p body inside none = (none, body)
    still_around n k L.LookAhead (subroutine_call j) p body inside none = (refl, body)
    still_around n k L.LookAheadNeg (subroutine_call j) p body inside none = (refl, body)
    still_around n k L.LookBehind (subroutine_call j) p body inside none = (none, body)
    still_around n k L.LookBehindNeg (subroutine_call j) p body inside none = (none, body)
    still_around n k L.LookAhead (define_group t) p body inside none = (refl, body)
    still_around n k L.LookAheadNeg (define_group t) p body inside none = (refl, body)
    still_around n k L.LookBehind (define_group t) p body inside none = (none, body)
    still_around n k L.LookBehindNeg (define_group t) p body inside none = (none, body)
    still_around n k L.LookAhead (verb v) p body inside none = (refl, body)
    still_around n k L.LookAheadNeg (verb v) p body inside none = (refl, body)
    still_around n k L.LookBehind (verb v) p body inside none = (none, body)
    still_around n k L.LookBehindNeg (verb v) p body inside none = (none, body)
    still_around n k L.LookAhead continue p body inside none = (refl, body)
    still_around n k L.LookAheadNeg continue p body inside none = (refl, body)
    still_around n k L.LookBehind continue p body inside none = (none, body)
    still_around n k L.LookBehindNeg continue p body inside none = (none, body)
    still_around n k L.LookAhead (repeat t lo hi greedy) p body inside none = (refl, body)
    still_around n k L.LookAheadNeg (repeat t lo hi greedy) p body inside none = (refl, body)
    still_around n k L.LookBehind (repeat t lo hi greedy) p body inside none = (none, body)
    still_around n k L.LookBehindNeg (repeat t lo hi greedy) p body inside none = (none, body)
    still_around n k how keep_out p body inside none = absurd (true≢false (sym p))
    still_around n k how _ p body inside none = absurd p

    each_still_all : (n k : ℕ) (how : LookAround) → ((t : Tree) → stepping_weight groups how t ≡ steps_of groups t) → (ts : Trees) → AreRegular false known ts
        → each_steps_in groups call ts ≡ 0 → each_steps groups ts ≡ 0 → NoSteps (re.cats (each_around unicode groups called n k how ts))
    each_still_all n k how is no_trees p inside none = tt
    each_still_all n k how is (more_trees t ts) p inside none = (
      still_around n k how t p.0 (still_tree false n k t p.0 (omega (arith, inside))) (omega (arith, inside)) (omega (arith, none, is t)),
      each_still_all (n + group_count t) (k + length (classes t)) how is ts p.1 (omega (arith, inside)) (omega (arith, none)),
    )

    each_still_one : (n k : ℕ) (how : LookAround) → ((t : Tree) → stepping_weight groups how t ≡ steps_of groups t) → (ts : Trees) → AreRegular false known ts
        → each_steps_in groups call ts ≡ 0 → each_steps groups ts ≡ 0 → NoSteps (re.alts (each_around unicode groups called n k how ts))
    each_still_one n k how is no_trees p inside none = tt
    each_still_one n k how is (more_trees t no_trees) p inside none =
        still_around n k how t p.0 (still_tree false n k t p.0 (omega (arith, inside))) (omega (arith, inside)) (omega (arith, none, is t))
    each_still_one n k how is (more_trees t (more_trees u us)) p inside none = (
      still_around n k how t p.0 (still_tree false n k t p.0 (omega (arith, inside))) (omega (arith, inside)) (omega (arith, none, is t)),
      each_still_one (n + group_count t) (k + length (classes t)) how is (more_trees u us) p.1 (omega (arith, inside)) (omega (arith, none)),
    )

-- nor do the look-behinds in calls that are written out
module _ (unicode : Bool) (groups : List Tree) (cs : List (Text × Bool)) where
  body_steps : (depth j : ℕ) (body : Tree) → target groups j ≡ Some body
      → call_steps groups (suc depth) j ≡ steps_in groups (call_steps groups depth) body
  unfolding call_steps
  body_steps depth j body is =
      ap (λ (o : Option Tree). elim o [ None ↦ 0 | Some inner ↦ steps_in groups (call_steps groups depth) inner ]) is

  call_still : (depth j : ℕ) (x : Re) → IsCalled groups unicode cs depth j x → call_steps groups depth j ≡ 0 → NoSteps x
  unfolding IsCalled
  call_still zero j x is none = absurd is
  call_still (suc depth) j x is none =
      let found = some_body (IsOfBody groups unicode cs (IsCalled groups unicode cs depth) j x) (target groups j) is in
      let called = found.2.0 in
      subst NoSteps (sym found.2.3)
      (still_tree unicode groups called (call_steps groups depth) (λ i. IsCalled groups unicode cs depth i (called i))
      (λ i known still. call_still depth i (called i) known still) false (j + 1) found.2.1 found.0 found.2.2
      (sym (body_steps depth j found.0 found.1) ∙ none))

  whole_still : (depth : ℕ) (called : ℕ → Re) (resets : Bool) (n k : ℕ) (t : Tree) → IsRegular resets (λ j. IsCalled groups unicode cs depth j (called j)) t
      → steps_in groups (call_steps groups depth) t ≡ 0 → NoSteps (re_of unicode groups called n k t)
  whole_still depth called resets n k t p none =
      still_tree unicode groups called (call_steps groups depth) (λ j. IsCalled groups unicode cs depth j (called j))
      (λ j is still. call_still depth j (called j) is still) resets n k t p none

-- where no look-behind steps back, a search asks about nothing before its first start
module _ (regular : Regular) (input : RunInput) (pattern : Pattern) (is : IsRegularOf regular pattern) where
  still_asked : written_steps pattern.groups pattern.tree ≡ 0 → lowest_asked regular input ≡ input.first
  still_asked none =
      let tree =
      whole_still regular.unicode pattern.groups is.states.all_classes (greatest_nesting (length pattern.groups)) is.states.called regular.resets_start pattern.first_group is.states.base
      pattern.tree is.states.regular none in
      let still = emitted_still (re_of regular.unicode pattern.groups is.states.called pattern.first_group is.states.base pattern.tree) tree regular.table.states.items regular.entry
      is.states.program in
      omega (arith, regular.right.still still regular.entry)

  by_steps : (b : Bool) → (b ≡ true → lowest_asked regular input ≡ input.first)
      → (if b then input.first else lowest_asked regular input) ≡ lowest_asked regular input
  by_steps true same = sym (same refl)
  by_steps false same = refl

  pub seen_is_asked : lowest_seen regular input pattern ≡ lowest_asked regular input
  seen_is_asked =
      by_steps (written_steps pattern.groups pattern.tree == 0) (λ none. still_asked (eqb-true (written_steps pattern.groups pattern.tree) 0 none))
