-- The states that a tree becomes.
use Rattle.std.specs.Prelude.{◌≡◌, ℕ, zero, suc, ◌-◌, true, false, ◌&&◌, ◌||◌, max, nat_lt, ◌+◌, ◌*◌, ◌<◌, ◌⊎◌, Bool, List, [], ◌∷◌, ◌++◌, length, slice_set, if◌then◌else◌}
use Rattle.fancy_regex_states.specs.First.{state_at}
use Rattle.fancy_regex_states.specs.Attempts.{Continuation, View, Agrees}
use Rattle.fancy_regex_linear.specs.Meaning.{is_unbounded}
use Rattle.fancy_regex_linear.specs.Re.{Re, nothing, read, test, cat, alt, group, repeat, ask, atomic, conditional}
use Rattle.fancy_regex_states.specs.declared.state.State.{State}
use Rattle.fancy_regex_states.specs.declared.state.State.TheVariants.{Split, Enter, Leave, Ask, Atomic, Match}
use Rattle.fancy_regex_states.specs.declared.state.State.TheVariants as S

-- the loop at its head: another iteration, or out
abbrev pub loop_head : Bool → ℕ → ℕ → State
loop_head greedy iteration exit = if greedy then Split iteration exit else Split exit iteration

abbrev pub push : List State → State → List State
push states state = states ++ state ∷ []

-- each way of the pattern moves
abbrev pub never_empty : Re → Bool
never_empty nothing = false
never_empty (read leaf) = true
never_empty (test check) = false
never_empty (cat a b) = never_empty a || never_empty b
never_empty (alt a b) = never_empty a && never_empty b
never_empty (group g a) = never_empty a
never_empty (repeat lo hi greedy strict a) = nat_lt 0 lo && never_empty a
never_empty (ask negated back a) = false
never_empty (atomic a) = never_empty a
never_empty (conditional c a b) = (never_empty c || never_empty a) && never_empty b

-- a repeat that says of its body that each way moves is right
abbrev pub IsSound : Re → Type 0
IsSound nothing = Unit {0}
IsSound (read leaf) = Unit {0}
IsSound (test check) = Unit {0}
IsSound (cat a b) = IsSound a × IsSound b
IsSound (alt a b) = IsSound a × IsSound b
IsSound (group g a) = IsSound a
IsSound (repeat lo hi greedy strict a) = (strict ≡ true → never_empty a ≡ true) × IsSound a
IsSound (ask negated back a) = IsSound a
IsSound (atomic a) = IsSound a
IsSound (conditional c a b) = IsSound c × (IsSound a × IsSound b)

-- the pattern asks parts only where it may
abbrev pub MayAskIn : Bool → Re → Type 0
MayAskIn has_parts nothing = Unit {0}
MayAskIn has_parts (read leaf) = Unit {0}
MayAskIn has_parts (test check) = Unit {0}
MayAskIn has_parts (cat a b) = MayAskIn has_parts a × MayAskIn has_parts b
MayAskIn has_parts (alt a b) = MayAskIn has_parts a × MayAskIn has_parts b
MayAskIn has_parts (group g a) = MayAskIn has_parts a
MayAskIn has_parts (repeat lo hi greedy strict a) = MayAskIn has_parts a
MayAskIn has_parts (ask negated back a) = (has_parts ≡ true) × MayAskIn has_parts a
MayAskIn has_parts (atomic a) = (has_parts ≡ true) × MayAskIn has_parts a
MayAskIn has_parts (conditional c a b) =
    (has_parts ≡ true) × (MayAskIn has_parts c × (MayAskIn has_parts a × MayAskIn has_parts b))

-- how one node is emitted that continues at one state, or at two
abbrev pub Emitter : Type 0
Emitter = List State → ℕ → List State × ℕ

abbrev pub BothEmitter : Type 0
BothEmitter = List State → ℕ → ℕ → List State × ℕ × ℕ

-- n copies in a row
unfoldable pub emitted_times : Emitter → ℕ → List State → ℕ → List State × ℕ
emitted_times one zero states next = (states, next)
emitted_times one (suc n) states next =
    let rest = emitted_times one n states next in
    one rest.0 rest.1

unfoldable pub emitted_both_times : BothEmitter → ℕ → List State → ℕ → ℕ → List State × ℕ × ℕ
emitted_both_times both zero states same moved = (states, same, moved)
emitted_both_times both (suc n) states same moved =
    let rest = emitted_both_times both n states same moved in
    both rest.0 rest.1 rest.2

-- at most n copies, each of which may be left out with those after it
unfoldable pub emitted_upto : Bool → Emitter → ℕ → List State → ℕ → List State × ℕ
emitted_upto greedy one zero states next = (states, next)
emitted_upto greedy one (suc n) states next =
    let rest = emitted_upto greedy one n states next in
    let body = one rest.0 rest.1 in
    (push body.0 (loop_head greedy body.1 next), length body.0)

unfoldable pub emitted_both_upto : Bool → BothEmitter → ℕ → List State → ℕ → ℕ → List State × ℕ × ℕ
emitted_both_upto greedy both zero states same moved = (states, same, moved)
emitted_both_upto greedy both (suc n) states same moved =
    let rest = emitted_both_upto greedy both n states same moved in
    let body = both rest.0 rest.1 rest.2 in
    let head = push body.0 (loop_head greedy body.1 same) in
    (push head (loop_head greedy body.2 moved), length body.0, length head)

-- a loop over what may be empty: in one copy of the body nothing was moved yet in this iteration, in the other something was
unfoldable pub emitted_star : Bool → BothEmitter → List State → ℕ → List State × ℕ
emitted_star greedy both states next =
    let body = both (push states Match) next (length states) in
    (slice_set body.0 (length states) (loop_head greedy body.1 next), length states)

unfoldable pub emitted_both_star : Bool → BothEmitter → List State → ℕ → ℕ → List State × ℕ × ℕ
emitted_both_star greedy both states same moved =
    let loop = emitted_star greedy both states moved in
    let first = both loop.0 same loop.1 in
    (push first.0 (loop_head greedy first.1 same), length first.0, loop.1)

-- a loop over what is never empty; the numbers are its head, and the body's entry
unfoldable pub emitted_plus : Bool → Emitter → List State → ℕ → List State × ℕ × ℕ
emitted_plus greedy one states next =
    let body = one (push states Match) (length states) in
    (slice_set body.0 (length states) (loop_head greedy body.1 next), length states, body.1)

-- the numbers are the head, and the body's entries
unfoldable pub emitted_both_plus : Bool → BothEmitter → List State → ℕ → ℕ → List State × ℕ × ℕ × ℕ
emitted_both_plus greedy both states same moved =
    let body = both (push states Match) same (length states) in
    (slice_set body.0 (length states) (loop_head greedy body.2 moved), length states, body.1, body.2)

-- an unbounded repeat of what is never empty, by its least count
unfoldable pub emitted_many : ℕ → Bool → Emitter → List State → ℕ → List State × ℕ
emitted_many zero greedy one states next =
    let loop = emitted_plus greedy one states next in
    (loop.0, loop.1)
emitted_many (suc n) greedy one states next =
    let loop = emitted_plus greedy one states next in
    emitted_times one n loop.0 loop.2

unfoldable pub emitted_both_many : ℕ → Bool → BothEmitter → List State → ℕ → ℕ → List State × ℕ × ℕ
emitted_both_many zero greedy both states same moved =
    let loop = emitted_both_plus greedy both states same moved in
    (push loop.0 (loop_head greedy loop.2 same), length loop.0, loop.1)
emitted_both_many (suc n) greedy both states same moved =
    let loop = emitted_both_plus greedy both states same moved in
    emitted_both_times both n loop.0 loop.2 loop.3

unfoldable pub emitted_repeat : Bool → Bool → ℕ → ℕ → Bool → Emitter → BothEmitter → List State → ℕ → List State × ℕ
emitted_repeat true true lo hi greedy one both states next = emitted_many lo greedy one states next
emitted_repeat true false lo hi greedy one both states next =
    let rest = emitted_star greedy both states next in
    emitted_times one lo rest.0 rest.1
emitted_repeat false strict lo hi greedy one both states next =
    let rest = emitted_upto greedy one (hi - lo) states next in
    emitted_times one lo rest.0 rest.1

unfoldable pub emitted_both_repeat : Bool → Bool → ℕ → ℕ → Bool → BothEmitter → List State → ℕ → ℕ → List State × ℕ × ℕ
emitted_both_repeat true true lo hi greedy both states same moved = emitted_both_many lo greedy both states same moved
emitted_both_repeat true false lo hi greedy both states same moved =
    let rest = emitted_both_star greedy both states same moved in
    emitted_both_times both lo rest.0 rest.1 rest.2
emitted_both_repeat false strict lo hi greedy both states same moved =
    let rest = emitted_both_upto greedy both (hi - lo) states same moved in
    emitted_both_times both lo rest.0 rest.1 rest.2

-- a capture group
unfoldable pub emitted_both_group : ℕ → BothEmitter → List State → ℕ → ℕ → List State × ℕ × ℕ
emitted_both_group g both states same moved =
    let one = push states (Leave g same) in
    let two = push one (Leave g moved) in
    let body = both two (length states) (length one) in
    let three = push body.0 (Enter g body.1) in
    (push three (Enter g body.2), length body.0, length three)

-- a part: a final state, and then the states of its body, which goes on there
abbrev pub emitted_part : Emitter → List State → List State × ℕ
emitted_part one states = one (push states Match) (length states)

abbrev pub emitted_both_part : BothEmitter → List State → List State × ℕ
emitted_both_part both states =
    let body = both (push states Match) (length states) (length states) in
    (body.0, body.1)

-- so many states that step back, each over one character, and lead on to the state `next`
unfoldable pub emitted_back : ℕ → List State → ℕ → List State × ℕ
emitted_back zero states next = (states, next)
emitted_back (suc n) states next =
    let rest = emitted_back n states next in
    (push rest.0 (S.Back rest.1), length rest.0)

-- a part that is asked, and what goes on; the part is there once
unfoldable pub emitted_both_asking : State → State → List State → List State × ℕ × ℕ
emitted_both_asking same moved states =
    let one = push states same in
    (push one moved, length states, length one)

-- two states, and the choice between them, which prefers the first
unfoldable pub emitted_choice : State → State → List State → List State × ℕ
emitted_choice first second states =
    let one = push states first in
    let two = push one second in
    (push two (Split (length states) (length one)), length two)

-- The states so far, then those of a tree that goes on at two places: `same` where it moved nothing, `moved` where it did.
-- The two numbers are the entries where nothing was moved yet, and where something was.
unfoldable pub emitted_both : Re → List State → ℕ → ℕ → List State × ℕ × ℕ
emitted_both nothing states same moved = (states, same, moved)
emitted_both (read leaf) states same moved = (push states (S.Read leaf moved), length states, length states)
emitted_both (test check) states same moved =
    let one = push states (S.Look check same) in
    (push one (S.Look check moved), length states, length one)
emitted_both (cat a b) states same moved =
    let second = emitted_both b states same moved in
    emitted_both a second.0 second.1 second.2
emitted_both (alt a b) states same moved =
    let second = emitted_both b states same moved in
    let first = emitted_both a second.0 same moved in
    let one = push first.0 (Split first.1 second.1) in
    (push one (Split first.2 second.2), length first.0, length one)
emitted_both (group g a) states same moved = emitted_both_group g (emitted_both a) states same moved
emitted_both (repeat lo hi greedy strict a) states same moved =
    emitted_both_repeat (is_unbounded hi) strict lo hi greedy (emitted_both a) states same moved
emitted_both (ask negated back a) states same moved =
    let body = emitted_both_part (emitted_both a) states in
    let part = emitted_back back body.0 body.1 in
    emitted_both_asking (Ask part.1 negated same) (Ask part.1 negated moved) part.0
emitted_both (atomic a) states same moved =
    let part = emitted_both_part (emitted_both a) states in
    emitted_both_asking (Atomic part.1 same moved) (Atomic part.1 moved moved) part.0
emitted_both (conditional c a b) states same moved =
    let right = emitted_both b states same moved in
    let left = emitted_both a right.0 same moved in
    let part = emitted_both_part (emitted_both c) left.0 in
    let first = emitted_choice (Atomic part.1 left.1 left.2) (Ask part.1 true right.1) part.0 in
    let second = emitted_choice (Atomic part.1 left.2 left.2) (Ask part.1 true right.2) first.0 in
    (second.0, first.1, second.1)

-- the states so far, then those of a tree that goes on at `next`; the number is the entry
unfoldable pub emitted : Re → List State → ℕ → List State × ℕ
emitted nothing states next = (states, next)
emitted (read leaf) states next = (push states (S.Read leaf next), length states)
emitted (test check) states next = (push states (S.Look check next), length states)
emitted (cat a b) states next =
    let second = emitted b states next in
    emitted a second.0 second.1
emitted (alt a b) states next =
    let second = emitted b states next in
    let first = emitted a second.0 next in
    (push first.0 (Split first.1 second.1), length first.0)
emitted (group g a) states next =
    let body = emitted a (push states (Leave g next)) (length states) in
    (push body.0 (Enter g body.1), length body.0)
emitted (repeat lo hi greedy strict a) states next =
    emitted_repeat (is_unbounded hi) strict lo hi greedy (emitted a) (emitted_both a) states next
emitted (ask negated back a) states next =
    let body = emitted_part (emitted a) states in
    let part = emitted_back back body.0 body.1 in
    (push part.0 (Ask part.1 negated next), length part.0)
emitted (atomic a) states next =
    let part = emitted_part (emitted a) states in
    (push part.0 (Atomic part.1 next next), length part.0)
emitted (conditional c a b) states next =
    let right = emitted b states next in
    let left = emitted a right.0 next in
    let part = emitted_part (emitted c) left.0 in
    emitted_choice (Atomic part.1 left.1 left.1) (Ask part.1 true right.1) part.0

-- one branch in front of those that are there
unfoldable pub with_branch : Re → ℕ → List State × ℕ → List State × ℕ
with_branch x next rest =
    let first = emitted x rest.0 next in
    (push first.0 (Split first.1 rest.1), length first.0)

unfoldable pub with_branch_both : Re → ℕ → ℕ → List State × ℕ × ℕ → List State × ℕ × ℕ
with_branch_both x same moved rest =
    let first = emitted_both x rest.0 same moved in
    let one = push first.0 (Split first.1 rest.1) in
    (push one (Split first.2 rest.2), length first.0, length one)

-- these branches in front of those that are there
unfoldable pub with_branches : List Re → ℕ → List State × ℕ → List State × ℕ
with_branches [] next rest = rest
with_branches (x ∷ xs) next rest = with_branch x next (with_branches xs next rest)

unfoldable pub with_branches_both : List Re → ℕ → ℕ → List State × ℕ × ℕ → List State × ℕ × ℕ
with_branches_both [] same moved rest = rest
with_branches_both (x ∷ xs) same moved rest = with_branch_both x same moved (with_branches_both xs same moved rest)

unfoldable pub repeat_weight : Bool → Bool → ℕ → ℕ → ℕ → ℕ
repeat_weight true true lo hi w = max lo 1 * w + 3
repeat_weight true false lo hi w = (lo + 2) * w + 4
repeat_weight false strict lo hi w = max (lo * w + (hi - lo) * (w + 3)) 1

-- how many states a tree may become
unfoldable pub weight : Re → ℕ
weight nothing = 0
weight (read leaf) = 1
weight (test check) = 1
weight (cat a b) = weight a + weight b
weight (alt a b) = weight a + weight b + 3
weight (group g a) = weight a + 2
weight (repeat lo hi greedy strict a) = repeat_weight (is_unbounded hi) strict lo hi (weight a)
weight (ask negated back a) = weight a + back + 2
weight (atomic a) = weight a + 2
weight (conditional c a b) = weight c + weight a + weight b + 4

module _ (view : View) (stop : ℕ) where
  -- all states do, but for the open ones
  abbrev pub AgreeBut : (ℕ → Type 0) → List State → (ℕ → Continuation) → Type 0
  AgreeBut Open states go = (q : ℕ) → q < length states → Open q ⊎ Agrees view stop go (length states) q (state_at states q)
