-- A tree becomes no more states than it weighs.
use Rattle.std.proofs.Common.{◌≡◌, ℕ, zero, suc, ◌-◌, max, Bool, true, false, ◌+◌, ◌*◌, ◌≤◌, List, [], ◌∷◌, length, arith, length-append, length-set}
use Rattle.fancy_regex_linear.specs.Program.{loop_head, push, Emitter, BothEmitter, emitted_back, emitted_times, emitted_both_times, emitted_upto, emitted_both_upto, emitted_star, emitted_both_star, emitted_plus, emitted_both_plus, emitted_many, emitted_both_many, emitted_repeat, emitted_both_repeat, emitted_both_group, emitted_part, emitted_both_part, emitted_both_asking, repeat_weight, emitted, emitted_both, weight, emitted_choice}
use Rattle.fancy_regex_linear.specs.Meaning.{is_unbounded}
use Rattle.fancy_regex_linear.specs.Re.{Re, nothing, read, test, cat, alt, group, repeat, ask, atomic, conditional}
use Rattle.fancy_regex_states.specs.declared.state.State.{State}
use Rattle.fancy_regex_states.specs.declared.state.State.TheVariants.{Split, Enter, Leave, Ask, Atomic, Match}
use Rattle.fancy_regex_states.specs.declared.state.State.TheVariants as S

pushes : (states : List State) (s : State) → length (push states s) ≡ length states + 1
pushes states s = length-append states (s ∷ [])

-- a node adds at most w states
abbrev pub Weighs : Emitter → ℕ → Type 0
Weighs one w = (states : List State) (next : ℕ) → length (one states next).0 ≤ length states + w

abbrev pub WeighsBoth : BothEmitter → ℕ → Type 0
WeighsBoth both w = (states : List State) (same moved : ℕ) → length (both states same moved).0 ≤ length states + w

times_weighs : (one : Emitter) (w : ℕ) → Weighs one w → (n : ℕ) → Weighs (emitted_times one n) (n * w)
unfolding emitted_times
times_weighs one w h zero states next = omega arith
times_weighs one w h (suc n) states next =
    let rest = emitted_times one n states next in
    omega (arith, times_weighs one w h n states next, h rest.0 rest.1)

times_weigh_both : (both : BothEmitter) (w : ℕ) → WeighsBoth both w → (n : ℕ) → WeighsBoth (emitted_both_times both n) (n * w)
unfolding emitted_both_times
times_weigh_both both w h zero states same moved = omega arith
times_weigh_both both w h (suc n) states same moved =
    let rest = emitted_both_times both n states same moved in
    omega (arith, times_weigh_both both w h n states same moved, h rest.0 rest.1 rest.2)

upto_weighs : (greedy : Bool) (one : Emitter) (w : ℕ) → Weighs one w → (n : ℕ) → Weighs (emitted_upto greedy one n) (n * (w + 1))
unfolding emitted_upto
upto_weighs greedy one w h zero states next = omega arith
upto_weighs greedy one w h (suc n) states next =
    let rest = emitted_upto greedy one n states next in
    let body = one rest.0 rest.1 in
    omega (arith, upto_weighs greedy one w h n states next, h rest.0 rest.1, pushes body.0 (loop_head greedy body.1 next))

upto_weigh_both : (greedy : Bool) (both : BothEmitter) (w : ℕ) → WeighsBoth both w → (n : ℕ) → WeighsBoth (emitted_both_upto greedy both n) (n * (w + 2))
unfolding emitted_both_upto
upto_weigh_both greedy both w h zero states same moved = omega arith
upto_weigh_both greedy both w h (suc n) states same moved =
    let rest = emitted_both_upto greedy both n states same moved in
    let body = both rest.0 rest.1 rest.2 in
    let one = push body.0 (loop_head greedy body.1 same) in
    omega (
      arith,
      upto_weigh_both greedy both w h n states same moved,
      h rest.0 rest.1 rest.2,
      pushes body.0 (loop_head greedy body.1 same),
      pushes one (loop_head greedy body.2 moved),
    )

star_weighs : (greedy : Bool) (both : BothEmitter) (w : ℕ) → WeighsBoth both w → Weighs (emitted_star greedy both) (w + 1)
unfolding emitted_star
star_weighs greedy both w h states next =
    let body = both (push states Match) next (length states) in
    omega (arith, pushes states Match, h (push states Match) next (length states), length-set body.0 (length states) (loop_head greedy body.1 next))

star_weighs_both : (greedy : Bool) (both : BothEmitter) (w : ℕ) → WeighsBoth both w → WeighsBoth (emitted_both_star greedy both) (2 * w + 2)
unfolding emitted_both_star
star_weighs_both greedy both w h states same moved =
    let loop = emitted_star greedy both states moved in
    let first = both loop.0 same loop.1 in
    omega (arith, star_weighs greedy both w h states moved, h loop.0 same loop.1, pushes first.0 (loop_head greedy first.1 same))

plus_weighs : (greedy : Bool) (one : Emitter) (w : ℕ) → Weighs one w → (states : List State) (next : ℕ) → length (emitted_plus greedy one states next).0 ≤ length states + w + 1
unfolding emitted_plus
plus_weighs greedy one w h states next =
    let body = one (push states Match) (length states) in
    omega (arith, pushes states Match, h (push states Match) (length states), length-set body.0 (length states) (loop_head greedy body.1 next))

plus_weighs_both : (greedy : Bool) (both : BothEmitter) (w : ℕ) → WeighsBoth both w → (states : List State) (same moved : ℕ)
    → length (emitted_both_plus greedy both states same moved).0 ≤ length states + w + 1
unfolding emitted_both_plus
plus_weighs_both greedy both w h states same moved =
    let body = both (push states Match) same (length states) in
    omega (arith, pushes states Match, h (push states Match) same (length states), length-set body.0 (length states) (loop_head greedy body.2 moved))

many_weighs : (greedy : Bool) (one : Emitter) (w : ℕ) → Weighs one w → (lo : ℕ) → Weighs (emitted_many lo greedy one) (max lo 1 * w + 1)
unfolding emitted_many
many_weighs greedy one w h zero states next = omega (arith, plus_weighs greedy one w h states next)
many_weighs greedy one w h (suc n) states next =
    let loop = emitted_plus greedy one states next in
    let m : max (suc n) 1 ≡ n + 1 = omega arith in
    rw m (omega (arith, plus_weighs greedy one w h states next, times_weighs one w h n loop.0 loop.2))

many_weigh_both : (greedy : Bool) (both : BothEmitter) (w : ℕ) → WeighsBoth both w → (lo : ℕ) → WeighsBoth (emitted_both_many lo greedy both) (max lo 1 * w + 2)
unfolding emitted_both_many
many_weigh_both greedy both w h zero states same moved =
    let loop = emitted_both_plus greedy both states same moved in
    omega (arith, plus_weighs_both greedy both w h states same moved, pushes loop.0 (loop_head greedy loop.2 same))
many_weigh_both greedy both w h (suc n) states same moved =
    let loop = emitted_both_plus greedy both states same moved in
    let m : max (suc n) 1 ≡ n + 1 = omega arith in
    rw m (omega (arith, plus_weighs_both greedy both w h states same moved, times_weigh_both both w h n loop.0 loop.2 loop.3))

repeat_weighs : (one : Emitter) (both : BothEmitter) (w : ℕ) → Weighs one w → WeighsBoth both (2 * w) → (u strict : Bool) (lo hi : ℕ) (greedy : Bool)
    → Weighs (emitted_repeat u strict lo hi greedy one both) (repeat_weight u strict lo hi w)
unfolding emitted_repeat repeat_weight
repeat_weighs one both w h hb true true lo hi greedy states next = omega (arith, many_weighs greedy one w h lo states next)
repeat_weighs one both w h hb true false lo hi greedy states next =
    let rest = emitted_star greedy both states next in
    omega (arith, star_weighs greedy both (2 * w) hb states next, times_weighs one w h lo rest.0 rest.1)
repeat_weighs one both w h hb false strict lo hi greedy states next =
    let rest = emitted_upto greedy one (hi - lo) states next in
    omega (arith, upto_weighs greedy one w h (hi - lo) states next, times_weighs one w h lo rest.0 rest.1)

repeat_weighs_both : (both : BothEmitter) (w : ℕ) → WeighsBoth both (2 * w) → (u strict : Bool) (lo hi : ℕ) (greedy : Bool)
    → WeighsBoth (emitted_both_repeat u strict lo hi greedy both) (2 * repeat_weight u strict lo hi w)
unfolding emitted_both_repeat repeat_weight
repeat_weighs_both both w h true true lo hi greedy states same moved = omega (arith, many_weigh_both greedy both (2 * w) h lo states same moved)
repeat_weighs_both both w h true false lo hi greedy states same moved =
    let rest = emitted_both_star greedy both states same moved in
    omega (arith, star_weighs_both greedy both (2 * w) h states same moved, times_weigh_both both (2 * w) h lo rest.0 rest.1 rest.2)
repeat_weighs_both both w h false strict lo hi greedy states same moved =
    let rest = emitted_both_upto greedy both (hi - lo) states same moved in
    omega (arith, upto_weigh_both greedy both (2 * w) h (hi - lo) states same moved, times_weigh_both both (2 * w) h lo rest.0 rest.1 rest.2)

group_weighs_both : (g : ℕ) (both : BothEmitter) (w : ℕ) → WeighsBoth both w → WeighsBoth (emitted_both_group g both) (w + 4)
unfolding emitted_both_group
group_weighs_both g both w h states same moved =
    let one = push states (Leave g same) in
    let two = push one (Leave g moved) in
    let body = both two (length states) (length one) in
    let three = push body.0 (Enter g body.1) in
    omega (
      arith,
      pushes states (Leave g same),
      pushes one (Leave g moved),
      h two (length states) (length one),
      pushes body.0 (Enter g body.1),
      pushes three (Enter g body.2),
    )

part_weighs : (one : Emitter) (w : ℕ) → Weighs one w → (states : List State) → length (emitted_part one states).0 ≤ length states + w + 1
part_weighs one w h states = omega (arith, pushes states Match, h (push states Match) (length states))

both_part_weighs : (both : BothEmitter) (w : ℕ) → WeighsBoth both w → (states : List State) → length (emitted_both_part both states).0 ≤ length states + w + 1
both_part_weighs both w h states = omega (arith, pushes states Match, h (push states Match) (length states) (length states))

back_weighs : (n : ℕ) (states : List State) (next : ℕ) → length (emitted_back n states next).0 ≡ length states + n
unfolding emitted_back
back_weighs zero states next = omega arith
back_weighs (suc n) states next =
    let rest = emitted_back n states next in
    omega (arith, back_weighs n states next, pushes rest.0 (S.Back rest.1))

asking_weighs : (same moved : State) (states : List State) → length (emitted_both_asking same moved states).0 ≡ length states + 2
unfolding emitted_both_asking
asking_weighs same moved states = omega (arith, pushes states same, pushes (push states same) moved)

choice_weighs : (first second : State) (states : List State) → length (emitted_choice first second states).0 ≡ length states + 3
unfolding emitted_choice
choice_weighs first second states =
    let one = push states first in
    let two = push one second in
    omega (arith, pushes states first, pushes one second, pushes two (Split (length states) (length one)))

pub emitted_both_weighs : (t : Re) (states : List State) (same moved : ℕ)
    → length (emitted_both t states same moved).0 ≤ length states + 2 * weight t
unfolding emitted_both weight
emitted_both_weighs nothing states same moved = omega arith
emitted_both_weighs (read leaf) states same moved = omega (arith, pushes states (S.Read leaf moved))
emitted_both_weighs (test check) states same moved =
    omega (arith, pushes states (S.Look check same), pushes (push states (S.Look check same)) (S.Look check moved))
emitted_both_weighs (cat a b) states same moved =
    let second = emitted_both b states same moved in
    omega (arith, emitted_both_weighs b states same moved, emitted_both_weighs a second.0 second.1 second.2)
emitted_both_weighs (alt a b) states same moved =
    let second = emitted_both b states same moved in
    let first = emitted_both a second.0 same moved in
    let one = push first.0 (Split first.1 second.1) in
    omega (
      arith,
      emitted_both_weighs b states same moved,
      emitted_both_weighs a second.0 same moved,
      pushes first.0 (Split first.1 second.1),
      pushes one (Split first.2 second.2),
    )
emitted_both_weighs (group g a) states same moved =
    omega (arith, group_weighs_both g (emitted_both a) (2 * weight a) (emitted_both_weighs a) states same moved)
emitted_both_weighs (repeat lo hi greedy strict a) states same moved =
    repeat_weighs_both (emitted_both a) (weight a) (emitted_both_weighs a) (is_unbounded hi) strict lo hi greedy states same moved
emitted_both_weighs (ask negated back a) states same moved =
    let body = emitted_both_part (emitted_both a) states in
    let part = emitted_back back body.0 body.1 in
    omega (
      arith,
      both_part_weighs (emitted_both a) (2 * weight a) (emitted_both_weighs a) states,
      back_weighs back body.0 body.1,
      asking_weighs (Ask part.1 negated same) (Ask part.1 negated moved) part.0,
    )
emitted_both_weighs (atomic a) states same moved =
    let part = emitted_both_part (emitted_both a) states in
    omega (
      arith,
      both_part_weighs (emitted_both a) (2 * weight a) (emitted_both_weighs a) states,
      asking_weighs (Atomic part.1 same moved) (Atomic part.1 moved moved) part.0,
    )
emitted_both_weighs (conditional c a b) states same moved =
    let right = emitted_both b states same moved in
    let left = emitted_both a right.0 same moved in
    let part = emitted_both_part (emitted_both c) left.0 in
    let first = emitted_choice (Atomic part.1 left.1 left.2) (Ask part.1 true right.1) part.0 in
    omega (
      arith,
      emitted_both_weighs b states same moved,
      emitted_both_weighs a right.0 same moved,
      both_part_weighs (emitted_both c) (2 * weight c) (emitted_both_weighs c) left.0,
      choice_weighs (Atomic part.1 left.1 left.2) (Ask part.1 true right.1) part.0,
      choice_weighs (Atomic part.1 left.2 left.2) (Ask part.1 true right.2) first.0,
    )

pub emitted_weighs : (t : Re) (states : List State) (next : ℕ)
    → length (emitted t states next).0 ≤ length states + weight t
unfolding emitted weight
emitted_weighs nothing states next = omega arith
emitted_weighs (read leaf) states next = omega (arith, pushes states (S.Read leaf next))
emitted_weighs (test check) states next = omega (arith, pushes states (S.Look check next))
emitted_weighs (cat a b) states next =
    let second = emitted b states next in
    omega (arith, emitted_weighs b states next, emitted_weighs a second.0 second.1)
emitted_weighs (alt a b) states next =
    let second = emitted b states next in
    let first = emitted a second.0 next in
    omega (arith, emitted_weighs b states next, emitted_weighs a second.0 next, pushes first.0 (Split first.1 second.1))
emitted_weighs (group g a) states next =
    let one = push states (Leave g next) in
    let body = emitted a one (length states) in
    omega (
      arith,
      pushes states (Leave g next),
      emitted_weighs a one (length states),
      pushes body.0 (Enter g body.1),
    )
emitted_weighs (repeat lo hi greedy strict a) states next =
    repeat_weighs (emitted a) (emitted_both a) (weight a) (emitted_weighs a) (emitted_both_weighs a) (is_unbounded hi) strict lo hi greedy states next
emitted_weighs (ask negated back a) states next =
    let body = emitted_part (emitted a) states in
    let part = emitted_back back body.0 body.1 in
    omega (arith, part_weighs (emitted a) (weight a) (emitted_weighs a) states, back_weighs back body.0 body.1, pushes part.0 (Ask part.1 negated next))
emitted_weighs (atomic a) states next =
    let part = emitted_part (emitted a) states in
    omega (arith, part_weighs (emitted a) (weight a) (emitted_weighs a) states, pushes part.0 (Atomic part.1 next next))
emitted_weighs (conditional c a b) states next =
    let right = emitted b states next in
    let left = emitted a right.0 next in
    let part = emitted_part (emitted c) left.0 in
    omega (
      arith,
      emitted_weighs b states next,
      emitted_weighs a right.0 next,
      part_weighs (emitted c) (weight c) (emitted_weighs c) left.0,
      choice_weighs (Atomic part.1 left.1 left.1) (Ask part.1 true right.1) part.0,
    )
