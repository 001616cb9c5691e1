-- What a step over one state keeps.
use Rattle.std.proofs.Common.{◌≡◌, ℕ, ◌+◌, ◌-◌, ◌^◌, ◌<◌, ◌≤◌, min, Bool, true, false, ◌&&◌, List, ◌∷◌, length, Option, Some, None, if◌then◌else◌, nat_le, get_or, set, refl, sym, ap, ◌∙◌, subst, arith, lt-ltb, le-leb, leb-true, true≢false, inl, inr}
use Rattle.std.proofs.lemmas.List.{set_past}
use Rattle.std.proofs.lemmas.Bool.{and_from, and_left, and_right, and_parts, lt-leb, cases_lt}
use Rattle.std.proofs.lemmas.Str.{len_utf8_bounds}
use Rattle.std.specs.Bool.{MatchBool}
use Rattle.std.specs.Char.{len_utf8}
use Rattle.std.specs.Prelude.{IfSome, IsCharBoundary}
use Rattle.fancy_regex_states.specs.Attempts.{View, reads, Continuation, save, guard, Shows}
use Rattle.fancy_regex_linear.specs.Meaning.{Spot}
use Rattle.fancy_regex_linear.specs.Visited.{Adds}
use Rattle.fancy_regex_linear.specs.CharTests.{read_next}
use Rattle.fancy_regex_states.specs.CharTests.{leaf_matches_char}
use Rattle.fancy_regex_linear.specs.Search.{Dfs, After, IsStepWithin}
use Rattle.fancy_regex_states.specs.declared.atom.Leaf.{Leaf}
use Rattle.fancy_regex_class.specs.declared.class.CharClassMatcher.{CharClassMatcher}
use Rattle.fancy_regex_states.specs.declared.rules.Rules.{Rules}
use Rattle.fancy_regex_linear.specs.declared.frame.SearchStep.{SearchStep}
use Rattle.fancy_regex_linear.specs.declared.frame.SearchStep.TheVariants.{Pair, Backtrack}
use Rattle.fancy_regex_linear.specs.declared.frame.Frame.{Frame}
use Rattle.fancy_regex_linear.specs.declared.frame.Frame.TheVariants.{Explore, Restore}
use Rattle.fancy_regex_linear.proofs.DfsLemmas.{Dfs-dead, Dfs-moved, Dfs-saved, Dfs-unsaved, guard_yes, guard_no}

pub next_if : (X : SearchStep → Type 0) (b : Bool) (x : SearchStep) → (b ≡ true → X x) → (b ≡ false → X Backtrack) → X (if b then x else Backtrack)
next_if X true x h k = h refl
next_if X false x h k = k refl

-- a test that fails fails in one of its parts
pub and_none : (a b c : Bool) → (a && c) ≡ false → (a ≡ true → c ≡ false → b ≡ false) → (a && b) ≡ false
and_none true b c e h = h refl e
and_none false b c e h = refl

-- a character that is too wide ends past the stop
pub past_stop : (width at stop next : ℕ) → at ≤ stop → next ≡ at + width → nat_le width (stop - at) ≡ false → stop < next
past_stop width at stop next p e far =
    elim (cases_lt (stop - at) width) [
      | inl wide ↦ omega arith
      | inr fits ↦ absurd (true≢false (sym (le-leb width (stop - at) fits) ∙ far))
    ]

pub read_tracked : (view : View) (matchers : List CharClassMatcher) (rules : Rules) (stop : ℕ) (leaf : Leaf) (next at id : ℕ) (before after : Option ℕ)
    (go : ℕ → Continuation) (goal best : Option Spot) (bottom : List ℕ) (Seen Marked : ℕ → ℕ → Type 0) (frames : List Frame) (slots : List ℕ)
    → at ≤ stop → Shows matchers rules view at before after
    → go id at ≡ guard (reads view stop leaf at) (go next (view.next at)) → Adds Seen Marked id at
    → Dfs view.longest go goal best bottom Seen (Explore id at ∷ frames) slots
    → After view.longest go (read_next rules.unicode matchers stop leaf next at after) at goal best bottom Marked frames slots
unfolding reads
read_tracked view matchers rules stop leaf next at id before None go goal best bottom Seen Marked frames slots p shows e adds d =
    Dfs-dead view.longest d adds (guard_no _ _ _ e (and_left _ _ (shows.has leaf)))
read_tracked view matchers rules stop leaf next at id before (Some c) go goal best bottom Seen Marked frames slots p shows e adds d =
    let width : ℕ = len_utf8 c in
    let some : 1 ≤ width = (len_utf8_bounds c).0 in
    let next_is : view.next at ≡ at + width = shows.next in
    let lower : at < view.next at = omega arith in
    next_if (λ n. After view.longest go n at goal best bottom Marked frames slots) (leaf_matches_char rules.unicode matchers leaf c && nat_le width (stop - at)) (Pair next (at + width))
    (λ yes.
    let both = and_parts _ _ yes in
    let fits : width ≤ stop - at = leb-true width (stop - at) both.1 in
    let inside : view.next at ≤ stop = omega arith in
    let on = guard_yes _ _ _ e (and_from _ _ (shows.has leaf ∙ both.0) (and_from _ _ (lt-ltb at (view.next at) lower) (le-leb (view.next at) stop inside))) in
    Dfs-moved view.longest d adds next (at + width)
    (on.0 ∙ ap (λ j. (go next j).answer) next_is)
    (subst (λ (j : ℕ). (go next j).depth < (go id at).depth) next_is on.1))
    (λ no.
    Dfs-dead view.longest d adds (guard_no _ _ _ e (and_none (view.has leaf at) _ (nat_le width (stop - at)) (ap (λ b. b && nat_le width (stop - at)) (shows.has leaf) ∙ no)
    (λ yes far. and_right _ _ (let past : stop < view.next at = past_stop width at stop (view.next at) p next_is far in lt-leb (view.next at) stop past)))))

pub write_tracked : (longest : Bool) (go : ℕ → Continuation) (goal best : Option Spot) (bottom : List ℕ) (Seen Marked : ℕ → ℕ → Type 0)
    (q i next slot real : ℕ) (frames new_frames : List Frame) (slots new_slots : List ℕ) (written : Bool)
    → slot ≡ min real (2 ^ 64 - 1) → length slots ≤ 2 ^ 64 - 1
    → MatchBool written (slot < length slots) (length slots ≤ slot)
    → MatchBool written (new_frames ≡ Restore slot (get_or slots slot 0) ∷ frames) (new_frames ≡ frames)
    → new_slots ≡ set slots slot i → go q i ≡ save real i (go next i) → Adds Seen Marked q i
    → Dfs longest go goal best bottom Seen (Explore q i ∷ frames) slots
    → Dfs longest go goal best bottom Marked (Explore next i ∷ new_frames) new_slots
write_tracked longest go goal best bottom Seen Marked q i next slot real frames new_frames slots new_slots true size small inside pushed written e adds d =
    let same : slot ≡ real = omega arith in
    rw (pushed, written) (Dfs-saved longest d adds slot next (e ∙ ap (λ s. save s i (go next i)) (sym same)))
write_tracked longest go goal best bottom Seen Marked q i next slot real frames new_frames slots new_slots false size small inside pushed written e adds d =
    let past : length slots ≤ real = omega arith in
    rw (pushed, written, set_past slots slot i inside) (Dfs-unsaved longest d adds real next e (set_past slots real i past))

pub read_within : (unicode : Bool) (text : List ℕ) (count stop base next at : ℕ) (matchers : List CharClassMatcher) (leaf : Leaf) (after : Option ℕ) → next < count → base ≤ at → at ≤ stop
    → IfSome after (λ c. IsCharBoundary text (at + len_utf8 c)) → IsStepWithin text count stop base (read_next unicode matchers stop leaf next at after)
read_within unicode text count stop base next at matchers leaf None n low p h = tt
read_within unicode text count stop base next at matchers leaf (Some c) n low p h =
    next_if (IsStepWithin text count stop base) (leaf_matches_char unicode matchers leaf c && nat_le (len_utf8 c) (stop - at)) (Pair next (at + len_utf8 c))
    (λ yes.
    let fits : len_utf8 c ≤ stop - at = leb-true (len_utf8 c) (stop - at) (and_parts (leaf_matches_char unicode matchers leaf c) (nat_le (len_utf8 c) (stop - at)) yes).1 in
    let low_end : base ≤ at + len_utf8 c = omega arith in
    let high_end : at + len_utf8 c ≤ stop = omega arith in
    record { state = n; low = low_end; high = high_end; boundary = h })
    (λ no. tt)
