-- A try depends on what follows only from its start on, and ends there or after it; and the equation of a loop.
use Rattle.std.proofs.Common.{◌||◌, ◌⊎◌, true≢false, ◌≡◌, ℕ, zero, suc, ◌+◌, ◌*◌, ◌-◌, ◌<◌, ◌≤◌, Bool, true, false, List, Option, Some, None, if◌then◌else◌, nat_lt, refl, sym, ap, ap₂, ◌∙◌, inl, inr, ⊎_elim, arith, ltb-true, leb-true, lt-ltb, le-ltb}
use Rattle.std.proofs.lemmas.Bool.{cases_lt, and_parts}
use Rattle.fancy_regex_states.specs.Attempts.{View, reads, Trace, AttemptResult, Continuation, score, better_trace, failed, accept, guard, either, write, save, after_writes, asked, asked_answer, passed, passed_answer, pick, resume}
use Rattle.fancy_regex_linear.specs.Meaning.{is_unbounded}
use Rattle.fancy_regex_linear.specs.Program.{never_empty}
use Rattle.fancy_regex_linear.specs.Attempt.{prefer, iterations, times_try, upto_try, star_try, tail_try, attempt}
use Rattle.fancy_regex_states.specs.declared.atom.Leaf.{Leaf}
use Rattle.fancy_regex_linear.specs.Re.{Re, nothing, read, test, cat, alt, group, repeat, ask, atomic, conditional}

pub guard_cong : (b : Bool) (x y : AttemptResult) → (b ≡ true → x ≡ y) → guard b x ≡ guard b y
guard_cong true x y h = ap (guard true) (h refl)
guard_cong false x y h = refl

pub prefer_cong : (longest g : Bool) (x y u v : AttemptResult) → x ≡ y → u ≡ v → prefer longest g x u ≡ prefer longest g y v
prefer_cong longest g x y u v e f = ap₂ (prefer longest g) e f

passed_at : (o : Option Trace) (depth : ℕ) (k k2 : Continuation) → ((t : Trace) → o ≡ Some t → k t.end ≡ k2 t.end)
    → passed (record { answer = o; depth = depth }) k ≡ passed (record { answer = o; depth = depth }) k2
passed_at None depth k k2 h = refl
passed_at (Some t) depth k k2 h =
    ap (λ (r : AttemptResult). let it : AttemptResult = record { answer = after_writes t.writes r.answer; depth = depth + r.depth + 1 } in it) (h t refl)

pub passed_cong : (part : AttemptResult) (k k2 : Continuation) → ((t : Trace) → part.answer ≡ Some t → k t.end ≡ k2 t.end) → passed part k ≡ passed part k2
passed_cong part k k2 h = passed_at part.answer part.depth k k2 h

pub pick_same : (i : ℕ) (same moved : Continuation) (j : ℕ) → j ≤ i → pick i same moved j ≡ same j
unfolding pick
pick_same i same moved j h = rw (le-ltb i j h)

pub pick_moved : (i : ℕ) (same moved : Continuation) (j : ℕ) → i < j → pick i same moved j ≡ moved j
unfolding pick
pick_moved i same moved j h = rw (lt-ltb i j h)

pub pick_agree : (i : ℕ) (same moved same2 moved2 : Continuation) (j : ℕ) → (j ≤ i → same j ≡ same2 j) → (i < j → moved j ≡ moved2 j) → pick i same moved j ≡ pick i same2 moved2 j
pick_agree i same moved same2 moved2 j h m =
    ⊎_elim
    (λ lt. pick_moved i same moved j lt ∙ m lt ∙ sym (pick_moved i same2 moved2 j lt))
    (λ ge. pick_same i same moved j ge ∙ h ge ∙ sym (pick_same i same2 moved2 j ge))
    (cases_lt i j)

pub pick_both : (i : ℕ) (k : Continuation) (j : ℕ) → pick i k k j ≡ k j
pick_both i k j = ⊎_elim (λ lt. pick_moved i k k j lt) (λ ge. pick_same i k k j ge) (cases_lt i j)

-- where a part ends from its place on, what follows it is what a node picks
pub resume_pick : (i : ℕ) (same moved : Continuation) (j : ℕ) → i ≤ j → resume i same moved j ≡ pick i same moved j
unfolding resume pick
resume_pick i same moved j low =
    ⊎_elim
    (λ (lt : i < j). rw (lt-ltb i j lt) refl)
    (λ (ge : j ≤ i). let at : j ≡ i = omega arith in rw (le-ltb i j ge) (ap same (sym at)))
    (cases_lt i j)

or_parts : (x y : Bool) → (x || y) ≡ true → (x ≡ true) ⊎ (y ≡ true)
or_parts true y e = inl refl
or_parts false y e = inr e

abbrev pub Relation : Type 1
Relation = AttemptResult → AttemptResult → Type 0

-- a relation of results that each step of a try keeps
pub record IsKept (longest : Bool) (Same : Relation) : Type 0 where
  pub fails : Same failed failed
  pub guards : (b : Bool) (x y : AttemptResult) → (b ≡ true → Same x y) → Same (guard b x) (guard b y)
  pub saves : (slot i : ℕ) (x y : AttemptResult) → Same x y → Same (save slot i x) (save slot i y)
  pub chooses : (x y u v : AttemptResult) → Same x y → Same u v → Same (either longest x u) (either longest y v)
  pub asks : (negated : Bool) (part x y : AttemptResult) → Same x y → Same (asked negated part x) (asked negated part y)
  pub passes : (part : AttemptResult) (k k2 : Continuation) → ((t : Trace) → part.answer ≡ Some t → Same (k t.end) (k2 t.end)) → Same (passed part k) (passed part k2)

equal_kept : (longest : Bool) → IsKept longest (λ x y. x ≡ y)
equal_kept longest = record {
  fails = refl;
  guards = guard_cong;
  saves = λ slot i x y e. ap (save slot i) e;
  chooses = λ x y u v e f. ap₂ (either longest) e f;
  asks = λ negated part x y e. ap (asked negated part) e;
  passes = passed_cong;
}

-- the answer, where there is one, ends in this range
abbrev pub IsWithin : ℕ → ℕ → Option Trace → Type 0
IsWithin low stop None = Unit {0}
IsWithin low stop (Some t) = (low ≤ t.end) × (t.end ≤ stop)

module _ (low stop : ℕ) where
  abbrev BothWithin : Relation
  BothWithin x y = IsWithin low stop x.answer

  guard_within : (b : Bool) (x : AttemptResult) → (b ≡ true → IsWithin low stop x.answer) → IsWithin low stop (guard b x).answer
  guard_within true x h = h refl
  guard_within false x h = tt

  write_within : (slot i : ℕ) (o : Option Trace) → IsWithin low stop o → IsWithin low stop (write slot i o)
  write_within slot i None h = tt
  write_within slot i (Some t) h = h

  if_within : (b : Bool) (s t : Trace) → IsWithin low stop (Some s) → IsWithin low stop (Some t) → IsWithin low stop (if b then Some s else Some t)
  if_within true s t h k = h
  if_within false s t h k = k

  better_within : (longest : Bool) (a b : Option Trace) → IsWithin low stop a → IsWithin low stop b → IsWithin low stop (better_trace longest a b)
  better_within longest None b h k = k
  better_within longest (Some s) None h k = h
  better_within longest (Some s) (Some t) h k = if_within (nat_lt (score longest s.end) (score longest t.end)) t s k h

  after_within : (ws : List (ℕ × ℕ)) (o : Option Trace) → IsWithin low stop o → IsWithin low stop (after_writes ws o)
  after_within ws None h = tt
  after_within ws (Some t) h = h

  asked_within : (negated : Bool) (part rest : Option Trace) → IsWithin low stop rest → IsWithin low stop (asked_answer negated part rest)
  asked_within false None rest h = tt
  asked_within false (Some t) rest h = after_within t.writes rest h
  asked_within true None rest h = h
  asked_within true (Some t) rest h = tt

  passed_within : (part : Option Trace) (k : Continuation) → ((t : Trace) → part ≡ Some t → IsWithin low stop (k t.end).answer) → IsWithin low stop (passed_answer part k)
  passed_within None k h = tt
  passed_within (Some t) k h = after_within t.writes (k t.end).answer (h t refl)

  within_kept : (longest : Bool) → IsKept longest BothWithin
  within_kept longest = record {
    fails = tt;
    guards = λ b x y h. guard_within b x h;
    saves = λ slot i x y h. write_within slot i x.answer h;
    chooses = λ x y u v h k. better_within longest x.answer u.answer h k;
    asks = λ negated part x y h. asked_within negated part.answer x.answer h;
    passes = λ part k k2 h. passed_within part.answer k h;
  }

  pub end_within : (o : Option Trace) (t : Trace) → IsWithin low stop o → o ≡ Some t → (low ≤ t.end) × (t.end ≤ stop)
  end_within o t h e = rw e at h

module _ (view : View) (stop : ℕ) where
  pub reads_below : (leaf : Leaf) (i : ℕ) → reads view stop leaf i ≡ true → (i < view.next i) × (view.next i ≤ stop)
  unfolding reads
  reads_below leaf i e =
      let both = and_parts _ _ (and_parts _ _ e).1 in
      (ltb-true i (view.next i) both.0, leb-true (view.next i) stop both.1)

  -- what comes after is asked only from the start on
  abbrev pub LooksBy : Relation → (Continuation → Continuation) → Type 0
  LooksBy Same body = (k k2 : Continuation) (i : ℕ) → i ≤ stop → ((j : ℕ) → i ≤ j → j ≤ stop → Same (k j) (k2 j)) → Same (body k i) (body k2 i)

  -- what comes after is asked only past the start
  abbrev pub MovesBy : Relation → (Continuation → Continuation) → Type 0
  MovesBy Same body = (k k2 : Continuation) (i : ℕ) → i ≤ stop → ((j : ℕ) → i < j → j ≤ stop → Same (k j) (k2 j)) → Same (body k i) (body k2 i)

  module _ (Same : Relation) (kept : IsKept view.longest Same) where
    prefer_kept : (g : Bool) (x y u v : AttemptResult) → Same x y → Same u v → Same (prefer view.longest g x u) (prefer view.longest g y v)
    prefer_kept true x y u v h k = kept.chooses x y u v h k
    prefer_kept false x y u v h k = kept.chooses u v x y k h

    pick_kept : (i : ℕ) (same moved same2 moved2 : Continuation) (j : ℕ) → (j ≤ i → Same (same j) (same2 j)) → (i < j → Same (moved j) (moved2 j))
        → Same (pick i same moved j) (pick i same2 moved2 j)
    pick_kept i same moved same2 moved2 j h m =
        ⊎_elim
        (λ lt. rw (pick_moved i same moved j lt, pick_moved i same2 moved2 j lt) (m lt))
        (λ ge. rw (pick_same i same moved j ge, pick_same i same2 moved2 j ge) (h ge))
        (cases_lt i j)

    iterations_kept : (g : Bool) (body : Continuation → Continuation) → LooksBy Same body → (n : ℕ) → LooksBy Same (λ k. iterations view.longest g body k n)
    unfolding iterations
    iterations_kept g body ok zero k k2 i p h =
        prefer_kept g _ _ _ _
        (ok _ _ i p (λ j a b. pick_kept i _ _ _ _ j (λ _. h j a b) (λ _. kept.fails)))
        (h i (omega arith) p)
    iterations_kept g body ok (suc n) k k2 i p h =
        prefer_kept g _ _ _ _
        (ok _ _ i p (λ j a b. pick_kept i _ _ _ _ j (λ _. h j a b) (λ lt. iterations_kept g body ok n k k2 j b (λ l c d. h l (omega arith) d))))
        (h i (omega arith) p)

    times_kept : (body : Continuation → Continuation) → LooksBy Same body → (n : ℕ) → LooksBy Same (times_try body n)
    unfolding times_try
    times_kept body ok zero k k2 i p h = h i (omega arith) p
    times_kept body ok (suc n) k k2 i p h =
        ok _ _ i p (λ j a b. times_kept body ok n k k2 j b (λ l c d. h l (omega arith) d))

    upto_kept : (g : Bool) (body : Continuation → Continuation) → LooksBy Same body → (n : ℕ) → LooksBy Same (upto_try view.longest g body n)
    unfolding upto_try
    upto_kept g body ok zero k k2 i p h = h i (omega arith) p
    upto_kept g body ok (suc n) k k2 i p h =
        prefer_kept g _ _ _ _
        (ok _ _ i p (λ j a b. upto_kept g body ok n k k2 j b (λ l c d. h l (omega arith) d)))
        (h i (omega arith) p)

    tail_kept : (u g : Bool) (body : Continuation → Continuation) → LooksBy Same body → (n : ℕ) → LooksBy Same (tail_try view.longest u stop g body n)
    unfolding tail_try
    tail_kept true g body ok n k k2 i p h = iterations_kept g body ok (stop - i) k k2 i p h
    tail_kept false g body ok n k k2 i p h = upto_kept g body ok n k k2 i p h

    times_moves : (body : Continuation → Continuation) → LooksBy Same body → MovesBy Same body → (n : ℕ) → 0 < n → MovesBy Same (times_try body n)
    unfolding times_try
    times_moves body ok moves zero pos k k2 i p h = absurd (omega arith)
    times_moves body ok moves (suc n) pos k k2 i p h =
        moves _ _ i p (λ j a b. times_kept body ok n k k2 j b (λ l c d. h l (omega arith) d))

  -- A part is attempted by itself: what follows is asked at its end, which is not before its start.
  looks : (t : Re) (Same : Relation) → IsKept view.longest Same → LooksBy Same (attempt view stop t)
  unfolding attempt
  looks nothing Same kept k k2 i p h = h i (omega arith) p
  looks (read leaf) Same kept k k2 i p h =
      kept.guards _ _ _ (λ e. let lt = reads_below leaf i e in h (view.next i) (omega (arith, lt.0)) lt.1)
  looks (test check) Same kept k k2 i p h = kept.guards _ _ _ (λ e. h i (omega arith) p)
  looks (cat a b) Same kept k k2 i p h =
      looks a Same kept _ _ i p (λ j c d. looks b Same kept k k2 j d (λ l u v. h l (omega arith) v))
  looks (alt a b) Same kept k k2 i p h = kept.chooses _ _ _ _ (looks a Same kept k k2 i p h) (looks b Same kept k k2 i p h)
  looks (group g a) Same kept k k2 i p h =
      kept.saves (2 * g) i _ _ (looks a Same kept _ _ i p (λ j c d. kept.saves (2 * g + 1) j _ _ (h j c d)))
  looks (repeat lo hi g strict a) Same kept k k2 i p h =
      times_kept Same kept (attempt view stop a) (looks a Same kept) lo _ _ i p
      (λ j c d. tail_kept Same kept (is_unbounded hi) g (attempt view stop a) (looks a Same kept) (hi - lo) k k2 j d (λ l u v. h l (omega arith) v))
  looks (ask negated back a) Same kept k k2 i p h = kept.asks negated _ _ _ (h i (omega arith) p)
  looks (atomic a) Same kept k k2 i p h =
      let within = looks a (BothWithin i stop) (within_kept i stop view.longest) accept accept i p (λ j c d. (c, d)) in
      kept.passes _ _ _ (λ t e. let ends = end_within i stop (attempt view stop a accept i).answer t within e in h t.end ends.0 ends.1)
  looks (conditional c a b) Same kept k k2 i p h =
      let within = looks c (BothWithin i stop) (within_kept i stop view.longest) accept accept i p (λ j x y. (x, y)) in
      kept.chooses _ _ _ _
      (kept.passes _ _ _ (λ t e. let ends = end_within i stop (attempt view stop c accept i).answer t within e in looks a Same kept k k2 t.end ends.1 (λ j x y. h j (omega (arith, ends.0)) y)))
      (kept.asks true _ _ _ (looks b Same kept k k2 i p h))

  moves : (t : Re) → never_empty t ≡ true → (Same : Relation) → IsKept view.longest Same → MovesBy Same (attempt view stop t)
  unfolding attempt
  moves nothing e Same kept k k2 i p h = absurd (true≢false (sym e))
  moves (read leaf) e Same kept k k2 i p h =
      kept.guards _ _ _ (λ r. let lt = reads_below leaf i r in h (view.next i) lt.0 lt.1)
  moves (test check) e Same kept k k2 i p h = absurd (true≢false (sym e))
  moves (cat a b) e Same kept k k2 i p h =
      elim (or_parts (never_empty a) (never_empty b) e) [
        | inl first ↦ moves a first Same kept _ _ i p (λ j c d. looks b Same kept k k2 j d (λ l u v. h l (omega arith) v))
        | inr second ↦ looks a Same kept _ _ i p (λ j c d. moves b second Same kept k k2 j d (λ l u v. h l (omega arith) v))
      ]
  moves (alt a b) e Same kept k k2 i p h =
      let both = and_parts _ _ e in
      kept.chooses _ _ _ _ (moves a both.0 Same kept k k2 i p h) (moves b both.1 Same kept k k2 i p h)
  moves (group g a) e Same kept k k2 i p h =
      kept.saves (2 * g) i _ _ (moves a e Same kept _ _ i p (λ j c d. kept.saves (2 * g + 1) j _ _ (h j c d)))
  moves (repeat lo hi g strict a) e Same kept k k2 i p h =
      let both = and_parts _ _ e in
      times_moves Same kept (attempt view stop a) (looks a Same kept) (moves a both.1 Same kept) lo (ltb-true 0 lo both.0) _ _ i p
      (λ j c d. tail_kept Same kept (is_unbounded hi) g (attempt view stop a) (looks a Same kept) (hi - lo) k k2 j d (λ l u v. h l (omega arith) v))
  moves (ask negated back a) e Same kept k k2 i p h = absurd (true≢false (sym e))
  moves (atomic a) e Same kept k k2 i p h =
      let within = moves a e (BothWithin (i + 1) stop) (within_kept (i + 1) stop view.longest) accept accept i p (λ j c d. (omega arith, d)) in
      kept.passes _ _ _ (λ t same. let ends = end_within (i + 1) stop (attempt view stop a accept i).answer t within same in h t.end (omega (arith, ends.0)) ends.1)
  moves (conditional c a b) e Same kept k k2 i p h =
      let both = and_parts _ _ e in
      let first_branch : Same (passed (attempt view stop c accept i) (attempt view stop a k)) (passed (attempt view stop c accept i) (attempt view stop a k2)) =
      elim (or_parts (never_empty c) (never_empty a) both.0) [
        | inl first ↦ (
            let within = moves c first (BothWithin (i + 1) stop) (within_kept (i + 1) stop view.longest) accept accept i p (λ j x y. (omega arith, y)) in
            kept.passes _ _ _ (λ t same. let ends = end_within (i + 1) stop (attempt view stop c accept i).answer t within same in
            looks a Same kept k k2 t.end ends.1 (λ j x y. h j (omega (arith, ends.0)) y)))
        | inr second ↦ (
            let within = looks c (BothWithin i stop) (within_kept i stop view.longest) accept accept i p (λ j x y. (x, y)) in
            kept.passes _ _ _ (λ t same. let ends = end_within i stop (attempt view stop c accept i).answer t within same in
            moves a second Same kept k k2 t.end ends.1 (λ j x y. h j (omega (arith, ends.0)) y)))
      ] in
      kept.chooses _ _ _ _ first_branch (kept.asks true _ _ _ (moves b both.1 Same kept k k2 i p h))

  -- a part ends in the rest of the range
  pub attempt_ends : (t : Re) (i : ℕ) → i ≤ stop → IsWithin i stop (attempt view stop t accept i).answer
  attempt_ends t i p = looks t (BothWithin i stop) (within_kept i stop view.longest) accept accept i p (λ j c d. (c, d))

  abbrev pub Looks : (Continuation → Continuation) → Type 0
  Looks body = LooksBy (λ x y. x ≡ y) body

  abbrev pub Moves : (Continuation → Continuation) → Type 0
  Moves body = MovesBy (λ x y. x ≡ y) body

  abbrev equal : IsKept view.longest (λ x y. x ≡ y)
  equal = equal_kept view.longest

  pub star_agree : (g : Bool) (body : Continuation → Continuation) → Looks body → Looks (star_try view.longest stop g body)
  star_agree g body ok k k2 i p h = iterations_kept (λ x y. x ≡ y) equal g body ok (stop - i) k k2 i p h

  pub times_agree : (body : Continuation → Continuation) → Looks body → (n : ℕ) → Looks (times_try body n)
  times_agree body ok n = times_kept (λ x y. x ≡ y) equal body ok n

  pub upto_agree : (g : Bool) (body : Continuation → Continuation) → Looks body → (n : ℕ) → Looks (upto_try view.longest g body n)
  upto_agree g body ok n = upto_kept (λ x y. x ≡ y) equal g body ok n

  pub attempt_agree : (t : Re) → Looks (attempt view stop t)
  attempt_agree t = looks t (λ x y. x ≡ y) equal

  pub attempt_moves : (t : Re) → never_empty t ≡ true → Moves (attempt view stop t)
  attempt_moves t e = moves t e (λ x y. x ≡ y) equal

  -- more iterations than there is text change nothing
  iterations_fuel : (g : Bool) (body : Continuation → Continuation) → Looks body → (n m : ℕ) (k : Continuation) (i : ℕ) → i ≤ stop → stop - i ≤ n → stop - i ≤ m
      → iterations view.longest g body k n i ≡ iterations view.longest g body k m i
  unfolding iterations
  iterations_fuel g body ok zero zero k i p a b = refl
  iterations_fuel g body ok zero (suc m) k i p a b =
      prefer_cong view.longest g _ _ _ _ (ok _ _ i p (λ j c d. pick_agree i _ _ _ _ j (λ _. refl) (λ lt. absurd {0} (omega arith)))) refl
  iterations_fuel g body ok (suc n) zero k i p a b =
      prefer_cong view.longest g _ _ _ _ (ok _ _ i p (λ j c d. pick_agree i _ _ _ _ j (λ _. refl) (λ lt. absurd {0} (omega arith)))) refl
  iterations_fuel g body ok (suc n) (suc m) k i p a b =
      prefer_cong view.longest g _ _ _ _ (ok _ _ i p (λ j c d. pick_agree i _ _ _ _ j (λ _. refl)
      (λ lt. iterations_fuel g body ok n m k j d (omega arith) (omega arith)))) refl

  iterations_unfold : (g : Bool) (body : Continuation → Continuation) → Looks body → (n : ℕ) (k : Continuation) (i : ℕ) → i ≤ stop → stop - i ≤ n
      → iterations view.longest g body k n i ≡ prefer view.longest g (body (pick i k (λ l. iterations view.longest g body k (stop - l) l)) i) (k i)
  unfolding iterations
  iterations_unfold g body ok zero k i p a =
      prefer_cong view.longest g _ _ _ _ (ok _ _ i p (λ j c d. pick_agree i _ _ _ _ j (λ _. refl) (λ lt. absurd {0} (omega arith)))) refl
  iterations_unfold g body ok (suc n) k i p a =
      prefer_cong view.longest g _ _ _ _ (ok _ _ i p (λ j c d. pick_agree i _ _ _ _ j (λ _. refl)
      (λ lt. iterations_fuel g body ok n (stop - j) k j d (omega arith) (omega arith)))) refl

  -- a loop is its body, and then itself where that moved
  pub star_unfold : (g : Bool) (body : Continuation → Continuation) → Looks body → (k : Continuation) (i : ℕ) → i ≤ stop
      → star_try view.longest stop g body k i ≡ prefer view.longest g (body (pick i k (star_try view.longest stop g body k)) i) (k i)
  star_unfold g body ok k i h = iterations_unfold g body ok (stop - i) k i h (omega arith)

  -- a loop over what always moves is its body, and then itself
  pub plus_unfold : (g : Bool) (body : Continuation → Continuation) → Looks body → Moves body → (k : Continuation) (i : ℕ) → i ≤ stop
      → star_try view.longest stop g body k i ≡ prefer view.longest g (body (star_try view.longest stop g body k) i) (k i)
  plus_unfold g body ok moves k i h =
      star_unfold g body ok k i h
      ∙ prefer_cong view.longest g _ _ _ _ (moves _ _ i h (λ j a b. pick_moved i k (star_try view.longest stop g body k) j a)) refl
