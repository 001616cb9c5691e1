-- Groups whose calls are written out where calls stay calls, and what stands for calls of them.
use Rattle.std.proofs.Common.{◌≡◌, ℕ, zero, suc, ◌+◌, ◌-◌, ◌≤◌, ◌<◌, Bool, true, false, cond, List, [], ◌∷◌, ◌++◌, length, set, Option, Some, None, refl, sym, ap, ◌∙◌, subst, arith}
use Rattle.std.specs.Prelude.{slice_get, slice_index_or, ◌==◌, is_some}
use Rattle.std.proofs.lemmas.Bool.{true≢false}
use Rattle.std.proofs.lemmas.Bool.Decides.{nat_tests}
use Rattle.std.proofs.lemmas.Option.{none-some, same_Some, slice_get_within}
use Rattle.fancy_regex_meaning.specs.Ways.{is_at_call_limit}
use Rattle.fancy_regex_desugar.specs.CorePatterns.{CorePattern, called}
use Rattle.fancy_regex_info.specs.Infos.{InfoTree}
use Rattle.fancy_regex_program.specs.Code.{Layout}
use Rattle.fancy_regex_program.specs.Ops.{Place}
use Rattle.fancy_regex_compiler.specs.CalledTexts.{IsFree}
use Rattle.fancy_regex_compiler.specs.Rooms.{room_with}
use Rattle.fancy_regex_compiler.specs.Inlined.{room_at, is_inlined, TakesRoom, IsInlined, most_room, AreInlined, AreSilent}
use Rattle.fancy_regex_compiler.specs.Known.{info_written, info_call, most_calls_in}
use Rattle.fancy_regex_compiler.proofs.CalledTextLemmas.{other_open}
use Rattle.fancy_regex_compiler.proofs.RoomLemmas.{room_called}
use Rattle.fancy_regex_compiler.proofs.RowLemmas.{call_opens}

pub none_inlined : (groups : List InfoTree) → AreInlined groups [] 0
none_inlined groups = record {
  rank = λ k. 0;
  low = λ k is. absurd (true≢false (sym is));
  few = omega arith;
  small = λ k n is. absurd (none-some n is);
  bodies = λ k n is. absurd (none-some n is);
}

-- a row of groups of which nothing is known
pub nothing_known : (rooms : List (Option ℕ)) → ((k : ℕ) → room_at rooms k ≡ None) → (groups : List InfoTree) → AreInlined groups rooms 0
nothing_known rooms none groups = record {
  rank = λ k. 0;
  low = λ k is. absurd (true≢false (sym is ∙ ap is_some (none k)));
  few = omega arith;
  small = λ k n is. absurd (none-some n (sym (none k) ∙ is));
  bodies = λ k n is. absurd (none-some n (sym (none k) ∙ is));
}

-- one more of which nothing is known
pub none_more : (rooms : List (Option ℕ)) (k : ℕ) → room_at (rooms ++ None ∷ []) k ≡ room_at rooms k
none_more [] zero = refl
none_more [] (suc k) = refl
none_more (x ∷ xs) zero = refl
none_more (x ∷ xs) (suc k) = none_more xs k

-- the room that is listed
pub known_room : (rooms : List (Option ℕ)) (k n : ℕ) → slice_get rooms k ≡ Some (Some n) → room_at rooms k ≡ Some n
known_room [] k n at = absurd (none-some (Some n) at)
known_room (x ∷ xs) zero n at = same_Some x (Some n) at
known_room (x ∷ xs) (suc k) n at = known_room xs k n at

some_is : (o : Option ℕ) (n : ℕ) → o ≡ Some n → is_some o ≡ true
some_is o n e = ap is_some e

-- which value stands there
record Shown (o : Option ℕ) : Type 0 where
  value : ℕ
  is : o ≡ Some value

shown : (o : Option ℕ) → is_some o ≡ true → Shown o
shown None s = absurd (true≢false (sym s))
shown (Some n) s = record { value = n; is = refl }

module _ (rooms : List (Option ℕ)) (k n : ℕ) where
  at_set : slice_get rooms k ≡ Some None → room_at (set rooms k (Some n)) k ≡ Some n
  at_set = at rooms k
    where
      at : (xs : List (Option ℕ)) (i : ℕ) → slice_get xs i ≡ Some None → slice_index_or (set xs i (Some n)) i None ≡ Some n
      at [] i e = absurd (none-some None e)
      at (x ∷ xs) zero e = refl
      at (x ∷ xs) (suc i) e = at xs i e

  at_other : (j : ℕ) → (j ≡ k → ⊥) → room_at (set rooms k (Some n)) j ≡ room_at rooms j
  at_other j = at rooms k j
    where
      at : (xs : List (Option ℕ)) (i l : ℕ) → (l ≡ i → ⊥) → slice_index_or (set xs i (Some n)) l None ≡ slice_index_or xs l None
      at [] i l other = refl
      at (x ∷ xs) zero zero other = absurd (other refl)
      at (x ∷ xs) zero (suc l) other = refl
      at (x ∷ xs) (suc i) zero other = refl
      at (x ∷ xs) (suc i) (suc l) other = at xs i l (λ e. other (ap suc e))

  was_none : slice_get rooms k ≡ Some None → room_at rooms k ≡ None
  was_none = at rooms k
    where
      at : (xs : List (Option ℕ)) (i : ℕ) → slice_get xs i ≡ Some None → slice_index_or xs i None ≡ None
      at [] i e = absurd (none-some None e)
      at (x ∷ xs) zero e = same_Some x None e
      at (x ∷ xs) (suc i) e = at xs i e

-- where one group more is taken up
module _ (groups : List InfoTree) (rooms : List (Option ℕ)) (known k n : ℕ) (x : InfoTree) (body : slice_get groups k ≡ Some x) (unknown : slice_get rooms k ≡ Some None)
    (takes : TakesRoom rooms n (λ call. (info_written call x).front)) (low : n ≤ most_room) (left : known < length groups) (are : AreInlined groups rooms known) where
  abbrev after : List (Option ℕ)
  after = set rooms k (Some n)

  abbrev rank : ℕ → ℕ
  rank j = cond (j == k) known (are.rank j)

  at_k : rank k ≡ known
  at_k = let same : (k == k) ≡ true = grind (arith, nat_tests) in ap (λ b. cond b known (are.rank k)) same

  at_not : (j : ℕ) → (j ≡ k → ⊥) → rank j ≡ are.rank j
  at_not j other = let no : (j == k) ≡ false = grind (arith, nat_tests, other) in ap (λ b. cond b known (are.rank j)) no

  -- a group with a room before is another one, of the same rank and room
  differs : (j : ℕ) → is_inlined rooms j ≡ true → j ≡ k → ⊥
  differs j is same = true≢false (sym is ∙ ap is_some (ap (room_at rooms) same ∙ was_none rooms k n unknown))

  room_kept : (j m : ℕ) → room_at rooms j ≡ Some m → room_at after j ≡ Some m
  room_kept j m is = at_other rooms k n j (differs j (some_is (room_at rooms j) m is)) ∙ is

  rank_kept : (j : ℕ) → is_inlined rooms j ≡ true → rank j ≡ are.rank j
  rank_kept j is = at_not j (differs j is)

  inlined_kept : (j : ℕ) → is_inlined rooms j ≡ true → is_inlined after j ≡ true
  inlined_kept j is = let s = shown (room_at rooms j) is in some_is (room_at after j) s.value (room_kept j s.value s.is)

  abbrev old_body : (j m : ℕ) → room_at rooms j ≡ Some m → IsInlined groups after rank j m
  old_body j m is =
      let had = are.bodies j m is in
      let mine = rank_kept j (some_is (room_at rooms j) m is) in
      record {
        body = had.body;
        at = had.at;
        fits = λ layout call have.
            had.fits layout call
            (λ i l room below le. (let other = rank_kept i (some_is (room_at rooms i) l room) in have i l (room_kept i l room) (omega (arith, mine, other, below)) le));
        same = λ call other same.
            had.same call other (λ i known_i below. (let there = rank_kept i known_i in same i (inlined_kept i known_i) (omega (arith, mine, there, below))));
      }

  abbrev new_body : IsInlined groups after rank k n
  new_body = record {
    body = x;
    at = body;
    fits = λ layout call have.
        takes.fits layout call
        (λ i l room le.
        (let there = some_is (room_at rooms i) l room in
        let first = are.low i there in
        let other = rank_kept i there in
        have i l (room_kept i l room) (omega (arith, first, other, at_k)) le));
    same = λ call other same.
        takes.same call other
        (λ i there.
        (let first = are.low i there in
        let at = rank_kept i there in
        same i (inlined_kept i there) (omega (arith, first, at, at_k))));
  }

  split : (j m : ℕ) → room_at after j ≡ Some m → (P : ℕ → ℕ → Type 0) → (room_at rooms j ≡ Some m → P j m) → P k n → P j m
  split j m is P old new = by (j == k) refl
    where
      by : (b : Bool) → (j == k) ≡ b → P j m
      by true e =
          let same : j ≡ k = grind (arith, nat_tests, e) in
          let size : n ≡ m = same_Some n m (sym (at_set rooms k n unknown) ∙ ap (room_at after) (sym same) ∙ is) in
          subst (λ i. P i m) (sym same) (subst (P k) size new)
      by false e =
          let other : j ≡ k → ⊥ = grind (arith, nat_tests, e) in
          old (sym (at_other rooms k n j other) ∙ is)

  pub inlined_more : AreInlined groups after (known + 1)
  inlined_more = record {
    rank = rank;
    low = λ j is.
        let s = shown (room_at after j) is in
        split j s.value s.is (λ i m. rank i < known + 1)
        (λ old. (let there = some_is (room_at rooms j) s.value old in let first = are.low j there in let same = rank_kept j there in omega (arith, first, same))) (omega (arith, at_k));
    few = omega (arith, left);
    small = λ j m is. split j m is (λ i l. l ≤ most_room) (λ old. are.small j m old) low;
    bodies = λ j m is. split j m is (λ i l. IsInlined groups after rank i l) (λ old. old_body j m old) new_body;
  }

none_of : (o : Option Place) → is_some o ≡ false → o ≡ None
none_of None h = refl
none_of (Some c) h = absurd (true≢false h)

-- what stands for a call of such a group
module _ (groups : List InfoTree) (rooms : List (Option ℕ)) (known : ℕ) (are : AreInlined groups rooms known) where
  -- Of the groups below that rank with at most that room, none is at its limit.
  abbrev AreFreeBelow : ℕ → ℕ → List ℕ → Type 0
  AreFreeBelow top most opened = (j m : ℕ) → room_at rooms j ≡ Some m → are.rank j < top → m ≤ most → is_at_call_limit opened j ≡ false

  free_before : (k most less : ℕ) (opened : List ℕ) → less ≤ most → AreFreeBelow (suc (are.rank k)) most opened → (j m : ℕ) → room_at rooms j ≡ Some m → are.rank j < are.rank k → m ≤ less →
      AreFreeBelow (suc (are.rank j)) m (opened ++ k ∷ [])
  free_before k most less opened fewer free j m is below le i l room at_most low =
      let other : i ≡ k → ⊥ = λ same. (let ranks = ap are.rank same in omega (arith, ranks, at_most, below)) in
      other_open [] opened k i other ∙ free i l room (omega (arith, at_most, below)) (omega (arith, low, le, fewer))

  module _ (layout : Layout) (none : (j : ℕ) → is_inlined rooms j ≡ true → layout j ≡ None) where
    -- It has the room that is known.
    pub room_of_call : (m : ℕ) (opened : List ℕ) (k n : ℕ) → room_at rooms k ≡ Some n → are.rank k < m → AreFreeBelow (suc (are.rank k)) n opened →
        room_with layout (info_call groups m opened k) ≤ n
    room_of_call zero opened k n is left free = absurd (omega (arith, left))
    room_of_call (suc m) opened k n is left free =
        let b = are.bodies k n is in
        let call = info_call groups m (opened ++ k ∷ []) in
        let opens = call_opens groups m opened k b.body (free k n is (omega arith) (omega arith)) b.at in
        let inner = b.fits layout call
        (λ j l room below le. room_of_call m (opened ++ k ∷ []) j l room (omega (arith, below, left)) (free_before k n n opened (omega arith) free j l room below le)) in
        let same = ap (room_with layout) opens in
        omega (arith, same, inner, room_called layout k (info_written call b.body).front (none k (some_is (room_at rooms k) n is)))

    -- where no call of a group that writes nothing is open
    pub room_where_free : (m : ℕ) (opened : List ℕ) (k : ℕ) → room_at rooms k ≡ Some 0 → known ≤ m → IsFree rooms 0 opened → room_with layout (info_call groups m opened k) ≤ 0
    room_where_free m opened k is left free =
        let low = are.low k (some_is (room_at rooms k) 0 is) in
        room_of_call m opened k 0 is (omega (arith, low, left)) (λ j l room below le. free j l (get_at rooms j l room) le)
      where
        get_at : (xs : List (Option ℕ)) (j l : ℕ) → slice_index_or xs j None ≡ Some l → slice_get xs j ≡ Some (Some l)
        get_at [] j l e = absurd (none-some l e)
        get_at (x ∷ xs) zero l e = ap Some e
        get_at (x ∷ xs) (suc j) l e = get_at xs j l e

  -- as many calls as may open at all
  abbrev most : ℕ
  most = most_calls_in groups

  enough : (k : ℕ) → is_inlined rooms k ≡ true → are.rank k < most
  enough k is = let low = are.low k is in let few = are.few in omega (arith, low, few)

  pub inlined_inside : (k : ℕ) → is_inlined rooms k ≡ true → k < length groups
  inlined_inside k is =
      let s = shown (room_at rooms k) is in
      let b = are.bodies k s.value s.is in
      slice_get_within groups k b.body b.at

  free_first : (top size : ℕ) → AreFreeBelow top size []
  free_first top size j m is below le = refl

  pub room_at_first : (layout : Layout) → ((j : ℕ) → is_inlined rooms j ≡ true → layout j ≡ None) → (k : ℕ) → is_inlined rooms k ≡ true →
      room_with layout (info_call groups most [] k) ≤ most_room
  room_at_first layout none k is =
      let s = shown (room_at rooms k) is in
      let small = are.small k s.value s.is in
      let fits = room_of_call layout none most [] k s.value s.is (enough k is) (free_first (suc (are.rank k)) s.value) in
      omega (arith, small, fits)

  -- Of the groups below that rank, none is at its limit.
  abbrev AreFreeAll : ℕ → List ℕ → Type 0
  AreFreeAll top opened = (j : ℕ) → is_inlined rooms j ≡ true → are.rank j < top → is_at_call_limit opened j ≡ false

  free_after : (k : ℕ) (opened : List ℕ) → AreFreeAll (suc (are.rank k)) opened → (j : ℕ) → is_inlined rooms j ≡ true → are.rank j < are.rank k →
      AreFreeAll (suc (are.rank j)) (opened ++ k ∷ [])
  free_after k opened free j is below i inlined at_most =
      let other : i ≡ k → ⊥ = λ same. (let ranks = ap are.rank same in omega (arith, ranks, at_most, below)) in
      other_open [] opened k i other ∙ free i inlined (omega (arith, at_most, below))

  -- What stands for the call does not depend on the calls around it.
  pub same_call : (m l : ℕ) (opened around : List ℕ) (k : ℕ) → is_inlined rooms k ≡ true → are.rank k < m → are.rank k < l → AreFreeAll (suc (are.rank k)) opened →
      AreFreeAll (suc (are.rank k)) around → info_call groups m opened k ≡ info_call groups l around k
  same_call zero l opened around k is left right free also = absurd (omega (arith, left))
  same_call (suc m) zero opened around k is left right free also = absurd (omega (arith, right))
  same_call (suc m) (suc l) opened around k is left right free also =
      let s = shown (room_at rooms k) is in
      let b = are.bodies k s.value s.is in
      let same = b.same (info_call groups m (opened ++ k ∷ [])) (info_call groups l (around ++ k ∷ []))
      (λ j known_j below. same_call m l (opened ++ k ∷ []) (around ++ k ∷ []) j known_j (omega (arith, left, below)) (omega (arith, right, below)) (free_after k opened free j known_j below)
      (free_after k around also j known_j below)) in
      call_opens groups m opened k b.body (free k is (omega arith)) b.at
      ∙ ap (called k) same
      ∙ sym (call_opens groups l around k b.body (also k is (omega arith)) b.at)

  -- The first call of such a group holds its body, with what stands for first calls.
  pub record OpensFirst (k : ℕ) : Type 0 where
    pub body : InfoTree
    pub at : slice_get groups k ≡ Some body
    pub is : info_call groups most [] k ≡ called k (info_written (info_call groups most []) body).front
    pub same : (call other : ℕ → CorePattern) → ((j : ℕ) → is_inlined rooms j ≡ true → are.rank j < are.rank k → call j ≡ other j) →
        (info_written call body).front ≡ (info_written other body).front

  pub opens_first : (k : ℕ) → is_inlined rooms k ≡ true → OpensFirst k
  opens_first k is =
      let s = shown (room_at rooms k) is in
      let b = are.bodies k s.value s.is in
      let room = enough k is in
      let left = most - 1 in
      let more : most ≡ suc left = omega (arith, room) in
      let same = b.same (info_call groups left (k ∷ [])) (info_call groups most [])
      (λ j known_j below. same_call left most (k ∷ []) [] j known_j (omega (arith, room, below)) (enough j known_j) (free_after k [] (λ i known_i at_most. refl) j known_j below)
      (λ i known_i at_most. refl)) in
      record {
        body = b.body;
        at = b.at;
        is = ap (λ m. info_call groups m [] k) more ∙ call_opens groups left [] k b.body refl b.at ∙ ap (called k) same;
        same = b.same;
      }

  -- the body that is known of it
  pub inlined_leads : (k : ℕ) (x : InfoTree) → is_inlined rooms k ≡ true → slice_get groups k ≡ Some x → (call other : ℕ → CorePattern) →
      ((j : ℕ) → is_inlined rooms j ≡ true → are.rank j < are.rank k → call j ≡ other j) → (info_written call x).front ≡ (info_written other x).front
  inlined_leads k x is at call other lower =
      let it = opens_first k is in
      let same : it.body ≡ x = same_Some it.body x (sym it.at ∙ at) in
      subst (λ y. (info_written call y).front ≡ (info_written other y).front) same (it.same call other lower)

  -- one that writes nothing
  pub silent_calls : AreSilent groups rooms known
  silent_calls layout none m opened k is left free = room_where_free layout (λ j out. none_of (layout j) (none j out)) m opened k is left free
