-- The slots of calls that stay: what a call writes, and what a return puts back.
use Rattle.std.proofs.Common.{◌≡◌, ℕ, zero, suc, ◌+◌, ◌-◌, ◌*◌, ◌<◌, ◌≤◌, ◌⊎◌, inl, inr, ⊎_elim, List, ◌∷◌, length, take, get_or, set, Some, refl, sym, ap, ◌∙◌, subst, arith, length-set, get_or-set_same, get_or-set_other, cond}
use Rattle.std.proofs.Math.Nat.{mul-le-mul_right}
use Rattle.std.proofs.lemmas.Bool.{cases_lt}
use Rattle.std.proofs.lemmas.List.{take-set-le}
use Rattle.std.proofs.lemmas.Option.{same_Some}
use Rattle.fancy_regex_program.specs.Ops.{Place}
use Rattle.fancy_regex_program.specs.Machine.{unset, frame_of, copied, kept, taken_back, open_calls}
use Rattle.fancy_regex_program.specs.Code.{Layout}
use Rattle.fancy_regex_program.specs.Layouts.{frames_end, IsPlaced, AreApart}
use Rattle.fancy_regex_program.proofs.OpenCalls.{calls_of, one_call_more, no_call_more, same_or_not, no_fewer}
use Rattle.fancy_regex_program_laws.proofs.Runs.{Keep, eq_self, eq_other}

-- What is copied.
pub copied_long : (from to n : ℕ) (m : List ℕ) → length (copied from to n m) ≡ length m
copied_long from to zero m = refl
copied_long from to (suc n) m = length-set (copied from to n m) (to + n) (get_or (copied from to n m) (from + n) 0) ∙ copied_long from to n m

pub copied_other : (from to n : ℕ) (m : List ℕ) (j : ℕ) → (j < to) ⊎ (to + n ≤ j) → get_or (copied from to n m) j 0 ≡ get_or m j 0
copied_other from to zero m j out = refl
copied_other from to (suc n) m j out =
    let ne : j ≡ to + n → ⊥ = λ (e : j ≡ to + n). ⊎_elim (λ (lt : j < to). omega arith) (λ (ge : to + suc n ≤ j). omega arith) out in
    get_or-set_other (copied from to n m) (to + n) j (get_or (copied from to n m) (from + n) 0) 0 ne
    ∙ copied_other from to n m j (⊎_elim (λ (lt : j < to). inl lt) (λ (ge : to + suc n ≤ j). inr (omega arith)) out)

pub copied_at : (from to n : ℕ) (m : List ℕ) (i : ℕ) → i < n → to + n ≤ length m → (from + n ≤ to) ⊎ (to + n ≤ from) →
    get_or (copied from to n m) (to + i) 0 ≡ get_or m (from + i) 0
copied_at from to zero m i lt room apart = absurd (omega arith)
copied_at from to (suc n) m i lt room apart =
    let c = copied from to n m in
    let v = get_or c (from + n) 0 in
    let out : (from + n < to) ⊎ (to + n ≤ from + n) = ⊎_elim (λ (le : from + suc n ≤ to). inl (omega arith)) (λ (ge : to + suc n ≤ from). inr (omega arith)) apart in
    ⊎_elim
    (λ (before : i < n).
    let ne : to + i ≡ to + n → ⊥ = λ (e : to + i ≡ to + n). omega arith in
    get_or-set_other c (to + n) (to + i) v 0 ne
    ∙ copied_at from to n m i before (omega arith) (⊎_elim (λ (le : from + suc n ≤ to). inl (omega arith)) (λ (ge : to + suc n ≤ from). inr (omega arith)) apart))
    (λ (past : n ≤ i).
    let e : i ≡ n = omega arith in
    ap (λ q. get_or (set c (to + n) v) (to + q) 0) e ∙ get_or-set_same c (to + n) v 0 (omega (arith, copied_long from to n m))
    ∙ copied_other from to n m (from + n) out ∙ ap (λ q. get_or m (from + q) 0) (sym e))
    (cases_lt i n)

pub take_copied : (base from to n : ℕ) (m : List ℕ) → base ≤ to → take base (copied from to n m) ≡ take base m
take_copied base from to zero m le = refl
take_copied base from to (suc n) m le =
    take-set-le base (copied from to n m) (to + n) (get_or (copied from to n m) (from + n) 0) (omega arith) ∙ take_copied base from to n m le

kept_none : (c : Place) (m : List ℕ) → kept c 0 m ≡ m
kept_none c m = ap (λ b. cond b m (copied c.first (frame_of c 0 + 1) c.own m)) (eq_self 0)

kept_some : (c : Place) (d : ℕ) (m : List ℕ) → kept c (suc d) m ≡ copied c.first (frame_of c (suc d) + 1) c.own m
kept_some c d m = ap (λ b. cond b m (copied c.first (frame_of c (suc d) + 1) c.own m)) (eq_other (suc d) 0 (λ (e : suc d ≡ 0). omega arith))

back_none : (c : Place) (m : List ℕ) → taken_back c 0 m ≡ m
back_none c m = ap (λ b. cond b m (copied (frame_of c 0 + 1) c.first c.own m)) (eq_self 0)

back_some : (c : Place) (d : ℕ) (m : List ℕ) → taken_back c (suc d) m ≡ copied (frame_of c (suc d) + 1) c.first c.own m
back_some c d m = ap (λ b. cond b m (copied (frame_of c (suc d) + 1) c.first c.own m)) (eq_other (suc d) 0 (λ (e : suc d ≡ 0). omega arith))

kept_long : (c : Place) (d : ℕ) (m : List ℕ) → length (kept c d m) ≡ length m
kept_long c zero m = ap length (kept_none c m)
kept_long c (suc d) m = ap length (kept_some c d m) ∙ copied_long c.first (frame_of c (suc d) + 1) c.own m

back_long : (c : Place) (d : ℕ) (m : List ℕ) → length (taken_back c d m) ≡ length m
back_long c zero m = ap length (back_none c m)
back_long c (suc d) m = ap length (back_some c d m) ∙ copied_long (frame_of c (suc d) + 1) c.first c.own m

kept_other : (c : Place) (d : ℕ) (m : List ℕ) (j : ℕ) → (j < frame_of c d + 1) ⊎ (frame_of c d + 1 + c.own ≤ j) → get_or (kept c d m) j 0 ≡ get_or m j 0
kept_other c zero m j out = ap (λ (l : List ℕ). get_or l j 0) (kept_none c m)
kept_other c (suc d) m j out = ap (λ (l : List ℕ). get_or l j 0) (kept_some c d m) ∙ copied_other c.first (frame_of c (suc d) + 1) c.own m j out

back_other : (c : Place) (d : ℕ) (m : List ℕ) (j : ℕ) → (j < c.first) ⊎ (c.first + c.own ≤ j) → get_or (taken_back c d m) j 0 ≡ get_or m j 0
back_other c zero m j out = ap (λ (l : List ℕ). get_or l j 0) (back_none c m)
back_other c (suc d) m j out = ap (λ (l : List ℕ). get_or l j 0) (back_some c d m) ∙ copied_other (frame_of c (suc d) + 1) c.first c.own m j out

take_kept_slots : (base : ℕ) (c : Place) (d : ℕ) (m : List ℕ) → base ≤ frame_of c d + 1 → take base (kept c d m) ≡ take base m
take_kept_slots base c zero m le = ap (take base) (kept_none c m)
take_kept_slots base c (suc d) m le = ap (take base) (kept_some c d m) ∙ take_copied base c.first (frame_of c (suc d) + 1) c.own m le

take_back_slots : (base : ℕ) (c : Place) (d : ℕ) (m : List ℕ) → base ≤ c.first → take base (taken_back c d m) ≡ take base m
take_back_slots base c zero m le = ap (take base) (back_none c m)
take_back_slots base c (suc d) m le = ap (take base) (back_some c d m) ∙ take_copied base (frame_of c (suc d) + 1) c.first c.own m le

open_is : (d : ℕ) → d < unset → open_calls d ≡ d
open_is d lt = ap (λ b. cond b 0 d) (eq_other d unset (λ (e : d ≡ unset). omega arith))

-- the slots where a call is entered that comes back to q, and where one is come back from
abbrev pub slots_entered : Place → ℕ → ℕ → List ℕ → List ℕ
slots_entered c d q m = set (kept c d (set m (frame_of c d) q)) c.count (d + 1)

abbrev pub slots_after : Place → ℕ → List ℕ → List ℕ
slots_after c d n = taken_back c d (set n c.count d)

-- the slots of the groups' calls where those are open
module _ (layout : Layout) (base from bodies_end total : ℕ) (apart : AreApart layout from bodies_end total) (over : base ≤ from) where
  -- The slot is one of the main program, or a group's own where a call of it is open, or one of a frame of an open call.
  pub data Live (opened : List ℕ) (j : ℕ) : Type 0 where
    in_main : base ≤ j → j < from → Live opened j
    in_own : (k : ℕ) (c : Place) → layout k ≡ Some c → 1 ≤ calls_of k opened → c.first ≤ j → j < c.first + c.own → Live opened j
    in_frame : (k : ℕ) (c : Place) → layout k ≡ Some c → c.frames ≤ j → j < c.frames + calls_of k opened * (c.own + 1) → j < frames_end c → Live opened j

  -- The count of each group says how many calls of it are open.
  pub record Counts (opened m : List ℕ) : Type 0 where
    pub room : total ≤ length m
    pub at : (k : ℕ) (c : Place) → layout k ≡ Some c → open_calls (get_or m c.count 0) ≡ calls_of k opened

  -- What a part of the program with its own slots from lo on, below hi, keeps of the slots where these calls are open.
  pub record KeptCalls (opened : List ℕ) (lo hi : ℕ) (m n : List ℕ) : Type 0 where
    pub long : length n ≡ length m
    pub live : (j : ℕ) → Live opened j → (j < lo) ⊎ (hi ≤ j) → get_or n j 0 ≡ get_or m j 0
    pub counts : (k : ℕ) (c : Place) → layout k ≡ Some c → open_calls (get_or n c.count 0) ≡ open_calls (get_or m c.count 0)

  live_more : (opened : List ℕ) (k j : ℕ) → Live opened j → Live (k ∷ opened) j
  live_more opened k j (in_main ge lt) = in_main ge lt
  live_more opened k j (in_own i c is some ge lt) = in_own i c is (omega (arith, no_fewer i k opened)) ge lt
  live_more opened k j (in_frame i c is ge lt below) = in_frame i c is ge (omega (arith, mul-le-mul_right (c.own + 1) (no_fewer i k opened))) below

  live_from : (opened : List ℕ) (j : ℕ) → Live opened j → base ≤ j
  live_from opened j (in_main ge lt) = ge
  live_from opened j (in_own i c is some ge lt) = let p = apart.placed i c is in omega (arith, p.own_from)
  live_from opened j (in_frame i c is ge lt below) = let p = apart.placed i c is in omega (arith, p.own_from, p.own_to, p.count_from, p.frames_from)

  same_place : (k : ℕ) (c d : Place) → layout k ≡ Some c → layout k ≡ Some d → c ≡ d
  same_place k c d is is' = same_Some c d (sym is ∙ is')

  -- two groups' counts, and a slot of a frame
  frame_apart : (i k j : ℕ) (c d : Place) → layout i ≡ Some c → layout k ≡ Some d → (i ≡ k → ⊥) → c.count ≤ j → j < frames_end c → (j < d.count) ⊎ (frames_end d ≤ j)
  frame_apart i k j c d is is' ne ge lt =
      ⊎_elim (λ (le : frames_end c ≤ d.count). inl (omega arith)) (λ (le : frames_end d ≤ c.count). inr (omega arith)) (apart.frames i k c d is is' ne)

  not_count : (opened : List ℕ) (j : ℕ) → Live opened j → (k : ℕ) (d : Place) → layout k ≡ Some d → j ≡ d.count → ⊥
  not_count opened j (in_main ge lt) k d is e = let p = apart.placed k d is in omega (arith, p.own_from, p.own_to, p.count_from)
  not_count opened j (in_own i c is' some ge lt) k d is e =
      let p = apart.placed k d is in
      let q = apart.placed i c is' in
      omega (arith, p.count_from, q.own_to)
  not_count opened j (in_frame i c is' ge lt below) k d is e =
      let p = apart.placed k d is in
      let q = apart.placed i c is' in
      ⊎_elim
      (λ (same : i ≡ k). (let one = same_place k c d (subst (λ (n : ℕ). layout n ≡ Some c) same is') is in let counts = ap (λ (x : Place). x.count) one in omega (arith, q.frames_from, counts)))
      (λ (ne : i ≡ k → ⊥). ⊎_elim (λ (lt' : j < d.count). omega arith) (λ (ge' : frames_end d ≤ j). omega (arith, p.frames_from)) (frame_apart i k j c d is' is ne (omega (arith, q.frames_from)) below))
      (same_or_not i k)

  -- it is in no frame that is not open
  not_next : (opened : List ℕ) (j : ℕ) → Live opened j → (k n : ℕ) (d : Place) → layout k ≡ Some d → calls_of k opened ≡ n → n < d.most →
      (j < frame_of d n) ⊎ (frame_of d n + 1 + d.own ≤ j)
  not_next opened j (in_main ge lt) k n d is e few = let p = apart.placed k d is in inl (omega (arith, p.own_from, p.own_to, p.count_from, p.frames_from))
  not_next opened j (in_own i c is' some ge lt) k n d is e few =
      let p = apart.placed k d is in
      let q = apart.placed i c is' in
      inl (omega (arith, p.count_from, p.frames_from, q.own_to))
  not_next opened j (in_frame i c is' ge lt below) k n d is e few =
      let p = apart.placed k d is in
      let q = apart.placed i c is' in
      ⊎_elim
      (λ (same : i ≡ k). inl (subst (λ (x : Place). j < x.frames + n * (x.own + 1)) (same_place k c d (subst (λ (o : ℕ). layout o ≡ Some c) same is') is)
      (subst (λ (o : ℕ). j < c.frames + o * (c.own + 1)) (ap (λ (o : ℕ). calls_of o opened) same ∙ e) lt)))
      (λ (ne : i ≡ k → ⊥).
      ⊎_elim (λ (lt' : j < d.count). inl (omega (arith, p.frames_from)))
      (λ (ge' : frames_end d ≤ j). inr (omega (arith, mul-le-mul_right (d.own + 1) few)))
      (frame_apart i k j c d is' is ne (omega (arith, q.frames_from)) below))
      (same_or_not i k)

  -- a group's own slot is live where a call of it is open
  own_open : (opened : List ℕ) (j : ℕ) → Live opened j → (k : ℕ) (d : Place) → layout k ≡ Some d → d.first ≤ j → j < d.first + d.own → 1 ≤ calls_of k opened
  own_open opened j (in_main ge lt) k d is from_first to_last = let p = apart.placed k d is in absurd (omega (arith, p.own_from))
  own_open opened j (in_own i c is' some ge lt) k d is from_first to_last =
      ⊎_elim (λ (same : i ≡ k). subst (λ (o : ℕ). 1 ≤ calls_of o opened) same some)
      (λ (ne : i ≡ k → ⊥). ⊎_elim (λ (le : c.first + c.own ≤ d.first). absurd (omega arith)) (λ (le : d.first + d.own ≤ c.first). absurd (omega arith)) (apart.own i k c d is' is ne))
      (same_or_not i k)
  own_open opened j (in_frame i c is' ge lt below) k d is from_first to_last =
      let p = apart.placed k d is in
      let q = apart.placed i c is' in
      absurd (omega (arith, p.own_to, q.count_from, q.frames_from))

  -- The slots from lo on, below hi, are all live.
  pub record IsRegion (opened : List ℕ) (lo hi : ℕ) : Type 0 where
    pub start : base ≤ lo
    pub live : (j : ℕ) → lo ≤ j → j < hi → Live opened j

  pub kept_stays : (opened : List ℕ) (lo hi : ℕ) (m : List ℕ) → KeptCalls opened lo hi m m
  kept_stays opened lo hi m = record { long = refl; live = λ j l out. refl; counts = λ k c is. refl }

  pub kept_joins : (opened : List ℕ) (lo hi : ℕ) (a b c : List ℕ) → KeptCalls opened lo hi a b → KeptCalls opened lo hi b c → KeptCalls opened lo hi a c
  kept_joins opened lo hi a b c f g = record {
    long = g.long ∙ f.long;
    live = λ j l out. g.live j l out ∙ f.live j l out;
    counts = λ k p is. g.counts k p is ∙ f.counts k p is;
  }

  pub kept_still : (opened : List ℕ) (lo hi : ℕ) (m n : List ℕ) → Counts opened m → KeptCalls opened lo hi m n → Counts opened n
  kept_still opened lo hi m n h f = record { room = omega (arith, h.room, f.long); at = λ k c is. f.counts k c is ∙ h.at k c is }

  pub kept_own : (opened : List ℕ) (lo hi : ℕ) → IsRegion opened lo hi → (m : List ℕ) (slot v : ℕ) → lo ≤ slot → slot < hi → KeptCalls opened lo hi m (set m slot v)
  kept_own opened lo hi region m slot v ge lt = record {
    long = length-set m slot v;
    live = λ j l out. (
        let ne : j ≡ slot → ⊥ = λ (e : j ≡ slot). ⊎_elim (λ (lt' : j < lo). omega arith) (λ (ge' : hi ≤ j). omega arith) out in
        get_or-set_other m slot j v 0 ne);
    counts = λ k c is. ap open_calls (get_or-set_other m slot c.count v 0 (λ e. not_count opened slot (region.live slot ge lt) k c is (sym e)));
  }

  pub kept_below : (opened : List ℕ) (lo hi : ℕ) (m : List ℕ) (slot v : ℕ) → slot < base → KeptCalls opened lo hi m (set m slot v)
  kept_below opened lo hi m slot v lt = record {
    long = length-set m slot v;
    live = λ j l out. (
        let ge : base ≤ j = live_from opened j l in
        let ne : j ≡ slot → ⊥ = λ (e : j ≡ slot). omega arith in
        get_or-set_other m slot j v 0 ne);
    counts = λ k c is. (
        let p = apart.placed k c is in
        let ne : c.count ≡ slot → ⊥ = λ (e : c.count ≡ slot). omega (arith, p.own_from, p.own_to, p.count_from) in
        ap open_calls (get_or-set_other m slot c.count v 0 ne));
  }

  -- one call of a group, where so many calls of it are open already
  module _ (opened : List ℕ) (k d : ℕ) (c : Place) (is : layout k ≡ Some c) (open_is_d : calls_of k opened ≡ d) (few : d < c.most) where
    pub p : IsPlaced from bodies_end total c
    p = apart.placed k c is

    -- the frame is there
    frame_room : frame_of c d + 1 + c.own ≤ frames_end c
    frame_room = omega (arith, mul-le-mul_right (c.own + 1) few)

    pub entered_long : (q : ℕ) (m : List ℕ) → length (slots_entered c d q m) ≡ length m
    entered_long q m =
        length-set (kept c d (set m (frame_of c d) q)) c.count (d + 1) ∙ kept_long c d (set m (frame_of c d) q) ∙ length-set m (frame_of c d) q

    pub after_long : (n : List ℕ) → length (slots_after c d n) ≡ length n
    after_long n = back_long c d (set n c.count d) ∙ length-set n c.count d

    entered_other : (q : ℕ) (m : List ℕ) (j : ℕ) → (j ≡ c.count → ⊥) → (j < frame_of c d) ⊎ (frame_of c d + 1 + c.own ≤ j) → get_or (slots_entered c d q m) j 0 ≡ get_or m j 0
    entered_other q m j ne out =
        let other : j ≡ frame_of c d → ⊥ = λ (e : j ≡ frame_of c d). ⊎_elim (λ (lt : j < frame_of c d). omega arith) (λ (ge : frame_of c d + 1 + c.own ≤ j). omega arith) out in
        get_or-set_other (kept c d (set m (frame_of c d) q)) c.count j (d + 1) 0 ne
        ∙ kept_other c d (set m (frame_of c d) q) j (⊎_elim (λ (lt : j < frame_of c d). inl (omega arith)) (λ (ge : frame_of c d + 1 + c.own ≤ j). inr ge) out)
        ∙ get_or-set_other m (frame_of c d) j q 0 other

    entered_frame : (q : ℕ) (m : List ℕ) → total ≤ length m → get_or (slots_entered c d q m) (frame_of c d) 0 ≡ q
    entered_frame q m room =
        let ne : frame_of c d ≡ c.count → ⊥ = λ (e : frame_of c d ≡ c.count). omega (arith, p.frames_from) in
        get_or-set_other (kept c d (set m (frame_of c d) q)) c.count (frame_of c d) (d + 1) 0 ne
        ∙ kept_other c d (set m (frame_of c d) q) (frame_of c d) (inl (omega arith))
        ∙ get_or-set_same m (frame_of c d) q 0 (omega (arith, frame_room, p.frames_to))

    entered_count : (q : ℕ) (m : List ℕ) → total ≤ length m → get_or (slots_entered c d q m) c.count 0 ≡ d + 1
    entered_count q m room =
        get_or-set_same (kept c d (set m (frame_of c d) q)) c.count (d + 1) 0
        (omega (arith, p.frames_from, p.frames_to, kept_long c d (set m (frame_of c d) q), length-set m (frame_of c d) q))

    after_other : (n : List ℕ) (j : ℕ) → (j ≡ c.count → ⊥) → (j < c.first) ⊎ (c.first + c.own ≤ j) → get_or (slots_after c d n) j 0 ≡ get_or n j 0
    after_other n j ne out = back_other c d (set n c.count d) j out ∙ get_or-set_other n c.count j d 0 ne

    after_count : (n : List ℕ) → total ≤ length n → get_or (slots_after c d n) c.count 0 ≡ d
    after_count n room =
        back_other c d (set n c.count d) c.count (inr (omega (arith, p.own_to, p.count_from))) ∙ get_or-set_same n c.count d 0 (omega (arith, p.frames_from, p.frames_to))

    pub take_entered : (q : ℕ) (m : List ℕ) → take base (slots_entered c d q m) ≡ take base m
    take_entered q m =
        let far : base ≤ c.count = omega (arith, p.own_from, p.own_to, p.count_from) in
        take-set-le base (kept c d (set m (frame_of c d) q)) c.count (d + 1) far
        ∙ take_kept_slots base c d (set m (frame_of c d) q) (omega (arith, far, p.frames_from)) ∙ take-set-le base m (frame_of c d) q (omega (arith, far, p.frames_from))

    pub take_after : (n : List ℕ) → take base (slots_after c d n) ≡ take base n
    take_after n =
        take_back_slots base c d (set n c.count d) (omega (arith, p.own_from)) ∙ take-set-le base n c.count d (omega (arith, p.own_from, p.own_to, p.count_from))

    -- The group's own slots go into the frame where they are another call's, and come back.
    entered_own : (q i : ℕ) (m : List ℕ) → total ≤ length m → 1 ≤ d → i < c.own → get_or (slots_entered c d q m) (frame_of c d + 1 + i) 0 ≡ get_or m (c.first + i) 0
    entered_own q i m room some lt =
        let m0 = set m (frame_of c d) q in
        let ne : frame_of c d + 1 + i ≡ c.count → ⊥ = λ (e : frame_of c d + 1 + i ≡ c.count). omega (arith, p.frames_from) in
        let other : c.first + i ≡ frame_of c d → ⊥ = λ (e : c.first + i ≡ frame_of c d). omega (arith, p.own_to, p.count_from, p.frames_from) in
        get_or-set_other (kept c d m0) c.count (frame_of c d + 1 + i) (d + 1) 0 ne
        ∙ in_frame_of d refl ∙ get_or-set_other m (frame_of c d) (c.first + i) q 0 other
      where
        in_frame_of : (n : ℕ) → d ≡ n → get_or (kept c d (set m (frame_of c d) q)) (frame_of c d + 1 + i) 0 ≡ get_or (set m (frame_of c d) q) (c.first + i) 0
        in_frame_of zero e = absurd (omega arith)
        in_frame_of (suc n) e =
            subst (λ (x : ℕ). get_or (kept c x (set m (frame_of c d) q)) (frame_of c x + 1 + i) 0 ≡ get_or (set m (frame_of c d) q) (c.first + i) 0) (sym e)
            (ap (λ (l : List ℕ). get_or l (frame_of c (suc n) + 1 + i) 0) (kept_some c n (set m (frame_of c d) q))
            ∙ copied_at c.first (frame_of c (suc n) + 1) c.own (set m (frame_of c d) q) i lt
            (omega (arith, length-set m (frame_of c d) q, subst (λ (x : ℕ). frame_of c x + 1 + c.own ≤ frames_end c) e frame_room, p.frames_to))
            (inl (omega (arith, p.own_to, p.count_from, p.frames_from))))

    after_own : (i : ℕ) (n : List ℕ) → total ≤ length n → 1 ≤ d → i < c.own → get_or (slots_after c d n) (c.first + i) 0 ≡ get_or n (frame_of c d + 1 + i) 0
    after_own i n room some lt =
        let other : frame_of c d + 1 + i ≡ c.count → ⊥ = λ (e : frame_of c d + 1 + i ≡ c.count). omega (arith, p.frames_from) in
        of_frame d refl ∙ get_or-set_other n c.count (frame_of c d + 1 + i) d 0 other
      where
        of_frame : (e : ℕ) → d ≡ e → get_or (taken_back c d (set n c.count d)) (c.first + i) 0 ≡ get_or (set n c.count d) (frame_of c d + 1 + i) 0
        of_frame zero e = absurd (omega arith)
        of_frame (suc x) e =
            subst (λ (y : ℕ). get_or (taken_back c y (set n c.count d)) (c.first + i) 0 ≡ get_or (set n c.count d) (frame_of c y + 1 + i) 0) (sym e)
            (ap (λ (l : List ℕ). get_or l (c.first + i) 0) (back_some c x (set n c.count d))
            ∙ copied_at (frame_of c (suc x) + 1) c.first c.own (set n c.count d) i lt (omega (arith, length-set n c.count d, p.own_to, p.count_from, p.frames_from, p.frames_to))
            (inr (omega (arith, p.own_to, p.count_from, p.frames_from))))

    counts_differ : (i : ℕ) (e : Place) → layout i ≡ Some e → (i ≡ k → ⊥) → e.count ≡ c.count → ⊥
    counts_differ i e ie ne same =
        let q = apart.placed i e ie in
        ⊎_elim (λ (le : frames_end e ≤ c.count). omega (arith, q.frames_from)) (λ (le : frames_end c ≤ e.count). omega (arith, p.frames_from)) (apart.frames i k e c ie is ne)

    count_out : (i : ℕ) (e : Place) → layout i ≡ Some e → (i ≡ k → ⊥) → (e.count < frame_of c d) ⊎ (frame_of c d + 1 + c.own ≤ e.count)
    count_out i e ie ne =
        let q = apart.placed i e ie in
        ⊎_elim (λ (le : frames_end e ≤ c.count). inl (omega (arith, q.frames_from, p.frames_from))) (λ (le : frames_end c ≤ e.count). inr (omega (arith, frame_room))) (apart.frames i k e c ie is ne)

    -- where the call is open
    pub entered_counts : (q : ℕ) (m : List ℕ) → Counts opened m → Counts (k ∷ opened) (slots_entered c d q m)
    entered_counts q m h = record {
      room = omega (arith, entered_long q m, h.room);
      at = λ i e ie.
          ⊎_elim
          (λ (same : i ≡ k). (
          let one : e ≡ c = same_place k e c (subst (λ (o : ℕ). layout o ≡ Some e) same ie) is in
          ap (λ (x : Place). open_calls (get_or (slots_entered c d q m) x.count 0)) one ∙ ap open_calls (entered_count q m h.room)
          ∙ open_is (d + 1) (omega (arith, p.most_is)) ∙ (let more : d + 1 ≡ suc (calls_of k opened) = omega (arith, open_is_d) in more)
          ∙ sym (one_call_more k opened) ∙ ap (λ (o : ℕ). calls_of o (k ∷ opened)) (sym same)))
          (λ (ne : i ≡ k → ⊥).
          ap open_calls (entered_other q m e.count (counts_differ i e ie ne) (count_out i e ie ne)) ∙ h.at i e ie ∙ sym (no_call_more i k opened ne))
          (same_or_not i k);
    }

    -- the slots of its body
    pub own_region : IsRegion (k ∷ opened) c.first (c.first + c.own)
    own_region = record {
      start = omega (arith, p.own_from);
      live = λ j ge lt. in_own k c is (omega (arith, one_call_more k opened)) ge lt;
    }

    frame_live : (j : ℕ) → frame_of c d ≤ j → j < frame_of c d + 1 + c.own → Live (k ∷ opened) j
    frame_live j ge lt =
        in_frame k c is (omega arith) (subst (λ (o : ℕ). j < c.frames + o * (c.own + 1)) (sym (one_call_more k opened ∙ ap suc open_is_d)) (omega arith)) (omega (arith, frame_room))

    frame_past : (j : ℕ) → frame_of c d ≤ j → c.first + c.own ≤ j
    frame_past j ge = omega (arith, p.own_to, p.count_from, p.frames_from)

    module _ (q : ℕ) (m n : List ℕ) (h : Counts opened m) (f : KeptCalls (k ∷ opened) c.first (c.first + c.own) (slots_entered c d q m) n) where
      pub many : length n ≡ length m
      many = f.long ∙ entered_long q m

      room : total ≤ length n
      room = omega (arith, many, h.room)

      -- where it comes back to
      pub comes_back_to : get_or n (frame_of c d) 0 ≡ q
      comes_back_to = f.live (frame_of c d) (frame_live (frame_of c d) (omega arith) (omega arith)) (inr (frame_past (frame_of c d) (omega arith))) ∙ entered_frame q m h.room

      own_back : (j : ℕ) → Live opened j → c.first ≤ j → j < c.first + c.own → get_or (slots_after c d n) j 0 ≡ get_or m j 0
      own_back j l ge lt =
          let i = j - c.first in
          let at : c.first + i ≡ j = omega arith in
          let inside : i < c.own = omega arith in
          let some : 1 ≤ d = omega (arith, own_open opened j l k c is ge lt, open_is_d) in
          let x = frame_of c d + 1 + i in
          let past : frame_of c d ≤ x = omega arith in
          let within : x < frame_of c d + 1 + c.own = omega (arith, inside) in
          ap (λ (y : ℕ). get_or (slots_after c d n) y 0) (sym at) ∙ after_own i n room some inside
          ∙ f.live x (frame_live x past within) (inr (frame_past x past)) ∙ entered_own q i m h.room some inside ∙ ap (λ (y : ℕ). get_or m y 0) at

      other_back : (j : ℕ) → Live opened j → (j < c.first) ⊎ (c.first + c.own ≤ j) → get_or (slots_after c d n) j 0 ≡ get_or m j 0
      other_back j l out =
          let ne : j ≡ c.count → ⊥ = not_count opened j l k c is in
          after_other n j ne out ∙ f.live j (live_more opened k j l) out ∙ entered_other q m j ne (not_next opened j l k d c is open_is_d few)

      -- each slot that is live is as it was
      pub live_back : (j : ℕ) → Live opened j → get_or (slots_after c d n) j 0 ≡ get_or m j 0
      live_back j l =
          ⊎_elim (λ (before : j < c.first). other_back j l (inl before))
          (λ (ge : c.first ≤ j). ⊎_elim (λ (lt : j < c.first + c.own). own_back j l ge lt) (λ (past : c.first + c.own ≤ j). other_back j l (inr past)) (cases_lt j (c.first + c.own)))
          (cases_lt j c.first)

      counts_back : (i : ℕ) (e : Place) → layout i ≡ Some e → open_calls (get_or (slots_after c d n) e.count 0) ≡ open_calls (get_or m e.count 0)
      counts_back i e ie =
          ⊎_elim
          (λ (same : i ≡ k). (
          let one : e ≡ c = same_place k e c (subst (λ (o : ℕ). layout o ≡ Some e) same ie) is in
          ap (λ (x : Place). open_calls (get_or (slots_after c d n) x.count 0)) one ∙ ap open_calls (after_count n room)
          ∙ open_is d (omega (arith, p.most_is)) ∙ sym open_is_d ∙ sym (h.at k c is) ∙ ap (λ (x : Place). open_calls (get_or m x.count 0)) (sym one)))
          (λ (ne : i ≡ k → ⊥). (
          let o = apart.placed i e ie in
          ap open_calls (after_other n e.count (counts_differ i e ie ne) (inr (omega (arith, p.own_to, o.count_from)))) ∙ f.counts i e ie
          ∙ ap open_calls (entered_other q m e.count (counts_differ i e ie ne) (count_out i e ie ne))))
          (same_or_not i k)

      -- What the caller keeps is kept.
      pub kept_after : (lo hi : ℕ) → KeptCalls opened lo hi m (slots_after c d n)
      kept_after lo hi = record { long = after_long n ∙ many; live = λ j l out. live_back j l; counts = counts_back }

-- the parts of the program that have these own slots, where these calls are open
module _ (layout : Layout) (count from bodies_end total : ℕ) (apart : AreApart layout from bodies_end total) (over : 2 * count ≤ from) where
  abbrev pub keep_in : (opened : List ℕ) (lo hi : ℕ) → IsRegion layout (2 * count) from bodies_end total apart over opened lo hi → Keep count
  keep_in opened lo hi region = record {
    lead = lo - 2 * count;
    top = hi;
    Holds = Counts layout (2 * count) from bodies_end total apart over opened;
    Kept = KeptCalls layout (2 * count) from bodies_end total apart over opened lo hi;
    still = kept_still layout (2 * count) from bodies_end total apart over opened lo hi;
    stays = kept_stays layout (2 * count) from bodies_end total apart over opened lo hi;
    joins = kept_joins layout (2 * count) from bodies_end total apart over opened lo hi;
    own = λ m slot v ge lt. kept_own layout (2 * count) from bodies_end total apart over opened lo hi region m slot v (omega arith) lt;
    below = kept_below layout (2 * count) from bodies_end total apart over opened lo hi;
  }
