-- The machine follows the program of a pattern.
use Rattle.std.proofs.Common.{◌≡◌, ℕ, zero, suc, ◌+◌, ◌-◌, ◌*◌, ◌<◌, ◌≤◌, Bool, true, false, ◌&&◌, inl, inr, List, [], ◌∷◌, ◌++◌, length, take, drop, get_or, set, Option, Some, None, refl, sym, ap, ◌∙◌, subst, arith, append_assoc, length-append, length-set, get_or-set_other, cond}
use Rattle.std.specs.Prelude.{slice_get, ◌==◌, max, option_map, nat_lt, nat_le, is_some}
use Rattle.std.proofs.lemmas.Option.{none-some, same_Some, slice_get_past, slice_get-get_or}
use Rattle.std.proofs.Math.Nat.{max-le}
use Rattle.std.proofs.Math.Seq.{drop-append_seam}
use Rattle.std.proofs.lemmas.Bool.{cases_lt}
use Rattle.std.proofs.lemmas.Bool.Decides.{nat_tests}
use Rattle.std.specs.Str.{IsCharBoundary}
use Rattle.regex_hir.specs.Text.{is_boundary}
use Rattle.fancy_regex_meaning.specs.Ways.{MatchState}
use Rattle.fancy_regex_meaning.specs.WayLaws.{HasCharBoundaries}
use Rattle.fancy_regex_slots.specs.Memory.{Thread, truncated}
use Rattle.fancy_regex_program.specs.Ops.{Op}
use Rattle.fancy_regex_program.specs.Machine.{RunParameters, most_branches, Ending, ended, tick, back, RunState, Move, forks, cuts, cut_fails, is_valid_offset, is_start, is_scan, act, pop, follow, exec}
use Rattle.fancy_regex_program_laws.specs.ProgramLaws.{found_by_thread}
use Rattle.fancy_regex_program.specs.SlotLayout.{slots_of_way}
use Rattle.fancy_regex_program_laws.proofs.Denote.{Outcome, PersistentState, RunPoint, Continuation, SuccessContinuation, Denotation, overflowed, opens, backs, closes, drops_to}

-- the stack is the rest with more on it
pub record Above (rest stack : List Thread) : Type 0 where
  pub more : List Thread
  pub is : stack ≡ more ++ rest

pub above_refl : (rest : List Thread) → Above rest rest
above_refl rest = record { more = []; is = refl }

pub above_trans : {a b c : List Thread} → Above a b → Above b c → Above a c
above_trans {a} f g = record { more = g.more ++ f.more; is = g.is ∙ ap (λ x. g.more ++ x) f.is ∙ sym (append_assoc g.more f.more a) }

pub above_cons : (t : Thread) (rest : List Thread) → Above rest (t ∷ rest)
above_cons t rest = record { more = t ∷ []; is = refl }

-- what is cut down to the rest is the rest
pub lowered_above : (rest stack : List Thread) (n : ℕ) → n ≡ length rest → Above rest stack → truncated n stack ≡ rest
lowered_above rest stack n e above =
    let long : length stack - n ≡ length above.more = omega (arith, ap length above.is, length-append above.more rest) in
    ap (λ d. drop d stack) long ∙ ap (λ l. drop (length above.more) l) above.is ∙ drop-append_seam above.more rest

-- What a part of a program keeps. It writes slots of groups, which are below 2 * count, and slots of its own, which are from
-- 2 * count + lead on, below top. Of all other slots it keeps what `Kept` says, and `Holds` at each place.
pub record Keep (count : ℕ) : Type 1 where
  pub lead : ℕ
  pub top : ℕ
  pub Holds : List ℕ → Type 0
  pub Kept : List ℕ → List ℕ → Type 0
  pub still : (m n : List ℕ) → Holds m → Kept m n → Holds n
  pub stays : (m : List ℕ) → Kept m m
  pub joins : (a b c : List ℕ) → Kept a b → Kept b c → Kept a c
  pub own : (m : List ℕ) (slot v : ℕ) → 2 * count + lead ≤ slot → slot < top → Kept m (set m slot v)
  pub below : (m : List ℕ) (slot v : ℕ) → slot < 2 * count → Kept m (set m slot v)

-- a program all of whose slots are those of its groups and its own
abbrev pub lone : (count many : ℕ) → Keep count
lone count many = record {
  lead = 0;
  top = 2 * count + many;
  Holds = λ m. Unit {0};
  Kept = λ m n. Unit {0};
  still = λ m n h k. tt;
  stays = λ m. tt;
  joins = λ a b c f g. tt;
  own = λ m slot v from below. tt;
  below = λ m slot v below. tt;
}

module _ {count : ℕ} (keep : Keep count) where
  -- its own slots are there, and what holds at each place holds
  pub record Ready (m : List ℕ) : Type 0 where
    pub long : keep.top ≤ length m
    pub holds : keep.Holds m

  -- its own slots up to low are as they were, and the others are kept
  pub record Same (low : ℕ) (m n : List ℕ) : Type 0 where
    pub long : length n ≡ length m
    pub at : (j : ℕ) → 2 * count + keep.lead ≤ j → j < low → get_or n j 0 ≡ get_or m j 0
    pub kept : keep.Kept m n

  pub same_refl : (low : ℕ) (m : List ℕ) → Same low m m
  same_refl low m = record { long = refl; at = λ j ge lt. refl; kept = keep.stays m }

  pub same_trans : {low : ℕ} {a b c : List ℕ} → Same low a b → Same low b c → Same low a c
  same_trans {low} {a} {b} {c} f g = record {
    long = g.long ∙ f.long;
    at = λ j ge lt. g.at j ge lt ∙ f.at j ge lt;
    kept = keep.joins a b c f.kept g.kept;
  }

  pub same_lower : {low high : ℕ} {a b : List ℕ} → low ≤ high → Same high a b → Same low a b
  same_lower le f = record { long = f.long; at = λ j ge lt. f.at j ge (omega arith); kept = f.kept }

  -- a write of an own slot at or above low
  pub same_set : (low : ℕ) (m : List ℕ) (slot v : ℕ) → low ≤ slot → 2 * count + keep.lead ≤ slot → slot < keep.top → Same low m (set m slot v)
  same_set low m slot v le ge lt = record {
    long = length-set m slot v;
    at = λ j from below. let ne : j ≡ slot → _ = λ (e : j ≡ slot). absurd (omega arith) in get_or-set_other m slot j v 0 ne;
    kept = keep.own m slot v ge lt;
  }

  -- a write of a group's slot
  pub same_set_below : (low : ℕ) (m : List ℕ) (slot v : ℕ) → slot < 2 * count → Same low m (set m slot v)
  same_set_below low m slot v lt = record {
    long = length-set m slot v;
    at = λ j from below. let ne : j ≡ slot → _ = λ (e : j ≡ slot). absurd (omega arith) in get_or-set_other m slot j v 0 ne;
    kept = keep.below m slot v lt;
  }

  pub ready_same : {low : ℕ} {m n : List ℕ} → Same low m n → Ready m → Ready n
  ready_same {low} {m} {n} same ready = record { long = omega (arith, same.long, ready.long); holds = keep.still m n ready.holds same.kept }

-- An end that came, above so many branches: its answer and its number of backtracks are those of the outcome, and so are its peak and its
-- overflow, where the stack has been so high before. It passed no more branches than those and the ones that were opened.
pub record Reaches (whole : Bool) (base height : ℕ) (o : Option Ending) (e : Outcome) : Type 0 where
  pub ending : Ending
  pub comes : o ≡ Some ending
  pub answer : option_map (found_by_thread whole base) ending.answer ≡ e.answer
  pub few : ending.backtracks ≤ height + e.branches
  pub narrow : ending.peak ≤ height + e.branches
  pub backtracks : ending.backtracks ≡ e.backtracks
  pub peak : max height ending.peak ≡ max height e.peak
  pub overflow : overflowed height ending.overflow ≡ overflowed height e.overflow

-- an end that comes with enough steps, where it is claimed
pub record Within (whole : Bool) (base height : ℕ) (f : ℕ → Option Ending) (e : Outcome) : Type 0 where
  pub fuel : ℕ
  pub by : e.claimed ≡ true → (j : ℕ) → fuel ≤ j → Reaches whole base height (f j) e

-- the branches under the first thread
abbrev pub under : List Thread → ℕ
under [] = 0
under (t ∷ rest) = length rest

abbrev pub thread : ℕ → ℕ → List ℕ → Thread
thread pc p m = record { pc = pc; position = p; slots = m }

-- a branch that is neither a start nor a scan
popped : (k start scan : Bool) (x o : Option Ending) → start ≡ false → scan ≡ false →
    cond (k && start) x (option_map (cond scan (λ e. e) back) o) ≡ option_map back o
popped k true scan x o e f = absurd cc
popped k false true x o e f = absurd cc
popped true false false x o e f = refl
popped false false false x o e f = refl

-- a scan
looked_on : (k start scan : Bool) (x o : Option Ending) → start ≡ false → scan ≡ true →
    cond (k && start) x (option_map (cond scan (λ e. e) back) o) ≡ o
looked_on k true scan x o e f = absurd cc
looked_on k false false x o e f = absurd cc
looked_on true false true x None e f = refl
looked_on true false true x (Some y) e f = refl
looked_on false false true x None e f = refl
looked_on false false true x (Some y) e f = refl

pub boundary_is : (text : List ℕ) (i : ℕ) → IsCharBoundary text i → is_boundary text i ≡ true
unfolding is_boundary
boundary_is text i h = elim (cases_lt i (length text)) [
  | inl lt ↦ let lead = h.1 lt in rw (slice_get-get_or text i 0 lt) (grind (arith, nat_tests))
  | inr ge ↦ rw (slice_get_past text i ge) refl
]

pub place_is : (text : List ℕ) (i : ℕ) → IsCharBoundary text i → is_valid_offset text i ≡ true
place_is text i h =
    let le : i ≤ length text = h.0 in
    let here : nat_le i (length text) ≡ true = grind (arith, nat_tests) in
    ap (λ b. b && is_boundary text i) here ∙ boundary_is text i h

pub lt_yes : (a b : ℕ) → a < b → nat_lt a b ≡ true
lt_yes a b h = grind (arith, nat_tests)

pub lt_no : (a b : ℕ) → b ≤ a → nat_lt a b ≡ false
lt_no a b h = grind (arith, nat_tests)

pub lt_is : (a b : ℕ) → nat_lt a b ≡ true → a < b
lt_is a b h = grind (arith, nat_tests)

pub eq_yes : (a b : ℕ) → (a == b) ≡ true → a ≡ b
eq_yes a b h = grind (arith, nat_tests)

pub eq_self : (a : ℕ) → (a == a) ≡ true
eq_self a = grind (arith, nat_tests)

pub eq_other : (a b : ℕ) → (a ≡ b → ⊥) → (a == b) ≡ false
eq_other a b ne = grind (arith, nat_tests)

pub eq_no : (a b : ℕ) → (a == b) ≡ false → a ≡ b → ⊥
eq_no a b h e = grind (arith, nat_tests)

-- the overflow above so many branches says all of that above more of them, also after one that came later
pub overflow_above : (f : Option ℕ → Option ℕ) (low high : ℕ) (a b : Option ℕ) → low ≤ high → overflowed low a ≡ overflowed low b → overflowed high (f a) ≡ overflowed high (f b)
overflow_above f low high a b le e = elim (cases_lt most_branches high) [
  | inl over ↦
      let yes = lt_yes most_branches high over in
      ap (λ c. cond c (Some 0) (f a)) yes ∙ sym (ap (λ c. cond c (Some 0) (f b)) yes)
  | inr under ↦
      let no = lt_no most_branches low (omega arith) in
      let same : a ≡ b = sym (ap (λ c. cond c (Some 0) a) no) ∙ e ∙ ap (λ c. cond c (Some 0) b) no in
      ap (λ (o : Option ℕ). overflowed high (f o)) same
]

overflow_twice : (height : ℕ) (o : Option ℕ) → overflowed height (overflowed height o) ≡ overflowed height o
overflow_twice height o = twice (nat_lt most_branches height)
  where
    twice : (b : Bool) → cond b (Some 0) (cond b (Some 0) o) ≡ cond b (Some 0) o
    twice true = refl
    twice false = refl

-- The stack has been so high.
record WasAt (height : ℕ) (e : Ending) : Type 0 where
  peak : e.peak ≡ max height e.peak
  overflow : e.overflow ≡ overflowed height e.overflow

was_at : (b : Bool) (height : ℕ) (o : Option Ending) (e : Ending) → cond b (option_map (tick height) o) None ≡ Some e → WasAt height e
was_at false height o e is = absurd (none-some e is)
was_at true height None e is = absurd (none-some e is)
was_at true height (Some x) e is =
    let same : tick height x ≡ e = same_Some (tick height x) e is in
    subst (WasAt height) same (record { peak = omega arith; overflow = sym (overflow_twice height x.overflow) })

-- neither a start of the search nor a scan of an absent repeater stands there
pub record IsPlain (code : List Op) (pc : ℕ) : Type 0 where
  pub start : is_start (slice_get code pc) ≡ false
  pub scan : is_scan (slice_get code pc) ≡ false

-- a way inside a text, with as many pairs as there are groups
pub record Sound (text : List ℕ) (count : ℕ) (w : MatchState) : Type 0 where
  pub cuts : HasCharBoundaries text w
  pub many : length w.pairs ≡ count

module _ (code : List Op) (r : RunParameters) (whole : Bool) (count : ℕ) where
  abbrev pub base : ℕ
  base = 2 * count

  -- the state that backtracking does not undo, as outcomes have it
  abbrev pub state : RunState → PersistentState
  state held = record { best_match = option_map (found_by_thread whole base) held.best_match; limit = held.limit }

  -- that state above so many branches
  abbrev pub point : ℕ → RunState → RunPoint
  point height held = record { held = state held; height = height }

  abbrev pub Comes : List Thread → Continuation → Type 0
  Comes ts f = (held : RunState) → Within whole base (under ts) (λ j. exec code r j held ts) (f (point (under ts) held))

  abbrev pub Pops : List Thread → Continuation → Type 0
  Pops rest f = (held : RunState) → Within whole base (length rest) (λ j. pop code (exec code r j) held rest) (f (point (length rest) held))

  -- how the machine goes on after a move
  abbrev pub Follows : List Thread → Move → Continuation → Type 0
  Follows rest m f = (held : RunState) →
      Within whole base (length rest) (λ j. follow code r.find.options.longest (exec code r j) held rest m) (f (point (length rest) held))

  was_there : (t : Thread) (rest : List Thread) (held : RunState) (j : ℕ) (e : Ending) → exec code r j held (t ∷ rest) ≡ Some e → WasAt (length rest) e
  unfolding exec
  was_there t rest held zero e is = absurd (none-some e is)
  was_there t rest held (suc j) e is =
      was_at (is_valid_offset r.setting.text t.position) (length rest)
      (follow code r.find.options.longest (exec code r j) held rest (act r (slice_get code t.pc) (length rest) t)) e is

  pub pops_to : (t : Thread) (rest : List Thread) (f : Continuation) → IsPlain code t.pc → Comes (t ∷ rest) f → Pops (t ∷ rest) (backs f)
  pops_to t rest f plain h held =
      let c = h held in
      record {
        fuel = c.fuel;
        by = λ claim j le.
            let e = c.by claim j le in
            record {
              ending = back e.ending;
              comes = popped (is_some held.best_match) (is_start (slice_get code t.pc)) (is_scan (slice_get code t.pc)) (Some (ended held.best_match)) (exec code r j held (t ∷ rest)) plain.start plain.scan
                  ∙ ap (option_map back) e.comes;
              answer = e.answer;
              few = omega (arith, e.few);
              narrow = omega (arith, e.narrow);
              backtracks = ap suc e.backtracks;
              peak = omega (arith, e.peak);
              overflow = overflow_above (option_map suc) (length rest) (length (t ∷ rest)) e.ending.overflow (f (point (length rest) held)).overflow (omega arith) e.overflow;
            };
      }

  -- where an absent repeater looks on
  pub pops_scan : (t : Thread) (rest : List Thread) (f : Continuation) → is_start (slice_get code t.pc) ≡ false → is_scan (slice_get code t.pc) ≡ true →
      Comes (t ∷ rest) f → Pops (t ∷ rest) (closes f)
  pops_scan t rest f start scan h held =
      let c = h held in
      record {
        fuel = c.fuel;
        by = λ claim j le.
            let e = c.by claim j le in
            record {
              ending = e.ending;
              comes = looked_on (is_some held.best_match) (is_start (slice_get code t.pc)) (is_scan (slice_get code t.pc)) (Some (ended held.best_match)) (exec code r j held (t ∷ rest)) start scan ∙ e.comes;
              answer = e.answer;
              few = omega (arith, e.few);
              narrow = omega (arith, e.narrow);
              backtracks = e.backtracks;
              peak = omega (arith, e.peak);
              overflow = overflow_above (λ o. o) (length rest) (length (t ∷ rest)) e.ending.overflow (f (point (length rest) held)).overflow (omega arith) e.overflow;
            };
      }

  -- a branch more, on which the first thread stands
  pub forked : (a b : Thread) (rest : List Thread) (f : Continuation) → Comes (a ∷ b ∷ rest) f → Follows rest (forks a b) (opens f)
  forked a b rest f h held =
      let c = h held in
      record {
        fuel = c.fuel;
        by = λ claim j le.
            let e = c.by claim j le in
            let was = was_there a (b ∷ rest) held j e.ending e.comes in
            record {
              ending = e.ending;
              comes = e.comes;
              answer = e.answer;
              few = omega (arith, e.few);
              narrow = omega (arith, e.narrow);
              backtracks = e.backtracks;
              peak = omega (arith, e.peak, was.peak);
              overflow = ap (overflowed (length rest)) (was.overflow ∙ e.overflow);
            };
      }

  shorter : (rest stack : List Thread) → Above rest stack → length rest ≤ length stack
  shorter rest stack above = omega (arith, ap length above.is, length-append above.more rest)

  -- the branches above the rest are dropped
  pub goes_cut : (t : Thread) (rest stack : List Thread) (n : ℕ) (f : Continuation) → truncated n stack ≡ rest → Above rest stack → Comes (t ∷ rest) f →
      Follows stack (cuts n t) (drops_to (length rest) f)
  goes_cut t rest stack n f is above h held =
      let c = h held in
      let le = shorter rest stack above in
      record {
        fuel = c.fuel;
        by = λ claim j enough.
            let e = c.by claim j enough in
            record {
              ending = e.ending;
              comes = ap (λ l. exec code r j held (t ∷ l)) is ∙ e.comes;
              answer = e.answer;
              few = omega (arith, e.few, le);
              narrow = omega (arith, e.narrow, le);
              backtracks = e.backtracks;
              peak = omega (arith, e.peak, le);
              overflow = overflow_above (λ o. o) (length rest) (length stack) e.ending.overflow (f (point (length rest) held)).overflow le e.overflow;
            };
      }

  pub fails_cut : (rest stack : List Thread) (n : ℕ) (f : Continuation) → truncated n stack ≡ rest → Above rest stack → Pops rest f →
      Follows stack (cut_fails n) (drops_to (length rest) f)
  fails_cut rest stack n f is above h held =
      let c = h held in
      let le = shorter rest stack above in
      record {
        fuel = c.fuel;
        by = λ claim j enough.
            let e = c.by claim j enough in
            record {
              ending = e.ending;
              comes = ap (λ l. pop code (exec code r j) held l) is ∙ e.comes;
              answer = e.answer;
              few = omega (arith, e.few, le);
              narrow = omega (arith, e.narrow, le);
              backtracks = e.backtracks;
              peak = omega (arith, e.peak, le);
              overflow = overflow_above (λ o. o) (length rest) (length stack) e.ending.overflow (f (point (length rest) held)).overflow le e.overflow;
            };
      }

  -- one step
  pub by_move : (t : Thread) (rest : List Thread) (o : Op) (m : Move) (f : Continuation) → slice_get code t.pc ≡ Some o →
      IsCharBoundary r.setting.text t.position → act r (Some o) (length rest) t ≡ m → Follows rest m f → Comes (t ∷ rest) f
  unfolding exec
  by_move t rest o m f at here is h held = record { fuel = suc (h held).fuel; by = step }
    where
      next : ℕ → Option Ending
      next j = follow code r.find.options.longest (exec code r j) held rest m

      step : (f (point (length rest) held)).claimed ≡ true → (j : ℕ) → suc (h held).fuel ≤ j →
          Reaches whole base (length rest) (exec code r j held (t ∷ rest)) (f (point (length rest) held))
      step claim zero le = absurd (omega arith)
      step claim (suc j) le =
          let e = (h held).by claim j (omega arith) in
          record {
            ending = tick (length rest) e.ending;
            comes = ap (λ x. cond (is_valid_offset r.setting.text t.position)
                (option_map (tick (length rest)) (follow code r.find.options.longest (exec code r j) held rest (act r x (length rest) t))) None) at
                ∙ ap (λ x. cond (is_valid_offset r.setting.text t.position)
                (option_map (tick (length rest)) (follow code r.find.options.longest (exec code r j) held rest x)) None) is
                ∙ ap (λ b. cond b (option_map (tick (length rest)) (next j)) None) (place_is r.setting.text t.position here)
                ∙ ap (option_map (tick (length rest))) e.comes;
            answer = e.answer;
            few = e.few;
            narrow = max-le (omega arith) e.narrow;
            backtracks = e.backtracks;
            peak = omega (arith, e.peak);
            overflow = overflow_twice (length rest) e.ending.overflow ∙ e.overflow;
          }

  pub comes_at : (to to' p : ℕ) (m : List ℕ) (rest : List Thread) (f : Continuation) → to ≡ to' → Comes (thread to p m ∷ rest) f → Comes (thread to' p m ∷ rest) f
  comes_at to to' p m rest f e h = subst (λ q. Comes (thread q p m ∷ rest) f) e h

  -- what follows, where a part keeps so much
  module _ (keep : Keep count) where
    -- what follows each way at the program's exit
    pub record Exits (rest : List Thread) (low : ℕ) (m : List ℕ) (free : Bool) (from to : ℕ) (k : SuccessContinuation) : Type 0 where
      pub plain : IsPlain code to
      pub go : (v : MatchState) (n : List ℕ) (stack : List Thread) (x : Continuation) → (free ≡ false → from ≤ v.position) → Sound r.setting.text count v →
          take base n ≡ slots_of_way whole v → Same keep low m n → Above rest stack → Pops stack x → Comes (thread to v.position n ∷ stack) (k v x)

    -- the same exit under another spelling of its place
    pub exits_at : (rest : List Thread) (low : ℕ) (m : List ℕ) (free : Bool) (from to to' : ℕ) (k : SuccessContinuation) → to ≡ to' → Exits rest low m free from to k → Exits rest low m free from to' k
    exits_at rest low m free from to to' k e h = subst (λ p. Exits rest low m free from p k) e h

    -- the same exit seen from further on
    pub exits_later : (rest : List Thread) (low : ℕ) (m : List ℕ) (free : Bool) (from to : ℕ) (k : SuccessContinuation) → Exits rest low m free from to k →
        (stack : List Thread) (n : List ℕ) (free' : Bool) (q : ℕ) → Above rest stack → Same keep low m n →
        (free ≡ false → free' ≡ false) → (free ≡ false → from ≤ q) → Exits stack low n free' q to k
    exits_later rest low m free from to k h stack n free' q above same frees on = record {
      plain = h.plain;
      go = λ v n2 stack2 x on2 sound fits same2 above2 pops.
          h.go v n2 stack2 x (λ e. let a = on e in let b = on2 (frees e) in omega arith) sound fits (same_trans keep same same2) (above_trans above above2) pops;
    }

    -- What a stretch of the program does, from one place to another, with slots of its own from one on. It may go back, if
    -- it is free to.
    pub record Does (from to own much : ℕ) (free : Bool) (g : Denotation) : Type 0 where
      pub by : (low : ℕ) (w : MatchState) (m : List ℕ) (rest : List Thread) (x : Continuation) (k : SuccessContinuation) → base + keep.lead ≤ low → low ≤ own → own + much ≤ keep.top →
          Ready keep m → Sound r.setting.text count w → take base m ≡ slots_of_way whole w → Pops rest x → Exits rest low m free w.position to k →
          Comes (thread from w.position m ∷ rest) (g w k x)
