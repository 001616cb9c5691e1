-- A call that stays does what the body of its group does.
use Rattle.std.proofs.Common.{◌≡◌, ℕ, suc, ◌+◌, ◌*◌, ◌<◌, ◌≤◌, Bool, true, ◌&&◌, List, ◌∷◌, length, take, get_or, Some, refl, ap, ◌∙◌, arith, cond}
use Rattle.std.specs.Prelude.{slice_get, nat_lt, nat_le}
use Rattle.std.proofs.lemmas.Bool.Decides.{nat_tests}
use Rattle.fancy_regex_slots.specs.Memory.{Thread}
use Rattle.fancy_regex_program.specs.Ops as op
use Rattle.fancy_regex_program.specs.Ops.{Op, Place}
use Rattle.fancy_regex_program.specs.Machine.{RunParameters, Move, goes, fails, stuck, entered, came_back, open_calls, enters, comes_back, with_place, act}
use Rattle.fancy_regex_program.specs.Code.{Layout}
use Rattle.fancy_regex_program.specs.Layouts.{frames_end, AreApart}
use Rattle.fancy_regex_program.specs.SlotLayout.{slots_of_way}
use Rattle.fancy_regex_program.proofs.OpenCalls.{calls_of, one_call_more}
use Rattle.fancy_regex_program_laws.proofs.Denote.{Denotation}
use Rattle.fancy_regex_program_laws.proofs.Runs.{Keep, Ready, Same, thread, lt_yes, lt_no, by_move, Does}
use Rattle.fancy_regex_program_laws.proofs.ProgramParts.{plain_at}
use Rattle.fancy_regex_program_laws.proofs.CallSlots.{slots_entered, slots_after, IsRegion, kept_still, entered_long, after_long, take_entered, take_after, entered_counts, own_region, many, comes_back_to, live_back, kept_after, keep_in}

le_yes : (a b : ℕ) → a ≤ b → nat_le a b ≡ true
le_yes a b h = grind (arith, nat_tests)

all_three : (a b c : Bool) → a ≡ true → b ≡ true → c ≡ true → (a && b && c) ≡ true
all_three a b c e f g = ap (λ x. x && b && c) e ∙ ap (λ x. true && x && c) f ∙ ap (λ x. true && true && x) g

with_place_is : (c : Place) (t : Thread) (m : Move) → c.count < length t.slots → c.first + c.own ≤ length t.slots → frames_end c ≤ length t.slots → with_place c t m ≡ m
with_place_is c t m lt own frames =
    ap (λ b. cond b m stuck)
    (all_three (nat_lt c.count (length t.slots)) (nat_le (c.first + c.own) (length t.slots)) (nat_le (frames_end c) (length t.slots))
    (lt_yes c.count (length t.slots) lt) (le_yes (c.first + c.own) (length t.slots) own) (le_yes (frames_end c) (length t.slots) frames))

module _ (code : List Op) (r : RunParameters) (whole : Bool) (count : ℕ) (layout : Layout) (from bodies_end total : ℕ) (apart : AreApart layout from bodies_end total) (over : 2 * count ≤ from) where
  abbrev pub Region : List ℕ → ℕ → ℕ → Type 0
  Region = IsRegion layout (2 * count) from bodies_end total apart over

  abbrev pub keeps : (opened : List ℕ) (lo hi : ℕ) → Region opened lo hi → Keep count
  keeps = keep_in layout count from bodies_end total apart over

  module _ (opened : List ℕ) (lo hi : ℕ) (region : Region opened lo hi) (k : ℕ) (c : Place) (is : layout k ≡ Some c) where
    -- The slots of the group are there.
    placed_in : (t : Thread) (m : Move) → total ≤ length t.slots → with_place c t m ≡ m
    placed_in t m room =
        let q = apart.placed k c is in
        with_place_is c t m (omega (arith, q.frames_from, q.frames_to, room)) (omega (arith, q.own_to, q.count_from, q.frames_from, q.frames_to, room)) (omega (arith, q.frames_to, room))

    -- at the limit
    pub does_no_call : (pc slot : ℕ) (free : Bool) → c.most ≤ calls_of k opened → slice_get code pc ≡ Some (op.call c) →
        Does code r whole count (keeps opened lo hi region) pc (pc + 1) slot 0 free (λ w f x. x)
    does_no_call pc slot free full at = record {
      by = λ low w m rest x f above_base above_low room ready sound fits pops exits.
          let t : Thread = thread pc w.position m in
          let acts : act r (Some (op.call c)) (length rest) t ≡ fails =
          placed_in t (enters c (open_calls (get_or m c.count 0)) t) ready.holds.room ∙ ap (λ n. enters c n t) (ready.holds.at k c is)
          ∙ ap (λ b. cond b (goes (entered c (calls_of k opened) t)) fails) (lt_no (calls_of k opened) c.most full) in
          by_move code r whole count t rest (op.call c) fails x at sound.cuts.0 acts pops;
    }

    module _ (few : calls_of k opened < c.most) where
      abbrev pub d : ℕ
      d = calls_of k opened

      abbrev pub inner : Keep count
      inner = keeps (k ∷ opened) c.first (c.first + c.own) (own_region layout (2 * count) from bodies_end total apart over opened k d c is refl few)

      -- the slots where the call is open, and after it
      entered_ready : (q : ℕ) (m : List ℕ) → Ready (keeps opened lo hi region) m → Ready inner (slots_entered c d q m)
      entered_ready q m ready =
          let placed = apart.placed k c is in
          record {
            long = omega (arith, entered_long layout (2 * count) from bodies_end total apart over opened k d c is refl few q m, ready.holds.room, placed.own_to, placed.count_from, placed.frames_from, placed.frames_to);
            holds = entered_counts layout (2 * count) from bodies_end total apart over opened k d c is refl few q m ready.holds;
          }

      after_same : (q low : ℕ) (m n : List ℕ) → low ≤ hi → Ready (keeps opened lo hi region) m → Same inner c.first (slots_entered c d q m) n →
          Same (keeps opened lo hi region) low m (slots_after c d n)
      after_same q low m n inside ready same = record {
        long = after_long layout (2 * count) from bodies_end total apart over opened k d c is refl few n
            ∙ many layout (2 * count) from bodies_end total apart over opened k d c is refl few q m n ready.holds same.kept;
        at = λ j ge lt. live_back layout (2 * count) from bodies_end total apart over opened k d c is refl few q m n ready.holds same.kept j (region.live j (omega arith) (omega arith));
        kept = kept_after layout (2 * count) from bodies_end total apart over opened k d c is refl few q m n ready.holds same.kept lo hi;
      }

      -- The body runs with the group's own slots, and comes back.
      pub does_open_call : (pc end slot : ℕ) (free : Bool) (g : Denotation) → slice_get code pc ≡ Some (op.call c) → slice_get code end ≡ Some (op.return c) →
          Does code r whole count inner c.start end c.first c.own free g → Does code r whole count (keeps opened lo hi region) pc (pc + 1) slot 0 free g
      does_open_call pc end slot free g at at_return body = record {
        by = λ low w m rest x f above_base above_low room ready sound fits pops exits.
            let placed = apart.placed k c is in
            let t : Thread = thread pc w.position m in
            let m1 = slots_entered c d (pc + 1) m in
            let ready1 : Ready inner m1 = entered_ready (pc + 1) m ready in
            let fits1 : take (2 * count) m1 ≡ slots_of_way whole w =
            take_entered layout (2 * count) from bodies_end total apart over opened k d c is refl few (pc + 1) m ∙ fits in
            let acts : act r (Some (op.call c)) (length rest) t ≡ goes (thread c.start w.position m1) =
            placed_in t (enters c (open_calls (get_or m c.count 0)) t) ready.holds.room ∙ ap (λ n. enters c n t) (ready.holds.at k c is)
            ∙ ap (λ b. cond b (goes (entered c d t)) fails) (lt_yes d c.most few) in
            let inside : low ≤ hi = omega arith in
            by_move code r whole count t rest (op.call c) (goes (thread c.start w.position m1)) (g w f x) at sound.cuts.0 acts
            (body.by c.first w m1 rest x f (omega (arith, placed.own_from)) (omega arith) (omega arith) ready1 sound fits1 pops
            (record {
              plain = plain_at code end (op.return c) at_return refl refl;
              go = λ v n stack y on sound' fits' same above pops'.
                  let u : Thread = thread end v.position n in
                  let n1 = slots_after c d n in
                  let counts = kept_still layout (2 * count) from bodies_end total apart over (k ∷ opened) c.first (c.first + c.own) m1 n ready1.holds same.kept in
                  let depth : open_calls (get_or n c.count 0) ≡ suc d = counts.at k c is ∙ one_call_more k opened in
                  let acts' : act r (Some (op.return c)) (length stack) u ≡ goes (thread (pc + 1) v.position n1) =
                  placed_in u (comes_back c (open_calls (get_or n c.count 0)) u) counts.room ∙ ap (λ i. comes_back c i u) depth
                  ∙ ap (λ b. cond b (goes (came_back c d u)) stuck) (lt_yes d c.most few)
                  ∙ ap (λ i. goes (thread i v.position n1)) (comes_back_to layout (2 * count) from bodies_end total apart over opened k d c is refl few (pc + 1) m n ready.holds same.kept) in
                  by_move code r whole count u stack (op.return c) (goes (thread (pc + 1) v.position n1)) (f v y) at_return sound'.cuts.0 acts'
                  (exits.go v n1 stack y on sound' (take_after layout (2 * count) from bodies_end total apart over opened k d c is refl few n ∙ fits')
                  (after_same (pc + 1) low m n inside ready same) above pops');
            }));
      }
