-- Conditionals and repeats of a program, and what they do.
use Rattle.std.proofs.Common.{◌≡◌, ℕ, zero, suc, ◌+◌, ◌-◌, ◌*◌, ◌<◌, ◌≤◌, Bool, true, false, ◌&&◌, List, [], ◌∷◌, ◌++◌, length, take, get_or, set, Some, refl, sym, ap, ◌∙◌, subst, arith, length-set, get_or-set_same, get_or-set_other, cond}
use Rattle.std.specs.Prelude.{slice_get, ◌==◌, nat_lt}
use Rattle.std.proofs.lemmas.List.{take-set-le}
use Rattle.std.proofs.lemmas.Bool.Decides.{nat_tests}
use Rattle.fancy_regex_meaning.specs.Ways.{MatchState}
use Rattle.fancy_regex_slots.specs.Memory.{Thread, truncated}
use Rattle.fancy_regex_program.specs.Ops as op
use Rattle.fancy_regex_program.specs.Ops.{Op}
use Rattle.fancy_regex_program.specs.Machine.{unset, RunParameters, Move, goes, forks, cuts, at_op, wrote, with_room, forks_by, repeat_move, repeat_epsilon_move, next_count, marked, stuck, act}
use Rattle.fancy_regex_program.specs.SlotLayout.{slots_of_way}
use Rattle.fancy_regex_program_laws.proofs.Denote.{Continuation, SuccessContinuation, Denotation, opens, backs, drops_to, end_choice, end_pick, end_upto, end_loop, end_times}
use Rattle.fancy_regex_program_laws.proofs.Runs.{Keep, Ready, ready_same, Above, above_refl, above_trans, above_cons, lowered_above, Same, same_refl, same_trans, same_lower, same_set, thread, lt_yes, lt_no, lt_is, eq_yes, eq_self, eq_other, eq_no, IsPlain, Sound, Comes, Pops, Follows, pops_to, forked, goes_cut, by_move, Exits, exits_later, comes_at, Does}
use Rattle.fancy_regex_program_laws.proofs.ProgramParts.{HasAt, has_front, has_back, StartsPlain, plain_from, plain_at, with_slot_is}

turn_stop : (greedy : Bool) (lo hi next slot n : ℕ) (t : Thread) → lo ≤ n → hi ≤ n → repeat_move greedy lo hi next slot n t ≡ goes (at_op next t)
turn_stop greedy lo hi next slot n t least le =
    ap (λ b. cond b (goes (wrote slot (n + 1) t)) (cond (nat_lt n hi) (forks_by greedy (wrote slot (n + 1) t) (at_op next (wrote slot (n + 1) t))) (goes (at_op next t)))) (lt_no n lo least)
    ∙ ap (λ b. cond b (forks_by greedy (wrote slot (n + 1) t) (at_op next (wrote slot (n + 1) t))) (goes (at_op next t))) (lt_no n hi le)

turn_due : (greedy : Bool) (lo hi next slot n : ℕ) (t : Thread) → n < lo → repeat_move greedy lo hi next slot n t ≡ goes (wrote slot (n + 1) t)
turn_due greedy lo hi next slot n t due =
    ap (λ b. cond b (goes (wrote slot (n + 1) t)) (cond (nat_lt n hi) (forks_by greedy (wrote slot (n + 1) t) (at_op next (wrote slot (n + 1) t))) (goes (at_op next t)))) (lt_yes n lo due)

turn_fork : (greedy : Bool) (lo hi next slot n : ℕ) (t : Thread) → lo ≤ n → n < hi →
    repeat_move greedy lo hi next slot n t ≡ forks_by greedy (wrote slot (n + 1) t) (at_op next (wrote slot (n + 1) t))
turn_fork greedy lo hi next slot n t least lt =
    ap (λ b. cond b (goes (wrote slot (n + 1) t)) (cond (nat_lt n hi) (forks_by greedy (wrote slot (n + 1) t) (at_op next (wrote slot (n + 1) t))) (goes (at_op next t)))) (lt_no n lo least)
    ∙ ap (λ b. cond b (forks_by greedy (wrote slot (n + 1) t) (at_op next (wrote slot (n + 1) t))) (goes (at_op next t))) (lt_yes n hi lt)

with_room_is : (lo : ℕ) (m : Move) → lo < unset → with_room lo m ≡ m
with_room_is lo m lt = ap (λ b. cond b m stuck) (lt_yes lo unset lt)

bumped_once : (lo n : ℕ) → lo ≤ n → n ≤ lo + 1 → next_count lo n ≡ lo + 1
bumped_once lo n le top = grind (arith, nat_tests)

choose_last : {A : Type 0} (a b c : Bool) (x y z : A) → (a && b) ≡ false → c ≡ false → cond (a && b) x (cond c y z) ≡ z
choose_last a b c x y z e f = ap (λ v. cond v x (cond c y z)) e ∙ ap (λ v. cond v y z) f

choose_middle : {A : Type 0} (a b c : Bool) (x y z : A) → a ≡ false → c ≡ true → cond (a && b) x (cond c y z) ≡ y
choose_middle a b c x y z e f = ap (λ v. cond (v && b) x (cond c y z)) e ∙ ap (λ v. cond v y z) f

choose_first : {A : Type 0} (a b c : Bool) (x y z : A) → a ≡ true → b ≡ true → cond (a && b) x (cond c y z) ≡ x
choose_first a b c x y z e f = ap (λ v. cond (v && b) x (cond c y z)) e ∙ ap (λ v. cond v x (cond c y z)) f

and_no : (a b : Bool) → (a ≡ true → b ≡ false) → (a && b) ≡ false
and_no true b h = h refl
and_no false b h = refl

leave_due : (greedy : Bool) (lo next slot check n last : ℕ) (t : Thread) → n < lo →
    repeat_epsilon_move greedy lo next slot check n last t ≡ goes (wrote slot (n + 1) t)
leave_due greedy lo next slot check n last t due =
    choose_middle (nat_lt lo n) (last == t.position) (nat_lt n lo) (goes (at_op next t)) (goes (wrote slot (n + 1) t))
    (forks_by greedy (marked lo slot check n t) (at_op next (marked lo slot check n t))) (lt_no lo n (omega arith)) (lt_yes n lo due)

leave_fork : (greedy : Bool) (lo next slot check n last : ℕ) (t : Thread) → lo ≤ n → (lo < n → (last == t.position) ≡ false) →
    repeat_epsilon_move greedy lo next slot check n last t ≡ forks_by greedy (marked lo slot check n t) (at_op next (marked lo slot check n t))
leave_fork greedy lo next slot check n last t le moves =
    choose_last (nat_lt lo n) (last == t.position) (nat_lt n lo) (goes (at_op next t)) (goes (wrote slot (n + 1) t))
    (forks_by greedy (marked lo slot check n t) (at_op next (marked lo slot check n t)))
    (and_no (nat_lt lo n) (last == t.position) (λ yes. moves (lt_is lo n yes))) (lt_no n lo le)

leave_stop : (greedy : Bool) (lo next slot check n last : ℕ) (t : Thread) → lo < n → (last == t.position) ≡ true →
    repeat_epsilon_move greedy lo next slot check n last t ≡ goes (at_op next t)
leave_stop greedy lo next slot check n last t lt same =
    choose_first (nat_lt lo n) (last == t.position) (nat_lt n lo) (goes (at_op next t)) (goes (wrote slot (n + 1) t))
    (forks_by greedy (marked lo slot check n t) (at_op next (marked lo slot check n t))) (lt_yes lo n lt) same

module _ (code : List Op) (r : RunParameters) (whole : Bool) (count : ℕ) (keep : Keep count) where
  -- both sides of a loop's choice: another turn, and the stop
  pub fork_comes : (greedy : Bool) (more stop : Thread) (rest : List Thread) (g : Denotation) (w : MatchState) (next k : SuccessContinuation) (x : Continuation) →
      IsPlain code more.pc → IsPlain code stop.pc → Pops code r whole count rest x →
      ((stack : List Thread) (y : Continuation) → Above rest stack → Pops code r whole count stack y → Comes code r whole count (more ∷ stack) (g w next y)) →
      ((stack : List Thread) (y : Continuation) → Above rest stack → Pops code r whole count stack y → Comes code r whole count (stop ∷ stack) (k w y)) →
      Follows code r whole count rest (forks_by greedy more stop) (end_pick greedy g w next k x)
  fork_comes true more stop rest g w next k x pm ps pops go stops =
      forked code r whole count more stop rest (g w next (backs (k w x)))
      (go (stop ∷ rest) (backs (k w x)) (above_cons stop rest) (pops_to code r whole count stop rest (k w x) ps (stops rest x (above_refl rest) pops)))
  fork_comes false more stop rest g w next k x pm ps pops go stops =
      forked code r whole count stop more rest (k w (backs (g w next x)))
      (stops (more ∷ rest) (backs (g w next x)) (above_cons more rest) (pops_to code r whole count more rest (g w next x) pm (go rest x (above_refl rest) pops)))

  module _ (greedy : Bool) (lo hi head end next slot much : ℕ) (free : Bool) (g : Denotation) (body : Does code r whole count keep (head + 1) end (slot + 1) much free g)
      (plain : IsPlain code (head + 1)) (at_head : slice_get code head ≡ Some (op.repeat greedy lo hi next slot)) (at_end : slice_get code end ≡ Some (op.jump head)) where
    -- a loop that may stop
    upto_runs : (n c low : ℕ) (w : MatchState) (m : List ℕ) (rest : List Thread) (x : Continuation) (k : SuccessContinuation) → n ≡ hi - c → lo ≤ c → get_or m slot 0 ≡ c →
        2 * count + keep.lead ≤ low → low ≤ slot → slot + 1 + much ≤ keep.top → Ready keep m → Sound r.setting.text count w → take (2 * count) m ≡ slots_of_way whole w →
        Pops code r whole count rest x → Exits code r whole count keep rest low m free w.position next k →
        Comes code r whole count (thread head w.position m ∷ rest) (end_upto g greedy n w k x)
    upto_runs zero c low w m rest x k sum le count' above_base above_low room ready sound fits pops exits =
        let t : Thread = thread head w.position m in
        let acts : act r (Some (op.repeat greedy lo hi next slot)) (length rest) t ≡ goes (at_op next t) =
        with_slot_is slot t _ (omega (arith, ready.long)) ∙ turn_stop greedy lo hi next slot (get_or m slot 0) t (omega arith) (omega arith) in
        by_move code r whole count t rest (op.repeat greedy lo hi next slot) (goes (at_op next t)) (k w x) at_head sound.cuts.0 acts
        (exits.go w m rest x (λ e. omega arith) sound fits (same_refl keep low m) (above_refl rest) pops)
    upto_runs (suc n) c low w m rest x k sum le count' above_base above_low room ready sound fits pops exits =
        let t : Thread = thread head w.position m in
        let m1 = set m slot (c + 1) in
        let long : length m1 ≡ length m = length-set m slot (c + 1) in
        let there : slot < length m = omega (arith, ready.long) in
        let fits1 : take (2 * count) m1 ≡ slots_of_way whole w = take-set-le (2 * count) m slot (c + 1) (omega arith) ∙ fits in
        let kept : Same keep low m m1 = same_set keep low m slot (c + 1) above_low (omega arith) (omega arith) in
        let t1 : Thread = wrote slot (c + 1) t in
        let acts : act r (Some (op.repeat greedy lo hi next slot)) (length rest) t ≡ forks_by greedy t1 (at_op next t1) =
        with_slot_is slot t _ there ∙ turn_fork greedy lo hi next slot (get_or m slot 0) t (omega arith) (omega arith)
        ∙ ap (λ v. forks_by greedy (wrote slot (v + 1) t) (at_op next (wrote slot (v + 1) t))) count' in
        let again : SuccessContinuation = λ v y. end_upto g greedy n v k y in
        by_move code r whole count t rest (op.repeat greedy lo hi next slot) (forks_by greedy t1 (at_op next t1)) (end_pick greedy g w again k x) at_head sound.cuts.0 acts
        (fork_comes greedy t1 (at_op next t1) rest g w again k x plain exits.plain pops
        (λ stack y above pops'. body.by (slot + 1) w m1 stack y again (omega arith) (omega arith) (omega arith) (ready_same keep kept ready) sound fits1 pops'
        (record {
          plain = plain_at code end (op.jump head) at_end refl refl;
          go = λ v m2 stack2 z on sound2 fits2 same above2 pops2.
              let u : Thread = thread end v.position m2 in
              let counted : get_or m2 slot 0 ≡ c + 1 = same.at slot (omega arith) (omega arith) ∙ get_or-set_same m slot (c + 1) 0 there in
              let turn_again = upto_runs n (c + 1) low v m2 stack2 z k (omega arith) (omega arith) counted above_base above_low (omega arith) (ready_same keep (same_trans keep kept (same_lower keep (omega arith) same)) ready) sound2 fits2 pops2
              (exits_later code r whole count keep rest low m free w.position next k exits stack2 m2 free v.position (above_trans above above2) (same_trans keep kept (same_lower keep (omega arith) same)) (λ e. e) on) in
              by_move code r whole count u stack2 (op.jump head) (goes (at_op head u)) (end_upto g greedy n v k z) at_end sound2.cuts.0 refl turn_again;
        }))
        (λ stack y above pops'. exits.go w m1 stack y (λ e. omega arith) sound fits1 kept above pops'))

    -- the turns that are due
    times_runs : (n c low : ℕ) (w : MatchState) (m : List ℕ) (rest : List Thread) (x : Continuation) (k : SuccessContinuation) → c + n ≡ lo → get_or m slot 0 ≡ c →
        2 * count + keep.lead ≤ low → low ≤ slot → slot + 1 + much ≤ keep.top → Ready keep m → Sound r.setting.text count w → take (2 * count) m ≡ slots_of_way whole w →
        Pops code r whole count rest x → Exits code r whole count keep rest low m free w.position next k →
        Comes code r whole count (thread head w.position m ∷ rest) (end_times g n (end_upto g greedy (hi - lo)) w k x)
    times_runs zero c low w m rest x k sum count' above_base above_low room ready sound fits pops exits =
        let same : hi - lo ≡ hi - c = omega arith in
        upto_runs (hi - lo) c low w m rest x k same (omega arith) count' above_base above_low room ready sound fits pops exits
    times_runs (suc n) c low w m rest x k sum count' above_base above_low room ready sound fits pops exits =
        let t : Thread = thread head w.position m in
        let m1 = set m slot (c + 1) in
        let long : length m1 ≡ length m = length-set m slot (c + 1) in
        let there : slot < length m = omega (arith, ready.long) in
        let fits1 : take (2 * count) m1 ≡ slots_of_way whole w = take-set-le (2 * count) m slot (c + 1) (omega arith) ∙ fits in
        let kept : Same keep low m m1 = same_set keep low m slot (c + 1) above_low (omega arith) (omega arith) in
        let acts : act r (Some (op.repeat greedy lo hi next slot)) (length rest) t ≡ goes (wrote slot (c + 1) t) =
        with_slot_is slot t _ there ∙ turn_due greedy lo hi next slot (get_or m slot 0) t (omega arith) ∙ ap (λ v. goes (wrote slot (v + 1) t)) count' in
        let after : SuccessContinuation = λ v y. end_times g n (end_upto g greedy (hi - lo)) v k y in
        by_move code r whole count t rest (op.repeat greedy lo hi next slot) (goes (wrote slot (c + 1) t)) (g w after x) at_head sound.cuts.0 acts
        (body.by (slot + 1) w m1 rest x after (omega arith) (omega arith) (omega arith) (ready_same keep kept ready) sound fits1 pops
        (record {
          plain = plain_at code end (op.jump head) at_end refl refl;
          go = λ v m2 stack2 z on sound2 fits2 same above2 pops2.
              let u : Thread = thread end v.position m2 in
              let counted : get_or m2 slot 0 ≡ c + 1 = same.at slot (omega arith) (omega arith) ∙ get_or-set_same m slot (c + 1) 0 there in
              let turn_again = times_runs n (c + 1) low v m2 stack2 z k (omega arith) counted above_base above_low (omega arith) (ready_same keep (same_trans keep kept (same_lower keep (omega arith) same)) ready) sound2 fits2 pops2
              (exits_later code r whole count keep rest low m free w.position next k exits stack2 m2 free v.position above2 (same_trans keep kept (same_lower keep (omega arith) same)) (λ e. e) on) in
              by_move code r whole count u stack2 (op.jump head) (goes (at_op head u)) (after v z) at_end sound2.cuts.0 refl turn_again;
        }))

  module _ (greedy : Bool) (lo head end next slot much : ℕ) (fit : lo < unset) (g : Denotation) (body : Does code r whole count keep (head + 1) end (slot + 2) much false g)
      (plain : IsPlain code (head + 1)) (at_head : slice_get code head ≡ Some (op.repeat_epsilon greedy lo next slot (slot + 1))) (at_end : slice_get code end ≡ Some (op.jump head)) where
    -- a loop that may stop, and may go on
    loop_runs : (n low : ℕ) (w : MatchState) (m : List ℕ) (rest : List Thread) (x : Continuation) (k : SuccessContinuation) → length r.setting.text - w.position < n →
        lo ≤ get_or m slot 0 → get_or m slot 0 ≤ lo + 1 → (lo < get_or m slot 0 → (get_or m (slot + 1) 0 == w.position) ≡ false) →
        2 * count + keep.lead ≤ low → low ≤ slot → slot + 2 + much ≤ keep.top → Ready keep m → Sound r.setting.text count w → take (2 * count) m ≡ slots_of_way whole w →
        Pops code r whole count rest x → Exits code r whole count keep rest low m false w.position next k →
        Comes code r whole count (thread head w.position m ∷ rest) (end_loop g greedy n w k x)
    loop_runs zero low w m rest x k fuel least most moves above_base above_low room ready sound fits pops exits = absurd (omega arith)
    loop_runs (suc n) low w m rest x k fuel least most moves above_base above_low room ready sound fits pops exits =
        let t : Thread = thread head w.position m in
        let check = slot + 1 in
        let ma = set m slot (lo + 1) in
        let m1 = set ma check w.position in
        let long_a : length ma ≡ length m = length-set m slot (lo + 1) in
        let long : length m1 ≡ length m = length-set ma check w.position ∙ long_a in
        let there : slot < length m = omega (arith, ready.long) in
        let there2 : check < length ma = omega (arith, long_a, ready.long) in
        let fits1 : take (2 * count) m1 ≡ slots_of_way whole w = take-set-le (2 * count) ma check w.position (omega arith) ∙ take-set-le (2 * count) m slot (lo + 1) (omega arith) ∙ fits in
        let kept : Same keep low m m1 = same_trans keep (same_set keep low m slot (lo + 1) above_low (omega arith) (omega arith)) (same_set keep low ma check w.position (omega arith) (omega arith) (omega arith)) in
        let t1 : Thread = thread (head + 1) w.position m1 in
        let bump : marked lo slot check (get_or m slot 0) t ≡ t1 = ap (λ v. thread (head + 1) w.position (set (set m slot v) check w.position)) (bumped_once lo (get_or m slot 0) least most) in
        let acts : act r (Some (op.repeat_epsilon greedy lo next slot check)) (length rest) t ≡ forks_by greedy t1 (at_op next t1) =
        with_room_is lo _ fit ∙ with_slot_is slot t _ there ∙ with_slot_is check t _ (omega (arith, ready.long))
        ∙ leave_fork greedy lo next slot check (get_or m slot 0) (get_or m check 0) t least moves ∙ ap (λ v. forks_by greedy v (at_op next v)) bump in
        let again : SuccessContinuation = λ v y. cond (v.position == w.position) (k v y) (end_loop g greedy n v k y) in
        by_move code r whole count t rest (op.repeat_epsilon greedy lo next slot check) (forks_by greedy t1 (at_op next t1)) (end_pick greedy g w again k x) at_head sound.cuts.0 acts
        (fork_comes greedy t1 (at_op next t1) rest g w again k x plain exits.plain pops
        (λ stack y above pops'. body.by (slot + 2) w m1 stack y again (omega arith) (omega arith) (omega arith) (ready_same keep kept ready) sound fits1 pops'
        (record {
          plain = plain_at code end (op.jump head) at_end refl refl;
          go = λ v m2 stack2 z on sound2 fits2 same above2 pops2.
              let u : Thread = thread end v.position m2 in
              let h : Thread = at_op head u in
              let ne : slot ≡ check → ⊥ = λ (e : slot ≡ check). omega arith in
              let counted : get_or m2 slot 0 ≡ lo + 1 = same.at slot (omega arith) (omega arith) ∙ get_or-set_other ma check slot w.position 0 ne ∙ get_or-set_same m slot (lo + 1) 0 there in
              let marked_at : get_or m2 check 0 ≡ w.position = same.at check (omega arith) (omega arith) ∙ get_or-set_same ma check w.position 0 there2 in
              let later = exits_later code r whole count keep rest low m false w.position next k exits stack2 m2 false v.position (above_trans above above2) (same_trans keep kept (same_lower keep (omega arith) same)) (λ e. e) on in
              let ready2 : Ready keep m2 = ready_same keep (same_trans keep kept (same_lower keep (omega arith) same)) ready in
              let turn_again : Comes code r whole count (h ∷ stack2) (again v z) =
              (elim (v.position == w.position) as (λ b. (v.position == w.position) ≡ b → Comes code r whole count (h ∷ stack2) (cond b (k v z) (end_loop g greedy n v k z))) [
                | true ↦ λ same_place.
                    let e : v.position ≡ w.position = eq_yes v.position w.position same_place in
                    let stays : (get_or m2 check 0 == v.position) ≡ true = ap (λ p. p == v.position) (marked_at ∙ sym e) ∙ eq_self v.position in
                    let leaves : act r (Some (op.repeat_epsilon greedy lo next slot check)) (length stack2) h ≡ goes (at_op next h) =
                    with_room_is lo _ fit ∙ with_slot_is slot h _ (omega (arith, ready2.long)) ∙ with_slot_is check h _ (omega (arith, ready2.long))
                    ∙ leave_stop greedy lo next slot check (get_or m2 slot 0) (get_or m2 check 0) h (omega arith) stays in
                    by_move code r whole count h stack2 (op.repeat_epsilon greedy lo next slot check) (goes (at_op next h)) (k v z) at_head sound2.cuts.0 leaves
                    (later.go v m2 stack2 z (λ e. omega arith) sound2 fits2 (same_refl keep low m2) (above_refl stack2) pops2)
                | false ↦ λ other_place.
                    let e = eq_no v.position w.position other_place in
                    let forward : w.position ≤ v.position = on refl in
                    let inside : v.position ≤ length r.setting.text = sound2.cuts.0.0 in
                    let fuel2 : length r.setting.text - v.position < n = omega (arith, e) in
                    let moved_on : lo < get_or m2 slot 0 → (get_or m2 check 0 == v.position) ≡ false = λ _. ap (λ p. p == v.position) marked_at ∙ eq_other w.position v.position (λ y. e (sym y)) in
                    loop_runs n low v m2 stack2 z k fuel2 (omega arith) (omega arith) moved_on above_base above_low room ready2 sound2 fits2 pops2 later
              ]) refl in
              by_move code r whole count u stack2 (op.jump head) (goes h) (again v z) at_end sound2.cuts.0 refl turn_again;
        }))
        (λ stack y above pops'. exits.go w m1 stack y (λ e. omega arith) sound fits1 kept above pops'))

    loop_times_runs : (n c low : ℕ) (w : MatchState) (m : List ℕ) (rest : List Thread) (x : Continuation) (k : SuccessContinuation) → c + n ≡ lo → get_or m slot 0 ≡ c →
        2 * count + keep.lead ≤ low → low ≤ slot → slot + 2 + much ≤ keep.top → Ready keep m → Sound r.setting.text count w → take (2 * count) m ≡ slots_of_way whole w →
        Pops code r whole count rest x → Exits code r whole count keep rest low m false w.position next k →
        Comes code r whole count (thread head w.position m ∷ rest) (end_times g n (end_loop g greedy (length r.setting.text + 1)) w k x)
    loop_times_runs zero c low w m rest x k sum count' above_base above_low room ready sound fits pops exits =
        loop_runs (length r.setting.text + 1) low w m rest x k (omega arith) (omega arith) (omega arith) (λ lt. absurd (omega arith)) above_base above_low room ready sound fits pops exits
    loop_times_runs (suc n) c low w m rest x k sum count' above_base above_low room ready sound fits pops exits =
        let t : Thread = thread head w.position m in
        let m1 = set m slot (c + 1) in
        let long : length m1 ≡ length m = length-set m slot (c + 1) in
        let there : slot < length m = omega (arith, ready.long) in
        let fits1 : take (2 * count) m1 ≡ slots_of_way whole w = take-set-le (2 * count) m slot (c + 1) (omega arith) ∙ fits in
        let kept : Same keep low m m1 = same_set keep low m slot (c + 1) above_low (omega arith) (omega arith) in
        let acts : act r (Some (op.repeat_epsilon greedy lo next slot (slot + 1))) (length rest) t ≡ goes (wrote slot (c + 1) t) =
        with_room_is lo _ fit ∙ with_slot_is slot t _ there ∙ with_slot_is (slot + 1) t _ (omega (arith, ready.long))
        ∙ leave_due greedy lo next slot (slot + 1) (get_or m slot 0) (get_or m (slot + 1) 0) t (omega arith) ∙ ap (λ v. goes (wrote slot (v + 1) t)) count' in
        let after : SuccessContinuation = λ v y. end_times g n (end_loop g greedy (length r.setting.text + 1)) v k y in
        by_move code r whole count t rest (op.repeat_epsilon greedy lo next slot (slot + 1)) (goes (wrote slot (c + 1) t)) (g w after x) at_head sound.cuts.0 acts
        (body.by (slot + 1) w m1 rest x after (omega arith) (omega arith) (omega arith) (ready_same keep kept ready) sound fits1 pops
        (record {
          plain = plain_at code end (op.jump head) at_end refl refl;
          go = λ v m2 stack2 z on sound2 fits2 same above2 pops2.
              let u : Thread = thread end v.position m2 in
              let counted : get_or m2 slot 0 ≡ c + 1 = same.at slot (omega arith) (omega arith) ∙ get_or-set_same m slot (c + 1) 0 there in
              let turn_again = loop_times_runs n (c + 1) low v m2 stack2 z k (omega arith) counted above_base above_low (omega arith) (ready_same keep (same_trans keep kept (same_lower keep (omega arith) same)) ready) sound2 fits2 pops2
              (exits_later code r whole count keep rest low m false w.position next k exits stack2 m2 false v.position above2 (same_trans keep kept (same_lower keep (omega arith) same)) (λ e. e) on) in
              by_move code r whole count u stack2 (op.jump head) (goes (at_op head u)) (after v z) at_end sound2.cuts.0 refl turn_again;
        }))

module _ (code : List Op) (r : RunParameters) (whole : Bool) (count : ℕ) (keep : Keep count) where
  -- a repeat with a greatest count
  pub does_repeat : (pc slot much lo hi : ℕ) (greedy free : Bool) (b : List Op) (g : Denotation) → StartsPlain b →
      HasAt code pc (op.begin_repeat slot ∷ op.repeat greedy lo hi (pc + 3 + length b) slot ∷ (b ++ op.jump (pc + 1) ∷ [])) →
      Does code r whole count keep (pc + 2) (pc + 2 + length b) (slot + 1) much false g →
      Does code r whole count keep pc (pc + 3 + length b) slot (1 + much) free (end_times g lo (end_upto g greedy (hi - lo)))
  does_repeat pc slot much lo hi greedy free b g starts at body = record {
    by = λ low w m rest x k above_base above_low room ready sound fits pops exits.
        let t : Thread = thread pc w.position m in
        let m1 = set m slot 0 in
        let long : length m1 ≡ length m = length-set m slot 0 in
        let there : slot < length m = omega (arith, ready.long) in
        let kept : Same keep low m m1 = same_set keep low m slot 0 above_low (omega arith) (omega arith) in
        let two : pc + 1 + 1 ≡ pc + 2 = omega arith in
        let at_b : HasAt code (pc + 2) (b ++ op.jump (pc + 1) ∷ []) = subst (λ p. HasAt code p (b ++ op.jump (pc + 1) ∷ [])) two at.1.1 in
        let last = has_back code (pc + 2) (pc + 2 + length b) b (op.jump (pc + 1) ∷ []) refl at_b in
        let plain : IsPlain code (pc + 1 + 1) =
        plain_from code (pc + 1 + 1) (pc + 2 + length b) b starts (subst (λ p. HasAt code p b) (sym two) (has_front code (pc + 2) b _ at_b)) (omega arith) (plain_at code (pc + 2 + length b) (op.jump (pc + 1)) last.0 refl refl) in
        let body1 : Does code r whole count keep (pc + 1 + 1) (pc + 2 + length b) (slot + 1) much false g = subst (λ p. Does code r whole count keep p (pc + 2 + length b) (slot + 1) much false g) (sym two) body in
        let out = exits_later code r whole count keep rest low m free w.position (pc + 3 + length b) k exits rest m1 false w.position (above_refl rest) kept (λ e. refl) (λ e. omega arith) in
        let loop = times_runs code r whole count keep greedy lo hi (pc + 1) (pc + 2 + length b) (pc + 3 + length b) slot much false g body1 plain at.1.0 last.0 lo 0 low w m1 rest x k
        (omega arith) (get_or-set_same m slot 0 0 there) above_base above_low (omega arith) (ready_same keep kept ready) sound (take-set-le (2 * count) m slot 0 (omega arith) ∙ fits) pops out in
        by_move code r whole count t rest (op.begin_repeat slot) (goes (wrote slot 0 t)) (end_times g lo (end_upto g greedy (hi - lo)) w k x) at.0 sound.cuts.0 (with_slot_is slot t _ there) loop;
  }

  -- a repeat without a greatest count
  pub does_loop : (pc slot much lo : ℕ) (greedy free : Bool) (b : List Op) (g : Denotation) → lo < unset → StartsPlain b →
      HasAt code pc (op.begin_repeat slot ∷ op.repeat_epsilon greedy lo (pc + 3 + length b) slot (slot + 1) ∷ (b ++ op.jump (pc + 1) ∷ [])) →
      Does code r whole count keep (pc + 2) (pc + 2 + length b) (slot + 2) much false g →
      Does code r whole count keep pc (pc + 3 + length b) slot (2 + much) free (end_times g lo (end_loop g greedy (length r.setting.text + 1)))
  does_loop pc slot much lo greedy free b g fit starts at body = record {
    by = λ low w m rest x k above_base above_low room ready sound fits pops exits.
        let t : Thread = thread pc w.position m in
        let m1 = set m slot 0 in
        let long : length m1 ≡ length m = length-set m slot 0 in
        let there : slot < length m = omega (arith, ready.long) in
        let kept : Same keep low m m1 = same_set keep low m slot 0 above_low (omega arith) (omega arith) in
        let two : pc + 1 + 1 ≡ pc + 2 = omega arith in
        let at_b : HasAt code (pc + 2) (b ++ op.jump (pc + 1) ∷ []) = subst (λ p. HasAt code p (b ++ op.jump (pc + 1) ∷ [])) two at.1.1 in
        let last = has_back code (pc + 2) (pc + 2 + length b) b (op.jump (pc + 1) ∷ []) refl at_b in
        let plain : IsPlain code (pc + 1 + 1) =
        plain_from code (pc + 1 + 1) (pc + 2 + length b) b starts (subst (λ p. HasAt code p b) (sym two) (has_front code (pc + 2) b _ at_b)) (omega arith) (plain_at code (pc + 2 + length b) (op.jump (pc + 1)) last.0 refl refl) in
        let body1 : Does code r whole count keep (pc + 1 + 1) (pc + 2 + length b) (slot + 2) much false g = subst (λ p. Does code r whole count keep p (pc + 2 + length b) (slot + 2) much false g) (sym two) body in
        let out = exits_later code r whole count keep rest low m free w.position (pc + 3 + length b) k exits rest m1 false w.position (above_refl rest) kept (λ e. refl) (λ e. omega arith) in
        let loop = loop_times_runs code r whole count keep greedy lo (pc + 1) (pc + 2 + length b) (pc + 3 + length b) slot much fit g body1 plain at.1.0 last.0 lo 0 low w m1 rest x k
        (omega arith) (get_or-set_same m slot 0 0 there) above_base above_low (omega arith) (ready_same keep kept ready) sound (take-set-le (2 * count) m slot 0 (omega arith) ∙ fits) pops out in
        by_move code r whole count t rest (op.begin_repeat slot) (goes (wrote slot 0 t)) (end_times g lo (end_loop g greedy (length r.setting.text + 1)) w k x) at.0 sound.cuts.0 (with_slot_is slot t _ there) loop;
  }

  -- a conditional
  pub does_conditional : (pc slot nc na nb : ℕ) (free : Bool) (c a b : List Op) (gc ga gb : Denotation) → StartsPlain b →
      HasAt code pc (op.begin_atomic slot ∷ op.split (pc + 2) (pc + 4 + length c + length a)
      ∷ (c ++ op.end_atomic slot ∷ (a ++ op.jump (pc + 4 + length c + length a + length b) ∷ b))) →
      Does code r whole count keep (pc + 2) (pc + 2 + length c) (slot + 1) nc false gc →
      Does code r whole count keep (pc + 3 + length c) (pc + 3 + length c + length a) (slot + 1 + nc) na false ga →
      Does code r whole count keep (pc + 4 + length c + length a) (pc + 4 + length c + length a + length b) (slot + 1 + nc + na) nb false gb →
      Does code r whole count keep pc (pc + 4 + length c + length a + length b) slot (1 + (nc + (na + nb))) free
      (end_choice gc ga gb)
  does_conditional pc slot nc na nb free c a b gc ga gb starts at test first second = record {
    by = λ low w m rest x f above_base above_low room ready sound fits pops exits.
        let to = pc + 4 + length c + length a + length b in
        let t : Thread = thread pc w.position m in
        let height = length rest in
        let m1 = set m slot height in
        let there : slot < length m = omega (arith, ready.long) in
        let long : length m1 ≡ length m = length-set m slot height in
        let fits1 : take (2 * count) m1 ≡ slots_of_way whole w = take-set-le (2 * count) m slot height (omega arith) ∙ fits in
        let kept : Same keep low m m1 = same_set keep low m slot height above_low (omega arith) (omega arith) in
        let t1 : Thread = thread (pc + 1) w.position m1 in
        let u : Thread = thread (pc + 4 + length c + length a) w.position m1 in
        let two : pc + 1 + 1 ≡ pc + 2 = omega arith in
        let at_c = subst (λ p. HasAt code p (c ++ op.end_atomic slot ∷ (a ++ op.jump to ∷ b))) two at.1.1 in
        let at_cut = has_back code (pc + 2) (pc + 2 + length c) c (op.end_atomic slot ∷ (a ++ op.jump to ∷ b)) refl at_c in
        let three : pc + 2 + length c + 1 ≡ pc + 3 + length c = omega arith in
        let at_a = subst (λ p. HasAt code p (a ++ op.jump to ∷ b)) three at_cut.1 in
        let at_jump = has_back code (pc + 3 + length c) (pc + 3 + length c + length a) a (op.jump to ∷ b) refl at_a in
        let four : pc + 3 + length c + length a + 1 ≡ pc + 4 + length c + length a = omega arith in
        let at_b = subst (λ p. HasAt code p b) four at_jump.1 in
        let out = exits_later code r whole count keep rest low m free w.position to f exits rest m1 false w.position (above_refl rest) kept (λ e. refl) (λ e. omega arith) in
        let other : Comes code r whole count (u ∷ rest) (gb w f x) = second.by low w m1 rest x f above_base (omega arith) (omega arith) (ready_same keep kept ready) sound fits1 pops out in
        let next = test.by (slot + 1) w m1 (u ∷ rest) (backs (gb w f x)) (λ v y. drops_to height (ga v f x)) (omega arith) (omega arith) (omega arith) (ready_same keep kept ready) sound fits1
        (pops_to code r whole count u rest (gb w f x) (plain_from code (pc + 4 + length c + length a) to b starts at_b refl exits.plain) other)
        (record {
          plain = plain_at code (pc + 2 + length c) (op.end_atomic slot) at_cut.0 refl refl;
          go = λ v n stack y on sound' fits' same above pops'.
              let z : Thread = thread (pc + 2 + length c) v.position n in
              let on_a : Thread = thread (pc + 2 + length c + 1) v.position n in
              let there' : slot < length n = omega (arith, same.long, long, ready.long) in
              let start : get_or n slot 0 ≡ height = same.at slot (omega arith) (omega arith) ∙ get_or-set_same m slot height 0 there in
              let cut : truncated (get_or n slot 0) stack ≡ rest = lowered_above rest stack (get_or n slot 0) start (above_trans (above_cons u rest) above) in
              let later = exits_later code r whole count keep rest low m1 false w.position to f out rest n false v.position (above_refl rest) (same_lower keep (omega arith) same) (λ e. e) on in
              let done : Comes code r whole count (thread (pc + 3 + length c) v.position n ∷ rest) (ga v f x) =
              first.by low v n rest x f above_base (omega arith) (omega arith) (ready_same keep (same_trans keep kept (same_lower keep (omega arith) same)) ready) sound' fits' pops
              (record {
                plain = plain_at code (pc + 3 + length c + length a) (op.jump to) at_jump.0 refl refl;
                go = λ v2 n2 stack2 y2 on2 sound2 fits2 same2 above2 pops2.
                    by_move code r whole count (thread (pc + 3 + length c + length a) v2.position n2) stack2 (op.jump to) (goes (thread to v2.position n2)) (f v2 y2) at_jump.0 sound2.cuts.0 refl
                    (later.go v2 n2 stack2 y2 on2 sound2 fits2 same2 above2 pops2);
              }) in
              let done1 = comes_at code r whole count (pc + 3 + length c) (pc + 2 + length c + 1) v.position n rest (ga v f x) (sym three) done in
              by_move code r whole count z stack (op.end_atomic slot) (cuts (get_or n slot 0) on_a) (drops_to height (ga v f x)) at_cut.0 sound'.cuts.0 (with_slot_is slot z _ there')
              (goes_cut code r whole count on_a rest stack (get_or n slot 0) (ga v f x) cut (above_trans (above_cons u rest) above) done1);
        }) in
        let continuation = gc w (λ v y. drops_to height (ga v f x)) (backs (gb w f x)) in
        let split = by_move code r whole count t1 rest (op.split (pc + 2) (pc + 4 + length c + length a)) (forks (thread (pc + 2) w.position m1) u) (opens continuation) at.1.0 sound.cuts.0 refl
        (forked code r whole count (thread (pc + 2) w.position m1) u rest continuation next) in
        by_move code r whole count t rest (op.begin_atomic slot) (goes (wrote slot height t)) (end_choice gc ga gb w f x) at.0 sound.cuts.0 (with_slot_is slot t _ there) split;
  }
