-- Loops without a counter, whose bodies take a character each time, and what they do.
use Rattle.std.proofs.Common.{◌≡◌, ℕ, zero, suc, ◌+◌, ◌-◌, ◌*◌, ◌<◌, ◌≤◌, Bool, true, false, List, [], ◌∷◌, ◌++◌, length, take, Some, refl, sym, ap, ◌∙◌, subst, arith, cond}
use Rattle.std.specs.Prelude.{slice_get, ◌==◌, nat_lt}
use Rattle.fancy_regex_meaning.specs.Ways.{MatchState}
use Rattle.fancy_regex_slots.specs.Memory.{Thread}
use Rattle.fancy_regex_program.specs.Ops as op
use Rattle.fancy_regex_program.specs.Ops.{Op}
use Rattle.fancy_regex_program.specs.Code.{split_by, loop_entry, loop_head}
use Rattle.fancy_regex_program.specs.Machine.{unset, RunParameters, goes, at_op, forks_by, act}
use Rattle.fancy_regex_program.specs.SlotLayout.{slots_of_way}
use Rattle.fancy_regex_program_laws.proofs.Denote.{Continuation, SuccessContinuation, Denotation, opens, backs, no_claim, end_pick, end_loop, end_times}
use Rattle.fancy_regex_program_laws.proofs.Runs.{Keep, Ready, ready_same, above_refl, above_trans, same_refl, thread, lt_yes, lt_is, eq_other, IsPlain, Sound, Comes, Pops, by_move, Exits, exits_later, comes_at, Does}
use Rattle.fancy_regex_program_laws.proofs.ProgramParts.{HasAt, has_front, has_back, StartsPlain, plain_from, plain_at}
use Rattle.fancy_regex_program_laws.proofs.Loops.{fork_comes, does_loop}

-- only what follows further on counts
abbrev pub GoesPast : Denotation → Type 0
GoesPast g = (w : MatchState) (k k' : SuccessContinuation) (x : Continuation) → ((v : MatchState) (y : Continuation) → w.position < v.position → k v y ≡ k' v y) → g w k x ≡ g w k' x

split_forks : (greedy : Bool) (r : RunParameters) (on stop height : ℕ) (t : Thread) → act r (Some (split_by greedy on stop)) height t ≡ forks_by greedy (at_op on t) (at_op stop t)
split_forks true r on stop height t = refl
split_forks false r on stop height t = refl

picks_as : (greedy : Bool) (g : Denotation) (w : MatchState) (again again' k : SuccessContinuation) (x : Continuation) → ((y : Continuation) → g w again y ≡ g w again' y) → end_pick greedy g w again k x ≡ end_pick greedy g w again' k x
picks_as true g w again again' k x same = ap (λ (y : Continuation). opens y) (same (backs (k w x)))
picks_as false g w again again' k x same = ap (λ (y : Continuation). opens (k w (backs y))) (same x)

module _ (code : List Op) (r : RunParameters) (whole : Bool) (count : ℕ) (keep : Keep count) where
  no_claim_comes : (ts : List Thread) → Comes code r whole count ts no_claim
  no_claim_comes ts held = record { fuel = 0; by = λ claim. absurd cc }

  module _ (greedy : Bool) (head first end next slot much : ℕ) (g : Denotation) (past : GoesPast g) (body : Does code r whole count keep first end (slot + 2) much false g)
      (plain : IsPlain code first) (at_head : slice_get code head ≡ Some (split_by greedy first next)) (at_end : slice_get code end ≡ Some (op.jump head)) where
    -- a loop that may stop, and may go on
    rounds_run : (n low : ℕ) (w : MatchState) (m : List ℕ) (rest : List Thread) (x : Continuation) (k : SuccessContinuation) → length r.setting.text - w.position < n →
        2 * count + keep.lead ≤ low → low ≤ slot → slot + 2 + much ≤ keep.top → Ready keep m → Sound r.setting.text count w → take (2 * count) m ≡ slots_of_way whole w →
        Pops code r whole count rest x → Exits code r whole count keep rest low m false w.position next k →
        Comes code r whole count (thread head w.position m ∷ rest) (end_loop g greedy n w k x)
    rounds_run zero low w m rest x k fuel above_base above_low room ready sound fits pops exits = absurd (omega arith)
    rounds_run (suc n) low w m rest x k fuel above_base above_low room ready sound fits pops exits =
        let t : Thread = thread head w.position m in
        let again : SuccessContinuation = λ v y. cond (v.position == w.position) (k v y) (end_loop g greedy n v k y) in
        let further : SuccessContinuation = λ v y. cond (nat_lt w.position v.position) (end_loop g greedy n v k y) no_claim in
        let same : (y : Continuation) → g w again y ≡ g w further y = λ y. past w again further y
        (λ v z lt. ap (λ b. cond b (k v z) (end_loop g greedy n v k z)) (eq_other v.position w.position (λ e. absurd (omega (arith, e))))
        ∙ sym (ap (λ b. cond b (end_loop g greedy n v k z) no_claim) (lt_yes w.position v.position lt))) in
        subst (Comes code r whole count (t ∷ rest)) (sym (picks_as greedy g w again further k x same))
        (by_move code r whole count t rest (split_by greedy first next) (forks_by greedy (at_op first t) (at_op next t)) (end_pick greedy g w further k x) at_head sound.cuts.0
        (split_forks greedy r first next (length rest) t)
        (fork_comes code r whole count keep greedy (at_op first t) (at_op next t) rest g w further k x plain exits.plain pops
        (λ stack y above pops'. body.by low w m stack y further above_base (omega arith) room ready sound fits pops'
        (record {
          plain = plain_at code end (op.jump head) at_end refl refl;
          go = λ v m2 stack2 z on sound2 fits2 kept above2 pops2.
              let u : Thread = thread end v.position m2 in
              elim (nat_lt w.position v.position) as (λ b. nat_lt w.position v.position ≡ b → Comes code r whole count (u ∷ stack2) (cond b (end_loop g greedy n v k z) no_claim)) [
                | true ↦ λ yes.
                    let lt = lt_is w.position v.position yes in
                    let inside : v.position ≤ length r.setting.text = sound2.cuts.0.0 in
                    by_move code r whole count u stack2 (op.jump head) (goes (thread head v.position m2)) (end_loop g greedy n v k z) at_end sound2.cuts.0 refl
                    (rounds_run n low v m2 stack2 z k (omega (arith, lt, inside)) above_base above_low room (ready_same keep kept ready) sound2 fits2 pops2
                    (exits_later code r whole count keep rest low m false w.position next k exits stack2 m2 false v.position (above_trans above above2) kept (λ e. e) on))
                | false ↦ λ no. no_claim_comes (u ∷ stack2)
              ] refl;
        }))
        (λ stack y above pops'. exits.go w m stack y (λ e. omega arith) sound fits (same_refl keep low m) above pops')))

  -- a repeat without a greatest count, which goes round at least once or not at all
  pub does_uncounted : (pc slot much lo : ℕ) (greedy free : Bool) (b : List Op) (g : Denotation) → lo ≤ 1 → GoesPast g → StartsPlain b →
      HasAt code pc (op.jump (pc + 1 + lo) ∷ split_by greedy (pc + 2) (pc + 3 + length b) ∷ (b ++ op.jump (pc + 1) ∷ [])) →
      Does code r whole count keep (pc + 2) (pc + 2 + length b) (slot + 2) much false g →
      Does code r whole count keep pc (pc + 3 + length b) slot (2 + much) free (end_times g lo (end_loop g greedy (length r.setting.text + 1)))
  does_uncounted pc slot much lo greedy free b g few past starts at body = record {
    by = λ low w m rest x k above_base above_low room ready sound fits pops exits.
        let t : Thread = thread pc w.position m in
        let two : pc + 1 + 1 ≡ pc + 2 = omega arith in
        let at_b : HasAt code (pc + 2) (b ++ op.jump (pc + 1) ∷ []) = subst (λ p. HasAt code p (b ++ op.jump (pc + 1) ∷ [])) two at.1.1 in
        let last = has_back code (pc + 2) (pc + 2 + length b) b (op.jump (pc + 1) ∷ []) refl at_b in
        let plain : IsPlain code (pc + 2) =
        plain_from code (pc + 2) (pc + 2 + length b) b starts (has_front code (pc + 2) b _ at_b) refl (plain_at code (pc + 2 + length b) (op.jump (pc + 1)) last.0 refl refl) in
        let loop : Denotation = end_loop g greedy (length r.setting.text + 1) in
        let out = exits_later code r whole count keep rest low m free w.position (pc + 3 + length b) k exits rest m false w.position (above_refl rest) (same_refl keep low m) (λ e. refl) (λ e. omega arith) in
        let enters : (n : ℕ) → lo ≡ n → Comes code r whole count (thread (pc + 1 + n) w.position m ∷ rest) (end_times g n loop w k x) = λ n. elim n as (λ n. lo ≡ n → Comes code r whole count (thread (pc + 1 + n) w.position m ∷ rest) (end_times g n loop w k x)) [
          | zero ↦ λ none.
              comes_at code r whole count (pc + 1) (pc + 1 + 0) w.position m rest (loop w k x) (omega arith)
              (rounds_run greedy (pc + 1) (pc + 2) (pc + 2 + length b) (pc + 3 + length b) slot much g past body plain at.1.0 last.0 (length r.setting.text + 1) low w m rest x k
              (omega arith) above_base above_low (omega arith) ready sound fits pops out)
          | suc n ↦ λ some.
              let one : n ≡ 0 = omega arith in
              comes_at code r whole count (pc + 2) (pc + 1 + suc n) w.position m rest (end_times g (suc n) loop w k x) (omega arith)
              (subst (λ i. Comes code r whole count (thread (pc + 2) w.position m ∷ rest) (end_times g (suc i) loop w k x)) (sym one)
              (body.by low w m rest x (λ v y. loop v k y) above_base (omega arith) (omega arith) ready sound fits pops
              (record {
                plain = plain_at code (pc + 2 + length b) (op.jump (pc + 1)) last.0 refl refl;
                go = λ v m2 stack2 z on sound2 fits2 kept above2 pops2.
                    let u : Thread = thread (pc + 2 + length b) v.position m2 in
                    by_move code r whole count u stack2 (op.jump (pc + 1)) (goes (thread (pc + 1) v.position m2)) (loop v k z) last.0 sound2.cuts.0 refl
                    (rounds_run greedy (pc + 1) (pc + 2) (pc + 2 + length b) (pc + 3 + length b) slot much g past body plain at.1.0 last.0 (length r.setting.text + 1) low v m2 stack2 z k
                    (omega arith) above_base above_low (omega arith) (ready_same keep kept ready) sound2 fits2 pops2
                    (exits_later code r whole count keep rest low m false w.position (pc + 3 + length b) k out stack2 m2 false v.position above2 kept (λ e. e) on));
              })))
        ] in
        by_move code r whole count t rest (op.jump (pc + 1 + lo)) (goes (thread (pc + 1 + lo) w.position m)) (end_times g lo loop w k x) at.0 sound.cuts.0 refl (enters lo refl);
  }

  -- a repeat without a greatest count
  pub does_endless : (uncounted : Bool) (pc slot much lo : ℕ) (greedy free : Bool) (b : List Op) (g : Denotation) → lo < unset → (uncounted ≡ true → (lo ≤ 1) × GoesPast g) → StartsPlain b →
      HasAt code pc (loop_entry uncounted lo (pc + 1) slot ∷ loop_head uncounted lo greedy (pc + 2) (pc + 3 + length b) slot (slot + 1) ∷ (b ++ op.jump (pc + 1) ∷ [])) →
      Does code r whole count keep (pc + 2) (pc + 2 + length b) (slot + 2) much false g →
      Does code r whole count keep pc (pc + 3 + length b) slot (2 + much) free (end_times g lo (end_loop g greedy (length r.setting.text + 1)))
  does_endless true pc slot much lo greedy free b g fit past starts at body = does_uncounted pc slot much lo greedy free b g (past refl).0 (past refl).1 starts at body
  does_endless false pc slot much lo greedy free b g fit past starts at body = does_loop code r whole count keep pc slot much lo greedy free b g fit starts at body
