-- A whole program answers the search of its pattern.
use Rattle.std.proofs.Common.{◌≡◌, ℕ, zero, suc, ◌+◌, ◌-◌, ◌*◌, ◌<◌, ◌≤◌, Bool, true, false, ◌&&◌, List, [], ◌∷◌, ◌++◌, length, take, get_or, set, Option, Some, None, refl, sym, ap, ◌∙◌, subst, arith, length-append, length-set, get_or-set_same, get_or-set_other, cond}
use Rattle.std.specs.Prelude.{slice_get, ◌||◌, ◌==◌, option_map, nat_lt, nat_le, not, replicate}
use Rattle.std.specs.List.{filter}
use Rattle.std.specs.Str.{IsCharBoundary}
use Rattle.std.proofs.Math.Seq.{take-set-lt}
use Rattle.std.proofs.lemmas.List.{get_or-take}
use Rattle.std.proofs.lemmas.Option.{none-some}
use Rattle.std.proofs.lemmas.Bool.{and_parts}
use Rattle.regex_hir.specs.Text.{is_boundary}
use Rattle.fancy_regex_meaning.specs.Positions.{numbers_from, boundaries}
use Rattle.fancy_regex_meaning.specs.Ways.{MatchState, Pairs}
use Rattle.fancy_regex_meaning.specs.Searches.{first_item, first_some, is_admitted}
use Rattle.fancy_regex_meaning.proofs.BoundaryLemmas.{IsCharBoundary-of_test}
use Rattle.fancy_regex_desugar.specs.CorePatterns.{CorePattern}
use Rattle.fancy_regex_desugar.specs.Delegates.{tail_bound}
use Rattle.fancy_regex_slots.specs.Memory.{Thread}
use Rattle.fancy_regex_program.specs.Ops as op
use Rattle.fancy_regex_program.specs.Ops.{Op}
use Rattle.fancy_regex_program.specs.Machine.{unset, most_branches, RunParameters, Ending, ended, initial_run_state, Move, goes, forks, fails, accepts, wrote, act, with_slot, starts_here, next_start, farther, is_start, is_scan, back, pop, exec, run, anchored_by, tried, first_thread}
use Rattle.fancy_regex_program.specs.Code.{written_out, slots_in, opening, closing, program_of, code_of}
use Rattle.fancy_regex_program.specs.SlotLayout.{slots_of_way, slots_of_match}
use Rattle.fancy_regex_class.specs.RunInputs.{group_slots}
use Rattle.fancy_regex_program_laws.specs.ProgramLaws.{FoundMatch, found_by_thread, entry_way, way_at, choices_up_to, first_group_number, RunRequirements, attempted_starts, ProgramsAnswerSearches}
use Rattle.fancy_regex_program_laws.proofs.Denote.{Continuation, SuccessContinuation, overflowed, ending}
use Rattle.fancy_regex_program_laws.proofs.Runs.{Keep, lone, Ready, thread, lt_no, overflow_above, Within, IsPlain, Sound, Comes, point, Pops, Follows, forked, by_move, Does}
use Rattle.fancy_regex_program_laws.proofs.ProgramParts.{HasAt, has_front, has_back, has_all, plain_at, with_slot_is}
use Rattle.fancy_regex_program_laws.proofs.Emitted.{closed_code, runs_closed, calls_written_out}
use Rattle.fancy_regex_program_laws.proofs.PairsInSlots.{length_flat}
use Rattle.fancy_regex_program_laws.proofs.Trail.{bounded}
use Rattle.fancy_regex_program_laws.proofs.StartByStart.{better, found_by_way, search_outcome, search_claims, search_answer, search_opened}
use Rattle.fancy_regex_program_laws.proofs.SearchEndings.{ended_with, keeping, at_first, at_finish, from_start, others, search_ends, search_total, search_alike}

-- All operations of a program stand in it.
flat_none : (count : ℕ) → group_slots (replicate count None) ≡ replicate (2 * count) unset
flat_none zero = refl
flat_none (suc count) =
    let e : 2 * suc count ≡ suc (suc (2 * count)) = omega arith in
    ap (λ l. unset ∷ unset ∷ l) (flat_none count) ∙ ap (λ n. replicate n unset) (sym e)

take_unset : (n m : ℕ) → take n (replicate (n + m) unset) ≡ replicate n unset
take_unset zero m = refl
take_unset (suc n) m = let e : suc n + m ≡ suc (n + m) = omega arith in ap (λ k. take (suc n) (replicate k unset)) e ∙ ap (λ l. unset ∷ l) (take_unset n m)

pub length_unset : (n x : ℕ) → length (replicate n x) ≡ n
length_unset zero x = refl
length_unset (suc n) x = omega (arith, length_unset n x)

abbrev no_pairs : ℕ → Pairs
no_pairs n = replicate n None

length_none : (n : ℕ) → length (no_pairs n) ≡ n
length_none zero = refl
length_none (suc n) = omega (arith, length_none n)

none_set : (n k a b : ℕ) → get_or (no_pairs n) k None ≡ Some (a, b) → ⊥
none_set zero k a b e = none-some (a, b) e
none_set (suc n) zero a b e = none-some (a, b) e
none_set (suc n) (suc k) a b e = none_set n k a b e

-- the numbers that pass, after the first of them
later_numbers : (f : ℕ → Bool) (n i x : ℕ) (xs : List ℕ) → filter f (numbers_from n i) ≡ x ∷ xs → (i ≤ x) × (f x ≡ true) × (xs ≡ filter f (numbers_from (i + n - (x + 1)) (x + 1)))
later_numbers f zero i x xs e = absurd cc
later_numbers f (suc n) i x xs e = step (f i) refl e (λ d. later_numbers f n (i + 1) x xs d)
  where
    step : (b : Bool) → f i ≡ b → cond b (i ∷ filter f (numbers_from n (i + 1))) (filter f (numbers_from n (i + 1))) ≡ x ∷ xs →
        (filter f (numbers_from n (i + 1)) ≡ x ∷ xs → (i + 1 ≤ x) × (f x ≡ true) × (xs ≡ filter f (numbers_from (i + 1 + n - (x + 1)) (x + 1)))) →
        (i ≤ x) × (f x ≡ true) × (xs ≡ filter f (numbers_from (i + suc n - (x + 1)) (x + 1)))
    step true is d more =
        let same : i ≡ x = cc in
        let rest : filter f (numbers_from n (i + 1)) ≡ xs = cc in
        let count : n ≡ i + suc n - (x + 1) = omega arith in (
          omega arith,
          ap f (sym same) ∙ is,
          sym rest ∙ ap (λ m. filter f (numbers_from m (i + 1))) count ∙ ap (λ m. filter f (numbers_from (i + suc n - (x + 1)) (m + 1))) same,
        )
    step false is d more =
        let h = more d in
        let count : i + 1 + n - (x + 1) ≡ i + suc n - (x + 1) = omega arith in
        (omega (arith, h.0), h.1, h.2 ∙ ap (λ m. filter f (numbers_from m (x + 1))) count)

within : (f : ℕ → Bool) (n i x : ℕ) (xs : List ℕ) → filter f (numbers_from n i) ≡ x ∷ xs → x < i + n
within f zero i x xs e = absurd cc
within f (suc n) i x xs e = found (f i) e (λ d. within f n (i + 1) x xs d)
  where
    found : (b : Bool) → cond b (i ∷ filter f (numbers_from n (i + 1))) (filter f (numbers_from n (i + 1))) ≡ x ∷ xs →
        (filter f (numbers_from n (i + 1)) ≡ x ∷ xs → x < i + 1 + n) → x < i + suc n
    found true d more = let same : i ≡ x = cc in omega arith
    found false d more = omega (arith, more d)

-- two tests are one
one_test : (f g : ℕ → Bool) (x : ℕ) (b : Bool) (ys zs : List ℕ) → filter f ys ≡ zs → filter f (cond b (x ∷ ys) ys) ≡ cond (b && f x) (x ∷ zs) zs
one_test f g x true ys zs e = ap (λ l. cond (f x) (x ∷ l) l) e
one_test f g x false ys zs e = e

filter_both : (f g : ℕ → Bool) (xs : List ℕ) → filter f (filter g xs) ≡ filter (λ x. g x && f x) xs
filter_both f g [] = refl
filter_both f g (x ∷ xs) = one_test f g x (g x) (filter g xs) (filter (λ y. g y && f y) xs) (filter_both f g xs)

module _ (r : RunParameters) where
  -- the starts that may be tried after a place
  abbrev following : ℕ → List ℕ
  following q = cond r.find.anchored [] (filter r.may_start (boundaries r.setting.text (q + 1) r.find.stop))

  next_is : (q : ℕ) → next_start r q ≡ first_item (following q)
  next_is q = step r.find.anchored
    where
      step : (b : Bool) → cond b None (first_item (filter r.may_start (boundaries r.setting.text (q + 1) r.find.stop)))
          ≡ first_item (cond b [] (filter r.may_start (boundaries r.setting.text (q + 1) r.find.stop)))
      step true = refl
      step false = refl

  abbrev both : ℕ → Bool
  both x = is_boundary r.setting.text x && r.may_start x

  later_starts : (first q : ℕ) (qs : List ℕ) → filter r.may_start (boundaries r.setting.text first r.find.stop) ≡ q ∷ qs →
      (is_boundary r.setting.text q ≡ true) × (first ≤ q) × (q ≤ r.find.stop) × (qs ≡ filter r.may_start (boundaries r.setting.text (q + 1) r.find.stop))
  later_starts first q qs e =
      let h = later_numbers both (r.find.stop + 1 - first) first q qs (sym (filter_both r.may_start (is_boundary r.setting.text) (numbers_from (r.find.stop + 1 - first) first)) ∙ e) in
      let inside = within both (r.find.stop + 1 - first) first q qs (sym (filter_both r.may_start (is_boundary r.setting.text) (numbers_from (r.find.stop + 1 - first) first)) ∙ e) in
      let count : first + (r.find.stop + 1 - first) - (q + 1) ≡ r.find.stop + 1 - (q + 1) = omega (arith, inside, h.0) in (
        (and_parts (is_boundary r.setting.text q) (r.may_start q) h.1).0,
        h.0,
        omega (arith, inside, h.0),
        h.2 ∙ ap (λ n. filter both (numbers_from n (q + 1))) count ∙ sym (filter_both r.may_start (is_boundary r.setting.text) (numbers_from (r.find.stop + 1 - (q + 1)) (q + 1))),
      )

not_one : (n : ℕ) → n ≡ 0 → n ≡ 1 → ⊥
not_one n e f = omega arith

admitted : (a f k : Bool) (x y : Move) → cond a (cond f (cond k x y) y) x ≡ cond (a && not (f && k)) y x
admitted true true true x y = refl
admitted true true false x y = refl
admitted true false k x y = refl
admitted false f k x y = refl

-- After j steps the run has ended, with the result of a search from these starts.
pub record Finishes (r : RunParameters) (p : CorePattern) (whole : Bool) (count : ℕ) (code : List Op) (many : ℕ) (starts : List ℕ) (j : ℕ) : Type 0 where
  pub ending : Ending
  pub comes : run code many r j ≡ Some ending
  pub way : option_map (found_by_thread whole (2 * count)) ending.answer ≡ option_map (found_by_way r.find whole) (first_some (way_at r p count) starts)
  pub few : ending.backtracks ≤ choices_up_to r p count starts
  pub narrow : ending.peak ≤ choices_up_to r p count starts
  pub backtracks : ending.backtracks ≡ (search_total r p whole count starts).backtracks
  pub peak : ending.peak ≡ (search_total r p whole count starts).peak
  pub overflow : ending.overflow ≡ (search_total r p whole count starts).overflow

-- where the stack has been empty, the overflow says all
on_ground : (a b : Option ℕ) → overflowed 0 a ≡ overflowed 0 b → a ≡ b
on_ground a b e =
    let no = lt_no most_branches 0 (omega arith) in
    sym (ap (λ c. cond c (Some 0) a) no) ∙ e ∙ ap (λ c. cond c (Some 0) b) no

-- A program with so many slots: after its opening stands a part that does what the pattern says, and then its closing.
pub record IsMade (r : RunParameters) (p : CorePattern) (whole anchored : Bool) (count : ℕ) (code : List Op) (many : ℕ) : Type 1 where
  pub keep : Keep count
  pub own : ℕ
  pub size : ℕ
  pub leads : keep.lead ≡ 0
  pub inside : 2 * count + own ≤ keep.top
  pub begins : Ready keep (replicate many unset)
  pub front_at : HasAt code 0 (opening r.setting.has_member r.setting.fold whole anchored)
  pub last_at : HasAt code (length (opening r.setting.has_member r.setting.fold whole anchored) + size) (closing r.setting.has_member r.setting.fold whole)
  pub body_does : Does code r whole count keep (length (opening r.setting.has_member r.setting.fold whole anchored))
      (length (opening r.setting.has_member r.setting.fold whole anchored) + size) (2 * count) own false (ending r.setting (tail_bound r.find) p)

-- A search that is anchored where its program is.
module _ (r : RunParameters) (p : CorePattern) (whole anchored : Bool) (count : ℕ) (asked : RunRequirements r p whole count) (own : anchored ≡ true → r.find.anchored ≡ true)
    (code : List Op) (many : ℕ) (made : IsMade r p whole anchored count code many) where
  abbrev front : List Op
  front = opening r.setting.has_member r.setting.fold whole anchored

  abbrev follow_end : SuccessContinuation
  follow_end = at_finish r p whole count

  -- what the slots of the groups hold at the end
  record Ended (v : MatchState) (n : List ℕ) : Type 0 where
    fits : take (2 * count) n ≡ slots_of_match whole v
    start : whole ≡ true → (0 < length n) × (get_or n 0 0 ≡ v.match_start)

  is_kept : (v : MatchState) (n : List ℕ) (t : Thread) → t.slots ≡ n → Ended v n → (f : Bool) → (f ≡ true → whole ≡ true) →
      cond f (with_slot 0 t (cond (get_or t.slots 0 0 == t.position) fails (accepts t))) (accepts t)
      ≡ cond f (cond (v.match_start == t.position) fails (accepts t)) (accepts t)
  is_kept v n t e h false spans = refl
  is_kept v n t e h true spans =
      let s = h.start (spans refl) in
      let long : length t.slots ≡ length n = ap length e in
      with_slot_is 0 t _ (omega arith)
      ∙ ap (λ (l : List ℕ). cond (get_or l 0 0 == t.position) fails (accepts t)) e
      ∙ ap (λ k. cond (k == t.position) fails (accepts t)) s.1

  farther_is : (best : Option Thread) (t : Thread) (h : FoundMatch) → found_by_thread whole (2 * count) t ≡ h →
      option_map (found_by_thread whole (2 * count)) (farther best t) ≡ better (option_map (found_by_thread whole (2 * count)) best) h
  farther_is None t h e = ap Some e
  farther_is (Some b) t h e =
      chosen (nat_lt b.position t.position) ∙ ap (λ (g : FoundMatch). cond (nat_lt b.position g.position) (Some g) (Some (found_by_thread whole (2 * count) b))) e
    where
      chosen : (c : Bool) → option_map (found_by_thread whole (2 * count)) (cond c (Some t) (Some b)) ≡ cond c (Some (found_by_thread whole (2 * count) t)) (Some (found_by_thread whole (2 * count) b))
      chosen true = refl
      chosen false = refl

  -- an admitted way, and one that is not
  ends : (t : Thread) (v : MatchState) (stack : List Thread) (x : Continuation) → found_by_thread whole (2 * count) t ≡ found_by_way r.find whole v → Pops code r whole count stack x → (a : Bool) →
      Follows code r whole count stack (cond a (accepts t) fails)
      (λ at. cond a (cond r.find.options.longest (x (keeping (better at.held.best_match (found_by_way r.find whole v)) at)) (ended_with (Some (found_by_way r.find whole v)))) (x at))
  ends t v stack x e pops false = pops
  ends t v stack x e pops true = λ held.
      elim r.find.options.longest as (λ b. Within whole (2 * count) (length stack)
      (λ j. cond b (pop code (exec code r j) (record { best_match = farther held.best_match t; limit = held.limit }) stack) (Some (ended (Some t))))
      (cond b (x (keeping (better (option_map (found_by_thread whole (2 * count)) held.best_match) (found_by_way r.find whole v)) (point code r whole count (length stack) held)))
      (ended_with (Some (found_by_way r.find whole v))))) [
        | true ↦ subst (λ o. Within whole (2 * count) (length stack) (λ j. pop code (exec code r j) (record { best_match = farther held.best_match t; limit = held.limit }) stack)
            (x (keeping o (point code r whole count (length stack) held))))
            (farther_is held.best_match t (found_by_way r.find whole v) e) (pops (record { best_match = farther held.best_match t; limit = held.limit }))
        | false ↦ record {
          fuel = 0;
          by = λ claim j le. record {
            ending = ended (Some t);
            comes = refl;
            answer = ap Some e;
            few = omega arith;
            narrow = omega arith;
            backtracks = refl;
            peak = refl;
            overflow = refl;
          };
        }
      ]

  start_of_whole : (v : MatchState) (n : List ℕ) (b : Bool) → (b ≡ true → (0 < length n) × (get_or n 0 0 ≡ v.match_start)) → cond b (get_or n 0 0) 0 ≡ cond b v.match_start 0
  start_of_whole v n true h = (h refl).1
  start_of_whole v n false h = refl

  finish_comes : (pc : ℕ) (v : MatchState) (n : List ℕ) (stack : List Thread) (x : Continuation) → slice_get code pc ≡ Some op.finish → Sound r.setting.text count v → Ended v n →
      Pops code r whole count stack x → Comes code r whole count (thread pc v.position n ∷ stack) (follow_end v x)
  finish_comes pc v n stack x at sound end pops =
      let t : Thread = thread pc v.position n in
      let same : found_by_thread whole (2 * count) t ≡ found_by_way r.find whole v =
      ap (λ (l : List ℕ). record { position = v.position; start = cond whole (get_or n 0 0) 0; slots = l }) end.fits
      ∙ ap (λ q. record { position = v.position; start = q; slots = slots_of_match whole v }) (start_of_whole v n whole end.start) in
      let acts : act r (Some op.finish) (length stack) t ≡ cond (is_admitted r.find v) (accepts t) fails =
      ap (λ m. cond (nat_le v.position r.find.stop) m fails) (is_kept v n t refl end r.find.options.find_not_empty asked.spans)
      ∙ admitted (nat_le v.position r.find.stop) r.find.options.find_not_empty (v.match_start == v.position) fails (accepts t) in
      by_move code r whole count t stack op.finish (cond (is_admitted r.find v) (accepts t) fails) (follow_end v x) at sound.cuts.0 acts
      (ends t v stack x same pops (is_admitted r.find v))

  kept_there : (v : MatchState) (n : List ℕ) → whole ≡ true → length v.pairs ≡ count → take (2 * count) n ≡ slots_of_way whole v → get_or n 0 0 ≡ v.match_start
  kept_there v n is many fits =
      let some = asked.groups is in
      let long : 0 < length (group_slots v.pairs) = omega (arith, length_flat v.pairs) in
      sym (get_or-take (2 * count) n 0 0 (omega arith)) ∙ ap (λ l. get_or l 0 0) (fits ∙ ap (λ b. slots_of_way b v) is) ∙ get_or-set_same (group_slots v.pairs) 0 v.match_start 0 long

  close_comes : (b : Bool) → whole ≡ b → (pc : ℕ) → HasAt code pc (cond b (op.save 1 ∷ []) [] ++ op.finish ∷ []) → (v : MatchState) (n : List ℕ) (stack : List Thread) (x : Continuation) →
      2 * count ≤ length n → Sound r.setting.text count v → take (2 * count) n ≡ slots_of_way whole v → Pops code r whole count stack x →
      Comes code r whole count (thread pc v.position n ∷ stack) (follow_end v x)
  close_comes true is pc at v n stack x room sound fits pops =
      let t : Thread = thread pc v.position n in
      let n1 = set n 1 v.position in
      let some = asked.groups is in
      let there : 1 < length n = omega arith in
      let long : length n1 ≡ length n = length-set n 1 v.position in
      let above : 0 < length n1 = omega (arith, long, there) in
      let fits1 : take (2 * count) n1 ≡ slots_of_match whole v =
      take-set-lt (2 * count) n 1 v.position (omega arith) ∙ ap (λ l. set l 1 v.position) fits ∙ sym (ap (λ b. cond b (set (slots_of_way whole v) 1 v.position) (slots_of_way whole v)) is) in
      let start : get_or n1 0 0 ≡ v.match_start = get_or-set_other n 1 0 v.position 0 (not_one 0 refl) ∙ kept_there v n is sound.many fits in
      by_move code r whole count t stack (op.save 1) (goes (wrote 1 v.position t)) (follow_end v x) at.0 sound.cuts.0 (with_slot_is 1 t _ there)
      (finish_comes (pc + 1) v n1 stack x at.1.0 sound (record { fits = fits1; start = λ _. (above, start) }) pops)
  close_comes false is pc at v n stack x room sound fits pops =
      let fits1 : take (2 * count) n ≡ slots_of_match whole v = fits ∙ sym (ap (λ b. cond b (set (slots_of_way whole v) 1 v.position) (slots_of_way whole v)) is) in
      finish_comes pc v n stack x at.0 sound
      (record { fits = fits1; start = λ yes. (let both : true ≡ false = sym yes ∙ is in absurd cc) }) pops

  plain_end : (b : Bool) (pc : ℕ) → HasAt code pc (cond b (op.save 1 ∷ []) [] ++ op.finish ∷ []) → IsPlain code pc
  plain_end true pc at = plain_at code pc (op.save 1) at.0 refl refl
  plain_end false pc at = plain_at code pc op.finish at.0 refl refl

  body_comes : (q : ℕ) (m : List ℕ) (rest : List Thread) (x : Continuation) → IsCharBoundary r.setting.text q → Ready made.keep m →
      take (2 * count) m ≡ slots_of_way whole (entry_way count q) → Pops code r whole count rest x →
      Comes code r whole count (thread (length front) q m ∷ rest) (from_start r p whole count q x)
  body_comes q m rest x here ready fits pops =
      let w = entry_way count q in
      let sound : Sound r.setting.text count w = record { cuts = (here, (λ k a b e. absurd (none_set count k a b e)), here); many = length_none count } in
      made.body_does.by (2 * count) w m rest x follow_end (omega (arith, made.leads)) (omega arith) made.inside ready sound fits pops
      (record {
        plain = plain_end whole (length front + made.size) made.last_at;
        go = λ v n stack y on sound' fits' same above pops'.
            close_comes whole refl (length front + made.size) made.last_at v n stack y (omega (arith, same.long, ready.long, made.inside)) sound' fits' pops';
      })

  abbrev slots : List ℕ
  slots = replicate many unset

  long_slots : 2 * count ≤ many
  long_slots = omega (arith, made.inside, made.begins.long, length_unset many unset)

  slots_fit : take (2 * count) slots ≡ group_slots (no_pairs count)
  slots_fit =
      let others : many ≡ 2 * count + (many - 2 * count) = omega (arith, long_slots) in
      ap (λ n. take (2 * count) (replicate n unset)) others ∙ take_unset (2 * count) (many - 2 * count) ∙ sym (flat_none count)

  -- from the operation after the one that tries starts
  start_comes : (b : Bool) → whole ≡ b → (pc q : ℕ) (rest : List Thread) (x : Continuation) → HasAt code pc (cond b (op.save 0 ∷ []) []) → length front ≡ pc + length (cond b (op.save 0 ∷ []) []) →
      IsCharBoundary r.setting.text q → Pops code r whole count rest x →
      Comes code r whole count (thread pc q slots ∷ rest) (from_start r p whole count q x)
  start_comes true is pc q rest x at e here pops =
      let t : Thread = thread pc q slots in
      let some = asked.groups is in
      let m = set slots 0 q in
      let there : 0 < length slots = omega (arith, length_unset many unset, long_slots) in
      let fits : take (2 * count) m ≡ slots_of_way whole (entry_way count q) =
      take-set-lt (2 * count) slots 0 q (omega arith) ∙ ap (λ l. set l 0 q) slots_fit ∙ sym (ap (λ b. slots_of_way b (entry_way count q)) is) in
      let below : 0 < 2 * count = omega arith in
      let ready : Ready made.keep m = record {
        long = omega (arith, length-set slots 0 q, made.begins.long);
        holds = made.keep.still slots m made.begins.holds (made.keep.below slots 0 q below);
      } in
      let next = body_comes q m rest x here ready fits pops in
      let continuation = from_start r p whole count q x in
      by_move code r whole count t rest (op.save 0) (goes (wrote 0 q t)) continuation at.0 here (with_slot_is 0 t _ there)
      (subst (λ n. Comes code r whole count (thread n q m ∷ rest) continuation) e next)
  start_comes false is pc q rest x at e here pops =
      let fits : take (2 * count) slots ≡ slots_of_way whole (entry_way count q) = slots_fit ∙ sym (ap (λ b. slots_of_way b (entry_way count q)) is) in
      let next = body_comes q slots rest x here made.begins fits pops in
      let same : length front ≡ pc = omega arith in
      subst (λ n. Comes code r whole count (thread n q slots ∷ rest) (from_start r p whole count q x)) same next

  abbrev later_starts_end : List ℕ → Continuation
  later_starts_end = others r p whole count

  abbrev outcome_from : ℕ → List ℕ → Continuation
  outcome_from = search_ends r p whole count

  nothing_left : Pops code r whole count [] (later_starts_end [])
  nothing_left held = record {
    fuel = 0;
    by = λ claim j le. record {
      ending = ended held.best_match;
      comes = refl;
      answer = refl;
      few = omega arith;
      narrow = omega arith;
      backtracks = refl;
      peak = refl;
      overflow = refl;
    };
  }

  -- at a later start, where the one before has no way left
  later_pops : (q : ℕ) (qs : List ℕ) → slice_get code 0 ≡ Some op.split_unanchored → Comes code r whole count (thread 0 q slots ∷ []) (outcome_from q qs) →
      Pops code r whole count (thread 0 q slots ∷ []) (later_starts_end (q ∷ qs))
  later_pops q qs at comes held = by_best held.best_match held.limit
    where
      by_best : (best : Option Thread) (l : ℕ) → Within whole (2 * count) 1 (λ j. pop code (exec code r j) (record { best_match = best; limit = l }) (thread 0 q slots ∷ []))
          (later_starts_end (q ∷ qs) (point code r whole count 1 (record { best_match = best; limit = l })))
      by_best None l =
          let c = comes (record { best_match = None; limit = l }) in
          record {
            fuel = c.fuel;
            by = λ claim j le.
                let e = c.by claim j le in
                record {
                  ending = back e.ending;
                  comes = ap (λ o. option_map (cond (is_scan o) (λ e. e) back) (exec code r j (record { best_match = None; limit = l }) (thread 0 q slots ∷ []))) at ∙ ap (option_map back) e.comes;
                  answer = e.answer;
                  few = omega (arith, e.few);
                  narrow = omega (arith, e.narrow);
                  backtracks = ap suc e.backtracks;
                  peak = omega (arith, e.peak);
                  overflow = overflow_above (option_map suc) 0 1 e.ending.overflow (outcome_from q qs (point code r whole count 0 (record { best_match = None; limit = l }))).overflow (omega arith) e.overflow;
                };
          }
      by_best (Some best) l = record {
        fuel = 0;
        by = λ claim j le. record {
          ending = ended (Some best);
          comes = ap (λ o. cond (is_start o) (Some (ended (Some best)))
              (option_map (cond (is_scan (slice_get code 0)) (λ e. e) back) (exec code r j (record { best_match = Some best; limit = l }) (thread 0 q slots ∷ [])))) at;
          answer = refl;
          few = omega arith;
          narrow = omega arith;
          backtracks = refl;
          peak = refl;
          overflow = refl;
        };
      }

  place_of : (q : ℕ) → q ≤ r.find.stop → is_boundary r.setting.text q ≡ true → IsCharBoundary r.setting.text q
  place_of q le is = IsCharBoundary-of_test r.setting.text q (omega (arith, asked.stop)) is

  -- the next start is a place, and the others come after it
  next_place : (q next : ℕ) (qs : List ℕ) → following r q ≡ next ∷ qs → IsCharBoundary r.setting.text next × (following r next ≡ qs)
  next_place q next qs e = step r.find.anchored e
    where
      step : (b : Bool) → cond b [] (filter r.may_start (boundaries r.setting.text (q + 1) r.find.stop)) ≡ next ∷ qs →
          IsCharBoundary r.setting.text next × (cond b [] (filter r.may_start (boundaries r.setting.text (next + 1) r.find.stop)) ≡ qs)
      step true d = absurd cc
      step false d = let h = later_starts r (q + 1) next qs d in (place_of next h.2 h.0, sym h.3)

  split_at : anchored ≡ false → HasAt code 0 (op.split_unanchored ∷ cond whole (op.save 0 ∷ []) [])
  split_at is =
      subst (λ b. HasAt code 0 (cond b [] (op.split_unanchored ∷ []) ++ cond whole (op.save 0 ∷ []) [])) is made.front_at

  long_front : (b : Bool) → anchored ≡ b → length front ≡ length (cond b [] (op.split_unanchored ∷ [])) + length (cond whole (op.save 0 ∷ []) [])
  long_front b is =
      length-append (cond anchored [] (op.split_unanchored ∷ [])) (cond whole (op.save 0 ∷ []) [])
      ∙ ap (λ c. length (cond c [] (op.split_unanchored ∷ [])) + length (cond whole (op.save 0 ∷ []) [])) is

  from_here : anchored ≡ false → (qs : List ℕ) (q : ℕ) → following r q ≡ qs → IsCharBoundary r.setting.text q → Comes code r whole count (thread 0 q slots ∷ []) (outcome_from q qs)
  from_here is [] q e here =
      let at = split_at is in
      by_move code r whole count (thread 0 q slots) [] op.split_unanchored (goes (thread 1 q slots)) (outcome_from q []) at.0 here
      (ap (starts_here (thread 0 q slots)) (next_is r q ∙ ap first_item e))
      (start_comes whole refl 1 q [] (later_starts_end []) at.1 (omega (arith, long_front false is)) here nothing_left)
  from_here is (next ∷ qs) q e here =
      let at = split_at is in
      let n = next_place q next qs e in
      let later = from_here is qs next n.1 n.0 in
      by_move code r whole count (thread 0 q slots) [] op.split_unanchored (forks (thread 1 q slots) (thread 0 next slots)) (outcome_from q (next ∷ qs)) at.0 here
      (ap (starts_here (thread 0 q slots)) (next_is r q ∙ ap first_item e))
      (forked code r whole count (thread 1 q slots) (thread 0 next slots) []
      (from_start r p whole count q (later_starts_end (next ∷ qs)))
      (start_comes whole refl 1 q (thread 0 next slots ∷ []) (later_starts_end (next ∷ qs)) at.1 (omega (arith, long_front false is)) here (later_pops next qs at.0 later)))

  from_first : anchored ≡ true → (q : ℕ) → IsCharBoundary r.setting.text q → Comes code r whole count (thread 0 q slots ∷ []) (outcome_from q [])
  from_first is q here =
      let at : HasAt code 0 (cond whole (op.save 0 ∷ []) []) =
      subst (λ b. HasAt code 0 (cond b [] (op.split_unanchored ∷ []) ++ cond whole (op.save 0 ∷ []) [])) is made.front_at in
      start_comes whole refl 0 q [] (later_starts_end []) at (omega (arith, long_front true is)) here nothing_left

  -- the first start is a place, and the others come after it
  first_place : (q : ℕ) (qs : List ℕ) → tried r ≡ q ∷ qs → IsCharBoundary r.setting.text q × (following r q ≡ qs)
  first_place q qs e = outer (nat_lt r.find.stop r.find.first) e
    where
      single : (b : Bool) → cond b (r.find.first ∷ []) [] ≡ q ∷ qs → IsCharBoundary r.setting.text q × ([] ≡ qs)
      single true d = let same : r.find.first ≡ q = cc in (subst (IsCharBoundary r.setting.text) same asked.first, cc)
      single false d = absurd cc

      inner : (b : Bool) → filter r.may_start (cond b (r.find.first ∷ []) (boundaries r.setting.text r.find.first r.find.stop)) ≡ q ∷ qs →
          IsCharBoundary r.setting.text q × (cond b [] (filter r.may_start (boundaries r.setting.text (q + 1) r.find.stop)) ≡ qs)
      inner true d = single (r.may_start r.find.first) d
      inner false d = let h = later_starts r r.find.first q qs d in (place_of q h.2 h.0, sym h.3)

      outer : (b : Bool) → cond b [] (filter r.may_start (cond r.find.anchored (r.find.first ∷ []) (boundaries r.setting.text r.find.first r.find.stop))) ≡ q ∷ qs →
          IsCharBoundary r.setting.text q × (following r q ≡ qs)
      outer true d = absurd cc
      outer false d = inner r.find.anchored d

  -- what the trails say of the outcome from there
  says : (q : ℕ) (qs : List ℕ) → bounded (outcome_from q qs at_first) ≡ search_outcome r p whole count (first_group_number whole) asked.writable asked.small q qs at_first.held
  says q qs = search_alike r p whole count (first_group_number whole) asked.writable asked.small q qs at_first

  -- the outcome of the starts that are tried
  over_from : (q : ℕ) (qs : List ℕ) → tried r ≡ q ∷ qs → Comes code r whole count (thread 0 q slots ∷ []) (outcome_from q qs) →
      (n : ℕ) × ((j : ℕ) → n ≤ j → Finishes r p whole count code many (tried r) j)
  over_from q qs e comes =
      let c = comes initial_run_state in
      let claimed : (outcome_from q qs at_first).claimed ≡ true =
      ap (λ t. t.claimed) (says q qs) ∙ search_claims r p whole count (first_group_number whole) asked.writable asked.small q qs at_first.held in
      let answer : (outcome_from q qs at_first).answer ≡ option_map (found_by_way r.find whole) (first_some (way_at r p count) (q ∷ qs)) =
      ap (λ t. t.answer) (says q qs) ∙ search_answer r p whole count (first_group_number whole) asked.writable asked.small unset q qs in
      let opened : (outcome_from q qs at_first).branches ≤ choices_up_to r p count (q ∷ qs) =
      omega (arith, ap (λ t. t.branches) (says q qs), search_opened r p whole count (first_group_number whole) asked.writable asked.small unset q qs) in
      let total : search_total r p whole count (tried r) ≡ outcome_from q qs at_first = ap (search_total r p whole count) e in (
        c.fuel,
        λ j le.
            let m = c.by claimed j le in
            record {
              ending = m.ending;
              comes = ap (λ (l : List ℕ). elim (first_item l) as (λ o. Option Ending) [ None ↦ Some (ended None) | Some s ↦ exec code r j initial_run_state (first_thread many s ∷ []) ]) e ∙ m.comes;
              way = m.answer ∙ answer ∙ ap (λ l. option_map (found_by_way r.find whole) (first_some (way_at r p count) l)) (sym e);
              few = omega (arith, m.few, opened, ap (choices_up_to r p count) e);
              narrow = omega (arith, m.narrow, opened, ap (choices_up_to r p count) e);
              backtracks = m.backtracks ∙ ap (λ t. t.backtracks) (sym total);
              peak = omega (arith, m.peak, ap (λ t. t.peak) total);
              overflow = on_ground m.ending.overflow (outcome_from q qs at_first).overflow m.overflow ∙ ap (λ t. t.overflow) (sym total);
            },
      )

  over_none : tried r ≡ [] → (n : ℕ) × ((j : ℕ) → n ≤ j → Finishes r p whole count code many (tried r) j)
  over_none e = (
    0,
    λ j le. record {
      ending = ended None;
      comes = ap (λ (l : List ℕ). elim (first_item l) as (λ o. Option Ending) [ None ↦ Some (ended None) | Some s ↦ exec code r j initial_run_state (first_thread many s ∷ []) ]) e;
      way = ap (λ l. option_map (found_by_way r.find whole) (first_some (way_at r p count) l)) (sym e);
      few = omega arith;
      narrow = omega arith;
      backtracks = ap (λ l. (search_total r p whole count l).backtracks) (sym e);
      peak = ap (λ l. (search_total r p whole count l).peak) (sym e);
      overflow = ap (λ l. (search_total r p whole count l).overflow) (sym e);
    },
  )

  -- after the only start of an anchored search there is none
  alone : anchored ≡ true → (q : ℕ) → following r q ≡ []
  alone is q = ap (λ (b : Bool). cond b [] (filter r.may_start (boundaries r.setting.text (q + 1) r.find.stop))) (own is)

  over_some : (q : ℕ) (qs : List ℕ) → tried r ≡ q ∷ qs → (b : Bool) → anchored ≡ b → (n : ℕ) × ((j : ℕ) → n ≤ j → Finishes r p whole count code many (tried r) j)
  over_some q qs e true is =
      let f = first_place q qs e in
      let none : qs ≡ [] = sym f.1 ∙ alone is q in
      over_from q [] (e ∙ ap (λ (l : List ℕ). q ∷ l) none) (from_first is q f.0)
  over_some q qs e false is =
      let f = first_place q qs e in
      over_from q qs e (from_here is qs q f.1 f.0)

  over_starts : (l : List ℕ) → tried r ≡ l → (n : ℕ) × ((j : ℕ) → n ≤ j → Finishes r p whole count code many (tried r) j)
  over_starts [] e = over_none e
  over_starts (q ∷ qs) e = over_some q qs e anchored refl

module _ (r : RunParameters) (p : CorePattern) (whole anchored : Bool) (count : ℕ) (asked : RunRequirements r p whole count) where
  -- the anchored run has the same requirements
  pub asked_anchored : RunRequirements (anchored_by anchored r) p whole count
  asked_anchored = record {
    utf8 = asked.utf8;
    small = asked.small;
    first = asked.first;
    stop = asked.stop;
    groups = asked.groups;
    spans = asked.spans;
    writable = asked.writable;
    placed = asked.placed;
  }

  -- a program that is made of the pattern answers its search
  pub made_answers : (code : List Op) (many : ℕ) → IsMade (anchored_by anchored r) p whole anchored count code many →
      (n : ℕ) × ((j : ℕ) → n ≤ j → Finishes (anchored_by anchored r) p whole count code many (attempted_starts anchored r) j)
  made_answers code many made =
      over_starts (anchored_by anchored r) p whole anchored count asked_anchored (λ is. ap (λ (b : Bool). b || r.find.anchored) is) code many made
      (tried (anchored_by anchored r)) refl

-- the number of the first group leaves room for a whole
pub first_apart : (whole : Bool) → whole ≡ true → 1 ≤ first_group_number whole
first_apart whole is = let e : first_group_number whole ≡ 1 = ap first_group_number is in omega (arith, e)

-- the program with its calls written out
module _ (r : RunParameters) (p : CorePattern) (whole anchored : Bool) (count : ℕ) (asked : RunRequirements r p whole count) where
  abbrev written : List Op
  written = program_of r.setting.has_member r.setting.fold whole anchored count p

  abbrev begin : List Op
  begin = opening r.setting.has_member r.setting.fold whole anchored

  abbrev body : List Op
  body = closed_code r.setting.has_member r.setting.fold whole written_out p (length begin) (2 * count)

  abbrev last : List Op
  last = closing r.setting.has_member r.setting.fold whole

  all_at : HasAt written 0 (begin ++ (body ++ last))
  unfolding program_of code_of
  all_at = has_all (begin ++ (body ++ last)) []

  pub written_made : IsMade r p whole anchored count written (2 * count + slots_in p)
  written_made =
      let body_at : HasAt written (length begin) (body ++ last) = has_back written 0 (length begin) begin (body ++ last) (omega arith) all_at in
      record {
        keep = lone count (slots_in p);
        own = slots_in p;
        size = length body;
        leads = refl;
        inside = omega arith;
        begins = record { long = omega (arith, length_unset (2 * count + slots_in p) unset); holds = tt };
        front_at = has_front written 0 begin (body ++ last) all_at;
        last_at = has_back written (length begin) (length begin + length body) body last refl body_at;
        body_does = runs_closed written r whole count (lone count (slots_in p)) asked.utf8 asked.small asked.groups written_out (first_group_number whole) (first_apart whole)
            p (length begin) (2 * count) false asked.writable asked.placed
            (calls_written_out written r whole count (lone count (slots_in p)) asked.utf8 asked.small asked.groups (first_group_number whole) (first_apart whole) p)
            (has_front written (length begin) body last body_at);
      }

pub programs_answer : ProgramsAnswerSearches
programs_answer r p whole anchored count asked =
    let over = made_answers r p whole anchored count asked (program_of r.setting.has_member r.setting.fold whole anchored count p) (2 * count + slots_in p)
    (written_made (anchored_by anchored r) p whole anchored count (asked_anchored r p whole anchored count asked)) in
    (over.0, λ j le. (let f = over.1 j le in record { ending = f.ending; comes = f.comes; answers = record { way = f.way; few = f.few; narrow = f.narrow } }))
