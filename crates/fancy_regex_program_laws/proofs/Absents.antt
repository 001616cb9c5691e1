-- An absent repeater's program, and what it does.
use Rattle.std.proofs.Common.{◌≡◌, ℕ, ◌+◌, ◌*◌, ◌<◌, ◌≤◌, Bool, true, false, List, [], ◌∷◌, ◌++◌, length, take, get_or, set, Option, Some, None, refl, sym, ap, ◌∙◌, subst, arith, length-set, get_or-set_same, get_or-set_other, cond}
use Rattle.std.specs.Prelude.{slice_get, nat_lt, nat_le}
use Rattle.std.proofs.lemmas.List.{take-set-le}
use Rattle.std.specs.Str.{IsUtf8, IsCharBoundary}
use Rattle.fancy_regex_meaning.specs.Positions.{boundaries, position_before}
use Rattle.fancy_regex_meaning.specs.Ways.{MatchState, with_position}
use Rattle.fancy_regex_slots.specs.Memory.{Thread}
use Rattle.fancy_regex_program.specs.Ops as op
use Rattle.fancy_regex_program.specs.Ops.{Op}
use Rattle.fancy_regex_program.specs.Machine.{unset, RunParameters, RunState, Move, Limited, goes, forks, fails, by_limit, at_op, at_position, moved, wrote_at, begun, looked, looks, lowers, scans, offers, offers_here, offers_below, match_char, before, act, exec, in_front}
use Rattle.fancy_regex_program.specs.SlotLayout.{slots_of_way}
use Rattle.fancy_regex_program_laws.proofs.Denote.{Continuation, SuccessContinuation, Denotation, opens, backs, closes, below, end_ends, end_seen, end_looked, end_look, end_absent}
use Rattle.fancy_regex_program_laws.proofs.Runs.{Keep, Ready, ready_same, above_refl, above_cons, Same, same_refl, same_trans, same_set, thread, lt_yes, lt_no, lt_is, Within, Sound, point, Comes, Pops, Follows, pops_to, pops_scan, forked, by_move, Exits, exits_later, Does}
use Rattle.fancy_regex_program_laws.proofs.ProgramParts.{HasAt, has_back, plain_at, with_slot_is}
use Rattle.fancy_regex_program_laws.proofs.TextPositions.{IsFollowedBy, places_after, places_from, followed_by}

-- places one character apart, down to the start
abbrev Down : List ℕ → ℕ → List ℕ → Type 0
Down text start [] = ⊥
Down text start (p ∷ []) = start ≡ p
Down text start (p ∷ q ∷ qs) = (start < p) × (q < p) × (position_before text 1 p ≡ Some q) × IsCharBoundary text q × Down text start (q ∷ qs)

-- once one of them is below the limit, so are the others
all_below : (text : List ℕ) (start l p : ℕ) (ps : List ℕ) → p < l → Down text start (p ∷ ps) → below l (p ∷ ps) ≡ p ∷ ps
all_below text start l p [] lt d = ap (λ b. cond b (p ∷ []) []) (lt_yes p l lt)
all_below text start l p (q ∷ qs) lt d =
    ap (λ b. cond b (p ∷ below l (q ∷ qs)) (below l (q ∷ qs))) (lt_yes p l lt)
    ∙ ap (λ xs. p ∷ xs) (all_below text start l q qs (omega (arith, d.1)) d.4)

-- no place is before the first one
start_least : (text : List ℕ) (start p : ℕ) (ps : List ℕ) → Down text start (p ∷ ps) → start ≤ p
start_least text start p [] d = omega (arith, d)
start_least text start p (q ∷ qs) d = omega (arith, d.0)

module _ (code : List Op) (r : RunParameters) (whole : Bool) (count : ℕ) (keep : Keep count) (utf8 : IsUtf8 r.setting.text) where
  abbrev text : List ℕ
  text = r.setting.text

  placed_at : (w : MatchState) (q : ℕ) → Sound text count w → IsCharBoundary text q → Sound text count (with_position w q)
  placed_at w q sound cut = record { cuts = (cut, sound.cuts.1, sound.cuts.2); many = sound.many }

  module _ (pc slot much : ℕ) (b : List Op) (g : Denotation) (body : Does code r whole count keep (pc + 2) (pc + 2 + length b) (slot + 2) much false g)
      (at_scan : slice_get code (pc + 1) ≡ Some (op.absent_scan (pc + 3 + length b) (slot + 1)))
      (at_limit : slice_get code (pc + 2 + length b) ≡ Some (op.absent_limit (slot + 1)))
      (at_end : slice_get code (pc + 3 + length b) ≡ Some (op.absent_end slot (slot + 1))) where
    abbrev end : ℕ
    end = pc + 3 + length b

    module _ (w : MatchState) (k : SuccessContinuation) (sound : Sound text count w) where
      -- the ends that are offered from a place on, down to the start
      ends_run : (p : ℕ) (ps : List ℕ) (l low : ℕ) (m : List ℕ) (rest : List Thread) (x : Continuation) → Down text w.position (p ∷ ps) → IsCharBoundary text p →
          get_or m slot 0 ≡ w.position → get_or m (slot + 1) 0 ≡ l → 2 * count + keep.lead ≤ low → low ≤ slot → slot + 2 + much ≤ keep.top → Ready keep m →
          take (2 * count) m ≡ slots_of_way whole w → Pops code r whole count rest x → Exits code r whole count keep rest low m false w.position (end + 1) k →
          Comes code r whole count (thread end p m ∷ rest) (end_ends (below l (p ∷ ps)) w k x)
      ends_run p [] l low m rest x down cut start_is limit_is above_base above_low room ready fits pops exits =
          let t : Thread = thread end p m in
          let none : before r.setting w.position t ≡ None = ap (λ c. cond c (position_before text 1 p) None) (lt_no w.position p (omega (arith, down))) in
          let move = cond (nat_lt p l) (offers_here t None) (offers_below t None) in
          let acts : act r (Some (op.absent_end slot (slot + 1))) (length rest) t ≡ move =
          with_slot_is slot t _ (omega (arith, ready.long)) ∙ with_slot_is (slot + 1) t _ (omega (arith, ready.long))
          ∙ ap (λ a. offers r.setting a (get_or m (slot + 1) 0) t) start_is
          ∙ ap (λ a. offers r.setting w.position a t) limit_is
          ∙ ap (λ o. cond (nat_lt p l) (offers_here t o) (offers_below t o)) none in
          by_move code r whole count t rest (op.absent_end slot (slot + 1)) move (end_ends (below l (p ∷ [])) w k x) at_end cut acts
          (elim (nat_lt p l) as (λ c. Follows code r whole count rest (cond c (offers_here t None) (offers_below t None)) (end_ends (cond c (p ∷ []) []) w k x)) [
            | true ↦ exits.go (with_position w p) m rest x (λ e. omega (arith, down)) (placed_at w p sound cut) fits (same_refl keep low m) (above_refl rest) pops
            | false ↦ pops
          ])
      ends_run p (q ∷ qs) l low m rest x down cut start_is limit_is above_base above_low room ready fits pops exits =
          let t : Thread = thread end p m in
          let u : Thread = thread end q m in
          let one : before r.setting w.position t ≡ Some q = ap (λ c. cond c (position_before text 1 p) None) (lt_yes w.position p down.0) ∙ down.2 in
          let move = cond (nat_lt p l) (offers_here t (Some q)) (offers_below t (Some q)) in
          let acts : act r (Some (op.absent_end slot (slot + 1))) (length rest) t ≡ move =
          with_slot_is slot t _ (omega (arith, ready.long)) ∙ with_slot_is (slot + 1) t _ (omega (arith, ready.long))
          ∙ ap (λ a. offers r.setting a (get_or m (slot + 1) 0) t) start_is
          ∙ ap (λ a. offers r.setting w.position a t) limit_is
          ∙ ap (λ o. cond (nat_lt p l) (offers_here t o) (offers_below t o)) one in
          let others : Comes code r whole count (u ∷ rest) (end_ends (below l (q ∷ qs)) w k x) =
          ends_run q qs l low m rest x down.4 down.3 start_is limit_is above_base above_low room ready fits pops exits in
          let here : nat_lt p l ≡ true → Comes code r whole count (thread (end + 1) p m ∷ u ∷ rest) (k (with_position w p) (backs (end_ends (q ∷ qs) w k x))) = λ is.
          let lt = lt_is p l is in
          let rest_comes = subst (λ l'. Comes code r whole count (u ∷ rest) (end_ends l' w k x)) (all_below text w.position l q qs (omega (arith, lt, down.1)) down.4) others in
          exits.go (with_position w p) m (u ∷ rest) (backs (end_ends (q ∷ qs) w k x)) (λ e. omega (arith, down.0)) (placed_at w p sound cut) fits (same_refl keep low m) (above_cons u rest)
          (pops_to code r whole count u rest (end_ends (q ∷ qs) w k x) (plain_at code end (op.absent_end slot (slot + 1)) at_end refl refl) rest_comes) in
          by_move code r whole count t rest (op.absent_end slot (slot + 1)) move (end_ends (below l (p ∷ q ∷ qs)) w k x) at_end cut acts
          ((elim (nat_lt p l) as (λ c. nat_lt p l ≡ c → Follows code r whole count rest (cond c (offers_here t (Some q)) (offers_below t (Some q))) (end_ends (cond c (p ∷ below l (q ∷ qs)) (below l (q ∷ qs))) w k x)) [
            | true ↦ λ is.
                let lt = lt_is p l is in
                subst (λ l'. Follows code r whole count rest (forks (thread (end + 1) p m) u) (end_ends (p ∷ l') w k x)) (sym (all_below text w.position l q qs (omega (arith, lt, down.1)) down.4))
                (forked code r whole count (thread (end + 1) p m) u rest (k (with_position w p) (backs (end_ends (q ∷ qs) w k x))) (here is))
            | false ↦ λ is. others
          ]) refl)

      -- it has looked far enough
      looked_run : (p : ℕ) (ps : List ℕ) (outer low : ℕ) (m : List ℕ) (rest : List Thread) (x : Continuation) → Down text w.position (p ∷ ps) → IsCharBoundary text p →
          get_or m slot 0 ≡ w.position → 2 * count + keep.lead ≤ low → low ≤ slot → slot + 2 + much ≤ keep.top → Ready keep m →
          take (2 * count) m ≡ slots_of_way whole w → Pops code r whole count rest x → Exits code r whole count keep rest low m false w.position (end + 1) k →
          (held : RunState) → Within whole (2 * count) (length rest) (λ j. exec code r j (record { best_match = held.best_match; limit = outer }) (thread end p (set m (slot + 1) held.limit) ∷ rest))
          (end_looked (p ∷ ps) outer w k x (point code r whole count (length rest) held))
      looked_run p ps outer low m rest x down cut start_is above_base above_low room ready fits pops exits held =
          let m1 = set m (slot + 1) held.limit in
          let long : length m1 ≡ length m = length-set m (slot + 1) held.limit in
          let there : slot + 1 < length m = omega (arith, ready.long) in
          let ne : slot ≡ slot + 1 → ⊥ = λ (e : slot ≡ slot + 1). omega arith in
          let kept : Same keep low m m1 = same_set keep low m (slot + 1) held.limit (omega arith) (omega arith) (omega arith) in
          ends_run p ps held.limit low m1 rest x down cut (get_or-set_other m (slot + 1) slot held.limit 0 ne ∙ start_is) (get_or-set_same m (slot + 1) held.limit 0 there)
          above_base above_low (omega arith) (ready_same keep kept ready) (take-set-le (2 * count) m (slot + 1) held.limit (omega arith) ∙ fits) pops
          (exits_later code r whole count keep rest low m false w.position (end + 1) k exits rest m1 false w.position (above_refl rest) kept (λ e. e) (λ e. omega arith))
          (record { best_match = held.best_match; limit = outer })

      -- the body at a place, and later further on
      tries : (q : ℕ) (m : List ℕ) (rest : List Thread) (y : Continuation) → IsCharBoundary text q → 2 * count + keep.lead ≤ slot → slot + 2 + much ≤ keep.top → Ready keep m →
          take (2 * count) m ≡ slots_of_way whole w → Comes code r whole count (thread (pc + 1) q m ∷ rest) y →
          Comes code r whole count (thread (pc + 2) q m ∷ thread (pc + 1) q m ∷ rest) (g (with_position w q) end_seen (closes y))
      tries q m rest y cut above_base room ready fits later =
          let u : Thread = thread (pc + 1) q m in
          body.by (slot + 2) (with_position w q) m (u ∷ rest) (closes y) end_seen (omega arith) (omega arith) room ready (placed_at w q sound cut) fits
          (pops_scan code r whole count u rest y (ap Rattle.fancy_regex_program.specs.Machine.is_start at_scan) (ap Rattle.fancy_regex_program.specs.Machine.is_scan at_scan) later)
          (record {
            plain = plain_at code (pc + 2 + length b) (op.absent_limit (slot + 1)) at_limit refl refl;
            go = λ v n stack z on sound' fits' same above pops'.
                let h : Thread = thread (pc + 2 + length b) v.position n in
                by_move code r whole count h stack (op.absent_limit (slot + 1)) (by_limit (lowers v.position)) (end_seen v z) at_limit sound'.cuts.0
                (with_slot_is (slot + 1) h _ (omega (arith, same.long, ready.long)))
                (λ held. pops' (record { best_match = held.best_match; limit = Rattle.fancy_regex_program.specs.Machine.lower held.limit v.position }));
          })

      -- it looks on from a place where its body was tried
      looks_run : (qs : List ℕ) (p : ℕ) (ps : List ℕ) (outer low : ℕ) (m : List ℕ) (rest : List Thread) (x : Continuation) → IsFollowedBy text p qs → Down text w.position (p ∷ ps) → IsCharBoundary text p →
          get_or m slot 0 ≡ w.position → get_or m (slot + 1) 0 ≡ outer → 2 * count + keep.lead ≤ low → low ≤ slot → slot + 2 + much ≤ keep.top → Ready keep m →
          take (2 * count) m ≡ slots_of_way whole w → Pops code r whole count rest x → Exits code r whole count keep rest low m false w.position (end + 1) k →
          Comes code r whole count (thread (pc + 1) p m ∷ rest) (end_look g (p ∷ ps) qs outer w k x)
      looks_run [] p ps outer low m rest x next down cut start_is outer_is above_base above_low room ready fits pops exits =
          let t : Thread = thread (pc + 1) p m in
          let out : ℕ → Limited = λ l. record { limit = outer; threads = wrote_at end (slot + 1) l t ∷ [] } in
          let acts : act r (Some (op.absent_scan end (slot + 1))) (length rest) t ≡ by_limit out =
          with_slot_is (slot + 1) t _ (omega (arith, ready.long))
          ∙ ap (λ (o : Option ℕ). elim o as (λ o. Move) [ None ↦ by_limit (looked end (slot + 1) t) | Some q ↦ by_limit (looks end (slot + 1) t q) ]) next
          ∙ ap (λ o. by_limit (λ l. record { limit = o; threads = wrote_at end (slot + 1) l t ∷ [] })) outer_is in
          by_move code r whole count t rest (op.absent_scan end (slot + 1)) (by_limit out) (end_look g (p ∷ ps) [] outer w k x) at_scan cut acts
          (looked_run p ps outer low m rest x down cut start_is above_base above_low room ready fits pops exits)
      looks_run (q ∷ qs) p ps outer low m rest x next down cut start_is outer_is above_base above_low room ready fits pops exits =
          let t : Thread = thread (pc + 1) p m in
          let out : ℕ → Limited = λ l. record { limit = outer; threads = wrote_at end (slot + 1) l t ∷ [] } in
          let on : ℕ → Limited = λ l. record { limit = l; threads = moved q t ∷ at_position q t ∷ [] } in
          let acts : act r (Some (op.absent_scan end (slot + 1))) (length rest) t ≡ by_limit (λ l. cond (nat_le l q) (out l) (on l)) =
          with_slot_is (slot + 1) t _ (omega (arith, ready.long))
          ∙ ap (λ (o : Option ℕ). elim o as (λ o. Move) [ None ↦ by_limit (looked end (slot + 1) t) | Some q ↦ by_limit (looks end (slot + 1) t q) ]) next.0
          ∙ ap (λ o. by_limit (λ l. cond (nat_le l q) (record { limit = o; threads = wrote_at end (slot + 1) l t ∷ [] }) (on l))) outer_is in
          let further : Comes code r whole count (thread (pc + 1) q m ∷ rest) (end_look g (q ∷ p ∷ ps) qs outer w k x) =
          looks_run qs q (p ∷ ps) outer low m rest x (followed_by text utf8 q qs next.2 next.4)
          (omega (arith, start_least text w.position p ps down, next.1), next.1, next.3, cut, down) next.2 start_is outer_is above_base above_low room ready fits pops exits in
          let two : pc + 2 ≡ pc + 1 + 1 = omega arith in
          let tried : Comes code r whole count (thread (pc + 1 + 1) q m ∷ thread (pc + 1) q m ∷ rest) (g (with_position w q) end_seen (closes (end_look g (q ∷ p ∷ ps) qs outer w k x))) =
          subst (λ n. Comes code r whole count (thread n q m ∷ thread (pc + 1) q m ∷ rest) (g (with_position w q) end_seen (closes (end_look g (q ∷ p ∷ ps) qs outer w k x)))) two
          (tries q m rest (end_look g (q ∷ p ∷ ps) qs outer w k x) next.2 (omega arith) room ready fits further) in
          by_move code r whole count t rest (op.absent_scan end (slot + 1)) (by_limit (λ l. cond (nat_le l q) (out l) (on l))) (end_look g (p ∷ ps) (q ∷ qs) outer w k x) at_scan cut acts
          (λ held. elim (nat_le held.limit q) as (λ c. Within whole (2 * count) (length rest)
          (λ j. in_front code (exec code r j) (record { best_match = held.best_match; limit = (cond c (out held.limit) (on held.limit)).limit }) (cond c (out held.limit) (on held.limit)).threads rest)
          (cond c (end_looked (p ∷ ps) outer w k x (point code r whole count (length rest) held))
          (opens (g (with_position w q) end_seen (closes (end_look g (q ∷ p ∷ ps) qs outer w k x))) (point code r whole count (length rest) held)))) [
            | true ↦ looked_run p ps outer low m rest x down cut start_is above_base above_low room ready fits pops exits held
            | false ↦ forked code r whole count (thread (pc + 1 + 1) q m) (thread (pc + 1) q m) rest (g (with_position w q) end_seen (closes (end_look g (q ∷ p ∷ ps) qs outer w k x))) tried held
          ])

  -- an absent repeater
  pub does_absent : (pc slot much : ℕ) (free : Bool) (b : List Op) (g : Denotation) →
      HasAt code pc (op.absent_begin slot (slot + 1) ∷ op.absent_scan (pc + 3 + length b) (slot + 1)
      ∷ (b ++ op.absent_limit (slot + 1) ∷ op.absent_end slot (slot + 1) ∷ [])) →
      Does code r whole count keep (pc + 2) (pc + 2 + length b) (slot + 2) much false g →
      Does code r whole count keep pc (pc + 4 + length b) slot (2 + much) free (λ w k x. end_absent g (boundaries text w.position (length text)) w k x)
  does_absent pc slot much free b g at body = record {
    by = λ low w m rest x k above_base above_low room ready sound fits pops exits.
        let t : Thread = thread pc w.position m in
        let two : pc + 1 + 1 ≡ pc + 2 = omega arith in
        let three : pc + 2 + length b + 1 ≡ pc + 3 + length b = omega arith in
        let four : pc + 4 + length b ≡ pc + 3 + length b + 1 = omega arith in
        let at_b = subst (λ p. HasAt code p (b ++ op.absent_limit (slot + 1) ∷ op.absent_end slot (slot + 1) ∷ [])) two at.1.1 in
        let last = has_back code (pc + 2) (pc + 2 + length b) b (op.absent_limit (slot + 1) ∷ op.absent_end slot (slot + 1) ∷ []) refl at_b in
        let at_end = subst (λ p. slice_get code p ≡ Some (op.absent_end slot (slot + 1))) three last.1.0 in
        let cut : IsCharBoundary text w.position = sound.cuts.0 in
        let qs = places_after text w.position in
        let all = places_from text w.position cut in
        let there : slot < length m = omega (arith, ready.long) in
        let continuation = end_absent g (w.position ∷ qs) w k x in
        let starts : Follows code r whole count rest (by_limit (begun slot (slot + 1) t)) continuation = λ held.
        let ma = set m slot w.position in
        let m1 = set ma (slot + 1) held.limit in
        let long_a : length ma ≡ length m = length-set m slot w.position in
        let long : length m1 ≡ length m = length-set ma (slot + 1) held.limit ∙ long_a in
        let ne : slot ≡ slot + 1 → ⊥ = λ (e : slot ≡ slot + 1). omega arith in
        let start_is : get_or m1 slot 0 ≡ w.position = get_or-set_other ma (slot + 1) slot held.limit 0 ne ∙ get_or-set_same m slot w.position 0 there in
        let limit_is : get_or m1 (slot + 1) 0 ≡ held.limit = get_or-set_same ma (slot + 1) held.limit 0 (omega (arith, long_a, ready.long)) in
        let fits1 : take (2 * count) m1 ≡ slots_of_way whole w = take-set-le (2 * count) ma (slot + 1) held.limit (omega arith) ∙ take-set-le (2 * count) m slot w.position (omega arith) ∙ fits in
        let kept : Same keep low m m1 = same_trans keep (same_set keep low m slot w.position above_low (omega arith) (omega arith)) (same_set keep low ma (slot + 1) held.limit (omega arith) (omega arith) (omega arith)) in
        let exits1 = subst (λ e. Exits code r whole count keep rest low m1 false w.position e k) four
        (exits_later code r whole count keep rest low m free w.position (pc + 4 + length b) k exits rest m1 false w.position (above_refl rest) kept (λ e. refl) (λ e. omega arith)) in
        let y = end_look g (w.position ∷ []) qs held.limit w k x in
        let later : Comes code r whole count (thread (pc + 1) w.position m1 ∷ rest) y =
        looks_run pc slot much b g body at.1.0 last.0 at_end w k sound qs w.position [] held.limit low m1 rest x (followed_by text utf8 w.position qs cut all) refl cut
        start_is limit_is above_base above_low (omega arith) (ready_same keep kept ready) fits1 pops exits1 in
        let tried = tries pc slot much b g body at.1.0 last.0 at_end w k sound w.position m1 rest y cut (omega arith) (omega arith) (ready_same keep kept ready) fits1 later in
        forked code r whole count (thread (pc + 2) w.position m1) (thread (pc + 1) w.position m1) rest (g (with_position w w.position) end_seen (closes y)) tried
        (record { best_match = held.best_match; limit = unset }) in
        subst (λ l. Comes code r whole count (t ∷ rest) (end_absent g l w k x)) (sym all)
        (by_move code r whole count t rest (op.absent_begin slot (slot + 1)) (by_limit (begun slot (slot + 1) t)) continuation at.0 cut
        (with_slot_is slot t _ there ∙ with_slot_is (slot + 1) t _ (omega (arith, ready.long))) starts);
  }
