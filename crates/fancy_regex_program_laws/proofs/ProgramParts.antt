-- Parts of programs, and what they do.
use Rattle.std.proofs.Common.{◌≡◌, ℕ, ◌+◌, ◌*◌, ◌<◌, ◌≤◌, Bool, true, false, List, [], ◌∷◌, ◌++◌, length, take, get_or, set, Option, Some, None, refl, sym, ap, ◌∙◌, subst, arith, append_assoc, length-append, length-set, get_or-set_same, cond}
use Rattle.std.specs.Prelude.{slice_get}
use Rattle.std.proofs.Math.Seq.{get_or-append_seam}
use Rattle.std.proofs.lemmas.List.{take-set-le}
use Rattle.std.proofs.lemmas.Option.{slice_get-get_or}
use Rattle.std.specs.Str.{IsUtf8}
use Rattle.fancy_regex_meaning.specs.Ways.{MatchState, with_position, set_pair}
use Rattle.fancy_regex_meaning.proofs.ForwardProofs.{keeps_cuts}
use Rattle.fancy_regex_slots.specs.Memory.{Thread, truncated}
use Rattle.fancy_regex_program.specs.Ops as op
use Rattle.fancy_regex_program.specs.Ops.{Op}
use Rattle.fancy_regex_program.specs.Machine.{unset, RunParameters, Move, goes, forks, fails, cuts, cut_fails, at_op, moved, wrote, slot_of, with_slot, goes_if, goes_to, goes_past, tail_move, match_char, match_text, match_newline, is_start, is_scan, act, pop, exec}
use Rattle.fancy_regex_program.specs.SlotLayout.{slots_of_way}
use Rattle.fancy_regex_program_laws.proofs.Denote.{Denotation, opens, backs, drops_to, end_to, end_within, end_if, end_first, end_never}
use Rattle.fancy_regex_program_laws.proofs.PairsInSlots.{take_pair}
use Rattle.fancy_regex_program_laws.proofs.Runs.{Keep, ready_same, above_refl, above_trans, above_cons, lowered_above, Same, same_refl, same_trans, same_lower, same_set, same_set_below, thread, lt_yes, IsPlain, Sound, Comes, Follows, pops_to, forked, goes_cut, fails_cut, by_move, exits_later, comes_at, Does, base}

-- the operations stand in the code at this place
abbrev pub HasAt : List Op → ℕ → List Op → Type 0
HasAt code pc [] = Unit {0}
HasAt code pc (x ∷ xs) = (slice_get code pc ≡ Some x) × HasAt code (pc + 1) xs

pub has_front : (code : List Op) (pc : ℕ) (a b : List Op) → HasAt code pc (a ++ b) → HasAt code pc a
has_front code pc [] b h = tt
has_front code pc (x ∷ a) b h = (h.0, has_front code (pc + 1) a b h.1)

pub has_back : (code : List Op) (pc n : ℕ) (a b : List Op) → n ≡ pc + length a → HasAt code pc (a ++ b) → HasAt code n b
has_back code pc n [] b e h = let same : pc ≡ n = omega arith in subst (λ p. HasAt code p b) same h
has_back code pc n (x ∷ a) b e h = has_back code (pc + 1) n a b (omega arith) h.1

-- all of it stands in it
pub has_all : (xs pre : List Op) → HasAt (pre ++ xs) (length pre) xs
has_all [] pre = tt
has_all (x ∷ xs) pre =
    let within : length pre < length (pre ++ x ∷ xs) = omega (arith, length-append pre (x ∷ xs)) in
    let here = slice_get-get_or (pre ++ x ∷ xs) (length pre) x within ∙ ap Some (get_or-append_seam pre x xs x) in
    let n : length (pre ++ x ∷ []) ≡ length pre + 1 = omega (arith, length-append pre (x ∷ [])) in
    let rest = has_all xs (pre ++ x ∷ []) in
    let rest' = subst (λ l. HasAt l (length (pre ++ x ∷ [])) xs) (append_assoc pre (x ∷ []) xs) rest in
    (here, subst (λ m. HasAt (pre ++ x ∷ xs) m xs) n rest')

-- it begins with neither a start nor a scan
abbrev pub StartsPlain : List Op → Type 0
StartsPlain [] = Unit {0}
StartsPlain (x ∷ xs) = (is_start (Some x) ≡ false) × (is_scan (Some x) ≡ false)

pub starts_both : (xs ys : List Op) → StartsPlain xs → StartsPlain ys → StartsPlain (xs ++ ys)
starts_both [] ys h k = k
starts_both (x ∷ xs) ys h k = h

pub plain_from : (code : List Op) (pc n : ℕ) (xs : List Op) → StartsPlain xs → HasAt code pc xs → n ≡ pc + length xs → IsPlain code n → IsPlain code pc
plain_from code pc n [] s h e p = let same : n ≡ pc = omega arith in subst (IsPlain code) same p
plain_from code pc n (x ∷ xs) s h e p = record { start = ap is_start h.0 ∙ s.0; scan = ap is_scan h.0 ∙ s.1 }

pub plain_at : (code : List Op) (pc : ℕ) (x : Op) → slice_get code pc ≡ Some x → is_start (Some x) ≡ false → is_scan (Some x) ≡ false → IsPlain code pc
plain_at code pc x at a b = record { start = ap is_start at ∙ a; scan = ap is_scan at ∙ b }

pub with_slot_is : (slot : ℕ) (t : Thread) (m : Move) → slot < length t.slots → with_slot slot t m ≡ m
with_slot_is slot t m lt = ap (λ b. cond b m Rattle.fancy_regex_program.specs.Machine.stuck) (lt_yes slot (length t.slots) lt)

module _ (code : List Op) (r : RunParameters) (whole : Bool) (count : ℕ) (keep : Keep count) where
  abbrev text : List ℕ
  text = r.setting.text

  -- the same stretch under another spelling of its end
  pub does_to : (from to to' own much : ℕ) (free : Bool) (g : Denotation) → to ≡ to' → Does code r whole count keep from to own much free g → Does code r whole count keep from to' own much free g
  does_to from to to' own much free g e h = subst (λ p. Does code r whole count keep from p own much free g) e h

  pub does_from : (from from' to own much : ℕ) (free : Bool) (g : Denotation) → from ≡ from' → Does code r whole count keep from to own much free g → Does code r whole count keep from' to own much free g
  does_from from from' to own much free g e h = subst (λ p. Does code r whole count keep p to own much free g) e h

  -- an operation that goes to a place of the text, if there is one
  pub does_move : (pc slot : ℕ) (free : Bool) (o : Op) (f : ℕ → Option ℕ) → slice_get code pc ≡ Some o →
      ((height : ℕ) (t : Thread) → act r (Some o) height t ≡ goes_to (f t.position) t) →
      ((w : MatchState) (q : ℕ) → Sound text count w → f w.position ≡ Some q → (free ≡ false → w.position ≤ q) × Sound text count (with_position w q)) →
      Does code r whole count keep pc (pc + 1) slot 0 free (λ w k x. end_to (f w.position) w k x)
  does_move pc slot free o f at acts good = record {
    by = λ low w m rest x k above_base above_low room ready sound fits pops exits.
        let t : Thread = thread pc w.position m in
        let go : (o : Option ℕ) → f w.position ≡ o → Follows code r whole count rest (goes_to o t) (end_to o w k x) = λ o. elim o as (λ o. f w.position ≡ o → Follows code r whole count rest (goes_to o t) (end_to o w k x)) [
          | None ↦ λ e. pops
          | Some q ↦ λ e. (let g = good w q sound e in exits.go (with_position w q) m rest x g.0 g.1 fits (same_refl keep low m) (above_refl rest) pops)
        ] in
        by_move code r whole count t rest o (goes_to (f w.position) t) (end_to (f w.position) w k x) at sound.cuts.0 (acts (length rest) t) (go (f w.position) refl);
  }

  -- a tail: its operations, or with a bound the end that is found for it
  pub does_tail : (pc slot much : ℕ) (free : Bool) (o : Op) (bound : Option ℕ) (end : ℕ → ℕ → Option ℕ) (b : List Op) (g : Denotation) → slice_get code pc ≡ Some o →
      ((height : ℕ) (t : Thread) → act r (Some o) height t ≡ tail_move bound end (pc + 1 + length b) t) →
      ((stop : ℕ) (w : MatchState) (q : ℕ) → Sound text count w → end stop w.position ≡ Some q → (free ≡ false → w.position ≤ q) × Sound text count (with_position w q)) →
      Does code r whole count keep (pc + 1) (pc + 1 + length b) slot much free g →
      Does code r whole count keep pc (pc + 1 + length b) slot much free (λ w k x. end_within bound end g w k x)
  does_tail pc slot much free o bound end b g at acts good body = record {
    by = λ low w m rest x k above_base above_low room ready sound fits pops exits.
        let t : Thread = thread pc w.position m in
        let to : ℕ = pc + 1 + length b in
        let found : (stop : ℕ) (o : Option ℕ) → end stop w.position ≡ o → Follows code r whole count rest (goes_past to o t) (end_to o w k x) =
        λ stop o. elim o as (λ o. end stop w.position ≡ o → Follows code r whole count rest (goes_past to o t) (end_to o w k x)) [
          | None ↦ λ e. pops
          | Some q ↦ λ e. (let h = good stop w q sound e in exits.go (with_position w q) m rest x h.0 h.1 fits (same_refl keep low m) (above_refl rest) pops)
        ] in
        let go : (o : Option ℕ) → Follows code r whole count rest (tail_move o end to t) (end_within o end g w k x) =
        λ o. elim o as (λ o. Follows code r whole count rest (tail_move o end to t) (end_within o end g w k x)) [
          | None ↦ body.by low w m rest x k above_base above_low room ready sound fits pops exits
          | Some stop ↦ found stop (end stop w.position) refl
        ] in
        by_move code r whole count t rest o (tail_move bound end to t) (end_within bound end g w k x) at sound.cuts.0 (acts (length rest) t) (go bound);
  }

  -- an operation that goes on where a test holds
  pub does_test : (pc slot : ℕ) (free : Bool) (o : Op) (b : MatchState → Bool) → slice_get code pc ≡ Some o →
      ((height : ℕ) (w : MatchState) (m : List ℕ) → base code r whole count ≤ length m → Sound text count w → take (base code r whole count) m ≡ slots_of_way whole w →
      act r (Some o) height (thread pc w.position m) ≡ goes_if (b w) (thread pc w.position m)) →
      slot ≡ slot → Does code r whole count keep pc (pc + 1) slot 0 free (λ w k x. end_if (b w) w k x)
  does_test pc slot free o b at acts same = record {
    by = λ low w m rest x k above_base above_low room ready sound fits pops exits.
        let t : Thread = thread pc w.position m in
        let go : (c : Bool) → Follows code r whole count rest (goes_if c t) (end_if c w k x) = λ c. elim c as (λ c. Follows code r whole count rest (goes_if c t) (end_if c w k x)) [
          | true ↦ exits.go w m rest x (λ e. omega arith) sound fits (same_refl keep low m) (above_refl rest) pops
          | false ↦ pops
        ] in
        by_move code r whole count t rest o (goes_if (b w) t) (end_if (b w) w k x) at sound.cuts.0 (acts (length rest) w m (omega (arith, ready.long)) sound fits) (go (b w));
  }

  pub does_nothing : (pc slot : ℕ) (free : Bool) → Does code r whole count keep pc pc slot 0 free (λ w k x. k w x)
  does_nothing pc slot free = record {
    by = λ low w m rest x k above_base above_low room ready sound fits pops exits.
        exits.go w m rest x (λ e. omega arith) sound fits (same_refl keep low m) (above_refl rest) pops;
  }

  pub does_fail : (pc slot : ℕ) (free : Bool) → slice_get code pc ≡ Some op.fail → Does code r whole count keep pc (pc + 1) slot 0 free (λ w k x. x)
  does_fail pc slot free at = record {
    by = λ low w m rest x k above_base above_low room ready sound fits pops exits.
        by_move code r whole count (thread pc w.position m) rest op.fail fails x at sound.cuts.0 refl pops;
  }

  -- one of two
  pub does_alt : (pc slot na nb : ℕ) (free : Bool) (a b : List Op) (ga gb : Denotation) → StartsPlain b →
      HasAt code pc (op.split (pc + 1) (pc + 2 + length a) ∷ (a ++ op.jump (pc + 2 + length a + length b) ∷ b)) →
      Does code r whole count keep (pc + 1) (pc + 1 + length a) slot na free ga →
      Does code r whole count keep (pc + 2 + length a) (pc + 2 + length a + length b) (slot + na) nb free gb →
      Does code r whole count keep pc (pc + 2 + length a + length b) slot (na + nb) free (λ w k x. opens (ga w k (backs (gb w k x))))
  does_alt pc slot na nb free a b ga gb plain at first second = record {
    by = λ low w m rest x k above_base above_low room ready sound fits pops exits.
        let to = pc + 2 + length a + length b in
        let t : Thread = thread pc w.position m in
        let u : Thread = thread (pc + 2 + length a) w.position m in
        let jump = has_back code (pc + 1) (pc + 1 + length a) a (op.jump to ∷ b) refl at.1 in
        let next : pc + 1 + length a + 1 ≡ pc + 2 + length a = omega arith in
        let at_b : HasAt code (pc + 2 + length a) b = subst (λ p. HasAt code p b) next jump.1 in
        let other : Comes code r whole count (u ∷ rest) (gb w k x) = second.by low w m rest x k above_base (omega arith) (omega arith) ready sound fits pops exits in
        let later = exits_later code r whole count keep rest low m free w.position to k exits (u ∷ rest) m free w.position (above_cons u rest) (same_refl keep low m) (λ e. e) (λ e. omega arith) in
        let one = first.by low w m (u ∷ rest) (backs (gb w k x)) k above_base above_low (omega arith) ready sound fits
        (pops_to code r whole count u rest (gb w k x) (plain_from code (pc + 2 + length a) to b plain at_b refl exits.plain) other)
        (record {
          plain = plain_at code (pc + 1 + length a) (op.jump to) jump.0 refl refl;
          go = λ v n stack y on sound' fits' same above pops'.
              by_move code r whole count (thread (pc + 1 + length a) v.position n) stack (op.jump to) (goes (thread to v.position n)) (k v y) jump.0 sound'.cuts.0 refl
              (later.go v n stack y on sound' fits' same above pops');
        }) in
        by_move code r whole count t rest (op.split (pc + 1) (pc + 2 + length a)) (forks (thread (pc + 1) w.position m) u) (opens (ga w k (backs (gb w k x)))) at.0 sound.cuts.0 refl
        (forked code r whole count (thread (pc + 1) w.position m) u rest (ga w k (backs (gb w k x))) one);
  }

module _ (code : List Op) (r : RunParameters) (whole : Bool) (count : ℕ) (keep : Keep count) (utf8 : IsUtf8 r.setting.text) where
  -- a capturing group
  pub does_group : (pc slot much k : ℕ) (free : Bool) (b : List Op) (g : Denotation) → k < count → (whole ≡ true → 1 ≤ k) →
      HasAt code pc (op.save slot ∷ (b ++ op.copy slot (2 * k) ∷ op.save (2 * k + 1) ∷ [])) →
      Does code r whole count keep (pc + 1) (pc + 1 + length b) (slot + 1) much false g →
      Does code r whole count keep pc (pc + 1 + length b + 2) slot (1 + much) free (λ w f x. g w (λ v y. f (set_pair k (w.position, v.position) v) y) x)
  does_group pc slot much k free b g inside apart at body = record {
    by = λ low w m rest x f above_base above_low room ready sound fits pops exits.
        let t : Thread = thread pc w.position m in
        let m1 = set m slot w.position in
        let there : slot < length m = omega (arith, ready.long) in
        let long : length m1 ≡ length m = length-set m slot w.position in
        let wrote_own : Same keep low m m1 = same_set keep low m slot w.position above_low (omega arith) (omega arith) in
        let last = has_back code (pc + 1) (pc + 1 + length b) b (op.copy slot (2 * k) ∷ op.save (2 * k + 1) ∷ []) refl at.1 in
        let end : pc + 1 + length b + 1 + 1 ≡ pc + 1 + length b + 2 = omega arith in
        let next = body.by (slot + 1) w m1 rest x (λ v y. f (set_pair k (w.position, v.position) v) y) (omega arith) (omega arith) (omega arith) (ready_same keep wrote_own ready) sound
        (take-set-le (2 * count) m slot w.position (omega arith) ∙ fits) pops
        (record {
          plain = plain_at code (pc + 1 + length b) (op.copy slot (2 * k)) last.0 refl refl;
          go = λ v n stack y on sound' fits' same above pops'.
              let u : Thread = thread (pc + 1 + length b) v.position n in
              let there' : slot < length n = omega (arith, same.long, long, ready.long) in
              let there1 : 2 * k < length n = omega (arith, there') in
              let start : get_or n slot 0 ≡ w.position = same.at slot (omega arith) (omega arith) ∙ get_or-set_same m slot w.position 0 there in
              let n1 = set n (2 * k) w.position in
              let n2 = set n1 (2 * k + 1) v.position in
              let long1 : length n1 ≡ length n = length-set n (2 * k) w.position in
              let there2 : 2 * k + 1 < length n1 = omega (arith, long1) in
              let u1 : Thread = thread (pc + 1 + length b + 1) v.position n1 in
              let many' : length (set_pair k (w.position, v.position) v).pairs ≡ count = length-set v.pairs k (Some (w.position, v.position)) ∙ sound'.many in
              let kept : Same keep low m n2 = same_trans keep (same_trans keep wrote_own (same_lower keep (omega arith) same))
              (same_trans keep (same_set_below keep low n (2 * k) w.position (omega arith)) (same_set_below keep low n1 (2 * k + 1) v.position (omega arith))) in
              let done = exits.go (set_pair k (w.position, v.position) v) n2 stack y (λ e. on refl)
              (record { cuts = (keeps_cuts r.setting utf8).pair k w v sound.cuts sound'.cuts (on refl); many = many' })
              (take_pair whole count n v k w.position v.position apart inside sound'.many fits') kept above pops' in
              let continuation = f (set_pair k (w.position, v.position) v) y in
              let saved = by_move code r whole count u1 stack (op.save (2 * k + 1)) (goes (wrote (2 * k + 1) v.position u1)) continuation last.1.0 sound'.cuts.0
              (with_slot_is (2 * k + 1) u1 _ there2) (comes_at code r whole count (pc + 1 + length b + 2) (pc + 1 + length b + 1 + 1) v.position n2 stack continuation (sym end) done) in
              let acts : act r (Some (op.copy slot (2 * k))) (length stack) u ≡ goes u1 =
              with_slot_is slot u _ there' ∙ with_slot_is (2 * k) u _ there1 ∙ ap (λ p. goes (wrote (2 * k) p u)) start in
              by_move code r whole count u stack (op.copy slot (2 * k)) (goes u1) continuation last.0 sound'.cuts.0 acts saved;
        }) in
        by_move code r whole count t rest (op.save slot) (goes (wrote slot w.position t)) (g w (λ v y. f (set_pair k (w.position, v.position) v) y) x) at.0 sound.cuts.0
        (with_slot_is slot t _ there) next;
  }

  -- a look-ahead
  pub does_ahead : (pc slot much : ℕ) (free : Bool) (b : List Op) (g : Denotation) →
      HasAt code pc (op.save slot ∷ (b ++ op.restore slot ∷ [])) →
      Does code r whole count keep (pc + 1) (pc + 1 + length b) (slot + 1) much true g →
      Does code r whole count keep pc (pc + 1 + length b + 1) slot (1 + much) free (λ w f x. g w (λ v y. f (with_position v w.position) y) x)
  does_ahead pc slot much free b g at body = record {
    by = λ low w m rest x f above_base above_low room ready sound fits pops exits.
        let t : Thread = thread pc w.position m in
        let m1 = set m slot w.position in
        let there : slot < length m = omega (arith, ready.long) in
        let long : length m1 ≡ length m = length-set m slot w.position in
        let wrote_own : Same keep low m m1 = same_set keep low m slot w.position above_low (omega arith) (omega arith) in
        let last = has_back code (pc + 1) (pc + 1 + length b) b (op.restore slot ∷ []) refl at.1 in
        let next = body.by (slot + 1) w m1 rest x (λ v y. f (with_position v w.position) y) (omega arith) (omega arith) (omega arith) (ready_same keep wrote_own ready) sound
        (take-set-le (2 * count) m slot w.position (omega arith) ∙ fits) pops
        (record {
          plain = plain_at code (pc + 1 + length b) (op.restore slot) last.0 refl refl;
          go = λ v n stack y on sound' fits' same above pops'.
              let u : Thread = thread (pc + 1 + length b) v.position n in
              let there' : slot < length n = omega (arith, same.long, long, ready.long) in
              let start : get_or n slot 0 ≡ w.position = same.at slot (omega arith) (omega arith) ∙ get_or-set_same m slot w.position 0 there in
              let acts : act r (Some (op.restore slot)) (length stack) u ≡ goes (thread (pc + 1 + length b + 1) w.position n) =
              with_slot_is slot u _ there' ∙ ap (λ p. goes (moved p u)) start in
              by_move code r whole count u stack (op.restore slot) (goes (thread (pc + 1 + length b + 1) w.position n)) (f (with_position v w.position) y) last.0 sound'.cuts.0 acts
              (exits.go (with_position v w.position) n stack y (λ e. omega arith) (record { cuts = (sound.cuts.0, sound'.cuts.1, sound'.cuts.2); many = sound'.many }) fits'
              (same_trans keep wrote_own (same_lower keep (omega arith) same)) above pops');
        }) in
        by_move code r whole count t rest (op.save slot) (goes (wrote slot w.position t)) (g w (λ v y. f (with_position v w.position) y) x) at.0 sound.cuts.0
        (with_slot_is slot t _ there) next;
  }

  -- the first way alone
  pub does_atomic : (pc slot much : ℕ) (free : Bool) (b : List Op) (g : Denotation) →
      HasAt code pc (op.begin_atomic slot ∷ (b ++ op.end_atomic slot ∷ [])) →
      Does code r whole count keep (pc + 1) (pc + 1 + length b) (slot + 1) much free g →
      Does code r whole count keep pc (pc + 1 + length b + 1) slot (1 + much) free (end_first g)
  does_atomic pc slot much free b g at body = record {
    by = λ low w m rest x f above_base above_low room ready sound fits pops exits.
        let t : Thread = thread pc w.position m in
        let height = length rest in
        let m1 = set m slot height in
        let there : slot < length m = omega (arith, ready.long) in
        let long : length m1 ≡ length m = length-set m slot height in
        let wrote_own : Same keep low m m1 = same_set keep low m slot height above_low (omega arith) (omega arith) in
        let last = has_back code (pc + 1) (pc + 1 + length b) b (op.end_atomic slot ∷ []) refl at.1 in
        let next = body.by (slot + 1) w m1 rest x (λ v y. drops_to height (f v x)) (omega arith) (omega arith) (omega arith) (ready_same keep wrote_own ready) sound
        (take-set-le (2 * count) m slot height (omega arith) ∙ fits) pops
        (record {
          plain = plain_at code (pc + 1 + length b) (op.end_atomic slot) last.0 refl refl;
          go = λ v n stack y on sound' fits' same above pops'.
              let u : Thread = thread (pc + 1 + length b) v.position n in
              let to : Thread = thread (pc + 1 + length b + 1) v.position n in
              let there' : slot < length n = omega (arith, same.long, long, ready.long) in
              let start : get_or n slot 0 ≡ height = same.at slot (omega arith) (omega arith) ∙ get_or-set_same m slot height 0 there in
              let cut : truncated (get_or n slot 0) stack ≡ rest = lowered_above rest stack (get_or n slot 0) start above in
              let done : Comes code r whole count (to ∷ rest) (f v x) = exits.go v n rest x on sound' fits'
              (same_trans keep wrote_own (same_lower keep (omega arith) same)) (above_refl rest) pops in
              by_move code r whole count u stack (op.end_atomic slot) (cuts (get_or n slot 0) to) (drops_to height (f v x)) last.0 sound'.cuts.0 (with_slot_is slot u _ there')
              (goes_cut code r whole count to rest stack (get_or n slot 0) (f v x) cut above done);
        }) in
        by_move code r whole count t rest (op.begin_atomic slot) (goes (wrote slot height t)) (end_first g w f x) at.0 sound.cuts.0
        (with_slot_is slot t _ there) next;
  }

  -- no way leads on
  pub does_never : (pc slot much : ℕ) (free : Bool) (b : List Op) (g : Denotation) →
      HasAt code pc (op.begin_atomic slot ∷ op.split (pc + 2) (pc + 3 + length b) ∷ (b ++ op.fail_negative slot ∷ [])) →
      Does code r whole count keep (pc + 2) (pc + 2 + length b) (slot + 1) much true g →
      Does code r whole count keep pc (pc + 3 + length b) slot (1 + much) free (end_never g)
  does_never pc slot much free b g at body = record {
    by = λ low w m rest x f above_base above_low room ready sound fits pops exits.
        let t : Thread = thread pc w.position m in
        let height = length rest in
        let m1 = set m slot height in
        let there : slot < length m = omega (arith, ready.long) in
        let long : length m1 ≡ length m = length-set m slot height in
        let wrote_own : Same keep low m m1 = same_set keep low m slot height above_low (omega arith) (omega arith) in
        let fits1 : take (2 * count) m1 ≡ slots_of_way whole w = take-set-le (2 * count) m slot height (omega arith) ∙ fits in
        let t1 : Thread = thread (pc + 1) w.position m1 in
        let u : Thread = thread (pc + 3 + length b) w.position m1 in
        let two : pc + 1 + 1 ≡ pc + 2 = omega arith in
        let at_b : HasAt code (pc + 2) (b ++ op.fail_negative slot ∷ []) = subst (λ p. HasAt code p (b ++ op.fail_negative slot ∷ [])) two at.1.1 in
        let last = has_back code (pc + 2) (pc + 2 + length b) b (op.fail_negative slot ∷ []) refl at_b in
        let stop : Comes code r whole count (u ∷ rest) (f w x) = exits.go w m1 rest x (λ e. omega arith) sound fits1 wrote_own (above_refl rest) pops in
        let next = body.by (slot + 1) w m1 (u ∷ rest) (backs (f w x)) (λ v y. drops_to height x) (omega arith) (omega arith) (omega arith) (ready_same keep wrote_own ready) sound fits1
        (pops_to code r whole count u rest (f w x) exits.plain stop)
        (record {
          plain = plain_at code (pc + 2 + length b) (op.fail_negative slot) last.0 refl refl;
          go = λ v n stack y on sound' fits' same above pops'.
              let z : Thread = thread (pc + 2 + length b) v.position n in
              let there' : slot < length n = omega (arith, same.long, long, ready.long) in
              let start : get_or n slot 0 ≡ height = same.at slot (omega arith) (omega arith) ∙ get_or-set_same m slot height 0 there in
              let cut : truncated (get_or n slot 0) stack ≡ rest = lowered_above rest stack (get_or n slot 0) start (above_trans (above_cons u rest) above) in
              by_move code r whole count z stack (op.fail_negative slot) (cut_fails (get_or n slot 0)) (drops_to height x) last.0 sound'.cuts.0 (with_slot_is slot z _ there')
              (fails_cut code r whole count rest stack (get_or n slot 0) x cut (above_trans (above_cons u rest) above) pops);
        }) in
        let continuation = g w (λ v y. drops_to height x) (backs (f w x)) in
        let split = by_move code r whole count t1 rest (op.split (pc + 2) (pc + 3 + length b)) (forks (thread (pc + 2) w.position m1) u) (opens continuation) at.1.0 sound.cuts.0 refl
        (forked code r whole count (thread (pc + 2) w.position m1) u rest continuation next) in
        by_move code r whole count t rest (op.begin_atomic slot) (goes (wrote slot height t)) (end_never g w f x) at.0 sound.cuts.0 (with_slot_is slot t _ there) split;
  }
