-- The program of a pattern does what the pattern says.
use Rattle.std.proofs.Common.{◌≡◌, ℕ, ◌+◌, ◌*◌, ◌<◌, ◌≤◌, Bool, true, false, ◌&&◌, List, [], ◌∷◌, ◌++◌, length, take, Option, Some, None, refl, sym, ap, ◌∙◌, subst, arith, length-append, cond}
use Rattle.std.specs.Prelude.{slice_get, ◌==◌, slice_index, chars, encode_utf8, drop, not}
use Rattle.std.proofs.lemmas.Bool.{and_parts}
use Rattle.std.proofs.lemmas.Option.{none-some, same_Some}
use Rattle.std.specs.Char.{len_utf8}
use Rattle.std.specs.Str.{IsUtf8}
use Rattle.regex_hir.specs.Text.{char_at, is_scalar, has_bytes_at, is_some_and}
use Rattle.fancy_regex_tree.specs.Tree.{Text}
use Rattle.fancy_regex_meaning.specs.Ways.{MatchState, Setting, with_position, is_any, holds}
use Rattle.fancy_regex_meaning.specs.Positions.{position_before}
use Rattle.fancy_regex_desugar.specs.CoreWays.{passes}
use Rattle.fancy_regex_desugar.specs.CorePatterns.{any, literal, class, CorePattern, nothing, read, general_newline, check, continue, keep_out, fail, cat, alt, group, ahead, never, back, atomic, delegate, tail, repeat, backref, exists, conditional, absent, called}
use Rattle.fancy_regex_desugar.specs.Delegates.{first_end, first_end_until, tail_bound}
use Rattle.fancy_regex_desugar.specs.Shapes.{StepsBackOnlyFirst}
use Rattle.fancy_regex_slots.specs.Memory.{Thread}
use Rattle.fancy_regex_program.specs.Ops as op
use Rattle.fancy_regex_program.specs.Ops.{Op, Place, among_scalars}
use Rattle.fancy_regex_program.specs.Machine.{unset, RunParameters, goes, goes_to, wrote, match_char, match_text, match_newline, is_start, is_scan}
use Rattle.fancy_regex_program.specs.Code.{Layout, written_out, where_written, Code, waits_at_call, waits_with, is_whole_literal, flushed, slots_with, closed, is_uncounted, loop_entry, call_code, code_with}
use Rattle.fancy_regex_program.specs.SlotLayout.{slots_of_way}
use Rattle.fancy_regex_program.specs.Shapes.{IsWritable}
use Rattle.fancy_regex_program_laws.proofs.Denote.{Continuation, SuccessContinuation, Denotation, end_to, end_text, ending}
use Rattle.fancy_regex_program_laws.proofs.PairsInSlots.{take_kept}
use Rattle.fancy_regex_program_laws.proofs.Runs.{Keep, Ready, ready_same, above_refl, same_refl, same_set_below, thread, Sound, Comes, Pops, by_move, Exits, exits_at, exits_later, comes_at, Does}
use Rattle.fancy_regex_program_laws.proofs.ProgramParts.{HasAt, has_front, has_back, StartsPlain, starts_both, plain_from, plain_at, with_slot_is, does_to, does_move, does_tail, does_test, does_fail, does_alt, does_group, does_ahead, does_atomic, does_never}
use Rattle.fancy_regex_program_laws.proofs.Loops.{does_repeat, does_conditional}
use Rattle.fancy_regex_program_laws.proofs.UncountedLoops.{GoesPast, does_endless}
use Rattle.fancy_regex_program_laws.proofs.TakesSome.{ending_past}
use Rattle.fancy_regex_program_laws.proofs.ReadingCode.{few, body_takes}
use Rattle.fancy_regex_program_laws.proofs.Absents.{does_absent}
use Rattle.fancy_regex_program_laws.proofs.ReadingOperations.{good_char, good_text, good_newline, good_before, good_end, good_end_until, does_exists, does_backref}

chosen_scalar : (c d : ℕ) (b x : Bool) → (is_scalar d && b) ≡ x → cond x (Some d) None ≡ Some c → is_scalar c ≡ true
chosen_scalar c d b true both e = ap is_scalar (sym (same_Some d c e)) ∙ (and_parts (is_scalar d) b both).0
chosen_scalar c d b false not_both e = absurd (none-some c e)

-- characters are scalars
scalar_at : (text : List ℕ) (p c : ℕ) → char_at text p ≡ Some c → is_scalar c ≡ true
unfolding char_at
scalar_at text p c e =
    let d = slice_index (chars (drop p text)) 0 in
    let b = has_bytes_at text p (encode_utf8 d) in
    chosen_scalar c d b (is_scalar d && b) refl e

scalars_pass : (text : List ℕ) (passes : ℕ → Bool) (p : ℕ) → match_char text (among_scalars passes) p ≡ match_char text passes p
scalars_pass text passes p = at (char_at text p) refl
  where
    at : (o : Option ℕ) → char_at text p ≡ o →
        ◌≡◌ {A = Option ℕ} (elim o [ None ↦ None | Some c ↦ cond (is_scalar c && passes c) (Some (p + len_utf8 c)) None ])
        (elim o [ None ↦ None | Some c ↦ cond (passes c) (Some (p + len_utf8 c)) None ])
    at None e = refl
    at (Some c) e = ap (λ b. cond (b && passes c) (Some (p + len_utf8 c)) None) (scalar_at text p c e)

any_same : (s : Setting) (newline crlf : Bool) → is_any s newline (crlf && not newline) ≡ is_any s newline crlf
any_same s true crlf = refl
any_same s false true = refl
any_same s false false = refl

one_more : (s : Setting) (c p : ℕ) (w : MatchState) (k : SuccessContinuation) (x : Continuation) (o : Option ℕ) →
    end_to (elim o [ None ↦ None | Some q ↦ Some q ]) w k x ≡ end_to o (with_position w p) k x
one_more s c p w k x None = refl
one_more s c p w k x (Some q) = refl

-- a text and one character more
text_more : (s : Setting) (l : Text) (c p : ℕ) (w : MatchState) (k : SuccessContinuation) (x : Continuation) →
    end_to (match_text s.text (l ++ c ∷ []) p) w k x
    ≡ end_to (match_text s.text l p) w (λ v y. end_to (match_char s.text (λ d. d == c) v.position) v k y) x
text_more s [] c p w k x = one_more s c p w k x (match_char s.text (λ d. d == c) p)
text_more s (d ∷ ds) c p w k x = step (λ q. text_more s ds c q w k x) (match_char s.text (λ e. e == d) p)
  where
    step : ((q : ℕ) → end_to (match_text s.text (ds ++ c ∷ []) q) w k x
        ≡ end_to (match_text s.text ds q) w (λ v y. end_to (match_char s.text (λ d. d == c) v.position) v k y) x) → (o : Option ℕ) →
        end_to (elim o [ None ↦ None | Some q ↦ match_text s.text (ds ++ c ∷ []) q ]) w k x
        ≡ end_to (elim o [ None ↦ None | Some q ↦ match_text s.text ds q ]) w (λ v y. end_to (match_char s.text (λ d. d == c) v.position) v k y) x
    step more None = refl
    step more (Some q) = more q

starts_flushed : (l : Text) → StartsPlain (flushed l)
starts_flushed [] = tt
starts_flushed (c ∷ cs) = (refl, refl)

-- text that waits, or that has as many characters as a literal may have
starts_waiting : (is_whole : Bool) (l : Text) → StartsPlain (cond is_whole (flushed l) [])
starts_waiting true l = starts_flushed l
starts_waiting false l = tt

starts_node : (l : Text) (x : Op) (xs : List Op) → is_start (Some x) ≡ false → is_scan (Some x) ≡ false → StartsPlain (flushed l ++ x ∷ xs)
starts_node l x xs a b = starts_both (flushed l) (x ∷ xs) (starts_flushed l) (a, b)

starts_loop : (uncounted : Bool) (lo head slot : ℕ) → (is_start (Some (loop_entry uncounted lo head slot)) ≡ false) × (is_scan (Some (loop_entry uncounted lo head slot)) ≡ false)
starts_loop true lo head slot = (refl, refl)
starts_loop false lo head slot = (refl, refl)

-- What leads onward may be asked to.
does_any : (code : List Op) (r : RunParameters) (whole : Bool) (count : ℕ) (keep : Keep count) (from to own much : ℕ) (free : Bool) (g : Denotation) →
    Does code r whole count keep from to own much false g → Does code r whole count keep from to own much free g
does_any code r whole count keep from to own much free g does = record {
  by = λ low w m rest x k above_base above_low room ready sound fits pops exits.
      does.by low w m rest x k above_base above_low room ready sound fits pops
      (exits_later code r whole count keep rest low m free w.position to k exits rest m false w.position (above_refl rest) (same_refl keep low m) (λ e. refl) (λ e. omega arith));
}

starts_call : (o : Option Place) (code : Text → Code) (l : Text) (pc slot : ℕ) → StartsPlain (code l pc slot) → StartsPlain (call_code o code l pc slot)
starts_call None code l pc slot h = h
starts_call (Some c) code l pc slot h = starts_node l _ _ refl refl

module _ (has_member : Text → Bool → ℕ → Bool) (fold : ℕ → ℕ) (whole : Bool) (layout : Layout) where
  starts_kept : (b : Bool) → StartsPlain (cond b (op.save 0 ∷ []) [])
  starts_kept true = (refl, refl)
  starts_kept false = tt

  pub code_starts : (p : CorePattern) (l : Text) (pc slot : ℕ) → StartsPlain (code_with has_member fold whole layout p l pc slot)
  unfolding code_with
  code_starts nothing l pc slot = tt
  code_starts (read (literal c false)) l pc slot = starts_waiting (is_whole_literal l) l
  code_starts (cat a b) l pc slot = starts_both (code_with has_member fold whole layout a l pc slot) _ (code_starts a l pc slot) (code_starts b (waits_with layout a l) _ _)
  code_starts (read (literal c true)) l pc slot = starts_node l _ _ refl refl
  code_starts (read (any newline crlf)) l pc slot = starts_node l _ _ refl refl
  code_starts (read (class name casei)) l pc slot = starts_node l _ _ refl refl
  code_starts (general_newline unicode) l pc slot = starts_node l _ _ refl refl
  code_starts (check a) l pc slot = starts_node l _ _ refl refl
  code_starts continue l pc slot = starts_node l _ _ refl refl
  code_starts keep_out l pc slot = starts_both (flushed l) _ (starts_flushed l) (starts_kept whole)
  code_starts fail l pc slot = starts_node l _ _ refl refl
  code_starts (alt a b) l pc slot = starts_node l _ _ refl refl
  code_starts (group k a) l pc slot = starts_node l _ _ refl refl
  code_starts (ahead a) l pc slot = starts_node l _ _ refl refl
  code_starts (never a) l pc slot = starts_node l _ _ refl refl
  code_starts (back n) l pc slot = starts_node l _ _ refl refl
  code_starts (atomic a) l pc slot = starts_node l _ _ refl refl
  code_starts (delegate t a) l pc slot = starts_node l _ _ refl refl
  code_starts (tail t a) l pc slot = starts_node l _ _ refl refl
  code_starts (repeat a lo None greedy) l pc slot =
      let p = pc + length (flushed l) in
      let uncounted = is_uncounted lo (p + 2) (closed (code_with has_member fold whole layout a []) (waits_with layout a []) (p + 2) (slot + 2)) in
      let entry = starts_loop uncounted lo (p + 1) slot in
      starts_node l _ _ entry.0 entry.1
  code_starts (repeat a lo (Some hi) greedy) l pc slot = starts_node l _ _ refl refl
  code_starts (backref k casei) l pc slot = starts_node l _ _ refl refl
  code_starts (exists k) l pc slot = starts_node l _ _ refl refl
  code_starts (conditional c a b) l pc slot = starts_node l _ _ refl refl
  code_starts (absent a) l pc slot = starts_node l _ _ refl refl
  code_starts (called k a) l pc slot = starts_call (layout k) (code_with has_member fold whole layout a) l pc slot (code_starts a l pc slot)

  abbrev pub closed_code : CorePattern → Code
  closed_code p = closed (code_with has_member fold whole layout p []) (waits_with layout p [])

  pub closed_starts : (p : CorePattern) (pc slot : ℕ) → StartsPlain (closed_code p pc slot)
  closed_starts p pc slot = starts_both (code_with has_member fold whole layout p [] pc slot) (flushed (waits_with layout p [])) (code_starts p [] pc slot) (starts_flushed (waits_with layout p []))

module _ (code : List Op) (r : RunParameters) (whole : Bool) (count : ℕ) (keep : Keep count) (utf8 : IsUtf8 r.setting.text) (small : length r.setting.text < unset) where
  -- What a stretch of the program does, where that text waits before it and that text after it.
  pub record Leads (from to own much : ℕ) (free : Bool) (before after : Text) (g : Denotation) : Type 0 where
    pub by : (low : ℕ) (w : MatchState) (m : List ℕ) (rest : List Thread) (x : Continuation) (k : SuccessContinuation) → 2 * count + keep.lead ≤ low → low ≤ own → own + much ≤ keep.top → Ready keep m →
        Sound r.setting.text count w → take (2 * count) m ≡ slots_of_way whole w → Pops code r whole count rest x →
        Exits code r whole count keep rest low m free w.position to (λ v y. end_text r.setting after v k y) →
        Comes code r whole count (thread from w.position m ∷ rest) (end_text r.setting before w (λ v y. g v k y) x)

  does_text : (pc slot : ℕ) (free : Bool) (c : ℕ) (cs : Text) → slice_get code pc ≡ Some (op.lit (c ∷ cs)) →
      Does code r whole count keep pc (pc + 1) slot 0 free (end_text r.setting (c ∷ cs))
  does_text pc slot free c cs at =
      does_move code r whole count keep pc slot free (op.lit (c ∷ cs)) (match_text r.setting.text (c ∷ cs)) at (λ height t. refl)
      (λ w q sound e. good_text r.setting utf8 count (c ∷ cs) free w q sound e)

  -- the text that waits, and a node after it
  leads_node : (pc slot much : ℕ) (free : Bool) (l : Text) (b : List Op) (g : Denotation) → StartsPlain b → HasAt code pc (flushed l ++ b) →
      Does code r whole count keep (pc + length (flushed l)) (pc + length (flushed l) + length b) slot much free g →
      Leads pc (pc + length (flushed l ++ b)) slot much free l [] g
  leads_node pc slot much free [] b g starts at does = record {
    by = λ low w m rest x k above_base above_low room ready sound fits pops exits.
        comes_at code r whole count (pc + 0) pc w.position m rest (g w k x) (omega arith)
        (does.by low w m rest x k above_base above_low room ready sound fits pops
        (exits_at code r whole count keep rest low m free w.position (pc + length b) (pc + 0 + length b) k (omega arith) exits));
  }
  leads_node pc slot much free (c ∷ cs) b g starts at does = record {
    by = λ low w m rest x k above_base above_low room ready sound fits pops exits.
        let to : pc + length (op.lit (c ∷ cs) ∷ b) ≡ pc + 1 + length b = omega arith in
        let out = exits_at code r whole count keep rest low m free w.position _ (pc + 1 + length b) k to exits in
        (does_text pc slot free c cs at.0).by low w m rest x (λ v y. g v k y) above_base above_low (omega arith) ready sound fits pops
        (record {
          plain = plain_from code (pc + 1) (pc + 1 + length b) b starts at.1 refl out.plain;
          go = λ v n stack y on sound' fits' same above pops'.
              does.by low v n stack y k above_base above_low (omega arith) (ready_same keep same ready) sound' fits' pops'
              (exits_later code r whole count keep rest low m free w.position (pc + 1 + length b) k out stack n free v.position above same (λ e. e) on);
        });
  }

  -- a stretch, and the text that waits after it
  does_closed : (pc slot much : ℕ) (free : Bool) (l : Text) (b : List Op) (g : Denotation) → HasAt code (pc + length b) (flushed l) →
      Leads pc (pc + length b) slot much free [] l g → Does code r whole count keep pc (pc + length (b ++ flushed l)) slot much free g
  does_closed pc slot much free [] b g at leads = record {
    by = λ low w m rest x k above_base above_low room ready sound fits pops exits.
        leads.by low w m rest x k above_base above_low room ready sound fits pops
        (exits_at code r whole count keep rest low m free w.position (pc + length (b ++ [])) (pc + length b) k (omega (arith, length-append b [])) exits);
  }
  does_closed pc slot much free (c ∷ cs) b g at leads = record {
    by = λ low w m rest x k above_base above_low room ready sound fits pops exits.
        let to : pc + length (b ++ op.lit (c ∷ cs) ∷ []) ≡ pc + length b + 1 = omega (arith, length-append b (op.lit (c ∷ cs) ∷ [])) in
        let out = exits_at code r whole count keep rest low m free w.position _ (pc + length b + 1) k to exits in
        leads.by low w m rest x k above_base above_low room ready sound fits pops
        (record {
          plain = plain_at code (pc + length b) (op.lit (c ∷ cs)) at.0 refl refl;
          go = λ v n stack y on sound' fits' same above pops'.
              (does_text (pc + length b) slot free c cs at.0).by low v n stack y k above_base above_low (omega arith) (ready_same keep same ready) sound' fits' pops'
              (exits_later code r whole count keep rest low m free w.position (pc + length b + 1) k out stack n free v.position above same (λ e. e) on);
        });
  }

  -- One character more waits after the text that waits, or after that text where it is an operation.
  leads_more : (pc slot : ℕ) (free : Bool) (l : Text) (c : ℕ) →
      Leads pc (pc + 0) slot 0 free l (l ++ c ∷ []) (ending r.setting (tail_bound r.find) (read (literal c false)))
  leads_more pc slot free l c = record {
    by = λ low w m rest x k above_base above_low room ready sound fits pops exits.
        let done = comes_at code r whole count (pc + 0) pc w.position m rest (end_text r.setting (l ++ c ∷ []) w k x) (omega arith)
        (exits.go w m rest x (λ e. omega arith) sound fits (same_refl keep low m) (above_refl rest) pops) in
        subst (λ f. Comes code r whole count (thread pc w.position m ∷ rest) f) (text_more r.setting l c w.position w k x) done;
  }

  leads_waiting : (pc slot : ℕ) (free is_whole : Bool) (l : Text) (c : ℕ) → HasAt code pc (cond is_whole (flushed l) []) →
      Leads pc (pc + length (cond is_whole (flushed l) [])) slot 0 free l (cond is_whole [] l ++ c ∷ [])
      (ending r.setting (tail_bound r.find) (read (literal c false)))
  leads_waiting pc slot free false l c at = leads_more pc slot free l c
  leads_waiting pc slot free true [] c at = leads_more pc slot free [] c
  leads_waiting pc slot free true (d ∷ ds) c at = record {
    by = λ low w m rest x k above_base above_low room ready sound fits pops exits.
        let g = ending r.setting (tail_bound r.find) (read (literal c false)) in
        (does_text pc slot free d ds at.0).by low w m rest x (λ v y. g v k y) above_base above_low room ready sound fits pops
        (record {
          plain = exits.plain;
          go = λ v n stack y on sound' fits' same above pops'.
              subst (λ f. Comes code r whole count (thread (pc + 1) v.position n ∷ stack) f) (text_more r.setting [] c v.position v k y)
              (exits.go v n stack y on sound' fits' same above pops');
        });
  }

  -- the match is said to start here
  does_keep : (pc slot : ℕ) (free b : Bool) → whole ≡ b → (whole ≡ true → 1 ≤ count) → HasAt code pc (cond b (op.save 0 ∷ []) []) →
      Does code r whole count keep pc (pc + length (cond b (op.save 0 ∷ []) [])) slot 0 free (λ w k x. k (record w { match_start = w.position }) x)
  does_keep pc slot free true is some at = record {
    by = λ low w m rest x k above_base above_low room ready sound fits pops exits.
        let t : Thread = thread pc w.position m in
        let n = some is in
        let there : 0 < length m = omega (arith, ready.long) in
        let fits0 : take (2 * count) m ≡ slots_of_way true w = fits ∙ ap (λ b. slots_of_way b w) is in
        let fits1 = take_kept count m w w.position n fits0 ∙ ap (λ b. slots_of_way b (record w { match_start = w.position })) (sym is) in
        by_move code r whole count t rest (op.save 0) (goes (wrote 0 w.position t)) (k (record w { match_start = w.position }) x) at.0 sound.cuts.0 (with_slot_is 0 t _ there)
        (exits.go (record w { match_start = w.position }) _ rest x (λ e. omega arith) (record { cuts = (sound.cuts.0, sound.cuts.1, sound.cuts.0); many = sound.many }) fits1
        (same_set_below keep low m 0 w.position (omega arith)) (above_refl rest) pops);
  }
  does_keep pc slot free false is some at = record {
    by = λ low w m rest x k above_base above_low room ready sound fits pops exits.
        let fits1 : take (2 * count) m ≡ slots_of_way whole (record w { match_start = w.position }) =
        fits ∙ ap (λ b. slots_of_way b w) is ∙ ap (λ b. slots_of_way b (record w { match_start = w.position })) (sym is) in
        comes_at code r whole count (pc + 0) pc w.position m rest (k (record w { match_start = w.position }) x) (omega arith)
        (exits.go (record w { match_start = w.position }) m rest x (λ e. omega arith) (record { cuts = (sound.cuts.0, sound.cuts.1, sound.cuts.0); many = sound.many }) fits1
        (same_refl keep low m) (above_refl rest) pops);
  }

  module _ (some : whole ≡ true → 1 ≤ count) (layout : Layout) (first : ℕ) (apart : whole ≡ true → 1 ≤ first) where
    abbrev made : CorePattern → Text → ℕ → ℕ → List Op
    made = code_with r.setting.has_member r.setting.fold whole layout

    abbrev within : CorePattern → Code
    within = closed_code r.setting.has_member r.setting.fold whole layout

    far : (k : ℕ) → first ≤ k → whole ≡ true → 1 ≤ k
    far k le is = let a = apart is in omega arith

    -- a node that is one operation
    leads_one : (pc slot : ℕ) (free : Bool) (l : Text) (o : Op) (g : Denotation) → is_start (Some o) ≡ false → is_scan (Some o) ≡ false → HasAt code pc (flushed l ++ o ∷ []) →
        (slice_get code (pc + length (flushed l)) ≡ Some o → Does code r whole count keep (pc + length (flushed l)) (pc + length (flushed l) + 1) slot 0 free g) →
        Leads pc (pc + length (flushed l ++ o ∷ [])) slot 0 free l [] g
    leads_one pc slot free l o g a b at does =
        let here = has_back code pc (pc + length (flushed l)) (flushed l) (o ∷ []) refl at in
        leads_node pc slot 0 free l (o ∷ []) g (a, b) at (does here.0)

    -- a node round a body that stands in it
    leads_round : (pc slot much : ℕ) (free : Bool) (l : Text) (b : List Op) (g : Denotation) (to : ℕ) → StartsPlain b → HasAt code pc (flushed l ++ b) →
        to ≡ pc + length (flushed l) + length b →
        (HasAt code (pc + length (flushed l)) b → Does code r whole count keep (pc + length (flushed l)) to slot much free g) →
        Leads pc (pc + length (flushed l ++ b)) slot much free l [] g
    leads_round pc slot much free l b g to starts at e does =
        let here = has_back code pc (pc + length (flushed l)) (flushed l) b refl at in
        leads_node pc slot much free l b g starts at (does_to code r whole count keep (pc + length (flushed l)) to _ slot much free g e (does here))

    -- with what waits after it
    closed_by : (p : CorePattern) (pc slot : ℕ) (free : Bool) →
        (HasAt code pc (made p [] pc slot) → Leads pc (pc + length (made p [] pc slot)) slot (slots_with layout p) free [] (waits_with layout p []) (ending r.setting (tail_bound r.find) p)) →
        HasAt code pc (within p pc slot) → Does code r whole count keep pc (pc + length (within p pc slot)) slot (slots_with layout p) free (ending r.setting (tail_bound r.find) p)
    closed_by p pc slot free leads at =
        let front = has_front code pc (made p [] pc slot) (flushed (waits_with layout p [])) at in
        let last = has_back code pc (pc + length (made p [] pc slot)) (made p [] pc slot) (flushed (waits_with layout p [])) refl at in
        does_closed pc slot (slots_with layout p) free (waits_with layout p []) (made p [] pc slot) (ending r.setting (tail_bound r.find) p) last (leads front)

    -- A call that stays does what stands for its target's body.
    abbrev pub CallDoes : Place → CorePattern → Type 0
    CallDoes c p = (pc slot : ℕ) (free : Bool) → IsWritable first count p → StepsBackOnlyFirst free p → slice_get code pc ≡ Some (op.call c) →
        Does code r whole count keep pc (pc + 1) slot 0 free (ending r.setting (tail_bound r.find) p)

    -- at a call that stays, and where it is written out
    abbrev pub DoesAtCall : Option Place → CorePattern → Type 0 → Type 0
    DoesAtCall None p inside = inside
    DoesAtCall (Some c) p inside = CallDoes c p

    -- each call that stays does it
    abbrev pub CallsDo : CorePattern → Type 0
    CallsDo (cat a b) = CallsDo a × CallsDo b
    CallsDo (alt a b) = CallsDo a × CallsDo b
    CallsDo (group k a) = CallsDo a
    CallsDo (ahead a) = CallsDo a
    CallsDo (never a) = CallsDo a
    CallsDo (atomic a) = CallsDo a
    CallsDo (tail t a) = CallsDo a
    CallsDo (repeat a lo hi greedy) = CallsDo a
    CallsDo (conditional c a b) = CallsDo c × CallsDo a × CallsDo b
    CallsDo (absent a) = CallsDo a
    CallsDo (called k a) = DoesAtCall (layout k) a (CallsDo a)
    CallsDo _ = Unit {0}

    runs_call : (o : Option Place) (a : CorePattern) (l : Text) (pc slot : ℕ) (free : Bool) → IsWritable first count a → StepsBackOnlyFirst free a →
        (CallsDo a → HasAt code pc (made a l pc slot) →
        Leads pc (pc + length (made a l pc slot)) slot (slots_with layout a) free l (waits_with layout a l) (ending r.setting (tail_bound r.find) a)) →
        DoesAtCall o a (CallsDo a) → HasAt code pc (call_code o (made a) l pc slot) →
        Leads pc (pc + length (call_code o (made a) l pc slot)) slot (where_written o (slots_with layout a)) free l (waits_at_call o (waits_with layout a l))
        (ending r.setting (tail_bound r.find) a)
    runs_call None a l pc slot free ok placed inside calls at = inside calls at
    runs_call (Some c) a l pc slot free ok placed inside calls at =
        leads_one pc slot free l (op.call c) (ending r.setting (tail_bound r.find) a) refl refl at (λ here. calls (pc + length (flushed l)) slot free ok placed here)

    pub runs : (p : CorePattern) (l : Text) (pc slot : ℕ) (free : Bool) → IsWritable first count p → StepsBackOnlyFirst free p → CallsDo p → HasAt code pc (made p l pc slot) →
        Leads pc (pc + length (made p l pc slot)) slot (slots_with layout p) free l (waits_with layout p l) (ending r.setting (tail_bound r.find) p)
    unfolding code_with
    runs nothing l pc slot free ok placed calls at = record {
      by = λ low w m rest x k above_base above_low room ready sound fits pops exits.
          comes_at code r whole count (pc + 0) pc w.position m rest (end_text r.setting l w k x) (omega arith)
          (exits.go w m rest x (λ e. omega arith) sound fits (same_refl keep low m) (above_refl rest) pops);
    }
    runs (read (literal c false)) l pc slot free ok placed calls at = leads_waiting pc slot free (is_whole_literal l) l c at
    runs (cat a b) l pc slot free ok placed calls at =
        let xs = made a l pc slot in
        let ys = made b (waits_with layout a l) (pc + length xs) (slot + slots_with layout a) in
        let la = runs a l pc slot free ok.0 placed.0 calls.0 (has_front code pc xs ys at) in
        let at_b = has_back code pc (pc + length xs) xs ys refl at in
        let lb = runs b (waits_with layout a l) (pc + length xs) (slot + slots_with layout a) false ok.1 placed.1 calls.1 at_b in
        record {
          by = λ low w m rest x k above_base above_low room ready sound fits pops exits.
              let to : pc + length (xs ++ ys) ≡ pc + length xs + length ys = omega (arith, length-append xs ys) in
              let out = exits_at code r whole count keep rest low m free w.position (pc + length (xs ++ ys)) (pc + length xs + length ys) (λ v y. end_text r.setting (waits_with layout b (waits_with layout a l)) v k y) to exits in
              la.by low w m rest x (λ v y. ending r.setting (tail_bound r.find) b v k y) above_base above_low (omega arith) ready sound fits pops
              (record {
                plain = plain_from code (pc + length xs) (pc + length xs + length ys) ys (code_starts r.setting.has_member r.setting.fold whole layout b (waits_with layout a l) (pc + length xs) (slot + slots_with layout a)) at_b refl out.plain;
                go = λ v n stack y on sound' fits' same above pops'.
                    lb.by low v n stack y k above_base (omega arith) (omega arith) (ready_same keep same ready) sound' fits' pops'
                    (exits_later code r whole count keep rest low m free w.position (pc + length xs + length ys) (λ v y. end_text r.setting (waits_with layout b (waits_with layout a l)) v k y) out stack n false v.position above same (λ e. refl) on);
              });
        }
    runs (read (literal c true)) l pc slot free ok placed calls at =
        leads_one pc slot free l (op.test (λ d. r.setting.fold d == r.setting.fold c)) (ending r.setting (tail_bound r.find) (read (literal c true))) refl refl at
        (λ here. does_move code r whole count keep (pc + length (flushed l)) slot free _ (match_char r.setting.text (passes r.setting (literal c true))) here (λ height t. refl)
        (λ w q sound e. good_char r.setting utf8 count (passes r.setting (literal c true)) free w q sound e))
    runs (read (any newline crlf)) l pc slot free ok placed calls at =
        leads_one pc slot free l (op.any newline (crlf && not newline)) (ending r.setting (tail_bound r.find) (read (any newline crlf))) refl refl at
        (λ here. does_move code r whole count keep (pc + length (flushed l)) slot free _ (match_char r.setting.text (passes r.setting (any newline crlf))) here
        (λ height t. ap (λ f. goes_to (match_char r.setting.text f t.position) t) (any_same r.setting newline crlf))
        (λ w q sound e. good_char r.setting utf8 count (passes r.setting (any newline crlf)) free w q sound e))
    runs (read (class name casei)) l pc slot free ok placed calls at =
        leads_one pc slot free l (op.test (among_scalars (r.setting.has_member name casei))) (ending r.setting (tail_bound r.find) (read (class name casei))) refl refl at
        (λ here. does_move code r whole count keep (pc + length (flushed l)) slot free _ (match_char r.setting.text (passes r.setting (class name casei))) here
        (λ height t. ap (λ o. goes_to o t) (scalars_pass r.setting.text (r.setting.has_member name casei) t.position))
        (λ w q sound e. good_char r.setting utf8 count (passes r.setting (class name casei)) free w q sound e))
    runs (general_newline unicode) l pc slot free ok placed calls at =
        leads_one pc slot free l (op.general_newline unicode) (ending r.setting (tail_bound r.find) (general_newline unicode)) refl refl at
        (λ here. does_move code r whole count keep (pc + length (flushed l)) slot free _ (match_newline r.setting unicode) here (λ height t. refl)
        (λ w q sound e. good_newline r.setting utf8 count unicode free w q sound e))
    runs (check a) l pc slot free ok placed calls at =
        leads_one pc slot free l (op.assertion a) (ending r.setting (tail_bound r.find) (check a)) refl refl at
        (λ here. does_test code r whole count keep (pc + length (flushed l)) slot free _ (λ w. holds r.setting a w.position) here (λ height w m room sound fits. refl) refl)
    runs continue l pc slot free ok placed calls at =
        leads_one pc slot free l op.continue (ending r.setting (tail_bound r.find) continue) refl refl at
        (λ here. does_test code r whole count keep (pc + length (flushed l)) slot free _ (λ w. is_some_and r.setting.continue_at (λ g. g == w.position)) here (λ height w m room sound fits. refl) refl)
    runs keep_out l pc slot free ok placed calls at =
        let b = cond whole (op.save 0 ∷ []) [] in
        let here = has_back code pc (pc + length (flushed l)) (flushed l) b refl at in
        leads_node pc slot 0 free l b (ending r.setting (tail_bound r.find) keep_out) (starts_kept r.setting.has_member r.setting.fold whole layout whole) at
        (does_keep (pc + length (flushed l)) slot free whole refl some here)
    runs fail l pc slot free ok placed calls at =
        leads_one pc slot free l op.fail (ending r.setting (tail_bound r.find) fail) refl refl at (λ here. does_fail code r whole count keep (pc + length (flushed l)) slot free here)
    runs (alt a b) l pc slot free ok placed calls at =
        let p = pc + length (flushed l) in
        let xs = within a (p + 1) slot in
        let ys = within b (p + 2 + length xs) (slot + slots_with layout a) in
        leads_round pc slot (slots_with layout a + slots_with layout b) free l _ (ending r.setting (tail_bound r.find) (alt a b)) (p + 2 + length xs + length ys) (refl, refl) at
        (omega (arith, length-append xs (op.jump (p + 2 + length xs + length ys) ∷ ys)))
        (λ h.
        let jump = has_back code (p + 1) (p + 1 + length xs) xs (op.jump (p + 2 + length xs + length ys) ∷ ys) refl h.1 in
        let next : p + 1 + length xs + 1 ≡ p + 2 + length xs = omega arith in
        does_alt code r whole count keep p slot (slots_with layout a) (slots_with layout b) free xs ys (ending r.setting (tail_bound r.find) a) (ending r.setting (tail_bound r.find) b)
        (closed_starts r.setting.has_member r.setting.fold whole layout b (p + 2 + length xs) (slot + slots_with layout a)) h
        (closed_by a (p + 1) slot free (λ f. runs a [] (p + 1) slot free ok.0 placed.0 calls.0 f) (has_front code (p + 1) xs _ h.1))
        (closed_by b (p + 2 + length xs) (slot + slots_with layout a) free (λ f. runs b [] (p + 2 + length xs) (slot + slots_with layout a) free ok.1 placed.1 calls.1 f)
        (subst (λ q. HasAt code q ys) next jump.1)))
    runs (group k a) l pc slot free ok placed calls at =
        let p = pc + length (flushed l) in
        let xs = within a (p + 1) (slot + 1) in
        leads_round pc slot (1 + slots_with layout a) free l _ (ending r.setting (tail_bound r.find) (group k a)) (p + 1 + length xs + 2) (refl, refl) at
        (omega (arith, length-append xs (op.copy slot (2 * k) ∷ op.save (2 * k + 1) ∷ [])))
        (λ h. does_group code r whole count keep utf8 p slot (slots_with layout a) k free xs (ending r.setting (tail_bound r.find) a) ok.1 (far k ok.0) h
        (closed_by a (p + 1) (slot + 1) false (λ f. runs a [] (p + 1) (slot + 1) false ok.2 placed calls f) (has_front code (p + 1) xs _ h.1)))
    runs (ahead a) l pc slot free ok placed calls at =
        let p = pc + length (flushed l) in
        let xs = within a (p + 1) (slot + 1) in
        leads_round pc slot (1 + slots_with layout a) free l _ (ending r.setting (tail_bound r.find) (ahead a)) (p + 1 + length xs + 1) (refl, refl) at
        (omega (arith, length-append xs (op.restore slot ∷ [])))
        (λ h. does_ahead code r whole count keep utf8 p slot (slots_with layout a) free xs (ending r.setting (tail_bound r.find) a) h
        (closed_by a (p + 1) (slot + 1) true (λ f. runs a [] (p + 1) (slot + 1) true ok.1 placed calls f) (has_front code (p + 1) xs _ h.1)))
    runs (never a) l pc slot free ok placed calls at =
        let p = pc + length (flushed l) in
        let xs = within a (p + 2) (slot + 1) in
        leads_round pc slot (1 + slots_with layout a) free l _ (ending r.setting (tail_bound r.find) (never a)) (p + 3 + length xs) (refl, refl) at
        (omega (arith, length-append xs (op.fail_negative slot ∷ [])))
        (λ h.
        let two : p + 1 + 1 ≡ p + 2 = omega arith in
        does_never code r whole count keep utf8 p slot (slots_with layout a) free xs (ending r.setting (tail_bound r.find) a) h
        (closed_by a (p + 2) (slot + 1) true (λ f. runs a [] (p + 2) (slot + 1) true ok placed calls f)
        (has_front code (p + 2) xs _ (subst (λ q. HasAt code q (xs ++ op.fail_negative slot ∷ [])) two h.1.1))))
    runs (back n) l pc slot free ok placed calls at =
        leads_one pc slot free l (op.go_back n) (ending r.setting (tail_bound r.find) (back n)) refl refl at
        (λ here. does_move code r whole count keep (pc + length (flushed l)) slot free _ (position_before r.setting.text n) here (λ height t. refl)
        (λ w q sound e. good_before r.setting utf8 count n free w q placed sound e))
    runs (atomic a) l pc slot free ok placed calls at =
        let p = pc + length (flushed l) in
        let xs = within a (p + 1) (slot + 1) in
        leads_round pc slot (1 + slots_with layout a) free l _ (ending r.setting (tail_bound r.find) (atomic a)) (p + 1 + length xs + 1) (refl, refl) at
        (omega (arith, length-append xs (op.end_atomic slot ∷ [])))
        (λ h. does_to code r whole count keep p (p + 1 + length xs + 1) (p + 1 + length xs + 1) slot (1 + slots_with layout a) free _ refl
        (does_atomic code r whole count keep utf8 p slot (slots_with layout a) free xs (ending r.setting (tail_bound r.find) a) h
        (does_any code r whole count keep (p + 1) (p + 1 + length xs) (slot + 1) (slots_with layout a) free (ending r.setting (tail_bound r.find) a)
        (closed_by a (p + 1) (slot + 1) false (λ f. runs a [] (p + 1) (slot + 1) false ok placed calls f) (has_front code (p + 1) xs _ h.1)))))
    runs (delegate t a) l pc slot free ok placed calls at =
        leads_one pc slot free l (op.delegate r.setting.has_member r.setting.fold t) (ending r.setting (tail_bound r.find) (delegate t a)) refl refl at
        (λ here. does_move code r whole count keep (pc + length (flushed l)) slot free _ (first_end r.setting t) here (λ height u. refl)
        (λ w q sound e. good_end r.setting utf8 count t free w q sound e))
    runs (tail t a) l pc slot free ok placed calls at =
        let p = pc + length (flushed l) in
        let xs = within a (p + 1) slot in
        leads_round pc slot (slots_with layout a) free l _ (ending r.setting (tail_bound r.find) (tail t a)) (p + 1 + length xs) (refl, refl) at
        (omega arith)
        (λ h. does_tail code r whole count keep p slot (slots_with layout a) free (op.tail r.setting.has_member r.setting.fold t (p + 1 + length xs)) (tail_bound r.find)
        (first_end_until r.setting t) xs (ending r.setting (tail_bound r.find) a) h.0 (λ height u. refl)
        (λ stop w q sound e. good_end_until r.setting utf8 count t stop free w q sound e)
        (does_any code r whole count keep (p + 1) (p + 1 + length xs) slot (slots_with layout a) free (ending r.setting (tail_bound r.find) a)
        (closed_by a (p + 1) slot false (λ f. runs a [] (p + 1) slot false ok placed calls f) h.1)))
    runs (repeat a lo None greedy) l pc slot free ok placed calls at =
        let p = pc + length (flushed l) in
        let xs = within a (p + 2) (slot + 2) in
        let uncounted = is_uncounted lo (p + 2) xs in
        let past : uncounted ≡ true → (lo ≤ 1) × GoesPast (ending r.setting (tail_bound r.find) a) = λ e. (
          few lo (p + 2) xs e,
          ending_past r.setting (tail_bound r.find) a (body_takes r.setting.has_member r.setting.fold whole layout a lo (p + 2) (slot + 2) e) placed,
        ) in
        leads_round pc slot (2 + slots_with layout a) free l _ (ending r.setting (tail_bound r.find) (repeat a lo None greedy)) (p + 3 + length xs) (starts_loop uncounted lo (p + 1) slot) at
        (omega (arith, length-append xs (op.jump (p + 1) ∷ [])))
        (λ h.
        let two : p + 1 + 1 ≡ p + 2 = omega arith in
        does_endless code r whole count keep uncounted p slot (slots_with layout a) lo greedy free xs (ending r.setting (tail_bound r.find) a) ok.0 past
        (closed_starts r.setting.has_member r.setting.fold whole layout a (p + 2) (slot + 2)) h
        (closed_by a (p + 2) (slot + 2) false (λ f. runs a [] (p + 2) (slot + 2) false ok.1 placed calls f)
        (has_front code (p + 2) xs _ (subst (λ q. HasAt code q (xs ++ op.jump (p + 1) ∷ [])) two h.1.1))))
    runs (repeat a lo (Some hi) greedy) l pc slot free ok placed calls at =
        let p = pc + length (flushed l) in
        let xs = within a (p + 2) (slot + 1) in
        leads_round pc slot (1 + slots_with layout a) free l _ (ending r.setting (tail_bound r.find) (repeat a lo (Some hi) greedy)) (p + 3 + length xs) (refl, refl) at
        (omega (arith, length-append xs (op.jump (p + 1) ∷ [])))
        (λ h.
        let two : p + 1 + 1 ≡ p + 2 = omega arith in
        does_repeat code r whole count keep p slot (slots_with layout a) lo hi greedy free xs (ending r.setting (tail_bound r.find) a)
        (closed_starts r.setting.has_member r.setting.fold whole layout a (p + 2) (slot + 1)) h
        (closed_by a (p + 2) (slot + 1) false (λ f. runs a [] (p + 2) (slot + 1) false ok.1 placed calls f)
        (has_front code (p + 2) xs _ (subst (λ q. HasAt code q (xs ++ op.jump (p + 1) ∷ [])) two h.1.1))))
    runs (backref k casei) l pc slot free ok placed calls at =
        leads_one pc slot free l (op.backref (2 * k) casei) (ending r.setting (tail_bound r.find) (backref k casei)) refl refl at
        (λ here. does_backref code r whole count keep utf8 small (pc + length (flushed l)) slot k casei free (far k ok.0) ok.1 here)
    runs (exists k) l pc slot free ok placed calls at =
        leads_one pc slot free l (op.exists (2 * k)) (ending r.setting (tail_bound r.find) (exists k)) refl refl at
        (λ here. does_exists code r whole count keep utf8 small (pc + length (flushed l)) slot k free (far k ok.0) ok.1 here)
    runs (conditional c a b) l pc slot free ok placed calls at =
        let p = pc + length (flushed l) in
        let xs = within c (p + 2) (slot + 1) in
        let ys = within a (p + 3 + length xs) (slot + 1 + slots_with layout c) in
        let zs = within b (p + 4 + length xs + length ys) (slot + 1 + slots_with layout c + slots_with layout a) in
        let to = p + 4 + length xs + length ys + length zs in
        leads_round pc slot (1 + (slots_with layout c + (slots_with layout a + slots_with layout b))) free l _ (ending r.setting (tail_bound r.find) (conditional c a b)) to (refl, refl) at
        (omega (arith, length-append xs (op.end_atomic slot ∷ (ys ++ op.jump to ∷ zs)), length-append ys (op.jump to ∷ zs)))
        (λ h.
        let two : p + 1 + 1 ≡ p + 2 = omega arith in
        let at_c = subst (λ q. HasAt code q (xs ++ op.end_atomic slot ∷ (ys ++ op.jump to ∷ zs))) two h.1.1 in
        let at_cut = has_back code (p + 2) (p + 2 + length xs) xs (op.end_atomic slot ∷ (ys ++ op.jump to ∷ zs)) refl at_c in
        let three : p + 2 + length xs + 1 ≡ p + 3 + length xs = omega arith in
        let at_a = subst (λ q. HasAt code q (ys ++ op.jump to ∷ zs)) three at_cut.1 in
        let at_jump = has_back code (p + 3 + length xs) (p + 3 + length xs + length ys) ys (op.jump to ∷ zs) refl at_a in
        let four : p + 3 + length xs + length ys + 1 ≡ p + 4 + length xs + length ys = omega arith in
        let at_b = subst (λ q. HasAt code q zs) four at_jump.1 in
        does_conditional code r whole count keep p slot (slots_with layout c) (slots_with layout a) (slots_with layout b) free xs ys zs (ending r.setting (tail_bound r.find) c) (ending r.setting (tail_bound r.find) a) (ending r.setting (tail_bound r.find) b)
        (closed_starts r.setting.has_member r.setting.fold whole layout b (p + 4 + length xs + length ys) (slot + 1 + slots_with layout c + slots_with layout a)) h
        (closed_by c (p + 2) (slot + 1) false (λ f. runs c [] (p + 2) (slot + 1) false ok.0 placed.0 calls.0 f) (has_front code (p + 2) xs _ at_c))
        (closed_by a (p + 3 + length xs) (slot + 1 + slots_with layout c) false (λ f. runs a [] (p + 3 + length xs) (slot + 1 + slots_with layout c) false ok.1 placed.1 calls.1 f) (has_front code (p + 3 + length xs) ys _ at_a))
        (closed_by b (p + 4 + length xs + length ys) (slot + 1 + slots_with layout c + slots_with layout a) false (λ f. runs b [] (p + 4 + length xs + length ys) (slot + 1 + slots_with layout c + slots_with layout a) false ok.2 placed.2 calls.2 f) at_b))
    runs (absent a) l pc slot free ok placed calls at =
        let p = pc + length (flushed l) in
        let xs = within a (p + 2) (slot + 2) in
        leads_round pc slot (2 + slots_with layout a) free l _ (ending r.setting (tail_bound r.find) (absent a)) (p + 4 + length xs) (refl, refl) at
        (omega (arith, length-append xs (op.absent_limit (slot + 1) ∷ op.absent_end slot (slot + 1) ∷ [])))
        (λ h.
        let two : p + 1 + 1 ≡ p + 2 = omega arith in
        does_absent code r whole count keep utf8 p slot (slots_with layout a) free xs (ending r.setting (tail_bound r.find) a) h
        (closed_by a (p + 2) (slot + 2) false (λ f. runs a [] (p + 2) (slot + 2) false ok.1 placed calls f)
        (has_front code (p + 2) xs _ (subst (λ q. HasAt code q (xs ++ op.absent_limit (slot + 1) ∷ op.absent_end slot (slot + 1) ∷ [])) two h.1.1))))
    runs (called k a) l pc slot free ok placed calls at = runs_call (layout k) a l pc slot free ok placed (λ f g. runs a l pc slot free ok placed f g) calls at

    pub runs_closed : (p : CorePattern) (pc slot : ℕ) (free : Bool) → IsWritable first count p → StepsBackOnlyFirst free p → CallsDo p → HasAt code pc (within p pc slot) →
        Does code r whole count keep pc (pc + length (within p pc slot)) slot (slots_with layout p) free (ending r.setting (tail_bound r.find) p)
    runs_closed p pc slot free ok placed calls at = closed_by p pc slot free (λ f. runs p [] pc slot free ok placed calls f) at

  -- no call stays where all are written out
  pub calls_written_out : (some : whole ≡ true → 1 ≤ count) (first : ℕ) (apart : whole ≡ true → 1 ≤ first) (p : CorePattern) → CallsDo some written_out first apart p
  calls_written_out some first apart nothing = tt
  calls_written_out some first apart (read leaf) = tt
  calls_written_out some first apart (general_newline unicode) = tt
  calls_written_out some first apart (check a) = tt
  calls_written_out some first apart continue = tt
  calls_written_out some first apart keep_out = tt
  calls_written_out some first apart fail = tt
  calls_written_out some first apart (cat a b) = (calls_written_out some first apart a, calls_written_out some first apart b)
  calls_written_out some first apart (alt a b) = (calls_written_out some first apart a, calls_written_out some first apart b)
  calls_written_out some first apart (group k a) = calls_written_out some first apart a
  calls_written_out some first apart (ahead a) = calls_written_out some first apart a
  calls_written_out some first apart (never a) = calls_written_out some first apart a
  calls_written_out some first apart (back n) = tt
  calls_written_out some first apart (atomic a) = calls_written_out some first apart a
  calls_written_out some first apart (delegate t a) = tt
  calls_written_out some first apart (tail t a) = calls_written_out some first apart a
  calls_written_out some first apart (repeat a lo hi greedy) = calls_written_out some first apart a
  calls_written_out some first apart (backref k casei) = tt
  calls_written_out some first apart (exists k) = tt
  calls_written_out some first apart (conditional c a b) =
      (calls_written_out some first apart c, calls_written_out some first apart a, calls_written_out some first apart b)
  calls_written_out some first apart (absent a) = calls_written_out some first apart a
  calls_written_out some first apart (called k a) = calls_written_out some first apart a
