-- Operations that read a text, and where they lead.
use Rattle.std.proofs.Common.{◌≡◌, ℕ, zero, suc, ◌+◌, ◌-◌, ◌*◌, ◌<◌, ◌≤◌, Bool, true, false, ◌&&◌, List, [], ◌∷◌, length, take, get_or, Option, Some, None, refl, sym, ap, ◌∙◌, subst, arith, cond}
use Rattle.std.specs.Prelude.{slice_get, ◌==◌, option_and_then, is_some, not, nat_le}
use Rattle.std.proofs.lemmas.List.{get_or-take}
use Rattle.std.proofs.lemmas.Option.{none-some, same_Some}
use Rattle.std.proofs.lemmas.Bool.Decides.{nat_tests}
use Rattle.std.specs.Char.{len_utf8}
use Rattle.std.specs.Str.{IsUtf8}
use Rattle.regex_hir.specs.Text.{char_at, char_before}
use Rattle.fancy_regex_tree.specs.Tree.{Text, Tree}
use Rattle.fancy_regex_tree.specs.Tree as tree
use Rattle.fancy_regex_meaning.specs.Positions.{position_before, is_before_byte}
use Rattle.fancy_regex_meaning.specs.Ways.{MatchState, Setting, with_position, pair_of, meaning, ways, for_some, general_newline_ways, is_newline}
use Rattle.fancy_regex_meaning.specs.WayLaws.{Each, HasCharBoundaries, IsForwardTo, PreservesForward}
use Rattle.fancy_regex_meaning.proofs.ForwardProofs.{keeps_cuts, ways_cut_well}
use Rattle.fancy_regex_desugar.specs.Delegates.{first_end, first_end_until}
use Rattle.fancy_regex_slots.specs.Memory.{Thread}
use Rattle.fancy_regex_program.specs.Ops as op
use Rattle.fancy_regex_program.specs.Ops.{Op}
use Rattle.fancy_regex_program.specs.Machine.{unset, RunParameters, goes, fails, goes_if, moved, stuck, match_char, match_text, match_newline, match_backref, is_valid_span, backref_move, is_valid_offset, act}
use Rattle.fancy_regex_program.specs.SlotLayout.{slots_of_way}
use Rattle.fancy_regex_program_laws.proofs.Denote.{end_if, end_again}
use Rattle.fancy_regex_program_laws.proofs.DelegatedWays.{ends_onward, ends_cut, ends_until_onward, ends_until_cut}
use Rattle.fancy_regex_program_laws.proofs.PairsInSlots.{start_of, end_of, laid_start, laid_end}
use Rattle.fancy_regex_program_laws.proofs.Runs.{Keep, above_refl, same_refl, thread, place_is, eq_other, Sound, Follows, by_move, Does}
use Rattle.fancy_regex_program_laws.proofs.ProgramParts.{with_slot_is, does_test}

-- what stands before the place after one character that passes
record Passed (text : List ℕ) (p q : ℕ) : Type 0 where
  char : ℕ
  here : char_at text p ≡ Some char
  there : p + len_utf8 char ≡ q

passed : (text : List ℕ) (passes : ℕ → Bool) (p q : ℕ) → match_char text passes p ≡ Some q → Passed text p q
passed text passes p q e = at (char_at text p) refl e
  where
    tested : (c : ℕ) (b : Bool) → char_at text p ≡ Some c → cond b (Some (p + len_utf8 c)) None ≡ Some q → Passed text p q
    tested c true is e = record { char = c; here = is; there = same_Some _ _ e }
    tested c false is e = absurd (none-some q e)

    at : (o : Option ℕ) → char_at text p ≡ o → (elim o [ None ↦ None | Some c ↦ cond (passes c) (Some (p + len_utf8 c)) None ]) ≡ Some q → Passed text p q
    at None is e = absurd (none-some q e)
    at (Some c) is e = tested c (passes c) is e

module _ (s : Setting) where
  -- a newline's way
  pub newline_way : (unicode : Bool) (w : MatchState) → general_newline_ways s unicode w ≡ for_some (λ q. with_position w q ∷ []) (match_newline s unicode w.position)
  newline_way unicode w = choose (is_before_byte s.text 13 w.position && is_before_byte s.text 10 (w.position + 1))
    where
      tested : (c : ℕ) (b : Bool) → cond b (with_position w (w.position + len_utf8 c) ∷ []) [] ≡ for_some (λ q. with_position w q ∷ []) (cond b (Some (w.position + len_utf8 c)) None)
      tested c true = refl
      tested c false = refl

      at : (o : Option ℕ) → for_some (λ c. cond (is_newline s unicode c) (with_position w (w.position + len_utf8 c) ∷ []) []) o
          ≡ for_some (λ q. with_position w q ∷ []) (elim o [ None ↦ None | Some c ↦ cond (is_newline s unicode c) (Some (w.position + len_utf8 c)) None ])
      at None = refl
      at (Some c) = tested c (is_newline s unicode c)

      choose : (b : Bool) → cond b (with_position w (w.position + 2) ∷ []) (for_some (λ c. cond (is_newline s unicode c) (with_position w (w.position + len_utf8 c) ∷ []) []) (char_at s.text w.position))
          ≡ for_some (λ q. with_position w q ∷ []) (cond b (Some (w.position + 2)) (match_char s.text (is_newline s unicode) w.position))
      choose true = refl
      choose false = at (char_at s.text w.position)

module _ (s : Setting) (utf8 : IsUtf8 s.text) (count : ℕ) where
  past_char : (passes : ℕ → Bool) (w : MatchState) (q : ℕ) → Sound s.text count w → match_char s.text passes w.position ≡ Some q → (w.position ≤ q) × Sound s.text count (with_position w q)
  past_char passes w q sound e =
      let p = passed s.text passes w.position q e in (
        omega (arith, p.there),
        subst (λ n. Sound s.text count (with_position w n)) p.there
            (record { cuts = (keeps_cuts s utf8).past_char w p.char sound.cuts p.here; many = sound.many }),
      )

  pub good_char : (passes : ℕ → Bool) (free : Bool) (w : MatchState) (q : ℕ) → Sound s.text count w → match_char s.text passes w.position ≡ Some q →
      (free ≡ false → w.position ≤ q) × Sound s.text count (with_position w q)
  good_char passes free w q sound e = let g = past_char passes w q sound e in (λ _. g.0, g.1)

  past_text : (cs : Text) (w : MatchState) (q : ℕ) → Sound s.text count w → match_text s.text cs w.position ≡ Some q → (w.position ≤ q) × Sound s.text count (with_position w q)
  past_text [] w q sound e = let same : w.position ≡ q = same_Some _ _ e in (omega arith, subst (λ n. Sound s.text count (with_position w n)) same sound)
  past_text (c ∷ cs) w q sound e = step (λ v k e'. past_text cs v q k e') (match_char s.text (λ d. d == c) w.position) refl e
    where
      step : ((v : MatchState) → Sound s.text count v → match_text s.text cs v.position ≡ Some q → (v.position ≤ q) × Sound s.text count (with_position v q)) → (o : Option ℕ) → match_char s.text (λ d. d == c) w.position ≡ o → (elim o [ None ↦ None | Some p ↦ match_text s.text cs p ]) ≡ Some q →
          (w.position ≤ q) × Sound s.text count (with_position w q)
      step more None is e = absurd (none-some q e)
      step more (Some p) is e =
          let one = past_char (λ d. d == c) w p sound is in
          let rest = more (with_position w p) one.1 e in
          (omega (arith, one.0, rest.0), rest.1)

  pub good_text : (cs : Text) (free : Bool) (w : MatchState) (q : ℕ) → Sound s.text count w → match_text s.text cs w.position ≡ Some q →
      (free ≡ false → w.position ≤ q) × Sound s.text count (with_position w q)
  good_text cs free w q sound e = let g = past_text cs w q sound e in (λ _. g.0, g.1)

  newline_well : (unicode : Bool) → PreservesForward (HasCharBoundaries s.text) (general_newline_ways s unicode)
  unfolding ways meaning
  newline_well unicode = ways_cut_well s [] utf8 0 (tree.general_newline unicode)

  pub good_newline : (unicode free : Bool) (w : MatchState) (q : ℕ) → Sound s.text count w → match_newline s unicode w.position ≡ Some q →
      (free ≡ false → w.position ≤ q) × Sound s.text count (with_position w q)
  good_newline unicode free w q sound e =
      let well = newline_well unicode w sound.cuts in
      let one = subst (Each (IsForwardTo (HasCharBoundaries s.text) w)) (newline_way s unicode w ∙ ap (for_some (λ q. with_position w q ∷ [])) e) well in
      (λ _. one.0.0, record { cuts = one.0.1; many = sound.many })

  pub good_end : (t : Tree) (free : Bool) (w : MatchState) (q : ℕ) → Sound s.text count w → first_end s t w.position ≡ Some q →
      (free ≡ false → w.position ≤ q) × Sound s.text count (with_position w q)
  good_end t free w q sound e =
      let cut = ends_cut s utf8 t w.position q sound.cuts.0 e in
      (λ _. ends_onward s t w.position q e, record { cuts = (cut, sound.cuts.1, sound.cuts.2); many = sound.many })

  pub good_end_until : (t : Tree) (stop : ℕ) (free : Bool) (w : MatchState) (q : ℕ) → Sound s.text count w → first_end_until s t stop w.position ≡ Some q →
      (free ≡ false → w.position ≤ q) × Sound s.text count (with_position w q)
  good_end_until t stop free w q sound e =
      let cut = ends_until_cut s utf8 t stop w.position q sound.cuts.0 e in
      (λ _. ends_until_onward s t stop w.position q e, record { cuts = (cut, sound.cuts.1, sound.cuts.2); many = sound.many })

  before_good : (n : ℕ) (w : MatchState) (q : ℕ) → Sound s.text count w → position_before s.text n w.position ≡ Some q → Sound s.text count (with_position w q)
  before_good zero w q sound e = let same : w.position ≡ q = same_Some _ _ e in subst (λ n. Sound s.text count (with_position w n)) same sound
  before_good (suc n) w q sound e = step (λ v k e'. before_good n v q k e') (char_before s.text w.position) refl e
    where
      step : ((v : MatchState) → Sound s.text count v → position_before s.text n v.position ≡ Some q → Sound s.text count (with_position v q)) → (o : Option ℕ) → char_before s.text w.position ≡ o → option_and_then (λ c. position_before s.text n (w.position - len_utf8 c)) o ≡ Some q → Sound s.text count (with_position w q)
      step more None is e = absurd (none-some q e)
      step more (Some c) is e =
          more (with_position w (w.position - len_utf8 c))
          (record { cuts = (keeps_cuts s utf8).before_char w c sound.cuts is; many = sound.many }) e

  -- from as far back nothing leads onward for sure
  pub good_before : (n : ℕ) (free : Bool) (w : MatchState) (q : ℕ) → free ≡ true → Sound s.text count w → position_before s.text n w.position ≡ Some q →
      (free ≡ false → w.position ≤ q) × Sound s.text count (with_position w q)
  good_before n free w q is sound e = (λ no. let both : true ≡ false = sym is ∙ no in absurd cc, before_good n w q sound e)

module _ (code : List Op) (r : RunParameters) (whole : Bool) (count : ℕ) (keep : Keep count) (utf8 : IsUtf8 r.setting.text) (small : length r.setting.text < unset) where
  -- the pair of a group in the slots
  start_in : (w : MatchState) (m : List ℕ) (k : ℕ) → (whole ≡ true → 1 ≤ k) → k < count → Sound r.setting.text count w → take (2 * count) m ≡ slots_of_way whole w →
      get_or m (2 * k) 0 ≡ start_of (pair_of w k)
  start_in w m k apart lt sound fits =
      sym (get_or-take (2 * count) m (2 * k) 0 (omega arith)) ∙ ap (λ l. get_or l (2 * k) 0) fits ∙ laid_start whole w k apart (omega (arith, sound.many))

  end_in : (w : MatchState) (m : List ℕ) (k : ℕ) → (whole ≡ true → 1 ≤ k) → k < count → Sound r.setting.text count w → take (2 * count) m ≡ slots_of_way whole w →
      get_or m (2 * k + 1) 0 ≡ end_of (pair_of w k)
  end_in w m k apart lt sound fits =
      sym (get_or-take (2 * count) m (2 * k + 1) 0 (omega arith)) ∙ ap (λ l. get_or l (2 * k + 1) 0) fits ∙ laid_end whole w k apart (omega (arith, sound.many))

  set_is : (w : MatchState) (k a b : ℕ) → Sound r.setting.text count w → pair_of w k ≡ Some (a, b) → (a == unset) ≡ false
  set_is w k a b sound e =
      let cuts = sound.cuts.1 k a b e in
      let le : a ≤ length r.setting.text = cuts.0.0 in
      let far : a ≡ unset → ⊥ = λ (is : a ≡ unset). omega arith in
      eq_other a unset far

  -- a group that is set
  pub does_exists : (pc slot k : ℕ) (free : Bool) → (whole ≡ true → 1 ≤ k) → k < count → slice_get code pc ≡ Some (op.exists (2 * k)) →
      Does code r whole count keep pc (pc + 1) slot 0 free (λ w f x. end_if (is_some (pair_of w k)) w f x)
  does_exists pc slot k free apart lt at =
      does_test code r whole count keep pc slot free (op.exists (2 * k)) (λ w. is_some (pair_of w k)) at
      (λ height w m room sound fits.
      with_slot_is (2 * k) (thread pc w.position m) _ (omega arith)
      ∙ ap (λ p. goes_if (not (p == unset)) (thread pc w.position m)) (start_in w m k apart lt sound fits)
      ∙ ap (λ b. goes_if b (thread pc w.position m)) (is_set w (pair_of w k) refl sound)) refl
    where
      is_set : (w : MatchState) (o : Option (ℕ × ℕ)) → pair_of w k ≡ o → Sound r.setting.text count w → not (start_of o == unset) ≡ is_some o
      is_set w None e sound = refl
      is_set w (Some (a, b)) e sound = ap not (set_is w k a b sound e)

  are_ends_of : (w : MatchState) (k a b : ℕ) → Sound r.setting.text count w → pair_of w k ≡ Some (a, b) → is_valid_span r.setting a b ≡ true
  are_ends_of w k a b sound e =
      let cuts = sound.cuts.1 k a b e in
      let le : a ≤ b = cuts.2 in
      let ordered : nat_le a b ≡ true = grind (arith, nat_tests) in
      ap (λ c. c && is_valid_offset r.setting.text a && is_valid_offset r.setting.text b) ordered
      ∙ ap (λ c. c && is_valid_offset r.setting.text b) (place_is r.setting.text a cuts.0) ∙ place_is r.setting.text b cuts.1

  -- the text of a group once more
  pub does_backref : (pc slot k : ℕ) (casei free : Bool) → (whole ≡ true → 1 ≤ k) → k < count → slice_get code pc ≡ Some (op.backref (2 * k) casei) →
      Does code r whole count keep pc (pc + 1) slot 0 free (λ w f x. end_again r.setting casei (pair_of w k) w f x)
  does_backref pc slot k casei free apart lt at = record {
    by = λ low w m rest x f above_base above_low room ready sound fits pops exits.
        let t : Thread = thread pc w.position m in
        let acts : act r (Some (op.backref (2 * k) casei)) (length rest) t ≡ backref_move r.setting casei (start_of (pair_of w k)) (end_of (pair_of w k)) t =
        with_slot_is (2 * k) t _ (omega (arith, ready.long)) ∙ with_slot_is (2 * k + 1) t _ (omega (arith, ready.long))
        ∙ ap (λ p. backref_move r.setting casei p (get_or m (2 * k + 1) 0) t) (start_in w m k apart lt sound fits)
        ∙ ap (λ p. backref_move r.setting casei (start_of (pair_of w k)) p t) (end_in w m k apart lt sound fits) in
        let tested : (a b : ℕ) → pair_of w k ≡ Some (a, b) → (c : Bool) → match_backref r.setting casei a b w.position ≡ c →
        Follows code r whole count rest (cond c (goes (moved (w.position + (b - a)) t)) fails) (cond c (f (with_position w (w.position + (b - a))) x) x) =
        λ a b e c. elim c as (λ c. match_backref r.setting casei a b w.position ≡ c → Follows code r whole count rest (cond c (goes (moved (w.position + (b - a)) t)) fails) (cond c (f (with_position w (w.position + (b - a))) x) x)) [
          | true ↦ λ yes. exits.go (with_position w (w.position + (b - a))) m rest x (λ _. omega arith)
              (record { cuts = (keeps_cuts r.setting utf8).again k casei a b w sound.cuts e yes; many = sound.many }) fits (same_refl keep low m) (above_refl rest) pops
          | false ↦ λ no. pops
        ] in
        let go : (o : Option (ℕ × ℕ)) → pair_of w k ≡ o → Follows code r whole count rest (backref_move r.setting casei (start_of o) (end_of o) t) (end_again r.setting casei o w f x) =
        λ o. elim o as (λ o. pair_of w k ≡ o → Follows code r whole count rest (backref_move r.setting casei (start_of o) (end_of o) t) (end_again r.setting casei o w f x)) [
          | None ↦ λ e. pops
          | Some pair ↦ λ e.
              let a = pair.0 in
              let b = pair.1 in
              let read = cond (match_backref r.setting casei a b w.position) (goes (moved (w.position + (b - a)) t)) fails in
              let is : backref_move r.setting casei a b t ≡ read =
              ap (λ c. cond c fails (cond (is_valid_span r.setting a b) read stuck)) (set_is w k a b sound e) ∙ ap (λ c. cond c read stuck) (are_ends_of w k a b sound e) in
              subst (λ mv. Follows code r whole count rest mv (end_again r.setting casei (Some pair) w f x)) (sym is) (tested a b e (match_backref r.setting casei a b w.position) refl)
        ] in
        by_move code r whole count t rest (op.backref (2 * k) casei) (backref_move r.setting casei (start_of (pair_of w k)) (end_of (pair_of w k)) t) (end_again r.setting casei (pair_of w k) w f x)
        at sound.cuts.0 acts (go (pair_of w k) refl);
  }
