-- Patterns each of whose ways takes a character.
use Rattle.std.proofs.Common.{◌≡◌, ℕ, zero, suc, ◌+◌, ◌-◌, ◌<◌, Bool, true, false, length, Option, Some, None, ◌⊎◌, inl, inr, refl, arith, cond}
use Rattle.std.specs.Prelude.{◌&&◌}
use Rattle.std.specs.Char.{len_utf8}
use Rattle.std.proofs.lemmas.Option.{none-some, same_Some}
use Rattle.std.proofs.lemmas.Str.{len_utf8_bounds}
use Rattle.regex_hir.specs.Text.{char_at}
use Rattle.fancy_regex_meaning.specs.Positions.{is_before_byte}
use Rattle.fancy_regex_meaning.specs.Ways.{MatchState, Setting, set_pair, is_newline}
use Rattle.fancy_regex_desugar.specs.CorePatterns.{CorePattern, nothing, read, general_newline, check, continue, keep_out, fail, cat, alt, group, ahead, never, back, atomic, delegate, tail, repeat, backref, exists, conditional, absent, called}
use Rattle.fancy_regex_desugar.specs.CoreWays.{passes}
use Rattle.fancy_regex_desugar.specs.Shapes.{StepsBackOnlyFirst}
use Rattle.fancy_regex_program.specs.Machine.{match_char, match_newline}
use Rattle.fancy_regex_program_laws.proofs.Denote.{end_choice, end_upto, end_loop, end_times, ending}
use Rattle.fancy_regex_program_laws.proofs.WaysOf.{Onward}
use Rattle.fancy_regex_program_laws.proofs.OnwardEndings.{Asks, asks_to, asks_both, asks_choice, asks_alt, asks_first, ending_onward, onward_rest, onward_rest_upto}

abbrev pub TakesSome : CorePattern → Type 0
TakesSome (read leaf) = Unit {0}
TakesSome (general_newline unicode) = Unit {0}
TakesSome fail = Unit {0}
TakesSome (cat a b) = TakesSome a ⊎ TakesSome b
TakesSome (alt a b) = TakesSome a × TakesSome b
TakesSome (group k a) = TakesSome a
TakesSome (atomic a) = TakesSome a
TakesSome (repeat a zero hi greedy) = ⊥
TakesSome (repeat a (suc lo) hi greedy) = TakesSome a
TakesSome (conditional c a b) = (TakesSome c ⊎ TakesSome a) × TakesSome b
TakesSome (called n a) = TakesSome a
TakesSome _ = ⊥

-- the place is further on
abbrev Past : MatchState → MatchState → Type 0
Past w v = w.position < v.position

onward_past : (u v w : MatchState) → Onward u v → Past v w → Past u w
onward_past u v w d e = omega (arith, d, e)

past_onward : (u v w : MatchState) → Past u v → Onward v w → Past u w
past_onward u v w d e = omega (arith, d, e)

module _ (s : Setting) (bound : Option ℕ) where
  char_takes : (test : ℕ → Bool) (p q : ℕ) → match_char s.text test p ≡ Some q → p < q
  char_takes test p q e = at (char_at s.text p) e
    where
      tested : (c : ℕ) (b : Bool) → cond b (Some (p + len_utf8 c)) None ≡ Some q → p < q
      tested c true d = let same : p + len_utf8 c ≡ q = same_Some (p + len_utf8 c) q d in omega (arith, (len_utf8_bounds c).0)
      tested c false d = absurd (none-some q d)

      at : (o : Option ℕ) → (elim o [ None ↦ None | Some c ↦ cond (test c) (Some (p + len_utf8 c)) None ]) ≡ Some q → p < q
      at None d = absurd (none-some q d)
      at (Some c) d = tested c (test c) d

  newline_takes : (unicode : Bool) (p q : ℕ) → match_newline s unicode p ≡ Some q → p < q
  newline_takes unicode p q e = choose (is_before_byte s.text 13 p && is_before_byte s.text 10 (p + 1)) e
    where
      choose : (b : Bool) → cond b (Some (p + 2)) (match_char s.text (is_newline s unicode) p) ≡ Some q → p < q
      choose true d = let same : p + 2 ≡ q = same_Some (p + 2) q d in omega arith
      choose false d = char_takes (is_newline s unicode) p q d

  past_choice : (c a b : CorePattern) → TakesSome c ⊎ TakesSome a → (TakesSome c → Asks Past (ending s bound c)) → (TakesSome a → Asks Past (ending s bound a)) →
      Asks Onward (ending s bound c) → Asks Onward (ending s bound a) → Asks Past (ending s bound b) → Asks Past (end_choice (ending s bound c) (ending s bound a) (ending s bound b))
  past_choice c a b (inl t) hc ha oc oa hb = asks_choice Past Onward Past past_onward (ending s bound c) (ending s bound a) (ending s bound b) (hc t) oa hb
  past_choice c a b (inr t) hc ha oc oa hb = asks_choice Onward Past Past onward_past (ending s bound c) (ending s bound a) (ending s bound b) oc (ha t) hb

  -- Where each way takes a character, only what follows further on counts.
  pub ending_past : (p : CorePattern) → TakesSome p → StepsBackOnlyFirst false p → Asks Past (ending s bound p)
  ending_past nothing t o w k k' x e = absurd t
  ending_past (check a) t o w k k' x e = absurd t
  ending_past continue t o w k k' x e = absurd t
  ending_past keep_out t o w k k' x e = absurd t
  ending_past (ahead a) t o w k k' x e = absurd t
  ending_past (never a) t o w k k' x e = absurd t
  ending_past (back n) t o w k k' x e = absurd t
  ending_past (delegate u a) t o w k k' x e = absurd t
  ending_past (tail u a) t o w k k' x e = absurd t
  ending_past (repeat a zero hi greedy) t o w k k' x e = absurd t
  ending_past (backref n casei) t o w k k' x e = absurd t
  ending_past (exists n) t o w k k' x e = absurd t
  ending_past (absent a) t o w k k' x e = absurd t
  ending_past fail t o w k k' x e = refl
  ending_past (read leaf) t o w k k' x e = asks_to Past (match_char s.text (passes s leaf) w.position) w (λ q d. char_takes (passes s leaf) w.position q d) k k' x e
  ending_past (general_newline unicode) t o w k k' x e = asks_to Past (match_newline s unicode w.position) w (λ q d. newline_takes unicode w.position q d) k k' x e
  ending_past (cat a b) (inl t) o w k k' x e =
      asks_both Past Onward Past past_onward (ending s bound a) (ending s bound b) (ending_past a t o.0) (ending_onward s bound b o.1) w k k' x e
  ending_past (cat a b) (inr t) o w k k' x e =
      asks_both Onward Past Past onward_past (ending s bound a) (ending s bound b) (ending_onward s bound a o.0) (ending_past b t o.1) w k k' x e
  ending_past (alt a b) t o w k k' x e = asks_alt Past (ending s bound a) (ending s bound b) (ending_past a t.0 o.0) (ending_past b t.1 o.1) w k k' x e
  ending_past (group n a) t o w k k' x e =
      ending_past a t o w (λ v y. k (set_pair n (w.position, v.position) v) y) (λ v y. k' (set_pair n (w.position, v.position) v) y) x
      (λ v y d. e (set_pair n (w.position, v.position) v) y d)
  ending_past (atomic a) t o w k k' x e = asks_first Past (ending s bound a) (ending_past a t o) w k k' x e
  ending_past (repeat a (suc lo) None greedy) t o w k k' x e =
      asks_both Past Onward Past past_onward (ending s bound a) (end_times (ending s bound a) lo (end_loop (ending s bound a) greedy (length s.text + 1)))
      (ending_past a t o) (onward_rest s bound a o lo greedy (length s.text + 1)) w k k' x e
  ending_past (repeat a (suc lo) (Some hi) greedy) t o w k k' x e =
      asks_both Past Onward Past past_onward (ending s bound a) (end_times (ending s bound a) lo (end_upto (ending s bound a) greedy (hi - suc lo)))
      (ending_past a t o) (onward_rest_upto s bound a o lo greedy (hi - suc lo)) w k k' x e
  ending_past (conditional c a b) t o w k k' x e =
      past_choice c a b t.0 (λ h. ending_past c h o.0) (λ h. ending_past a h o.1) (ending_onward s bound c o.0) (ending_onward s bound a o.1) (ending_past b t.1 o.2) w k k' x e
  ending_past (called n a) t o w k k' x e = ending_past a t o w k k' x e
