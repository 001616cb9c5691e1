-- What an ending asks of what follows: only ways that are no further back.
use Rattle.std.proofs.Common.{◌≡◌, ℕ, zero, suc, ◌+◌, ◌-◌, ◌≤◌, Bool, true, false, List, [], ◌∷◌, length, Option, Some, None, refl, ap, ◌∙◌, arith, cond}
use Rattle.std.specs.Prelude.{◌==◌, ◌&&◌, nat_le, nat_lt, is_some}
use Rattle.std.specs.Char.{len_utf8}
use Rattle.std.proofs.Math.Path.{fun_ext}
use Rattle.std.proofs.lemmas.Option.{none-some, same_Some}
use Rattle.regex_hir.specs.Text.{char_at, is_some_and}
use Rattle.fancy_regex_meaning.specs.Positions.{is_before_byte, boundaries}
use Rattle.fancy_regex_meaning.specs.WayLaws.{Each}
use Rattle.fancy_regex_meaning.specs.Ways.{MatchState, Setting, with_position, set_pair, pair_of, is_newline, holds}
use Rattle.fancy_regex_meaning.proofs.EachLemmas.{Each-weaker, Each-filter, boundaries_within}
use Rattle.fancy_regex_desugar.specs.CorePatterns.{CorePattern, nothing, read, general_newline, check, continue, keep_out, fail, cat, alt, group, ahead, never, back, atomic, delegate, tail, repeat, backref, exists, conditional, absent, called}
use Rattle.fancy_regex_desugar.specs.Delegates.{first_end, first_end_until}
use Rattle.fancy_regex_desugar.specs.CoreWays.{passes}
use Rattle.fancy_regex_desugar.specs.Shapes.{StepsBackOnlyFirst}
use Rattle.fancy_regex_program.specs.Machine.{unset, match_char, match_newline, match_backref}
use Rattle.fancy_regex_program_laws.proofs.Denote.{RunPoint, Continuation, SuccessContinuation, Denotation, opens, backs, closes, drops_to, below, end_to, end_within, end_if, end_first, end_choice, end_pick, end_upto, end_loop, end_times, end_ends, end_seen, end_looked, end_look, end_absent, end_again, ending}
use Rattle.fancy_regex_program_laws.proofs.DelegatedWays.{ends_onward, ends_until_onward}
use Rattle.fancy_regex_program_laws.proofs.WaysOf.{Onward}

-- only what follows ways in that relation counts
abbrev pub Asks : (MatchState → MatchState → Type 0) → Denotation → Type 0
Asks R g = (w : MatchState) (k k' : SuccessContinuation) (x : Continuation) → ((v : MatchState) (y : Continuation) → R w v → k v y ≡ k' v y) → g w k x ≡ g w k' x

module _ (R : MatchState → MatchState → Type 0) where
  pub asks_to : (o : Option ℕ) (w : MatchState) → ((q : ℕ) → o ≡ Some q → R w (with_position w q)) → (k k' : SuccessContinuation) (x : Continuation) →
      ((v : MatchState) (y : Continuation) → R w v → k v y ≡ k' v y) → end_to o w k x ≡ end_to o w k' x
  asks_to None w there k k' x e = refl
  asks_to (Some q) w there k k' x e = e (with_position w q) x (there q refl)

  module _ (S T : MatchState → MatchState → Type 0) (joins : (u v w : MatchState) → R u v → S v w → T u w) where
    -- one after the other
    pub asks_both : (f g : Denotation) → Asks R f → Asks S g → Asks T (λ w k x. f w (λ v y. g v k y) x)
    asks_both f g hf hg w k k' x e = hf w (λ v y. g v k y) (λ v y. g v k' y) x (λ v y d. hg v k k' y (λ u z c. e u z (joins w v u d c)))

    pub asks_choice : (c a b : Denotation) → Asks R c → Asks S a → Asks T b → Asks T (end_choice c a b)
    asks_choice c a b hc ha hb w k k' x e =
        fun_ext (λ (at : RunPoint).
        ap (λ (y : Continuation). opens y at)
        (hc w (λ v y. drops_to at.height (a v k x)) (λ v y. drops_to at.height (a v k' x)) (backs (b w k x))
        (λ v y d. ap (drops_to at.height) (ha v k k' x (λ u z c. e u z (joins w v u d c))))
        ∙ ap (λ (y : Continuation). c w (λ v z. drops_to at.height (a v k' x)) (backs y)) (hb w k k' x e)))

  pub asks_alt : (a b : Denotation) → Asks R a → Asks R b → Asks R (λ w k x. opens (a w k (backs (b w k x))))
  asks_alt a b ha hb w k k' x e = ap opens (ha w k k' (backs (b w k x)) e ∙ ap (λ (y : Continuation). a w k' (backs y)) (hb w k k' x e))

  pub asks_first : (g : Denotation) → Asks R g → Asks R (end_first g)
  asks_first g h w k k' x e =
      fun_ext (λ (at : RunPoint).
      ap (λ (y : Continuation). y at) (h w (λ v y. drops_to at.height (k v x)) (λ v y. drops_to at.height (k' v x)) x (λ v y d. ap (drops_to at.height) (e v x d))))

both_ways : {A : Type 0} (b : Bool) (x x' y y' : A) → x ≡ x' → y ≡ y' → cond b x y ≡ cond b x' y'
both_ways true x x' y y' e d = e
both_ways false x x' y y' e d = d

-- the same way is no further back
here : (w : MatchState) → Onward w w
here w = omega arith

on_and_on : (u v w : MatchState) → Onward u v → Onward v w → Onward u w
on_and_on u v w d e = omega (arith, d, e)

onward_both : (f g : Denotation) → Asks Onward f → Asks Onward g → Asks Onward (λ w k x. f w (λ v y. g v k y) x)
onward_both f g hf hg = asks_both Onward Onward Onward on_and_on f g hf hg

onward_if : (b : Bool) (w : MatchState) (k k' : SuccessContinuation) (x : Continuation) → ((v : MatchState) (y : Continuation) → Onward w v → k v y ≡ k' v y) → end_if b w k x ≡ end_if b w k' x
onward_if true w k k' x e = e w x (here w)
onward_if false w k k' x e = refl

module _ (g : Denotation) (onward : Asks Onward g) where
  onward_pick : (greedy : Bool) (w : MatchState) (again again' k k' : SuccessContinuation) (x : Continuation) → ((v : MatchState) (y : Continuation) → Onward w v → again v y ≡ again' v y) →
      ((v : MatchState) (y : Continuation) → Onward w v → k v y ≡ k' v y) → end_pick greedy g w again k x ≡ end_pick greedy g w again' k' x
  onward_pick true w again again' k k' x d e =
      ap opens (onward w again again' (backs (k w x)) d ∙ ap (λ (y : Continuation). g w again' (backs y)) (e w x (here w)))
  onward_pick false w again again' k k' x d e =
      ap opens (e w (backs (g w again x)) (here w) ∙ ap (λ (y : Continuation). k' w (backs y)) (onward w again again' x d))

  onward_upto : (greedy : Bool) (n : ℕ) → Asks Onward (end_upto g greedy n)
  onward_upto greedy zero w k k' x e = e w x (here w)
  onward_upto greedy (suc n) w k k' x e =
      onward_pick greedy w (λ v y. end_upto g greedy n v k y) (λ v y. end_upto g greedy n v k' y) k k' x
      (λ v y d. onward_upto greedy n v k k' y (λ u z c. e u z (on_and_on w v u d c))) e

  onward_loop : (greedy : Bool) (n : ℕ) → Asks Onward (end_loop g greedy n)
  onward_loop greedy zero w k k' x e = refl
  onward_loop greedy (suc n) w k k' x e =
      onward_pick greedy w (λ v y. cond (v.position == w.position) (k v y) (end_loop g greedy n v k y)) (λ v y. cond (v.position == w.position) (k' v y) (end_loop g greedy n v k' y)) k k' x
      (λ v y d. both_ways (v.position == w.position) (k v y) (k' v y) (end_loop g greedy n v k y) (end_loop g greedy n v k' y) (e v y d)
      (onward_loop greedy n v k k' y (λ u z c. e u z (on_and_on w v u d c)))) e

  onward_times : (n : ℕ) (rest : Denotation) → Asks Onward rest → Asks Onward (end_times g n rest)
  onward_times zero rest h = h
  onward_times (suc n) rest h = onward_both g (end_times g n rest) onward (onward_times n rest h)

-- the places of an absent repeater
module _ (g : Denotation) (w : MatchState) (k k' : SuccessContinuation) (x : Continuation) (e : (v : MatchState) (y : Continuation) → Onward w v → k v y ≡ k' v y) where
  onward_ends : (qs : List ℕ) → Each (λ q. w.position ≤ q) qs → end_ends qs w k x ≡ end_ends qs w k' x
  onward_ends [] h = refl
  onward_ends (q ∷ []) h = e (with_position w q) x h.0
  onward_ends (q ∷ p ∷ ps) h =
      ap opens (e (with_position w q) (backs (end_ends (p ∷ ps) w k x)) h.0 ∙ ap (λ (y : Continuation). k' (with_position w q) (backs y)) (onward_ends (p ∷ ps) h.1))

  -- those below the limit, under the limit that was before
  onward_looked : (done : List ℕ) (outer : ℕ) (at : RunPoint) → Each (λ q. w.position ≤ q) done → end_looked done outer w k x at ≡ end_looked done outer w k' x at
  onward_looked done outer at d =
      ap (λ (y : Continuation). y (record { held = record { best_match = at.held.best_match; limit = outer }; height = at.height }))
      (onward_ends (below at.held.limit done) (Each-filter (λ q. w.position ≤ q) (λ q. nat_lt q at.held.limit) done d))

  onward_look : (qs done : List ℕ) (outer : ℕ) → Each (λ q. w.position ≤ q) qs → Each (λ q. w.position ≤ q) done → end_look g done qs outer w k x ≡ end_look g done qs outer w k' x
  onward_look [] done outer h d = fun_ext (λ (at : RunPoint). onward_looked done outer at d)
  onward_look (q ∷ qs) done outer h d = fun_ext (λ (at : RunPoint).
      both_ways (nat_le at.held.limit q) (end_looked done outer w k x at) (end_looked done outer w k' x at)
      (opens (g (with_position w q) end_seen (closes (end_look g (q ∷ done) qs outer w k x))) at) (opens (g (with_position w q) end_seen (closes (end_look g (q ∷ done) qs outer w k' x))) at)
      (onward_looked done outer at d)
      (ap (λ (y : Continuation). opens (g (with_position w q) end_seen (closes y)) at) (onward_look qs (q ∷ done) outer h.1 (h.0, d))))

  onward_absent : (qs : List ℕ) → Each (λ q. w.position ≤ q) qs → end_absent g qs w k x ≡ end_absent g qs w k' x
  onward_absent [] h = refl
  onward_absent (p ∷ ps) h = fun_ext (λ (at : RunPoint).
      ap (λ (y : Continuation). opens (g (with_position w p) end_seen (closes y)) (record { held = record { best_match = at.held.best_match; limit = unset }; height = at.height }))
      (onward_look ps (p ∷ []) at.held.limit h.1 (h.0, tt)))

module _ (s : Setting) (bound : Option ℕ) where
  -- one character is a step onward
  char_past : (test : ℕ → Bool) (p q : ℕ) → match_char s.text test p ≡ Some q → p ≤ q
  char_past test p q e = at (char_at s.text p) e
    where
      tested : (c : ℕ) (b : Bool) → cond b (Some (p + len_utf8 c)) None ≡ Some q → p ≤ q
      tested c true d = let same : p + len_utf8 c ≡ q = same_Some (p + len_utf8 c) q d in omega arith
      tested c false d = absurd (none-some q d)

      at : (o : Option ℕ) → (elim o [ None ↦ None | Some c ↦ cond (test c) (Some (p + len_utf8 c)) None ]) ≡ Some q → p ≤ q
      at None d = absurd (none-some q d)
      at (Some c) d = tested c (test c) d

  newline_past : (unicode : Bool) (p q : ℕ) → match_newline s unicode p ≡ Some q → p ≤ q
  newline_past unicode p q e = choose (is_before_byte s.text 13 p && is_before_byte s.text 10 (p + 1)) e
    where
      choose : (b : Bool) → cond b (Some (p + 2)) (match_char s.text (is_newline s unicode) p) ≡ Some q → p ≤ q
      choose true d = let same : p + 2 ≡ q = same_Some (p + 2) q d in omega arith
      choose false d = char_past (is_newline s unicode) p q d

  asks_again : (casei : Bool) (o : Option (ℕ × ℕ)) → Asks Onward (end_again s casei o)
  asks_again casei None w k k' x e = refl
  asks_again casei (Some pair) w k k' x e =
      let to = with_position w (w.position + (pair.1 - pair.0)) in
      both_ways (match_backref s casei pair.0 pair.1 w.position) (k to x) (k' to x) x x (e to x (omega arith)) refl

  asks_within : (end : ℕ → ℕ → Option ℕ) (g : Denotation) → Asks Onward g → ((stop p q : ℕ) → end stop p ≡ Some q → p ≤ q) → (o : Option ℕ) → Asks Onward (end_within o end g)
  asks_within end g h ends None w k k' x e = h w k k' x e
  asks_within end g h ends (Some stop) w k k' x e = asks_to Onward (end stop w.position) w (λ q d. ends stop w.position q d) k k' x e

  -- where no node goes back but in a look-around
  pub ending_onward : (p : CorePattern) → StepsBackOnlyFirst false p → Asks Onward (ending s bound p)
  ending_onward nothing o w k k' x e = e w x (here w)
  ending_onward (read leaf) o w k k' x e = asks_to Onward (match_char s.text (passes s leaf) w.position) w (λ q d. char_past (passes s leaf) w.position q d) k k' x e
  ending_onward (general_newline unicode) o w k k' x e = asks_to Onward (match_newline s unicode w.position) w (λ q d. newline_past unicode w.position q d) k k' x e
  ending_onward (check a) o w k k' x e = onward_if (holds s a w.position) w k k' x e
  ending_onward continue o w k k' x e = onward_if (is_some_and s.continue_at (λ g. g == w.position)) w k k' x e
  ending_onward keep_out o w k k' x e = e (record w { match_start = w.position }) x (here w)
  ending_onward fail o w k k' x e = refl
  ending_onward (cat a b) o w k k' x e = onward_both (ending s bound a) (ending s bound b) (ending_onward a o.0) (ending_onward b o.1) w k k' x e
  ending_onward (alt a b) o w k k' x e = asks_alt Onward (ending s bound a) (ending s bound b) (ending_onward a o.0) (ending_onward b o.1) w k k' x e
  ending_onward (group n a) o w k k' x e =
      ending_onward a o w (λ v y. k (set_pair n (w.position, v.position) v) y) (λ v y. k' (set_pair n (w.position, v.position) v) y) x
      (λ v y d. e (set_pair n (w.position, v.position) v) y d)
  ending_onward (ahead a) o w k k' x e =
      ap (λ (f : SuccessContinuation). ending s bound a w f x) (fun_ext (λ v. fun_ext (λ y. e (with_position v w.position) y (here w))))
  ending_onward (never a) o w k k' x e =
      fun_ext (λ (at : RunPoint). ap (λ (y : Continuation). opens (ending s bound a w (λ v z. drops_to at.height x) (backs y)) at) (e w x (here w)))
  ending_onward (back n) o w k k' x e = absurd cc
  ending_onward (atomic a) o w k k' x e = asks_first Onward (ending s bound a) (ending_onward a o) w k k' x e
  ending_onward (delegate t a) o w k k' x e = asks_to Onward (first_end s t w.position) w (λ q d. ends_onward s t w.position q d) k k' x e
  ending_onward (tail t a) o w k k' x e =
      asks_within (first_end_until s t) (ending s bound a) (ending_onward a o) (λ stop p q d. ends_until_onward s t stop p q d) bound w k k' x e
  ending_onward (repeat a lo None greedy) o w k k' x e =
      onward_times (ending s bound a) (ending_onward a o) lo (end_loop (ending s bound a) greedy (length s.text + 1))
      (onward_loop (ending s bound a) (ending_onward a o) greedy (length s.text + 1)) w k k' x e
  ending_onward (repeat a lo (Some hi) greedy) o w k k' x e =
      onward_times (ending s bound a) (ending_onward a o) lo (end_upto (ending s bound a) greedy (hi - lo))
      (onward_upto (ending s bound a) (ending_onward a o) greedy (hi - lo)) w k k' x e
  ending_onward (backref n casei) o w k k' x e = asks_again casei (pair_of w n) w k k' x e
  ending_onward (exists n) o w k k' x e = onward_if (is_some (pair_of w n)) w k k' x e
  ending_onward (conditional c a b) o w k k' x e =
      asks_choice Onward Onward Onward on_and_on (ending s bound c) (ending s bound a) (ending s bound b) (ending_onward c o.0) (ending_onward a o.1) (ending_onward b o.2) w k k' x e
  ending_onward (absent a) o w k k' x e =
      onward_absent (ending s bound a) w k k' x e (boundaries s.text w.position (length s.text))
      (Each-weaker _ _ (λ q h. h.0) _ (boundaries_within s.text w.position (length s.text)))
  ending_onward (called n a) o w k k' x e = ending_onward a o w k k' x e

  -- the loops
  pub onward_rest : (a : CorePattern) → StepsBackOnlyFirst false a → (lo : ℕ) (greedy : Bool) (n : ℕ) → Asks Onward (end_times (ending s bound a) lo (end_loop (ending s bound a) greedy n))
  onward_rest a o lo greedy n =
      onward_times (ending s bound a) (ending_onward a o) lo (end_loop (ending s bound a) greedy n) (onward_loop (ending s bound a) (ending_onward a o) greedy n)

  pub onward_rest_upto : (a : CorePattern) → StepsBackOnlyFirst false a → (lo : ℕ) (greedy : Bool) (n : ℕ) → Asks Onward (end_times (ending s bound a) lo (end_upto (ending s bound a) greedy n))
  onward_rest_upto a o lo greedy n =
      onward_times (ending s bound a) (ending_onward a o) lo (end_upto (ending s bound a) greedy n) (onward_upto (ending s bound a) (ending_onward a o) greedy n)
