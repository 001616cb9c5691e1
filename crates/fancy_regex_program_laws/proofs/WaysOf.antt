-- A trail's ways are the pattern's ways, in order, and it opens no more branches than the pattern has choices.
use Rattle.std.proofs.Common.{◌≡◌, ℕ, zero, suc, ◌+◌, ◌-◌, ◌<◌, ◌≤◌, Bool, true, false, ◌&&◌, List, [], ◌∷◌, ◌++◌, map, sum_by, Option, Some, None, refl, sym, ap, ◌∙◌, arith, cond, length}
use Rattle.std.specs.Prelude.{◌==◌, is_some}
use Rattle.std.specs.List.{flat_map}
use Rattle.std.specs.Char.{len_utf8}
use Rattle.std.proofs.Math.Path.{fun_ext}
use Rattle.std.proofs.lemmas.List.Sums.{sum_by-cons}
use Rattle.regex_hir.specs.Text.{char_at, is_some_and}
use Rattle.fancy_regex_meaning.specs.Positions.{position_before, is_before_byte}
use Rattle.fancy_regex_meaning.specs.WayLaws.{Each}
use Rattle.fancy_regex_meaning.specs.Choices.{due_choices, up_to_choices, loop_choices, branch_choices}
use Rattle.fancy_regex_meaning.specs.Ways as row
use Rattle.fancy_regex_meaning.specs.Ways.{MatchState, Moves, Setting, with_position, set_pair, pair_of, for_some, first_only, match_empty_if, is_none_of, character, prefer, due, up_to, loop, keep_only_pairs, holds}
use Rattle.fancy_regex_meaning.proofs.EachLemmas.{Each-weaker, Each-append, Each-map, Each-flat_map, Each-filter, Each-cond, Each-for_some, Each-reverse, boundaries_within}
use Rattle.fancy_regex_desugar.specs.CorePatterns.{CorePattern, nothing, read, general_newline, check, continue, keep_out, fail, cat, alt, group, ahead, never, back, atomic, delegate, tail, repeat, backref, exists, conditional, absent, called}
use Rattle.fancy_regex_desugar.specs.Delegates.{first_end, first_end_until}
use Rattle.fancy_regex_desugar.specs.CoreWays.{passes, end_ways, core_ways, core_choices}
use Rattle.fancy_regex_program.specs.Machine.{unset, match_char, match_newline, match_backref}
use Rattle.fancy_regex_desugar.specs.Shapes.{StepsBackOnlyFirst}
use Rattle.fancy_regex_program.specs.Shapes.{KeepsNothing, IsWritable}
use Rattle.fancy_regex_program_laws.proofs.ReadingOperations.{newline_way}
use Rattle.fancy_regex_program_laws.proofs.Trail.{Open, Close, At, Trail, Trails, spliced, states, opened, cut_first, trail_to, trail_within, trail_if, trail_pick, trail_upto, trail_loop, trail_times, trail_again, trail, states_append, opened_append}
use Rattle.fancy_regex_program_laws.proofs.DelegatedWays.{ends_onward, ends_until_onward}
use Rattle.fancy_regex_program_laws.proofs.AbsentWays.{states_absent, opened_absent}

states_spliced : (g : Trails) (es : Trail) → states (spliced g es) ≡ flat_map (λ w. states (g w)) (states es)
states_spliced g [] = refl
states_spliced g (Open ∷ es) = states_spliced g es
states_spliced g (Close ∷ es) = states_spliced g es
states_spliced g (At w ∷ es) = states_append (g w) (spliced g es) ∙ ap (λ l. states (g w) ++ l) (states_spliced g es)

-- the same with functions that agree
states_as : (g : Trails) (f : Moves) (es : Trail) → ((w : MatchState) → states (g w) ≡ f w) → states (spliced g es) ≡ flat_map f (states es)
states_as g f es h = states_spliced g es ∙ ap (λ (x : Moves). flat_map x (states es)) (fun_ext h)

states_map : (g : MatchState → MatchState) (es : Trail) → states (spliced (λ w. At (g w) ∷ []) es) ≡ map g (states es)
states_map g [] = refl
states_map g (Open ∷ es) = states_map g es
states_map g (Close ∷ es) = states_map g es
states_map g (At w ∷ es) = ap (λ l. g w ∷ l) (states_map g es)

states_atomic : (es : Trail) → states (cut_first (λ v. At v ∷ []) [] es) ≡ first_only (states es)
states_atomic [] = refl
states_atomic (Open ∷ es) = states_atomic es
states_atomic (Close ∷ es) = states_atomic es
states_atomic (At w ∷ es) = refl

states_never : (es : Trail) (w : MatchState) → states (cut_first (λ v. []) (At w ∷ []) es) ≡ match_empty_if (is_none_of (states es)) w
states_never [] w = refl
states_never (Open ∷ es) w = states_never es w
states_never (Close ∷ es) w = states_never es w
states_never (At v ∷ es) w = refl

states_choice : (a b : Trails) (es : Trail) (w : MatchState) → states (cut_first a (b w) es) ≡ row.conditional (states es) (λ v. states (a v)) (λ v. states (b v)) w
states_choice a b [] w = refl
states_choice a b (Open ∷ es) w = states_choice a b es w
states_choice a b (Close ∷ es) w = states_choice a b es w
states_choice a b (At v ∷ es) w = refl

states_pick : (greedy : Bool) (more : Trail) (w : MatchState) → states (trail_pick greedy more w) ≡ prefer greedy (states more) (w ∷ [])
states_pick true more w = states_append more (At w ∷ [])
states_pick false more w = refl

states_to : (o : Option ℕ) (w : MatchState) → states (trail_to o w) ≡ for_some (λ q. with_position w q ∷ []) o
states_to None w = refl
states_to (Some q) w = refl

states_within : (end : ℕ → ℕ → Option ℕ) (t : Trails) (f : Moves) (w : MatchState) → states (t w) ≡ f w → (bound : Option ℕ) →
    states (trail_within bound end t w) ≡ elim bound as (λ _. List MatchState) [ None ↦ f w | Some stop ↦ end_ways (end stop w.position) w ]
states_within end t f w h None = h
states_within end t f w h (Some stop) = states_to (end stop w.position) w

states_if : (b : Bool) (w : MatchState) → states (trail_if b w) ≡ match_empty_if b w
states_if true w = refl
states_if false w = refl

module _ (t : Trails) (f : Moves) (h : (w : MatchState) → states (t w) ≡ f w) where
  states_upto : (greedy : Bool) (n : ℕ) (w : MatchState) → states (trail_upto t greedy n w) ≡ up_to n greedy f w
  states_upto greedy zero w = refl
  states_upto greedy (suc n) w =
      states_pick greedy (spliced (trail_upto t greedy n) (t w)) w
      ∙ ap (λ l. prefer greedy l (w ∷ [])) (states_as (trail_upto t greedy n) (up_to n greedy f) (t w) (λ v. states_upto greedy n v) ∙ ap (flat_map (up_to n greedy f)) (h w))

  states_again : (b : Bool) (v : MatchState) (es : Trail) (ws : List MatchState) → states es ≡ ws → states (cond b (At v ∷ []) es) ≡ cond b (v ∷ []) ws
  states_again true v es ws e = refl
  states_again false v es ws e = e

  states_loop : (greedy : Bool) (n : ℕ) (w : MatchState) → states (trail_loop t greedy n w) ≡ loop n greedy f w
  states_loop greedy zero w = refl
  states_loop greedy (suc n) w =
      let g : Trails = λ v. cond (v.position == w.position) (At v ∷ []) (trail_loop t greedy n v) in
      let k : Moves = λ v. cond (v.position == w.position) (v ∷ []) (loop n greedy f v) in
      states_pick greedy (spliced g (t w)) w
      ∙ ap (λ l. prefer greedy l (w ∷ []))
      (states_as g k (t w) (λ v. states_again (v.position == w.position) v (trail_loop t greedy n v) (loop n greedy f v) (states_loop greedy n v)) ∙ ap (flat_map k) (h w))

  states_times : (n : ℕ) (after : Trails) (rest : Moves) → ((w : MatchState) → states (after w) ≡ rest w) → (w : MatchState) → states (trail_times t n after w) ≡ due n f rest w
  states_times zero after rest e w = e w
  states_times (suc n) after rest e w =
      states_as (trail_times t n after) (due n f rest) (t w) (λ v. states_times n after rest e v) ∙ ap (flat_map (due n f rest)) (h w)

opened_spliced : (g : Trails) (c : MatchState → ℕ) (es : Trail) → ((w : MatchState) → opened (g w) ≤ c w) → opened (spliced g es) ≤ opened es + sum_by c (states es)
opened_spliced g c [] h = omega arith
opened_spliced g c (Open ∷ es) h = omega (arith, opened_spliced g c es h)
opened_spliced g c (Close ∷ es) h = omega (arith, opened_spliced g c es h)
opened_spliced g c (At w ∷ es) h = omega (arith, opened_append (g w) (spliced g es), opened_spliced g c es h, h w, sum_by-cons c w (states es))

sum_by_none : (xs : List MatchState) → sum_by (λ w. 0) xs ≡ 0
sum_by_none [] = refl
sum_by_none (x ∷ xs) = sum_by_none xs

opened_still : (g : Trails) (es : Trail) → ((w : MatchState) → opened (g w) ≤ 0) → opened (spliced g es) ≤ opened es
opened_still g es h = omega (arith, opened_spliced g (λ w. 0) es h, sum_by_none (states es))

opened_first : (g : Trails) (other : Trail) (n : ℕ) (es : Trail) → ((w : MatchState) → opened (g w) ≤ n) → opened other ≤ n → opened (cut_first g other es) ≤ n + opened es
opened_first g other n [] h o = omega (arith, o)
opened_first g other n (Open ∷ es) h o = omega (arith, opened_first g other n es h o)
opened_first g other n (Close ∷ es) h o = omega (arith, opened_first g other n es h o)
opened_first g other n (At w ∷ es) h o = omega (arith, h w)

opened_choice : (a b : Trails) (ca cb : MatchState → ℕ) (es : Trail) (w : MatchState) → ((v : MatchState) → opened (a v) ≤ ca v) → opened (b w) ≤ cb w →
    opened (cut_first a (b w) es) ≤ opened es + branch_choices (states es) ca cb w
opened_choice a b ca cb [] w h k = omega (arith, k)
opened_choice a b ca cb (Open ∷ es) w h k = omega (arith, opened_choice a b ca cb es w h k)
opened_choice a b ca cb (Close ∷ es) w h k = omega (arith, opened_choice a b ca cb es w h k)
opened_choice a b ca cb (At v ∷ es) w h k = omega (arith, h v)

opened_pick : (greedy : Bool) (more : Trail) (w : MatchState) → opened (trail_pick greedy more w) ≤ 1 + opened more
opened_pick true more w = omega (arith, opened_append more (At w ∷ []))
opened_pick false more w = omega arith

opened_to : (o : Option ℕ) (w : MatchState) → opened (trail_to o w) ≤ 0
opened_to None w = omega arith
opened_to (Some q) w = omega arith

opened_within : (end : ℕ → ℕ → Option ℕ) (t : Trails) (w : MatchState) (n : ℕ) → opened (t w) ≤ n → (bound : Option ℕ) → opened (trail_within bound end t w) ≤ n
opened_within end t w n h None = h
opened_within end t w n h (Some stop) = omega (arith, opened_to (end stop w.position) w)

opened_if : (b : Bool) (w : MatchState) → opened (trail_if b w) ≤ 0
opened_if true w = omega arith
opened_if false w = omega arith

module _ (t : Trails) (f : Moves) (h : (w : MatchState) → states (t w) ≡ f w) (c : MatchState → ℕ) (most : (w : MatchState) → opened (t w) ≤ c w) where
  opened_over : (g : Trails) (d : MatchState → ℕ) (w : MatchState) → ((v : MatchState) → opened (g v) ≤ d v) → opened (spliced g (t w)) ≤ c w + sum_by d (f w)
  opened_over g d w e = omega (arith, opened_spliced g d (t w) e, most w, ap (sum_by d) (h w))

  opened_upto : (greedy : Bool) (n : ℕ) (w : MatchState) → opened (trail_upto t greedy n w) ≤ up_to_choices n f c w
  opened_upto greedy zero w = omega arith
  opened_upto greedy (suc n) w =
      omega (arith, opened_pick greedy (spliced (trail_upto t greedy n) (t w)) w, opened_over (trail_upto t greedy n) (up_to_choices n f c) w (λ v. opened_upto greedy n v))

  opened_again : (b : Bool) (v : MatchState) (es : Trail) (n : ℕ) → opened es ≤ n → opened (cond b (At v ∷ []) es) ≤ cond b 0 n
  opened_again true v es n e = omega arith
  opened_again false v es n e = e

  opened_loop : (greedy : Bool) (n : ℕ) (w : MatchState) → opened (trail_loop t greedy n w) ≤ loop_choices n f c w
  opened_loop greedy zero w = omega arith
  opened_loop greedy (suc n) w =
      let g : Trails = λ v. cond (v.position == w.position) (At v ∷ []) (trail_loop t greedy n v) in
      let d : MatchState → ℕ = λ v. cond (v.position == w.position) 0 (loop_choices n f c v) in
      omega (arith, opened_pick greedy (spliced g (t w)) w, opened_over g d w (λ v. opened_again (v.position == w.position) v (trail_loop t greedy n v) (loop_choices n f c v) (opened_loop greedy n v)))

  opened_times : (n : ℕ) (after : Trails) (rest : MatchState → ℕ) → ((w : MatchState) → opened (after w) ≤ rest w) → (w : MatchState) → opened (trail_times t n after w) ≤ due_choices n f c rest w
  opened_times zero after rest e w = e w
  opened_times (suc n) after rest e w = opened_over (trail_times t n after) (due_choices n f c rest) w (λ v. opened_times n after rest e v)

each_within : (P : MatchState → Type 0) (ws : List MatchState) (vs : ℕ → List MatchState) (bound : Option ℕ) → Each P ws → ((stop : ℕ) → Each P (vs stop)) →
    Each P (elim bound as (λ _. List MatchState) [ None ↦ ws | Some stop ↦ vs stop ])
each_within P ws vs None h k = h
each_within P ws vs (Some stop) h k = k stop

first_kept : (P : MatchState → Type 0) (ws : List MatchState) → Each P ws → Each P (first_only ws)
first_kept P [] h = h
first_kept P (w ∷ ws) h = (h.0, tt)

each_at : (P : MatchState → Type 0) (f : ℕ → MatchState) → ((q : ℕ) → P (f q)) → (qs : List ℕ) → Each P (map f qs)
each_at P f h [] = tt
each_at P f h (q ∷ qs) = (h q, each_at P f h qs)

-- what goes on in steps, each of which keeps to a relation
record Follows (R : MatchState → MatchState → Type 0) : Type 0 where
  stays : (w : MatchState) → R w w
  joins : (u v w : MatchState) → R u v → R v w → R u w

module _ (R : MatchState → MatchState → Type 0) (follows : Follows R) where
  abbrev AllKeep : Moves → Type 0
  AllKeep f = (w : MatchState) → Each (R w) (f w)

  keep_over : (f g : Moves) → AllKeep f → AllKeep g → AllKeep (λ w. flat_map g (f w))
  keep_over f g hf hg w = Each-flat_map (R w) (R w) g (λ v e. Each-weaker (R v) (R w) (λ u d. follows.joins w v u e d) (g v) (hg v)) (f w) (hf w)

  keep_prefer : (w : MatchState) (greedy : Bool) (ws : List MatchState) → Each (R w) ws → Each (R w) (prefer greedy ws (w ∷ []))
  keep_prefer w true ws h = Each-append (R w) ws (w ∷ []) h (follows.stays w, tt)
  keep_prefer w false ws h = (follows.stays w, h)

  keep_due : (n : ℕ) (f rest : Moves) → AllKeep f → AllKeep rest → AllKeep (due n f rest)
  keep_due zero f rest hf hr w = hr w
  keep_due (suc n) f rest hf hr w = keep_over f (due n f rest) hf (keep_due n f rest hf hr) w

  keep_up_to : (n : ℕ) (greedy : Bool) (f : Moves) → AllKeep f → AllKeep (up_to n greedy f)
  keep_up_to zero greedy f hf w = (follows.stays w, tt)
  keep_up_to (suc n) greedy f hf w = keep_prefer w greedy (flat_map (up_to n greedy f) (f w)) (keep_over f (up_to n greedy f) hf (keep_up_to n greedy f hf) w)

  keep_loop : (n : ℕ) (greedy : Bool) (f : Moves) → AllKeep f → AllKeep (loop n greedy f)
  keep_loop zero greedy f hf w = tt
  keep_loop (suc n) greedy f hf w =
      let g : Moves = λ v. cond (v.position == w.position) (v ∷ []) (loop n greedy f v) in
      keep_prefer w greedy (flat_map g (f w))
      (keep_over f g hf (λ v. Each-cond (R v) (v.position == w.position) (v ∷ []) (loop n greedy f v) (follows.stays v, tt) (keep_loop n greedy f hf v)) w)

  keep_if : (b : Bool) (w : MatchState) → Each (R w) (match_empty_if b w)
  keep_if b w = Each-cond (R w) b (w ∷ []) [] (follows.stays w, tt) tt

  keep_choice : (ws : List MatchState) (a b : Moves) (w : MatchState) → Each (R w) ws → AllKeep a → AllKeep b → Each (R w) (row.conditional ws a b w)
  keep_choice [] a b w h ha hb = hb w
  keep_choice (v ∷ vs) a b w h ha hb = Each-weaker (R v) (R w) (λ u d. follows.joins w v u h.0 d) (a v) (ha v)

-- the match start is as it was
abbrev Kept : MatchState → MatchState → Type 0
Kept w v = v.match_start ≡ w.match_start

follows_kept : Follows Kept
follows_kept = record { stays = λ w. refl; joins = λ u v w e d. d ∙ e }

-- no place goes back
abbrev pub Onward : MatchState → MatchState → Type 0
Onward w v = w.position ≤ v.position

follows_onward : Follows Onward
follows_onward = record { stays = λ w. omega arith; joins = λ u v w e d. omega (arith, e, d) }

abbrev AllKept : Moves → Type 0
AllKept = AllKeep Kept follows_kept

module _ (s : Setting) (bound : Option ℕ) where
  kept_char : (test : ℕ → Bool) (w : MatchState) → Each (Kept w) (character s test w)
  kept_char test w =
      Each-for_some (Kept w) (λ c. cond (test c) (with_position w (w.position + len_utf8 c) ∷ []) []) (char_at s.text w.position)
      (λ c e. Each-cond (Kept w) (test c) (with_position w (w.position + len_utf8 c) ∷ []) [] (refl, tt) tt)

  kept_to : (o : Option ℕ) (w : MatchState) → Each (Kept w) (for_some (λ q. with_position w q ∷ []) o)
  kept_to None w = tt
  kept_to (Some q) w = (refl, tt)

  kept_again : (casei : Bool) (o : Option (ℕ × ℕ)) (w : MatchState) → Each (Kept w) (row.backref s casei o w)
  kept_again casei None w = tt
  kept_again casei (Some pair) w =
      Each-cond (Kept w) (match_backref s casei pair.0 pair.1 w.position) (with_position w (w.position + (pair.1 - pair.0)) ∷ []) [] (refl, tt) tt

  onward_to : (o : Option ℕ) (w : MatchState) → ((q : ℕ) → o ≡ Some q → w.position ≤ q) → Each (Onward w) (for_some (λ q. with_position w q ∷ []) o)
  onward_to None w h = tt
  onward_to (Some q) w h = (h q refl, tt)

  keeps : (p : CorePattern) → KeepsNothing p → AllKept (core_ways s bound p)
  unfolding core_ways
  keeps nothing k w = (refl, tt)
  keeps (read leaf) k w = kept_char (passes s leaf) w
  keeps (general_newline unicode) k w =
      Each-cond (Kept w) (is_before_byte s.text 13 w.position && is_before_byte s.text 10 (w.position + 1)) (with_position w (w.position + 2) ∷ []) (character s (row.is_newline s unicode) w) (refl, tt) (kept_char (row.is_newline s unicode) w)
  keeps (check a) k w = keep_if Kept follows_kept (holds s a w.position) w
  keeps continue k w = keep_if Kept follows_kept (is_some_and s.continue_at (λ g. g == w.position)) w
  keeps keep_out k w = absurd k
  keeps fail k w = tt
  keeps (cat a b) k w = keep_over Kept follows_kept (core_ways s bound a) (core_ways s bound b) (keeps a k.0) (keeps b k.1) w
  keeps (alt a b) k w = Each-append (Kept w) (core_ways s bound a w) (core_ways s bound b w) (keeps a k.0 w) (keeps b k.1 w)
  keeps (group n a) k w = Each-map (Kept w) (Kept w) (λ v. set_pair n (w.position, v.position) v) (λ v e. e) (core_ways s bound a w) (keeps a k w)
  keeps (ahead a) k w = each_way (λ v. record w { pairs = v.pairs }) (λ v. refl) (core_ways s bound a w)
    where
      each_way : (f : MatchState → MatchState) → ((v : MatchState) → Kept w (f v)) → (vs : List MatchState) → Each (Kept w) (map f vs)
      each_way f h [] = tt
      each_way f h (v ∷ vs) = (h v, each_way f h vs)
  keeps (never a) k w = keep_if Kept follows_kept (is_none_of (core_ways s bound a w)) w
  keeps (back n) k w = kept_to (position_before s.text n w.position) w
  keeps (atomic a) k w = first_kept (Kept w) (core_ways s bound a w) (keeps a k w)
  keeps (delegate t a) k w = kept_to (first_end s t w.position) w
  keeps (tail t a) k w = each_within (Kept w) (core_ways s bound a w) (λ stop. end_ways (first_end_until s t stop w.position) w) bound (keeps a k w)
      (λ stop. kept_to (first_end_until s t stop w.position) w)
  keeps (repeat a lo None greedy) k w = keep_due Kept follows_kept lo (core_ways s bound a) (loop (length s.text + 1) greedy (core_ways s bound a)) (keeps a k) (keep_loop Kept follows_kept (length s.text + 1) greedy (core_ways s bound a) (keeps a k)) w
  keeps (repeat a lo (Some hi) greedy) k w = keep_due Kept follows_kept lo (core_ways s bound a) (up_to (hi - lo) greedy (core_ways s bound a)) (keeps a k) (keep_up_to Kept follows_kept (hi - lo) greedy (core_ways s bound a) (keeps a k)) w
  keeps (backref n casei) k w = kept_again casei (pair_of w n) w
  keeps (exists n) k w = keep_if Kept follows_kept (is_some (pair_of w n)) w
  keeps (conditional c a b) k w = keep_choice Kept follows_kept (core_ways s bound c w) (core_ways s bound a) (core_ways s bound b) w (keeps c k.0 w) (keeps a k.1) (keeps b k.2)
  keeps (absent a) k w = each_at (Kept w) (with_position w) (λ q. refl) _
  keeps (called n a) k w = keeps a k w

  onward_char : (test : ℕ → Bool) (w : MatchState) → Each (Onward w) (character s test w)
  onward_char test w =
      Each-for_some (Onward w) (λ c. cond (test c) (with_position w (w.position + len_utf8 c) ∷ []) []) (char_at s.text w.position)
      (λ c e. Each-cond (Onward w) (test c) (with_position w (w.position + len_utf8 c) ∷ []) [] (omega arith, tt) tt)

  onward_again : (casei : Bool) (o : Option (ℕ × ℕ)) (w : MatchState) → Each (Onward w) (row.backref s casei o w)
  onward_again casei None w = tt
  onward_again casei (Some pair) w =
      Each-cond (Onward w) (match_backref s casei pair.0 pair.1 w.position) (with_position w (w.position + (pair.1 - pair.0)) ∷ []) [] (omega arith, tt) tt

  onward_places : (w : MatchState) (qs : List ℕ) → Each (λ q. w.position ≤ q) qs → Each (Onward w) (map (with_position w) qs)
  onward_places w [] h = tt
  onward_places w (q ∷ qs) h = (h.0, onward_places w qs h.1)

  onward_alone : (w : MatchState) (vs : List MatchState) → Each (Onward w) (keep_only_pairs w vs)
  onward_alone w [] = tt
  onward_alone w (v ∷ vs) = (omega arith, onward_alone w vs)

  -- where no node goes back but in a look-around, every way leads onward
  leads_onward : (p : CorePattern) → StepsBackOnlyFirst false p → AllKeep Onward follows_onward (core_ways s bound p)
  unfolding core_ways
  leads_onward nothing k w = (omega arith, tt)
  leads_onward (read leaf) k w = onward_char (passes s leaf) w
  leads_onward (general_newline unicode) k w =
      Each-cond (Onward w) (is_before_byte s.text 13 w.position && is_before_byte s.text 10 (w.position + 1)) (with_position w (w.position + 2) ∷ []) (character s (row.is_newline s unicode) w) (omega arith, tt) (onward_char (row.is_newline s unicode) w)
  leads_onward (check a) k w = keep_if Onward follows_onward (holds s a w.position) w
  leads_onward continue k w = keep_if Onward follows_onward (is_some_and s.continue_at (λ g. g == w.position)) w
  leads_onward keep_out k w = (omega arith, tt)
  leads_onward fail k w = tt
  leads_onward (cat a b) k w = keep_over Onward follows_onward (core_ways s bound a) (core_ways s bound b) (leads_onward a k.0) (leads_onward b k.1) w
  leads_onward (alt a b) k w = Each-append (Onward w) (core_ways s bound a w) (core_ways s bound b w) (leads_onward a k.0 w) (leads_onward b k.1 w)
  leads_onward (group n a) k w = Each-map (Onward w) (Onward w) (λ v. set_pair n (w.position, v.position) v) (λ v e. e) (core_ways s bound a w) (leads_onward a k w)
  leads_onward (ahead a) k w = onward_alone w (core_ways s bound a w)
  leads_onward (never a) k w = keep_if Onward follows_onward (is_none_of (core_ways s bound a w)) w
  leads_onward (back n) k w = absurd cc
  leads_onward (atomic a) k w = first_kept (Onward w) (core_ways s bound a w) (leads_onward a k w)
  leads_onward (delegate t a) k w = onward_to (first_end s t w.position) w (λ q e. ends_onward s t w.position q e)
  leads_onward (tail t a) k w = each_within (Onward w) (core_ways s bound a w) (λ stop. end_ways (first_end_until s t stop w.position) w) bound (leads_onward a k w)
      (λ stop. onward_to (first_end_until s t stop w.position) w (λ q e. ends_until_onward s t stop w.position q e))
  leads_onward (repeat a lo None greedy) k w = keep_due Onward follows_onward lo (core_ways s bound a) (loop (length s.text + 1) greedy (core_ways s bound a)) (leads_onward a k) (keep_loop Onward follows_onward (length s.text + 1) greedy (core_ways s bound a) (leads_onward a k)) w
  leads_onward (repeat a lo (Some hi) greedy) k w = keep_due Onward follows_onward lo (core_ways s bound a) (up_to (hi - lo) greedy (core_ways s bound a)) (leads_onward a k) (keep_up_to Onward follows_onward (hi - lo) greedy (core_ways s bound a) (leads_onward a k)) w
  leads_onward (backref n casei) k w = onward_again casei (pair_of w n) w
  leads_onward (exists n) k w = keep_if Onward follows_onward (is_some (pair_of w n)) w
  leads_onward (conditional c a b) k w = keep_choice Onward follows_onward (core_ways s bound c w) (core_ways s bound a) (core_ways s bound b) w (leads_onward c k.0 w) (leads_onward a k.1) (leads_onward b k.2)
  leads_onward (absent a) k w =
      onward_places w _ (Each-filter _ (row.is_free s (core_ways s bound a) w) _ (Each-reverse _ _ (Each-weaker _ _ (λ q h. h.0) _ (boundaries_within s.text w.position (length s.text)))))
  leads_onward (called n a) k w = leads_onward a k w

  -- the place is restored, and the start that was kept never went
  restored : (w : MatchState) (vs : List MatchState) → Each (Kept w) vs → map (λ v. with_position v w.position) vs ≡ keep_only_pairs w vs
  restored w [] h = refl
  restored w (v ∷ vs) h =
      ap (λ (l : List MatchState). record { position = w.position; pairs = v.pairs; match_start = v.match_start } ∷ l) (restored w vs h.1)
      ∙ ap (λ k. record { position = w.position; pairs = v.pairs; match_start = k } ∷ keep_only_pairs w vs) h.0

  states_char : (test : ℕ → Bool) (w : MatchState) → states (trail_to (match_char s.text test w.position) w) ≡ character s test w
  states_char test w = at (char_at s.text w.position)
    where
      tested : (c : ℕ) (b : Bool) → states (trail_to (cond b (Some (w.position + len_utf8 c)) None) w) ≡ cond b (with_position w (w.position + len_utf8 c) ∷ []) []
      tested c true = refl
      tested c false = refl

      at : (o : Option ℕ) → states (trail_to (elim o [ None ↦ None | Some c ↦ cond (test c) (Some (w.position + len_utf8 c)) None ]) w)
          ≡ for_some (λ c. cond (test c) (with_position w (w.position + len_utf8 c) ∷ []) []) o
      at None = refl
      at (Some c) = tested c (test c)

  states_backref : (casei : Bool) (o : Option (ℕ × ℕ)) (w : MatchState) → states (trail_again s casei o w) ≡ row.backref s casei o w
  states_backref casei None w = refl
  states_backref casei (Some pair) w = states_if (match_backref s casei pair.0 pair.1 w.position) (with_position w (w.position + (pair.1 - pair.0)))

module _ (s : Setting) (bound : Option ℕ) (small : length s.text < unset) where
  pub states_trail : (first end : ℕ) (p : CorePattern) → IsWritable first end p → (w : MatchState) → states (trail s bound p w) ≡ core_ways s bound p w
  unfolding core_ways
  states_trail first end nothing ok w = refl
  states_trail first end (read leaf) ok w = states_char s bound (passes s leaf) w
  states_trail first end (general_newline unicode) ok w = states_to (match_newline s unicode w.position) w ∙ sym (newline_way s unicode w)
  states_trail first end (check a) ok w = states_if (holds s a w.position) w
  states_trail first end continue ok w = states_if (is_some_and s.continue_at (λ g. g == w.position)) w
  states_trail first end keep_out ok w = refl
  states_trail first end fail ok w = refl
  states_trail first end (cat a b) ok w =
      states_as (trail s bound b) (core_ways s bound b) (trail s bound a w) (λ v. states_trail first end b ok.1 v) ∙ ap (flat_map (core_ways s bound b)) (states_trail first end a ok.0 w)
  states_trail first end (alt a b) ok w =
      states_append (trail s bound a w) (trail s bound b w)
      ∙ ap (λ l. l ++ states (trail s bound b w)) (states_trail first end a ok.0 w)
      ∙ ap (λ l. core_ways s bound a w ++ l) (states_trail first end b ok.1 w)
  states_trail first end (group n a) ok w =
      states_map (λ v. set_pair n (w.position, v.position) v) (trail s bound a w) ∙ ap (map (λ v. set_pair n (w.position, v.position) v)) (states_trail first end a ok.2 w)
  states_trail first end (ahead a) ok w =
      states_map (λ v. with_position v w.position) (trail s bound a w) ∙ ap (map (λ v. with_position v w.position)) (states_trail first end a ok.1 w)
      ∙ restored s bound w (core_ways s bound a w) (keeps s bound a ok.0 w)
  states_trail first end (never a) ok w = states_never (trail s bound a w) w ∙ ap (λ l. match_empty_if (is_none_of l) w) (states_trail first end a ok w)
  states_trail first end (back n) ok w = states_to (position_before s.text n w.position) w
  states_trail first end (atomic a) ok w = states_atomic (trail s bound a w) ∙ ap first_only (states_trail first end a ok w)
  states_trail first end (delegate t a) ok w = states_to (first_end s t w.position) w
  states_trail first end (tail t a) ok w =
      states_within (first_end_until s t) (trail s bound a) (core_ways s bound a) w (states_trail first end a ok w) bound
  states_trail first end (repeat a lo None greedy) ok w =
      states_times (trail s bound a) (core_ways s bound a) (λ v. states_trail first end a ok.1 v) lo (trail_loop (trail s bound a) greedy (length s.text + 1)) (loop (length s.text + 1) greedy (core_ways s bound a))
      (λ v. states_loop (trail s bound a) (core_ways s bound a) (λ u. states_trail first end a ok.1 u) greedy (length s.text + 1) v) w
  states_trail first end (repeat a lo (Some hi) greedy) ok w =
      states_times (trail s bound a) (core_ways s bound a) (λ v. states_trail first end a ok.1 v) lo (trail_upto (trail s bound a) greedy (hi - lo)) (up_to (hi - lo) greedy (core_ways s bound a))
      (λ v. states_upto (trail s bound a) (core_ways s bound a) (λ u. states_trail first end a ok.1 u) greedy (hi - lo) v) w
  states_trail first end (backref n casei) ok w = states_backref s bound casei (pair_of w n) w
  states_trail first end (exists n) ok w = states_if (is_some (pair_of w n)) w
  states_trail first end (conditional c a b) ok w =
      states_choice (trail s bound a) (trail s bound b) (trail s bound c w) w
      ∙ ap (λ l. row.conditional l (λ v. states (trail s bound a v)) (λ v. states (trail s bound b v)) w) (states_trail first end c ok.0 w)
      ∙ ap (λ (f : Moves). row.conditional (core_ways s bound c w) f (λ v. states (trail s bound b v)) w) (fun_ext (λ v. states_trail first end a ok.1 v))
      ∙ ap (λ (f : Moves). row.conditional (core_ways s bound c w) (core_ways s bound a) f w) (fun_ext (λ v. states_trail first end b ok.2 v))
  states_trail first end (absent a) ok w =
      states_absent s small (trail s bound a) (core_ways s bound a) (λ v. states_trail first end a ok.1 v) (leads_onward s bound a ok.0) w
  states_trail first end (called n a) ok w = states_trail first end a ok w

  opened_backref : (casei : Bool) (o : Option (ℕ × ℕ)) (w : MatchState) → opened (trail_again s casei o w) ≤ 0
  opened_backref casei None w = omega arith
  opened_backref casei (Some pair) w = opened_if (match_backref s casei pair.0 pair.1 w.position) (with_position w (w.position + (pair.1 - pair.0)))

  pub opened_trail : (first end : ℕ) (p : CorePattern) → IsWritable first end p → (w : MatchState) → opened (trail s bound p w) ≤ core_choices s bound p w
  unfolding core_choices
  opened_trail first end nothing ok w = omega arith
  opened_trail first end (read leaf) ok w = opened_to (match_char s.text (passes s leaf) w.position) w
  opened_trail first end (general_newline unicode) ok w = omega (arith, opened_to (match_newline s unicode w.position) w)
  opened_trail first end (check a) ok w = opened_if (holds s a w.position) w
  opened_trail first end continue ok w = opened_if (is_some_and s.continue_at (λ g. g == w.position)) w
  opened_trail first end keep_out ok w = omega arith
  opened_trail first end fail ok w = omega arith
  opened_trail first end (cat a b) ok w =
      opened_over (trail s bound a) (core_ways s bound a) (λ v. states_trail first end a ok.0 v) (core_choices s bound a) (λ v. opened_trail first end a ok.0 v) (trail s bound b) (core_choices s bound b) w (λ v. opened_trail first end b ok.1 v)
  opened_trail first end (alt a b) ok w = omega (arith, opened_append (trail s bound a w) (trail s bound b w), opened_trail first end a ok.0 w, opened_trail first end b ok.1 w)
  opened_trail first end (group n a) ok w =
      omega (arith, opened_still (λ v. At (set_pair n (w.position, v.position) v) ∷ []) (trail s bound a w) (λ v. omega arith), opened_trail first end a ok.2 w)
  opened_trail first end (ahead a) ok w = omega (arith, opened_still (λ v. At (with_position v w.position) ∷ []) (trail s bound a w) (λ v. omega arith), opened_trail first end a ok.1 w)
  opened_trail first end (never a) ok w = omega (arith, opened_first (λ v. []) (At w ∷ []) 0 (trail s bound a w) (λ v. omega arith) (omega arith), opened_trail first end a ok w)
  opened_trail first end (back n) ok w = opened_to (position_before s.text n w.position) w
  opened_trail first end (atomic a) ok w = omega (arith, opened_first (λ v. At v ∷ []) [] 0 (trail s bound a w) (λ v. omega arith) (omega arith), opened_trail first end a ok w)
  opened_trail first end (delegate t a) ok w = omega (arith, opened_to (first_end s t w.position) w)
  opened_trail first end (tail t a) ok w =
      opened_within (first_end_until s t) (trail s bound a) w (core_choices s bound a w) (opened_trail first end a ok w) bound
  opened_trail first end (repeat a lo None greedy) ok w =
      opened_times (trail s bound a) (core_ways s bound a) (λ v. states_trail first end a ok.1 v) (core_choices s bound a) (λ v. opened_trail first end a ok.1 v) lo (trail_loop (trail s bound a) greedy (length s.text + 1))
      (loop_choices (length s.text + 1) (core_ways s bound a) (core_choices s bound a))
      (λ v. opened_loop (trail s bound a) (core_ways s bound a) (λ u. states_trail first end a ok.1 u) (core_choices s bound a) (λ u. opened_trail first end a ok.1 u) greedy (length s.text + 1) v) w
  opened_trail first end (repeat a lo (Some hi) greedy) ok w =
      opened_times (trail s bound a) (core_ways s bound a) (λ v. states_trail first end a ok.1 v) (core_choices s bound a) (λ v. opened_trail first end a ok.1 v) lo (trail_upto (trail s bound a) greedy (hi - lo))
      (up_to_choices (hi - lo) (core_ways s bound a) (core_choices s bound a))
      (λ v. opened_upto (trail s bound a) (core_ways s bound a) (λ u. states_trail first end a ok.1 u) (core_choices s bound a) (λ u. opened_trail first end a ok.1 u) greedy (hi - lo) v) w
  opened_trail first end (backref n casei) ok w = opened_backref casei (pair_of w n) w
  opened_trail first end (exists n) ok w = opened_if (is_some (pair_of w n)) w
  opened_trail first end (conditional c a b) ok w =
      omega (
        arith,
        opened_choice (trail s bound a) (trail s bound b) (core_choices s bound a) (core_choices s bound b) (trail s bound c w) w (λ v. opened_trail first end a ok.1 v) (opened_trail first end b ok.2 w),
        opened_trail first end c ok.0 w,
        ap (λ l. branch_choices l (core_choices s bound a) (core_choices s bound b) w) (states_trail first end c ok.0 w),
      )
  opened_trail first end (absent a) ok w = opened_absent s (trail s bound a) (core_choices s bound a) (λ v. opened_trail first end a ok.1 v) w
  opened_trail first end (called n a) ok w = opened_trail first end a ok w
