-- All that a search of a pattern does, in order: branches that open, and ways.
use Rattle.std.proofs.Common.{◌≡◌, ℕ, zero, suc, ◌+◌, ◌-◌, ◌≤◌, Bool, true, false, List, [], ◌∷◌, ◌++◌, Option, Some, None, refl, sym, ap, ◌∙◌, cond, length, arith}
use Rattle.std.specs.Prelude.{◌==◌, is_some, nat_le}
use Rattle.regex_hir.specs.Text.{is_some_and}
use Rattle.fancy_regex_meaning.specs.Positions.{position_before, boundaries}
use Rattle.fancy_regex_meaning.specs.Ways.{MatchState, Setting, with_position, set_pair, pair_of, holds}
use Rattle.fancy_regex_desugar.specs.CorePatterns.{CorePattern, nothing, read, general_newline, check, continue, keep_out, fail, cat, alt, group, ahead, never, back, atomic, delegate, tail, repeat, backref, exists, conditional, absent, called}
use Rattle.fancy_regex_desugar.specs.Delegates.{first_end, first_end_until}
use Rattle.fancy_regex_desugar.specs.CoreWays.{passes}
use Rattle.fancy_regex_program.specs.Machine.{unset, lower, match_char, match_newline, match_backref}
use Rattle.fancy_regex_program_laws.specs.ProgramLaws.{FoundMatch}
use Rattle.fancy_regex_program_laws.proofs.Denote.{Outcome, PersistentState, RunPoint, Continuation, SuccessContinuation, Denotation, at_height, one_lower, opens, backs, closes, drops_to, below, end_ends, end_seen, end_look, end_absent, end_to, end_within, end_first, end_never, end_choice, end_pick, end_upto, end_loop, end_times, end_again, ending}

pub data Event : Type 0 where
  Open : Event
  -- the branch that was opened last is taken up again, and none was gone back to
  Close : Event
  At : MatchState → Event

abbrev pub Trail : Type 0
Trail = List Event

abbrev pub Trails : Type 0
Trails = MatchState → Trail

-- What a trail ends as: of the outcome of a run, its answer, and how many branches it opens.
pub record TrailOutcome : Type 0 where
  pub answer : Option FoundMatch
  pub branches : ℕ
  pub claimed : Bool

abbrev pub TrailContinuation : Type 0
TrailContinuation = PersistentState → TrailOutcome

abbrev pub TrailSuccess : Type 0
TrailSuccess = MatchState → TrailContinuation → TrailContinuation

abbrev pub one_more : TrailOutcome → TrailOutcome
one_more t = record { answer = t.answer; branches = suc t.branches; claimed = t.claimed }

abbrev pub one_less : TrailOutcome → TrailOutcome
one_less t = record { answer = t.answer; branches = t.branches - 1; claimed = t.claimed }

abbrev pub after_open : TrailContinuation → TrailContinuation
after_open r state = one_more (r state)

abbrev pub after_close : TrailContinuation → TrailContinuation
after_close r state = one_less (r state)

-- how it ends, where k follows each way
abbrev pub folded : TrailSuccess → TrailContinuation → Trail → TrailContinuation
folded k r [] = r
folded k r (Open ∷ es) = after_open (folded k r es)
folded k r (Close ∷ es) = after_close (folded k r es)
folded k r (At w ∷ es) = k w (folded k r es)

-- a way of an absent repeater's body lowers the limit
abbrev seen : TrailSuccess
seen v x state = x (record { best_match = state.best_match; limit = lower state.limit v.position })

-- g in place of each way
abbrev pub spliced : Trails → Trail → Trail
spliced g [] = []
spliced g (Open ∷ es) = Open ∷ spliced g es
spliced g (Close ∷ es) = Close ∷ spliced g es
spliced g (At w ∷ es) = g w ++ spliced g es

abbrev pub states : Trail → List MatchState
states [] = []
states (Open ∷ es) = states es
states (Close ∷ es) = states es
states (At w ∷ es) = w ∷ states es

abbrev pub opened : Trail → ℕ
opened [] = 0
opened (Open ∷ es) = suc (opened es)
opened (Close ∷ es) = opened es - 1
opened (At w ∷ es) = opened es

-- as far as the first way, and g from there; else the other one
abbrev pub cut_first : Trails → Trail → Trail → Trail
cut_first g other [] = other
cut_first g other (Open ∷ es) = Open ∷ cut_first g other es
cut_first g other (Close ∷ es) = Close ∷ cut_first g other es
cut_first g other (At w ∷ es) = g w

abbrev pub trail_to : Option ℕ → Trails
trail_to None w = []
trail_to (Some q) w = At (with_position w q) ∷ []

-- with a bound to the end that is found for it, and without as the trails
abbrev pub trail_within : Option ℕ → (ℕ → ℕ → Option ℕ) → Trails → Trails
trail_within None end t w = t w
trail_within (Some stop) end t w = trail_to (end stop w.position) w

abbrev pub trail_if : Bool → Trails
trail_if b w = cond b (At w ∷ []) []

abbrev pub trail_pick : Bool → Trail → Trails
trail_pick greedy more w = Open ∷ cond greedy (more ++ At w ∷ []) (At w ∷ more)

abbrev pub trail_upto : Trails → Bool → ℕ → Trails
trail_upto t greedy zero w = At w ∷ []
trail_upto t greedy (suc n) w = trail_pick greedy (spliced (trail_upto t greedy n) (t w)) w

abbrev pub trail_loop : Trails → Bool → ℕ → Trails
trail_loop t greedy zero w = []
trail_loop t greedy (suc n) w =
    trail_pick greedy (spliced (λ v. cond (v.position == w.position) (At v ∷ []) (trail_loop t greedy n v)) (t w)) w

abbrev pub trail_times : Trails → ℕ → Trails → Trails
trail_times t zero rest w = rest w
trail_times t (suc n) rest w = spliced (trail_times t n rest) (t w)

abbrev pub trail_ends : List ℕ → Trails
trail_ends [] w = []
trail_ends (q ∷ []) w = At (with_position w q) ∷ []
trail_ends (q ∷ p ∷ ps) w = Open ∷ At (with_position w q) ∷ trail_ends (p ∷ ps) w

-- without its ways
abbrev pub silent : Trail → Trail
silent [] = []
silent (Open ∷ es) = Open ∷ silent es
silent (Close ∷ es) = Close ∷ silent es
silent (At w ∷ es) = silent es

-- the limit after these ways
abbrev pub lowest : ℕ → Trail → ℕ
lowest l [] = l
lowest l (Open ∷ es) = lowest l es
lowest l (Close ∷ es) = lowest l es
lowest l (At v ∷ es) = lowest (lower l v.position) es

-- the body is tried at the places that are left, under that limit
abbrev pub trail_look : Trails → List ℕ → List ℕ → ℕ → Trails
trail_look t done [] l w = trail_ends (below l done) w
trail_look t done (q ∷ qs) l w =
    cond (nat_le l q) (trail_ends (below l done) w)
    (Open ∷ (silent (t (with_position w q)) ++ Close ∷ trail_look t (q ∷ done) qs (lowest l (t (with_position w q))) w))

abbrev pub trail_absent : Trails → List ℕ → Trails
trail_absent t [] w = []
trail_absent t (p ∷ ps) w =
    Open ∷ (silent (t (with_position w p)) ++ Close ∷ trail_look t (p ∷ []) ps (lowest unset (t (with_position w p))) w)

-- what of an outcome a trail says
abbrev pub bounded : Outcome → TrailOutcome
bounded t = record { answer = t.answer; branches = t.branches; claimed = t.claimed }

-- from each place the run ends as the trail says
abbrev pub Alike : Continuation → TrailContinuation → Type 0
Alike r e = (at : RunPoint) → bounded (r at) ≡ e at.held

abbrev pub AlikeAfter : SuccessContinuation → TrailSuccess → Type 0
AlikeAfter k l = (v : MatchState) (r : Continuation) (e : TrailContinuation) → Alike r e → Alike (k v r) (l v e)

-- a run ends as its trails say, where what follows it does
abbrev pub HasTrails : Denotation → Trails → Type 0
HasTrails g t = (w : MatchState) (k : SuccessContinuation) (l : TrailSuccess) (r : Continuation) (e : TrailContinuation) → AlikeAfter k l → Alike r e → Alike (g w k r) (folded l e (t w))

pub alike_opens : (r : Continuation) (e : TrailContinuation) → Alike r e → Alike (opens r) (after_open e)
alike_opens r e h at = ap one_more (h (at_height (suc at.height) at))

pub alike_backs : (r : Continuation) (e : TrailContinuation) → Alike r e → Alike (backs r) e
alike_backs r e h at = h (at_height (one_lower at.height) at)

alike_closes : (r : Continuation) (e : TrailContinuation) → Alike r e → Alike (closes r) (after_close e)
alike_closes r e h at = ap one_less (h (at_height (one_lower at.height) at))

alike_dropped : (height : ℕ) (r : Continuation) (e : TrailContinuation) → Alike r e → Alike (drops_to height r) e
alike_dropped height r e h at = h (at_height height at)

-- the same under another spelling of the trail's end
alike_as : (r : Continuation) (e e' : TrailContinuation) → e ≡ e' → Alike r e → Alike r e'
alike_as r e e' same h at = h at ∙ ap (λ (x : TrailContinuation). x at.held) same

folded_append : (k : TrailSuccess) (r : TrailContinuation) (xs ys : Trail) → folded k r (xs ++ ys) ≡ folded k (folded k r ys) xs
folded_append k r [] ys = refl
folded_append k r (Open ∷ xs) ys = ap after_open (folded_append k r xs ys)
folded_append k r (Close ∷ xs) ys = ap after_close (folded_append k r xs ys)
folded_append k r (At w ∷ xs) ys = ap (k w) (folded_append k r xs ys)

folded_spliced : (k : TrailSuccess) (r : TrailContinuation) (g : Trails) (es : Trail) → folded k r (spliced g es) ≡ folded (λ w x. folded k x (g w)) r es
folded_spliced k r g [] = refl
folded_spliced k r g (Open ∷ es) = ap after_open (folded_spliced k r g es)
folded_spliced k r g (Close ∷ es) = ap after_close (folded_spliced k r g es)
folded_spliced k r g (At w ∷ es) = folded_append k r (g w) (spliced g es) ∙ ap (λ x. folded k x (g w)) (folded_spliced k r g es)

-- the first way alone goes on, with what was left before
folded_first : (k : TrailSuccess) (r : TrailContinuation) (g : Trails) (other : Trail) (es : Trail) →
    folded k r (cut_first g other es) ≡ folded (λ w x. folded k r (g w)) (folded k r other) es
folded_first k r g other [] = refl
folded_first k r g other (Open ∷ es) = ap after_open (folded_first k r g other es)
folded_first k r g other (Close ∷ es) = ap after_close (folded_first k r g other es)
folded_first k r g other (At w ∷ es) = refl

again_alike : (b : Bool) (v : MatchState) (stops more : Continuation) (l : TrailSuccess) (y : TrailContinuation) (es : Trail) → Alike stops (l v y) → Alike more (folded l y es) →
    Alike (cond b stops more) (folded l y (cond b (At v ∷ []) es))
again_alike true v stops more l y es h d = h
again_alike false v stops more l y es h d = d

module _ (g : Denotation) (t : Trails) (is : HasTrails g t) where
  first_trail : HasTrails (end_first g) (λ w. cut_first (λ v. At v ∷ []) [] (t w))
  first_trail w k l r e hk hr at =
      alike_as (g w (λ v x. drops_to at.height (k v r)) r) _ _ (sym (folded_first l e (λ v. At v ∷ []) [] (t w)))
      (is w (λ v x. drops_to at.height (k v r)) (λ v x. l v e) r e (λ v x y h. alike_dropped at.height (k v r) (l v e) (hk v r e hr)) hr) at

  never_trail : HasTrails (end_never g) (λ w. Open ∷ cut_first (λ v. []) (At w ∷ []) (t w))
  never_trail w k l r e hk hr at =
      let inside = g w (λ v x. drops_to at.height r) (backs (k w r)) in
      alike_opens inside _
      (alike_as inside _ _ (sym (folded_first l e (λ v. []) (At w ∷ []) (t w)))
      (is w (λ v x. drops_to at.height r) (λ v x. e) (backs (k w r)) (l w e) (λ v x y h. alike_dropped at.height r e hr) (alike_backs (k w r) (l w e) (hk w r e hr)))) at

  module _ (a b : Denotation) (ta tb : Trails) (isa : HasTrails a ta) (isb : HasTrails b tb) where
    choice_trail : HasTrails (end_choice g a b) (λ w. Open ∷ cut_first ta (tb w) (t w))
    choice_trail w k l r e hk hr at =
        let inside = g w (λ v x. drops_to at.height (a v k r)) (backs (b w k r)) in
        alike_opens inside _
        (alike_as inside _ _ (sym (folded_first l e ta (tb w) (t w)))
        (is w (λ v x. drops_to at.height (a v k r)) (λ v x. folded l e (ta v)) (backs (b w k r)) (folded l e (tb w))
        (λ v x y h. alike_dropped at.height (a v k r) (folded l e (ta v)) (isa v k l r e hk hr)) (alike_backs (b w k r) (folded l e (tb w)) (isb w k l r e hk hr)))) at

  pick_trail : (greedy : Bool) (next : Trails) (again k : SuccessContinuation) (l : TrailSuccess) (w : MatchState) (r : Continuation) (e : TrailContinuation) →
      AlikeAfter again (λ v x. folded l x (next v)) → AlikeAfter k l → Alike r e → Alike (end_pick greedy g w again k r) (folded l e (trail_pick greedy (spliced next (t w)) w))
  pick_trail true next again k l w r e ha hk hr =
      let inside = g w again (backs (k w r)) in
      alike_opens inside _
      (alike_as inside _ _ (sym (folded_spliced l (l w e) next (t w)) ∙ sym (folded_append l e (spliced next (t w)) (At w ∷ [])))
      (is w again (λ v x. folded l x (next v)) (backs (k w r)) (l w e) ha (alike_backs (k w r) (l w e) (hk w r e hr))))
  pick_trail false next again k l w r e ha hk hr =
      let more = g w again r in
      alike_opens (k w (backs more)) _
      (hk w (backs more) (folded l e (spliced next (t w)))
      (alike_backs more _ (alike_as more _ _ (sym (folded_spliced l e next (t w))) (is w again (λ v x. folded l x (next v)) r e ha hr))))

  upto_trail : (greedy : Bool) (n : ℕ) → HasTrails (end_upto g greedy n) (trail_upto t greedy n)
  upto_trail greedy zero w k l r e hk hr = hk w r e hr
  upto_trail greedy (suc n) w k l r e hk hr =
      pick_trail greedy (trail_upto t greedy n) (λ v x. end_upto g greedy n v k x) k l w r e (λ v x y h. upto_trail greedy n v k l x y hk h) hk hr

  loop_trail : (greedy : Bool) (n : ℕ) → HasTrails (end_loop g greedy n) (trail_loop t greedy n)
  loop_trail greedy zero w k l r e hk hr = hr
  loop_trail greedy (suc n) w k l r e hk hr =
      pick_trail greedy (λ v. cond (v.position == w.position) (At v ∷ []) (trail_loop t greedy n v))
      (λ v x. cond (v.position == w.position) (k v x) (end_loop g greedy n v k x)) k l w r e
      (λ v x y h. again_alike (v.position == w.position) v (k v x) (end_loop g greedy n v k x) l y (trail_loop t greedy n v) (hk v x y h) (loop_trail greedy n v k l x y hk h)) hk hr

  times_trail : (n : ℕ) (rest : Denotation) (after : Trails) → HasTrails rest after → HasTrails (end_times g n rest) (trail_times t n after)
  times_trail zero rest after h w k l r e hk hr = h w k l r e hk hr
  times_trail (suc n) rest after h w k l r e hk hr =
      alike_as (g w (λ v x. end_times g n rest v k x) r) _ _ (sym (folded_spliced l e (trail_times t n after) (t w)))
      (is w (λ v x. end_times g n rest v k x) (λ v x. folded l x (trail_times t n after v)) r e (λ v x y d. times_trail n rest after h v k l x y hk d) hr)

pub states_append : (xs ys : Trail) → states (xs ++ ys) ≡ states xs ++ states ys
states_append [] ys = refl
states_append (Open ∷ xs) ys = states_append xs ys
states_append (Close ∷ xs) ys = states_append xs ys
states_append (At w ∷ xs) ys = ap (λ l. w ∷ l) (states_append xs ys)

pub opened_append : (xs ys : Trail) → opened (xs ++ ys) ≤ opened xs + opened ys
opened_append [] ys = omega arith
opened_append (Open ∷ xs) ys = omega (arith, opened_append xs ys)
opened_append (Close ∷ xs) ys = omega (arith, opened_append xs ys)
opened_append (At w ∷ xs) ys = opened_append xs ys

ends_trail : (qs : List ℕ) → HasTrails (end_ends qs) (trail_ends qs)
ends_trail [] w k l r e hk hr = hr
ends_trail (q ∷ []) w k l r e hk hr = hk (with_position w q) r e hr
ends_trail (q ∷ p ∷ ps) w k l r e hk hr =
    let others = end_ends (p ∷ ps) w k r in
    alike_opens (k (with_position w q) (backs others)) _
    (hk (with_position w q) (backs others) (folded l e (trail_ends (p ∷ ps) w)) (alike_backs others _ (ends_trail (p ∷ ps) w k l r e hk hr)))

-- what the body's ways leave: a limit
seen_trail : (k : TrailSuccess) (r x : TrailContinuation) (rest : ℕ → Trail) (best : Option FoundMatch) (outer : ℕ) →
    ((n : ℕ) → x (record { best_match = best; limit = n }) ≡ folded k r (rest n) (record { best_match = best; limit = outer })) → (es : Trail) (l : ℕ) →
    folded seen x es (record { best_match = best; limit = l }) ≡ folded k r (silent es ++ rest (lowest l es)) (record { best_match = best; limit = outer })
seen_trail k r x rest best outer h [] l = h l
seen_trail k r x rest best outer h (Open ∷ es) l = ap one_more (seen_trail k r x rest best outer h es l)
seen_trail k r x rest best outer h (Close ∷ es) l = ap one_less (seen_trail k r x rest best outer h es l)
seen_trail k r x rest best outer h (At v ∷ es) l = seen_trail k r x rest best outer h es (lower l v.position)

alike_seen : AlikeAfter end_seen seen
alike_seen v r e h at = h (record { held = record { best_match = at.held.best_match; limit = lower at.held.limit v.position }; height = at.height })

module _ (g : Denotation) (t : Trails) (is : HasTrails g t) (w : MatchState) (k : SuccessContinuation) (l : TrailSuccess) (r : Continuation) (e : TrailContinuation) (hk : AlikeAfter k l) (hr : Alike r e) where
  -- how the trail goes on from those places, under the limit that was before
  abbrev looked_on : List ℕ → List ℕ → ℕ → TrailContinuation
  looked_on done qs outer state = folded l e (trail_look t done qs state.limit w) (record { best_match = state.best_match; limit = outer })

  ends_of : (done : List ℕ) (outer : ℕ) (at : RunPoint) →
      bounded (end_ends (below at.held.limit done) w k r (record { held = record { best_match = at.held.best_match; limit = outer }; height = at.height }))
      ≡ folded l e (trail_ends (below at.held.limit done) w) (record { best_match = at.held.best_match; limit = outer })
  ends_of done outer at =
      ends_trail (below at.held.limit done) w k l r e hk hr (record { held = record { best_match = at.held.best_match; limit = outer }; height = at.height })

  -- the body is tried at a place, and then it looks on from there
  tried_trail : (q : ℕ) (done qs : List ℕ) (outer : ℕ) → Alike (end_look g done qs outer w k r) (looked_on done qs outer) → (at : RunPoint) →
      bounded (opens (g (with_position w q) end_seen (closes (end_look g done qs outer w k r))) at)
      ≡ folded l e (Open ∷ (silent (t (with_position w q)) ++ Close ∷ trail_look t done qs (lowest at.held.limit (t (with_position w q))) w)) (record { best_match = at.held.best_match; limit = outer })
  tried_trail q done qs outer later at =
      let look = end_look g done qs outer w k r in
      alike_opens (g (with_position w q) end_seen (closes look)) _
      (is (with_position w q) end_seen seen (closes look) (after_close (looked_on done qs outer)) alike_seen (alike_closes look (looked_on done qs outer) later)) at
      ∙ ap one_more (seen_trail l e (after_close (looked_on done qs outer)) (λ n. Close ∷ trail_look t done qs n w) at.held.best_match outer (λ n. refl) (t (with_position w q)) at.held.limit)

  look_trail : (qs done : List ℕ) (outer : ℕ) → Alike (end_look g done qs outer w k r) (looked_on done qs outer)
  look_trail [] done outer at = ends_of done outer at
  look_trail (q ∷ qs) done outer at =
      elim (nat_le at.held.limit q) as (λ b. bounded (cond b (end_ends (below at.held.limit done) w k r (record { held = record { best_match = at.held.best_match; limit = outer }; height = at.height }))
      (opens (g (with_position w q) end_seen (closes (end_look g (q ∷ done) qs outer w k r))) at))
      ≡ folded l e (cond b (trail_ends (below at.held.limit done) w)
      (Open ∷ (silent (t (with_position w q)) ++ Close ∷ trail_look t (q ∷ done) qs (lowest at.held.limit (t (with_position w q))) w))) (record { best_match = at.held.best_match; limit = outer })) [
        | true ↦ ends_of done outer at
        | false ↦ tried_trail q (q ∷ done) qs outer (look_trail qs (q ∷ done) outer) at
      ]

  absent_trail : (ps : List ℕ) → Alike (end_absent g ps w k r) (folded l e (trail_absent t ps w))
  absent_trail [] at = hr at
  absent_trail (p ∷ ps) at =
      tried_trail p (p ∷ []) ps at.held.limit (look_trail ps (p ∷ []) at.held.limit) (record { held = record { best_match = at.held.best_match; limit = unset }; height = at.height })

to_trail : (o : Option ℕ) → HasTrails (end_to o) (trail_to o)
to_trail None w k l r e hk hr = hr
to_trail (Some q) w k l r e hk hr = hk (with_position w q) r e hr

within_trail : (bound : Option ℕ) (end : ℕ → ℕ → Option ℕ) (g : Denotation) (t : Trails) → HasTrails g t → HasTrails (end_within bound end g) (trail_within bound end t)
within_trail None end g t h w k l r e hk hr = h w k l r e hk hr
within_trail (Some stop) end g t h w k l r e hk hr = to_trail (end stop w.position) w k l r e hk hr

if_trail : (b : Bool) → HasTrails (λ w k r. cond b (k w r) r) (trail_if b)
if_trail true w k l r e hk hr = hk w r e hr
if_trail false w k l r e hk hr = hr

module _ (s : Setting) where
  abbrev pub trail_again : Bool → Option (ℕ × ℕ) → Trails
  trail_again casei None w = []
  trail_again casei (Some pair) w = trail_if (match_backref s casei pair.0 pair.1 w.position) (with_position w (w.position + (pair.1 - pair.0)))

  again_text : (casei : Bool) (o : Option (ℕ × ℕ)) → HasTrails (end_again s casei o) (trail_again casei o)
  again_text casei None w k l r e hk hr = hr
  again_text casei (Some pair) w k l r e hk hr =
      if_trail (match_backref s casei pair.0 pair.1 w.position) (with_position w (w.position + (pair.1 - pair.0))) k l r e hk hr

  module _ (bound : Option ℕ) where
    abbrev pub trail : CorePattern → Trails
    trail nothing w = At w ∷ []
    trail (read leaf) w = trail_to (match_char s.text (passes s leaf) w.position) w
    trail (general_newline unicode) w = trail_to (match_newline s unicode w.position) w
    trail (check a) w = trail_if (holds s a w.position) w
    trail continue w = trail_if (is_some_and s.continue_at (λ g. g == w.position)) w
    trail keep_out w = At (record w { match_start = w.position }) ∷ []
    trail fail w = []
    trail (cat a b) w = spliced (trail b) (trail a w)
    trail (alt a b) w = Open ∷ (trail a w ++ trail b w)
    trail (group n a) w = spliced (λ v. At (set_pair n (w.position, v.position) v) ∷ []) (trail a w)
    trail (ahead a) w = spliced (λ v. At (with_position v w.position) ∷ []) (trail a w)
    trail (never a) w = Open ∷ cut_first (λ v. []) (At w ∷ []) (trail a w)
    trail (back n) w = trail_to (position_before s.text n w.position) w
    trail (atomic a) w = cut_first (λ v. At v ∷ []) [] (trail a w)
    trail (delegate t a) w = trail_to (first_end s t w.position) w
    trail (tail t a) w = trail_within bound (first_end_until s t) (trail a) w
    trail (repeat a lo None greedy) w = trail_times (trail a) lo (trail_loop (trail a) greedy (length s.text + 1)) w
    trail (repeat a lo (Some hi) greedy) w = trail_times (trail a) lo (trail_upto (trail a) greedy (hi - lo)) w
    trail (backref n casei) w = trail_again casei (pair_of w n) w
    trail (exists n) w = trail_if (is_some (pair_of w n)) w
    trail (conditional c a b) w = Open ∷ cut_first (trail a) (trail b w) (trail c w)
    trail (absent a) w = trail_absent (trail a) (boundaries s.text w.position (length s.text)) w
    trail (called n a) w = trail a w

    -- the ending is that of the trail
    pub ending_trail : (p : CorePattern) → HasTrails (ending s bound p) (trail p)
    ending_trail nothing w k l r e hk hr = hk w r e hr
    ending_trail (read leaf) w k l r e hk hr = to_trail (match_char s.text (passes s leaf) w.position) w k l r e hk hr
    ending_trail (general_newline unicode) w k l r e hk hr = to_trail (match_newline s unicode w.position) w k l r e hk hr
    ending_trail (check a) w k l r e hk hr = if_trail (holds s a w.position) w k l r e hk hr
    ending_trail continue w k l r e hk hr = if_trail (is_some_and s.continue_at (λ g. g == w.position)) w k l r e hk hr
    ending_trail keep_out w k l r e hk hr = hk (record w { match_start = w.position }) r e hr
    ending_trail fail w k l r e hk hr = hr
    ending_trail (cat a b) w k l r e hk hr =
        alike_as (ending s bound a w (λ v x. ending s bound b v k x) r) _ _ (sym (folded_spliced l e (trail b) (trail a w)))
        (ending_trail a w (λ v x. ending s bound b v k x) (λ v x. folded l x (trail b v)) r e (λ v x y h. ending_trail b v k l x y hk h) hr)
    ending_trail (alt a b) w k l r e hk hr =
        let second = ending s bound b w k r in
        alike_opens (ending s bound a w k (backs second)) _
        (alike_as (ending s bound a w k (backs second)) _ _ (sym (folded_append l e (trail a w) (trail b w)))
        (ending_trail a w k l (backs second) (folded l e (trail b w)) hk (alike_backs second _ (ending_trail b w k l r e hk hr))))
    ending_trail (group n a) w k l r e hk hr =
        alike_as (ending s bound a w (λ v x. k (set_pair n (w.position, v.position) v) x) r) _ _ (sym (folded_spliced l e (λ v. At (set_pair n (w.position, v.position) v) ∷ []) (trail a w)))
        (ending_trail a w (λ v x. k (set_pair n (w.position, v.position) v) x) (λ v x. l (set_pair n (w.position, v.position) v) x) r e
        (λ v x y h. hk (set_pair n (w.position, v.position) v) x y h) hr)
    ending_trail (ahead a) w k l r e hk hr =
        alike_as (ending s bound a w (λ v x. k (with_position v w.position) x) r) _ _ (sym (folded_spliced l e (λ v. At (with_position v w.position) ∷ []) (trail a w)))
        (ending_trail a w (λ v x. k (with_position v w.position) x) (λ v x. l (with_position v w.position) x) r e (λ v x y h. hk (with_position v w.position) x y h) hr)
    ending_trail (never a) w k l r e hk hr = never_trail (ending s bound a) (trail a) (ending_trail a) w k l r e hk hr
    ending_trail (back n) w k l r e hk hr = to_trail (position_before s.text n w.position) w k l r e hk hr
    ending_trail (atomic a) w k l r e hk hr = first_trail (ending s bound a) (trail a) (ending_trail a) w k l r e hk hr
    ending_trail (delegate t a) w k l r e hk hr = to_trail (first_end s t w.position) w k l r e hk hr
    ending_trail (tail t a) w k l r e hk hr = within_trail bound (first_end_until s t) (ending s bound a) (trail a) (ending_trail a) w k l r e hk hr
    ending_trail (repeat a lo None greedy) w k l r e hk hr =
        times_trail (ending s bound a) (trail a) (ending_trail a) lo (end_loop (ending s bound a) greedy (length s.text + 1)) (trail_loop (trail a) greedy (length s.text + 1))
        (loop_trail (ending s bound a) (trail a) (ending_trail a) greedy (length s.text + 1)) w k l r e hk hr
    ending_trail (repeat a lo (Some hi) greedy) w k l r e hk hr =
        times_trail (ending s bound a) (trail a) (ending_trail a) lo (end_upto (ending s bound a) greedy (hi - lo)) (trail_upto (trail a) greedy (hi - lo))
        (upto_trail (ending s bound a) (trail a) (ending_trail a) greedy (hi - lo)) w k l r e hk hr
    ending_trail (backref n casei) w k l r e hk hr = again_text casei (pair_of w n) w k l r e hk hr
    ending_trail (exists n) w k l r e hk hr = if_trail (is_some (pair_of w n)) w k l r e hk hr
    ending_trail (conditional c a b) w k l r e hk hr =
        choice_trail (ending s bound c) (trail c) (ending_trail c) (ending s bound a) (ending s bound b) (trail a) (trail b) (ending_trail a) (ending_trail b) w k l r e hk hr
    ending_trail (absent a) w k l r e hk hr = absent_trail (ending s bound a) (trail a) (ending_trail a) w k l r e hk hr (boundaries s.text w.position (length s.text))
    ending_trail (called n a) w k l r e hk hr = ending_trail a w k l r e hk hr
