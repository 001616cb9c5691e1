-- The trail of an absent repeater: its ends are those of the definition, and it opens no more branches than it has choices.
use Rattle.std.proofs.Common.{◌≡◌, ℕ, zero, suc, ◌+◌, ◌-◌, ◌<◌, ◌≤◌, Bool, true, false, ◌&&◌, List, [], ◌∷◌, ◌++◌, map, reverse, sum_by, length, refl, sym, ap, ◌∙◌, subst, arith, cond}
use mathlib.Core.List.{reverse_aux}
use Rattle.std.specs.Prelude.{nat_lt, nat_le}
use Rattle.std.specs.List.{filter, list_all}
use Rattle.std.proofs.lemmas.Bool.Decides.{nat_tests}
use Rattle.std.proofs.lemmas.List.Sums.{sum_by-cons}
use Rattle.fancy_regex_meaning.specs.Positions.{numbers_from, boundaries}
use Rattle.regex_hir.specs.Text.{is_boundary}
use Rattle.fancy_regex_meaning.specs.WayLaws.{Each}
use Rattle.fancy_regex_meaning.specs.Ways.{MatchState, Moves, Setting, with_position, is_free}
use Rattle.fancy_regex_meaning.specs.Ways as row
use Rattle.fancy_regex_meaning.specs.Choices.{absent_choices}
use Rattle.fancy_regex_meaning.proofs.EachLemmas.{Each-weaker, Each-filter, numbers_within, boundaries_within}
use Rattle.fancy_regex_program.specs.Machine.{unset, lower}
use Rattle.fancy_regex_program_laws.proofs.Denote.{below}
use Rattle.fancy_regex_program_laws.proofs.Runs.{lt_yes, lt_no, lt_is}
use Rattle.fancy_regex_program_laws.proofs.Trail.{Open, Close, At, Trail, Trails, states, opened, trail_ends, silent, lowest, trail_look, trail_absent, states_append, opened_append}

ends_states : (qs : List ℕ) (w : MatchState) → states (trail_ends qs w) ≡ map (with_position w) qs
ends_states [] w = refl
ends_states (q ∷ []) w = refl
ends_states (q ∷ p ∷ ps) w = ap (λ l. with_position w q ∷ l) (ends_states (p ∷ ps) w)

ends_opened : (qs : List ℕ) (w : MatchState) → opened (trail_ends qs w) ≤ length qs
ends_opened [] w = omega arith
ends_opened (q ∷ []) w = omega arith
ends_opened (q ∷ p ∷ ps) w = omega (arith, ends_opened (p ∷ ps) w)

silent_states : (es : Trail) → states (silent es) ≡ []
silent_states [] = refl
silent_states (Open ∷ es) = silent_states es
silent_states (Close ∷ es) = silent_states es
silent_states (At w ∷ es) = silent_states es

silent_opened : (es : Trail) → opened (silent es) ≡ opened es
silent_opened [] = refl
silent_opened (Open ∷ es) = ap suc (silent_opened es)
silent_opened (Close ∷ es) = ap (λ n. n - 1) (silent_opened es)
silent_opened (At w ∷ es) = silent_opened es

below_short : (l : ℕ) (qs : List ℕ) → length (below l qs) ≤ length qs
below_short l [] = omega arith
below_short l (q ∷ qs) =
    let rest = below_short l qs in
    elim (nat_lt q l) as (λ b. length (cond b (q ∷ below l qs) (below l qs)) ≤ length (q ∷ qs)) [ true ↦ omega (arith, rest) | false ↦ omega (arith, rest) ]

and_true : (a : Bool) → a ≡ (a && true)
and_true true = refl
and_true false = refl

and_in_turn : (a b c : Bool) → ((a && b) && c) ≡ (a && (b && c))
and_in_turn true b c = refl
and_in_turn false b c = refl

and_moved : (a b c : Bool) → (a && (b && c)) ≡ ((b && a) && c)
and_moved true true c = refl
and_moved true false c = refl
and_moved false true c = refl
and_moved false false c = refl

and_turned : (a b : Bool) → (a && b) ≡ (b && a)
and_turned true true = refl
and_turned true false = refl
and_turned false true = refl
and_turned false false = refl

lt_lower : (q l p : ℕ) → nat_lt q (lower l p) ≡ (nat_lt q l && nat_lt q p)
lt_lower q l p = grind (arith, nat_tests)

-- below the lowest is below each
lt_lowest : (q : ℕ) (es : Trail) (l : ℕ) → nat_lt q (lowest l es) ≡ (nat_lt q l && list_all (λ v. nat_lt q v.position) (states es))
lt_lowest q [] l = and_true (nat_lt q l)
lt_lowest q (Open ∷ es) l = lt_lowest q es l
lt_lowest q (Close ∷ es) l = lt_lowest q es l
lt_lowest q (At v ∷ es) l =
    lt_lowest q es (lower l v.position)
    ∙ ap (λ b. b && list_all (λ u. nat_lt q u.position) (states es)) (lt_lower q l v.position)
    ∙ and_in_turn (nat_lt q l) (nat_lt q v.position) (list_all (λ u. nat_lt q u.position) (states es))

all_true : {A : Type 0} (f : A → Bool) (xs : List A) → Each (λ x. f x ≡ true) xs → list_all f xs ≡ true
all_true f [] h = refl
all_true f (x ∷ xs) h = ap (λ b. b && list_all f xs) h.0 ∙ all_true f xs h.1

filter_same : (f g : ℕ → Bool) (xs : List ℕ) → Each (λ x. f x ≡ g x) xs → filter f xs ≡ filter g xs
filter_same f g [] h = refl
filter_same f g (x ∷ xs) h = ap (λ b. cond b (x ∷ filter f xs) (filter f xs)) h.0 ∙ ap (λ l. cond (g x) (x ∷ l) l) (filter_same f g xs h.1)

-- those that fail the test are passed over
passed_over : (f : ℕ → Bool) (xs ys : List ℕ) → Each (λ x. f x ≡ false) xs → filter f (reverse_aux xs ys) ≡ filter f ys
passed_over f [] ys h = refl
passed_over f (x ∷ xs) ys h = passed_over f xs (x ∷ ys) h.1 ∙ ap (λ b. cond b (x ∷ filter f ys) (filter f ys)) h.0

abbrev Rising : List ℕ → Type 0
Rising [] = Unit {0}
Rising (q ∷ qs) = Each (λ p. q ≤ p) qs × Rising qs

rising_numbers : (f : ℕ → Bool) (n i : ℕ) → Rising (filter f (numbers_from n i))
rising_numbers f zero i = tt
rising_numbers f (suc n) i =
    let rest = rising_numbers f n (i + 1) in
    let later : Each (λ p. i ≤ p) (filter f (numbers_from n (i + 1))) =
    Each-filter _ f _ (Each-weaker _ _ (λ p h. omega (arith, h.0)) (numbers_from n (i + 1)) (numbers_within n (i + 1))) in
    elim (f i) as (λ b. Rising (cond b (i ∷ filter f (numbers_from n (i + 1))) (filter f (numbers_from n (i + 1))))) [ true ↦ (later, rest) | false ↦ rest ]

module _ (s : Setting) (small : length s.text < unset) (t : Trails) (body : Moves) (same : (v : MatchState) → states (t v) ≡ body v)
    (onward : (v : MatchState) → Each (λ u. v.position ≤ u.position) (body v)) (w : MatchState) where
  abbrev all : List ℕ
  all = boundaries s.text w.position (length s.text)

  -- no way from the place ends at or before q, and none from these places
  abbrev clear_from : ℕ → ℕ → Bool
  clear_from q b = list_all (λ v. nat_lt q v.position) (body (with_position w b))

  abbrev clear : ℕ → List ℕ → Bool
  clear q bs = list_all (clear_from q) bs

  -- the body was tried at the places that are done, and is to be tried at the others
  record Looked (done qs : List ℕ) (l : ℕ) : Type 0 where
    parts : (q : ℕ) → clear q all ≡ (clear q done && clear q qs)
    limit : (q : ℕ) → q < unset → clear q done ≡ nat_lt q l
    order : reverse all ≡ reverse_aux qs done
    inside : Each (λ q. q < unset) done
    left : Each (λ q. q < unset) qs
    rising : Rising qs

  next_looked : (done qs : List ℕ) (q l : ℕ) → Looked done (q ∷ qs) l → Looked (q ∷ done) qs (lowest l (t (with_position w q)))
  next_looked done qs q l h = record {
    parts = λ p. h.parts p ∙ and_moved (clear p done) (clear_from p q) (clear p qs);
    limit = λ p lt.
        ap (λ b. clear_from p q && b) (h.limit p lt)
        ∙ and_turned (clear_from p q) (nat_lt p l)
        ∙ ap (λ vs. nat_lt p l && list_all (λ v. nat_lt p v.position) vs) (sym (same (with_position w q)))
        ∙ sym (lt_lowest p (t (with_position w q)) l);
    order = h.order;
    inside = (h.left.0, h.inside);
    left = h.left.1;
    rising = h.rising.1;
  }

  -- what begins at the limit or later ends no lower
  clear_late : (q l : ℕ) → q < l → (bs : List ℕ) → Each (λ b. l ≤ b) bs → clear q bs ≡ true
  clear_late q l lt bs h =
      all_true (clear_from q) bs
      (Each-weaker (λ b. l ≤ b) (λ b. clear_from q b ≡ true)
      (λ b le. all_true (λ (v : MatchState). nat_lt q v.position) (body (with_position w b))
      (Each-weaker (λ (v : MatchState). b ≤ v.position) (λ (v : MatchState). nat_lt q v.position ≡ true) (λ v on. lt_yes q v.position (omega arith)) (body (with_position w b)) (onward (with_position w b)))) bs h)

  clear_done : (q l : ℕ) (b c : Bool) → (nat_lt q l ≡ true → c ≡ true) → b ≡ nat_lt q l → (b && c) ≡ nat_lt q l
  clear_done q l b c late is = ap (λ x. x && c) is ∙ (elim (nat_lt q l) as (λ x. (x ≡ true → c ≡ true) → (x && c) ≡ x) [
    | true ↦ λ h. h refl
    | false ↦ λ h. refl
  ]) late

  -- once all places below the limit were tried, the ends are those that are free
  stopped : (done qs : List ℕ) (l : ℕ) → Looked done qs l → Each (λ b. l ≤ b) qs → below l done ≡ filter (is_free s body w) (reverse all)
  stopped done qs l h late =
      sym (ap (filter (is_free s body w)) h.order
      ∙ passed_over (is_free s body w) qs done (all_fail qs h.left late)
      ∙ filter_same (is_free s body w) (λ q. nat_lt q l) done (Each-weaker (λ q. q < unset) (λ q. is_free s body w q ≡ nat_lt q l)
      (λ q lt. h.parts q ∙ clear_done q l (clear q done) (clear q qs) (λ is. clear_late q l (lt_is q l is) qs late) (h.limit q lt)) done h.inside))
    where
      fails_at : (q : ℕ) → q < unset → l ≤ q → is_free s body w q ≡ false
      fails_at q lt le = h.parts q ∙ ap (λ b. b && clear q qs) (h.limit q lt ∙ lt_no q l le)

      all_fail : (bs : List ℕ) → Each (λ q. q < unset) bs → Each (λ b. l ≤ b) bs → Each (λ q. is_free s body w q ≡ false) bs
      all_fail [] a b = tt
      all_fail (q ∷ bs) a b = (fails_at q a.0 b.0, all_fail bs a.1 b.1)

  abbrev free_ways : List MatchState
  free_ways = map (with_position w) (filter (is_free s body w) (reverse all))

  states_look : (done qs : List ℕ) (l : ℕ) → Looked done qs l → states (trail_look t done qs l w) ≡ free_ways
  states_look done [] l h = ends_states (below l done) w ∙ ap (map (with_position w)) (stopped done [] l h tt)
  states_look done (q ∷ qs) l h =
      (elim (nat_le l q) as (λ b. nat_le l q ≡ b → states (cond b (trail_ends (below l done) w)
      (Open ∷ (silent (t (with_position w q)) ++ Close ∷ trail_look t (q ∷ done) qs (lowest l (t (with_position w q))) w))) ≡ free_ways) [
        | true ↦ λ is.
            let le : l ≤ q = grind (arith, nat_tests) in
            ends_states (below l done) w ∙ ap (map (with_position w)) (stopped done (q ∷ qs) l h (le, Each-weaker (λ p. q ≤ p) (λ p. l ≤ p) (λ p on. omega (arith, on, le)) qs h.rising.0))
        | false ↦ λ is.
            states_append (silent (t (with_position w q))) (Close ∷ trail_look t (q ∷ done) qs (lowest l (t (with_position w q))) w)
            ∙ ap (λ vs. vs ++ states (trail_look t (q ∷ done) qs (lowest l (t (with_position w q))) w)) (silent_states (t (with_position w q)))
            ∙ states_look (q ∷ done) qs (lowest l (t (with_position w q))) (next_looked done qs q l h)
      ]) refl

  first_looked : (ps : List ℕ) → all ≡ ps → Looked [] ps unset
  first_looked ps e = record {
    parts = λ q. ap (clear q) e;
    limit = λ q lt. sym (lt_yes q unset lt);
    order = ap reverse e;
    inside = tt;
    left = subst (Each (λ q. q < unset)) e (Each-weaker _ _ (λ q h. omega (arith, h.1)) all (boundaries_within s.text w.position (length s.text)));
    rising = subst Rising e (rising_numbers (is_boundary s.text) (length s.text + 1 - w.position) w.position);
  }

  pub states_absent : states (trail_absent t all w) ≡ row.absent s body w
  states_absent = step all refl
    where
      step : (ps : List ℕ) → all ≡ ps → states (trail_absent t ps w) ≡ free_ways
      step [] e = sym (ap (λ qs. map (with_position w) (filter (is_free s body w) (reverse qs))) e)
      step (p ∷ ps) e =
          states_append (silent (t (with_position w p))) (Close ∷ trail_look t (p ∷ []) ps (lowest unset (t (with_position w p))) w)
          ∙ ap (λ vs. vs ++ states (trail_look t (p ∷ []) ps (lowest unset (t (with_position w p))) w)) (silent_states (t (with_position w p)))
          ∙ states_look (p ∷ []) ps (lowest unset (t (with_position w p))) (next_looked [] ps p unset (first_looked (p ∷ ps) e))

sum_more : (f : ℕ → ℕ) (xs : List ℕ) → sum_by (λ x. 1 + f x) xs ≡ length xs + sum_by f xs
sum_more f [] = refl
sum_more f (x ∷ xs) = omega (arith, sum_by-cons (λ x. 1 + f x) x xs, sum_by-cons f x xs, sum_more f xs)

module _ (s : Setting) (t : Trails) (own : MatchState → ℕ) (most : (v : MatchState) → opened (t v) ≤ own v) (w : MatchState) where
  abbrev owned : ℕ → ℕ
  owned p = own (with_position w p)

  opened_try : (q m : ℕ) (rest : Trail) → 1 ≤ m → opened rest ≤ m → opened (Open ∷ (silent (t (with_position w q)) ++ Close ∷ rest)) ≤ owned q + m
  opened_try q m rest some le =
      omega (arith, opened_append (silent (t (with_position w q))) (Close ∷ rest), silent_opened (t (with_position w q)), most (with_position w q))

  opened_look : (m : ℕ) → 1 ≤ m → (done qs : List ℕ) (l : ℕ) → length done + length qs ≤ m → opened (trail_look t done qs l w) ≤ sum_by owned qs + m
  opened_look m some done [] l le = omega (arith, ends_opened (below l done) w, below_short l done)
  opened_look m some done (q ∷ qs) l le =
      let rest = opened_look m some (q ∷ done) qs (lowest l (t (with_position w q))) (omega arith) in
      let tried = opened_try q (sum_by owned qs + m) (trail_look t (q ∷ done) qs (lowest l (t (with_position w q))) w) (omega arith) rest in
      elim (nat_le l q) as (λ b. opened (cond b (trail_ends (below l done) w)
      (Open ∷ (silent (t (with_position w q)) ++ Close ∷ trail_look t (q ∷ done) qs (lowest l (t (with_position w q))) w))) ≤ sum_by owned (q ∷ qs) + m) [
        | true ↦ omega (arith, ends_opened (below l done) w, below_short l done)
        | false ↦ omega (arith, tried, sum_by-cons owned q qs)
      ]

  opened_from : (ps : List ℕ) → opened (trail_absent t ps w) ≤ sum_by (λ p. 1 + owned p) ps
  opened_from [] = omega arith
  opened_from (p ∷ ps) =
      let m = length (p ∷ ps) in
      let rest = opened_look m (omega arith) (p ∷ []) ps (lowest unset (t (with_position w p))) (omega arith) in
      let tried = opened_try p (sum_by owned ps + m) (trail_look t (p ∷ []) ps (lowest unset (t (with_position w p))) w) (omega arith) rest in
      omega (arith, tried, sum_more owned (p ∷ ps), sum_by-cons owned p ps)

  pub opened_absent : opened (trail_absent t (boundaries s.text w.position (length s.text)) w) ≤ absent_choices s own w
  opened_absent = opened_from (boundaries s.text w.position (length s.text))
