-- What the table alone tells of the matches of a search.
use Rattle.std.proofs.Common.{◌≡◌, ℕ, ◌+◌, ◌-◌, ◌*◌, ◌^◌, ◌<◌, ◌≤◌, Bool, false, List, ◌∷◌, Option, Some, None, length, refl, sym, ap, ap₂, subst, ◌∙◌, arith, min, IsUtf8, IsCharBoundary}
use Rattle.std.proofs.lemmas.Nat.{mul-le}
use Rattle.std.specs.Prelude.{IfSome}
use Rattle.std.specs.Char.{len_utf8}
use Rattle.regex_hir.specs.Text.{char_at}
use Rattle.fancy_regex_class.specs.Looks.{looked_text, look_count, SameCounter}
use Rattle.fancy_regex_class.specs.declared.counted.Counted.{Counted}
use Rattle.fancy_regex_states.specs.Attempts.{Continuation}
use Rattle.fancy_regex_table.specs.Ends.{end_of}
use Rattle.fancy_regex_linear.specs.Meaning.{Spot}
use Rattle.fancy_regex_linear.specs.Attempt.{trace_end}
use Rattle.fancy_regex_linear.specs.Search.{AllFail}
use Rattle.fancy_regex_linear.specs.Visited.{Has, visited_bound}
use Rattle.fancy_regex_linear.specs.Alone.{AllFailBetween, AloneSays, IsAloneIn, IsUnknown, IsUnknownAt, IsLookedAt, IsLookedFor, IsNoneFrom, IsOnWay}
use Rattle.fancy_regex_linear.specs.Find.{earliest, attempted, places, places_from}
use Rattle.fancy_regex_linear.specs.Settled.{FailBetween, IsSettled, IsSettledAfter}
use Rattle.fancy_regex_linear.specs.Starts.{IsAfter, IsStart, spot_from}
use Rattle.fancy_regex_linear.specs.declared.alone.Alone.{Alone}
use Rattle.fancy_regex_linear.specs.declared.alone.Alone.TheVariants.{Found, NoMatch, Unknown}
use Rattle.fancy_regex_linear.specs.declared.memory.SearchMemory.{SearchMemory}
use Rattle.fancy_regex_linear.specs.declared.search.SearchContext.{SearchContext}
use Rattle.fancy_regex_linear.specs.declared.settle.Settled.{Settled}
use Rattle.fancy_regex_linear.specs.declared.starts.Start.{Start}
use Rattle.fancy_regex_linear.specs.declared.visited.Visited.{Visited}
use Rattle.fancy_regex_linear.proofs.DfsLemmas.{trace_end_none}
use Rattle.fancy_regex_linear.proofs.SettleLemmas.{fail_on, skip_to, trace_of_end}
use Rattle.fancy_regex_linear.proofs.StartLemmas.{found_here, none_from}
use Rattle.fancy_regex_linear.proofs.VisitedLemmas.{none_has}

pub all_fail_on : (context : SearchContext) (text : List ℕ) (low from high : ℕ) → AllFailBetween context text low from → AllFailBetween context text from high
    → AllFailBetween context text low high
all_fail_on context text low from high one two view go explains = fail_on context text go low from high (one view go explains) (two view go explains)

-- looks after those on the way
pub looked_on : (context : SearchContext) (a b c : Counted) (from at tried passed : ℕ) → IsOnWay context a b from at → IsLookedFor b c tried passed
    → IsLookedFor a c (at - from + tried) (at - from + passed)
looked_on context a b c from at tried passed way here = record {
  at_least = omega (arith, way.at_least, here.at_least);
  at_most = omega (arith, way.at_most, here.at_most);
  text = here.text ∙ way.text;
  same_counter = here.same_counter ∙ way.same_counter;
}

-- so many and so many
pub looked_as : {a b : Counted} {tried passed more others : ℕ} → IsLookedFor a b tried passed → tried ≡ more → passed ≡ others → IsLookedFor a b more others
looked_as {a} {b} {tried} {passed} {more} {others} is one two = record {
  at_least = omega (arith, is.at_least, one);
  at_most = omega (arith, is.at_most, two);
  text = is.text;
  same_counter = is.same_counter;
}

pub looked_then : (context : SearchContext) (a b c : Counted) (from at : ℕ) (place : ℕ × Option ℕ) → IsOnWay context a b from at → IsLookedAt context b c at place
    → IsLookedAt context a c from place
looked_then context a b c from at place way here = record {
  range = (omega (arith, way.range.0, here.range.0), here.range.1);
  boundary = subst (λ (t : List ℕ). IsCharBoundary t place.0) way.text here.boundary;
  after = here.after ∙ ap (λ (t : List ℕ). char_at t place.0) way.text;
  next = subst (λ (t : List ℕ). IfSome place.1 (λ (x : ℕ). IsCharBoundary t (place.0 + len_utf8 x))) way.text here.next;
  fails = all_fail_on context (looked_text a) from at place.0 way.fails (subst (λ (t : List ℕ). AllFailBetween context t at place.0) way.text here.fails);
  looked = looked_as (looked_on context a b c from at (place.0 - at + 1) (place.0 - at) way here.looked) (omega (arith, way.range.0, here.range.0))
      (omega (arith, way.range.0, here.range.0));
}

pub none_then : (context : SearchContext) (a b c : Counted) (from at : ℕ) → IsOnWay context a b from at → IsNoneFrom context b c at → IsNoneFrom context a c from
none_then context a b c from at way here = record {
  fails = all_fail_on context (looked_text a) from at (context.stop + 1) way.fails
      (subst (λ (t : List ℕ). AllFailBetween context t at (context.stop + 1)) way.text here.fails);
  looked = looked_as (looked_on context a b c from at (context.stop - at + 1) (context.stop - at) way here.looked) (omega (arith, way.range))
      (omega (arith, way.range));
}

-- the table does not tell of a start at which the text was looked at
pub unknown_says : (context : SearchContext) (a c : Counted) (first from read : ℕ) (place : ℕ × Option ℕ) (alone : Alone) → IsUtf8 (looked_text a)
    → context.stop ≤ length (looked_text a) → IsLookedAt context a c first place → (place.0 ≤ from) × (from ≤ read) × (read ≤ context.stop)
    → AllFailBetween context (looked_text a) place.0 from → IsCharBoundary (looked_text a) from × IsCharBoundary (looked_text a) read → IsUnknown context place from read alone
    → AloneSays context a c first alone
unknown_says context a c first from read place (Found start end) utf8 inside here range fails boundaries is = absurd is
unknown_says context a c first from read place NoMatch utf8 inside here range fails boundaries is = absurd is
unknown_says context a c first from read place (Unknown start) utf8 inside here range fails boundaries is =
    let text = looked_text a in
    let at_is = is.0 in
    let split = is.4 text utf8 here.boundary inside (sym here.after) in
    let unknown : IsUnknownAt context text start.place start.from start.read = record {
      start = record {
        low = omega arith;
        high = omega (arith, at_is, here.range.1);
        boundary = rw at_is here.boundary;
        after = is.1 ∙ here.after ∙ ap (char_at text) (sym at_is);
        past = rw (at_is, is.1) here.next;
        next = rw at_is (is.5 text here.next);
      };
      split = rw at_is split;
      fails = rw (at_is, is.2) fails;
      range = (omega (arith, at_is, is.2, range.0), omega (arith, is.2, is.3, range.1), omega (arith, is.3, range.2));
      boundaries = rw (is.2, is.3) boundaries;
    } in
    (unknown, omega (arith, at_is, here.range.0), rw at_is here.fails, rw at_is here.looked)

looks_in : (looks old spent start m count extra : ℕ) → looks + start * count ≤ old + spent + extra → spent ≤ (start + m) * count → looks ≤ old + m * count + extra
looks_in looks old spent start m count extra a b = omega (arith, a, b)

-- the looks at the pairs from a place on, and others
pub looks_from : (looks old spent start stop count extra : ℕ) → start ≤ stop → looks + start * count ≤ old + spent + extra → spent ≤ (stop + 1) * count
    → looks ≤ old + (stop - start + 1) * count + extra
looks_from looks old spent start stop count extra low a b =
    let split : stop + 1 ≡ start + (stop - start + 1) = omega arith in
    looks_in looks old spent start (stop - start + 1) count extra a (subst (λ (k : ℕ). spent ≤ k * count) split b)

-- two looks at each place are no more than those at it and at one pair there
pub looks_twice : (looks old n count : ℕ) → looks ≤ old + 2 * n + 1 → 0 < count → looks ≤ old + (n + 1) * count + (n + 1)
looks_twice looks old n count a some =
    let one : n * 1 ≤ n * count = mul-le n 1 n count (omega arith) (omega (arith, some)) in
    omega (arith, one, a)

pub looks_then : (looks between old n m count : ℕ) → between ≤ old + 2 * n + 1 → looks ≤ between + (m + 1) * count + m → 0 < count
    → looks ≤ old + (n + m + 1) * count + (n + m + 1)
looks_then looks between old n m count a b some =
    let one : n * 1 ≤ n * count = mul-le n 1 n count (omega arith) (omega (arith, some)) in
    omega (arith, one, a, b)

-- what was settled is so where no match starts before `from`, if it is so at any rate
pub settled_after : (context : SearchContext) (text : List ℕ) (old new : ℕ) (span_only : Bool) (place : Start) (from : ℕ) (memory new_memory : SearchMemory) (settled : Settled)
    → IsSettled context text old new false span_only place memory new_memory settled
    → IsSettledAfter context text old new span_only place from memory new_memory settled
settled_after context text old new span_only place from memory new_memory settled is = record {
  says = λ view go explains failed early. is.says view go explains failed;
  on = is.on;
}

-- nothing is visited in a memory that begins anew
pub none_visited : (longest : Bool) (go : ℕ → Continuation) (visited : Visited) → visited.rows ≡ 0 → AllFail longest go (Has visited)
none_visited longest go visited rows q i r has reaches = absurd (none_has visited q i rows has)

module _ (context : SearchContext) (text : List ℕ) (go : ℕ → Continuation) (slots : List ℕ) where
  abbrev spot : ℕ → Option Spot
  spot = spot_from go context.entry slots

  no_spot : (p : ℕ) → (go context.entry p).answer ≡ None → spot p ≡ None
  no_spot p e = ap (trace_end slots) e ∙ trace_end_none slots

  -- the starts before a later one fail
  pub later_says : (from to : ℕ) → from ≤ to → to ≤ context.stop → context.stop ≤ length text → FailBetween context text go from to
      → (earliest (spot_from go context.entry slots) (places text false from context.stop) ≡ earliest (spot_from go context.entry slots) (places text false to context.stop))
      × (attempted (spot_from go context.entry slots) (places text false from context.stop)
      ≤ to - from + attempted (spot_from go context.entry slots) (places text false to context.stop))
  later_says from to low high inside fails = skip_to spot text from to context.stop low high (λ p a b boundary. no_spot p (fails p a b boundary)) inside

  -- all of them fail
  pub none_says : (from : ℕ) → IsCharBoundary text from → from ≤ context.stop → context.stop ≤ length text → FailBetween context text go from (context.stop + 1)
      → (earliest (spot_from go context.entry slots) (places text false from context.stop) ≡ None)
      × (attempted (spot_from go context.entry slots) (places text false from context.stop) ≤ context.stop - from + 1)
  none_says from boundary high inside fails =
      none_from spot text false from context.stop boundary high inside (λ i b low le. no_spot i (fails i low (omega arith) b))

  -- the first match ends there
  pub first_says : (from start end : ℕ) → (from ≤ start) × (start ≤ context.stop) → IsCharBoundary text start → context.stop ≤ length text → FailBetween context text go from start
      → end_of (go context.entry start).answer ≡ Some end
      → (found : List ℕ) × (earliest (spot_from go context.entry slots) (places text false from context.stop) ≡ Some (record { start = start; way = record { at = end; slots = found } }))
      × (attempted (spot_from go context.entry slots) (places text false from context.stop) ≤ start - from + 1)
  first_says from start end range boundary inside fails ends =
      let way = trace_of_end slots (go context.entry start).answer end ends in
      let on = later_says from start range.0 range.1 inside fails in
      let here = found_here spot text false start context.stop (record { at = end; slots = way.0 }) boundary range.1 (sym way.1) in
      (way.0, on.0 ∙ here.0, omega (arith, on.1, here.1))

-- the looks of a search that begins with an empty set of pairs
pub looks_anew : (looks old : ℕ) (visited : Visited) (start stop count extra : ℕ) → start ≤ stop → visited.base ≡ start → visited.count ≡ count
    → looks + visited_bound visited ≤ old + (stop + 1) * count + extra → looks ≤ old + (stop - start + 1) * count + extra
looks_anew looks old visited start stop count extra low base same most =
    let first : visited.base * visited.count ≡ start * count = ap₂ (λ (a b : ℕ). a * b) base same in
    looks_from looks old ((stop + 1) * count) start stop count extra low (omega (arith, first, most)) (omega arith)

-- what the table alone says tells of the looks
pub looked_alone : (context : SearchContext) (old new : Counted) (first : ℕ) (alone : Alone) → AloneSays context old new first alone
    → (min (look_count old) (2 ^ 64 - 1) ≤ look_count new) × (looked_text new ≡ looked_text old) × SameCounter old new
looked_alone context old new first (Found start end) says = (omega (arith, says.1.at_least), says.1.text, says.1.same_counter)
looked_alone context old new first NoMatch says = (omega (arith, says.looked.at_least), says.looked.text, says.looked.same_counter)
looked_alone context old new first (Unknown start) says = (omega (arith, says.3.at_least), says.3.text, says.3.same_counter)

-- a start of which it does not tell is one of the text, which stays
pub alone_in : (context : SearchContext) (old new : Counted) (first : ℕ) (alone : Alone) → AloneSays context old new first alone
    → IsAloneIn context (looked_text new) alone
alone_in context old new first (Found start end) says = tt
alone_in context old new first NoMatch says = tt
alone_in context old new first (Unknown start) says =
    subst (λ (text : List ℕ). IsUnknownAt context text start.place start.from start.read) (sym says.3.text) says.0
