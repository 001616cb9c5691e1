-- Places of a text, as the cells of a table speak of them.
use Rattle.std.proofs.Common.{◌≡◌, ℕ, ◌+◌, ◌<◌, ◌≤◌, ◌&&◌, Bool, true, false, not, List, length, Option, Some, None, refl, sym, ap, subst, ◌∙◌, arith, lt-ltb}
use Rattle.std.proofs.lemmas.Bool.{le-leb, lt-leb}
use Rattle.std.proofs.lemmas.Str.{len_utf8_bounds}
use Rattle.std.specs.Char.{len_utf8}
use Rattle.std.specs.Prelude.{is_none, nat_lt, option_map, unwrap_or}
use Rattle.regex_hir.specs.Text.{is_some_and, char_at, char_before}
use Rattle.fancy_regex_class.specs.declared.class.CharClassMatcher.{CharClassMatcher}
use Rattle.fancy_regex_states.specs.Attempts.{View, Shows, reads}
use Rattle.fancy_regex_states.specs.CharTests.{leaf_matches_char, passes}
use Rattle.fancy_regex_states.specs.First.{state_at}
use Rattle.fancy_regex_states.specs.declared.atom.Leaf.{Leaf}
use Rattle.fancy_regex_states.specs.declared.atom.Test.{Test}
use Rattle.fancy_regex_states.specs.declared.atom.Test.TheVariants.{StartText, EndText, StartLine, EndLine, WordBoundary, NotWordBoundary, LeftWordBoundary, RightWordBoundary, LeftWordHalfBoundary, RightWordHalfBoundary, StartLineOniguruma, Never, Continue, LookAhead, LookAheadNeg, LookBehind, LookBehindNeg}
use Rattle.fancy_regex_states.specs.declared.rules.Rules.{Rules}
use Rattle.fancy_regex_states.specs.declared.state.State.{State}
use Rattle.fancy_regex_states.specs.declared.state.State.TheVariants as S
use Rattle.fancy_regex_table.specs.Cells.{Parts, Search, IsPlace, sort_before}
use Rattle.fancy_regex_table.specs.Making.{ReadsAlike}
use Rattle.fancy_regex_table.specs.Meanings.{HoldsAs, ReadsAs}
use Rattle.fancy_regex_table.specs.Sorts.{sort_at, holds_between, AsksTest, IsAsked}
use Rattle.fancy_regex_table.proofs.LeafSetLemmas.{matched_in}
use Rattle.fancy_regex_table.specs.Tables.{IsSearchOf, IsTable, Stands, HasColumn, IsCharTo}
use Rattle.fancy_regex_table.proofs.DecodeLemmas.{alone_to}
use Rattle.fancy_regex_table.specs.declared.sort.Asked.{Asked}
use Rattle.fancy_regex_table.specs.declared.sort.Sort.{Sort}
use Rattle.fancy_regex_table.specs.declared.table.Place.{Place}
use Rattle.fancy_regex_table.specs.declared.table.Table.{Table}

and_true : (b : Bool) → (b && true) ≡ b
and_true true = refl
and_true false = refl

and_false : (a b : Bool) → (a && (b && false)) ≡ false
and_false true true = refl
and_false true false = refl
and_false false true = refl
and_false false false = refl

edge_shown : (e n b : Bool) → e ≡ true → n ≡ false → (b && not n) ≡ (e && b)
edge_shown e n b is_e is_n = rw (is_e, is_n) (and_true b)

masked : (e b : Bool) → e ≡ true → b ≡ (e && b)
masked e b is_e = rw is_e refl

-- an assertion that is asked for holds between the characters as between their sorts
pub passes_between : (matchers : List CharClassMatcher) (asked : Asked) (rules : Rules) (at : ℕ) (one other : Option ℕ) → rules.no_start_text ≡ false → rules.no_end_text ≡ false
    → (test : Test) → AsksTest asked test
    → passes matchers rules test at one other ≡ holds_between test (sort_at matchers asked rules.unicode one) (sort_at matchers asked rules.unicode other)
passes_between matchers asked rules at one other start end StartText a = edge_shown asked.edges rules.no_start_text (is_none one) (a.edges refl) start
passes_between matchers asked rules at one other start end EndText a = edge_shown asked.edges rules.no_end_text (is_none other) (a.edges refl) end
passes_between matchers asked rules at one other start end (StartLine crlf) a =
    let e : asked.edges ≡ true = a.edges refl in
    let l : asked.lines ≡ true = a.lines refl in
    rw (e, l) refl
passes_between matchers asked rules at one other start end (EndLine false) a =
    let e : asked.edges ≡ true = a.edges refl in
    let l : asked.lines ≡ true = a.lines refl in
    rw (e, l) refl
passes_between matchers asked rules at one other start end (EndLine true) a =
    let e : asked.edges ≡ true = a.edges refl in
    let l : asked.lines ≡ true = a.lines refl in
    rw (e, l) refl
passes_between matchers asked rules at one other start end WordBoundary a = let w : asked.words ≡ true = a.words refl in rw w refl
passes_between matchers asked rules at one other start end NotWordBoundary a = let w : asked.words ≡ true = a.words refl in rw w refl
passes_between matchers asked rules at one other start end LeftWordBoundary a = let w : asked.words ≡ true = a.words refl in rw w refl
passes_between matchers asked rules at one other start end RightWordBoundary a = let w : asked.words ≡ true = a.words refl in rw w refl
passes_between matchers asked rules at one other start end LeftWordHalfBoundary a = let w : asked.words ≡ true = a.words refl in rw w refl
passes_between matchers asked rules at one other start end RightWordHalfBoundary a = let w : asked.words ≡ true = a.words refl in rw w refl
passes_between matchers asked rules at one other start end (StartLineOniguruma crlf) a =
    let e : asked.edges ≡ true = a.edges refl in
    let l : asked.lines ≡ true = a.lines refl in
    rw (e, l) refl
passes_between matchers asked rules at one other start end Never a = refl
passes_between matchers asked rules at one other start end Continue a = absurd a.leaf
passes_between matchers asked rules at one other start end (LookAhead leaf) a = matched_in rules.unicode matchers other leaf asked.leaves a.leaf
passes_between matchers asked rules at one other start end (LookAheadNeg leaf) a = ap not (matched_in rules.unicode matchers other leaf asked.leaves a.leaf)
passes_between matchers asked rules at one other start end (LookBehind leaf) a = matched_in rules.unicode matchers one leaf asked.leaves a.leaf
passes_between matchers asked rules at one other start end (LookBehindNeg leaf) a = ap not (matched_in rules.unicode matchers one leaf asked.leaves a.leaf)

holds_as : (asked : Asked) (rules : Rules) (matchers : List CharClassMatcher) (view : View) (at : ℕ) (one other : Option ℕ) (before after : Sort)
    → rules.no_start_text ≡ false → rules.no_end_text ≡ false → Shows matchers rules view at one other
    → before ≡ sort_at matchers asked rules.unicode one → after ≡ sort_at matchers asked rules.unicode other
    → (state : State) → IsAsked asked state → HoldsAs view at before after state
holds_as asked rules matchers view at one other before after start end shows is_before is_after (S.Look test next) is_asked =
    shows.holds test ∙ passes_between matchers asked rules at one other start end test is_asked
    ∙ sym (ap (λ (s : Sort). holds_between test s after) is_before ∙ ap (holds_between test (sort_at matchers asked rules.unicode one)) is_after)
holds_as asked rules matchers view at one other before after start end shows is_before is_after (S.Read leaf next) is_asked = tt
holds_as asked rules matchers view at one other before after start end shows is_before is_after (S.Split first second) is_asked = tt
holds_as asked rules matchers view at one other before after start end shows is_before is_after (S.Enter g next) is_asked = tt
holds_as asked rules matchers view at one other before after start end shows is_before is_after (S.Leave g next) is_asked = tt
holds_as asked rules matchers view at one other before after start end shows is_before is_after (S.Back next) is_asked = tt
holds_as asked rules matchers view at one other before after start end shows is_before is_after (S.Ask part negated next) is_asked = tt
holds_as asked rules matchers view at one other before after start end shows is_before is_after (S.Atomic part same moved) is_asked = tt
holds_as asked rules matchers view at one other before after start end shows is_before is_after S.Match is_asked = tt

reads_inside : (view : View) (stop at : ℕ) (leaf : Leaf) (b : Bool) → view.has leaf at ≡ b → at < view.next at → view.next at ≤ stop → reads view stop leaf at ≡ b
unfolding reads
reads_inside view stop at leaf b has lower inside =
    let l = lt-ltb at (view.next at) lower in
    let r = le-leb (view.next at) stop inside in
    rw (has, l, r) (and_true b)

reads_past : (view : View) (stop at : ℕ) (leaf : Leaf) → stop < view.next at → reads view stop leaf at ≡ false
unfolding reads
reads_past view stop at leaf past =
    let r = lt-leb (view.next at) stop past in
    rw r (and_false (view.has leaf at) (nat_lt at (view.next at)))

reads_as : (unicode : Bool) (matchers : List CharClassMatcher) (view : View) (stop at : ℕ) (c sample : Option ℕ) (state : State)
    → ((leaf : Leaf) → reads view stop leaf at ≡ is_some_and c (leaf_matches_char unicode matchers leaf))
    → ReadsAlike unicode matchers c sample state → ReadsAs unicode matchers view stop at sample state
reads_as unicode matchers view stop at c sample (S.Read leaf next) here alike = here leaf ∙ alike
reads_as unicode matchers view stop at c sample (S.Look test next) here alike = tt
reads_as unicode matchers view stop at c sample (S.Split first second) here alike = tt
reads_as unicode matchers view stop at c sample (S.Enter g next) here alike = tt
reads_as unicode matchers view stop at c sample (S.Leave g next) here alike = tt
reads_as unicode matchers view stop at c sample (S.Back next) here alike = tt
reads_as unicode matchers view stop at c sample (S.Ask part negated next) here alike = tt
reads_as unicode matchers view stop at c sample (S.Atomic part same moved) here alike = tt
reads_as unicode matchers view stop at c sample S.Match here alike = tt

abbrev pub width_of : Option ℕ → ℕ
width_of None = 1
width_of (Some c) = len_utf8 c

width_is : (o : Option ℕ) → unwrap_or (option_map len_utf8 o) 1 ≡ width_of o
width_is None = refl
width_is (Some c) = refl

module _ {parts : Parts} {rules : Rules} {s : Search} {table : Table} (t : IsTable parts table) (search : IsSearchOf parts rules s) (place : Place)
    (stands : Stands parts.matchers table.asked table.unicode t.rows s place) where
  here_shows : Shows parts.matchers rules s.view place.at (char_before s.text place.at) (char_at s.text place.at)
  here_shows = search.shows place.at stands.boundary

  sort_here : sort_before stands.row ≡ sort_at parts.matchers table.asked rules.unicode (char_before s.text place.at)
  sort_here = stands.sort ∙ ap (λ (u : Bool). sort_at parts.matchers table.asked u (char_before s.text place.at)) (t.unicode ∙ sym search.unicode)

  all_hold : (other : Option ℕ) → char_at s.text place.at ≡ other → (after : Sort) → after ≡ sort_at parts.matchers table.asked parts.unicode other
      → (q : ℕ) → q < length parts.states → HoldsAs s.view place.at (sort_before stands.row) after (state_at parts.states q)
  all_hold other is after is_after q lt =
      holds_as table.asked rules parts.matchers s.view place.at (char_before s.text place.at) (char_at s.text place.at) (sort_before stands.row) after
      search.start_shown search.end_shown here_shows sort_here
      (is_after ∙ ap (λ (u : Bool). sort_at parts.matchers table.asked u other) (sym search.unicode) ∙ ap (sort_at parts.matchers table.asked rules.unicode) (sym is))
      (state_at parts.states q) (t.asks q lt)

  next_after : (c next : ℕ) → IsCharTo s.text place.at c next → s.view.next place.at ≡ next
  next_after c next char =
      subst (λ (o : Option ℕ). s.view.next place.at ≡ place.at + width_of o) char.here (here_shows.next ∙ ap (λ (n : ℕ). place.at + n) (width_is (char_at s.text place.at)))
      ∙ sym char.next_is

  -- a place before a character
  pub char_place : (c class next : ℕ) → IsCharTo s.text place.at c next → next ≤ s.stop → (h : HasColumn parts t.columns table.asked (Some c) class)
      → IsPlace parts s (sort_before stands.row) h.column.sort h.column.sample place.at next
  char_place c class after char fits h =
      let is = char.here in
      let next : s.view.next place.at ≡ after = next_after c after char in
      let long = (len_utf8_bounds c).0 in
      let low : place.at < s.view.next place.at = omega (arith, next, char.next_is, long) in
      let inside : s.view.next place.at ≤ s.stop = omega (arith, next, fits) in
      record {
        meaning = search.meaning;
        entry = search.entry;
        low = omega (arith, stands.low, stands.order);
        high = stands.high;
        boundary = stands.boundary;
        holds = all_hold (Some c) is h.column.sort h.sort;
        reads = λ q below.
            reads_as parts.unicode parts.matchers s.view s.stop place.at (Some c) h.column.sample (state_at parts.states q)
            (λ leaf.
            reads_inside s.view s.stop place.at leaf (leaf_matches_char parts.unicode parts.matchers leaf c)
            (here_shows.has leaf ∙ ap (λ (o : Option ℕ). is_some_and o (leaf_matches_char rules.unicode parts.matchers leaf)) is
            ∙ ap (λ (u : Bool). leaf_matches_char u parts.matchers leaf c) search.unicode) low inside)
            (h.alike q below);
        next_is = next;
        alone = λ p over less boundary. alone_to s.text place.at c after p char over less boundary;
      }

  -- the end of the text
  pub end_place : (class : ℕ) → char_at s.text place.at ≡ None → place.at ≡ s.stop → (h : HasColumn parts t.columns table.asked None class)
      → IsPlace parts s (sort_before stands.row) h.column.sort h.column.sample place.at (place.at + 1)
  end_place class is at_stop h =
      let next : s.view.next place.at ≡ place.at + 1 =
      subst (λ (o : Option ℕ). s.view.next place.at ≡ place.at + width_of o) is (here_shows.next ∙ ap (λ (n : ℕ). place.at + n) (width_is (char_at s.text place.at))) in
      let past : s.stop < s.view.next place.at = omega arith in
      record {
        meaning = search.meaning;
        entry = search.entry;
        low = omega (arith, stands.low, stands.order);
        high = stands.high;
        boundary = stands.boundary;
        holds = all_hold None is h.column.sort h.sort;
        reads = λ q below.
            reads_as parts.unicode parts.matchers s.view s.stop place.at None h.column.sample (state_at parts.states q)
            (λ leaf. reads_past s.view s.stop place.at leaf past) (h.alike q below);
        next_is = next;
        alone = λ p over less boundary. absurd (omega arith);
      }
