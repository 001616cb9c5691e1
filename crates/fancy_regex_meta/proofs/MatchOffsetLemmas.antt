-- A match lies in the range of its search, and its offsets begin with its span.
use Rattle.std.proofs.Common.{◌≡◌, ⊎_elim, ℕ, ◌*◌, ◌<◌, ◌≤◌, max, Bool, true, false, List, [], ◌∷◌, length, Option, Some, None, refl, sym, subst, ap, ◌∙◌, arith, rules, nat_lt, if◌then◌else◌}
use Rattle.std.specs.Prelude.{slice_set, slice_index, option_map, IfSome, IsCharBoundary, IsUtf8, string_bytes}
use Rattle.std.specs.Coded.{Coded, coded×, coded_list, coded_ℕ}
use Rattle.std.proofs.lemmas.Bool.{cases_lt, true≢false}
use Rattle.std.proofs.lemmas.List.{length-set, length-replicate}
use Rattle.std.proofs.lemmas.Option.{same_Some, none-some}
use Rattle.fancy_regex_tree.specs.Tree.{Tree}
use Rattle.fancy_regex_meaning.specs.Groups.{Pattern, pattern_of}
use Rattle.fancy_regex_meaning.specs.Positions.{boundaries}
use Rattle.fancy_regex_meaning.specs.WayLaws.{Each}
use Rattle.fancy_regex_meaning.specs.Searches.{Match, Search, match_at, match_of, is_admitted, start_way, starts, first_some, first_match}
use Rattle.fancy_regex_meaning.specs.Ways.{Pairs, MatchState, Setting}
use Rattle.fancy_regex_meaning.proofs.BoundaryLemmas.{IsCharBoundary-of_test}
use Rattle.fancy_regex_meaning.proofs.EachLemmas.{Each-weaker, Each-filter, Each-cond, boundaries_pass}
use Rattle.fancy_regex_meaning.proofs.MatchStartProofs.{chosen_holds, found_in_list, first_in_list, matches_are_spans}
use Rattle.fancy_regex_meaning.proofs.WayProofs.{Keeps, ways_go_well}
use Rattle.fancy_regex_meaning.proofs.SearchProofs.{matches_are_admitted, matches_cut_well}
use Rattle.fancy_regex_class.specs.RunInputs.{setting_for, group_slots, match_slots}
use Rattle.fancy_regex_class.specs.declared.input.RunInput.{RunInput}
use Rattle.fancy_regex_input.specs.SearchInputs.{FitsText}
use Rattle.fancy_regex_input.specs.declared.config.SearchConfig.{SearchConfig}
use Rattle.fancy_regex_meta.specs.MetaMatches.{meta_pattern, meta_match_for}
use Rattle.fancy_regex_meta.specs.Strategies.{search_of}
use Rattle.fancy_regex_meta.specs.MatchOffsets.{EndsSecond, IsMatchWithin}
use Rattle.fancy_regex_meta.specs.FoundParts.{wanted_parts, parts_in, found_parts}
use Rattle.fancy_regex_meta.specs.declared.found.FoundMatch.{FoundMatch}
use Rattle.fancy_regex_meta.specs.declared.found.MatchDetail.{MatchDetail}
use Rattle.fancy_regex_meta.specs.declared.found.MatchDetail.TheVariants.{Span, Groups}
use Rattle.fancy_regex_meta.specs.Patterns.{tree_in}
use Rattle.fancy_regex_meta.specs.declared.meta_regex.MetaRegex.{MetaRegex}

-- each way has as many pairs as it began with
keeps_count : (s : Setting) (n : ℕ) → Keeps s (λ w. length w.pairs ≡ n)
keeps_count s n = record {
  past_char = λ w c h e. h;
  before_char = λ w c h e. h;
  goes_back = λ w v h k. k;
  pair = λ k w v h i le. length-set v.pairs k (Some (w.position, v.position)) ∙ i;
  keep = λ w h. h;
  again = λ k casei a b w h e same. h;
  jump = λ w q h le e. h;
}

module _ (s : Setting) (pattern : Pattern) (find : Search) where
  -- Where a match is found.
  pub record Lies (m : Match) : Type 0 where
    pub after : find.first ≤ m.start
    pub ordered : m.start ≤ m.end
    pub inside : m.end ≤ find.stop
    pub starts_well : IsCharBoundary s.text m.start
    pub ends_well : IsCharBoundary s.text m.end
    pub many : length m.pairs ≡ length pattern.groups

  has_pairs : (p : ℕ) (m : Match) → match_at s pattern find p ≡ Some m → length m.pairs ≡ length pattern.groups
  unfolding match_at
  has_pairs p m e =
      let n = length pattern.groups in
      let Good : MatchState → Type 0 = λ w. length w.pairs ≡ n in
      let found = found_in_list match_of _ m e in
      let lead = ways_go_well s Good (keeps_count s n) pattern.groups pattern.first_group pattern.tree (start_way pattern p) (length-replicate n None) in
      let all = Each-filter Good (is_admitted find) _ (Each-weaker _ Good (λ w o. o.1) _ lead) in
      let well = chosen_holds Good find.options.longest _ all found.0 found.1 in
      subst (λ (x : Match). length x.pairs ≡ n) found.2 well

  -- each start that is tried lies after the first, on a boundary
  pub starts_lie : IsCharBoundary s.text find.first → find.stop ≤ length s.text → Each (λ p. (find.first ≤ p) × IsCharBoundary s.text p) (starts s pattern find)
  starts_lie h inside =
      Each-cond _ (nat_lt find.stop find.first) [] _ tt
      (Each-cond _ find.anchored (find.first ∷ []) _ ((omega arith, h), tt)
      (Each-weaker _ _ (λ b o. (o.0.0, IsCharBoundary-of_test s.text b (omega (arith, o.0.1)) o.1)) _ (boundaries_pass s.text find.first find.stop)))

  pub first_lies : IsUtf8 s.text → IsCharBoundary s.text find.first → find.stop ≤ length s.text → (m : Match) →
      first_match s pattern find ≡ Some m → Lies m
  unfolding first_match
  first_lies utf8 h inside m e =
      let found = first_in_list _ _ _ (starts_lie h inside) m e in
      let span = matches_are_spans s pattern find found.0 m found.2 in
      let cuts = matches_cut_well s pattern find found.0 m utf8 found.1.1 found.2 in
      record {
        after = omega (arith, found.1.0, span.0);
        ordered = span.1;
        inside = (matches_are_admitted s pattern find found.0 m found.2).3;
        starts_well = cuts.0;
        ends_well = cuts.1;
        many = has_pairs found.0 m found.2;
      }

length-flat : (ps : Pairs) → length (group_slots ps) ≡ 2 * length ps
length-flat [] = refl
length-flat (None ∷ ps) = omega (arith, length-flat ps)
length-flat (Some pair ∷ ps) = omega (arith, length-flat ps)

-- The list begins with these two.
record Begins (xs : List ℕ) (a b : ℕ) : Type 0 where
  long : 2 ≤ length xs
  first : slice_index xs 0 ≡ a
  second : slice_index xs 1 ≡ b

begins_so : (xs : List ℕ) (a b : ℕ) → 2 ≤ length xs → Begins (slice_set (slice_set xs 0 a) 1 b) a b
begins_so [] a b h = absurd (omega (arith, h))
begins_so (x ∷ []) a b h = absurd (omega (arith, h))
begins_so (x ∷ y ∷ xs) a b h = record { long = omega (arith, h); first = refl; second = refl }

-- the group offsets of a match of a tree
places_begin : (t : Tree) (m : Match) → length m.pairs ≡ length (pattern_of t).groups → Begins (match_slots (pattern_of t) m) m.start m.end
places_begin t m many = begins_so (group_slots m.pairs) m.start m.end (omega (arith, many, length-flat m.pairs))

some-of : {A B : Type 0} (f : A → B) (o : Option A) (v : B) → Some v ≡ option_map f o → (m : A) × (o ≡ Some m) × (v ≡ f m)
some-of f None v e = absurd (none-some v (sym e))
some-of f (Some m) v e = (m, refl, same_Some v (f m) e)

-- a search begins between two characters
pub first_fits : (text : List ℕ) (a : SearchConfig) → FitsText text a → max a.start a.range_start ≤ a.range_end → IsCharBoundary text (max a.start a.range_start)
first_fits text a fits inside =
    ⊎_elim
    (λ (lt : a.start < a.range_start). let e : a.range_start ≡ max a.start a.range_start = omega arith in subst (IsCharBoundary text) e fits.range_start)
    (λ (ge : a.range_start ≤ a.start).
    let e : a.start ≡ max a.start a.range_start = omega arith in
    subst (IsCharBoundary text) e (fits.start (omega (arith, inside, fits.range_end.0))))
    (cases_lt a.start a.range_start)

-- the offsets of a match's groups begin with its span
parts-same : (t : Tree) (o : Option Match) → ((m : Match) → o ≡ Some m → length m.pairs ≡ length (pattern_of t).groups) →
    option_map parts_in (option_map (match_slots (pattern_of t)) o) ≡ option_map (wanted_parts Groups (pattern_of t)) o
parts-same t None many = refl
parts-same t (Some m) many =
    let begins = places_begin t m (many m refl) in
    λ i. Some (begins.first i, (begins.second i, match_slots (pattern_of t) m))

-- those of the match of a search
pub first-parts : (t : Tree) (s : Setting) (find : Search) → IsUtf8 s.text → IsCharBoundary s.text find.first → find.stop ≤ length s.text →
    option_map parts_in (option_map (match_slots (pattern_of t)) (first_match s (pattern_of t) find)) ≡ option_map (wanted_parts Groups (pattern_of t)) (first_match s (pattern_of t) find)
first-parts t s find utf8 h inside =
    parts-same t (first_match s (pattern_of t) find) (λ m e. (first_lies s (pattern_of t) find utf8 h inside m e).many)

-- parts have codes, so that equations between them have one proof
pub coded_parts : Coded (ℕ × (ℕ × List ℕ))
coded_parts = coded× coded_ℕ (coded× coded_ℕ (coded_list coded_ℕ))

ends_second : (t : Tree) (wanted : MatchDetail) (x : FoundMatch) (m : Match) → found_parts x ≡ wanted_parts wanted (pattern_of t) m → length m.pairs ≡ length (pattern_of t).groups → EndsSecond wanted x
ends_second t Span x m e many = tt
ends_second t Groups x m e many =
    ap (λ (p : ℕ × (ℕ × List ℕ)). slice_index p.1.1 1) e ∙ (places_begin t m many).second ∙ sym (ap (λ (p : ℕ × (ℕ × List ℕ)). p.1.0) e)

-- What is found where a match lies is within the range.
lies_within : (s : Setting) (t : Tree) (find : Search) (wanted : MatchDetail) (x : FoundMatch) (m : Match) → found_parts x ≡ wanted_parts wanted (pattern_of t) m →
    Lies s (pattern_of t) find m → IsMatchWithin wanted s.text find.first find.stop x
lies_within s t find wanted x m e lies =
    let start : x.start ≡ m.start = ap (λ (p : ℕ × (ℕ × List ℕ)). p.0) e in
    let end : x.end ≡ m.end = ap (λ (p : ℕ × (ℕ × List ℕ)). p.1.0) e in
    record {
      after = omega (arith, start, lies.after);
      cuts = record {
        ordered = omega (arith, start, end, lies.ordered);
        starts = subst (IsCharBoundary s.text) (sym start) lies.starts_well;
        ends = subst (IsCharBoundary s.text) (sym end) lies.ends_well;
      };
      inside = omega (arith, end, lies.inside);
      second = ends_second t wanted x m e lies.many;
    }

-- what a search has found lies where it was looked for
pub found_within : (s : MetaRegex) (text : List ℕ) (input : RunInput) (wanted : MatchDetail) (found : Option FoundMatch) →
    IsUtf8 text → IsCharBoundary text input.first → input.range.end ≤ length text →
    option_map found_parts found ≡ option_map (wanted_parts wanted (meta_pattern s)) (meta_match_for s text input) →
    IfSome found (IsMatchWithin wanted text input.first input.range.end)
found_within s text input wanted None utf8 h inside e = tt
found_within s text input wanted (Some x) utf8 h inside e =
    let f = some-of (wanted_parts wanted (meta_pattern s)) (meta_match_for s text input) (found_parts x) e in
    let setting = setting_for s.options.unicode_mode text input in
    let find = search_of s.options input in
    lies_within setting (tree_in s.options (string_bytes s.pattern)) find wanted x f.0 f.2 (first_lies setting (meta_pattern s) find utf8 h inside f.0 f.1)

nat_lt-no : (a b : ℕ) → b ≤ a → nat_lt a b ≡ false
nat_lt-no a b h = search rules

alone : {B : Type 0} (o : Option B) → elim o [ None ↦ None | Some y ↦ Some y ] ≡ o
alone None = refl
alone (Some y) = refl

tries_one : {B : Type 0} (f : ℕ → Option B) (p : ℕ) (others : List ℕ) (past anchored : Bool) → past ≡ false → anchored ≡ true
    → first_some f (if past then [] else if anchored then p ∷ [] else others) ≡ f p
tries_one f p others true anchored e h = absurd (true≢false e)
tries_one f p others false false e h = absurd (true≢false (sym h))
tries_one f p others false true e h = alone (f p)

-- an anchored search tries its first start alone
pub anchored_match : (s : Setting) (pattern : Pattern) (find : Search) → find.anchored ≡ true → find.first ≤ find.stop
    → first_match s pattern find ≡ match_at s pattern find find.first
unfolding first_match
anchored_match s pattern find anchored inside =
    tries_one (match_at s pattern find) find.first (boundaries s.text find.first find.stop) (nat_lt find.stop find.first) find.anchored (nat_lt-no find.stop find.first inside) anchored
