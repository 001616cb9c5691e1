-- A search after a match is one of the iteration that found it.
use Rattle.std.proofs.Common.{◌≡◌, ℕ, ◌<◌, ◌≤◌, max, Bool, false, List, [], ◌∷◌, refl, Option, Some, None, ◌==◌, if◌then◌else◌, subst, ap, sym, ◌∙◌}
use Rattle.fancy_regex_meaning.specs.Positions.{position_after}
use Rattle.fancy_regex_meaning.specs.Searches.{Match}
use Rattle.fancy_regex_input.specs.declared.config.SearchConfig.{SearchConfig}
use Rattle.fancy_regex_meta.specs.MetaMatches.{meta_match_from}
use Rattle.fancy_regex_meta.specs.declared.error.Error.{Error}
use Rattle.fancy_regex_meta.specs.declared.meta_regex.MetaRegex.{MetaRegex}
use Rattle.fancy_regex_search.specs.IterationErrors.{IsErrorAfter, IsIterationError}
use Rattle.fancy_regex_search.specs.RemainingMatches.{next_start}
use Rattle.fancy_regex_search.specs.IterationSearches.{MakesSearch, next, following, KeepsSearches, MakesSearchFrom, SkipsTo, at_once, skipped, KeepsSkips, continue_disabled_after, IsReturned, ComesAfter, no_item, one_item, ComesTo, PassesItem}
use Rattle.fancy_regex_search.specs.declared.match_iter.IterState.{IterState}
use Rattle.fancy_regex_search.proofs.RemainingLemmas.{found-same, nat_lt-yes, nat_lt-no}

pub long_next : (text : List ℕ) (start end : ℕ) → start < end → end ≡ next_start text start end
long_next text start end h = sym (ap (λ b. if b then end else position_after text end) (nat_lt-yes start end h))

pub empty_next : (text : List ℕ) (start end : ℕ) → end ≤ start → position_after text end ≡ next_start text start end
empty_next text start end h = sym (ap (λ b. if b then end else position_after text end) (nat_lt-no start end h))

pub long_off : (q : ℕ) (m : Match) → m.start < m.end → false ≡ continue_disabled_after q m
long_off q m h = sym (ap (λ b. if b then false else (m.end == q)) (nat_lt-yes m.start m.end h))

pub empty_off : (q : ℕ) (m : Match) → m.end ≤ m.start → (m.end == q) ≡ continue_disabled_after q m
empty_off q m h = sym (ap (λ b. if b then false else (m.end == q)) (nat_lt-no m.start m.end h))

-- the same from a start that is given
restarted : (s : MetaRegex) (text : List ℕ) (a : SearchConfig) (p q : ℕ) (continue_disabled o : Bool) → MakesSearchFrom s text (record a { start = p }) continue_disabled q o →
    MakesSearch text (meta_match_from s text a) a.range_start a.range_end p continue_disabled q o
restarted s text a p q continue_disabled o made = subst (λ (f : ℕ → Bool → Option Match). MakesSearch text f a.range_start a.range_end p continue_disabled q o) (found-same s text a p) made

pub passed : (s : MetaRegex) (text : List ℕ) (a b : SearchConfig) (continue_disabled still : Bool) (m : Match) (p : ℕ) → max a.start a.range_start ≤ a.range_end →
    meta_match_from s text a (max a.start a.range_start) continue_disabled ≡ Some m → b ≡ record a { start = p } → p ≡ next_start text m.start m.end →
    still ≡ continue_disabled_after (max a.start a.range_start) m → KeepsSearches s text a continue_disabled b still
passed s text a b continue_disabled still m p inside found is at flag q o made =
    let first = subst (λ (x : SearchConfig). MakesSearchFrom s text x still q o) is made in
    let second = subst (λ (k : ℕ). MakesSearchFrom s text (record a { start = k }) still q o) at first in
    let third = subst (λ (x : Bool). MakesSearchFrom s text (record a { start = next_start text m.start m.end }) x q o) flag second in
    following a.start continue_disabled m q o inside found (restarted s text a (next_start text m.start m.end) q (continue_disabled_after (max a.start a.range_start) m) o third)

-- what a state that skipped a match comes to by skipping, the state before comes to
pub skip_passed : (s : MetaRegex) (text : List ℕ) (a b : SearchConfig) (before after : IterState) (m : Match) (p : ℕ) → max a.start a.range_start ≤ a.range_end →
    meta_match_from s text a (max a.start a.range_start) before.continue_disabled ≡ Some m → m.end ≤ m.start → before.last ≡ Some m.end →
    b ≡ record a { start = p } → p ≡ next_start text m.start m.end → after.continue_disabled ≡ continue_disabled_after (max a.start a.range_start) m → after.last ≡ Some m.end →
    KeepsSkips s text a before b after
skip_passed s text a b before after m p inside found empty last is at flag end q o made =
    let first = subst (λ (x : SearchConfig). SkipsTo text (meta_match_from s text x) x.range_start x.range_end after.last x.start after.continue_disabled q o) is made in
    let second = subst (λ (f : ℕ → Bool → Option Match). SkipsTo text f a.range_start a.range_end after.last p after.continue_disabled q o) (found-same s text a p) first in
    let third = subst (λ (k : ℕ). SkipsTo text (meta_match_from s text a) a.range_start a.range_end after.last k after.continue_disabled q o) at second in
    let fourth = subst (λ (x : Bool). SkipsTo text (meta_match_from s text a) a.range_start a.range_end after.last (next_start text m.start m.end) x q o) flag third in
    let fifth =
    subst (λ (l : Option ℕ). SkipsTo text (meta_match_from s text a) a.range_start a.range_end l (next_start text m.start m.end) (continue_disabled_after (max a.start a.range_start) m) q o) end fourth in
    skipped before.last a.start before.continue_disabled m q o inside found empty last fifth

-- a search that found nothing, of an iteration that has moved its start
pub none_found : (s : MetaRegex) (text : List ℕ) (old here new : SearchConfig) (flag still : Bool) → here ≡ record old { start = here.start } → new ≡ here → still ≡ flag →
    meta_match_from s text here (max here.start here.range_start) flag ≡ None → meta_match_from s text old (max new.start old.range_start) still ≡ None
none_found s text old here new flag still moved is same none =
    let there = subst (λ (x : SearchConfig). meta_match_from s text x (max x.start x.range_start) flag ≡ None) moved none in
    (λ i. meta_match_from s text old (max (is i).start old.range_start) (same i))
    ∙ sym (ap (λ (f : ℕ → Bool → Option Match). f (max here.start old.range_start) flag) (found-same s text old here.start)) ∙ there

-- a search that is come to by skipping is one of the iteration
pub skips_made : (text : List ℕ) (find : ℕ → Bool → Option Match) (first end : ℕ) (last : Option ℕ) (p : ℕ) (continue_disabled : Bool) (q : ℕ) (o : Bool) →
    SkipsTo text find first end last p continue_disabled q o → max q first ≤ end → MakesSearch text find first end p continue_disabled q o
skips_made text find first end _ _ _ _ _ (at_once last p continue_disabled) inside = next p continue_disabled inside
skips_made text find first end _ _ _ _ _ (skipped last p continue_disabled m q o within found empty same later) inside =
    following p continue_disabled m q o within found (skips_made text find first end (Some m.end) (next_start text m.start m.end) (continue_disabled_after (max p first) m) q o later inside)

-- a search that is come to after items is the same for a configuration that is moved
pub comes_from : (s : MetaRegex) (text : List ℕ) (a b : SearchConfig) (items : List Match) (l : Option ℕ) (p : ℕ) (off : Bool) (q : ℕ) (o : Bool) → b ≡ record a { start = b.start } →
    ComesTo s text b items l p off q o → ComesTo s text a items l p off q o
comes_from s text a b items l p off q o is h =
    let there = subst (λ (x : SearchConfig). ComesTo s text x items l p off q o) is h in
    subst (λ (f : ℕ → Bool → Option Match). ComesAfter text f a.range_start a.range_end items l p off q o) (found-same s text a b.start) there

pub comes_to : (s : MetaRegex) (text : List ℕ) (a b : SearchConfig) (items : List Match) (l : Option ℕ) (p : ℕ) (off : Bool) (q : ℕ) (o : Bool) → b ≡ record a { start = b.start } →
    ComesTo s text a items l p off q o → ComesTo s text b items l p off q o
comes_to s text a b items l p off q o is h =
    let there = subst (λ (f : ℕ → Bool → Option Match). ComesAfter text f a.range_start a.range_end items l p off q o) (sym (found-same s text a b.start)) h in
    subst (λ (x : SearchConfig). ComesTo s text x items l p off q o) (sym is) there

pub skips_from : (s : MetaRegex) (text : List ℕ) (a b : SearchConfig) (l : Option ℕ) (p : ℕ) (off : Bool) (q : ℕ) (o : Bool) → b ≡ record a { start = b.start } →
    SkipsTo text (meta_match_from s text b) b.range_start b.range_end l p off q o → SkipsTo text (meta_match_from s text a) a.range_start a.range_end l p off q o
skips_from s text a b l p off q o is h =
    let there = subst (λ (x : SearchConfig). SkipsTo text (meta_match_from s text x) x.range_start x.range_end l p off q o) is h in
    subst (λ (f : ℕ → Bool → Option Match). SkipsTo text f a.range_start a.range_end l p off q o) (found-same s text a b.start) there

pub skips_to : (s : MetaRegex) (text : List ℕ) (a b : SearchConfig) (l : Option ℕ) (p : ℕ) (off : Bool) (q : ℕ) (o : Bool) → b ≡ record a { start = b.start } →
    SkipsTo text (meta_match_from s text a) a.range_start a.range_end l p off q o → SkipsTo text (meta_match_from s text b) b.range_start b.range_end l p off q o
skips_to s text a b l p off q o is h =
    let there = subst (λ (f : ℕ → Bool → Option Match). SkipsTo text f a.range_start a.range_end l p off q o) (sym (found-same s text a b.start)) h in
    subst (λ (x : SearchConfig). SkipsTo text (meta_match_from s text x) x.range_start x.range_end l p off q o) (sym is) there

same_found : (find : Option Match) (m k : Match) → find ≡ Some m → find ≡ Some k → m ≡ k
same_found find m k e f = cc

module _ (text : List ℕ) (find : ℕ → Bool → Option Match) (first end : ℕ) where
  -- a search that finds a match to return is not skipped
  not_skipped : (last : Option ℕ) (p : ℕ) (off : Bool) (at : ℕ) (x : Bool) → SkipsTo text find first end last p off at x → (m : Match) → find (max p first) off ≡ Some m → IsReturned last m →
      (p ≡ at) × (off ≡ x)
  not_skipped _ _ _ _ _ (at_once last p off) m found returned = (refl, refl)
  not_skipped _ _ _ _ _ (skipped last p off k at x inside other empty same later) m found returned =
      let is : k ≡ m = same_found (find (max p first) off) k m other found in
      absurd (returned (subst (λ (n : Match). n.end ≤ n.start) is empty) (subst (λ (n : Match). last ≡ Some n.end) is same))

  -- past a match that is skipped, a search that finds a match to return is come to
  past_skipped : (last : Option ℕ) (p : ℕ) (off : Bool) (at : ℕ) (x : Bool) → SkipsTo text find first end last p off at x → (k : Match) → find (max p first) off ≡ Some k → k.end ≤ k.start →
      last ≡ Some k.end → (m : Match) → find (max at first) x ≡ Some m → IsReturned last m →
      SkipsTo text find first end (Some k.end) (next_start text k.start k.end) (continue_disabled_after (max p first) k) at x
  past_skipped _ _ _ _ _ (at_once last p off) k other empty same m found returned =
      let is : k ≡ m = same_found (find (max p first) off) k m other found in
      absurd (returned (subst (λ (n : Match). n.end ≤ n.start) is empty) (subst (λ (n : Match). last ≡ Some n.end) is same))
  past_skipped _ _ _ _ _ (skipped last p off j at x inside found-j empty-j same-j later) k other empty same m found returned =
      subst (λ (n : Match). SkipsTo text find first end (Some n.end) (next_start text n.start n.end) (continue_disabled_after (max p first) n) at x)
      (same_found (find (max p first) off) j k found-j other) later

  -- two searches that are come to by skipping, and that find matches to return, are the same
  same_search : (last : Option ℕ) (p : ℕ) (off : Bool) (at : ℕ) (x : Bool) → SkipsTo text find first end last p off at x → (m : Match) → find (max at first) x ≡ Some m → IsReturned last m →
      (at' : ℕ) (x' : Bool) → SkipsTo text find first end last p off at' x' → (m' : Match) → find (max at' first) x' ≡ Some m' → IsReturned last m' → (at ≡ at') × (x ≡ x')
  same_search _ _ _ _ _ (at_once last p off) m found returned at' x' there m' found' returned' = not_skipped last p off at' x' there m found returned
  same_search _ _ _ _ _ (skipped last p off k at x inside other empty same later) m found returned at' x' there m' found' returned' =
      same_search (Some k.end) (next_start text k.start k.end) (continue_disabled_after (max p first) k) at x later m found (subst (λ (l : Option ℕ). IsReturned l m) same returned)
      at' x' (past_skipped last p off at' x' there k other empty same m' found' returned') m' found' (subst (λ (l : Option ℕ). IsReturned l m') same returned')

  -- after no item a search is come to by skipping alone
  pub no_more : (all : List Match) (last : Option ℕ) (p : ℕ) (off : Bool) (q : ℕ) (o : Bool) → ComesAfter text find first end all last p off q o → all ≡ [] → SkipsTo text find first end last p off q o
  no_more _ _ _ _ _ _ (no_item last p off q o skips) none = skips
  no_more _ _ _ _ _ _ (one_item last p off at x m items q o skips inside found returned rest) none = absurd (cc)

  -- how a search is come to after a first item
  record FirstItem (last : Option ℕ) (p : ℕ) (off : Bool) (m : Match) (items : List Match) (q : ℕ) (o : Bool) : Type 0 where
    at : ℕ
    flag : Bool
    skips : SkipsTo text find first end last p off at flag
    found : find (max at first) flag ≡ Some m
    returned : IsReturned last m
    rest : ComesAfter text find first end items (Some m.end) (next_start text m.start m.end) (continue_disabled_after (max at first) m) q o

  first_item : (all : List Match) (last : Option ℕ) (p : ℕ) (off : Bool) (q : ℕ) (o : Bool) → ComesAfter text find first end all last p off q o → (m : Match) (items : List Match) → all ≡ m ∷ items →
      FirstItem last p off m items q o
  first_item _ _ _ _ _ _ (no_item last p off q o skips) m items is = absurd (cc)
  first_item _ _ _ _ _ _ (one_item last p off at x n others q o skips inside found returned rest) m items is =
      let same : n ≡ m = cc in
      let alike : others ≡ items = cc in
      let here : FirstItem last p off n others q o = record { at = at; flag = x; skips = skips; found = found; returned = returned; rest = rest } in
      subst (λ (k : Match). FirstItem last p off k items q o) same (subst (λ (xs : List Match). FirstItem last p off n xs q o) alike here)

-- the item of a state is that of a state that skips to it
pub passes_before : (s : MetaRegex) (text : List ℕ) (a b new : SearchConfig) (before now after : IterState) (m : Match) → b ≡ record a { start = b.start } → now.last ≡ before.last →
    KeepsSkips s text a before b now → PassesItem s text b now m new after → PassesItem s text a before m new after
passes_before s text a b new before now after m is alike kept item =
    let found = subst (λ (x : SearchConfig). meta_match_from s text x (max item.at x.range_start) item.off ≡ Some m) is item.found in
    record {
      at = item.at;
      off = item.off;
      skips = kept item.at item.off item.skips;
      inside = subst (λ (x : SearchConfig). max item.at x.range_start ≤ x.range_end) is item.inside;
      found = subst (λ (f : ℕ → Bool → Option Match). f (max item.at a.range_start) item.off ≡ Some m) (found-same s text a b.start) found;
      returned = subst (λ (l : Option ℕ). IsReturned l m) alike item.returned;
      last = item.last;
      start = item.start;
      flag = subst (λ (x : SearchConfig). after.continue_disabled ≡ continue_disabled_after (max item.at x.range_start) m) is item.flag;
    }

-- a step past a match
pub item_passed : (s : MetaRegex) (text : List ℕ) (a b : SearchConfig) (before after : IterState) (m : Match) → max a.start a.range_start ≤ a.range_end →
    meta_match_from s text a (max a.start a.range_start) before.continue_disabled ≡ Some m → IsReturned before.last m → b.start ≡ next_start text m.start m.end →
    after.continue_disabled ≡ continue_disabled_after (max a.start a.range_start) m → after.last ≡ Some m.end → PassesItem s text a before m b after
item_passed s text a b before after m inside found returned at flag end = record {
  at = a.start;
  off = before.continue_disabled;
  skips = at_once before.last a.start before.continue_disabled;
  inside = inside;
  found = found;
  returned = returned;
  last = end;
  start = at;
  flag = flag;
}

module _ (s : MetaRegex) (text : List ℕ) (a b : SearchConfig) (before after : IterState) (m : Match) (item : PassesItem s text a before m b after) (items : List Match) (q : ℕ) (o : Bool) where
  -- what the state after an item comes to, the state before it comes to after this item
  pub item_comes : ComesTo s text a items after.last b.start after.continue_disabled q o → ComesTo s text a (m ∷ items) before.last a.start before.continue_disabled q o
  item_comes h =
      let first = subst (λ (l : Option ℕ). ComesTo s text a items l b.start after.continue_disabled q o) item.last h in
      let second = subst (λ (k : ℕ). ComesTo s text a items (Some m.end) k after.continue_disabled q o) item.start first in
      let third = subst (λ (x : Bool). ComesTo s text a items (Some m.end) (next_start text m.start m.end) x q o) item.flag second in
      one_item before.last a.start before.continue_disabled item.at item.off m items q o item.skips item.inside item.found item.returned third

  -- and nothing else
  pub item_only : ComesTo s text a (m ∷ items) before.last a.start before.continue_disabled q o → ComesTo s text a items after.last b.start after.continue_disabled q o
  item_only h =
      let find = meta_match_from s text a in
      let there = first_item text find a.range_start a.range_end (m ∷ items) before.last a.start before.continue_disabled q o h m items refl in
      let same = same_search text find a.range_start a.range_end before.last a.start before.continue_disabled there.at there.flag there.skips m there.found there.returned
      item.at item.off item.skips m item.found item.returned in
      let first = subst (λ (k : ℕ). ComesTo s text a items (Some m.end) (next_start text m.start m.end) (continue_disabled_after (max k a.range_start) m) q o) same.0 there.rest in
      let second = subst (λ (x : Bool). ComesTo s text a items (Some m.end) (next_start text m.start m.end) x q o) (sym item.flag) first in
      let third = subst (λ (k : ℕ). ComesTo s text a items (Some m.end) k after.continue_disabled q o) (sym item.start) second in
      subst (λ (l : Option ℕ). ComesTo s text a items l b.start after.continue_disabled q o) (sym item.last) third

-- what an iteration makes after skipped matches, it makes
skips_then : (text : List ℕ) (find : ℕ → Bool → Option Match) (first end : ℕ) (l : Option ℕ) (p : ℕ) (off : Bool) (at : ℕ) (x : Bool) → SkipsTo text find first end l p off at x →
    (q : ℕ) (o : Bool) → MakesSearch text find first end at x q o → MakesSearch text find first end p off q o
skips_then text find first end _ _ _ _ _ (at_once l p off) q o made = made
skips_then text find first end _ _ _ _ _ (skipped l p off m at x within found empty same later) q o made =
    following p off m q o within found (skips_then text find first end (Some m.end) (next_start text m.start m.end) (continue_disabled_after (max p first) m) at x later q o made)

-- a search that is come to after items is one of the iteration
pub comes_made : (text : List ℕ) (find : ℕ → Bool → Option Match) (first end : ℕ) (items : List Match) (l : Option ℕ) (p : ℕ) (off : Bool) (q : ℕ) (o : Bool) →
    ComesAfter text find first end items l p off q o → max q first ≤ end → MakesSearch text find first end p off q o
comes_made text find first end _ _ _ _ _ _ (no_item l p off q o skips) inside = skips_made text find first end l p off q o skips inside
comes_made text find first end _ _ _ _ _ _ (one_item l p off at x m items q o skips within found returned h) inside =
    skips_then text find first end l p off at x skips q o
    (following at x m q o within found (comes_made text find first end items (Some m.end) (next_start text m.start m.end) (continue_disabled_after (max at first) m) q o h inside))

-- an error of a search right after some items is one of the iteration
pub error_made : (s : MetaRegex) (text : List ℕ) (config : SearchConfig) (items : List Match) (e : Error) → IsErrorAfter s text config items e → IsIterationError s text config false e
error_made s text config items e h = (
  h.0,
  h.1,
  comes_made text (meta_match_from s text config) config.range_start config.range_end items None config.start false h.0 h.1 h.2 h.3,
  h.4,
)
