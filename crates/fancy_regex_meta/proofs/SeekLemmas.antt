-- With a seek table a run finds the same, and has no more choices.
use Rattle.std.proofs.Common.{◌≡◌, ℕ, ◌+◌, ◌≤◌, Bool, true, false, cond, ◌&&◌, inr, inl, List, [], ◌∷◌, length, Option, Some, None, refl, sym, ap, subst, ◌∙◌, arith, nat_lt, IsUtf8, IsCharBoundary, if◌then◌else◌}
use Rattle.std.specs.List.{filter}
use Rattle.std.proofs.lemmas.Bool.{false≢true, ltb-false}
use Rattle.fancy_regex_tree.specs.Tree.{Tree}
use Rattle.fancy_regex_meaning.specs.Groups.{Pattern, pattern_of}
use Rattle.fancy_regex_meaning.specs.Ways.{Setting}
use Rattle.fancy_regex_meaning.specs.WayLaws.{Each}
use Rattle.fancy_regex_meaning.specs.SizeLaws.{IsInOrder}
use Rattle.fancy_regex_meaning.specs.Searches.{Match, Search, first_match, first_some, match_at, starts}
use Rattle.fancy_regex_meaning.specs.Choices.{choices, choices_at, choices_through}
use Rattle.fancy_regex_meaning.proofs.EachLemmas.{Each-weaker}
use Rattle.fancy_regex_class.specs.RunInputs.{setting_for}
use Rattle.fancy_regex_class.specs.declared.input.RunInput.{RunInput}
use Rattle.fancy_regex_info.specs.declared.error.CompileError.TheVariants.{RepeatBoundsReversed}
use Rattle.fancy_regex_analysis.specs.NodeErrors.{some_node, shows}
use Rattle.fancy_regex_analysis.proofs.NodeListLemmas.{some_node_is}
use Rattle.fancy_regex_bytes.proofs.InOrderLemmas.{in_order}
use Rattle.fancy_regex_machine.specs.RunContexts.{may_start}
use Rattle.fancy_regex_machine.specs.RunArguments.{run_parameters_for}
use Rattle.fancy_regex_machine.specs.SearchAnswers.{found_match, found_choices}
use Rattle.fancy_regex_meta.specs.Refusals.{HasNoCause}
use Rattle.fancy_regex_meta.specs.SeekTables.{IsSeekTable}
use Rattle.fancy_regex_meta.specs.Strategies.{search_of, run_options_of}
use Rattle.fancy_regex_meta.specs.SearchLimits.{run_choices}
use Rattle.fancy_regex_meta.specs.declared.options.RegexOptions.{RegexOptions}
use Rattle.fancy_regex_meta.proofs.MatchOffsetLemmas.{starts_lie}

and_true : (b : Bool) → (b && true) ≡ false → b ≡ false
and_true true e = e
and_true false e = e

not_true : (b : Bool) → (b ≡ true → ⊥) → b ≡ false
not_true true h = absurd (h refl)
not_true false h = refl

-- in a tree that is not refused no repeat is reversed
pub no_cause_in_order : (o : RegexOptions) (by_number calls : Bool) (t : Tree) → HasNoCause o by_number calls t → IsInOrder t
no_cause_in_order o by_number calls t none =
    let test : Tree → Bool = shows (length (pattern_of t).groups) RepeatBoundsReversed in
    in_order test (λ u lo hi greedy e. ltb-false hi lo (and_true (nat_lt hi lo) e)) t
    (sym (some_node_is test t) ∙ not_true (some_node test t) (λ e. none RepeatBoundsReversed (inr (inl e))))

none_of : (o : Option Match) → ((m : Match) → o ≡ Some m → ⊥) → o ≡ None
none_of None k = refl
none_of (Some m) k = absurd (k m refl)

-- Where a test leaves out no start that has a match, the starts that it leaves have no more choices.
module _ (s : Setting) (pattern : Pattern) (f : ℕ → Option Match) (test : ℕ → Bool) where
  abbrev IsKept : ℕ → Type 0
  IsKept p = (m : Match) → f p ≡ Some m → test p ≡ true

  more : (own a b : ℕ) (o : Option Match) → a ≤ b → 1 + own + elim o [ None ↦ a | Some m ↦ 0 ] ≤ 1 + own + elim o [ None ↦ b | Some m ↦ 0 ]
  more own a b None h = omega (arith, h)
  more own a b (Some m) h = omega arith

  added : (own a b c : ℕ) → a ≤ b → c ≡ b → a ≤ 1 + own + c
  added own a b c h e = omega (arith, h, e)

  pub fewer_choices : (xs : List ℕ) → Each IsKept xs → choices_through s pattern f (filter test xs) ≤ choices_through s pattern f xs
  fewer_choices [] h = omega arith
  fewer_choices (x ∷ xs) h = by_test (fewer_choices xs h.1) (test x) refl
    where
      by_test : choices_through s pattern f (filter test xs) ≤ choices_through s pattern f xs → (b : Bool) → test x ≡ b →
          choices_through s pattern f (cond b (x ∷ filter test xs) (filter test xs)) ≤ choices_through s pattern f (x ∷ xs)
      by_test rest true e = more (choices_at s pattern x) _ _ (f x) rest
      by_test rest false e =
          added (choices_at s pattern x) _ (choices_through s pattern f xs) _ rest
          (ap (λ o. elim o [ None ↦ choices_through s pattern f xs | Some m ↦ 0 ]) (none_of (f x) (λ m k. false≢true (sym e ∙ h.0 m k))))

-- Under these a seek table of a tree's program changes nothing.
pub record CanSeek (o : RegexOptions) (t : Tree) (text : List ℕ) (input : RunInput) (seek : Option (List Bool)) : Type 0 where
  pub table : IsSeekTable o t seek
  pub order : IsInOrder t
  pub utf8 : IsUtf8 text
  pub first : IsCharBoundary text input.first
  pub stop : input.range.end ≤ length text

all-kept : (f : ℕ → Bool) → ((p : ℕ) → f p ≡ true) → (xs : List ℕ) → filter f xs ≡ xs
all-kept f h [] = refl
all-kept f h (x ∷ xs) = rw (h x) (ap (λ (ys : List ℕ). x ∷ ys) (all-kept f h xs))

-- without a seek table each start is attempted
unless-kept : (b : Bool) (f : ℕ → Bool) → ((p : ℕ) → f p ≡ true) → (xs : List ℕ) → (if b then [] else filter f xs) ≡ (if b then [] else xs)
unless-kept true f h xs = refl
unless-kept false f h xs = all-kept f h xs

filter-unless : (b : Bool) (f : ℕ → Bool) (xs : List ℕ) → (if b then [] else filter f xs) ≡ filter f (if b then [] else xs)
filter-unless true f xs = refl
filter-unless false f xs = refl

-- the match is that of the search
pub found-same : (o : RegexOptions) (t : Tree) (text : List ℕ) (input : RunInput) (seek : Option (List Bool)) → CanSeek o t text input seek →
    found_match (run_parameters_for o.unicode_mode o.leftmost_longest text input (run_options_of o seek)) (pattern_of t) false
    ≡ first_match (setting_for o.unicode_mode text input) (pattern_of t) (search_of o input)
unfolding first_match
found-same o t text input None can =
    ap (first_some (match_at (setting_for o.unicode_mode text input) (pattern_of t) (search_of o input)))
    (unless-kept (nat_lt input.range.end input.first) (λ p. true) (λ p. refl) _)
found-same o t text input (Some table) can =
    let s : Setting = setting_for o.unicode_mode text input in
    ap (first_some (match_at s (pattern_of t) (search_of o input))) (filter-unless (nat_lt input.range.end input.first) (may_start text (Some table)) _)
    ∙ (can.table.2 s (refl, refl)).2 can.utf8 can.order (search_of o input) can.first can.stop

-- the choices are at most those of the search
pub choices-fewer : (o : RegexOptions) (t : Tree) (text : List ℕ) (input : RunInput) (seek : Option (List Bool)) → CanSeek o t text input seek →
    found_choices (run_parameters_for o.unicode_mode o.leftmost_longest text input (run_options_of o seek)) (pattern_of t) false ≤ run_choices o text input t
unfolding choices
choices-fewer o t text input None can =
    let s : Setting = setting_for o.unicode_mode text input in
    let f : ℕ → Option Match = match_at s (pattern_of t) (search_of o input) in
    same_le _ _ (ap (choices_through s (pattern_of t) f) (unless-kept (nat_lt input.range.end input.first) (λ p. true) (λ p. refl) _))
  where
    same_le : (a b : ℕ) → a ≡ b → a ≤ b
    same_le a b e = omega (arith, e)
choices-fewer o t text input (Some table) can =
    let s : Setting = setting_for o.unicode_mode text input in
    let find : Search = search_of o input in
    let f : ℕ → Option Match = match_at s (pattern_of t) find in
    let kept = Each-weaker _ _ (λ p lies m e. ((can.table.2 s (refl, refl)).0 can.utf8 can.order find p m lies.1 e).1) _ (starts_lie s (pattern_of t) find can.first can.stop) in
    subst (λ xs. choices_through s (pattern_of t) f xs ≤ choices_through s (pattern_of t) f (starts s (pattern_of t) find))
    (sym (filter-unless (nat_lt input.range.end input.first) (may_start text (Some table)) _))
    (fewer_choices s (pattern_of t) f (may_start text (Some table)) (starts s (pattern_of t) find) kept)
