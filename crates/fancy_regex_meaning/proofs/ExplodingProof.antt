-- A row of characters has one way at most, and a pattern that ends in a row that stands nowhere has none.
use Rattle.std.proofs.Common.{◌≡◌, ℕ, zero, suc, ◌+◌, ◌<◌, ◌≤◌, Bool, true, false, cond, List, [], ◌∷◌, ◌++◌, Option, Some, None, refl, sym, ap, ◌∙◌, arith, is_some, not, ⊎_elim, ◌⊎◌}
use Rattle.std.specs.Prelude.{option_and_then, option_map}
use Rattle.std.specs.List.{flat_map, list_all, filter}
use Rattle.std.specs.Char.{len_utf8}
use Rattle.std.proofs.lemmas.Bool.{and_parts}
use Rattle.std.proofs.lemmas.List.{append-nil}
use Rattle.regex_hir.specs.Text.{char_at}
use Rattle.fancy_regex_meaning.specs.Positions.{numbers_from}
use Rattle.fancy_regex_tree.specs.Tree.{Tree, group}
use Rattle.fancy_regex_meaning.specs.Groups.{Pattern, pattern_of}
use Rattle.fancy_regex_meaning.specs.Ways.{MatchState, Moves, Setting, character, for_some, with_position, meaning, ways}
use Rattle.fancy_regex_meaning.specs.Searches.{Search, default_options, first_some, first_item, match_at, first_match, is_admitted, match_of, find_input, search_from}
use Rattle.fancy_regex_meaning.specs.WayLaws.{Each, IsForward}
use Rattle.fancy_regex_meaning.specs.Examples.{exploding, times_ab, Exploding, plain, a, b, c, star, alt, word}
use Rattle.fancy_regex_meaning.proofs.EachLemmas.{Each-weaker, boundaries_within}
use Rattle.fancy_regex_meaning.proofs.ForwardProofs.{ways_go_onward}
use Rattle.fancy_regex_meaning.proofs.ExampleProofs.{everything}
use Rattle.std.proofs.Common.{◌==◌, codes}
use Rattle.std.proofs.lemmas.Bool.{false≢true}

module _ (s : Setting) where
  -- where a row of characters ends that begins at a place
  reads : List (ℕ → Bool) → ℕ → Option ℕ
  reads [] p = Some p
  reads (t ∷ ts) p = option_and_then (λ c. cond (t c) (reads ts (p + len_utf8 c)) None) (char_at s.text p)

  in_a_row : List (ℕ → Bool) → Moves
  in_a_row [] w = w ∷ []
  in_a_row (t ∷ ts) w = flat_map (in_a_row ts) (character s t w)

  one_character : (o : Option ℕ) (w : MatchState) (t : ℕ → Bool) (ts : List (ℕ → Bool)) →
      ((v : MatchState) → in_a_row ts v ≡ for_some (λ q. with_position v q ∷ []) (reads ts v.position)) →
      flat_map (in_a_row ts) (for_some (λ c. cond (t c) (with_position w (w.position + len_utf8 c) ∷ []) []) o)
      ≡ for_some (λ q. with_position w q ∷ []) (option_and_then (λ c. cond (t c) (reads ts (w.position + len_utf8 c)) None) o)
  one_character None w t ts h = refl
  one_character (Some c) w t ts h = elim (t c) as (λ b.
      flat_map (in_a_row ts) (cond b (with_position w (w.position + len_utf8 c) ∷ []) [])
      ≡ for_some (λ q. with_position w q ∷ []) (cond b (reads ts (w.position + len_utf8 c)) None)) [
        | true ↦ append-nil _ ∙ h (with_position w (w.position + len_utf8 c))
        | false ↦ refl
      ]

  row_reads : (ts : List (ℕ → Bool)) (w : MatchState) → in_a_row ts w ≡ for_some (λ q. with_position w q ∷ []) (reads ts w.position)
  unfolding in_a_row reads
  row_reads [] w = refl
  row_reads (t ∷ ts) w = one_character (char_at s.text w.position) w t ts (row_reads ts)

all_at : (test : ℕ → Bool) (n i : ℕ) → list_all test (numbers_from n i) ≡ true → (p : ℕ) → i ≤ p → p < i + n → test p ≡ true
all_at test zero i h p le lt = absurd (omega arith)
all_at test (suc n) i h p le lt =
    let both = and_parts _ _ h in
    ⊎_elim (λ (e : i ≡ p). ap test (sym e) ∙ both.0) (λ (above : i < p). all_at test n (i + 1) both.1 p (omega arith) (omega arith)) (first_or_later i p le)
  where
    first_or_later : (x y : ℕ) → x ≤ y → (x ≡ y) ⊎ (x < y)
    first_or_later x y h = grind arith

flat_map_none : {A B : Type 0} (P : A → Type 0) (f : A → List B) → ((x : A) → P x → f x ≡ []) → (xs : List A) → Each P xs → flat_map f xs ≡ []
flat_map_none P f h [] e = refl
flat_map_none P f h (x ∷ xs) e = ap (λ ys. ys ++ flat_map f xs) (h x e.0) ∙ flat_map_none P f h xs e.1

first_none : {A B : Type 0} (f : A → Option B) (xs : List A) → Each (λ x. f x ≡ None) xs → first_some f xs ≡ None
first_none f [] e = refl
first_none f (x ∷ xs) e = rw (e.0, first_some) (first_none f xs e.1)

is_b : ℕ → Bool
is_b c = c == 98

is_c : ℕ → Bool
is_c c = c == 99

abbrev text : List ℕ
text = times_ab 28

abbrev here : Setting
here = record (plain text) { continue_at = Some 0 }

reads_nowhere : list_all (λ p. not (is_some (reads here (is_b ∷ is_c ∷ []) p))) (numbers_from 59 0) ≡ true
unfolding reads is_b is_c everything
reads_nowhere = refl

is_nothing : (o : Option ℕ) → not (is_some o) ≡ true → o ≡ None
is_nothing None h = refl
is_nothing (Some x) h = absurd (false≢true h)

nothing_read : (p : ℕ) → p ≤ 58 → reads here (is_b ∷ is_c ∷ []) p ≡ None
nothing_read p h = is_nothing _ (all_at (λ q. not (is_some (reads here (is_b ∷ is_c ∷ []) q))) 59 0 reads_nowhere p (omega arith) (omega arith))

no_tail : (v : MatchState) → v.position ≤ 58 → in_a_row here (is_b ∷ is_c ∷ []) v ≡ []
no_tail v h = row_reads here (is_b ∷ is_c ∷ []) v ∙ ap (for_some (λ q. with_position v q ∷ [])) (nothing_read v.position h)

abbrev front : Tree
front = star (group (alt (a ∷ b ∷ word (codes "ab") ∷ [])))

abbrev pattern : Pattern
pattern = pattern_of exploding

is_row : (w : MatchState) →
    ways here pattern.groups 1 exploding w ≡ flat_map (in_a_row here (is_b ∷ is_c ∷ [])) (ways here pattern.groups 1 front w)
unfolding ways meaning in_a_row is_b is_c
is_row w = refl

no_ways : (w : MatchState) → w.position ≤ 58 → ways here pattern.groups 1 exploding w ≡ []
no_ways w h =
    is_row w ∙ flat_map_none (IsForward text w) _ (λ v o. no_tail v o.1) _ (ways_go_onward here pattern.groups 1 front w h)

abbrev asked : Search
asked = record { first = 0; stop = 58; anchored = false; options = default_options }

no_match : (p : ℕ) → p ≤ 58 → match_at here pattern asked p ≡ None
unfolding match_at
no_match p h = ap (λ ws. option_map match_of (first_item (filter (is_admitted asked) ws))) (no_ways _ h)

none_from : first_match here pattern asked ≡ None
unfolding first_match
none_from = first_none _ _ (Each-weaker _ _ (λ p h. no_match p h.1) _ (boundaries_within text 0 58))

pub exploding_finds_none : Exploding
unfolding find_input search_from
exploding_finds_none = ap (option_map _) none_from
