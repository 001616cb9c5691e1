-- One search of an iteration, in what is left of it.
use Rattle.std.proofs.Common.{◌≡◌, ℕ, suc, ◌+◌, ◌-◌, ◌<◌, ◌≤◌, max, Bool, true, false, List, [], ◌∷◌, length, Option, Some, None, ◌==◌, nat_lt, if◌then◌else◌, refl, arith, ap, sym, ◌∙◌, rules, eqb}
use Rattle.std.specs.Option.{option_eq}
use Rattle.fancy_regex_meaning.specs.Positions.{position_after}
use Rattle.fancy_regex_meaning.specs.Ways.{for_some}
use Rattle.fancy_regex_meaning.specs.Searches.{Match, items, is_last_end, search_from, all_items}
use Rattle.fancy_regex_meaning.specs.ItemLaws.{ItemsNeedNoMore}
use Rattle.fancy_regex_input.specs.SearchInputs.{input_of}
use Rattle.fancy_regex_input.specs.declared.config.SearchConfig.{SearchConfig}
use Rattle.fancy_regex_meta.specs.Patterns.{options_in, setting_in}
use Rattle.fancy_regex_meta.specs.MetaMatches.{meta_match_from, meta_pattern}
use Rattle.fancy_regex_meta.specs.declared.meta_regex.MetaRegex.{MetaRegex}
use Rattle.fancy_regex_search.specs.RemainingMatches.{remaining_matches, all_matches}
use Rattle.fancy_regex_search.specs.declared.match_iter.IterState.{IterState}

pub nat_lt-yes : (a b : ℕ) → a < b → nat_lt a b ≡ true
nat_lt-yes a b h = search rules

pub nat_lt-no : (a b : ℕ) → b ≤ a → nat_lt a b ≡ false
nat_lt-no a b h = search rules

turn : (b : Bool) (o : Option Match) (F : Match → List Match) (m : Match) → b ≡ false → o ≡ Some m → (if b then [] else for_some F o) ≡ F m
turn b o F m e f = rw (e, f) refl

stopped : (b : Bool) (o : Option Match) (F : Match → List Match) → b ≡ false → o ≡ None → (if b then [] else for_some F o) ≡ []
stopped b o F e f = rw (e, f) refl

beyond : (b : Bool) (o : Option Match) (F : Match → List Match) → b ≡ true → (if b then [] else for_some F o) ≡ []
beyond b o F e = rw e refl

pick-first : (b c : Bool) (A B C : List Match) → b ≡ true → (if b then A else if c then B else C) ≡ A
pick-first b c A B C e = rw e refl

pick-second : (b c : Bool) (A B C : List Match) → b ≡ false → c ≡ true → (if b then A else if c then B else C) ≡ B
pick-second b c A B C e f = rw (e, f) refl

pick-third : (b c : Bool) (A B C : List Match) → b ≡ false → c ≡ false → (if b then A else if c then B else C) ≡ C
pick-third b c A B C e f = rw (e, f) refl

-- a search does not read where it was to start
pub found-same : (s : MetaRegex) (text : List ℕ) (a : SearchConfig) (p : ℕ) → meta_match_from s text (record a { start = p }) ≡ meta_match_from s text a
unfolding search_from
found-same s text a p = refl

-- before the first search
pub left-all : (s : MetaRegex) (text : List ℕ) (a : SearchConfig) → remaining_matches s text a (record { last = None; continue_disabled = false; is_done = false }) ≡ all_matches s text a
unfolding all_items
left-all s text a = refl

-- whether a match ends where the last one did
abbrev pub repeats : Option ℕ → ℕ → Bool
repeats last e = option_eq eqb last (Some e)

module _ (s : MetaRegex) (text : List ℕ) (a : SearchConfig) where
  last-end : (last : Option ℕ) (e : ℕ) → is_last_end text (meta_match_from s text a) a.range_start a.range_end last e ≡ repeats last e
  last-end None e = refl
  last-end (Some l) e = refl

  left-turn : (last : Option ℕ) (continue_disabled : Bool) →
      items text (meta_match_from s text a) a.range_start a.range_end (length text + 2) a.start last continue_disabled
      ≡ items text (meta_match_from s text a) a.range_start a.range_end (suc (length text + 1)) a.start last continue_disabled
  left-turn last continue_disabled = let e : length text + 2 ≡ suc (length text + 1) = omega arith in rw e refl

  items-past : (n p : ℕ) (last : Option ℕ) (continue_disabled : Bool) → a.range_end < max p a.range_start →
      items text (meta_match_from s text a) a.range_start a.range_end (suc n) p last continue_disabled ≡ []
  unfolding items
  items-past n p last continue_disabled h = rw (nat_lt-yes a.range_end (max p a.range_start) h) refl

  pub left-past : (st : IterState) → st.is_done ≡ false → a.range_end < max a.start a.range_start → remaining_matches s text a st ≡ []
  left-past st going h = rw going (left-turn st.last st.continue_disabled ∙ items-past (length text + 1) a.start st.last st.continue_disabled h)

  pub left-none : (st : IterState) → st.is_done ≡ false → max a.start a.range_start ≤ a.range_end → meta_match_from s text a (max a.start a.range_start) st.continue_disabled ≡ None →
      remaining_matches s text a st ≡ []
  unfolding items
  left-none st going inside found = rw going (left-turn st.last st.continue_disabled ∙ stopped _ _ _ (nat_lt-no _ _ inside) found)

  module _ (more : ItemsNeedNoMore) (within : a.range_end ≤ length text) where
    -- what is left after a search, from a place that is not the start of the text
    after : (p : ℕ) (l : Option ℕ) (o : Bool) → 1 ≤ p →
        items text (meta_match_from s text a) a.range_start a.range_end (length text + 1) p l o
        ≡ remaining_matches s text (record a { start = p }) (record { last = l; continue_disabled = o; is_done = false })
    after p l o h =
        let one : a.range_end + 1 - p < length text + 1 = omega arith in
        let two : a.range_end + 1 - p < length text + 2 = omega arith in
        more (setting_in s.options text a) (meta_pattern s) (options_in s.options) (input_of a) (length text + 1) (length text + 2) p l o one two
        ∙ sym (ap (λ f. items text f a.range_start a.range_end (length text + 2) p l o) (found-same s text a p))

    module _ (st : IterState) (going : st.is_done ≡ false) (m : Match) (inside : max a.start a.range_start ≤ a.range_end)
        (found : meta_match_from s text a (max a.start a.range_start) st.continue_disabled ≡ Some m) where
      pub left-item : m.start < m.end → remaining_matches s text a st
          ≡ m ∷ remaining_matches s text (record a { start = m.end }) (record { last = Some m.end; continue_disabled = false; is_done = false })
      unfolding items
      left-item l = rw going (
          left-turn st.last st.continue_disabled ∙ turn _ _ _ m (nat_lt-no _ _ inside) found
          ∙ pick-first (nat_lt m.start m.end) (is_last_end text (meta_match_from s text a) a.range_start a.range_end st.last m.end)
          (m ∷ items text (meta_match_from s text a) a.range_start a.range_end (length text + 1) m.end (Some m.end) false)
          (items text (meta_match_from s text a) a.range_start a.range_end (length text + 1) (position_after text m.end) (Some m.end) (m.end == max a.start a.range_start))
          (m ∷ items text (meta_match_from s text a) a.range_start a.range_end (length text + 1) (position_after text m.end) (Some m.end) (m.end == max a.start a.range_start))
          (nat_lt-yes m.start m.end l)
          ∙ ap (λ xs. m ∷ xs) (after m.end (Some m.end) false (omega arith))
          )

      module _ (onward : m.end < position_after text m.end) where
        rest-same : items text (meta_match_from s text a) a.range_start a.range_end (length text + 1) (position_after text m.end) (Some m.end) (m.end == max a.start a.range_start)
            ≡ remaining_matches s text (record a { start = position_after text m.end }) (record { last = Some m.end; continue_disabled = m.end == max a.start a.range_start; is_done = false })
        rest-same = let h : 1 ≤ position_after text m.end = omega (arith, onward) in after (position_after text m.end) (Some m.end) (m.end == max a.start a.range_start) h

        pub left-skip : m.end ≤ m.start → repeats st.last m.end ≡ true → remaining_matches s text a st
            ≡ remaining_matches s text (record a { start = position_after text m.end }) (record { last = Some m.end; continue_disabled = m.end == max a.start a.range_start; is_done = false })
        unfolding items
        left-skip l e = rw going (
            left-turn st.last st.continue_disabled ∙ turn _ _ _ m (nat_lt-no _ _ inside) found ∙ pick-second _ _ _ _ _ (nat_lt-no m.start m.end l) (last-end st.last m.end ∙ e) ∙ rest-same
            )

        pub left-empty : m.end ≤ m.start → repeats st.last m.end ≡ false → remaining_matches s text a st
            ≡ m ∷ remaining_matches s text (record a { start = position_after text m.end }) (record { last = Some m.end; continue_disabled = m.end == max a.start a.range_start; is_done = false })
        unfolding items
        left-empty l e = rw going (
            left-turn st.last st.continue_disabled ∙ turn _ _ _ m (nat_lt-no _ _ inside) found ∙ pick-third _ _ _ _ _ (nat_lt-no m.start m.end l) (last-end st.last m.end ∙ e) ∙ ap (λ xs. m ∷ xs) rest-same
            )

-- the same where the state's values are given by equations
pub moved : (s : MetaRegex) (text : List ℕ) (a new : SearchConfig) (e p : ℕ) (o : Bool) (after : IterState) → new ≡ record a { start = p } → after.last ≡ Some e → after.continue_disabled ≡ o →
    after.is_done ≡ false →
    remaining_matches s text (record a { start = p }) (record { last = Some e; continue_disabled = o; is_done = false }) ≡ remaining_matches s text new after
moved s text a new e p o after is end flag going =
    λ i. remaining_matches s text (sym is i) (record { last = sym end i; continue_disabled = sym flag i; is_done = sym going i })

-- an iteration that is over has nothing left
pub left-over : (s : MetaRegex) (text : List ℕ) (a : SearchConfig) (st : IterState) → st.is_done ≡ true → remaining_matches s text a st ≡ []
left-over s text a st done = rw done refl
