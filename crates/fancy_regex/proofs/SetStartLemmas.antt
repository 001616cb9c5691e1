-- The members that the start table of a set passes over find nothing.
use Rattle.std.proofs.Common.{◌≡◌, ℕ, zero, suc, ◌<◌, Bool, true, false, List, [], ◌∷◌, ◌++◌, length, get_or, map, take, Option, Some, None, ◌+◌, refl, sym, ap, subst, ◌∙◌}
use Rattle.std.specs.Prelude.{IfSome, slice_get, slice_index_or, string_bytes}
use Rattle.std.proofs.lemmas.Bool.{true≢false}
use Rattle.std.proofs.lemmas.List.{take_more, map-append}
use Rattle.std.proofs.lemmas.Option.{none-some, same_Some}
use Rattle.regex_hir.specs.Text.{is_some_and}
use Rattle.fancy_regex_meaning.specs.Searches.{Match, match_at}
use Rattle.fancy_regex_bytes.specs.ByteSets.{has}
use Rattle.fancy_regex_bytes.specs.declared.byte_set.ByteSet.{ByteSet}
use Rattle.fancy_regex_search.specs.Patterns.{pattern_in, options_in, setting_in}
use Rattle.fancy_regex_search.specs.SeekTables.{marked}
use Rattle.fancy_regex_search.specs.RegexOptions.{RegexOptions}
use Rattle.fancy_regex_search.specs.declared.regex.Regex.{Regex}
use Rattle.fancy_regex.specs.MemberStarts.{may_start_with}
use Rattle.fancy_regex.specs.StartTables.{Serves}
use Rattle.fancy_regex.specs.declared.start_table.StartTable.{StartTable}
use Rattle.fancy_regex.proofs.NextMemberLemmas.{passes}
use Rattle.fancy_regex.specs.ByteSetLaws.{FindsOnlyIn}
use Rattle.fancy_regex.specs.SetMembers.{IsBuiltOf, AreBuiltOf}
use Rattle.fancy_regex.specs.SetStarts.{FindsNoneAt, PassesOver, HaveStarts}

pub marked_only : (o : RegexOptions) (pattern : List ℕ) (set : ByteSet) (table : List Bool) → ((b : ℕ) → slice_index_or table b false ≡ has set b) →
    FindsOnlyIn o pattern (has set) → FindsOnlyIn o pattern (marked table)
marked_only o pattern set table same law = let all : has set ≡ marked table = λ i b. sym (same b) i in subst (FindsOnlyIn o pattern) all law

-- whether a byte is marked
same_test : (table : List Bool) (byte : Option ℕ) → may_start_with (Some table) byte ≡ is_some_and byte (marked table)
same_test table None = refl
same_test table (Some b) = refl

module _ (o : RegexOptions) where
  abbrev StartsOf : List ℕ → Option (List Bool) → Type 0
  StartsOf p m = IfSome m (λ table. FindsOnlyIn o p (marked table))

  none_here : (p : List ℕ) (r : Regex) (m : Option (List Bool)) (byte : Option ℕ) → IsBuiltOf o p r → StartsOf p m → may_start_with m byte ≡ false → FindsNoneAt r byte
  none_here p r None byte built only e = absurd (true≢false e)
  none_here p r (Some table) byte built only e = λ text config continue_at q m utf8 cut is found.
      let match_in : RegexOptions → List ℕ → Option Match = λ own pattern.
      match_at (record (setting_in own text config) { continue_at = continue_at }) (pattern_in own pattern)
      (record { first = q; stop = config.range_end; anchored = true; options = options_in own }) q in
      let own : match_in r.meta.options (string_bytes r.meta.pattern) ≡ match_in o p =
      ap (λ (own : RegexOptions). match_in own (string_bytes r.meta.pattern)) built.options_are ∙ ap (match_in o) built.pattern_is in
      let there = only built.accepted text config continue_at q m utf8 cut (sym own ∙ found) in
      absurd (true≢false (sym there.1 ∙ ap (λ (x : Option ℕ). is_some_and x (marked table)) is ∙ sym (same_test table byte) ∙ e))

  none_at : (ps : List (List ℕ)) (rs : List Regex) (ms : List (Option (List Bool))) → AreBuiltOf o ps rs → HaveStarts o ps ms → (j : ℕ) (m : Option (List Bool)) →
      slice_get ms j ≡ Some m → (r : Regex) → slice_get rs j ≡ Some r → (byte : Option ℕ) → may_start_with m byte ≡ false → FindsNoneAt r byte
  none_at [] rs [] built have j m at r there byte e = absurd (none-some m at)
  none_at [] rs (n ∷ ms) built have j m at r there byte e = absurd have
  none_at (p ∷ ps) [] ms built have j m at r there byte e = absurd built
  none_at (p ∷ ps) (s ∷ rs) [] built have j m at r there byte e = absurd have
  none_at (p ∷ ps) (s ∷ rs) (n ∷ ms) built have zero m at r there byte e =
      subst (λ (x : Regex). FindsNoneAt x byte) (same_Some s r there)
      (none_here p s n byte built.0 have.0 (ap (λ (x : Option (List Bool)). may_start_with x byte) (same_Some n m at) ∙ e))
  none_at (p ∷ ps) (s ∷ rs) (n ∷ ms) built have (suc j) m at r there byte e = none_at ps rs ms built.1 have.1 j m at r there byte e

  pub passes_over : (ps : List (List ℕ)) (rs : List Regex) (ms : List (Option (List Bool))) (table : StartTable) → AreBuiltOf o ps rs → HaveStarts o ps ms →
      Serves table ms → PassesOver rs table
  passes_over ps rs ms table built have serves byte i =
      let h = passes table ms serves byte i in
      (h.0, λ j low high r there. let passed = h.1 j low high in none_at ps rs ms built have j passed.0 passed.1 r there byte passed.2)

  have_more : (ps : List (List ℕ)) (ms : List (Option (List Bool))) (p : List ℕ) (m : Option (List Bool)) → HaveStarts o ps ms → StartsOf p m →
      HaveStarts o (ps ++ p ∷ []) (ms ++ m ∷ [])
  have_more [] [] p m h b = (b, tt)
  have_more [] (n ∷ ms) p m h b = absurd h
  have_more (q ∷ ps) [] p m h b = absurd h
  have_more (q ∷ ps) (n ∷ ms) p m h b = (h.0, have_more ps ms p m h.1 b)

  pub have_next : {A : Type 0} (f : A → List ℕ) (xs : List A) (i : ℕ) (d : A) (ms : List (Option (List Bool))) (bytes : List ℕ) → i < length xs → bytes ≡ f (get_or xs i d) →
      HaveStarts o (map f (take i xs)) ms → (m : Option (List Bool)) (items : List (Option (List Bool))) → items ≡ ms ++ m ∷ [] → StartsOf bytes m →
      HaveStarts o (map f (take (i + 1) xs)) items
  have_next f xs i d ms bytes lt is have m items are b =
      subst (HaveStarts o (map f (take (i + 1) xs))) (sym are)
      (subst (λ (ps : List (List ℕ)). HaveStarts o ps (ms ++ m ∷ [])) (sym (ap (map f) (take_more xs i d lt) ∙ map-append f (take i xs) (get_or xs i d ∷ [])))
      (have_more (map f (take i xs)) ms (f (get_or xs i d)) m have (subst (λ (p : List ℕ). StartsOf p m) is b)))
