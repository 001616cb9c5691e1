-- What is known of rows and alternations, from their ends.
use Rattle.std.proofs.Common.{◌≡◌, ℕ, ◌-◌, ◌<◌, ◌≤◌, List, [], ◌∷◌, length, drop, get_or, map, ap, sym, ◌∙◌, arith}
use Rattle.std.proofs.lemmas.List.{at_drop_more}
use Rattle.fancy_regex_info.specs.PropertyRules.{sum_properties, alternation_properties, prepend_part, prepend_branch}
use Rattle.fancy_regex_info.specs.Infos.{NodeProperties, properties_in, info_of}
use Rattle.fancy_regex_info.specs.declared.info.Info.{Info}
use Rattle.fancy_regex_info.proofs.RowLemmas.{one_before, at_end, at_last}

abbrev fact : Info → NodeProperties
fact i = properties_in (info_of i)

module _ (n m : ℕ) where
  abbrev row : List Info → NodeProperties
  row xs = sum_properties n m (map fact xs)

  abbrev branches : List Info → NodeProperties
  branches xs = alternation_properties n m (map fact xs)

  pub row_end : (xs : List Info) → row [] ≡ row (drop (length xs) xs)
  row_end xs = sym (at_end row xs)

  pub row_step : (xs : List Info) (i : ℕ) (x : Info) → 0 < i → i ≤ length xs → x ≡ get_or xs (i - 1) x →
      prepend_part (fact x) (row (drop i xs)) ≡ row (drop (i - 1) xs)
  row_step xs i x some inside is = sym (one_before row xs i x some inside is)

  pub branches_end : (xs : List Info) (x : Info) → 0 < length xs → x ≡ get_or xs (length xs - 1) x →
      branches (x ∷ []) ≡ branches (drop (length xs - 1) xs)
  branches_end xs x some is = sym (at_last branches xs x some is)

  pub branches_step : (xs : List Info) (i : ℕ) (x : Info) → 0 < i → i < length xs → x ≡ get_or xs (i - 1) x →
      prepend_branch (fact x) (branches (drop i xs)) ≡ branches (drop (i - 1) xs)
  branches_step xs i x some inside is =
      ap (prepend_branch (fact x)) (at_drop_more branches xs i x inside)
      ∙ sym (at_drop_more (λ ys. branches (x ∷ ys)) xs i x inside)
      ∙ sym (one_before branches xs i x some (omega arith) is)
