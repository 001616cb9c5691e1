-- The members of a set that is built of patterns, one after another.
use Rattle.std.proofs.Common.{◌≡◌, ℕ, ◌+◌, ◌<◌, List, [], ◌∷◌, ◌++◌, length, get_or, map, take, Some, sym, ap, subst, ◌∙◌}
use Rattle.std.specs.Prelude.{slice_get, option_map}
use Rattle.std.proofs.lemmas.List.{take_more, take-map, map-append}
use Rattle.std.proofs.lemmas.Option.{slice_get-map, slice_get-get_or}
use Rattle.fancy_regex_meaning.specs.WayLaws.{Each}
use Rattle.fancy_regex_search.specs.Refusals.{Accepts, Refuses}
use Rattle.fancy_regex_search.specs.RegexOptions.{RegexOptions}
use Rattle.fancy_regex_search.specs.Error.{Error}
use Rattle.fancy_regex_search.specs.Error.TheVariants as told
use Rattle.fancy_regex_search.specs.declared.regex.Regex.{Regex}
use Rattle.fancy_regex.specs.SetMembers.{IsBuiltOf, AreBuiltOf, RefusesPatterns}

module _ (o : RegexOptions) where
  pub built_more : (ps : List (List ℕ)) (rs : List Regex) (p : List ℕ) (r : Regex) → AreBuiltOf o ps rs → IsBuiltOf o p r →
      AreBuiltOf o (ps ++ p ∷ []) (rs ++ r ∷ [])
  built_more [] [] p r h b = (b, tt)
  built_more [] (s ∷ rs) p r h b = absurd h
  built_more (q ∷ ps) [] p r h b = absurd h
  built_more (q ∷ ps) (s ∷ rs) p r h b = (h.0, built_more ps rs p r h.1 b)

  pub built_accepted : (ps : List (List ℕ)) (rs : List Regex) → AreBuiltOf o ps rs → Each (Accepts o) ps
  built_accepted [] [] h = tt
  built_accepted [] (s ∷ rs) h = absurd h
  built_accepted (q ∷ ps) [] h = absurd h
  built_accepted (q ∷ ps) (s ∷ rs) h = (h.0.accepted, built_accepted ps rs h.1)

  -- an error of building a pattern, where those before it are accepted
  pub refuses_at : (ps : List (List ℕ)) (i : ℕ) (p : List ℕ) (e : Error) → slice_get ps i ≡ Some p → Each (Accepts o) (take i ps) → Refuses o p e → RefusesPatterns o ps e
  refuses_at ps i p told.Memory at before h = tt
  refuses_at ps i p (told.ParseError position kind) at before h = (i, p, at, before, h)
  refuses_at ps i p (told.CompileError cause) at before h = (i, p, at, before, h)
  refuses_at ps i p (told.RuntimeError error) at before h = (i, p, at, before, h)

  module _ {A : Type 0} (f : A → List ℕ) (xs : List A) (i : ℕ) (d : A) (rs : List Regex) (bytes : List ℕ) (lt : i < length xs) (is : bytes ≡ f (get_or xs i d))
      (built : AreBuiltOf o (map f (take i xs)) rs) where
    pub refuses_next : (e : Error) → Refuses o bytes e → RefusesPatterns o (map f xs) e
    refuses_next e h =
        refuses_at (map f xs) i (f (get_or xs i d)) e (slice_get-map f xs i ∙ ap (option_map f) (slice_get-get_or xs i d lt))
        (subst (Each (Accepts o)) (sym (take-map f i xs)) (built_accepted (map f (take i xs)) rs built)) (subst (λ (b : List ℕ). Refuses o b e) is h)

    pub built_next : (r : Regex) (items : List Regex) → items ≡ rs ++ r ∷ [] → IsBuiltOf o bytes r → AreBuiltOf o (map f (take (i + 1) xs)) items
    built_next r items are b =
        subst (AreBuiltOf o (map f (take (i + 1) xs))) (sym are)
        (subst (λ (ps : List (List ℕ)). AreBuiltOf o ps (rs ++ r ∷ [])) (sym (ap (map f) (take_more xs i d lt) ∙ map-append f (take i xs) (get_or xs i d ∷ [])))
        (built_more (map f (take i xs)) rs (f (get_or xs i d)) r built (subst (λ (b : List ℕ). IsBuiltOf o b r) is b)))
