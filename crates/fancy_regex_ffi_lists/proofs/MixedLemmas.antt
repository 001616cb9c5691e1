-- The members of a set with options of their own, one after another.
use Rattle.std.proofs.Common.{◌≡◌, ℕ, ◌+◌, ◌<◌, ◌≤◌, List, [], ◌∷◌, ◌++◌, length, get_or, map, take, Some, sym, ap, subst, ◌∙◌, arith, refl, zero, suc}
use Rattle.std.specs.Prelude.{slice_get, option_map, string_bytes}
use Rattle.std.proofs.lemmas.List.{take_more, take-map, map-append, length-map, length-take-le}
use Rattle.std.proofs.lemmas.Option.{slice_get-map, slice_get-get_or}
use Rattle.fancy_regex.specs.Caps.{MetaKeepsCap}
use Rattle.fancy_regex.specs.Refusals.{Accepts, Refuses}
use Rattle.fancy_regex.specs.RegexOptions.{RegexOptions}
use Rattle.fancy_regex.specs.Error.{Error}
use Rattle.fancy_regex.specs.Error.TheVariants as told
use Rattle.fancy_regex.specs.Regex.{Regex}
use Rattle.fancy_regex.specs.SetMembers.{IsBuiltOf}
use Rattle.fancy_regex_ffi_lists.specs.Choices.{chosen}
use Rattle.fancy_regex_ffi_lists.specs.Mixed.{AreBuiltEach, AcceptsEach, RefusesEach}
use Rattle.fancy_regex_ffi_lists.specs.declared.options.Options.{Options}

pub built_more : (os : List Options) (ps : List (List ℕ)) (rs : List Regex) (i : ℕ) (d o : Options) (p : List ℕ) (r : Regex) → length ps ≡ i → i < length os → o ≡ get_or os i d
    → AreBuiltEach os ps rs → IsBuiltOf (chosen o) p r → AreBuiltEach os (ps ++ p ∷ []) (rs ++ r ∷ [])
built_more [] ps rs i d o p r so_many inside at h b = absurd (omega (arith, inside))
built_more (x ∷ os) [] [] zero d o p r so_many inside at h b = (subst (λ (y : Options). IsBuiltOf (chosen y) p r) at b, tt)
built_more (x ∷ os) [] [] (suc i) d o p r so_many inside at h b = absurd (omega (arith, so_many))
built_more (x ∷ os) [] (s ∷ rs) i d o p r so_many inside at h b = absurd h
built_more (x ∷ os) (q ∷ ps) [] i d o p r so_many inside at h b = absurd h
built_more (x ∷ os) (q ∷ ps) (s ∷ rs) zero d o p r so_many inside at h b = absurd (omega (arith, so_many))
built_more (x ∷ os) (q ∷ ps) (s ∷ rs) (suc i) d o p r so_many inside at h b = (h.0, built_more os ps rs i d o p r (omega (arith, so_many)) (omega (arith, inside)) at h.1 b)

built_accepted : (os : List Options) (ps : List (List ℕ)) (rs : List Regex) → AreBuiltEach os ps rs → AcceptsEach os ps
built_accepted os [] rs h = tt
built_accepted [] (q ∷ ps) rs h = absurd h
built_accepted (x ∷ os) (q ∷ ps) [] h = absurd h
built_accepted (x ∷ os) (q ∷ ps) (s ∷ rs) h = (h.0.accepted, built_accepted os ps rs h.1)

-- an error of building a pattern, where those before it are accepted
refuses_at : (os : List Options) (ps : List (List ℕ)) (i : ℕ) (o : Options) (p : List ℕ) (e : Error) → slice_get os i ≡ Some o → slice_get ps i ≡ Some p → AcceptsEach os (take i ps)
    → Refuses (chosen o) p e → RefusesEach os ps e
refuses_at os ps i o p told.Memory by at before h = tt
refuses_at os ps i o p (told.ParseError position kind) by at before h = (i, o, p, by, at, before, h)
refuses_at os ps i o p (told.CompileError cause) by at before h = (i, o, p, by, at, before, h)
refuses_at os ps i o p (told.RuntimeError error) by at before h = (i, o, p, by, at, before, h)

module _ {A : Type 0} (f : A → List ℕ) (os : List Options) (xs : List A) (i : ℕ) (d : A) (e : Options) (rs : List Regex) (bytes : List ℕ) (lt : i < length xs)
    (so_many : length os ≡ length xs) (is : bytes ≡ f (get_or xs i d)) (built : AreBuiltEach os (map f (take i xs)) rs) where
  pub each_refuses_next : (error : Error) (o : RegexOptions) → o ≡ chosen (get_or os i e) → Refuses o bytes error → RefusesEach os (map f xs) error
  each_refuses_next error o by h =
      refuses_at os (map f xs) i (get_or os i e) (f (get_or xs i d)) error (slice_get-get_or os i e (omega (arith, lt, so_many))) (slice_get-map f xs i ∙ ap (option_map f) (slice_get-get_or xs i d lt))
      (subst (AcceptsEach os) (sym (take-map f i xs)) (built_accepted os (map f (take i xs)) rs built))
      (subst (λ (b : List ℕ). Refuses (chosen (get_or os i e)) b error) is (subst (λ (x : RegexOptions). Refuses x bytes error) by h))

  pub each_built_next : (r : Regex) (items : List Regex) (o : RegexOptions) → o ≡ chosen (get_or os i e) → items ≡ rs ++ r ∷ [] → string_bytes r.meta.pattern ≡ bytes → r.meta.options ≡ o → MetaKeepsCap r.meta → Accepts o bytes
      → AreBuiltEach os (map f (take (i + 1) xs)) items
  each_built_next r items o by are pattern options cap accepted =
      let b : IsBuiltOf o bytes r = record { pattern_is = pattern; options_are = options; cap = cap; accepted = accepted } in
      subst (AreBuiltEach os (map f (take (i + 1) xs))) (sym are)
      (subst (λ (ps : List (List ℕ)). AreBuiltEach os ps (rs ++ r ∷ [])) (sym (ap (map f) (take_more xs i d lt) ∙ map-append f (take i xs) (get_or xs i d ∷ [])))
      (built_more os (map f (take i xs)) rs i e (get_or os i e) (f (get_or xs i d)) r (length-map (take i xs) f ∙ length-take-le i xs (omega (arith, lt))) (omega (arith, lt, so_many)) refl built
      (subst (λ (t : List ℕ). IsBuiltOf (chosen (get_or os i e)) t r) is (subst (λ (x : RegexOptions). IsBuiltOf x bytes r) by b))))
