use Rattle.std.proofs.Common.{rules, ◌≡◌, ℕ, zero, suc, List, [], ◌∷◌, ◌++◌, get_or, Option, None, refl, ap, ◌∙◌}
use Rattle.fancy_regex_compiler.specs.Kept.{place_in, table_of}
use Rattle.fancy_regex_compiler.proofs.calls.no_places.Goals as goal

none_more : {A : Type 0} (xs : List (Option A)) (k : ℕ) → get_or (xs ++ None ∷ []) k None ≡ get_or xs k None
none_more [] zero = refl
none_more [] (suc k) = refl
none_more (x ∷ xs) zero = refl
none_more (x ∷ xs) (suc k) = none_more xs k

pub loop-group-preserved : goal.loop-group-preserved
loop-group-preserved c = record {
  count = search rules;
  none = λ k. ap (λ l. table_of l k) c.in_ok-push.ensures.items ∙ ap place_in (none_more c.loop-group.places.items k) ∙ c.loop-group.invariant.none k;
}
