-- The search for a group with a name goes on past one without.
use Rattle.std.proofs.Common.{◌≡◌, ℕ, suc, ◌+◌, ◌-◌, ◌<◌, true, false, Option, Some, None, refl, sym, ap, arith}
use Rattle.std.proofs.lemmas.Bool.{true≢false}
use Rattle.std.specs.Prelude.{option_map, is_some}
use Rattle.fancy_regex_tree.specs.Numbering.{Names}
use Rattle.fancy_regex_meta.specs.GroupNames.{name_at}
use Rattle.fancy_regex_search.specs.TemplateChecks.{has_names_from}

pub no_name : {A B : Type 0} (f : A → B) (o : Option A) (x : Option B) → is_some o ≡ false → option_map f o ≡ x → x ≡ None
no_name f None x h e = sym e
no_name f (Some y) x h e = absurd (true≢false h)

pub name_passed : (names : Names) (count k : ℕ) → k < count → name_at names k ≡ None → has_names_from names (count - (k + 1)) (k + 1) ≡ has_names_from names (count - k) k
name_passed names count k h none = let e : count - k ≡ suc (count - (k + 1)) = omega arith in rw (e, none) refl

pub some_name : {A B : Type 0} (f : A → B) (o : Option A) (x : Option B) → is_some o ≡ true → option_map f o ≡ x → is_some x ≡ true
some_name f None x h e = absurd (true≢false (sym h))
some_name f (Some y) x h e = sym (ap is_some e)

pub name_found : (names : Names) (count k : ℕ) → k < count → is_some (name_at names k) ≡ true → has_names_from names (count - k) k ≡ true
name_found names count k h some = let e : count - k ≡ suc (count - (k + 1)) = omega arith in rw (e, some) refl
