-- What a search has found of a match, and where it searched.
use Rattle.std.proofs.Common.{◌≡◌, ℕ, ◌≤◌, List, [], ◌∷◌, length, max, false, Option, Some, None, refl, ap, arith}
use Rattle.std.specs.Prelude.{option_map}
use Rattle.fancy_regex_meaning.specs.Groups.{Pattern}
use Rattle.fancy_regex_meaning.specs.Searches.{Match, find_input}
use Rattle.fancy_regex_input.specs.declared.config.SearchConfig.{SearchConfig}
use Rattle.fancy_regex_meta.specs.MetaMatches.{meta_match, meta_match_from}
use Rattle.fancy_regex_meta.specs.declared.meta_regex.MetaRegex.{MetaRegex}
use Rattle.fancy_regex_meta.specs.FoundParts.{found_parts, wanted_parts}
use Rattle.fancy_regex_meta.specs.declared.found.FoundMatch.{FoundMatch}
use Rattle.fancy_regex_meta.specs.declared.found.MatchDetail.{MatchDetail}
use Rattle.fancy_regex_search.specs.CaptureSpans.{IsFoundOf}

-- what has the parts of a match is what was found of it
pub parts-of : (wanted : MatchDetail) (pattern : Pattern) (x : FoundMatch) (m : Match) → found_parts x ≡ wanted_parts wanted pattern m → IsFoundOf wanted pattern x m
parts-of wanted pattern x m e = (ap (λ (p : ℕ × (ℕ × List ℕ)). p.0) e, ap (λ (p : ℕ × (ℕ × List ℕ)). p.1.0) e, ap (λ (p : ℕ × (ℕ × List ℕ)). p.1.1) e)

-- a place where there is one
pub some-of : {A B : Type 0} (f : A → B) (o : Option A) (v : B) → Some v ≡ option_map f o → (m : A) × (o ≡ Some m) × (v ≡ f m)
some-of f None v e = absurd (cc)
some-of f (Some m) v e = (m, refl, cc)

pub none-of : {A B : Type 0} (f : A → B) (o : Option A) → None ≡ option_map f o → o ≡ None
none-of f None e = refl
none-of f (Some m) e = absurd (cc)

-- a search of an input is one from where it starts
pub found-is : (s : MetaRegex) (text : List ℕ) (a : SearchConfig) → meta_match s text a ≡ meta_match_from s text a (max a.start a.range_start) false
unfolding find_input
found-is s text a = refl
