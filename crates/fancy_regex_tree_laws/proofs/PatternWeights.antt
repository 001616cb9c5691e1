-- Whole patterns.
use Rattle.std.proofs.Common.{◌≡◌, ℕ, ◌+◌, ◌*◌, ◌≤◌, [], ◌∷◌, length, Ok, Err, refl, sym, subst, arith, le_refl, le_trans}
use Rattle.std.proofs.lemmas.Str.{len_utf8_bounds}
use Rattle.fancy_regex_text.specs.Text.{Text, bytes}
use Rattle.fancy_regex_text.specs.ParseFault.{ParseOutcome}
use Rattle.fancy_regex_tree.specs.declared.parser_config.ParserConfig.{ParserConfig}
use Rattle.fancy_regex_tree.specs.Tree.{Tree}
use Rattle.fancy_regex_tree.specs.Parser.{parse_pattern}
use Rattle.fancy_regex_tree.specs.Numbering.{◌⨟◌, openings, counted, last_named}
use Rattle.fancy_regex_tree.specs.Parse.{Options, Parsed, with_position, ignores, resolve_references, parse}
use Rattle.fancy_regex_grammar.specs.Patterns.{IsPattern}
use Rattle.fancy_regex_grammar.proofs.PatternProofs.{patterns_are_exact}
use Rattle.fancy_regex_tree_laws.specs.WeightBounds.{WeightsAreBounded}
use Rattle.fancy_regex_tree_laws.proofs.WeightUnits.{units}
use Rattle.fancy_regex_tree_laws.proofs.ConstructWeights.{body_small}
use Rattle.fancy_regex_tree_laws.proofs.ResolvedWeights.{IsGood, IsLess, and_then, resolved_fits}
use Rattle.fancy_regex_tree_laws.proofs.TreeWeights.{weighs}

-- a character takes a byte at least
length_fits : (t : Text) → length t ≤ bytes t
unfolding bytes
length_fits [] = le_refl 0
length_fits (c ∷ t) = omega (arith, (len_utf8_bounds c).0, length_fits t)

-- what is shown of what is read of a pattern of this size
abbrev IsLight : ℕ → Parsed → Type 0
IsLight size found = units found.tree ≤ 4 * size + 1

pattern_is_light : (p : ParserConfig) (f : _) (t : Text) (e : Tree) → IsPattern p f t e → units e ≤ 4 * bytes t + 1
pattern_is_light p f t e h = subst (λ u. units u ≤ 4 * bytes t + 1) (sym h.tree) (le_trans (body_small p h.derivation) (omega (arith, length_fits t)))

finish_is_light : (size : ℕ) (o : Options) (e : Tree) → units e ≤ 4 * size + 1 → IsGood (IsLight size) (resolve_references o e)
finish_is_light size o e h =
    let ignored = ignores o (openings e) in
    let names = counted ignored (openings e) in
    and_then (IsLess e) (IsLight size) _ _ (resolved_fits ignored (last_named names) 0 e) (λ x less. le_trans less h)

reading_is_light : (size : ℕ) (o : Options) (r : ParseOutcome Tree) → ((e : Tree) → r ≡ Ok e → units e ≤ 4 * size + 1) →
    IsGood (IsLight size) (with_position size r ⨟ resolve_references o)
reading_is_light size o (Ok e) h = finish_is_light size o e (h e refl)
reading_is_light size o (Err e) h = tt

parse_is_light : (o : Options) (t : Text) → IsGood (IsLight (bytes t)) (parse o t)
unfolding parse
parse_is_light o t =
    reading_is_light (bytes t) o (parse_pattern o.oniguruma o.unicode o.flags t)
    (λ e is. pattern_is_light _ o.flags t e ((patterns_are_exact o.oniguruma o.unicode o.flags t).sound e is))

pub weights_are_bounded : WeightsAreBounded
weights_are_bounded o t found h groups uncounted =
    let light : IsLight (bytes t) found = subst (λ r. IsGood (IsLight (bytes t)) r) h (parse_is_light o t) in
    omega (arith, light, weighs groups found.tree uncounted)
