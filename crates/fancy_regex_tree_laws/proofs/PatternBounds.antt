-- Whole patterns.
use Rattle.std.proofs.Common.{◌≡◌, ℕ, ◌+◌, ◌*◌, ◌≤◌, [], ◌∷◌, length, Ok, Err, IfOk, refl, sym, subst, arith, le_refl, le_trans}
use Rattle.std.proofs.Math.Nat.{sub-le}
use Rattle.std.proofs.lemmas.Str.{len_utf8_bounds}
use Rattle.fancy_regex_text.specs.Text.{Text, bytes}
use Rattle.fancy_regex_text.specs.ParseFault.{ParseOutcome}
use Rattle.fancy_regex_tree.specs.declared.parser_config.ParserConfig.{ParserConfig}
use Rattle.fancy_regex_tree.specs.Tree.{Tree}
use Rattle.fancy_regex_tree.specs.Parser.{parse_pattern}
use Rattle.fancy_regex_tree.specs.Bounds.{nodes, depth}
use Rattle.fancy_regex_tree.specs.Numbering.{◌⨟◌, openings, counted, last_named}
use Rattle.fancy_regex_tree.specs.Parse.{Options, Parsed, with_position, ignores, resolve_references, parse}
use Rattle.fancy_regex_grammar.specs.Patterns.{IsPattern}
use Rattle.fancy_regex_grammar.proofs.PatternProofs.{patterns_are_exact}
use Rattle.fancy_regex_tree.specs.Positions.{HasPositionsWithin}
use Rattle.fancy_regex_tree_laws.specs.ParseBounds.{TreesAreBounded, ParseErrorsAreInside, PositionsAreInside}
use Rattle.fancy_regex_tree.proofs.ResolvedBounds.{IsGood, IsLess, and_then, resolved_fits}
use Rattle.fancy_regex_tree_laws.proofs.NodeBounds.{body_small}
use Rattle.fancy_regex_tree_laws.proofs.DepthBounds.{body_low}
use Rattle.fancy_regex_tree.proofs.PositionBounds.{parsed_placed}

-- a character takes a byte at least
length_fits : (t : Text) → length t ≤ bytes t
unfolding bytes
length_fits [] = le_refl 0
length_fits (c ∷ t) = omega (arith, (len_utf8_bounds c).0, length_fits t)

-- what is shown of a pattern of this size
record IsBounded (size : ℕ) (found : Parsed) : Type 0 where
  small : nodes found.tree ≤ 2 * size + 1
  low : depth found.tree ≤ 832
  inside : HasPositionsWithin size found.unresolved

-- a tree that is read
record IsRead (size : ℕ) (e : Tree) : Type 0 where
  small : nodes e ≤ 2 * size + 1
  low : depth e ≤ 832
  inside : HasPositionsWithin size e

pattern_is_read : (p : ParserConfig) (f : _) (t : Text) (e : Tree) → IsPattern p f t e → HasPositionsWithin (bytes t) e → IsRead (bytes t) e
pattern_is_read p f t e h inside = record {
  small = subst (λ u. nodes u ≤ 2 * bytes t + 1) (sym h.tree) (le_trans (body_small p h.derivation) (omega (arith, length_fits t)));
  low = subst (λ u. depth u ≤ 832) (sym h.tree) (body_low p h.derivation);
  inside = inside;
}

finish_is_bounded : (size : ℕ) (o : Options) (e : Tree) → IsRead size e → IsGood size (IsBounded size) (resolve_references o e)
finish_is_bounded size o e h =
    let ignored = ignores o (openings e) in
    let names = counted ignored (openings e) in
    and_then size (IsLess e) (IsBounded size) _ _ (resolved_fits size ignored (last_named names) 0 e h.inside)
    (λ x less. record { small = le_trans less.0 h.small; low = le_trans less.1 h.low; inside = h.inside })

reading_is_bounded : (size : ℕ) (o : Options) (r : ParseOutcome Tree) → ((e : Tree) → r ≡ Ok e → IsRead size e) →
    IsGood size (IsBounded size) (with_position size r ⨟ resolve_references o)
reading_is_bounded size o (Ok e) h = finish_is_bounded size o e (h e refl)
reading_is_bounded size o (Err e) h = sub-le size e.left

parse_is_bounded : (o : Options) (t : Text) → IsGood (bytes t) (IsBounded (bytes t)) (parse o t)
unfolding parse
parse_is_bounded o t =
    reading_is_bounded (bytes t) o (parse_pattern o.oniguruma o.unicode o.flags t)
    (λ e is. pattern_is_read _ o.flags t e ((patterns_are_exact o.oniguruma o.unicode o.flags t).sound e is)
    (subst (λ (r : ParseOutcome Tree). IfOk r (HasPositionsWithin (bytes t))) is (parsed_placed o.oniguruma o.unicode o.flags t)))

found_is_bounded : (o : Options) (t : Text) (found : Parsed) → parse o t ≡ Ok found → IsBounded (bytes t) found
found_is_bounded o t found h = subst (λ r. IsGood (bytes t) (IsBounded (bytes t)) r) h (parse_is_bounded o t)

pub trees_are_bounded : TreesAreBounded
trees_are_bounded o t found h = let absent_of_branches = found_is_bounded o t found h in (absent_of_branches.small, absent_of_branches.low)

pub positions_are_inside : PositionsAreInside
positions_are_inside o t found h = (found_is_bounded o t found h).inside

pub parse_errors_are_inside : ParseErrorsAreInside
parse_errors_are_inside o t r h = subst (λ x. IsGood (bytes t) (IsBounded (bytes t)) x) h (parse_is_bounded o t)
