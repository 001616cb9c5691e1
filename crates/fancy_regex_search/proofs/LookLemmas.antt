-- The looks of a pattern whose repeats are not counted.
use Rattle.std.proofs.Common.{◌≡◌, ℕ, ◌+◌, ◌-◌, ◌*◌, ◌≤◌, length, chars, subst, ap, sym, arith}
use Rattle.std.specs.Prelude.{string_bytes}
use Rattle.std.proofs.Math.Bridge.{le_prop}
use Rattle.std.proofs.Math.Nat.{mul-le-mul_right}
use Rattle.std.proofs.lemmas.Str.{IsUtf8-had}
use mathlib.Core.Logic.{∥∥₁_elim}
use Rattle.fancy_regex_text.specs.Text.{bytes}
use Rattle.fancy_regex_text.proofs.TextLemmas.{bytes-chars}
use Rattle.fancy_regex_meaning.specs.Groups.{pattern_of}
use Rattle.fancy_regex_meaning.specs.Sizes.{tree_weight}
use Rattle.fancy_regex_tree_laws.specs.UncountedRepeats.{HasNoCountedRepeats}
use Rattle.fancy_regex_tree_laws.specs.WeightBounds.{WeightsAreBounded}
use Rattle.fancy_regex_input.specs.declared.config.SearchConfig.{SearchConfig}
use Rattle.fancy_regex_meta.specs.Patterns.{reading_of, tree_or_empty}
use Rattle.fancy_regex_meta.specs.SearchLimits.{meta_tree, weight_of, max_looks, effective_start}
use Rattle.fancy_regex_meta.specs.declared.meta_regex.MetaRegex.{MetaRegex}
use Rattle.fancy_regex_search.specs.Looks.{MetaHasNoCountedRepeats, plain_looks}

module _ (law : WeightsAreBounded) (s : MetaRegex) (light : MetaHasNoCountedRepeats s) where
  weighs : weight_of (meta_tree s) ≤ 4 * (length (string_bytes s.pattern) + 1)
  weighs = ∥∥₁_elim s.made le_prop (λ made.
      let tree_is : meta_tree s ≡ made.found.tree = ap tree_or_empty made.read in
      let groups = (pattern_of (meta_tree s)).groups in
      let here = law (reading_of s.options) (chars (string_bytes s.pattern)) made.found made.read groups (subst (λ t. HasNoCountedRepeats groups t) tree_is light) in
      let size : bytes (chars (string_bytes s.pattern)) ≡ length (string_bytes s.pattern) = bytes-chars (string_bytes s.pattern) (IsUtf8-had (string_bytes s.pattern) s.pattern.ok) in
      subst (λ (n : ℕ). weight_of (meta_tree s) ≤ 4 * (n + 1)) size (subst (λ t. tree_weight groups t ≤ 4 * (bytes (chars (string_bytes s.pattern)) + 1)) (sym tree_is) here))

  -- the looks of such a pattern are within the bound
  pub within_plain : (a : SearchConfig) (before after : ℕ) → after ≤ before + max_looks s a → after ≤ before + plain_looks s a
  within_plain a before after h =
      let slots : ℕ = a.range_end - effective_start a + 1 in
      let more : weight_of (meta_tree s) * slots ≤ 4 * (length (string_bytes s.pattern) + 1) * slots = mul-le-mul_right slots weighs in
      omega (arith, h, more)
