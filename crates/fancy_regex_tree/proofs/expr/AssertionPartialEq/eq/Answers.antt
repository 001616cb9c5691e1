use Rattle.std.proofs.Common.{◌≡◌, false, refl, ◌∙◌, rules}
use denote.Enum.Declared.{tag_of}
use Rattle.fancy_regex_tree.specs.contracts.expr.Assertion.{the_type}
use Rattle.fancy_regex_tree.specs.declared.expr.Assertion.{Assertion}
use Rattle.fancy_regex_tree.specs.declared.expr.Assertion.TheVariants.{StartText, EndText, EndTextIgnoreTrailingNewlines, StartLine}
use Rattle.fancy_regex_tree.specs.declared.expr.Assertion.TheVariants.{StartLineOniguruma, EndLine, LeftWordBoundary, LeftWordHalfBoundary}
use Rattle.fancy_regex_tree.specs.declared.expr.Assertion.TheVariants.{RightWordBoundary, RightWordHalfBoundary, WordBoundary, NotWordBoundary}
use Rattle.fancy_regex_tree.specs.Equal.{same_assertion}
use Rattle.fancy_regex_tree.proofs.expr.AssertionPartialEq.eq.Goals as goal

-- assertions of different variants are different
tags_differ : (a b : Assertion) → (tag_of the_type a ≡ tag_of the_type b → ⊥) → false ≡ same_assertion a b
tags_differ StartText StartText h = absurd (h refl)
tags_differ EndText EndText h = absurd (h refl)
tags_differ (EndTextIgnoreTrailingNewlines x) (EndTextIgnoreTrailingNewlines y) h = absurd (h refl)
tags_differ (StartLine x) (StartLine y) h = absurd (h refl)
tags_differ (StartLineOniguruma x) (StartLineOniguruma y) h = absurd (h refl)
tags_differ (EndLine x) (EndLine y) h = absurd (h refl)
tags_differ LeftWordBoundary LeftWordBoundary h = absurd (h refl)
tags_differ LeftWordHalfBoundary LeftWordHalfBoundary h = absurd (h refl)
tags_differ RightWordBoundary RightWordBoundary h = absurd (h refl)
tags_differ RightWordHalfBoundary RightWordHalfBoundary h = absurd (h refl)
tags_differ WordBoundary WordBoundary h = absurd (h refl)
tags_differ NotWordBoundary NotWordBoundary h = absurd (h refl)
tags_differ _ _ h = refl

pub returns-then-this : goal.returns-then-this
returns-then-this c = tags_differ c.args.self.now c.args.other.now c.if-this.true ∙ search rules
