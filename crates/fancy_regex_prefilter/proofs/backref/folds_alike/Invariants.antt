use Rattle.std.proofs.Common.{◌≡◌, ◌==◌, chars, length}
use Rattle.std.specs.Str.{IsUtf8}
use lib.Pointwise.{pointwise}
use Rattle.fancy_regex_class.specs.Classes.{folded}
use Rattle.fancy_regex_prefilter.proofs.backref.folds_alike.Given as goal

abbrev pub invariant-chars : goal.invariant-chars
invariant-chars l = record {
  same : pointwise (λ c d. folded l.unicode c == folded l.unicode d) (chars l.taken) (chars l.found)
      ≡ pointwise (λ c d. folded l.unicode c == folded l.unicode d) (chars l.left.rest.now) (chars l.right.rest.now);
  left : IsUtf8 l.left.rest.now;
  right : IsUtf8 l.right.rest.now;
}

abbrev pub decreases-chars : goal.decreases-chars
decreases-chars l = length l.left.rest.now
