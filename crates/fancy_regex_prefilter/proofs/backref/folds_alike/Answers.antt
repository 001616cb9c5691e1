use Rattle.std.proofs.Common.{◌==◌, ◌∙◌, Some, None, sym, ne_eqb, eq-eqb, ℕ, Bool}
use Rattle.std.proofs.lemmas.Str.{IsUtf8-past_char}
use Rattle.fancy_regex_class.specs.Classes.{folded}
use Rattle.fancy_regex_prefilter.proofs.BackrefLemmas.{alike_turn, alike_no, alike_more}
use Rattle.fancy_regex_prefilter.proofs.backref.folds_alike.Goals as goal

-- the two characters have the same folding
alike : Bool → ℕ → ℕ → Bool
alike unicode c d = folded unicode c == folded unicode d

pub returns-then-fold : goal.returns-then-fold
unfolding alike
returns-then-fold c =
    sym (c.chars.invariant.same ∙ alike_no (alike c.args.unicode) c.chars.left.rest.now c.chars.right.rest.now c.next.new.self.rest.now c.next-in-chars.new.self.rest.now c.in-Some-Some.c c.in-Some-Some.d
    c.chars.invariant.left c.chars.invariant.right c.in-Some-Some.ensures.steps.0 c.in-Some-Some.ensures'.steps.0
    (ne_eqb _ _ (λ e. c.if-fold.true (c.fold.ensures ∙ e ∙ sym c.fold-in-Some-Some.ensures))))

pub chars-preserved : goal.chars-preserved
unfolding alike
chars-preserved c = record {
  same =
      c.chars.invariant.same ∙ alike_more (alike c.args.unicode) c.chars.left.rest.now c.chars.right.rest.now c.next.new.self.rest.now c.next-in-chars.new.self.rest.now c.in-Some-Some.c c.in-Some-Some.d
      c.chars.invariant.left c.chars.invariant.right c.in-Some-Some.ensures.steps.0 c.in-Some-Some.ensures'.steps.0
      (eq-eqb _ _ (sym c.fold.ensures ∙ c.if-fold.false ∙ c.fold-in-Some-Some.ensures));
  left = IsUtf8-past_char _ _ c.in-Some-Some.c c.chars.invariant.left c.in-Some-Some.ensures.steps.0;
  right = IsUtf8-past_char _ _ c.in-Some-Some.d c.chars.invariant.right c.in-Some-Some.ensures'.steps.0;
}

pub returns-in-None-None : goal.returns-in-None-None
unfolding alike
returns-in-None-None c =
    sym (c.chars.invariant.same ∙ alike_turn (alike c.args.unicode) c.chars.left.rest.now c.chars.right.rest.now c.next.new.self.rest.now c.next-in-chars.new.self.rest.now None None
    c.chars.invariant.left c.chars.invariant.right (rw c.in-None-None.is-0 at c.next.ensures.steps.0).0 c.in-None-None.ensures.steps.0.0)

pub returns-in_default : goal.returns-in_default
unfolding alike
returns-in_default c =
    sym (c.chars.invariant.same ∙ alike_turn (alike c.args.unicode) c.chars.left.rest.now c.chars.right.rest.now c.next.new.self.rest.now c.next-in-chars.new.self.rest.now (Some c.in_default.field-0-0) None
    c.chars.invariant.left c.chars.invariant.right c.in_default.ensures.steps.0 c.in_default.ensures'.steps.0.0)

pub returns-in_default-2 : goal.returns-in_default-2
unfolding alike
returns-in_default-2 c =
    sym (c.chars.invariant.same ∙ alike_turn (alike c.args.unicode) c.chars.left.rest.now c.chars.right.rest.now c.next.new.self.rest.now c.next-in-chars.new.self.rest.now None (Some c.in_default.field-0-1)
    c.chars.invariant.left c.chars.invariant.right (rw c.in_default.is-0 at c.next.ensures.steps.0).0 c.in_default.ensures.steps.0)
