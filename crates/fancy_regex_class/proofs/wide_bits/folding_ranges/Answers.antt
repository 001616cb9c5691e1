use Rattle.std.proofs.Common.{◌≡◌, ◌∙◌, ◌++◌, ◌∷◌, [], List, Vec, ℕ, ap, sym}
use Rattle.std.proofs.lemmas.Bool.{ne_eqb}
use Rattle.std.specs.declared.alloc.Global.{Global}
use Rattle.regex_class.specs.Ranges.{Range, in_ranges}
use Rattle.regex_class.proofs.RangesLemmas.{in_ranges-nil}
use Rattle.fancy_regex_class.specs.Classes.{folded}
use Rattle.fancy_regex_class.proofs.PartnerLemmas.{no_folding, found_with, found_alone}
use Rattle.fancy_regex_class.proofs.wide_bits.folding_ranges.Goals as goal
use Rattle.fancy_regex_class.proofs.wide_bits.folding_ranges.Goals.{then-unicode+in_ok-add_partners, else-unicode}

pub returns-then-fold-folding : goal.returns-then-fold-folding
returns-then-fold-folding c d low =
    let w = c.args.folding in
    ap (λ l. in_ranges l d) c.new-ranges.ensures.items ∙ in_ranges-nil d
    ∙ sym (no_folding c.args.unicode w d (ne_eqb (folded c.args.unicode w) w (λ e. c.if-fold-folding.true (c.fold.ensures ∙ e))))

pub returns : goal.returns
returns c d low =
    let w = c.args.folding in
    let pushed : c.push.new.self.items ≡ (w, w) ∷ [] = c.in_ok-push.ensures.items ∙ ap (λ (l : List Range). l ++ (w, w) ∷ []) c.new-ranges.ensures.items in
    elim c.if-unicode.branch [
      | then-unicode+in_ok-add_partners b ↦
          ap (λ (v : Vec (ℕ × ℕ) Global). in_ranges v.items d) b.ranges-is
          ∙ found_with c.args.unicode w d c.push.new.self.items pushed b.add_partners.new.ranges.items b.if-unicode.true
          (sym c.fold.ensures ∙ c.if-fold-folding.false) (b.in_ok-add_partners.ensures d)
      | else-unicode b ↦
          ap (λ (v : Vec (ℕ × ℕ) Global). in_ranges v.items d) b.ranges-is
          ∙ found_alone c.args.unicode w d c.push.new.self.items pushed b.if-unicode.false low
    ]
