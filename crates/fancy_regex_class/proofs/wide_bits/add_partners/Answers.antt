use Rattle.std.proofs.Common.{◌∙◌, ◌||◌, ap, arith, Vec, ℕ}
use Rattle.std.proofs.lemmas.List.{take_all}
use Rattle.std.specs.declared.alloc.Global.{Global}
use Rattle.regex_class.specs.Ranges.{in_ranges}
use Rattle.fancy_regex_class.proofs.PartnerLemmas.{added, passed, has_pair, partner_pairs}
use Rattle.fancy_regex_class.proofs.wide_bits.add_partners.Goals as goal
use Rattle.fancy_regex_class.proofs.wide_bits.add_partners.Goals.{then-pair-code+in_ok-push, else-pair-code}

pub loop-pair-preserved : goal.loop-pair-preserved
loop-pair-preserved c d =
    let ps = c.fold_pairs-pair-items.result.now in
    let start = in_ranges c.args.ranges.now.items d in
    elim c.if-pair-code.branch [
      | then-pair-code+in_ok-push w ↦
          added c.args.code ps c.loop-pair.pair-index d start c.loop-pair-test.true c.loop-pair.ranges.items c.if-pair-code.ranges.items
          (c.loop-pair.invariant d) w.if-pair-code.true (ap (λ (v : Vec (ℕ × ℕ) Global). v.items) w.ranges-is ∙ w.in_ok-push.ensures.items)
      | else-pair-code w ↦
          passed c.args.code ps c.loop-pair.pair-index d start c.loop-pair-test.true c.loop-pair.ranges.items c.if-pair-code.ranges.items
          (c.loop-pair.invariant d) w.if-pair-code.false (ap (λ (v : Vec (ℕ × ℕ) Global). v.items) w.ranges-is)
    ]

pub returns : goal.returns
returns c d =
    let ps = c.fold_pairs-pair-items.result.now in
    c.loop-pair.invariant d
    ∙ ap (λ b. in_ranges c.args.ranges.now.items d || b)
    (ap (λ l. has_pair c.args.code l d) (take_all c.loop-pair.pair-index ps (omega (arith, c.loop-pair-test.false)))
    ∙ partner_pairs ps c.args.code d c.fold_pairs-pair-items.ensures.meaning)
