use Rattle.std.proofs.Common.{◌≡◌, ◌∙◌, ap, rules, sym, arith, refl, true, ◌++◌, ◌∷◌, []}
use Rattle.regex.specs.Strings.{matcher_pattern}
use Rattle.fancy_regex_class.proofs.HirClassLemmas.{holds_none, holds_pushed, holds_more, holds_all}
use Rattle.fancy_regex_class.specs.Classes.{matches_single_char}
use Rattle.fancy_regex_class.proofs.matcher.class_of_matches.Goals as goal
use Rattle.fancy_regex_class.proofs.matcher.class_of_matches.Goals.{then-is_found+in_ok-push, else-is_found}

pub loop-code-init : goal.loop-code-init
loop-code-init c = record { same = refl; holds = rw c.new-ranges.ensures.items (holds_none _) }

pub loop-code-preserved : goal.loop-code-preserved
loop-code-preserved c =
    let found = c.is_found.ensures in
    let test = matches_single_char (matcher_pattern c.args.matcher.now) in
    record {
      same = c.is_found.ensures.same ∙ c.loop-code.invariant.same;
      holds = elim c.if-is_found.branch [
        | then-is_found+in_ok-push w ↦
            let more : c.if-is_found.ranges.items ≡ c.loop-code.ranges.items ++ (c.loop-code.code, c.loop-code.code) ∷ [] = search rules in
            let here : test c.loop-code.code ≡ true =
            ap (λ re. matches_single_char re c.loop-code.code) (sym c.loop-code.invariant.same) ∙ sym (found.found (found.scalar w.if-is_found.true)) ∙ w.if-is_found.true in
            rw more (holds_pushed test c.loop-code.code c.loop-code.ranges.items c.loop-code.invariant.holds here)
        | else-is_found w ↦
            let same : c.if-is_found.ranges.items ≡ c.loop-code.ranges.items = search rules in
            rw same (holds_more test c.loop-code.code c.loop-code.ranges.items c.loop-code.invariant.holds
            (λ scalar. ap (λ re. matches_single_char re c.loop-code.code) (sym c.loop-code.invariant.same) ∙ sym (found.found scalar) ∙ w.if-is_found.false))
      ];
    }

pub returns : goal.returns
returns c = holds_all _ c.loop-code.code c.loop-code.ranges.items c.new.result (omega arith) c.loop-code.invariant.holds c.new.ensures
