use Rattle.std.proofs.Common.{rules, ◌≡◌, option_map, chars, sym, ◌∙◌, refl, subst, arith}
use Rattle.fancy_regex_text.specs.Layout.{next_token}
use Rattle.fancy_regex_text.specs.LayoutStates.{layout_state_of}
use Rattle.fancy_regex_text.proofs.LayoutLemmas.{step_goes, step_ends}
use Rattle.fancy_regex_text.proofs.layout.next_token.Goals as goal

pub loop-next-init : goal.loop-next-init
unfolding next_token
loop-next-init c = (c.utf8.text, omega arith, refl)

pub loop-next-preserved : goal.loop-next-preserved
loop-next-preserved c =
    let l = c.loop-next in (
      search rules,
      omega (arith, l.invariant.1, c.in-Some.ensures.shorter),
      sym (step_goes c.args.verbose (layout_state_of l.inside) (layout_state_of c.in-Some.next) (chars l.rest.now) (chars c.in-Some.after.now) c.in-Some.ensures.value)
          ∙ l.invariant.2,
    )

pub returns-clause-value : goal.returns-clause-value
returns-clause-value c =
    let l = c.loop-next in
    subst (λ r. option_map (λ rest. chars rest.now) c.ended.result ≡ r)
    (sym (step_ends c.args.verbose (layout_state_of l.inside) (chars l.rest.now) c.in_default.ensures.value) ∙ l.invariant.2) c.ended.ensures.value
