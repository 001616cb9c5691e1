use Rattle.std.proofs.Common.{ℕ, ◌+◌, ◌≤◌, ◌∙◌, List, ap, ap₂, subst, arith}
use Rattle.fancy_regex_class.specs.Looks.{looked_text, look_count}
use Rattle.fancy_regex_table.specs.Ends.{or_else, end_at}
use Rattle.fancy_regex_table.proofs.EndLemmas.{or_else_assoc}
use Rattle.fancy_regex_linear.specs.Quick.{open_of, open_end}
use Rattle.fancy_regex_linear.specs.Search.{Explains}
use Rattle.fancy_regex_linear.specs.declared.quick.Lead.TheVariants as lead
use Rattle.fancy_regex_linear.proofs.QuickLemmas.{led_here, looked_on}
use Rattle.fancy_regex_linear.proofs.quick.quick_end.Goals as goal
use Rattle.fancy_regex_linear.proofs.quick.quick_end.Goals.{in-On, in-Branches+else-not-push, in-Fails+in-Some}

pub returns-in_default-clause-end : goal.returns-in_default-clause-end
returns-in_default-clause-end c view go explains =
    let inv = c.loop-visit.invariant in
    let now : Explains c.args.context.now (looked_text c.loop-visit.text) view go = rw inv.looks.text explains in
    let led = led_here c.args.context.now (looked_text c.loop-visit.text) view go now c.loop-visit.id c.loop-visit.at inv.pair c.requires.first lead.Fails c.in-Fails.ensures.leads in
    inv.end view go now ∙ ap₂ or_else led (ap (open_end go) c.in_default.ensures)

pub returns-in-Ends-clause-end : goal.returns-in-Ends-clause-end
returns-in-Ends-clause-end c view go explains =
    let inv = c.loop-visit.invariant in
    let now : Explains c.args.context.now (looked_text c.loop-visit.text) view go = rw inv.looks.text explains in
    let led = led_here c.args.context.now (looked_text c.loop-visit.text) view go now c.loop-visit.id c.loop-visit.at inv.pair c.requires.first lead.Ends c.in-Ends.ensures.leads in
    inv.end view go now ∙ ap (λ o. or_else o (open_end go (open_of c.loop-visit.open))) led

pub loop-visit-preserved : goal.loop-visit-preserved
loop-visit-preserved c =
    let inv = c.loop-visit.invariant in
    let same = c.lead_from.ensures.text in
    let looks = looked_on c.args.text.now c.loop-visit.text c.lead_from.new.text inv.looks c.lead_from.ensures.looked same c.lead_from.ensures.same_counter in
    let at_most : look_count c.lead_from.new.text ≤ look_count c.args.text.now + (c.loop-visit._visit + 1) = omega (arith, c.lead_from.ensures.looked, inv.at_most) in
    elim c.match-lead_from.branch [
      | in-On w ↦ record {
        pair = rw (same, w.id-is, w.at-is) w.in-On.ensures.within;
        open_within = rw (same, w.open-is) inv.open_within;
        end = λ view go explains.
            let now = subst (λ (t : List ℕ). Explains c.args.context.now t view go) same explains in
            let led = led_here c.args.context.now (looked_text c.loop-visit.text) view go now c.loop-visit.id c.loop-visit.at inv.pair c.requires.first (lead.On w.in-On.next w.in-On.place) w.in-On.ensures.leads in
            rw (w.id-is, w.at-is, w.open-is) (inv.end view go now ∙ ap (λ o. or_else o (open_end go (open_of c.loop-visit.open))) led);
        looks = looks;
        at_most = at_most;
      }
      | in-Branches+else-not-push w ↦
          let pushed = w.push.ensures w.if-not-push.false in
          let within = w.in-Branches.ensures.within in
          record {
            pair = rw (same, w.id-is, w.at-is) (record { state = within.0; low = inv.pair.low; high = inv.pair.high; boundary = inv.pair.boundary });
            open_within = rw (same, w.open-is, pushed)
                (record { state = within.1; low = inv.pair.low; high = inv.pair.high; boundary = inv.pair.boundary }, inv.open_within);
            end = λ view go explains.
                let now = subst (λ (t : List ℕ). Explains c.args.context.now t view go) same explains in
                let led = led_here c.args.context.now (looked_text c.loop-visit.text) view go now c.loop-visit.id c.loop-visit.at inv.pair c.requires.first (lead.Branches w.in-Branches.first w.in-Branches.second) w.in-Branches.ensures.leads in
                rw (w.id-is, w.at-is, w.open-is, pushed)
                (inv.end view go now ∙ ap (λ o. or_else o (open_end go (open_of c.loop-visit.open))) led
                ∙ or_else_assoc (end_at go c.loop-visit.at w.in-Branches.first) (end_at go c.loop-visit.at w.in-Branches.second) (open_end go (open_of c.loop-visit.open)));
            looks = looks;
            at_most = at_most;
          }
      | in-Fails+in-Some w ↦
          let popped = w.in-Some.ensures in
          let within = rw popped at inv.open_within in
          record {
            pair = rw (same, w.id-is, w.at-is) within.0;
            open_within = rw (same, w.open-is) within.1;
            end = λ view go explains.
                let now = subst (λ (t : List ℕ). Explains c.args.context.now t view go) same explains in
                let led = led_here c.args.context.now (looked_text c.loop-visit.text) view go now c.loop-visit.id c.loop-visit.at inv.pair c.requires.first lead.Fails w.in-Fails.ensures.leads in
                rw (w.id-is, w.at-is, w.open-is) (inv.end view go now ∙ ap₂ or_else led (ap (open_end go) popped));
            looks = looks;
            at_most = at_most;
          }
    ]
