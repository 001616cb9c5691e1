use Rattle.std.proofs.Common.{◌≡◌, ◌∙◌, ◌+◌, ◌*◌, true, false, sym, ap, ap₂, length, arith}
use Rattle.fancy_regex_class.specs.Looks.{looked_text}
use Rattle.fancy_regex_states.specs.Attempts.{visit as state_visit}
use Rattle.fancy_regex_states.specs.CharTests.{passes}
use Rattle.fancy_regex_linear.proofs.QuickLemmas.{leads_within, passed_on, not_passed, branched, saved_on, accepted, read_led}
use Rattle.fancy_regex_linear.proofs.StepLemmas.{read_within}
use Rattle.fancy_regex_linear.proofs.quick.lead_from.Goals as goal

pub returns-in-Read-clause-leads : goal.returns-in-Read-clause-leads
returns-in-Read-clause-leads c view go id first shows asks does =
    let context = c.args.context.now in
    rw (c.lead_of.ensures, c.read.ensures, c.look-after.ensures.after)
    (read_led view context.matchers.now context.rules context.stop c.in-Read.leaf c.in-Read.next c.args.at id _ _ go c.requires.place.0 shows
    (does ∙ ap (λ s. state_visit view context.stop go s c.args.at) c.in-Read.is))

pub returns-in-Read-clause-within : goal.returns-in-Read-clause-within
returns-in-Read-clause-within c =
    let context = c.args.context.now in
    rw (c.lead_of.ensures, c.read.ensures)
    (leads_within (looked_text c.args.text.now) (length context.states.now) context.stop _
    (read_within context.rules.unicode (looked_text c.args.text.now) (length context.states.now) context.stop 0 c.in-Read.next c.args.at context.matchers.now c.in-Read.leaf _
    (rw c.in-Read.is at c.requires.names) (omega arith) c.requires.place.0 c.look-after.ensures.next))

pub returns-then-test_holds-clause-leads : goal.returns-then-test_holds-clause-leads
returns-then-test_holds-clause-leads c view go id first shows asks does =
    let yes : view.holds c.in-Look.test c.args.at ≡ true = shows.holds c.in-Look.test ∙ ap₂ (passes c.args.context.now.matchers.now c.args.context.now.rules c.in-Look.test c.args.at) (sym c.look-before.ensures.before) (sym c.look-before.ensures.after) ∙ sym c.test_holds.ensures ∙ c.if-test_holds.true in
    passed_on go id c.args.at _ c.in-Look.next c.args.at (does ∙ ap (λ s. state_visit view c.args.context.now.stop go s c.args.at) c.in-Look.is) yes

pub returns-else-test_holds-clause-leads : goal.returns-else-test_holds-clause-leads
returns-else-test_holds-clause-leads c view go id first shows asks does =
    let no : view.holds c.in-Look.test c.args.at ≡ false = shows.holds c.in-Look.test ∙ ap₂ (passes c.args.context.now.matchers.now c.args.context.now.rules c.in-Look.test c.args.at) (sym c.look-before.ensures.before) (sym c.look-before.ensures.after) ∙ sym c.test_holds.ensures ∙ c.if-test_holds.false in
    not_passed go id c.args.at _ c.in-Look.next c.args.at (does ∙ ap (λ s. state_visit view c.args.context.now.stop go s c.args.at) c.in-Look.is) no

pub returns-in-Split-clause-leads : goal.returns-in-Split-clause-leads
returns-in-Split-clause-leads c view go id first shows asks does =
    branched go id c.args.at view.longest c.in-Split.first c.in-Split.second first (does ∙ ap (λ s. state_visit view c.args.context.now.stop go s c.args.at) c.in-Split.is)

pub returns-in-Enter-clause-leads : goal.returns-in-Enter-clause-leads
returns-in-Enter-clause-leads c view go id first shows asks does =
    saved_on go id c.args.at (2 * c.in-Enter.group) c.in-Enter.next (does ∙ ap (λ s. state_visit view c.args.context.now.stop go s c.args.at) c.in-Enter.is)

pub returns-in-Leave-clause-leads : goal.returns-in-Leave-clause-leads
returns-in-Leave-clause-leads c view go id first shows asks does =
    saved_on go id c.args.at (2 * c.in-Leave.group + 1) c.in-Leave.next (does ∙ ap (λ s. state_visit view c.args.context.now.stop go s c.args.at) c.in-Leave.is)

pub returns-in-Match-clause-leads : goal.returns-in-Match-clause-leads
returns-in-Match-clause-leads c view go id first shows asks does =
    accepted go id c.args.at (does ∙ ap (λ s. state_visit view c.args.context.now.stop go s c.args.at) c.in-Match.is)
