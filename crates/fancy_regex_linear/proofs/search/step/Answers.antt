use Rattle.std.proofs.Common.{◌≡◌, ◌∙◌, ◌+◌, ◌*◌, false, true, ap, ap₂, sym, length, arith}
use Rattle.fancy_regex_states.specs.Attempts.{visit as state_visit}
use Rattle.fancy_regex_class.specs.Looks.{looked_text}
use Rattle.fancy_regex_states.specs.CharTests.{passes}
use Rattle.fancy_regex_linear.specs.Visited.{Has}
use Rattle.fancy_regex_linear.proofs.DfsLemmas.{Dfs-dead, Dfs-moved, Dfs-matched, Dfs-split, guard_yes, guard_no}
use Rattle.fancy_regex_linear.proofs.StepLemmas.{read_tracked, read_within, write_tracked}
use Rattle.fancy_regex_linear.proofs.search.step.Goals as goal

pub returns-in-Read-clause-tracking : goal.returns-in-Read-clause-tracking
returns-in-Read-clause-tracking c view go id far shows asks does goal best bottom seen marked adds d =
    rw (c.read.ensures, c.look-after.ensures.after)
    (read_tracked view c.args.context.now.matchers.now c.args.context.now.rules c.args.context.now.stop c.in-Read.leaf c.in-Read.next c.args.at id _ _ go goal best bottom (Has seen) (Has marked) _ _
    c.requires.low shows (does ∙ ap (λ s. state_visit view c.args.context.now.stop go s c.args.at) c.in-Read.is) adds d)

pub returns-in-Read-clause-next : goal.returns-in-Read-clause-next
returns-in-Read-clause-next c base low =
    rw c.read.ensures
    (read_within c.args.context.now.rules.unicode (looked_text c.args.text.now) (length c.args.context.now.states.now) c.args.context.now.stop base c.in-Read.next c.args.at c.args.context.now.matchers.now c.in-Read.leaf _ (rw c.in-Read.is at c.requires.names) low c.requires.low c.look-after.ensures.next)

pub returns-then-test_holds-clause-tracking : goal.returns-then-test_holds-clause-tracking
returns-then-test_holds-clause-tracking c view go id far shows asks does goal best bottom seen marked adds d =
    let yes : view.holds c.in-Look.test c.args.at ≡ true = shows.holds c.in-Look.test ∙ ap₂ (passes c.args.context.now.matchers.now c.args.context.now.rules c.in-Look.test c.args.at) (sym c.look-before.ensures.before) (sym c.look-before.ensures.after) ∙ sym c.test_holds.ensures ∙ c.if-test_holds.true in
    let on = guard_yes _ _ _ (does ∙ ap (λ s. state_visit view c.args.context.now.stop go s c.args.at) c.in-Look.is) yes in
    Dfs-moved view.longest d adds c.in-Look.next c.args.at on.0 on.1

pub returns-else-test_holds-clause-tracking : goal.returns-else-test_holds-clause-tracking
returns-else-test_holds-clause-tracking c view go id far shows asks does goal best bottom seen marked adds d =
    let no : view.holds c.in-Look.test c.args.at ≡ false = shows.holds c.in-Look.test ∙ ap₂ (passes c.args.context.now.matchers.now c.args.context.now.rules c.in-Look.test c.args.at) (sym c.look-before.ensures.before) (sym c.look-before.ensures.after) ∙ sym c.test_holds.ensures ∙ c.if-test_holds.false in
    Dfs-dead view.longest d adds (guard_no _ _ _ (does ∙ ap (λ s. state_visit view c.args.context.now.stop go s c.args.at) c.in-Look.is) no)

pub returns-in_ok-push_explore-in-Split-clause-tracking : goal.returns-in_ok-push_explore-in-Split-clause-tracking
returns-in_ok-push_explore-in-Split-clause-tracking c view go id far shows asks does goal best bottom seen marked adds d =
    rw (c.in_ok-push_explore-in-Split.ensures.pushed, c.in_ok-push_explore-in-Split.ensures.slots)
    (Dfs-split view.longest d adds c.in-Split.first c.in-Split.second (does ∙ ap (λ s. state_visit view c.args.context.now.stop go s c.args.at) c.in-Split.is))

pub returns-in_ok-push_explore-in-Split-clause-next : goal.returns-in_ok-push_explore-in-Split-clause-next
returns-in_ok-push_explore-in-Split-clause-next c base low = record {
  state = (rw c.in-Split.is at c.requires.names).0;
  low = low;
  high = c.requires.low;
  boundary = c.requires.boundary;
}

pub returns-in_ok-push_explore-in-Split-clause-within : goal.returns-in_ok-push_explore-in-Split-clause-within
returns-in_ok-push_explore-in-Split-clause-within c base low within =
    rw c.in_ok-push_explore-in-Split.ensures.pushed (
      record {
        state = (rw c.in-Split.is at c.requires.names).1;
        low = low;
        high = c.requires.low;
        boundary = c.requires.boundary;
      },
      within,
    )

pub returns-in_ok-write-in-Enter-clause-tracking : goal.returns-in_ok-write-in-Enter-clause-tracking
returns-in_ok-write-in-Enter-clause-tracking c view go id far shows asks does goal best bottom seen marked adds d =
    write_tracked view.longest go goal best bottom (Has seen) (Has marked) id c.args.at c.in-Enter.next c.saturating_mul.result (2 * c.in-Enter.group) _ _ _ _ c.in_ok-write-in-Enter.field-0
    (omega (arith, c.saturating_mul.ensures)) (omega (arith, c.args.backtrack.now.slots.ok.0, c.args.backtrack.now.slots.ok.1, c.args.backtrack.now.slots.small)) c.in_ok-write-in-Enter.ensures.small c.in_ok-write-in-Enter.ensures.pushed c.in_ok-write-in-Enter.ensures.written
    (does ∙ ap (λ s. state_visit view c.args.context.now.stop go s c.args.at) c.in-Enter.is) adds d

pub returns-in_ok-write-in-Leave-clause-tracking : goal.returns-in_ok-write-in-Leave-clause-tracking
returns-in_ok-write-in-Leave-clause-tracking c view go id far shows asks does goal best bottom seen marked adds d =
    write_tracked view.longest go goal best bottom (Has seen) (Has marked) id c.args.at c.in-Leave.next c.saturating_add.result (2 * c.in-Leave.group + 1) _ _ _ _ c.in_ok-write-in-Leave.field-0
    (omega (arith, c.saturating_add.ensures, c.saturating_mul-in-Leave.ensures)) (omega (arith, c.args.backtrack.now.slots.ok.0, c.args.backtrack.now.slots.ok.1, c.args.backtrack.now.slots.small)) c.in_ok-write-in-Leave.ensures.small c.in_ok-write-in-Leave.ensures.pushed c.in_ok-write-in-Leave.ensures.written
    (does ∙ ap (λ s. state_visit view c.args.context.now.stop go s c.args.at) c.in-Leave.is) adds d

pub returns-in-Match-clause-tracking : goal.returns-in-Match-clause-tracking
returns-in-Match-clause-tracking c view go id far shows asks does goal best bottom seen marked adds d =
    Dfs-matched view.longest d adds (does ∙ ap (λ s. state_visit view c.args.context.now.stop go s c.args.at) c.in-Match.is)
