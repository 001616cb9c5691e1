use Rattle.std.proofs.Common.{ap, sym, ◌∙◌, rules, arith}
use Rattle.fancy_regex_info.specs.Infos.{info_of, properties_in}
use Rattle.fancy_regex_linear.specs.Calls.{greatest_nesting}
use Rattle.fancy_regex_linear.specs.Facts.{next_calls, calls_after}
use Rattle.fancy_regex_linear.proofs.FactLemmas.{first_calls, one_level_more, no_more_levels}
use Rattle.fancy_regex_linear.proofs.facts.known_calls.Goals as goal

pub loop-depth-init : goal.loop-depth-init
loop-depth-init c = c.new-calls.ensures.items ∙ first_calls (info_of c.args.info.now)

pub loop-depth-preserved : goal.loop-depth-preserved
loop-depth-preserved c =
    one_level_more (info_of c.args.info.now) c.loop-depth._depth c.loop-depth.calls.items c.in_ok-next.next.items c.loop-depth.invariant
    (c.in_ok-next.ensures ∙ ap (next_calls (info_of c.args.info.now)) c.deref.ensures.value)

pub returns-then-are_same : goal.returns-then-are_same
returns-then-are_same c =
    no_more_levels (info_of c.args.info.now) c.loop-depth._depth (greatest_nesting (properties_in (info_of c.args.info.now)).end) c.loop-depth.calls.items c.in_ok-next.next.items
    (omega arith) c.loop-depth.invariant (c.in_ok-next.ensures ∙ ap (next_calls (info_of c.args.info.now)) c.deref.ensures.value)
    (sym c.deref-in-loop-depth.ensures.value ∙ c.are_same.ensures (search rules) ∙ c.deref-in-loop-depth-2.ensures.value)

pub returns : goal.returns
returns c = c.loop-depth.invariant ∙ ap (calls_after (info_of c.args.info.now)) (omega arith)
