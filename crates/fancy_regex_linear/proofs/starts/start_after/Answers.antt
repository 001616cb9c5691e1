use Rattle.std.proofs.Common.{arith, ◌∙◌}
use Rattle.fancy_regex_meaning.proofs.NextBoundaryLemmas.{last_place, end_place}
use Rattle.fancy_regex_linear.proofs.StartLemmas.{place_after, last_of}
use Rattle.fancy_regex_linear.proofs.starts.start_after.Goals as goal

pub returns-in-Some-clause-left : goal.returns-in-Some-clause-left
returns-in-Some-clause-left c text u b inside is =
    place_after text c.args.anchored c.args.at c.args.stop c.in-Some.c c.len_utf8-in-Some.result c.if-not-anchored.true b (is ∙ c.in-Some.is) c.len_utf8-in-Some.ensures.value
    (omega (arith, c.len_utf8.ensures.value, c.if-len_utf8-stop.true)) c.requires

pub returns-in_default-clause-left : goal.returns-in_default-clause-left
returns-in_default-clause-left c text u b inside is =
    last_of text c.args.anchored c.args.at c.args.stop
    (λ many. last_place text c.args.at c.args.stop c.in-Some.c b (is ∙ c.in-Some.is) (omega (arith, c.len_utf8.ensures.value, c.if-len_utf8-stop.false)) c.requires)

pub returns-in_default-3-clause-left : goal.returns-in_default-3-clause-left
returns-in_default-3-clause-left c text u b inside is =
    last_of text c.args.anchored c.args.at c.args.stop (λ many. end_place text c.args.at c.args.stop u b (is ∙ c.in_default.is) c.requires inside)
