use Rattle.std.proofs.Common.{◌∙◌, sym, ap}
use Rattle.std.specs.Prelude.{is_some}
use Rattle.fancy_regex_linear.specs.EasyPatterns.{match_for, span_of_match}
use Rattle.fancy_regex_linear.proofs.VerdictLemmas.{map_some}
use Rattle.fancy_regex_linear.proofs.easy.Easy.has_match_in.Goals as goal

pub returns-in-Match : goal.returns-in-Match
returns-in-Match c pattern is = sym (c.in-Match.ensures.verdict pattern is)

pub returns-in-NoMatch : goal.returns-in-NoMatch
returns-in-NoMatch c pattern is = sym (c.in-NoMatch.ensures.verdict pattern is)

pub returns : goal.returns
returns c pattern is =
    c.is_some.ensures ∙ ap is_some (c.in_ok-span.ensures.answer pattern is)
    ∙ map_some span_of_match (match_for c.args.self.now c.args.text.now (record (c.args.input.now) { first = c.in-NoneBefore.at }) pattern)
    ∙ sym (c.in-NoneBefore.ensures.verdict pattern is)
