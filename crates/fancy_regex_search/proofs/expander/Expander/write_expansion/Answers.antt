use Rattle.std.proofs.Common.{rules}
use Rattle.fancy_regex_template.specs.Writing.{AppendsBeginning}
use Rattle.fancy_regex_search.specs.GroupTexts.{expanded}
use Rattle.fancy_regex_search.proofs.ResultLemmas.{on_err_at}
use Rattle.fancy_regex_search.proofs.expander.Expander.write_expansion.Goals as goal

-- the writer is as the sink leaves it
pub returns-clause-err : goal.returns-clause-err
returns-clause-err g c =
    let captures = c.args.captures.now in
    let C = g.W.Write.contents in
    on_err_at
    (λ old new. AppendsBeginning (C old) (C new) (expanded c.args.self.now.syntax captures.regex.now.meta captures.haystack.now captures.slots.items c.args.template.now))
    c.write_to_sink.result _ _ _ _ c.new.ensures.bytes (search rules) c.write_to_sink.ensures.err
