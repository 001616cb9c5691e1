use Rattle.std.proofs.Common.{◌≡◌, List, ℕ, subst}
use Rattle.fancy_regex_template.specs.Writing.{AppendsBeginning}
use Rattle.fancy_regex_search.specs.GroupTexts.{expanded}
use Rattle.fancy_regex_search.proofs.ResultLemmas.{err_then}
use Rattle.fancy_regex_search.proofs.expander.write_to_sink.Goals as goal

pub returns-clause-err : goal.returns-clause-err
returns-clause-err g c =
    let same = c.texts-texts.ensures in
    let texts = c.texts-texts.result in
    let captures = c.args.captures.now in
    let bytes : expanded c.args.syntax texts.regex.now.meta texts.haystack.now texts.slots.now c.args.template.now
    ≡ expanded c.args.syntax captures.regex.now.meta captures.haystack.now captures.slots.items c.args.template.now =
    λ i. expanded c.args.syntax (same.0 i).meta (same.1 i) (same.2 i) c.args.template.now in
    err_then c.write_expansion.result c.write_expansion.ensures.err
    (λ _ h. subst (λ (x : List ℕ). AppendsBeginning (g.W.Write.contents c.args.sink.now.writer.now) (g.W.Write.contents c.write_expansion.new.sink.writer.now) x) bytes h)
