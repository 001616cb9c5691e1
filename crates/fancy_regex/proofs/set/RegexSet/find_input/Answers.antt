use Rattle.fancy_regex.proofs.SetOneLemmas.{one_of_result}
use Rattle.fancy_regex.proofs.set.RegexSet.find_input.Goals as goal

pub returns-clause-one : goal.returns-clause-one
returns-clause-one g c =
    one_of_result c.laws_of_matches.ensures.one_member c.args.self.now.regexes.items (g.S.Input.text c.args.input.haystack) c.args.input.config _ (λ s. s.members.position) (λ s. s.first)
    (λ s. s.next) c.first_answer.result c.first_answer.ensures.answer
