use Rattle.std.proofs.Common.{rules, ◌≡◌, ◌∙◌, IfSome, drop, ap, sym}
use Rattle.std.specs.Char.{IsScalar}
use Rattle.std.proofs.lemmas.Option.{none-some, same_Some}
use Rattle.regex_hir.specs.Text.{char_at}
use Rattle.fancy_regex_class.proofs.AdjacentCharLemmas.{is_char_at}
use Rattle.fancy_regex_table.specs.Wides.{class_of}
use Rattle.fancy_regex_table.proofs.wide.Wide.class_after.Goals as goal
use Rattle.fancy_regex_table.proofs.wide.Wide.class_after.Goals.{After-next}

-- what is read is the character
read_is : (c : After-next) → c.next.result ≡ char_at c.args.text.now c.args.at
read_is c =
    let scalar : IfSome c.next.result IsScalar = search rules in
    let same : c.chars.result.rest.now ≡ drop c.args.at c.args.text.now = search rules in
    is_char_at _ c.args.text.now c.next.new.self.rest.now c.args.at c.next.result scalar (rw same at c.next.ensures.steps.0)

pub returns-in-Some : goal.returns-in-Some
returns-in-Some c d here =
    let same : c.in-Some.c ≡ d = same_Some c.in-Some.c d (sym c.in-Some.is ∙ read_is (goal.at.returns-in-Some c).After-next ∙ here) in
    c.class_of.ensures ∙ ap (class_of c.args.unicode c.args.matchers.now c.args.self.now) same

pub returns-in-None : goal.returns-in-None
returns-in-None c d here = absurd (none-some d (sym c.in-None.is ∙ read_is (goal.at.returns-in-None c).After-next ∙ here))
