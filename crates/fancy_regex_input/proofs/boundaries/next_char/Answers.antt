use Rattle.std.proofs.Common.{rules, ◌≡◌, IfSome, IsUtf8, drop}
use Rattle.std.specs.Char.{IsScalar}
use Rattle.fancy_regex_class.proofs.AdjacentCharLemmas.{is_char_at}
use Rattle.fancy_regex_input.proofs.BoundaryLemmas.{boundary_after_char}
use Rattle.fancy_regex_input.proofs.boundaries.next_char.Goals as goal

pub returns-clause-value : goal.returns-clause-value
returns-clause-value c =
    let scalar : IfSome c.next.result IsScalar = search rules in
    let same : c.chars.result.rest.now ≡ drop c.args.index c.args.text.now = search rules in
    is_char_at _ c.args.text.now c.next.new.self.rest.now c.args.index c.next.result scalar (rw same at c.next.ensures.steps.0)

pub returns-clause-place : goal.returns-clause-place
returns-clause-place c =
    let bs = c.args.text.now in
    let same : c.chars.result.rest.now ≡ drop c.args.index bs = search rules in
    let text : IsUtf8 (drop c.args.index bs) = search rules in
    boundary_after_char _ bs c.next.new.self.rest.now c.args.index c.next.result c.requires.0 text (rw same at c.next.ensures.steps.0)
