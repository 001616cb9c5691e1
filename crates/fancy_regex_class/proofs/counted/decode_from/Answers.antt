use Rattle.std.proofs.Common.{rules, ◌≡◌, IfSome, IsUtf8, drop}
use Rattle.std.specs.Char.{IsScalar}
use Rattle.fancy_regex_class.proofs.AdjacentCharLemmas.{is_char_at, is_boundary_past}
use Rattle.fancy_regex_class.proofs.counted.decode_from.Goals as goal

pub returns-clause-after : goal.returns-clause-after
returns-clause-after c =
    let scalar : IfSome c.next.result IsScalar = search rules in
    let same : c.chars.result.rest.now ≡ drop c.args.position c.args.text.now = search rules in
    is_char_at _ c.args.text.now c.next.new.self.rest.now c.args.position c.next.result scalar (rw same at c.next.ensures.steps.0)

pub returns-clause-next : goal.returns-clause-next
returns-clause-next c =
    let bs = c.args.text.now in
    let same : c.chars.result.rest.now ≡ drop c.args.position bs = search rules in
    let text : IsUtf8 (drop c.args.position bs) = search rules in
    is_boundary_past _ bs c.next.new.self.rest.now c.args.position c.next.result c.requires.0 text (rw same at c.next.ensures.steps.0)
