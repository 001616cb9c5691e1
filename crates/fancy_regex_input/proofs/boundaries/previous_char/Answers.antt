use Rattle.std.proofs.Common.{rules, ◌≡◌, IfSome, IsUtf8, length, drop, take, ap, arith}
use Rattle.std.specs.Char.{IsScalar}
use Rattle.fancy_regex_class.proofs.AdjacentCharLemmas.{is_char_before}
use Rattle.fancy_regex_input.proofs.BoundaryLemmas.{boundary_before_char}
use Rattle.fancy_regex_input.proofs.boundaries.previous_char.Goals as goal

pub returns-clause-value : goal.returns-clause-value
returns-clause-value c =
    let scalar : IfSome c.next_back.result IsScalar = search rules in
    let same : take c.args.index c.args.text.now ≡ c.chars.result.rest.now = search rules in
    is_char_before _ c.args.text.now c.chars.result.rest.now c.next_back.new.self.rest.now c.args.index c.next_back.result c.requires.0 same
    (omega (arith, c.split_at.ensures.front_len, ap length c.split_at.ensures.front, ap length same)) scalar c.next_back.ensures.steps

pub returns-clause-place : goal.returns-clause-place
returns-clause-place c =
    let bs = c.args.text.now in
    let scalar : IfSome c.next_back.result IsScalar = search rules in
    let same : take c.args.index bs ≡ c.chars.result.rest.now = search rules in
    let text : IsUtf8 (drop c.args.index bs) = search rules in
    boundary_before_char _ bs c.chars.result.rest.now c.next_back.new.self.rest.now c.args.index c.next_back.result same
    (omega (arith, c.split_at.ensures.front_len, ap length c.split_at.ensures.front, ap length same)) scalar text c.next_back.ensures.steps
