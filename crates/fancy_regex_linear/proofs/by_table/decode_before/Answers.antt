use Rattle.std.proofs.Common.{rules, ◌≡◌, IfSome, length, take, ap, arith}
use Rattle.std.specs.Char.{IsScalar}
use Rattle.fancy_regex_class.proofs.AdjacentCharLemmas.{is_char_before}
use Rattle.fancy_regex_linear.proofs.by_table.decode_before.Goals as goal

pub returns : goal.returns
returns c =
    let scalar : IfSome c.next_back.result IsScalar = search rules in
    let same : take c.args.position c.args.text.now ≡ c.chars.result.rest.now = search rules in
    is_char_before _ c.args.text.now c.chars.result.rest.now c.next_back.new.self.rest.now c.args.position c.next_back.result c.requires.0 same
    (omega (arith, c.split_at.ensures.front_len, ap length c.split_at.ensures.front, ap length same)) scalar c.next_back.ensures.steps
