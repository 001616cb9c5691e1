use Rattle.std.proofs.Common.{rules, refl, ◌≡◌, IfSome, length, take, sym, ap, arith, ◌∙◌}
use Rattle.std.specs.Char.{IsScalar}
use Rattle.std.proofs.lemmas.Bool.{false≢true}
use Rattle.fancy_regex_class.proofs.AdjacentCharLemmas.{is_char_before}
use Rattle.fancy_regex_prefilter.proofs.BoundaryLemmas.{none_before, room_before}
use Rattle.fancy_regex_prefilter.proofs.matching.wide_before.Goals as goal

pub returns-in_err-front-clause-char : goal.returns-in_err-front-clause-char
returns-in_err-front-clause-char c =
    c.from_residual.ensures ∙ sym (none_before _ _ c.utf8.text (λ b. false≢true (c.in_err-front.ensures.variant.1 b)))

pub returns-clause-char : goal.returns-clause-char
returns-clause-char c =
    let scalar : IfSome c.next_back.result IsScalar = search rules in
    let same : take c.args.position c.args.text.now ≡ c.chars.result.rest.now = search rules in
    is_char_before _ c.args.text.now c.chars.result.rest.now c.next_back.new.self.rest.now c.args.position c.next_back.result
    (c.in_ok-front.ensures.variant.0 refl).0 same
    (omega (arith, c.in_ok-front.ensures.front_len, ap length c.in_ok-front.ensures.front, ap length same)) scalar c.next_back.ensures.steps

pub returns-clause-room : goal.returns-clause-room
returns-clause-room c =
    let scalar : IfSome c.next_back.result IsScalar = search rules in
    let same : take c.args.position c.args.text.now ≡ c.chars.result.rest.now = search rules in
    let is = is_char_before _ c.args.text.now c.chars.result.rest.now c.next_back.new.self.rest.now c.args.position c.next_back.result
    (c.in_ok-front.ensures.variant.0 refl).0 same
    (omega (arith, c.in_ok-front.ensures.front_len, ap length c.in_ok-front.ensures.front, ap length same)) scalar c.next_back.ensures.steps in
    room_before c.args.text.now c.args.position c.next_back.result is
