use Rattle.std.proofs.Common.{Bool, Some, length, sym, subst}
use Rattle.fancy_regex_regular.specs.Attempts.{IsAttemptOf}
use Rattle.fancy_regex_regular.specs.Walks.{IsWalkOf}
use Rattle.fancy_regex_regular.proofs.RegularGroupLemmas.{on_ok}
use Rattle.fancy_regex_regular.proofs.walks.walk_along.Goals as goal

pub returns-else-regular-clause-told : goal.returns-else-regular-clause-told
returns-else-regular-clause-told c =
    let regular = c.args.regular.now in
    let text = c.args.text.now in
    let input = c.args.input.now in
    let start = c.args.start in
    let end = c.args.end in
    on_ok c.walk_first.result
    (λ told.
    subst (λ (longest : Bool). IsWalkOf longest regular text input start end (length c.args.slots.now) c.walk_first.new.slots) (sym c.if-regular.false)
    (told end (subst (λ (longest : Bool). IsAttemptOf longest regular text input (Some (start, end))) c.if-regular.false c.requires.attempt)))
    c.walk_first.ensures.told
