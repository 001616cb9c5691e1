use Rattle.std.proofs.Common.{◌≡◌, ◌∙◌, ℕ, ◌==◌, ◌&&◌, ◌||◌, not, false, ap, sym}
use Rattle.fancy_regex_states.specs.CharTests.{leaf_matches_char}
use Rattle.fancy_regex_states.proofs.BeforeLemmas.{line_not, meant_none, meant_some, no_is_yes}
use Rattle.fancy_regex_states.proofs.before.may_not_match.Goals as goal

pub returns-in-Some : goal.returns-in-Some
returns-in-Some c said =
    meant_some (λ (k : ℕ). not (leaf_matches_char c.args.before.unicode c.args.before.matchers.now c.args.leaf k) ≡ false) c.args.before.character c.in-Some.c
    c.in-Some.is (ap not (sym c.leaf_matches.ensures) ∙ said)
