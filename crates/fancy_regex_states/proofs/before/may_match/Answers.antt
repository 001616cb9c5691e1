use Rattle.std.proofs.Common.{◌≡◌, ◌∙◌, ℕ, ◌==◌, ◌&&◌, ◌||◌, not, false, ap, sym}
use Rattle.fancy_regex_states.specs.CharTests.{leaf_matches_char}
use Rattle.fancy_regex_states.proofs.BeforeLemmas.{line_not, meant_none, meant_some, no_is_yes}
use Rattle.fancy_regex_states.proofs.before.may_match.Goals as goal

pub returns-in-Some : goal.returns-in-Some
returns-in-Some c said =
    meant_some (λ (k : ℕ). leaf_matches_char c.args.before.unicode c.args.before.matchers.now c.args.leaf k ≡ false) c.args.before.character c.in-Some.c c.in-Some.is
    (sym c.leaf_matches.ensures ∙ said)

pub returns-in-None : goal.returns-in-None
returns-in-None c said =
    meant_none (λ (k : ℕ). leaf_matches_char c.args.before.unicode c.args.before.matchers.now c.args.leaf k ≡ false) c.args.before.character c.in-None.is
    (c.is_ascii_leaf.ensures (no_is_yes c.is_ascii_leaf.result said))
