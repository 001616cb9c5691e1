use Rattle.std.proofs.Common.{◌≡◌, ◌∙◌, ℕ, ◌==◌, ◌&&◌, ◌||◌, not, false, ap, sym}
use Rattle.fancy_regex_states.specs.CharTests.{leaf_matches_char}
use Rattle.fancy_regex_states.proofs.BeforeLemmas.{line_not, meant_none, meant_some, no_is_yes}
use Rattle.fancy_regex_states.proofs.before.may_end_line.Goals as goal

pub returns-in-Some : goal.returns-in-Some
returns-in-Some c said =
    meant_some (λ (k : ℕ). (k == 10 || (c.args.crlf && k == 13)) ≡ false) c.args.character c.in-Some.c c.in-Some.is (sym c.ends_line.ensures ∙ said)

pub returns-in-None : goal.returns-in-None
returns-in-None c said = meant_none (λ (k : ℕ). (k == 10 || (c.args.crlf && k == 13)) ≡ false) c.args.character c.in-None.is (line_not c.args.crlf)
