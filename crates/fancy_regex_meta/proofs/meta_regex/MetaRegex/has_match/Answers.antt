use Rattle.std.proofs.Common.{ℕ, subst, sym, ap, arith}
use Rattle.std.specs.Prelude.{is_some, string_bytes}
use mathlib.Core.Logic.{∥∥₁_elim}
use Rattle.std.proofs.Math.Bool.{Bool-set}
use Rattle.fancy_regex_class.specs.RunInputs.{setting_for}
use Rattle.fancy_regex_meta.specs.Patterns.{tree_in}
use Rattle.fancy_regex_meta.specs.MetaMatches.{meta_pattern}
use Rattle.fancy_regex_meta.specs.Strategies.{search_of}
use Rattle.fancy_regex_meta.specs.SearchLimits.{IsSearchError, meta_tree, meta_uses_easy, run_choices}
use Rattle.fancy_regex_meta.proofs.SearchLemmas.{if_ok, if_err, no-match, IsSearchError-prop, IsStrategyError-prop, StrategyStaysInLimits-prop, executes-under, executes-whole}
use Rattle.fancy_regex_meta.proofs.meta_regex.MetaRegex.has_match.Goals as goal

-- group 0 is the whole match
pub has_match-requires-clause-whole : goal.has_match-requires-clause-whole
has_match-requires-clause-whole c =
    let s = c.args.self.now in
    ∥∥₁_elim s.made (Bool-set _ _) (λ made. executes-whole s.strategy s.options (tree_in s.options (string_bytes s.pattern)) made.runs)

-- past the range there is no match
pub returns-then-input-clause-answer : goal.returns-then-input-clause-answer
returns-then-input-clause-answer c =
    let s = c.args.self.now in
    let input = c.args.input.now in
    sym (ap is_some (no-match (setting_for s.options.unicode_mode c.args.text.now input) (meta_pattern s) (search_of s.options input) (omega arith)))

-- the answer is that of the definitions
pub returns-clause-answer : goal.returns-clause-answer
returns-clause-answer c =
    let s = c.args.self.now in
    if_ok c.has_match.result c.has_match.ensures.answer (λ yes told.
    ∥∥₁_elim s.made (Bool-set _ _) (λ made. told s.options (tree_in s.options (string_bytes s.pattern)) made.runs))

pub returns-clause-limits : goal.returns-clause-limits
returns-clause-limits c =
    let s = c.args.self.now in
    let text = c.args.text.now in
    let input = c.args.input.now in
    let limit : ℕ = s.options.backtrack_limit in
    let many : ℕ = run_choices s.options text input (meta_tree s) in
    if_err c.has_match.result c.has_match.ensures.limits c.has_match.ensures.passed (λ e above passed. (
      ∥∥₁_elim s.made (IsSearchError-prop (meta_uses_easy s) limit many e) (λ made.
          subst (λ b. IsSearchError b limit many e) s.served (above s.options (meta_tree s) made.runs)),
      ∥∥₁_elim s.made (IsStrategyError-prop s.strategy s.options text input e) (λ made. passed s.options (meta_tree s) made.runs),
    ))

-- the run stays within the options' limits
pub returns-clause-stays : goal.returns-clause-stays
returns-clause-stays c =
    let s = c.args.self.now in
    if_ok c.has_match.result c.has_match.ensures.stays (λ yes stays order.
    ∥∥₁_elim s.made (StrategyStaysInLimits-prop s.strategy s.options c.args.text.now c.args.input.now) (λ made.
    stays s.options (executes-under s.strategy s.options (meta_tree s) made.runs)))
