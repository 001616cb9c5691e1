use Rattle.std.proofs.Common.{◌∙◌, ℕ, subst, sym, ap, arith}
use Rattle.std.specs.Prelude.{option_map, string_bytes}
use base.Stored.{Coded-set}
use Rattle.std.specs.Coded.{coded_option}
use mathlib.Core.Logic.{∥∥₁_elim}
use Rattle.std.proofs.Math.Bool.{Bool-set}
use Rattle.std.proofs.Math.Bridge.{le_prop}
use Rattle.fancy_regex_class.specs.RunInputs.{setting_for}
use Rattle.fancy_regex_meta.specs.Patterns.{tree_in}
use Rattle.fancy_regex_meta.specs.MetaMatches.{meta_pattern}
use Rattle.fancy_regex_meta.specs.FoundParts.{wanted_parts}
use Rattle.fancy_regex_meta.specs.Strategies.{search_of}
use Rattle.fancy_regex_meta.specs.SearchLimits.{IsSearchError, meta_tree, meta_uses_easy, run_choices}
use Rattle.fancy_regex_meta.proofs.SearchLemmas.{if_ok, if_err, no-match, none-tried, IsSearchError-prop, IsStrategyError-prop, StrategyStaysInLimits-prop, executes-under, executes-whole}
use Rattle.fancy_regex_meta.proofs.MatchOffsetLemmas.{found_within, coded_parts}
use Rattle.fancy_regex_meta.proofs.meta_regex.MetaRegex.search_again.Goals as goal

-- group 0 is the whole match
pub search-requires-clause-whole : goal.search-requires-clause-whole
search-requires-clause-whole c =
    let s = c.args.self.now in
    ∥∥₁_elim s.made (Bool-set _ _) (λ made. executes-whole s.strategy s.options (tree_in s.options (string_bytes s.pattern)) made.runs)

-- past the range nothing is found
pub returns-then-input-clause-answer : goal.returns-then-input-clause-answer
returns-then-input-clause-answer c =
    let s = c.args.self.now in
    let input = c.args.input.now in
    sym (ap (option_map (wanted_parts c.args.wanted (meta_pattern s)))
    (no-match (setting_for s.options.unicode_mode c.args.text.now input) (meta_pattern s) (search_of s.options input) (omega arith)))

pub returns-then-input-clause-looks_least : goal.returns-then-input-clause-looks_least
returns-then-input-clause-looks_least c served =
    let none = none-tried c.args.self.now c.args.text.now c.args.input.now (omega arith) in
    omega (arith, none)

-- the match that is returned is that of the definitions
pub returns-clause-answer : goal.returns-clause-answer
returns-clause-answer c =
    let s = c.args.self.now in
    if_ok c.search.result c.search.ensures.answer (λ found told.
    ∥∥₁_elim s.made (Coded-set (coded_option coded_parts) _ _) (λ made. told s.options (tree_in s.options (string_bytes s.pattern)) made.runs))

pub returns-clause-within : goal.returns-clause-within
returns-clause-within c =
    if_ok c.search.result (returns-clause-answer c) (λ found told.
    found_within c.args.self.now c.args.text.now c.args.input.now c.args.wanted found c.utf8.text (c.requires.first (omega arith)) c.requires.range told)

pub returns-clause-limits : goal.returns-clause-limits
returns-clause-limits c =
    let s = c.args.self.now in
    let text = c.args.text.now in
    let input = c.args.input.now in
    let limit : ℕ = s.options.backtrack_limit in
    let many : ℕ = run_choices s.options text input (meta_tree s) in
    if_err c.search.result c.search.ensures.limits c.search.ensures.passed (λ e above passed. (
      ∥∥₁_elim s.made (IsSearchError-prop (meta_uses_easy s) limit many e) (λ made.
          subst (λ b. IsSearchError b limit many e) s.served (above s.options (meta_tree s) made.runs)),
      ∥∥₁_elim s.made (IsStrategyError-prop s.strategy s.options text input e) (λ made. passed s.options (meta_tree s) made.runs),
    ))

-- the looks are within the bound
pub returns-clause-looks_most : goal.returns-clause-looks_most
returns-clause-looks_most c served =
    let s = c.args.self.now in
    ∥∥₁_elim s.made le_prop (λ made. c.search.ensures.looks_most s.options (meta_tree s) made.runs (s.served ∙ served))

-- and at least the starts that are attempted
pub returns-clause-looks_least : goal.returns-clause-looks_least
returns-clause-looks_least c =
    let s = c.args.self.now in
    if_ok c.search.result c.search.ensures.looks_least (λ found told served.
    ∥∥₁_elim s.made le_prop (λ made. told s.options (meta_tree s) made.runs (s.served ∙ served)))

-- the run stays within the options' limits
pub returns-clause-stays : goal.returns-clause-stays
returns-clause-stays c =
    let s = c.args.self.now in
    if_ok c.search.result c.search.ensures.stays (λ found stays order.
    ∥∥₁_elim s.made (StrategyStaysInLimits-prop s.strategy s.options c.args.text.now c.args.input.now) (λ made.
    stays s.options (executes-under s.strategy s.options (meta_tree s) made.runs)))
