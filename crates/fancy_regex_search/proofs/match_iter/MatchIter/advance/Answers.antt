use Rattle.std.proofs.Common.{◌≤◌, ◌∙◌, max, Bool, true≢false, subst, sym, ap, arith}
use Rattle.fancy_regex_input.specs.declared.config.SearchConfig.{SearchConfig}
use Rattle.fancy_regex_meta.specs.SearchLimits.{IsMetaSearchError}
use Rattle.fancy_regex_search.specs.IterationSearches.{SkipsToFrom, at_once}
use Rattle.fancy_regex_search.proofs.IterationLemmas.{none_found, passes_before}
use Rattle.fancy_regex_search.proofs.LimitLemmas.{until_all, until_next}
use Rattle.fancy_regex_search.proofs.match_iter.MatchIter.advance.Goals as goal

-- a match that is skipped
pub loop-found-preserved : goal.loop-found-preserved
loop-found-preserved g c =
    let inv = c.loop-found.invariant in
    let new = c.step.new.self in
    let same = c.step.ensures.same in
    let step = rw (inv.haystack, inv.regex, inv.wanted) at c.in-Skip.ensures.step in
    let left = rw inv.regex at inv.left in
    record {
      left = rw (same.1, inv.regex) (left ∙ step.gives);
      start = omega (arith, inv.start, step.grows);
      haystack = same.0 ∙ inv.haystack;
      regex = same.1 ∙ inv.regex;
      wanted = same.2 ∙ inv.wanted;
      config = step.config ∙ ap (λ (a : SearchConfig). record a { start = new.input.config.start }) inv.config;
      searches = omega (arith, inv.searches, step.nears);
      passes = λ q o made. inv.passes q o (step.passes q o made);
      skips = λ q o skips. inv.skips q o (step.leaves.2 q o skips);
      stays = λ q before. inv.stays q (step.stays q before);
      done = step.leaves.1 ∙ sym step.leaves.0 ∙ inv.done;
      last = step.leaves.3 ∙ inv.last;
      over = λ over. absurd (true≢false (sym over ∙ sym inv.done ∙ step.leaves.0));
    }

pub returns-in-Item-clause-limits : goal.returns-in-Item-clause-limits
returns-in-Item-clause-limits g c =
    let inv = c.loop-found.invariant in
    let now = c.loop-found.self in
    let old = c.args.self.now in
    let s = old.regex.now.meta in
    let text = g.S.Input.text old.input.haystack in
    let new = c.step.new.self in
    let step = rw (inv.haystack, inv.regex, inv.wanted) at c.in-Item.ensures.step in
    let left = rw inv.regex at inv.left in
    record {
      fails = tt;
      stays = until_all s text old.input.config now.input.config old.state now.state inv.stays step.stays;
      passes = λ q o made. inv.passes q o (step.passes q o made);
      returns = (
        step.returns.0,
        left ∙ step.returns.1,
        passes_before s text old.input.config now.input.config new.input.config old.state now.state new.state step.returns.0 inv.config
            inv.last inv.skips step.returns.2,
      );
    }

pub returns-in-End-clause-limits : goal.returns-in-End-clause-limits
returns-in-End-clause-limits g c =
    let inv = c.loop-found.invariant in
    let now = c.loop-found.self in
    let old = c.args.self.now in
    let step = rw (inv.haystack, inv.regex, inv.wanted) at c.in-End.ensures.step in
    record {
      fails = tt;
      stays = λ going. until_all old.regex.now.meta (g.S.Input.text old.input.haystack) old.input.config now.input.config old.state
          now.state inv.stays (step.stays (inv.done ∙ going));
      passes = tt;
      returns = tt;
    }

pub returns-in-Failed-clause-limits : goal.returns-in-Failed-clause-limits
returns-in-Failed-clause-limits g c =
    let inv = c.loop-found.invariant in
    let now = c.loop-found.self in
    let s = c.args.self.now.regex.now.meta in
    let text = g.S.Input.text c.args.self.now.input.haystack in
    let step = rw (inv.haystack, inv.regex, inv.wanted) at c.in-Failed.ensures.step in
    record {
      fails = (
        now.input.config.start,
        now.state.continue_disabled,
        inv.skips now.input.config.start now.state.continue_disabled
            (at_once now.state.last now.input.config.start now.state.continue_disabled),
        subst (λ (a : SearchConfig). max a.start a.range_start ≤ a.range_end) inv.config step.fails.0,
        subst (λ (a : SearchConfig). IsMetaSearchError s text a now.state.continue_disabled c.in-Failed.error) inv.config step.fails.1,
        until_next s text c.args.self.now.input.config now.input.config c.args.self.now.state now.state inv.stays,
      );
      stays = tt;
      passes = tt;
      returns = tt;
    }

pub returns-in-Item-clause-leaves : goal.returns-in-Item-clause-leaves
returns-in-Item-clause-leaves g c =
    let inv = c.loop-found.invariant in
    let step = rw (inv.haystack, inv.regex, inv.wanted) at c.in-Item.ensures.step in
    record {
      ends = step.ends;
      keeps = step.leaves;
      left = tt;
    }

pub returns-in-End-clause-leaves : goal.returns-in-End-clause-leaves
returns-in-End-clause-leaves g c =
    let inv = c.loop-found.invariant in
    let now = c.loop-found.self in
    let old = c.args.self.now in
    let s = old.regex.now.meta in
    let text = g.S.Input.text old.input.haystack in
    let new = c.step.new.self in
    let step = rw (inv.haystack, inv.regex, inv.wanted) at c.in-End.ensures.step in
    record {
      ends = step.ends;
      keeps = tt;
      left = record {
        over = λ over. step.moves ∙ inv.over over;
        skips = λ going.
            let same = inv.skips now.input.config.start now.state.continue_disabled
            (at_once now.state.last now.input.config.start now.state.continue_disabled) in
            let flagged = subst (λ (b : Bool). SkipsToFrom s text old.input.config old.state now.input.config.start b)
            (sym step.leaves.0) same in
            subst (λ (a : SearchConfig). SkipsToFrom s text old.input.config old.state a.start new.state.continue_disabled)
            (sym step.moves) flagged;
        found = λ going. none_found s text old.input.config now.input.config new.input.config now.state.continue_disabled
            new.state.continue_disabled inv.config step.moves step.leaves.0 (step.leaves.1 (inv.done ∙ going));
      };
    }

pub returns-in-Failed-clause-leaves : goal.returns-in-Failed-clause-leaves
returns-in-Failed-clause-leaves g c =
    let inv = c.loop-found.invariant in
    let step = rw (inv.haystack, inv.regex, inv.wanted) at c.in-Failed.ensures.step in
    record {
      ends = step.ends;
      keeps = tt;
      left = tt;
    }
