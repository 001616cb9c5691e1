use Rattle.std.proofs.Common.{◌≡◌, ◌+◌, ◌-◌, ◌≤◌, ◌∙◌, ℕ, List, Some, None, length, refl, sym, ap, subst, arith, IsCharBoundary}
use Rattle.fancy_regex_class.specs.Looks.{looked_text}
use Rattle.fancy_regex_table.specs.Tables.{IsInRange}
use Rattle.fancy_regex_table.specs.declared.table.Passed.TheVariants as P
use Rattle.fancy_regex_class.specs.declared.counted.Counted.{Counted}
use Rattle.fancy_regex_linear.specs.Alone.{AllFailBetween, AloneSays, IsLookedAt, IsNoneFrom}
use Rattle.fancy_regex_linear.specs.Settled.{parts_of}
use Rattle.fancy_regex_linear.proofs.AloneLemmas.{all_fail_on, unknown_says, looked_then, none_then}
use Rattle.fancy_regex_linear.proofs.SettleLemmas.{search_of, is_search, fail_by, end_by}
use Rattle.fancy_regex_linear.proofs.needed.by_needed_alone.Goals as goal
use Rattle.fancy_regex_linear.proofs.needed.by_needed_alone.Goals.{After-pass_to_needed-start, After-pass_counted}

pub starts-init : goal.starts-init
starts-init c = record {
  way = record {
    range = (omega arith, c.requires.range.0);
    boundary = c.requires.boundary;
    fails = λ view go explains p low less boundary. absurd (omega (arith, low, less));
    at_least = omega arith;
    at_most = omega arith;
    text = refl;
    same_counter = refl;
  };
}

-- the search has looked at the place where it stands
here : (c : After-pass_to_needed-start) → IsLookedAt c.args.context.now c.args.text.now c.pass_to_needed-start.new.text c.args.from (c.pass_to_needed-start.result.0, c.pass_to_needed-start.result.1)
here c =
    looked_then c.args.context.now c.args.text.now c.starts.text c.pass_to_needed-start.new.text c.args.from c.starts.at (c.pass_to_needed-start.result.0, c.pass_to_needed-start.result.1) c.starts.invariant.way
    c.pass_to_needed-start.ensures

-- what the pass says of the starts from there on
range_of : (c : After-pass_counted) → IsInRange (looked_text c.args.text.now) c.pass_to_needed-start.result.0 c.args.context.now.stop c.pass_counted.result
range_of c = rw c.requires.table.text_is at c.pass_counted.ensures.range

pub returns-in-Match : goal.returns-in-Match
returns-in-Match c =
    let at = here (goal.at.returns-in-Match c).After-pass_to_needed-start in
    let context = c.args.context.now in
    let text = looked_text c.args.text.now in
    let by = c.requires.table in
    let start : ℕ = c.pass_to_needed-start.result.0 in
    let first : ℕ = c.in-Match.first in
    let end : ℕ = c.in-Match.end in
    let range : IsInRange text start context.stop (P.Match first end c.in-Match.read) = rw by.text_is at c.in-Match.ensures.range in
    let counts = c.pass_counted.ensures in (
      record {
        range = (omega (arith, at.range.0, range.0), omega (arith, range.1, range.2));
        boundary = range.3;
        fails = all_fail_on context text c.args.from start first at.fails (λ view go explains.
            fail_by context text c.args.it by view go explains start first
            (λ t. (c.in-Match.ensures.passed (parts_of context) context.rules (search_of context text c.args.it by view go explains start) t
            (is_search context text c.args.it by view go explains start c.requires.text c.requires.range.1) refl (sym by.text_is) refl refl).0.early));
        ends = λ view go explains.
            end_by context text c.args.it by view go explains first end
            (λ t. (c.in-Match.ensures.passed (parts_of context) context.rules (search_of context text c.args.it by view go explains start) t
            (is_search context text c.args.it by view go explains start c.requires.text c.requires.range.1) refl (sym by.text_is) refl refl).0.end_is);
      },
      record {
        at_least = omega (arith, at.looked.at_least, c.in-Match.ensures.looks, range.0, range.1, at.range.0);
        at_most = omega (arith, at.looked.at_most, c.in-Match.ensures.looks, range.0, range.1, range.2, at.range);
        text = counts.text ∙ at.looked.text;
        same_counter = counts.same_counter ∙ at.looked.same_counter;
      },
    )

pub returns-in-Ended : goal.returns-in-Ended
returns-in-Ended c =
    let at = here (goal.at.returns-in-Ended c).After-pass_to_needed-start in
    let context = c.args.context.now in
    let text = looked_text c.args.text.now in
    let by = c.requires.table in
    let start : ℕ = c.pass_to_needed-start.result.0 in
    let counts = c.pass_counted.ensures in
    record {
      fails = all_fail_on context text c.args.from start (context.stop + 1) at.fails (λ view go explains.
          fail_by context text c.args.it by view go explains start (context.stop + 1)
          (λ t. c.in-Ended.ensures.passed (parts_of context) context.rules (search_of context text c.args.it by view go explains start) t
          (is_search context text c.args.it by view go explains start c.requires.text c.requires.range.1) refl (sym by.text_is) refl refl));
      looked = record {
        at_least = omega (arith, at.looked.at_least, c.in-Ended.ensures.looks, at.range);
        at_most = omega (arith, at.looked.at_most, c.in-Ended.ensures.looks, at.range);
        text = counts.text ∙ at.looked.text;
        same_counter = counts.same_counter ∙ at.looked.same_counter;
      };
    }

pub starts-preserved : goal.starts-preserved
starts-preserved c =
    let at = here (goal.at.starts-preserved c).After-pass_to_needed-start in
    let context = c.args.context.now in
    let text = looked_text c.args.text.now in
    let by = c.requires.table in
    let start : ℕ = c.pass_to_needed-start.result.0 in
    let next : ℕ = c.in-Idle.next in
    let range : IsInRange text start context.stop (P.Idle next) = rw by.text_is at c.in-Idle.ensures.range in
    let counts = c.pass_counted.ensures in
    record {
      way = record {
        range = (omega (arith, at.range.0, range.0), range.1);
        boundary = range.2;
        fails = all_fail_on context text c.args.from start next at.fails (λ view go explains.
            fail_by context text c.args.it by view go explains start next
            (λ t. (c.in-Idle.ensures.passed (parts_of context) context.rules (search_of context text c.args.it by view go explains start) t
            (is_search context text c.args.it by view go explains start c.requires.text c.requires.range.1) refl (sym by.text_is) refl refl).0.early));
        at_least = omega (arith, at.looked.at_least, c.in-Idle.ensures.looks, range.0, at.range.0);
        at_most = omega (arith, at.looked.at_most, c.in-Idle.ensures.looks, range.0, at.range.0);
        text = counts.text ∙ at.looked.text;
        same_counter = counts.same_counter ∙ at.looked.same_counter;
      };
    }

pub returns-in-Unknown : goal.returns-in-Unknown
returns-in-Unknown c =
    let at = here (goal.at.returns-in-Unknown c).After-pass_to_needed-start in
    let context = c.args.context.now in
    let text = looked_text c.args.text.now in
    let by = c.requires.table in
    let start : ℕ = c.pass_to_needed-start.result.0 in
    let from : ℕ = c.in-Unknown.from in
    let read : ℕ = c.in-Unknown.read in
    let range : IsInRange text start context.stop (P.Unknown from read) = rw by.text_is at c.in-Unknown.ensures.range in
    subst (λ (t : Counted). AloneSays context c.args.text.now t c.args.from c.unknown.result) (sym c.in-Unknown.ensures.looks)
    (unknown_says context c.args.text.now c.pass_to_needed-start.new.text c.args.from from read (start, c.pass_to_needed-start.result.1) c.unknown.result c.requires.text c.requires.range.1 at
    (range.0, range.1, range.2)
    (λ view go explains.
    fail_by context text c.args.it by view go explains start from
    (λ t. (c.in-Unknown.ensures.passed (parts_of context) context.rules (search_of context text c.args.it by view go explains start) t
    (is_search context text c.args.it by view go explains start c.requires.text c.requires.range.1) refl (sym by.text_is) refl refl).early))
    (range.3, range.4) c.unknown.ensures)
