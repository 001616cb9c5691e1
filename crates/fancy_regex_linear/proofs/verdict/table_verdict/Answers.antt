use Rattle.std.proofs.Common.{◌≡◌, ◌+◌, ◌≤◌, ◌∙◌, ℕ, List, Some, None, false, length, refl, sym, ap, arith, IsCharBoundary}
use Rattle.std.specs.Prelude.{is_some}
use Rattle.fancy_regex_class.specs.Looks.{looked_text}
use Rattle.fancy_regex_states.specs.Attempts.{View, Continuation}
use Rattle.fancy_regex_table.specs.Signs.{IsSignInRange}
use Rattle.fancy_regex_table.specs.declared.sign.Sign.TheVariants as G
use Rattle.fancy_regex_linear.specs.Find.{earliest, places}
use Rattle.fancy_regex_linear.specs.Search.{Explains}
use Rattle.fancy_regex_linear.specs.Settled.{parts_of}
use Rattle.fancy_regex_linear.specs.Starts.{spot_from}
use Rattle.fancy_regex_linear.specs.Verdicts.{IsPassedOver}
use Rattle.fancy_regex_linear.proofs.SettleLemmas.{search_of, is_search, fail_by}
use Rattle.fancy_regex_linear.proofs.VerdictLemmas.{some_by, none_by, on_by}
use Rattle.fancy_regex_linear.proofs.verdict.table_verdict.Goals as goal
use Rattle.fancy_regex_linear.proofs.verdict.table_verdict.Goals.{In-Some}

abbrev text_of : In-Some → List ℕ
text_of c = looked_text c.args.text.now

-- the table tells of the whole text
whole : (c : In-Some) → c.args.context.now.stop ≡ length c.args.it.text.now
whole c = c.requires.table.whole ∙ ap length (sym c.requires.table.text_is)

-- where the pass begins
record Here (c : In-Some) : Type 0 where
  pub range : (c.starts.at ≤ c.in-Some.start) × (c.in-Some.start ≤ c.args.context.now.stop) × IsCharBoundary (text_of c) c.in-Some.start
  pub fails : IsPassedOver c.args.context.now (text_of c) c.starts.at (Some c.in-Some.start)

here : (c : In-Some) → Here c
here c = record { range = rw c.starts.invariant.text at c.in-Some.ensures.range; fails = rw c.starts.invariant.text at c.in-Some.ensures.passed }

-- no match starts before it
earlier : (c : In-Some) (view : View) (go : ℕ → Continuation) → Explains c.args.context.now (text_of c) view go → (slots : List ℕ)
    → earliest (spot_from go c.args.context.now.entry slots) (places (text_of c) false c.args.from c.args.context.now.stop)
    ≡ earliest (spot_from go c.args.context.now.entry slots) (places (text_of c) false c.in-Some.start c.args.context.now.stop)
earlier c view go explains slots =
    let at = here c in
    c.starts.invariant.passed view go explains slots
    ∙ on_by c.args.context.now (text_of c) c.args.it c.requires.table view go explains slots c.starts.at c.in-Some.start at.range.0 at.range.1 c.requires.range.1
    (at.fails view go explains)

pub returns-in_default-clause-verdict : goal.returns-in_default-clause-verdict
returns-in_default-clause-verdict c view go explains slots =
    let context = c.args.context.now in
    let text = looked_text c.args.text.now in
    let inv = c.starts.invariant in
    let over : IsPassedOver context text c.starts.at None = rw (c.in_default.is, inv.text) at c.pass_starts.ensures.passed in
    ap is_some (inv.passed view go explains slots)
    ∙ none_by context text c.args.it c.requires.table view go explains slots c.starts.at inv.boundary inv.range.1 c.requires.range.1 (over view go explains)

pub returns-in-Match-clause-verdict : goal.returns-in-Match-clause-verdict
returns-in-Match-clause-verdict c view go explains slots =
    let d = (goal.at.returns-in-Match-clause-verdict c).In-Some in
    let context = c.args.context.now in
    let text = looked_text c.args.text.now in
    let by = c.requires.table in
    let start : ℕ = c.in-Some.start in
    ap is_some (earlier d view go explains slots)
    ∙ some_by context text c.args.it by view go explains slots start
    (λ t. c.in-Match.ensures.sign (parts_of context) context.rules (search_of context text c.args.it by view go explains start) t
    (is_search context text c.args.it by view go explains start c.requires.text c.requires.range.1) refl (sym by.text_is) refl (whole d))

pub returns-in-Ended-clause-verdict : goal.returns-in-Ended-clause-verdict
returns-in-Ended-clause-verdict c view go explains slots =
    let d = (goal.at.returns-in-Ended-clause-verdict c).In-Some in
    let context = c.args.context.now in
    let text = looked_text c.args.text.now in
    let by = c.requires.table in
    let start : ℕ = c.in-Some.start in
    let at = here d in
    ap is_some (earlier d view go explains slots)
    ∙ none_by context text c.args.it by view go explains slots start at.range.2 at.range.1 c.requires.range.1
    (fail_by context text c.args.it by view go explains start (context.stop + 1)
    (λ t. c.in-Ended.ensures.sign (parts_of context) context.rules (search_of context text c.args.it by view go explains start) t
    (is_search context text c.args.it by view go explains start c.requires.text c.requires.range.1) refl (sym by.text_is) refl (whole d)))

pub starts-preserved : goal.starts-preserved
starts-preserved c =
    let d = (goal.at.starts-preserved c).In-Some in
    let context = c.args.context.now in
    let text = looked_text c.args.text.now in
    let by = c.requires.table in
    let start : ℕ = c.in-Some.start in
    let next : ℕ = c.in-Idle.next in
    let at = here d in
    let range : IsSignInRange text start (G.Idle next) = rw by.text_is at c.in-Idle.ensures.range in
    let inside : next ≤ context.stop = omega (arith, range.1, by.whole) in
    record {
      range = (omega (arith, c.starts.invariant.range.0, at.range.0, range.0), inside);
      text = c.pass_starts.ensures.text ∙ c.starts.invariant.text;
      boundary = range.2;
      passed = λ view go explains slots.
          earlier d view go explains slots
          ∙ on_by context text c.args.it by view go explains slots start next (omega (arith, range.0)) inside c.requires.range.1
          (fail_by context text c.args.it by view go explains start next
          (λ t. (c.in-Idle.ensures.sign (parts_of context) context.rules (search_of context text c.args.it by view go explains start) t
          (is_search context text c.args.it by view go explains start c.requires.text c.requires.range.1) refl (sym by.text_is) refl (whole d)).0.early));
    }

pub returns-in-Unknown-clause-verdict : goal.returns-in-Unknown-clause-verdict
returns-in-Unknown-clause-verdict c view go explains slots =
    let d = (goal.at.returns-in-Unknown-clause-verdict c).In-Some in
    let context = c.args.context.now in
    let text = looked_text c.args.text.now in
    let by = c.requires.table in
    let start : ℕ = c.in-Some.start in
    let from : ℕ = c.in-Unknown.from in
    let range : IsSignInRange text start (G.Unknown from) = rw by.text_is at c.in-Unknown.ensures.range in
    earlier d view go explains slots
    ∙ on_by context text c.args.it by view go explains slots start from range.0 (omega (arith, range.1, by.whole)) c.requires.range.1
    (fail_by context text c.args.it by view go explains start from
    (λ t. (c.in-Unknown.ensures.sign (parts_of context) context.rules (search_of context text c.args.it by view go explains start) t
    (is_search context text c.args.it by view go explains start c.requires.text c.requires.range.1) refl (sym by.text_is) refl (whole d)).early))
