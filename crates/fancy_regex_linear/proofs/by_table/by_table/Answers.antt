use Rattle.std.proofs.Common.{◌∙◌, ◌+◌, ℕ, Bool, false, Some, None, refl, sym, ap, subst, arith}
use Rattle.fancy_regex_class.specs.Looks.{looked_text, look_count}
use Rattle.fancy_regex_class.specs.declared.counted.Counted.{Counted}
use Rattle.fancy_regex_table.specs.Tables.{IsInRange}
use Rattle.fancy_regex_table.specs.declared.table.Passed.TheVariants as P
use Rattle.fancy_regex_linear.specs.Find.{earliest, attempted}
use Rattle.fancy_regex_linear.specs.Settled.{IsAtStart, IsSettled, IsSettledAfter, IsTableSearch, parts_of}
use Rattle.fancy_regex_linear.specs.declared.settle.Settled.TheVariants.{Found, On}
use Rattle.fancy_regex_linear.proofs.StartLemmas.{none_from, earliest_none, tried_none}
use Rattle.fancy_regex_linear.proofs.SettleLemmas.{spot, no_spot, on_says, found_says, search_of, is_search, fail_by, end_by}
use Rattle.fancy_regex_linear.proofs.by_table.by_table.Goals as goal
use Rattle.fancy_regex_linear.proofs.by_table.by_table.Goals.{After-pass_counted}

-- the search is by the table, and tries all starts
by_it : (c : After-pass_counted) → IsTableSearch c.args.context.now (looked_text c.args.text.now) c.in-Some.it
by_it c = rw c.in-Some.is at c.requires.table

at_start : (c : After-pass_counted) → IsAtStart c.args.context.now (looked_text c.args.text.now) false c.args.place c.args.memory.now
at_start c = subst (λ (b : Bool). IsAtStart c.args.context.now (looked_text c.args.text.now) b c.args.place c.args.memory.now) c.if-mode.false c.requires.start

pub returns-in_ok-load_match-in-Match-clause-settled : goal.returns-in_ok-load_match-in-Match-clause-settled
returns-in_ok-load_match-in-Match-clause-settled c =
    let d = (goal.at.returns-in_ok-load_match-in-Match-clause-settled c).After-pass_counted in
    let by = by_it d in
    let here = at_start d in
    let context = c.args.context.now in
    let text = looked_text c.args.text.now in
    let place = c.args.place in
    let memory = c.args.memory.now in
    let start : ℕ = c.in-Match.start in
    let end : ℕ = c.in-Match.end in
    let range : IsInRange text place.at context.stop (P.Match start end c.in-Match.read) = rw by.text_is at c.in-Match.ensures.range in
    let loaded_is = rw c.pass_counted.ensures.text at c.in_ok-load_match-in-Match.ensures.loaded in
    let settled : IsSettled context text (look_count c.args.text.now) (look_count c.load_match.new.text) false c.args.mode.now.span_only place memory c.load_match.new.memory (Found start end) =
    record {
      says = λ view go explains failed.
          let search_ok = is_search context text c.in-Some.it by view go explains place.at here.utf8 here.inside in
          let early = fail_by context text c.in-Some.it by view go explains place.at start
          (λ t. (c.in-Match.ensures.passed (parts_of context) context.rules (search_of context text c.in-Some.it by view go explains place.at) t search_ok refl (sym by.text_is) refl refl).0.early) in
          let end_is = end_by context text c.in-Some.it by view go explains start end
          (λ t. (c.in-Match.ensures.passed (parts_of context) context.rules (search_of context text c.in-Some.it by view go explains place.at) t search_ok refl (sym by.text_is) refl refl).0.end_is) in
          let loaded = loaded_is.says view go explains failed end end_is in
          let found = found_says context text place memory here go start (record { at = end; slots = loaded.0 }) range.0 (omega (arith, range.1, range.2)) range.3 early (sym loaded.1) in (
            record { found_slots = loaded.0; is = sym found.0; same_slots = loaded.2 },
            omega (arith, found.1, range.0, range.1, c.in-Match.ensures.looks, c.load_match.ensures.attempt.looks.more),
          );
      on = tt;
    } in
    subst (λ (b : Bool). IsSettled context text (look_count c.args.text.now) (look_count c.load_match.new.text) b c.args.mode.now.span_only place memory c.load_match.new.memory (Found start end))
    (sym c.if-mode.false) settled

pub returns-in-Ended-clause-settled : goal.returns-in-Ended-clause-settled
returns-in-Ended-clause-settled c =
    let d = (goal.at.returns-in-Ended-clause-settled c).After-pass_counted in
    let by = by_it d in
    let here = at_start d in
    let context = c.args.context.now in
    let text = looked_text c.args.text.now in
    let place = c.args.place in
    let memory = c.args.memory.now in
    let is = here.start.1 in
    let settled : IsSettled context text (look_count c.args.text.now) (look_count c.pass_counted.new.text) false c.args.mode.now.span_only place memory memory (On None) =
    record {
      says = λ view go explains failed.
          let search_ok = is_search context text c.in-Some.it by view go explains place.at here.utf8 here.inside in
          let fails = fail_by context text c.in-Some.it by view go explains place.at (context.stop + 1)
          (λ t. c.in-Ended.ensures.passed (parts_of context) context.rules (search_of context text c.in-Some.it by view go explains place.at) t search_ok refl (sym by.text_is) refl refl) in
          let f = spot context text place memory here go in
          let none = none_from f text false place.at context.stop is.boundary is.high here.inside
          (λ i boundary low high. no_spot context text place memory here go i (fails i low (omega (arith, high)) boundary)) in
          let tried = ap (attempted f) here.split in
          let no_more = tried_none f in
          (failed, refl, ap (earliest f) (sym here.split) ∙ none.0 ∙ sym (earliest_none f), omega (arith, tried, none.1, no_more, c.in-Ended.ensures.looks));
      on = record {
        after = tt;
        base = tt;
        between = here.between;
        counted = omega (arith, c.in-Ended.ensures.looks, is.high);
      };
    } in
    subst (λ (b : Bool). IsSettled context text (look_count c.args.text.now) (look_count c.pass_counted.new.text) b c.args.mode.now.span_only place memory memory (On None))
    (sym c.if-mode.false) settled

pub returns-in-Idle-clause-settled : goal.returns-in-Idle-clause-settled
returns-in-Idle-clause-settled c =
    let d = (goal.at.returns-in-Idle-clause-settled c).After-pass_counted in
    let by = by_it d in
    let here = at_start d in
    let context = c.args.context.now in
    let text = looked_text c.args.text.now in
    let place = c.args.place in
    let memory = c.args.memory.now in
    let at : ℕ = c.in-Idle.at in
    let range : IsInRange text place.at context.stop (P.Idle at) = rw by.text_is at c.in-Idle.ensures.range in
    let settled : IsSettled context text (look_count c.args.text.now) (look_count c.pass_counted.new.text) false c.args.mode.now.span_only place memory memory (On (Some at)) =
    record {
      says = λ view go explains failed.
          let search_ok = is_search context text c.in-Some.it by view go explains place.at here.utf8 here.inside in
          let fails = fail_by context text c.in-Some.it by view go explains place.at at
          (λ t. (c.in-Idle.ensures.passed (parts_of context) context.rules (search_of context text c.in-Some.it by view go explains place.at) t search_ok refl (sym by.text_is) refl refl).0.early) in
          let on = on_says context text place memory here go at (omega (arith, range.0)) range.1 fails in
          (failed, refl, on.0, omega (arith, on.1, range.0, c.in-Idle.ensures.looks));
      on = record {
        after = (range.0, range.1, range.2);
        base = omega (arith, here.base, range.0);
        between = here.between;
        counted = omega (arith, c.in-Idle.ensures.looks, range.0);
      };
    } in
    subst (λ (b : Bool). IsSettled context text (look_count c.args.text.now) (look_count c.pass_counted.new.text) b c.args.mode.now.span_only place memory memory (On (Some at)))
    (sym c.if-mode.false) settled

pub returns-in_ok-settled-in-Unknown-clause-settled : goal.returns-in_ok-settled-in-Unknown-clause-settled
returns-in_ok-settled-in-Unknown-clause-settled c =
    let d = (goal.at.returns-in_ok-settled-in-Unknown-clause-settled c).After-pass_counted in
    let by = by_it d in
    let here = at_start d in
    let context = c.args.context.now in
    let text = looked_text c.args.text.now in
    let place = c.args.place in
    let memory = c.args.memory.now in
    let new = c.by_attempts.new in
    let found = c.in_ok-settled-in-Unknown.settled in
    let after : IsSettledAfter context text (look_count c.args.text.now) (look_count new.text) c.args.mode.now.span_only place c.in-Unknown.from memory new.memory found =
    subst (λ (t : Counted). IsSettledAfter context (looked_text t) (look_count t) (look_count new.text) c.args.mode.now.span_only place c.in-Unknown.from memory new.memory found)
    c.in-Unknown.ensures.looks (c.in_ok-settled-in-Unknown.ensures.settled c.args.mode.now.span_only) in
    let settled : IsSettled context text (look_count c.args.text.now) (look_count c.by_attempts.new.text) false c.args.mode.now.span_only place memory c.by_attempts.new.memory c.in_ok-settled-in-Unknown.settled =
    record {
      says = λ view go explains failed.
          let search_ok = is_search context text c.in-Some.it by view go explains place.at here.utf8 here.inside in
          after.says view go explains failed
          (fail_by context text c.in-Some.it by view go explains place.at c.in-Unknown.from
          (λ t. (c.in-Unknown.ensures.passed (parts_of context) context.rules (search_of context text c.in-Some.it by view go explains place.at) t search_ok refl (sym by.text_is) refl refl).early));
      on = after.on;
    } in
    subst (λ (b : Bool). IsSettled context text (look_count c.args.text.now) (look_count c.by_attempts.new.text) b c.args.mode.now.span_only place memory c.by_attempts.new.memory c.in_ok-settled-in-Unknown.settled)
    (sym c.if-mode.false) settled
