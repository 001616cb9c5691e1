use Rattle.std.proofs.Common.{◌≡◌, ◌∙◌, ◌++◌, List, [], ℕ, map, Ok, Err, None, rules, refl, sym, ap, subst, string_bytes, ◌-◌}
use Rattle.std.proofs.lemmas.Result.{err_from_is_err_and}
use Rattle.std.proofs.lemmas.Bool.{true≢false}
use Rattle.std.specs.Prelude.{drop, option_map}
use Rattle.fancy_regex_input.specs.SearchInputs.{whole}
use Rattle.fancy_regex_input.specs.declared.config.SearchConfig.{SearchConfig}
use Rattle.fancy_regex_meaning.specs.Searches.{Match, counted}
use Rattle.fancy_regex_search.specs.RemainingMatches.{all_matches, remaining_matches}
use Rattle.fancy_regex_search.specs.IterationLimits.{SkipsStayInLimits}
use Rattle.fancy_regex_search.specs.Replacements.{captures_view, still_replaced, IsReplacedByCalls, call_failed}
use Rattle.fancy_regex_search.proofs.ReplaceLemmas.{Completes, completes_gap, completes_last, still_spent, still_none, call_viewed}
use Rattle.fancy_regex_search.proofs.ReplaceLemmas.{completes_init, progress_init, progress_gap, progress_fails, progress_call_fails, progress_ran_out, progress_stays}
use Rattle.fancy_regex_search.proofs.replace.replace_by_calls.Goals.{in-Some+in_ok-gap+then-is_spent, in_default}
use Rattle.fancy_regex_search.proofs.replace.replace_by_calls.Goals as goal

pub returns-in_err-gap-clause-fails : goal.returns-in_err-gap-clause-fails
returns-in_err-gap-clause-fails g c =
    let p = err_from_is_err_and c.from_residual.result c.from_residual.ensures.1 in
    let inv = c.loop-found.invariant in
    let iter = c.loop-found.gaps.match_iter in
    let text = c.args.text.now in
    let was : c.in-Some.found ≡ Err c.in_err-gap.field-0.0 = c.in_err-gap.was in
    let fails = rw (inv.2, inv.3, was) at c.in-Some.ensures.limits.fails in
    rw (p.1, p.2) (progress_fails g.R.Replacer.answers c.args.regex.now.meta text (counted c.args.limit (all_matches c.args.regex.now.meta text (whole text))) c.args.replacer.now
    iter.input.config iter.state _ c.loop-found.replacer _ inv.4 fails inv.5)

pub returns-in_err-push_str-clause-fails : goal.returns-in_err-push_str-clause-fails
returns-in_err-push_str-clause-fails g c =
    let p = err_from_is_err_and c.from_residual-in_err-push_str.result c.from_residual-in_err-push_str.ensures.1 in
    let inv = c.loop-found.invariant in
    let iter = c.loop-found.gaps.match_iter in
    let text = c.args.text.now in
    rw (p.1, p.2) (progress_ran_out g.R.Replacer.answers c.args.regex.now.meta text (counted c.args.limit (all_matches c.args.regex.now.meta text (whole text))) c.args.replacer.now
    iter.input.config iter.state _ c.loop-found.replacer inv.5)

pub returns-in_err-replace_append-clause-fails : goal.returns-in_err-replace_append-clause-fails
returns-in_err-replace_append-clause-fails g c =
    let p = err_from_is_err_and c.from_residual-in_err-replace_append.result c.from_residual-in_err-replace_append.ensures.1 in
    let inv = c.loop-found.invariant in
    let s = c.args.regex.now.meta in
    let text = c.args.text.now in
    let A = g.R.Replacer.answers in
    let e = c.in_err-replace_append.field-0.0 in
    let last = c.replace_append.new.self in
    let was : c.in-Some.found ≡ Ok c.in_ok-gap.gap = c.in_ok-gap.was in
    let gives = rw (c.next_gap.ensures.same.0, c.next_gap.ensures.same.1, inv.2, inv.3, inv.11, was) at c.in-Some.ensures.gives in
    let m : Match = gives.0 in
    let before : List Match = remaining_matches s text c.loop-found.gaps.match_iter.input.config c.loop-found.gaps.match_iter.state in
    let after : List Match = remaining_matches s text c.next_gap.new.self.match_iter.input.config c.next_gap.new.self.match_iter.state in
    let call : A c.loop-found.replacer (captures_view s text m) (Err e) last = call_viewed A c.args.wanted s c.new-captures.result.regex.now.meta text c.new-captures.result.haystack.now
    c.new-captures.result.slots.items m c.loop-found.replacer last (Err e) c.requires.alike (ap (λ x. x.now.meta) c.new-captures.ensures.regex) (ap (λ x. x.now) c.new-captures.ensures.haystack)
    (ap (λ x. x.items) c.new-captures.ensures.slots ∙ gives.2) c.in_err-replace_append.ensures.fails.0 in
    let stays = rw (inv.2, inv.3, was) at c.in-Some.ensures.limits.stays in
    let iter = c.loop-found.gaps.match_iter in
    let failed = progress_call_fails A s text (counted c.args.limit (all_matches s text (whole text))) c.args.replacer.now iter.input.config iter.state c.loop-found.left
    (option_map (λ n. n - 1) c.loop-found.left) before after c.loop-found.replacer last e m gives.1 (sym c.is_spent.ensures ∙ c.if-is_spent.false) refl inv.4 stays call inv.5 in
    rw (p.1, p.2) (call_failed None failed)

pub loop-found-init : goal.loop-found-init
loop-found-init g c =
    let s = c.args.regex.now.meta in
    let text = c.args.text.now in
    let made = c.new-gaps.ensures in
    let iter = c.new-gaps.result.match_iter in
    let first : remaining_matches s text iter.input.config iter.state ≡ all_matches s text (whole text) =
    (λ i. remaining_matches (sym (ap (λ x. x.now.meta) made.regex) i) (sym (ap (λ x. x.now) made.input.0) i) iter.input.config iter.state) ∙ made.left in (
      search rules,
      search rules,
      search rules,
      search rules,
      search rules,
      progress_init g.R.Replacer.answers s text c.args.limit c.args.replacer.now iter.input.config iter.state c.limit_of-left.result
          (remaining_matches s text iter.input.config iter.state) (all_matches s text (whole text)) made.input.1 made.first made.begins.0 c.limit_of-left.ensures first,
      search rules,
      completes_init g.R.Replacer.answers s text c.args.limit c.args.replacer.now c.new-gaps.result.last_end c.limit_of-left.result
          (remaining_matches s text iter.input.config iter.state) (all_matches s text (whole text)) (string_bytes c.new-out.result) c.limit_of-left.ensures first made.begins.1 (search rules),
      search rules,
      search rules,
      made.going,
      made.wanted,
    )

pub loop-found-preserved : goal.loop-found-preserved
loop-found-preserved g c =
    let inv = c.loop-found.invariant in
    let s = c.args.regex.now.meta in
    let text = c.args.text.now in
    let old = c.loop-found in
    let new = c.next_gap.new.self in
    let captures = c.new-captures.result in
    let wrote = c.in_ok-replace_append.ensures.appends in
    let gap = c.in_ok-gap.gap in
    let same = c.next_gap.ensures.same in
    let gives = rw (same.0, same.1, inv.2, inv.3, inv.11, c.in_ok-gap.was) at c.in-Some.ensures.gives in
    let returns = rw (inv.2, inv.3, c.in_ok-gap.was) at c.in-Some.ensures.limits.returns in
    let stays = rw (inv.2, inv.3, c.in_ok-gap.was) at c.in-Some.ensures.limits.stays in
    let m : Match = gives.0 in
    let call : g.R.Replacer.answers old.replacer (captures_view s text m) (Ok wrote.0) c.replace_append.new.self = call_viewed g.R.Replacer.answers c.args.wanted s captures.regex.now.meta
    text captures.haystack.now captures.slots.items m old.replacer c.replace_append.new.self (Ok wrote.0) c.requires.alike (ap (λ x. x.now.meta) c.new-captures.ensures.regex)
    (ap (λ x. x.now) c.new-captures.ensures.haystack) (ap (λ x. x.items) c.new-captures.ensures.slots ∙ gives.2) wrote.1 in
    let turn = completes_gap g.R.Replacer.answers s text (counted c.args.limit (all_matches s text (whole text))) c.args.replacer.now old.gaps.last_end new.last_end old.left c.one_less-left.result
    (remaining_matches s text old.gaps.match_iter.input.config old.gaps.match_iter.state) (remaining_matches s text new.match_iter.input.config new.match_iter.state)
    old.replacer c.replace_append.new.self (string_bytes old.out) (string_bytes c.replace_append.new.dst) gap.text.now wrote.0 m
    (sym c.is_spent.ensures ∙ c.if-is_spent.false) c.one_less-left.ensures gives.1 gives.3 gives.4 call
    (wrote.2 ∙ ap (λ x. x ++ wrote.0) c.in_ok-push_str.ensures.bytes) inv.7 in
    let onward = progress_gap g.R.Replacer.answers s text (counted c.args.limit (all_matches s text (whole text))) c.args.replacer.now old.gaps.match_iter.input.config new.match_iter.input.config
    old.gaps.match_iter.state new.match_iter.state old.left c.one_less-left.result
    (remaining_matches s text old.gaps.match_iter.input.config old.gaps.match_iter.state) (remaining_matches s text new.match_iter.input.config new.match_iter.state)
    old.replacer c.replace_append.new.self wrote.0 m gives.1 (sym c.is_spent.ensures ∙ c.if-is_spent.false) c.one_less-left.ensures inv.4 returns stays call inv.5 in
    let text_same = ap (λ x. x.now) c.next_gap.ensures.same.0 ∙ inv.2 in (
      c.rest-rest.utf8,
      c.replace_append.ensures.ready,
      text_same,
      ap (λ x. x.now.meta) c.next_gap.ensures.same.1 ∙ inv.3,
      c.next_gap.ensures.onward.config ∙ ap (λ (a : SearchConfig). record a { start = new.match_iter.input.config.start }) inv.4,
      onward,
      c.rest-rest.ensures ∙ ap (λ x. drop new.last_end x) text_same,
      turn.1,
      (λ none. absurd (turn.0 (inv.8 none).0)),
      (λ e. absurd (true≢false e)),
      rw c.in_ok-gap.was at c.in-Some.ensures.ends,
      c.next_gap.ensures.same.2 ∙ inv.11,
    )

pub returns-then-not-is_changed-clause-replaced : goal.returns-then-not-is_changed-clause-replaced
returns-then-not-is_changed-clause-replaced g c =
    let inv = c.loop-found.invariant in
    let s = c.args.regex.now.meta in
    let text = c.args.text.now in
    let A = g.R.Replacer.answers in
    let ms : List Match = counted c.args.limit (all_matches s text (whole text)) in
    let old = c.loop-found in
    let before : List Match = remaining_matches s text old.gaps.match_iter.input.config old.gaps.match_iter.state in
    let none : still_replaced old.left before ≡ [] = elim c.match-next_gap.branch [
      | in-Some+in_ok-gap+then-is_spent w ↦ still_spent old.left before (sym w.is_spent.ensures ∙ w.if-is_spent.true)
      | in_default w ↦ let gives = rw (inv.2, inv.3) at w.in_default.ensures.gives in ap (λ xs. still_replaced old.left xs) gives.0 ∙ still_none old.left
    ] in
    let done = completes_last A s text ms c.args.replacer.now old.gaps.last_end old.replacer (string_bytes old.out)
    (subst (λ (xs : List Match). Completes A s text ms c.args.replacer.now old.gaps.last_end xs old.replacer (string_bytes old.out)) none inv.7) in
    let start = inv.9 c.if-not-is_changed.true in
    let whole_text : string_bytes old.out ++ drop old.gaps.last_end text ≡ text = λ i. start.0 i ++ drop (start.1 i) text in
    subst (λ (x : List ℕ). IsReplacedByCalls A s text 0 ms c.args.replacer.now x old.replacer) whole_text done

pub returns-in_err-push_str-2-clause-fails : goal.returns-in_err-push_str-2-clause-fails
returns-in_err-push_str-2-clause-fails g c =
    let p = err_from_is_err_and c.from_residual-in_err-push_str-2.result c.from_residual-in_err-push_str-2.ensures.1 in
    let inv = c.loop-found.invariant in
    let iter = c.loop-found.gaps.match_iter in
    let text = c.args.text.now in
    rw (p.1, p.2) (progress_ran_out g.R.Replacer.answers c.args.regex.now.meta text (counted c.args.limit (all_matches c.args.regex.now.meta text (whole text))) c.args.replacer.now
    iter.input.config iter.state _ c.loop-found.replacer inv.5)

pub returns-clause-replaced : goal.returns-clause-replaced
returns-clause-replaced g c =
    let inv = c.loop-found.invariant in
    let s = c.args.regex.now.meta in
    let text = c.args.text.now in
    let A = g.R.Replacer.answers in
    let ms : List Match = counted c.args.limit (all_matches s text (whole text)) in
    let old = c.loop-found in
    let before : List Match = remaining_matches s text old.gaps.match_iter.input.config old.gaps.match_iter.state in
    let none : still_replaced old.left before ≡ [] = elim c.match-next_gap.branch [
      | in-Some+in_ok-gap+then-is_spent w ↦ still_spent old.left before (sym w.is_spent.ensures ∙ w.if-is_spent.true)
      | in_default w ↦ let gives = rw (inv.2, inv.3) at w.in_default.ensures.gives in ap (λ xs. still_replaced old.left xs) gives.0 ∙ still_none old.left
    ] in
    let done = completes_last A s text ms c.args.replacer.now old.gaps.last_end old.replacer (string_bytes old.out)
    (subst (λ (xs : List Match). Completes A s text ms c.args.replacer.now old.gaps.last_end xs old.replacer (string_bytes old.out)) none inv.7) in
    let out : string_bytes c.push_str-2.new.self ≡ string_bytes old.out ++ drop old.gaps.last_end text = c.in_ok-push_str-2.ensures.bytes ∙ ap (λ x. string_bytes old.out ++ x) inv.6 in
    subst (λ (x : List ℕ). IsReplacedByCalls A s text 0 ms c.args.replacer.now x old.replacer) (sym out) done

pub returns-then-not-is_changed-clause-stays : goal.returns-then-not-is_changed-clause-stays
returns-then-not-is_changed-clause-stays g c =
    let inv = c.loop-found.invariant in
    let s = c.args.regex.now.meta in
    let text = c.args.text.now in
    let A = g.R.Replacer.answers in
    let ms : List Match = counted c.args.limit (all_matches s text (whole text)) in
    let old = c.loop-found in
    let a = old.gaps.match_iter.input.config in
    let state = old.gaps.match_iter.state in
    let before : List Match = remaining_matches s text a state in
    let none : still_replaced old.left before ≡ [] = elim c.match-next_gap.branch [
      | in-Some+in_ok-gap+then-is_spent w ↦ still_spent old.left before (sym w.is_spent.ensures ∙ w.if-is_spent.true)
      | in_default w ↦ let gives = rw (inv.2, inv.3) at w.in_default.ensures.gives in ap (λ xs. still_replaced old.left xs) gives.0 ∙ still_none old.left
    ] in
    let stays : SkipsStayInLimits s text a state = elim c.match-next_gap.branch [
      | in-Some+in_ok-gap+then-is_spent w ↦ rw (inv.2, inv.3, w.in_ok-gap.was) at w.in-Some.ensures.limits.stays
      | in_default w ↦ let stays = rw (inv.2, inv.3) at w.in_default.ensures.limits.stays in stays inv.10
    ] in
    progress_stays A s text ms c.args.replacer.now a state (still_replaced old.left before) old.replacer inv.4 stays none inv.5

pub returns-clause-stays : goal.returns-clause-stays
returns-clause-stays g c =
    let inv = c.loop-found.invariant in
    let s = c.args.regex.now.meta in
    let text = c.args.text.now in
    let A = g.R.Replacer.answers in
    let ms : List Match = counted c.args.limit (all_matches s text (whole text)) in
    let old = c.loop-found in
    let a = old.gaps.match_iter.input.config in
    let state = old.gaps.match_iter.state in
    let before : List Match = remaining_matches s text a state in
    let none : still_replaced old.left before ≡ [] = elim c.match-next_gap.branch [
      | in-Some+in_ok-gap+then-is_spent w ↦ still_spent old.left before (sym w.is_spent.ensures ∙ w.if-is_spent.true)
      | in_default w ↦ let gives = rw (inv.2, inv.3) at w.in_default.ensures.gives in ap (λ xs. still_replaced old.left xs) gives.0 ∙ still_none old.left
    ] in
    let stays : SkipsStayInLimits s text a state = elim c.match-next_gap.branch [
      | in-Some+in_ok-gap+then-is_spent w ↦ rw (inv.2, inv.3, w.in_ok-gap.was) at w.in-Some.ensures.limits.stays
      | in_default w ↦ let stays = rw (inv.2, inv.3) at w.in_default.ensures.limits.stays in stays inv.10
    ] in
    progress_stays A s text ms c.args.replacer.now a state (still_replaced old.left before) old.replacer inv.4 stays none inv.5
