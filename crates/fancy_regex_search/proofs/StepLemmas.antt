-- What a step of an iteration does, by what its search found.
use Rattle.std.proofs.Common.{◌≡◌, ℕ, ◌+◌, ◌-◌, ◌<◌, ◌≤◌, max, true, false, true≢false, List, [], ◌∷◌, length, Option, Some, None, ◌==◌, refl, arith, ap, sym, ◌∙◌}
use Rattle.std.specs.Prelude.{string_bytes}
use Rattle.std.proofs.lemmas.Bool.{eqb-true, eq-eqb}
use Rattle.fancy_regex_meaning.specs.Positions.{position_after}
use Rattle.fancy_regex_meaning.specs.Searches.{Match}
use Rattle.fancy_regex_meaning.specs.ItemLaws.{ItemsNeedNoMore}
use Rattle.fancy_regex_input.specs.declared.config.SearchConfig.{SearchConfig}
use Rattle.fancy_regex_meta.specs.MatchOffsets.{IsMatchWithin}
use Rattle.fancy_regex_meta.specs.MetaMatches.{meta_match_from, meta_pattern}
use Rattle.fancy_regex_meta.specs.SearchLimits.{IsMetaSearchError, MetaStaysInLimits}
use Rattle.fancy_regex_meta.specs.declared.error.Error.{Error}
use Rattle.fancy_regex_meta.specs.declared.found.FoundMatch.{FoundMatch}
use Rattle.fancy_regex_meta.specs.declared.found.MatchDetail.{MatchDetail}
use Rattle.fancy_regex_search.specs.CaptureSpans.{IsFoundOf}
use Rattle.fancy_regex_meta.specs.declared.meta_regex.MetaRegex.{MetaRegex}
use Rattle.fancy_regex_meta.proofs.SearchLemmas.{none-past}
use Rattle.fancy_regex_search.specs.RemainingMatches.{remaining_matches, remaining_searches, next_start}
use Rattle.fancy_regex_search.specs.IterationSteps.{IsStep}
use Rattle.fancy_regex_search.specs.IterationSearches.{continue_disabled_after, IsReturned}
use Rattle.fancy_regex_search.specs.declared.match_iter.IterState.{IterState}
use Rattle.fancy_regex_search.specs.declared.match_iter.Step.TheVariants.{Item, Skip, End, Failed}
use Rattle.fancy_regex_search.proofs.IterationLemmas.{passed, item_passed, skip_passed, long_next, empty_next, long_off, empty_off}
use Rattle.fancy_regex_search.specs.IterationLimits.{SkipsStayInLimits}
use Rattle.fancy_regex_search.proofs.LimitLemmas.{past_stays, none_stays, long_stays, empty_stays, skip_stays}
use Rattle.fancy_regex_search.proofs.RemainingLemmas.{repeats, left-item, left-skip, left-empty, left-none, left-past, left-over, moved}

-- of two iterations that go on, the one that searches later has fewer searches left
nearer : (text : List ℕ) (a new : SearchConfig) (before after : IterState) → before.is_done ≡ false → after.is_done ≡ false → a.start < new.start → a.start ≤ length text →
    remaining_searches text new after < remaining_searches text a before
nearer text a new before after going on less fits =
    let h : length text + 2 - new.start < length text + 2 - a.start = omega arith in
    rw (going, on) h

-- an iteration that is over has none left
nearest : (text : List ℕ) (a new : SearchConfig) (before after : IterState) → before.is_done ≡ false → after.is_done ≡ true → a.start ≤ length text →
    remaining_searches text new after < remaining_searches text a before
nearest text a new before after going over fits =
    let h : 0 < length text + 2 - a.start = omega arith in
    rw (going, over) h

restarted : (a new : SearchConfig) (p : ℕ) → new ≡ record a { start = p } → new ≡ record a { start = new.start }
restarted a new p is = is ∙ ap (λ (k : ℕ). record a { start = k }) (sym (ap (λ (x : SearchConfig). x.start) is))

repeated-is : (last : Option ℕ) (e : ℕ) → repeats last e ≡ true → last ≡ Some e
repeated-is None e h = absurd (true≢false (sym h))
repeated-is (Some l) e h = ap (λ (k : ℕ). Some k) (eqb-true l e h)

unrepeated-is : (last : Option ℕ) (e : ℕ) → repeats last e ≡ false → last ≡ Some e → ⊥
unrepeated-is last e h is = true≢false (sym (eq-eqb e e refl) ∙ sym (ap (λ (l : Option ℕ). repeats l e) is) ∙ h)

module _ (s : MetaRegex) (text : List ℕ) (a : SearchConfig) (before : IterState) (wanted : MatchDetail) where
  pub over_step : before.is_done ≡ true → IsStep s text a before wanted End a before
  over_step over = record {
    gives = (left-over s text a before over, left-over s text a before over);
    moves = refl;
    nears = tt;
    grows = omega arith;
    config = refl;
    fails = tt;
    stays = λ going. absurd (true≢false (sym over ∙ going));
    passes = tt;
    leaves = (refl, λ going. absurd (true≢false (sym over ∙ going)));
    returns = tt;
    ends = over;
  }

  module _ (going : before.is_done ≡ false) where
    -- a step without a match
    none_step : (after : IterState) → after.is_done ≡ true → after.continue_disabled ≡ before.continue_disabled → remaining_matches s text a before ≡ [] →
        meta_match_from s text a (max a.start a.range_start) before.continue_disabled ≡ None → SkipsStayInLimits s text a before → IsStep s text a before wanted End a after
    none_step after over flag left none kept = record {
      gives = (left, left-over s text a after over);
      moves = refl;
      nears = tt;
      grows = omega arith;
      config = refl;
      fails = tt;
      stays = λ _. kept;
      passes = tt;
      leaves = (flag, λ _. none);
      returns = tt;
      ends = over;
    }

    pub past_step : (after : IterState) → after.is_done ≡ true → after.continue_disabled ≡ before.continue_disabled → a.range_end < max a.start a.range_start →
        IsStep s text a before wanted End a after
    past_step after over flag past =
        none_step after over flag (left-past s text a before going past) (none-past s.options (string_bytes s.pattern) text a (max a.start a.range_start) before.continue_disabled past)
        (past_stays s text a before past)

    pub found_none_step : (after : IterState) → after.is_done ≡ true → after.continue_disabled ≡ before.continue_disabled → max a.start a.range_start ≤ a.range_end →
        meta_match_from s text a (max a.start a.range_start) before.continue_disabled ≡ None → MetaStaysInLimits s text a before.continue_disabled → IsStep s text a before wanted End a after
    found_none_step after over flag inside none stays = none_step after over flag (left-none s text a before going inside none) none (none_stays s text a before stays none)

    module _ (inside : max a.start a.range_start ≤ a.range_end) (fits : a.range_end ≤ length text) where
      pub failed_step : (e : Error) (new : SearchConfig) (after : IterState) (p : ℕ) → IsMetaSearchError s text a before.continue_disabled e → after.is_done ≡ true →
          new ≡ record a { start = p } → p ≡ position_after text a.range_end → a.range_end < p → IsStep s text a before wanted (Failed e) new after
      failed_step e new after p error over is at onward =
          let start : new.start ≡ p = ap (λ (x : SearchConfig). x.start) is in
          let within : a.start ≤ length text = omega arith in
          record {
            gives = left-over s text new after over;
            moves = start ∙ at;
            nears = nearest text a new before after going over within;
            grows = omega arith;
            config = restarted a new p is;
            fails = (inside, error);
            stays = tt;
            passes = tt;
            leaves = tt;
            returns = tt;
            ends = over;
          }

      module _ (more : ItemsNeedNoMore) (m : Match) (x : FoundMatch) (found : meta_match_from s text a (max a.start a.range_start) before.continue_disabled ≡ Some m)
          (parts : IsFoundOf wanted (meta_pattern s) x m) (whole : IsMatchWithin wanted text (max a.start a.range_start) a.range_end x) (new : SearchConfig) (after : IterState) (on : after.is_done ≡ false)
          (end : after.last ≡ Some m.end) (stays : MetaStaysInLimits s text a before.continue_disabled) where
        -- the step past a match, by what is left after it
        item_step : (p : ℕ) → new ≡ record a { start = p } → a.start < p → p ≡ next_start text m.start m.end →
            remaining_matches s text a before ≡ m ∷ remaining_matches s text new after →
            after.continue_disabled ≡ continue_disabled_after (max a.start a.range_start) m → SkipsStayInLimits s text a before → IsReturned before.last m →
            IsStep s text a before wanted (Item x) new after
        item_step p is less at left flag kept returned =
            let start : new.start ≡ p = ap (λ (x : SearchConfig). x.start) is in
            let later : a.start < new.start = omega arith in
            let within : a.start ≤ length text = omega arith in
            record {
              gives = (m, left, parts);
              moves = (whole, start ∙ at ∙ (λ i. next_start text (sym parts.0 i) (sym parts.1 i)));
              nears = nearer text a new before after going on later within;
              grows = omega arith;
              config = restarted a new p is;
              fails = tt;
              stays = kept;
              passes = passed s text a new before.continue_disabled after.continue_disabled m p inside found is at flag;
              leaves = end ∙ ap (λ (k : ℕ). Some k) (sym parts.1);
              returns = (m, left, item_passed s text a new before after m inside found returned (start ∙ at) flag end);
              ends = on;
            }

        pub long_step : (p : ℕ) → m.start < m.end → new ≡ record a { start = p } → p ≡ m.end → after.continue_disabled ≡ false → IsStep s text a before wanted (Item x) new after
        long_step p less is at flag =
            let start : max a.start a.range_start ≤ m.start = rw (← parts.0) whole.after in
            let later : a.start < p = omega arith in
            let here : new ≡ record a { start = m.end } = is ∙ ap (λ (k : ℕ). record a { start = k }) at in
            item_step p is later (at ∙ long_next text m.start m.end less)
            (left-item s text a more fits before going m inside found less ∙ ap (λ (xs : List Match). m ∷ xs) (moved s text a new m.end m.end false after here end flag on))
            (flag ∙ long_off (max a.start a.range_start) m less) (long_stays s text a before stays m found less) (λ empty same. omega (arith, less, empty))

        module _ (p : ℕ) (empty : m.end ≤ m.start) (is : new ≡ record a { start = p }) (at : p ≡ position_after text m.end) (onward : m.end < position_after text m.end)
            (flag : after.continue_disabled ≡ (m.end == max a.start a.range_start)) where
          here : new ≡ record a { start = position_after text m.end }
          here = is ∙ ap (λ (k : ℕ). record a { start = k }) at

          later : a.start < p
          later =
              let start : max a.start a.range_start ≤ m.start = rw (← parts.0) whole.after in
              let ordered : m.start ≤ m.end = rw (← parts.0, ← parts.1) whole.cuts.ordered in
              omega (arith, at)

          pub empty_step : repeats before.last m.end ≡ false → IsStep s text a before wanted (Item x) new after
          empty_step unlike =
              item_step p is later (at ∙ empty_next text m.start m.end empty)
              (left-empty s text a more fits before going m inside found onward empty unlike
              ∙ ap (λ (xs : List Match). m ∷ xs) (moved s text a new m.end (position_after text m.end) (m.end == max a.start a.range_start) after here end flag on))
              (flag ∙ empty_off (max a.start a.range_start) m empty) (empty_stays s text a before stays m found (unrepeated-is before.last m.end unlike))
              (λ _. unrepeated-is before.last m.end unlike)

          pub skip_step : repeats before.last m.end ≡ true → IsStep s text a before wanted Skip new after
          skip_step alike =
              let start : new.start ≡ p = ap (λ (x : SearchConfig). x.start) is in
              let more_than : a.start < new.start = omega (arith, later) in
              let within : a.start ≤ length text = omega arith in
              record {
                gives = left-skip s text a more fits before going m inside found onward empty alike
                    ∙ moved s text a new m.end (position_after text m.end) (m.end == max a.start a.range_start) after here end flag on;
                moves = tt;
                nears = nearer text a new before after going on more_than within;
                grows = omega (arith, more_than);
                config = restarted a new p is;
                fails = tt;
                stays = skip_stays s text a before stays m found new after p is (at ∙ empty_next text m.start m.end empty) (flag ∙ empty_off (max a.start a.range_start) m empty) end;
                passes = passed s text a new before.continue_disabled after.continue_disabled m p inside found is (at ∙ empty_next text m.start m.end empty)
                    (flag ∙ empty_off (max a.start a.range_start) m empty);
                leaves = (
                  going,
                  on,
                  skip_passed s text a new before after m p inside found empty (repeated-is before.last m.end alike) is (at ∙ empty_next text m.start m.end empty)
                      (flag ∙ empty_off (max a.start a.range_start) m empty) end,
                  end ∙ sym (repeated-is before.last m.end alike),
                );
                returns = tt;
                ends = tt;
              }
