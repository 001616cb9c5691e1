-- A replacement goes on from match to match.
use Rattle.std.proofs.Common.{◌≡◌, ℕ, zero, suc, ◌-◌, ◌≤◌, max, ◌==◌, rules, ◌∷◌, ◌++◌, List, [], Option, Some, None, Ok, Err, refl, sym, ap, ◌∙◌, append_assoc, append-nil, arith, map, subst, Bool, true, false}
use Rattle.std.specs.Prelude.{drop, slice_range, option_map}
use Rattle.std.specs.declared.result.Result.{Result}
use Rattle.std.proofs.lemmas.Bool.{false≢true}
use Rattle.fancy_regex_input.specs.declared.config.SearchConfig.{SearchConfig}
use Rattle.fancy_regex_meaning.specs.Searches.{Match, counted, pieces_from, replaced_from}
use Rattle.fancy_regex_meaning.specs.ItemLaws.{alternately}
use Rattle.fancy_regex_class.specs.RunInputs.{match_slots}
use Rattle.fancy_regex_meta.specs.MetaMatches.{meta_match_from, meta_pattern}
use Rattle.fancy_regex_meta.specs.SearchLimits.{IsMetaSearchError, MetaStaysInLimits}
use Rattle.fancy_regex_meta.specs.declared.error.Error.TheVariants.{Memory}
use Rattle.fancy_regex_search.specs.IterationErrors.{IsItemError, IsErrorAfter}
use Rattle.fancy_regex_search.specs.IterationSearches.{no_item, ComesTo, SkipsToFrom, PassesItem}
use Rattle.fancy_regex_search.specs.IterationLimits.{SkipsStayInLimits, StaysAfter, StaysFor, ReplacementStays}
use Rattle.fancy_regex_search.specs.declared.match_iter.IterState.{IterState}
use Rattle.fancy_regex_input.specs.SearchInputs.{whole}
use Rattle.fancy_regex_search.proofs.IterationLemmas.{comes_from, comes_to, item_comes, item_only, no_more, skips_from, skips_to}
use Rattle.fancy_regex_meta.specs.declared.error.Error.{Error}
use Rattle.fancy_regex_meta.specs.declared.meta_regex.MetaRegex.{MetaRegex}
use Rattle.fancy_regex_meta.specs.FoundParts.{wanted_groups}
use Rattle.fancy_regex_meta.specs.declared.found.MatchDetail.{MatchDetail}
use Rattle.fancy_regex_meta.specs.declared.found.MatchDetail.TheVariants.{Span, Groups}
use Rattle.fancy_regex_search.specs.Replacements.{CapturesView, captures_view, AnswersBy, IsReplacedByCalls, FailsInTurn, AnswersInTurn, AnswersText, still_replaced, is_spent, limit_of, IsReplacedBy, by_calls, by_text, IsReplacedLeaving, left_by_calls, left_by_text, IsReplaceError, of_search, of_search_by_text, of_call, of_memory, IsReplaceErrorLeaving, search_failed, search_failed_by_text, call_failed, memory_ran_out}

-- What is still to be replaced from an offset on, after a text that is out, completes the replacement of all of these matches.
pub record Completes {S : Type 0} (Calls : S → CapturesView → Result (List ℕ) Error → S → Type 0) (r : MetaRegex) (text : List ℕ) (ms : List Match) (first : S) (p : ℕ) (left : List Match) (s : S) (out : List ℕ) : Type 0 where
  pub replaces : (more : List ℕ) (last : S) → IsReplacedByCalls Calls r text p left s more last → IsReplacedByCalls Calls r text 0 ms first (out ++ more) last

module _ {S : Type 0} (Calls : S → CapturesView → Result (List ℕ) Error → S → Type 0) (r : MetaRegex) (text : List ℕ) (ms : List Match) (first : S) where
  pub completes_first : Completes Calls r text ms first 0 ms first []
  completes_first = record { replaces = λ more last h. h }

  pub completes_next : (p : ℕ) (m : Match) (left : List Match) (s next : S) (out w : List ℕ) → Completes Calls r text ms first p (m ∷ left) s out → Calls s (captures_view r text m) (Ok w) next →
      Completes Calls r text ms first m.end left next ((out ++ slice_range text p m.start) ++ w)
  completes_next p m left s next out w so call = record {
    replaces = λ more last h.
        let gap : List ℕ = slice_range text p m.start in
        let e : ((out ++ gap) ++ w) ++ more ≡ out ++ (gap ++ (w ++ more)) = simp append_assoc in
        subst (λ (all : List ℕ). IsReplacedByCalls Calls r text 0 ms first all last) (sym e)
        (so.replaces (gap ++ (w ++ more)) last (w ∷ h.0, (next, call, h.1), ap (λ (x : List ℕ). gap ++ (w ++ x)) h.2));
  }

  pub completes_last : (p : ℕ) (s : S) (out : List ℕ) → Completes Calls r text ms first p [] s out → IsReplacedByCalls Calls r text 0 ms first (out ++ drop p text) s
  completes_last p s out so = so.replaces (drop p text) s ([], refl, refl)

some_none : {A : Type 0} (x : A) → ◌≡◌ {A = Option A} (Some x) None → ⊥
some_none x e = absurd (cc)

pub never_empty : {A : Type 0} (x : A) (xs : List A) → x ∷ xs ≡ [] → ⊥
never_empty x xs e = absurd (cc)

-- The limit counts down.
is_zero : (n : ℕ) → (n == 0) ≡ true → n ≡ 0
is_zero n h = search rules

pub still_spent : (left : Option ℕ) (ms : List Match) → is_spent left ≡ true → still_replaced left ms ≡ []
still_spent None ms h = absurd (false≢true h)
still_spent (Some n) ms h = rw (is_zero n h) refl

pub still_none : (left : Option ℕ) → still_replaced left [] ≡ []
still_none None = refl
still_none (Some zero) = refl
still_none (Some (suc n)) = refl

still_next : (left : Option ℕ) (m : Match) (ms : List Match) → is_spent left ≡ false → still_replaced left (m ∷ ms) ≡ m ∷ still_replaced (option_map (λ n. n - 1) left) ms
still_next None m ms h = refl
still_next (Some zero) m ms h = absurd (false≢true (sym h))
still_next (Some (suc n)) m ms h = let e : suc n - 1 ≡ n = omega arith in rw e refl

pub still_more : (left left' : Option ℕ) (before : List Match) (m : Match) (after : List Match) → is_spent left ≡ false → left' ≡ option_map (λ n. n - 1) left → before ≡ m ∷ after →
    still_replaced left before ≡ m ∷ still_replaced left' after
still_more left left' before m after h e b = rw (e, b) (still_next left m after h)

pub still_all : (limit : ℕ) (ms : List Match) → still_replaced (limit_of limit) ms ≡ counted limit ms
still_all zero ms = refl
still_all (suc n) ms = refl

-- One call for each of these matches has answered, and what the iteration comes to from here, and nothing else, it comes to after
-- them.
pub record Progress {S : Type 0} (Calls : S → CapturesView → Result (List ℕ) Error → S → Type 0) (r : MetaRegex) (text : List ℕ) (ms : List Match) (first : S)
    (config : SearchConfig) (state : IterState) (left : List Match) (s : S) : Type 0 where
  pub done : List Match
  pub answers : List (List ℕ)
  pub is : ms ≡ done ++ left
  pub turns : AnswersInTurn Calls first (map (captures_view r text) done) answers s
  pub comes : (items : List Match) (q : ℕ) (o : Bool) → ComesTo r text (whole text) items state.last config.start state.continue_disabled q o →
      ComesTo r text (whole text) (done ++ items) None 0 false q o
  pub only : (items : List Match) (q : ℕ) (o : Bool) → ComesTo r text (whole text) (done ++ items) None 0 false q o →
      ComesTo r text (whole text) items state.last config.start state.continue_disabled q o
  pub stays : StaysFor r text (whole text) done

one_more : {S : Type 0} (Calls : S → CapturesView → Result (List ℕ) Error → S → Type 0) (s : S) (ms : List CapturesView) (ws : List (List ℕ)) (mid : S) (m : CapturesView) (w : List ℕ) (next : S) →
    AnswersInTurn Calls s ms ws mid → Calls mid m (Ok w) next → AnswersInTurn Calls s (ms ++ (m ∷ [])) (ws ++ (w ∷ [])) next
one_more Calls s [] [] mid m w next turns call = (next, subst (λ x. Calls x m (Ok w) next) turns call, refl)
one_more Calls s [] (v ∷ ws) mid m w next turns call = absurd turns
one_more Calls s (n ∷ ms) [] mid m w next turns call = absurd turns
one_more Calls s (n ∷ ms) (v ∷ ws) mid m w next turns call = (turns.0, turns.1, one_more Calls turns.0 ms ws mid m w next turns.2 call)

views_more : (r : MetaRegex) (text : List ℕ) (ms : List Match) (m : Match) → map (captures_view r text) (ms ++ (m ∷ [])) ≡ map (captures_view r text) ms ++ (captures_view r text m ∷ [])
views_more r text [] m = refl
views_more r text (n ∷ ms) m = ap (λ (xs : List CapturesView). captures_view r text n ∷ xs) (views_more r text ms m)

-- the first of two equal lists, and what is after it
first_same : (m n : Match) (xs ys : List Match) → m ∷ xs ≡ n ∷ ys → m ≡ n
first_same m n xs ys e = ap (λ (l : List Match). elim l [ [] ↦ m | x ∷ more ↦ x ]) e

rest_same : (m n : Match) (xs ys : List Match) → m ∷ xs ≡ n ∷ ys → xs ≡ ys
rest_same m n xs ys e = ap (λ (l : List Match). elim l [ [] ↦ xs | x ∷ more ↦ more ]) e

no_split : (done : List Match) (m : Match) (rest : List Match) → [] ≡ done ++ (m ∷ rest) → ⊥
no_split [] m rest is = never_empty m rest (sym is)
no_split (k ∷ done) m rest is = never_empty k (done ++ (m ∷ rest)) (sym is)

-- what holds of a list, and of each beginning before one of its matches, holds of each before a match of the list with one match more
before_each : (P : List Match → Type 0) (all : List Match) (m : Match) → P all → ((done : List Match) (k : Match) (rest : List Match) → all ≡ done ++ (k ∷ rest) → P done) →
    (done : List Match) (k : Match) (rest : List Match) → all ++ (m ∷ []) ≡ done ++ (k ∷ rest) → P done
before_each P [] m so h [] k rest is = so
before_each P [] m so h (j ∷ done) k rest is = absurd (no_split done k rest (rest_same m j [] (done ++ (k ∷ rest)) is))
before_each P (n ∷ all) m so h [] k rest is = h [] n all refl
before_each P (n ∷ all) m so h (j ∷ done) k rest is =
    let Q : List Match → Type 0 = λ xs. P (n ∷ xs) in
    let there : P (n ∷ done) = before_each Q all m so (λ more i others same. h (n ∷ more) i others (ap (λ (xs : List Match). n ∷ xs) same)) done k rest
    (rest_same n j (all ++ (m ∷ [])) (done ++ (k ∷ rest)) is) in
    subst (λ (x : Match). P (x ∷ done)) (first_same n j (all ++ (m ∷ [])) (done ++ (k ∷ rest)) is) there

-- and of each beginning of the list
each_beginning : (P : List Match → Type 0) (all : List Match) → P all → ((done : List Match) (k : Match) (rest : List Match) → all ≡ done ++ (k ∷ rest) → P done) →
    (done rest : List Match) → all ≡ done ++ rest → P done
each_beginning P all so h done [] is = subst P (is ∙ append-nil done) so
each_beginning P all so h done (k ∷ rest) is = h done k rest is

module _ {S : Type 0} (Calls : S → CapturesView → Result (List ℕ) Error → S → Type 0) (r : MetaRegex) (text : List ℕ) (ms : List Match) (first : S) where
  -- a search right after what is done is come to by skipping
  skips_here : (config : SearchConfig) (state : IterState) (left : List Match) (s : S) → config ≡ record (whole text) { start = config.start } →
      (so : Progress Calls r text ms first config state left s) (q : ℕ) (o : Bool) → ComesTo r text (whole text) so.done None 0 false q o → SkipsToFrom r text config state q o
  skips_here config state left s is so q o h =
      let find = meta_match_from r text (whole text) in
      let after = so.only [] q o (subst (λ (xs : List Match). ComesTo r text (whole text) xs None 0 false q o) (sym (append-nil so.done)) h) in
      let skips = no_more text find (whole text).range_start (whole text).range_end [] state.last config.start state.continue_disabled q o after refl in
      skips_to r text (whole text) config state.last config.start state.continue_disabled q o is skips

  -- each search right after what is done stays within the limits
  stays_here : (config : SearchConfig) (state : IterState) (left : List Match) (s : S) → config ≡ record (whole text) { start = config.start } → SkipsStayInLimits r text config state →
      (so : Progress Calls r text ms first config state left s) → StaysAfter r text (whole text) so.done
  stays_here config state left s is stays so q o h =
      subst (λ (a : SearchConfig). MetaStaysInLimits r text (record a { start = q }) o) is (stays q o (skips_here config state left s is so q o h))

  -- so does each one for what is done and one match more
  stays_past : (config : SearchConfig) (state : IterState) (m : Match) (left : List Match) (s : S) → config ≡ record (whole text) { start = config.start } → SkipsStayInLimits r text config state →
      (so : Progress Calls r text ms first config state (m ∷ left) s) → StaysFor r text (whole text) (so.done ++ (m ∷ []))
  stays_past config state m left s is stays so =
      before_each (StaysAfter r text (whole text)) so.done m (stays_here config state (m ∷ left) s is stays so) so.stays

  -- where no match is left, all searches stayed within the limits
  pub progress_stays : (config : SearchConfig) (state : IterState) (left : List Match) (s : S) → config ≡ record (whole text) { start = config.start } → SkipsStayInLimits r text config state →
      left ≡ [] → Progress Calls r text ms first config state left s → ReplacementStays r text ms
  progress_stays config state left s is stays none so done rest split =
      let all : ms ≡ so.done = so.is ∙ ap (λ (xs : List Match). so.done ++ xs) none ∙ append-nil so.done in
      each_beginning (StaysAfter r text (whole text)) so.done (stays_here config state left s is stays so) so.stays done rest (sym all ∙ split)

  -- before the first search
  pub progress_first : (config : SearchConfig) (state : IterState) → config ≡ whole text → state.last ≡ None → state.continue_disabled ≡ false →
      Progress Calls r text ms first config state ms first
  progress_first config state is last flag = record {
    done = [];
    answers = [];
    is = refl;
    turns = refl;
    comes = λ items q o h.
        let one = subst (λ (l : Option ℕ). ComesTo r text (whole text) items l config.start state.continue_disabled q o) last h in
        let two = subst (λ (x : Bool). ComesTo r text (whole text) items None config.start x q o) flag one in
        subst (λ (c : SearchConfig). ComesTo r text (whole text) items None c.start false q o) is two;
    only = λ items q o h.
        let one = subst (λ (c : SearchConfig). ComesTo r text (whole text) items None c.start false q o) (sym is) h in
        let two = subst (λ (x : Bool). ComesTo r text (whole text) items None config.start x q o) (sym flag) one in
        subst (λ (l : Option ℕ). ComesTo r text (whole text) items l config.start state.continue_disabled q o) (sym last) two;
    stays = λ done m rest split. absurd (no_split done m rest split);
  }

  -- past a match for which a call has answered
  pub progress_next : (config new : SearchConfig) (state after : IterState) (m : Match) (left : List Match) (s next : S) (w : List ℕ) → config ≡ record (whole text) { start = config.start } →
      PassesItem r text config state m new after → SkipsStayInLimits r text config state → Calls s (captures_view r text m) (Ok w) next →
      Progress Calls r text ms first config state (m ∷ left) s → Progress Calls r text ms first new after left next
  progress_next config new state after m left s next w is passes stays call so = record {
    done = so.done ++ (m ∷ []);
    answers = so.answers ++ (w ∷ []);
    is = so.is ∙ sym (append_assoc so.done (m ∷ []) left);
    turns = subst (λ (xs : List CapturesView). AnswersInTurn Calls first xs (so.answers ++ (w ∷ [])) next) (sym (views_more r text so.done m))
        (one_more Calls first (map (captures_view r text) so.done) so.answers s (captures_view r text m) w next so.turns call);
    comes = λ items q o h.
        let here = item_comes r text config new state after m passes items q o (comes_to r text (whole text) config items after.last new.start after.continue_disabled q o is h) in
        let there = so.comes (m ∷ items) q o (comes_from r text (whole text) config (m ∷ items) state.last config.start state.continue_disabled q o is here) in
        subst (λ (xs : List Match). ComesTo r text (whole text) xs None 0 false q o) (sym (append_assoc so.done (m ∷ []) items)) there;
    only = λ items q o h.
        let all = subst (λ (xs : List Match). ComesTo r text (whole text) xs None 0 false q o) (append_assoc so.done (m ∷ []) items) h in
        let here = comes_to r text (whole text) config (m ∷ items) state.last config.start state.continue_disabled q o is (so.only (m ∷ items) q o all) in
        comes_from r text (whole text) config items after.last new.start after.continue_disabled q o is (item_only r text config new state after m passes items q o here);
    stays = stays_past config state m left s is stays so;
  }

  -- an error of the next search is one right after what is done
  pub progress_error : (config : SearchConfig) (state : IterState) (left : List Match) (s : S) (e : Error) → config ≡ record (whole text) { start = config.start } →
      IsItemError r text config state e → (so : Progress Calls r text ms first config state left s) → IsErrorAfter r text (whole text) so.done e
  progress_error config state left s e is h so =
      let comes = so.comes [] h.0 h.1 (no_item state.last config.start state.continue_disabled h.0 h.1 (skips_from r text (whole text) config state.last config.start state.continue_disabled h.0 h.1 is h.2)) in (
        h.0,
        h.1,
        subst (λ (xs : List Match). ComesTo r text (whole text) xs None 0 false h.0 h.1) (append-nil so.done) comes,
        subst (λ (a : SearchConfig). max h.0 a.range_start ≤ a.range_end) is h.3,
        subst (λ (a : SearchConfig). IsMetaSearchError r text (record a { start = h.0 }) h.1 e) is h.4,
        so.stays,
        λ at o to less. subst (λ (a : SearchConfig). MetaStaysInLimits r text (record a { start = at }) o) is (h.5 at o (skips_here config state left s is so at o to) less),
      )

  pub progress_fails : (config : SearchConfig) (state : IterState) (left : List Match) (s : S) (e : Error) → config ≡ record (whole text) { start = config.start } →
      IsItemError r text config state e → Progress Calls r text ms first config state left s → IsReplaceErrorLeaving Calls r text ms first e s None
  progress_fails config state left s e is h so = search_failed None so.done left so.answers so.is (progress_error config state left s e is h so) so.turns

  -- want of memory after the calls that answered
  pub progress_ran_out : (config : SearchConfig) (state : IterState) (left : List Match) (s : S) → Progress Calls r text ms first config state left s → IsReplaceErrorLeaving Calls r text ms first Memory s None
  progress_ran_out config state left s so = memory_ran_out None so.done left so.answers refl so.is so.turns

module _ {S : Type 0} (Calls : S → CapturesView → Result (List ℕ) Error → S → Type 0) (r : MetaRegex) (text t : List ℕ) (Holds : S → Type 0)
    (same : (s : S) (m : CapturesView) (w : List ℕ) (next : S) → Holds s → Calls s m (Ok w) next → (w ≡ t) × Holds next) where
  -- calls that always answer one text replace by it
  replaced_by_text : (p : ℕ) (ms : List Match) (s : S) (answers : List (List ℕ)) (last : S) → Holds s → AnswersInTurn Calls s (map (captures_view r text) ms) answers last →
      alternately (pieces_from text p ms) answers ≡ replaced_from text (λ _. t) p ms
  replaced_by_text p [] s [] last holds turns = refl
  replaced_by_text p [] s (w ∷ ws) last holds turns = absurd turns
  replaced_by_text p (m ∷ ms) s [] last holds turns = absurd turns
  replaced_by_text p (m ∷ ms) s (w ∷ ws) last holds turns =
      let one = same s (captures_view r text m) w turns.0 holds turns.1 in
      let rest = replaced_by_text m.end ms turns.0 ws last one.1 turns.2 in
      ap (λ (x : List ℕ). slice_range text p m.start ++ (w ++ x)) rest ∙ ap (λ (x : List ℕ). slice_range text p m.start ++ (x ++ replaced_from text (λ _. t) m.end ms)) one.0
      ∙ (simp append_assoc)

  text_replaced : (ms : List Match) (s : S) (out : List ℕ) (last : S) → Holds s → IsReplacedByCalls Calls r text 0 ms s out last → out ≡ replaced_from text (λ _. t) 0 ms
  text_replaced ms s out last holds h = h.2 ∙ replaced_by_text 0 ms s h.0 last holds h.1

-- calls that fail for want of memory alone
fails_for_memory : {S : Type 0} (Calls : S → CapturesView → Result (List ℕ) Error → S → Type 0) (only : (s : S) (m : CapturesView) (e : Error) (next : S) → Calls s m (Err e) next → e ≡ Memory)
    (r : MetaRegex) (text : List ℕ) (ms : List Match) (s : S) (e : Error) (last : S) → FailsInTurn Calls r text ms s e last → e ≡ Memory
fails_for_memory Calls only r text ms s e last h = only h.before (captures_view r text h.at) e last h.call

-- an error of a replacement by calls that fail for want of memory alone is one of any replacement with one text for all matches
text_fails : {S T : Type 0} (Calls : S → CapturesView → Result (List ℕ) Error → S → Type 0) (Others : T → CapturesView → Result (List ℕ) Error → T → Type 0)
    (only : (s : S) (m : CapturesView) (e : Error) (next : S) → Calls s m (Err e) next → e ≡ Memory) (r : MetaRegex) (text : List ℕ) (ms : List Match) (s last : S) (t : T) (fixed : Option (List ℕ)) (shown_text : List ℕ) (e : Error) →
    IsReplaceErrorLeaving Calls r text ms s e last fixed → IsReplaceErrorLeaving Others r text ms t e t (Some shown_text)
text_fails Calls Others only r text ms s last t _ shown_text e (search_failed fixed done rest answers is following turns) = search_failed_by_text shown_text done rest is following refl
text_fails Calls Others only r text ms s last t _ shown_text e (search_failed_by_text fixed done rest is following same) = search_failed_by_text shown_text done rest is following refl
text_fails Calls Others only r text ms s last t _ shown_text e (call_failed fixed h) =
    memory_ran_out (Some shown_text) [] ms [] (fails_for_memory Calls only r text ms s e last h) refl refl
text_fails Calls Others only r text ms s last t _ shown_text e (memory_ran_out fixed done rest answers is split turns) = memory_ran_out (Some shown_text) [] ms [] is refl refl

-- an error of a replacement by calls, whatever the replacer says of its text
pub calls_fail : {S : Type 0} (Calls : S → CapturesView → Result (List ℕ) Error → S → Type 0) (r : MetaRegex) (text : List ℕ) (ms : List Match) (s last : S) (fixed told : Option (List ℕ)) (e : Error) →
    fixed ≡ None → IsReplaceErrorLeaving Calls r text ms s e last fixed → IsReplaceErrorLeaving Calls r text ms s e last told
calls_fail Calls r text ms s last _ told e none (search_failed fixed done rest answers is following turns) = search_failed told done rest answers is following turns
calls_fail Calls r text ms s last _ told e none (search_failed_by_text t done rest is following same) = absurd (some_none t none)
calls_fail Calls r text ms s last _ told e none (call_failed fixed h) = call_failed told h
calls_fail Calls r text ms s last _ told e none (memory_ran_out fixed done rest answers is split turns) = memory_ran_out told done rest answers is split turns

-- what a replacement returns, whatever state it leaves
pub replaced_whatever_is_left : {S : Type 0} (Calls : S → CapturesView → Result (List ℕ) Error → S → Type 0) (r : MetaRegex) (text : List ℕ) (ms : List Match) (s : S) (out : List ℕ) (last : S) (fixed : Option (List ℕ)) →
    IsReplacedLeaving Calls r text ms s out last fixed → IsReplacedBy Calls r text ms s out fixed
replaced_whatever_is_left Calls r text ms s out last _ (left_by_calls fixed h) = by_calls fixed last h
replaced_whatever_is_left Calls r text ms s out last _ (left_by_text t is same) = by_text t is

-- the error of a replacement, whatever state it leaves
pub fails_whatever_is_left : {S : Type 0} (Calls : S → CapturesView → Result (List ℕ) Error → S → Type 0) (r : MetaRegex) (text : List ℕ) (ms : List Match) (s : S) (e : Error) (last : S) (fixed : Option (List ℕ)) →
    IsReplaceErrorLeaving Calls r text ms s e last fixed → IsReplaceError Calls r text ms s fixed e
fails_whatever_is_left Calls r text ms s e last _ (search_failed fixed done rest answers is following turns) = of_search fixed done rest answers last e is following turns
fails_whatever_is_left Calls r text ms s e last _ (search_failed_by_text t done rest is following same) = of_search_by_text t done rest e is following
fails_whatever_is_left Calls r text ms s e last _ (call_failed fixed h) = of_call fixed e last h
fails_whatever_is_left Calls r text ms s e last _ (memory_ran_out fixed done rest answers is split turns) = rw is (of_memory fixed)

-- A replacer that has the same text for each match replaces by it, and fails for want of memory alone.
pub fixed_text_replaced : {S : Type 0} (text_of : S → List ℕ) (r : MetaRegex) (text t : List ℕ) (ms : List Match) (s : S) (out : List ℕ) (last : S) → text_of s ≡ t →
    IsReplacedByCalls (AnswersText text_of) r text 0 ms s out last → out ≡ replaced_from text (λ _. t) 0 ms
fixed_text_replaced text_of r text t ms s out last holds h =
    text_replaced (AnswersText text_of) r text t (λ x. text_of x ≡ t) (λ x m w next is call. (call.0 ∙ is, ap text_of call.1 ∙ is)) ms s out last holds h

pub fixed_text_fails : {S T : Type 0} (text_of : S → List ℕ) (Others : T → CapturesView → Result (List ℕ) Error → T → Type 0) (r : MetaRegex) (text : List ℕ) (ms : List Match) (s last : S) (t : T) (shown_text : List ℕ) (e : Error) →
    IsReplaceErrorLeaving (AnswersText text_of) r text ms s e last None → IsReplaceErrorLeaving Others r text ms t e t (Some shown_text)
fixed_text_fails text_of Others r text ms s last t shown_text e h = text_fails (AnswersText text_of) Others (λ x m d next call. call.0) r text ms s last t None shown_text e h

-- the capture groups of a match
shown_same : (r r' : MetaRegex) (text text' slots : List ℕ) (m : Match) → r' ≡ r → text' ≡ text → slots ≡ match_slots (meta_pattern r) m →
    ◌≡◌ {A = CapturesView} (record { regex = r'; text = text'; slots = slots }) (captures_view r text m)
shown_same r r' text text' slots m a b e = λ i. record { regex = a i; text = b i; slots = e i }

-- a call that answered what was found of a match answers for the match
pub call_viewed : {S : Type 0} (Calls : S → CapturesView → Result (List ℕ) Error → S → Type 0) (wanted : MatchDetail) (r r' : MetaRegex) (text text' slots : List ℕ) (m : Match) (s next : S)
    (result : Result (List ℕ) Error) → AnswersBy wanted Calls → r' ≡ r → text' ≡ text → slots ≡ wanted_groups wanted (meta_pattern r) m →
    Calls s (record { regex = r'; text = text'; slots = slots }) result next → Calls s (captures_view r text m) result next
call_viewed Calls Groups r r' text text' slots m s next result alike a b e call = subst (λ (x : CapturesView). Calls s x result next) (shown_same r r' text text' slots m a b e) call
call_viewed Calls Span r r' text text' slots m s next result alike a b e call = alike s (record { regex = r'; text = text'; slots = slots }) (captures_view r text m) result next call

-- One turn of a replacement: the text before the next match is out, and the answer for it.
pub completes_gap : {S : Type 0} (Calls : S → CapturesView → Result (List ℕ) Error → S → Type 0) (r : MetaRegex) (text : List ℕ) (ms : List Match) (first : S) (p p' : ℕ) (left left' : Option ℕ)
    (before after : List Match) (s next : S) (out out' gap w : List ℕ) (m : Match) → is_spent left ≡ false → left' ≡ option_map (λ n. n - 1) left →
    before ≡ m ∷ after → gap ≡ slice_range text p m.start → p' ≡ m.end → Calls s (captures_view r text m) (Ok w) next → out' ≡ (out ++ gap) ++ w →
    Completes Calls r text ms first p (still_replaced left before) s out →
    (still_replaced left before ≡ [] → ⊥) × Completes Calls r text ms first p' (still_replaced left' after) next out'
completes_gap {S} Calls r text ms first p p' left left' before after s next out out' gap w m unspent less is cut end call wrote so =
    let split : still_replaced left before ≡ m ∷ still_replaced left' after = still_more left left' before m after unspent less is in
    let step : Completes Calls r text ms first m.end (still_replaced left' after) next ((out ++ slice_range text p m.start) ++ w) =
    completes_next Calls r text ms first p m (still_replaced left' after) s next out w (subst (λ (xs : List Match). Completes Calls r text ms first p xs s out) split so) call in (
      (λ none. never_empty m (still_replaced left' after) (sym split ∙ none)),
      rw (end, wrote, cut) step,
    )

-- one turn of a replacement: the call has answered for the match that the iteration returned
pub progress_gap : {S : Type 0} (Calls : S → CapturesView → Result (List ℕ) Error → S → Type 0) (r : MetaRegex) (text : List ℕ) (ms : List Match) (first : S) (config new : SearchConfig)
    (state after : IterState) (left left' : Option ℕ) (before others : List Match) (s next : S) (w : List ℕ) (m : Match) → before ≡ m ∷ others → is_spent left ≡ false →
    left' ≡ option_map (λ n. n - 1) left →
    config ≡ record (whole text) { start = config.start } → (n : Match) × (before ≡ n ∷ others) × PassesItem r text config state n new after →
    SkipsStayInLimits r text config state → Calls s (captures_view r text m) (Ok w) next →
    Progress Calls r text ms first config state (still_replaced left before) s → Progress Calls r text ms first new after (still_replaced left' others) next
progress_gap {S} Calls r text ms first config new state after left left' before others s next w m is unspent less moved returns stays call so =
    let split : still_replaced left before ≡ m ∷ still_replaced left' others = still_more left left' before m others unspent less is in
    let same : returns.0 ≡ m = first_same returns.0 m others others (sym returns.1 ∙ is) in
    let passes : PassesItem r text config state m new after = subst (λ (n : Match). PassesItem r text config state n new after) same returns.2 in
    progress_next Calls r text ms first config new state after m (still_replaced left' others) s next w moved passes stays call
    (subst (λ (xs : List Match). Progress Calls r text ms first config state xs s) split so)

-- the call fails for the match that the iteration returned
pub progress_call_fails : {S : Type 0} (Calls : S → CapturesView → Result (List ℕ) Error → S → Type 0) (r : MetaRegex) (text : List ℕ) (ms : List Match) (first : S) (config : SearchConfig)
    (state : IterState) (left left' : Option ℕ) (before others : List Match) (s last : S) (e : Error) (m : Match) → before ≡ m ∷ others → is_spent left ≡ false →
    left' ≡ option_map (λ n. n - 1) left → config ≡ record (whole text) { start = config.start } →
    SkipsStayInLimits r text config state → Calls s (captures_view r text m) (Err e) last →
    Progress Calls r text ms first config state (still_replaced left before) s → FailsInTurn Calls r text ms first e last
progress_call_fails {S} Calls r text ms first config state left left' before others s last e m is unspent less moved stays call so =
    let split : still_replaced left before ≡ m ∷ still_replaced left' others = still_more left left' before m others unspent less is in
    let here = subst (λ (xs : List Match). Progress Calls r text ms first config state xs s) split so in
    record {
      done = here.done;
      at = m;
      rest = still_replaced left' others;
      answers = here.answers;
      before = s;
      is = here.is;
      turns = here.turns;
      call = call;
      stays = stays_past Calls r text ms first config state m (still_replaced left' others) s moved stays here;
    }

-- before the first call of a replacement with this limit
pub completes_init : {S : Type 0} (Calls : S → CapturesView → Result (List ℕ) Error → S → Type 0) (r : MetaRegex) (text : List ℕ) (limit : ℕ) (first : S) (p : ℕ)
    (left : Option ℕ) (before all : List Match) (out : List ℕ) → left ≡ limit_of limit → before ≡ all → p ≡ 0 → out ≡ [] →
    Completes Calls r text (counted limit all) first p (still_replaced left before) first out
completes_init {S} Calls r text limit first p left before all out l b begins empty =
    let e : still_replaced left before ≡ counted limit all = (λ i. still_replaced (l i) (b i)) ∙ still_all limit all in
    subst (λ (xs : List Match). Completes Calls r text (counted limit all) first p xs first out) (sym e)
    (subst (λ (o : List ℕ). Completes Calls r text (counted limit all) first p (counted limit all) first o) (sym empty)
    (subst (λ (q : ℕ). Completes Calls r text (counted limit all) first q (counted limit all) first []) (sym begins)
    (completes_first Calls r text (counted limit all) first)))

-- before the first search of a replacement with this limit
pub progress_init : {S : Type 0} (Calls : S → CapturesView → Result (List ℕ) Error → S → Type 0) (r : MetaRegex) (text : List ℕ) (limit : ℕ) (first : S) (config : SearchConfig) (state : IterState)
    (left : Option ℕ) (before all : List Match) → config ≡ whole text → state.last ≡ None → state.continue_disabled ≡ false → left ≡ limit_of limit → before ≡ all →
    Progress Calls r text (counted limit all) first config state (still_replaced left before) first
progress_init {S} Calls r text limit first config state left before all is last flag l b =
    let e : still_replaced left before ≡ counted limit all = (λ i. still_replaced (l i) (b i)) ∙ still_all limit all in
    subst (λ (xs : List Match). Progress Calls r text (counted limit all) first config state xs first) (sym e)
    (progress_first Calls r text (counted limit all) first config state is last flag)
