-- What a memory keeps of a text can be asked in a later search, and what that finds out is kept.
use Rattle.std.proofs.Common.{◌≡◌, ◌∙◌, ◌<◌, ◌^◌, ℕ, List, [], ◌∷◌, Option, Some, None, length, vec_len, refl, sym, ap, subst, arith, ⊎_elim, inl, false, true, true≢false}
use Rattle.std.specs.Prelude.{IfSome, option_map}
use Rattle.std.proofs.lemmas.Option.{none-some, same_Some}
use Rattle.fancy_regex_class.specs.Looks.{looked_text}
use Rattle.fancy_regex_class.specs.declared.counted.Counted.{Counted}
use Rattle.fancy_regex_class.specs.declared.input.RunInput.{RunInput}
use Rattle.fancy_regex_states.specs.Attempts.{View, Continuation, Trace}
use Rattle.fancy_regex_parts.specs.Frames.{IsInReach, Remembers}
use Rattle.fancy_regex_parts.specs.Layers.{CanAsk, HasWays, IsOfText, IsTrueOf, LeavesMemory}
use Rattle.fancy_regex_parts.specs.Tables.{IsTable}
use Rattle.fancy_regex_parts.specs.Find.{earliest}
use Rattle.fancy_regex_parts.specs.Walk.{AreWalked, HasTrace, IsTried, IsWalkedIn}
use Rattle.fancy_regex_parts.specs.declared.groups.WalkMemory.{WalkMemory}
use Rattle.fancy_regex_parts.specs.declared.table.PartTable.{PartTable}
use Rattle.fancy_regex_parts.proofs.WalkLemmas.{has_ways as walk_ways}
use Rattle.fancy_regex_parts.specs.Ways.{Ways, Explains, text_view, ways_of}
use Rattle.fancy_regex_parts.specs.declared.recall.Recall.{Recall}
use Rattle.fancy_regex_parts.specs.declared.memory.PartMemory.{PartMemory}
use Rattle.fancy_regex_parts.specs.declared.step.PartContext.{PartContext}
use Rattle.fancy_regex_regular.specs.Regulars.{IsContextOf, continue_place, ends_from, lowest_asked, rules_at}
use Rattle.fancy_regex_regular.specs.Inputs.{IsOfInput, MemoryServes}
use Rattle.fancy_regex_regular.specs.Walks.{CanWalk, HasWayFrom}
use Rattle.fancy_regex_regular.specs.Kept.{kept_rules, AreTrue, IsTrueFor, IsTriedFor, IsWalkedFor, IsKeptOf, IsReady}
use Rattle.fancy_regex_regular.specs.declared.memory.Kept.{Kept}
use Rattle.fancy_regex_regular.specs.declared.memory.RegularMemory.{RegularMemory}
use Rattle.fancy_regex_regular.specs.declared.regular.Regular.{Regular}

-- no pair is open
known : (ways : Ways) (heads : List ℕ) (recall : Recall) → Remembers ways heads recall.base recall [] → AreTrue ways heads recall
known ways heads recall remembers = record {
  fails = λ k at. ⊎_elim (λ none. none) (λ never. absurd never) (remembers.fails k at);
  ends = remembers.ends;
}

module _ (regular : Regular) (text : List ℕ) (input : RunInput) (context : PartContext) (is : IsContextOf regular input 0 context) where
  abbrev place : Option ℕ
  place = continue_place regular input

  abbrev Explained : Kept → View → Ways → Type 0
  Explained kept view ways = Explains regular.matchers.items (kept_rules regular kept) (ends_from 0 kept.stop) regular.table.states.items text view ways

  -- the states have the same ways in this search as in those that are kept
  explained : (kept : Kept) → IsOfInput kept input place → (view : View) (ways : Ways) → HasWays context text view ways → Explained kept view ways
  explained kept of view ways has =
      rw (of.stop, of.no_start_text, of.no_end_text, of.continue_at) (rw (is.table_is, is.matchers_are, is.rules_are, is.range_is) at has)

  has_ways : (kept : Kept) → IsOfInput kept input place → (view : View) (ways : Ways) → Explained kept view ways → HasWays context text view ways
  has_ways kept of view ways explains =
      rw (is.table_is, is.matchers_are, is.rules_are, is.range_is) (rw (of.stop, of.no_start_text, of.no_end_text, of.continue_at) at explains)

  served : (o : Option Kept) (memory : RegularMemory) → memory.kept ≡ o → MemoryServes o input place (lowest_asked regular input) → IfSome o (IsTrueFor regular text memory.parts)
      → IfSome memory.kept (IsWalkedFor regular text memory.walked) → IsReady regular context text input memory
  served None memory same serves is_true walks = absurd serves
  served (Some kept) memory same serves is_true walks = record {
    low = rw (is.table_is, is.entry_is) (omega (arith, is_true.first, serves.low));
    stack = is_true.stack;
    of_text = record {
      width = is_true.width ∙ ap (λ table. length table.heads.items) (sym is.table_is);
      rows = is_true.rows;
      ends = is_true.ends;
    };
    remembers = λ view ways has.
        let known = is_true.remembers view ways (explained kept serves.input_is view ways has) in
        rw is.table_is (record { fails = λ k at. inl (known.fails k at); ends = known.ends });
    of_input = subst (λ (o : Option Kept). IfSome o (λ kept. (memory.parts.recall.base ≡ kept.first) × IsOfInput kept input place)) (sym same)
        (is_true.first, serves.input_is);
    walked = walks;
  }

  -- what serves this search can be asked in it
  pub ready_of : (memory : RegularMemory) → MemoryServes memory.kept input place (lowest_asked regular input) → IsKeptOf regular text memory → IsReady regular context text input memory
  ready_of memory serves is_kept = served memory.kept memory refl serves is_kept.0 is_kept.1

  -- what is true of this search's states is kept
  pub kept_of : (o : Option Kept) (parts : PartMemory) → IfSome o (λ kept. (parts.recall.base ≡ kept.first) × IsOfInput kept input place)
      → vec_len parts.stack ≡ 0 → IsOfText context text parts.recall
      → ((view : View) (ways : Ways) → HasWays context text view ways → IsTrueOf context ways parts.recall)
      → IfSome o (IsTrueFor regular text parts)
  kept_of None parts of stack of_text true_of = tt
  kept_of (Some kept) parts of stack of_text true_of = record {
    first = of.0;
    stack = stack;
    width = of_text.width ∙ ap (λ table. length table.heads.items) is.table_is;
    rows = of_text.rows;
    ends = of_text.ends;
    remembers = λ view ways explains. known ways regular.table.heads.items parts.recall
        (rw is.table_is at (true_of view ways (has_ways kept of.1 view ways explains)));
  }

  -- it can be asked
  pub can_ask : (memory : RegularMemory) (counted : Counted) → looked_text counted ≡ text → length text < 2 ^ 63 → IsTable context.table.now
      → IsReady regular context text input memory → CanAsk context counted memory.parts
  can_ask memory counted same small table ready =
      record { table = table; of_text = rw same ready.of_text; small = rw same small; stack = ready.stack }

  -- and what it is after questions is kept
  pub kept_after : (memory : RegularMemory) (parts : PartMemory) (old new : Counted) → looked_text old ≡ text → IsReady regular context text input memory
      → LeavesMemory context old new memory.parts parts → IfSome memory.kept (IsTrueFor regular text parts)
  kept_after memory parts old new same ready leaves =
      let remembers : (view : View) (ways : Ways) → HasWays context text view ways → IsTrueOf context ways memory.parts.recall
      → IsTrueOf context ways parts.recall = rw same at leaves.remembers in
      kept_of memory.kept parts
      (subst (λ (b : ℕ). IfSome memory.kept (λ kept. (b ≡ kept.first) × IsOfInput kept input place)) (sym leaves.base) ready.of_input)
      leaves.stack (rw same at leaves.of_text) (λ view ways has. remembers view ways has (ready.remembers view ways has))

  -- what states do in this search, they do in those that are kept
  tried_for : (kept : Kept) → IsOfInput kept input place → (view : View) (go : ℕ → Continuation) → IsTried context text view go → IsTriedFor regular text kept view go
  tried_for kept of view go tried = record {
    first = tried.first;
    does = rw of.stop (rw (is.table_is, is.range_is) at tried.does);
    shows = rw (of.no_start_text, of.no_end_text, of.continue_at) (rw (is.matchers_are, is.rules_are) at tried.shows);
  }

  tried_here : (kept : Kept) → IsOfInput kept input place → (view : View) (go : ℕ → Continuation) → IsTriedFor regular text kept view go → IsTried context text view go
  tried_here kept of view go tried = record {
    first = tried.first;
    does = rw (is.table_is, is.range_is) (rw of.stop at tried.does);
    shows = rw (is.matchers_are, is.rules_are) (rw (of.no_start_text, of.no_end_text, of.continue_at) at tried.shows);
  }

  walk_in : (o : Option Kept) (parts : PartMemory) (walked : WalkMemory) → MemoryServes o input place (lowest_asked regular input) → IfSome o (IsTrueFor regular text parts)
      → IfSome o (IsWalkedFor regular text walked) → regular.longest ≡ false → IsWalkedIn regular.table (length text) parts.recall.base walked
  walk_in None parts walked serves is_true walks plain = absurd serves
  walk_in (Some kept) parts walked serves is_true walks plain =
      subst (λ (b : ℕ). IsWalkedIn regular.table (length text) b walked) (sym is_true.first) (walks.within plain)

  -- a walk can go on with what others have found out
  pub can_walk_on : (memory : RegularMemory) → MemoryServes memory.kept input place (lowest_asked regular input) → IsKeptOf regular text memory → regular.longest ≡ false
      → IsWalkedIn context.table.now (length text) memory.parts.recall.base memory.walked
  can_walk_on memory serves is_kept plain = rw is.table_is (walk_in memory.kept memory.parts memory.walked serves is_kept.0 is_kept.1 plain)

  known_in : (o : Option Kept) (walked : WalkMemory) → MemoryServes o input place (lowest_asked regular input) → IfSome o (IsWalkedFor regular text walked)
      → regular.longest ≡ false → (view : View) (go : ℕ → Continuation) → IsTried context text view go → AreWalked go regular.table.heads.items walked
  known_in None walked serves walks plain view go tried = absurd serves
  known_in (Some kept) walked serves walks plain view go tried = walks.known plain view go (tried_for kept serves.input_is view go tried)

  -- and that is true
  pub walks_known : (memory : RegularMemory) → MemoryServes memory.kept input place (lowest_asked regular input) → IsKeptOf regular text memory → regular.longest ≡ false
      → (view : View) (go : ℕ → Continuation) → IsTried context text view go → AreWalked go context.table.now.heads.items memory.walked
  walks_known memory serves is_kept plain view go tried =
      subst (λ (t : PartTable). AreWalked go t.heads.items memory.walked) (sym is.table_is) (known_in memory.kept memory.walked serves is_kept.1 plain view go tried)

  walked_in : (o : Option Kept) (memory : RegularMemory) (new : WalkMemory) (start : ℕ) → IfSome o (λ kept. (memory.parts.recall.base ≡ kept.first) × IsOfInput kept input place)
      → IsWalkedIn context.table.now (length text) memory.parts.recall.base new → HasWayFrom regular text input start
      → ((view : View) (ways : Ways) → HasWays context text view ways → IsTrueOf context ways memory.parts.recall)
      → ((view : View) (go : ℕ → Continuation) → IsTried context text view go → AreWalked go context.table.now.heads.items memory.walked)
      → ((view : View) (go : ℕ → Continuation) → IsTried context text view go → IsTrueOf context (ways_of go) memory.parts.recall
      → AreWalked go context.table.now.heads.items memory.walked → HasTrace (go context.entry start).answer → AreWalked go context.table.now.heads.items new)
      → IfSome o (IsWalkedFor regular text new)
  walked_in None memory new start of within way true_of old known = tt
  walked_in (Some kept) memory new start of within way true_of old known = record {
    within = λ plain. subst (λ (b : ℕ). IsWalkedIn regular.table (length text) b new) of.0 (rw is.table_is at within);
    known = λ plain view go tried.
        let here = tried_here kept of.1 view go tried in
        let has = walk_ways context text view go here in
        let there : (ways_of go).end context.entry start ≡ None → ⊥ = rw is.entry_is (way (text_view view) (ways_of go)
        (rw (is.table_is, is.matchers_are, is.rules_are, is.range_is) at has)) in
        subst (λ (t : PartTable). AreWalked go t.heads.items new) is.table_is
        (known view go here (true_of (text_view view) (ways_of go) has) (old view go here) (traced (go context.entry start).answer there));
  }
    where
      traced : (a : Option Trace) → (option_map (λ t. t.end) a ≡ None → ⊥) → HasTrace a
      traced None some = absurd (some refl)
      traced (Some t) some = tt

  -- what a walk has found out is kept
  pub walked_after : (memory : RegularMemory) (new : WalkMemory) (start : ℕ) → CanWalk regular text input memory start → IsKeptOf regular text memory → regular.longest ≡ false
      → IsWalkedIn context.table.now (length text) memory.parts.recall.base new
      → ((view : View) (go : ℕ → Continuation) → IsTried context text view go → IsTrueOf context (ways_of go) memory.parts.recall
      → AreWalked go context.table.now.heads.items memory.walked → HasTrace (go context.entry start).answer → AreWalked go context.table.now.heads.items new)
      → IfSome memory.kept (IsWalkedFor regular text new)
  walked_after memory new start can is_kept plain within known =
      let ready = ready_of memory can.serves is_kept in
      walked_in memory.kept memory new start ready.of_input within can.way ready.remembers (walks_known memory can.serves is_kept plain) known

-- where the longest match is wanted, nothing is kept of walks
pub walked_longest : (regular : Regular) (text : List ℕ) (walked : WalkMemory) (o : Option Kept) → regular.longest ≡ true → IfSome o (IsWalkedFor regular text walked)
walked_longest regular text walked None plain = tt
walked_longest regular text walked (Some kept) plain = record {
  within = λ first. absurd (true≢false (sym plain ∙ first));
  known = λ first view go tried. absurd (true≢false (sym plain ∙ first));
}

-- the earliest start has a way
earliest_has : (f : ℕ → Option ℕ) (ps : List ℕ) (span : ℕ × ℕ) → Some span ≡ earliest f ps → f span.0 ≡ None → ⊥
unfolding earliest
earliest_has f [] span is misses = none-some span (sym is)
earliest_has f (p ∷ ps) span is misses = by (f p) refl (λ there. earliest_has f ps span there misses)
  where
    by : (o : Option ℕ) → f p ≡ o → (Some span ≡ earliest f ps → ⊥) → ⊥
    by None none later = later (is ∙ ap (λ (o : Option ℕ). elim o [ None ↦ earliest f ps | Some e ↦ Some (p, e) ]) none)
    by (Some e) some later =
        let there : Some span ≡ Some (p, e) = is ∙ ap (λ (o : Option ℕ). elim o [ None ↦ earliest f ps | Some e ↦ Some (p, e) ]) some in
        let same : span ≡ (p, e) = same_Some span (p, e) there in
        none-some e (sym misses ∙ ap (λ (s : ℕ × ℕ). f s.0) same ∙ some)

-- a start that was found has a way
pub way_found : (regular : Regular) (text : List ℕ) (input : RunInput) (ps : List ℕ) (o : Option (ℕ × ℕ))
    → ((view : View) (ways : Ways)
    → Explains regular.matchers.items (rules_at regular.unicode input (continue_place regular input)) (ends_from 0 input.range.end) regular.table.states.items text view ways
    → o ≡ earliest (ways.end regular.entry) ps)
    → IfSome o (λ span. HasWayFrom regular text input span.0)
way_found regular text input ps None found = tt
way_found regular text input ps (Some span) found = λ view ways explains. earliest_has (ways.end regular.entry) ps span (found view ways explains)

-- a start that was found, where the memory can be asked and serves the search
pub can_walk : (regular : Regular) (text : List ℕ) (input : RunInput) (memory : RegularMemory) (o : Option (ℕ × ℕ))
    → MemoryServes memory.kept input (continue_place regular input) (lowest_asked regular input)
    → IfSome o (λ span. IsInReach regular.table text memory.parts.recall.base regular.entry span.0)
    → IfSome o (λ span. HasWayFrom regular text input span.0) → IfSome o (λ span. CanWalk regular text input memory span.0)
can_walk regular text input memory None serves inside way = tt
can_walk regular text input memory (Some span) serves inside way = record { serves = serves; place = inside; way = way }
