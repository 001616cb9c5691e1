-- A walk goes along a first way and into its parts.
use Rattle.std.proofs.Common.{◌≡◌, ◌∙◌, ℕ, ◌+◌, ◌-◌, ◌*◌, ◌/◌, ◌%◌, ◌^◌, ◌<◌, ◌≤◌, Bool, true, false, List, [], ◌∷◌, ◌++◌, length, Option, Some, None, refl, max, min, sym, ap, ap₂, subst, inl, inr, arith, append_assoc, if◌then◌else◌, true≢false, get_or}
use Rattle.std.proofs.lemmas.Bool.{and_parts, cases_eq, ltb-true}
use Rattle.std.proofs.lemmas.Option.{none-some, same_Some}
use Rattle.std.proofs.Math.Nat.{mul-le-mul_left}
use Rattle.std.specs.Char.{len_utf8}
use Rattle.std.specs.Prelude.{IfSome, IsCharBoundary, option_map, unwrap_or, nat_lt}
use Rattle.regex_hir.specs.Text.{is_some_and, char_at, char_before}
use Rattle.fancy_regex_class.specs.declared.class.CharClassMatcher.{CharClassMatcher}
use Rattle.fancy_regex_states.specs.Attempts.{View, Trace, AttemptResult, Continuation, better_trace, guard, write, after_writes, accept, failed, asked_answer, passed_answer, passed_depth, resume, stepped, reads, visit, ShowsAll}
use Rattle.fancy_regex_states.specs.CharTests.{leaf_matches_char}
use Rattle.fancy_regex_states.specs.First.{state_at}
use Rattle.fancy_regex_states.specs.declared.atom.Leaf.{Leaf}
use Rattle.fancy_regex_states.specs.declared.rules.Rules.{Rules}
use Rattle.fancy_regex_states.specs.declared.state.State.{State}
use Rattle.fancy_regex_states.specs.declared.state.State.TheVariants.{Split, Enter, Leave, Ask, Atomic, Match}
use Rattle.fancy_regex_states.specs.declared.state.State.TheVariants as S
use Rattle.fancy_regex_parts.specs.Ways.{ways_of, text_view, state_after, place_after, admits}
use Rattle.fancy_regex_parts.specs.Tables.{IsRightAt, IsTable, needed_reach_of, reach_of, mark_of, cost_of, cell_cost, known_cost, due, due_of, owed, table_weight}
use Rattle.fancy_regex_parts.specs.Recall.{cell, cell_number}
use Rattle.fancy_regex_parts.specs.Frames.{IsPlace, IsInReach, IsLedInReach, cell_depth}
use Rattle.fancy_regex_parts.specs.Layers.{HasWays}
use Rattle.fancy_regex_parts.specs.Writes.{list_of, IsExtended, SameWrites}
use Rattle.fancy_regex_parts.specs.Walk.{IsTried, dearest, last_first, read_tasks, back_tasks, branch_of, group_tasks, tasks_at, walk_tasks, IsMet, IsArrival, IsWalkedIn, IsAt, IsFollowed, IsTaskOf, AllTasksWithin, task_due, tasks_due, task_size, tasks_size, AreLeft, trace_writes, HasTrace, all_writes, HaveWays, IsBelow, IsKept, IsBelowKept, cell_writes, Leads, AreWritten, AreWalked, IsWalking}
use Rattle.fancy_regex_parts.specs.declared.recall.Recall.{Recall}
use Rattle.fancy_regex_parts.specs.declared.step.PartContext.{PartContext}
use Rattle.fancy_regex_parts.specs.declared.table.PartTable.{PartTable}
use Rattle.fancy_regex_parts.specs.declared.groups.WalkTask.{WalkTask}
use Rattle.fancy_regex_parts.specs.declared.groups.WalkTask.TheVariants.{Follow, Part, Join, Keep, Start, End}
use Rattle.fancy_regex_parts.specs.declared.groups.WalkMemory.{WalkMemory}
use Rattle.fancy_regex_parts.specs.declared.writes.Write.{Write}
use Rattle.fancy_regex_parts.proofs.BetweenLemmas.{AllBy, EndsBy, ends_by, picked}
use Rattle.fancy_regex_parts.proofs.PlaceLemmas.{IsPrior}
use Rattle.fancy_regex_parts.proofs.VisitLemmas.{leads_in_reach}
use Rattle.fancy_regex_parts.proofs.ListLemmas.{list_none, same_after, same_before, same_by, same_on}
use Rattle.fancy_regex_parts.proofs.TrackLemmas.{cell_is}
use Rattle.fancy_regex_parts.proofs.RecallLemmas.{place_parts}
use Rattle.fancy_regex_parts.proofs.WeightLemmas.{cost_opened, known_most}
use Rattle.fancy_regex_parts.proofs.EmittedLemmas.{explains_of}

pub last_pushed : (fs : List WalkTask) (f : WalkTask) → last_first (fs ++ f ∷ []) ≡ f ∷ last_first fs
unfolding last_first
last_pushed [] f = refl
last_pushed (x ∷ xs) f = ap (λ t. t ++ x ∷ []) (last_pushed xs f)

pub last_none : last_first [] ≡ []
unfolding last_first
last_none = refl

module _ (go : ℕ → Continuation) where
  abbrev pub IsLater : WalkTask → Type 0
  IsLater (Follow q i) = ⊥
  IsLater (Part q i) = Unit {0}
  IsLater (Join n) = ⊥
  IsLater (Keep k) = ⊥
  IsLater (Start g i) = Unit {0}
  IsLater (End g i) = Unit {0}

  abbrev pub AllLater : List WalkTask → Type 0
  AllLater [] = Unit {0}
  AllLater (x ∷ rest) = IsLater x × AllLater rest

  -- a state is followed first, and none after it
  abbrev pub IsStep : List WalkTask → Type 0
  IsStep [] = Unit {0}
  IsStep (Follow q i ∷ rest) = AllLater rest
  IsStep (Part q i ∷ rest) = ⊥
  IsStep (Join n ∷ rest) = ⊥
  IsStep (Keep k ∷ rest) = ⊥
  IsStep (Start g i ∷ rest) = ⊥
  IsStep (End g i ∷ rest) = ⊥

  abbrev pub AllBelow : ℕ → List WalkTask → Type 0
  AllBelow d [] = Unit {0}
  AllBelow d (x ∷ rest) = IsBelow go d x × AllBelow d rest

  -- the tasks write this, and lead to ways that are less deep than d
  pub record Follows (d : ℕ) (ws : List (ℕ × ℕ)) (tasks : List WalkTask) : Type 0 where
    pub ways : HaveWays go tasks
    pub below : AllBelow d tasks
    pub writes : all_writes go tasks ≡ ws
    pub shape : IsStep tasks

  look_follows : (b : Bool) (next i : ℕ) → HasTrace (guard b (go next i)).answer
      → Follows (guard b (go next i)).depth (trace_writes (guard b (go next i)).answer) (Follow next i ∷ [])
  look_follows true next i h = record { ways = (h, tt); below = (omega arith, tt); writes = refl; shape = tt }
  look_follows false next i h = absurd h

  read_follows : (b : Bool) (after : Option ℕ) (next i j : ℕ) (matches : ℕ → Bool) → (b ≡ true → is_some_and after matches ≡ true)
      → j ≡ i + unwrap_or (option_map len_utf8 after) 1 → HasTrace (guard b (go next j)).answer
      → Follows (guard b (go next j)).depth (trace_writes (guard b (go next j)).answer) (read_tasks next i after)
  read_follows false after next i j matches has is h = absurd h
  read_follows true None next i j matches has is h = absurd (true≢false (sym (has refl)))
  read_follows true (Some c) next i j matches has is h =
      subst (λ (n : ℕ). Follows ((go next j).depth + 1) (trace_writes (go next j).answer) (Follow next n ∷ [])) is
      (record { ways = (h, tt); below = (omega arith, tt); writes = refl; shape = tt })

  back_follows : (o before : Option ℕ) (next i : ℕ) → o ≡ option_map len_utf8 before → HasTrace (stepped o i (go next)).answer
      → Follows (stepped o i (go next)).depth (trace_writes (stepped o i (go next)).answer) (back_tasks next i before)
  back_follows None None next i is h = absurd h
  back_follows None (Some c) next i is h = absurd h
  back_follows (Some bytes) None next i is h = absurd (none-some bytes (sym is))
  back_follows (Some bytes) (Some c) next i is h =
      let same : bytes ≡ len_utf8 c = same_Some bytes (len_utf8 c) is in
      subst (λ (n : ℕ). Follows ((go next (i - bytes)).depth + 1) (trace_writes (go next (i - bytes)).answer) (Follow next (i - n) ∷ [])) same
      (record { ways = (h, tt); below = (omega arith, tt); writes = refl; shape = tt })

  one_follows : (q i d : ℕ) (a : Option Trace) → (go q i).answer ≡ a → (go q i).depth < d → HasTrace a → Follows d (trace_writes a) (Follow q i ∷ [])
  one_follows q i d a is less h = record { ways = (subst HasTrace (sym is) h, tt); below = (less, tt); writes = ap trace_writes is; shape = tt }

  split_follows : (longest : Bool) (first second i d : ℕ) (a b : Option Trace) → longest ≡ false
      → (go first i).answer ≡ a → (go second i).answer ≡ b → (go first i).depth < d → (go second i).depth < d
      → HasTrace (better_trace longest a b)
      → Follows d (trace_writes (better_trace longest a b)) (Follow (branch_of first second (option_map (λ t. t.end) a)) i ∷ [])
  split_follows true first second i d a b plain a_is b_is one two h = absurd (true≢false plain)
  split_follows false first second i d None b plain a_is b_is one two h = one_follows second i d b b_is two h
  split_follows false first second i d (Some t) None plain a_is b_is one two h = one_follows first i d (Some t) a_is one h
  split_follows false first second i d (Some t) (Some u) plain a_is b_is one two h = one_follows first i d (Some t) a_is one h

  has_written : (slot i : ℕ) (a : Option Trace) → HasTrace (write slot i a) → HasTrace a
  has_written slot i None h = h
  has_written slot i (Some t) h = tt

  wrote : (slot i : ℕ) (a : Option Trace) → HasTrace a → (slot, i) ∷ trace_writes a ≡ trace_writes (write slot i a)
  wrote slot i None h = absurd h
  wrote slot i (Some t) h = refl

  has_after : (ws : List (ℕ × ℕ)) (a : Option Trace) → HasTrace (after_writes ws a) → HasTrace a
  has_after ws None h = h
  has_after ws (Some t) h = tt

  wrote_after : (ws : List (ℕ × ℕ)) (a : Option Trace) → HasTrace a → ws ++ trace_writes a ≡ trace_writes (after_writes ws a)
  wrote_after ws None h = absurd h
  wrote_after ws (Some t) h = refl

  -- a part, and what follows it
  two_follow : (part p next j d : ℕ) (t : Trace) (b : Option Trace) → (go part p).answer ≡ Some t → (go next j).answer ≡ b
      → (go part p).depth < d → (go next j).depth < d → HasTrace (after_writes t.writes b)
      → Follows d (trace_writes (after_writes t.writes b)) (Follow next j ∷ Part part p ∷ [])
  two_follow part p next j d t b a_is b_is one two h =
      let b_has = has_after t.writes b h in
      record {
        ways = (subst HasTrace (sym b_is) b_has, (subst HasTrace (sym a_is) tt, tt));
        below = (two, (one, tt));
        writes = ap₂ (λ (x y : Option Trace). trace_writes x ++ trace_writes y) a_is b_is ∙ wrote_after t.writes b b_has;
        shape = (tt, tt);
      }

  asked_follows : (negated : Bool) (part next i d : ℕ) (before after end : Option ℕ) (a b : Option Trace) → (go part i).answer ≡ a → (go next i).answer ≡ b
      → (go part i).depth < d → (go next i).depth < d → HasTrace (asked_answer negated a b)
      → Follows d (trace_writes (asked_answer negated a b)) (tasks_at (Ask part negated next) i before after end)
  asked_follows false part next i d before after end None b a_is b_is one two h = absurd h
  asked_follows false part next i d before after end (Some t) b a_is b_is one two h = two_follow part i next i d t b a_is b_is one two h
  asked_follows true part next i d before after end None b a_is b_is one two h = one_follows next i d b b_is two h
  asked_follows true part next i d before after end (Some t) b a_is b_is one two h = absurd h

  group_follows : (part same moved i d : ℕ) (a : Option Trace) → (go part i).answer ≡ a → (go part i).depth < d
      → passed_depth a (resume i (go same) (go moved)) < d → HasTrace (passed_answer a (resume i (go same) (go moved)))
      → Follows d (trace_writes (passed_answer a (resume i (go same) (go moved)))) (group_tasks part same moved i (option_map (λ t. t.end) a))
  group_follows part same moved i d None a_is one deep h = absurd h
  group_follows part same moved i d (Some t) a_is one deep h =
      let is = picked go i same moved t.end in
      two_follow part i (state_after i same moved t.end) (place_after i t.end) d t (resume i (go same) (go moved) t.end).answer a_is
      (ap (λ (r : AttemptResult). r.answer) (sym is)) one (subst (λ (r : AttemptResult). r.depth < d) is deep) h

module _ (view : View) (len : ℕ) (go : ℕ → Continuation) (first : view.longest ≡ false) (matchers : List CharClassMatcher) (rules : Rules)
    (text : List ℕ) (shows : ShowsAll matchers rules text (text_view view)) (i : ℕ) (b : IsCharBoundary text i) where
  reads_has : (leaf : Leaf) → reads view len leaf i ≡ true → is_some_and (char_at text i) (leaf_matches_char rules.unicode matchers leaf) ≡ true
  unfolding reads
  reads_has leaf e = sym ((shows i b).has leaf) ∙ (and_parts _ _ e).0

  -- the first way from a state at a place
  visit_follows : (state : State) → HasTrace (visit view len go state i).answer
      → Follows go (visit view len go state i).depth (trace_writes (visit view len go state i).answer) (walk_tasks (ways_of go) (char_before text i) (char_at text i) state i)
  visit_follows (S.Read leaf next) h =
      read_follows go (reads view len leaf i) (char_at text i) next i (view.next i) (leaf_matches_char rules.unicode matchers leaf)
      (reads_has leaf) (shows i b).next h
  visit_follows (S.Look check next) h = look_follows go (view.holds check i) next i h
  visit_follows (S.Back next) h = back_follows go (view.back i) (char_before text i) next i (shows i b).back h
  visit_follows (Split one two) h =
      split_follows go view.longest one two i _ (go one i).answer (go two i).answer first refl refl (omega arith) (omega arith) h
  visit_follows (Enter g next) h =
      let has = has_written go (2 * g) i (go next i).answer h in
      record { ways = (has, (tt, tt)); below = (omega arith, (tt, tt)); writes = wrote go (2 * g) i (go next i).answer has; shape = (tt, tt) }
  visit_follows (Leave g next) h =
      let has = has_written go (2 * g + 1) i (go next i).answer h in
      record { ways = (has, (tt, tt)); below = (omega arith, (tt, tt)); writes = wrote go (2 * g + 1) i (go next i).answer has; shape = (tt, tt) }
  visit_follows (Ask asked_part negated next) h =
      asked_follows go negated asked_part next i _ (char_before text i) (char_at text i) None (go asked_part i).answer (go next i).answer refl refl (omega arith) (omega arith) h
  visit_follows (Atomic asked_part same moved) h =
      group_follows go asked_part same moved i _ (go asked_part i).answer refl (omega arith) (omega arith) h
  visit_follows Match h = record { ways = tt; below = tt; writes = refl; shape = tt }

module _ (context : PartContext) (text : List ℕ) (view : View) (go : ℕ → Continuation) (tried : IsTried context text view go) where
  -- the states have the ways of what they do
  pub has_ways : HasWays context text (text_view view) (ways_of go)
  has_ways =
      explains_of context.matchers.now context.rules context.range text view go tried.first tried.shows context.table.now.states.items tried.does.zero
      tried.does.final tried.does.agree

  own_follows : (i : ℕ) → HasTrace (go 0 i).answer → Follows go (go 0 i).depth (trace_writes (go 0 i).answer) []
  own_follows i h = record { ways = tt; below = tt; writes = sym (by_range (admits context.range i) (is ∙ refl) h); shape = tt }
    where
      is : (go 0 i).answer ≡ (if admits context.range i then accept i else failed).answer
      is = ap (λ (k : Continuation). (k i).answer) tried.does.zero

      by_range : (b : Bool) → (go 0 i).answer ≡ (if b then accept i else failed).answer → HasTrace (go 0 i).answer → trace_writes (go 0 i).answer ≡ []
      by_range true e has = ap trace_writes e
      by_range false e has = absurd (subst HasTrace e has)

  -- the first way from a state of the context at a place
  pub pair_follows : (q i : ℕ) → q < length context.table.now.states.items → IsCharBoundary text i → HasTrace (go q i).answer
      → Follows go (go q i).depth (trace_writes (go q i).answer)
      (walk_tasks (ways_of go) (char_before text i) (char_at text i) (state_at context.table.now.states.items q) i)
  pair_follows q i low b h =
      let states = context.table.now.states.items in
      elim (tried.does.agree q low) [
        | inl own ↦
            let final : state_at states q ≡ Match = ap (state_at states) own ∙ tried.does.final in
            subst (λ (s : State). Follows go (go q i).depth (trace_writes (go q i).answer) (walk_tasks (ways_of go) (char_before text i) (char_at text i) s i)) (sym final)
            (subst (λ (p : ℕ). Follows go (go p i).depth (trace_writes (go p i).answer) []) (sym own)
            (own_follows i (subst (λ (p : ℕ). HasTrace (go p i).answer) own h)))
        | inr agree ↦
            let is = agree.does i b.0 in
            subst (λ (r : AttemptResult). Follows go r.depth (trace_writes r.answer) (walk_tasks (ways_of go) (char_before text i) (char_at text i) (state_at states q) i)) (sym is)
            (visit_follows view (length text) go tried.first context.matchers.now context.rules text tried.shows i b (state_at states q)
            (subst (λ (r : AttemptResult). HasTrace r.answer) is h))
      ]

  by_of : (a : Option Trace) → EndsBy (length text) a → AllBy (length text) (trace_writes a)
  by_of None h = tt
  by_of (Some t) h = h.1

  -- what is written is in the text
  pub writes_by : (q i : ℕ) → q < length context.table.now.states.items → i ≤ length text → AllBy (length text) (trace_writes (go q i).answer)
  writes_by q i low le = by_of (go q i).answer (ends_by view (length text) context.range context.table.now.states.items go tried.does q i low le)

module _ (go : ℕ → Continuation) (heads : List ℕ) (base : ℕ) where
  -- less deep
  below_less : (d e : ℕ) (tasks : List WalkTask) → e ≤ d → IsBelowKept go heads base d tasks → IsBelowKept go heads base e tasks
  below_less d e [] le h = tt
  below_less d e (Follow q i ∷ rest) le h = below_less d e rest le h
  below_less d e (Part q i ∷ rest) le h = below_less d e rest le h
  below_less d e (Join n ∷ rest) le h = below_less d e rest le h
  below_less d e (Keep k ∷ rest) le h = (omega (arith, le, h.0), below_less d e rest le h.1)
  below_less d e (Start g i ∷ rest) le h = below_less d e rest le h
  below_less d e (End g i ∷ rest) le h = below_less d e rest le h

  below_kept : (d k : ℕ) (tasks : List WalkTask) → IsBelowKept go heads base d tasks → IsKept k tasks → d < cell_depth (ways_of go) heads base k
  below_kept d k [] h kept = absurd kept
  below_kept d k (Follow q i ∷ rest) h kept = below_kept d k rest h kept
  below_kept d k (Part q i ∷ rest) h kept = below_kept d k rest h kept
  below_kept d k (Join n ∷ rest) h kept = below_kept d k rest h kept
  below_kept d k (Keep j ∷ rest) h kept = elim kept [
    | inl same ↦ subst (λ (n : ℕ). d < cell_depth (ways_of go) heads base n) (sym same) h.0
    | inr later ↦ below_kept d k rest h.1 later
  ]
  below_kept d k (Start g i ∷ rest) h kept = below_kept d k rest h kept
  below_kept d k (End g i ∷ rest) h kept = below_kept d k rest h kept

  below_behind : (d : ℕ) (xs rest : List WalkTask) → AllLater go xs → IsBelowKept go heads base d rest → IsBelowKept go heads base d (xs ++ rest)
  below_behind d [] rest later h = h
  below_behind d (Follow q i ∷ xs) rest later h = absurd later.0
  below_behind d (Part q i ∷ xs) rest later h = below_behind d xs rest later.1 h
  below_behind d (Join n ∷ xs) rest later h = absurd later.0
  below_behind d (Keep k ∷ xs) rest later h = absurd later.0
  below_behind d (Start g i ∷ xs) rest later h = below_behind d xs rest later.1 h
  below_behind d (End g i ∷ xs) rest later h = below_behind d xs rest later.1 h

  module _ (writes : List Write) where
    -- the same is written
    pub leads_same : (tasks : List WalkTask) (ws vs goal : List (ℕ × ℕ)) → SameWrites ws vs → Leads go heads base writes tasks vs goal
        → Leads go heads base writes tasks ws goal
    leads_same [] ws vs goal same h = same_on ws vs goal same h
    leads_same (Follow q i ∷ rest) ws vs goal same h = h
    leads_same (Part q i ∷ rest) ws vs goal same h =
        let ts : List (ℕ × ℕ) = trace_writes (go q i).answer in
        (h.0, (h.1.0, leads_same rest (ts ++ ws) (ts ++ vs) goal (same_after ts ws vs same) h.1.1))
    leads_same (Join n ∷ rest) ws vs goal same h =
        let ns : List (ℕ × ℕ) = list_of writes n in
        (h.0, leads_same rest (ws ++ ns) (vs ++ ns) goal (same_before ns ws vs same) h.1)
    leads_same (Keep k ∷ rest) ws vs goal same h =
        (same_on ws vs (cell_writes go heads base k) same h.0, leads_same rest ws vs goal same h.1)
    leads_same (Start g i ∷ rest) ws vs goal same h =
        leads_same rest ((2 * g, i) ∷ ws) ((2 * g, i) ∷ vs) goal (same_after ((2 * g, i) ∷ []) ws vs same) h
    leads_same (End g i ∷ rest) ws vs goal same h =
        leads_same rest ((2 * g + 1, i) ∷ ws) ((2 * g + 1, i) ∷ vs) goal (same_after ((2 * g + 1, i) ∷ []) ws vs same) h

    -- there are more lists
    pub leads_more : (more : List Write) → IsExtended writes more → (tasks : List WalkTask) (ws goal : List (ℕ × ℕ)) → Leads go heads base writes tasks ws goal
        → Leads go heads base more tasks ws goal
    leads_more more extended [] ws goal h = h
    leads_more more extended (Follow q i ∷ rest) ws goal h = (h.0, (h.1.0, leads_more more extended rest (trace_writes (go q i).answer) goal h.1.1))
    leads_more more extended (Part q i ∷ rest) ws goal h = (h.0, (h.1.0, leads_more more extended rest (trace_writes (go q i).answer ++ ws) goal h.1.1))
    leads_more more extended (Join n ∷ rest) ws goal h = (
      omega (arith, h.0, extended.more),
      leads_more more extended rest (ws ++ list_of more n) goal
          (subst (λ (l : List (ℕ × ℕ)). Leads go heads base writes rest (ws ++ l) goal) (sym (extended.same n h.0)) h.1),
    )
    leads_more more extended (Keep k ∷ rest) ws goal h = (h.0, leads_more more extended rest ws goal h.1)
    leads_more more extended (Start g i ∷ rest) ws goal h = leads_more more extended rest ((2 * g, i) ∷ ws) goal h
    leads_more more extended (End g i ∷ rest) ws goal h = leads_more more extended rest ((2 * g + 1, i) ∷ ws) goal h

    later_leads : (d : ℕ) (xs rest : List WalkTask) (ws goal : List (ℕ × ℕ)) → AllLater go xs → HaveWays go xs → AllBelow go d xs
        → ((e : ℕ) → e < d → IsBelowKept go heads base e rest) → Leads go heads base writes rest (all_writes go xs ++ ws) goal
        → Leads go heads base writes (xs ++ rest) ws goal
    later_leads d [] rest ws goal later ways below kept h = h
    later_leads d (Follow q i ∷ xs) rest ws goal later ways below kept h = absurd later.0
    later_leads d (Part q i ∷ xs) rest ws goal later ways below kept h =
        let ts : List (ℕ × ℕ) = trace_writes (go q i).answer in (
          ways.0,
          (
            below_behind (go q i).depth xs rest later.1 (kept (go q i).depth below.0),
            later_leads d xs rest (ts ++ ws) goal later.1 ways.1 below.1 kept
                (subst (λ (l : List (ℕ × ℕ)). Leads go heads base writes rest l goal) (append_assoc (all_writes go xs) ts ws) h),
          ),
        )
    later_leads d (Join n ∷ xs) rest ws goal later ways below kept h = absurd later.0
    later_leads d (Keep k ∷ xs) rest ws goal later ways below kept h = absurd later.0
    later_leads d (Start g i ∷ xs) rest ws goal later ways below kept h =
        later_leads d xs rest ((2 * g, i) ∷ ws) goal later.1 ways.1 below.1 kept
        (subst (λ (l : List (ℕ × ℕ)). Leads go heads base writes rest l goal) (append_assoc (all_writes go xs) ((2 * g, i) ∷ []) ws) h)
    later_leads d (End g i ∷ xs) rest ws goal later ways below kept h =
        later_leads d xs rest ((2 * g + 1, i) ∷ ws) goal later.1 ways.1 below.1 kept
        (subst (λ (l : List (ℕ × ℕ)). Leads go heads base writes rest l goal) (append_assoc (all_writes go xs) ((2 * g + 1, i) ∷ []) ws) h)

    -- a step leads to what its way writes
    step_leads : (d : ℕ) (ws : List (ℕ × ℕ)) (tasks rest : List WalkTask) (vs goal : List (ℕ × ℕ)) → Follows go d ws tasks
        → ((e : ℕ) → e < d → IsBelowKept go heads base e rest) → vs ≡ [] → Leads go heads base writes rest ws goal
        → Leads go heads base writes (tasks ++ rest) vs goal
    step_leads d ws [] rest vs goal follows kept none h =
        subst (λ (l : List (ℕ × ℕ)). Leads go heads base writes rest l goal) (sym follows.writes ∙ sym none) h
    step_leads d ws (Follow q i ∷ xs) rest vs goal follows kept none h = (
      follows.ways.0,
      (
        below_behind (go q i).depth xs rest follows.shape (kept (go q i).depth follows.below.0),
        later_leads d xs rest (trace_writes (go q i).answer) goal follows.shape follows.ways.1 follows.below.1 kept
            (subst (λ (l : List (ℕ × ℕ)). Leads go heads base writes rest l goal) (sym follows.writes) h),
      ),
    )
    step_leads d ws (Part q i ∷ xs) rest vs goal follows kept none h = absurd follows.shape
    step_leads d ws (Join n ∷ xs) rest vs goal follows kept none h = absurd follows.shape
    step_leads d ws (Keep k ∷ xs) rest vs goal follows kept none h = absurd follows.shape
    step_leads d ws (Start g i ∷ xs) rest vs goal follows kept none h = absurd follows.shape
    step_leads d ws (End g i ∷ xs) rest vs goal follows kept none h = absurd follows.shape

    -- what is yet to be kept is not forgotten
    kept_behind : (k : ℕ) (xs rest : List WalkTask) → IsKept k rest → IsKept k (xs ++ rest)
    kept_behind k [] rest h = h
    kept_behind k (Follow q i ∷ xs) rest h = kept_behind k xs rest h
    kept_behind k (Part q i ∷ xs) rest h = kept_behind k xs rest h
    kept_behind k (Join n ∷ xs) rest h = kept_behind k xs rest h
    kept_behind k (Keep j ∷ xs) rest h = inr (kept_behind k xs rest h)
    kept_behind k (Start g i ∷ xs) rest h = kept_behind k xs rest h
    kept_behind k (End g i ∷ xs) rest h = kept_behind k xs rest h

  -- there are more lists, and other tasks in which the same is to be kept
  pub written_more : (table : PartTable) (len : ℕ) (walked : WalkMemory) (more : List Write) (tasks others : List WalkTask) → IsWalkedIn table len base walked
      → IsExtended walked.lists.writes.items more → ((k : ℕ) → IsKept k tasks → IsKept k others)
      → AreWritten go heads base walked.lists.writes.items walked.visited tasks → AreWritten go heads base more walked.visited others
  written_more table len walked more tasks others within extended kept h = record {
    opened = λ k is. kept k (h.opened k is);
    known = λ k n is.
        subst (λ (l : List (ℕ × ℕ)). SameWrites l (cell_writes go heads base k))
        (sym (extended.same n (omega (arith, within.lists k n is, within.held)))) (h.known k n is);
  }

module _ (table : PartTable) (go : ℕ → Continuation) (base : ℕ) (old new : Recall) (q i : ℕ) (right : IsRightAt table q) (low : base ≤ i)
    (base_is : old.base ≡ base) (width_is : old.width ≡ length table.heads.items) where
  number_is : (mark : ℕ) → cell_number old mark i ≡ (i - base) * length table.heads.items + mark
  number_is mark = ap (λ (w : ℕ). (i - old.base) * w + mark) width_is ∙ ap (λ (n : ℕ). (i - n) * length table.heads.items + mark) base_is

  -- the pair of the cell of a state's mark is that state at the place
  depth_is : (mark : ℕ) → mark_of table q ≡ Some mark → cell_depth (ways_of go) table.heads.items base (cell_number old mark i) ≡ (go q i).depth
  depth_is mark some =
      let m = right.marked mark some in
      ap (cell_depth (ways_of go) table.heads.items base) (number_is mark) ∙ (cell_is (ways_of go) table.heads.items base q i mark m.0 m.1 low).1

  pair_is : (mark : ℕ) → mark_of table q ≡ Some mark
      → (get_or table.heads.items (cell_number old mark i % length table.heads.items) 0 ≡ q) × (base + cell_number old mark i / length table.heads.items ≡ i)
  pair_is mark some =
      let m = right.marked mark some in
      let parts = place_parts (length table.heads.items) (i - base) mark m.0 in
      let row : cell_number old mark i / length table.heads.items ≡ i - base = ap (λ (k : ℕ). k / length table.heads.items) (number_is mark) ∙ parts.0 in
      let column : cell_number old mark i % length table.heads.items ≡ mark = ap (λ (k : ℕ). k % length table.heads.items) (number_is mark) ∙ parts.1 in
      (ap (λ (k : ℕ). get_or table.heads.items k 0) column ∙ m.1, omega (arith, row, low))

  writes_are : (mark : ℕ) → mark_of table q ≡ Some mark → cell_writes go table.heads.items base (cell_number old mark i) ≡ trace_writes (go q i).answer
  writes_are mark some = let is = pair_is mark some in ap₂ (λ (p j : ℕ). trace_writes (go p j).answer) is.0 is.1

  -- the pair of a cell that is open is deeper than what is followed
  open_absurd : (mark : ℕ) → mark_of table q ≡ Some mark → (rest : List WalkTask) → IsBelowKept go table.heads.items base (go q i).depth rest
      → IsKept (cell_number old mark i) rest → ⊥
  open_absurd mark some rest below kept =
      let deep = below_kept go table.heads.items base (go q i).depth (cell_number old mark i) rest below kept in
      omega (arith, deep, depth_is mark some)

-- where a walk meets a state at a place
module _ (table : PartTable) (go : ℕ → Continuation) (len base : ℕ) (old new : WalkMemory) (q i : ℕ) (right : IsRightAt table q) (low : base ≤ i)
    (within : IsWalkedIn table len base old) (same_lists : new.lists ≡ old.lists) where
  abbrev writes : List Write
  writes = old.lists.writes.items

  abbrev rest : List WalkTask
  rest = last_first old.tasks.items

  abbrev Walks : WalkMemory → List WalkTask → ℕ → List (ℕ × ℕ) → Type 0
  Walks memory tasks n goal = IsWalking go table.heads.items base writes memory.visited tasks n goal

  module _ (goal : List (ℕ × ℕ)) (h : Walks old (Follow q i ∷ rest) 0 goal) where
    -- what the way from there writes is known
    found_by : (m : Option ℕ) (n : ℕ) → mark_of table q ≡ m → IsMet old new i m (Some n) → Walks new (last_first new.tasks.items) n goal
    found_by None n is met = absurd met
    found_by (Some mark) n is met =
        let ts : List (ℕ × ℕ) = trace_writes (go q i).answer in
        let k : ℕ = cell_number old.visited mark i in
        let written : cell_writes go table.heads.items base k ≡ ts = writes_are table go base old.visited new.visited q i right low within.base_is within.width mark is in
        let same : SameWrites (list_of writes n) ts = elim met.1.1 [
          | inl still ↦ absurd (open_absurd table go base old.visited new.visited q i right low within.base_is within.width mark is rest h.leads.1.0 (h.cells.opened k still.0))
          | inr known ↦ subst (SameWrites (list_of writes n)) written (h.cells.known k n known)
        ] in
        record {
          leads = subst (λ (l : List WalkTask). Leads go table.heads.items base writes l (list_of writes n) goal) (sym met.1.0)
              (leads_same go table.heads.items base writes rest (list_of writes n) ts goal same h.leads.1.1);
          cells = subst (λ (l : List WalkTask). AreWritten go table.heads.items base writes new.visited l) (sym met.1.0)
              (record {
                opened = λ j at. h.cells.opened j (sym (met.0.cells j) ∙ at);
                known = λ j m at. h.cells.known j m (sym (met.0.cells j) ∙ at);
              });
        }

    pub found_again : (n : ℕ) → IsArrival table old new q i (Some n) → Walks new (last_first new.tasks.items) n goal
    found_again n arrival = found_by (mark_of table q) n refl arrival

    -- it is not, and the way is followed
    module _ (tasks : List WalkTask) (follows : Follows go (go q i).depth (trace_writes (go q i).answer) tasks) where
      went_by : (m : Option ℕ) → mark_of table q ≡ m → IsMet old new i m None → Walks new (tasks ++ last_first new.tasks.items) 0 goal
      went_by None is met =
          rw (met.0, met.1)
          (record {
            leads = step_leads go table.heads.items base writes (go q i).depth (trace_writes (go q i).answer) tasks rest (list_of writes 0) goal follows
                (λ e less. below_less go table.heads.items base (go q i).depth e rest (omega (arith, less)) h.leads.1.0) (list_none writes) h.leads.1.1;
            cells = record {
              opened = λ k at. kept_behind go table.heads.items base writes k tasks rest (h.cells.opened k at);
              known = h.cells.known;
            };
          })
      went_by (Some mark) is met =
          let ts : List (ℕ × ℕ) = trace_writes (go q i).answer in
          let k : ℕ = cell_number old.visited mark i in
          let written : cell_writes go table.heads.items base k ≡ ts = writes_are table go base old.visited new.visited q i right low within.base_is within.width mark is in
          let deep = depth_is table go base old.visited new.visited q i right low within.base_is within.width mark is in
          subst (λ (l : List WalkTask). Walks new (tasks ++ l) 0 goal) (sym met.1)
          (record {
            leads = step_leads go table.heads.items base writes (go q i).depth ts tasks (Keep k ∷ rest) (list_of writes 0) goal follows
                (λ e less. (omega (arith, less, deep), below_less go table.heads.items base (go q i).depth e rest (omega (arith, less)) h.leads.1.0)) (list_none writes)
                (same_by ts (cell_writes go table.heads.items base k) (sym written), h.leads.1.1);
            cells = record {
              opened = λ j at. elim (cases_eq j k) [
                | inl same ↦ kept_behind go table.heads.items base writes j tasks (Keep k ∷ rest) (inl same)
                | inr other ↦ kept_behind go table.heads.items base writes j tasks (Keep k ∷ rest) (inr (h.cells.opened j (sym (met.0.others j other) ∙ at)))
              ];
              known = λ j n at. elim (cases_eq j k) [
                | inl same ↦ absurd (let now = ap (λ (c : ℕ). cell new.visited c) same in omega (arith, at, now, met.0.now))
                | inr other ↦ h.cells.known j n (sym (met.0.others j other) ∙ at)
              ];
            };
          })

      pub went_on : IsArrival table old new q i None → Walks new (tasks ++ last_first new.tasks.items) 0 goal
      went_on arrival = went_by (mark_of table q) refl arrival

-- where a walk has met a state at a place
module _ (table : PartTable) (len base : ℕ) (old new : WalkMemory) (q i : ℕ) (low : base ≤ i) (within : IsWalkedIn table len base old)
    (same_lists : new.lists ≡ old.lists) where
  -- what was visited stays in the text, and the lists are there
  within_by : (m found : Option ℕ) → IsMet old new i m found → new.visited.rows ≤ max old.visited.rows (i - old.visited.base + 1) → i ≤ len
      → IsWalkedIn table len base new
  within_by None None met rows le = record {
    width = ap (λ (r : Recall). r.width) met.0 ∙ within.width;
    base_is = ap (λ (r : Recall). r.base) met.0 ∙ within.base_is;
    rows = omega (arith, ap (λ (r : Recall). r.rows) met.0, within.rows);
    lists = λ k n at. rw same_lists (within.lists k n (sym (ap (λ (r : Recall). cell r k) met.0) ∙ at));
    held = rw same_lists within.held;
  }
  within_by None (Some n) met rows le = absurd met
  within_by (Some mark) None met rows le = record {
    width = met.0.width ∙ within.width;
    base_is = met.0.base ∙ within.base_is;
    rows = omega (arith, rows, within.rows, le, low, within.base_is);
    lists = λ k n at. elim (cases_eq k (cell_number old.visited mark i)) [
      | inl same ↦ absurd (let now = ap (λ (c : ℕ). cell new.visited c) same in omega (arith, at, now, met.0.now))
      | inr other ↦ rw same_lists (within.lists k n (sym (met.0.others k other) ∙ at))
    ];
    held = rw same_lists within.held;
  }
  within_by (Some mark) (Some n) met rows le = record {
    width = met.0.width ∙ within.width;
    base_is = met.0.base ∙ within.base_is;
    rows = omega (arith, rows, within.rows, le, low, within.base_is);
    lists = λ k n at. rw same_lists (within.lists k n (sym (met.0.cells k) ∙ at));
    held = rw same_lists within.held;
  }

  pub arrived_within : (found : Option ℕ) → IsArrival table old new q i found → new.visited.rows ≤ max old.visited.rows (i - old.visited.base + 1) → i ≤ len
      → IsWalkedIn table len base new
  arrived_within found arrival rows le = within_by (mark_of table q) found arrival rows le

  found_low_by : (m : Option ℕ) (n : ℕ) → IsMet old new i m (Some n) → n ≤ length new.lists.writes.items
  found_low_by None n met = absurd met
  found_low_by (Some mark) n met = elim met.1.1 [
    | inl still ↦ omega (arith, still.1)
    | inr known ↦ rw same_lists (omega (arith, within.lists (cell_number old.visited mark i) n known, within.held))
  ]

  -- the list that is found is there
  pub found_low : (n : ℕ) → IsArrival table old new q i (Some n) → n ≤ length new.lists.writes.items
  found_low n arrival = found_low_by (mark_of table q) n arrival

-- no more pairs were visited than there are
pub visited_cap : (table : PartTable) (len base : ℕ) (walked : WalkMemory) → IsWalkedIn table len base walked
    → known_cost table walked.visited ≤ (len - base + 1) * table_weight table
visited_cap table len base walked within = known_most table walked.visited (len - base + 1) within.rows within.width

module _ (table : PartTable) (q i : ℕ) (right : IsRightAt table q) (old new : WalkMemory) (width_is : old.visited.width ≡ length table.heads.items) where
  met_less : (m : Option ℕ) → mark_of table q ≡ m → IsMet old new i m None
      → (cost_of table q + known_cost table old.visited ≡ due table q + known_cost table new.visited)
      × ((tasks_due table (last_first new.tasks.items) ≡ tasks_due table (last_first old.tasks.items))
      × (tasks_size (last_first new.tasks.items) ≤ tasks_size (last_first old.tasks.items) + 1))
  unfolding tasks_due tasks_size
  met_less None is met =
      let cost = ap (λ (o : Option ℕ). due_of o (cost_of table q)) is in
      let same = ap (known_cost table) met.0 in (
        omega (arith, cost, same),
        (ap (tasks_due table) met.1, omega (arith, ap tasks_size met.1)),
      )
  met_less (Some mark) is met =
      let cost = ap (λ (o : Option ℕ). due_of o (cost_of table q)) is in
      let m = right.marked mark is in
      let more = cost_opened table q mark i m.0 m.1 old.visited new.visited (cell_number old.visited mark i) met.0 refl width_is in (
        omega (arith, cost, more),
        (omega (arith, ap (tasks_due table) met.1), omega (arith, ap tasks_size met.1)),
      )

  met_same : (m : Option ℕ) (n : ℕ) → IsMet old new i m (Some n)
      → (known_cost table new.visited ≡ known_cost table old.visited) × (last_first new.tasks.items ≡ last_first old.tasks.items)
  met_same None n met = absurd met
  met_same (Some mark) n met = (met.0.weight (cell_cost table), met.1.0)

  -- a state is followed that was not met before
  pub went_cost : IsArrival table old new q i None
      → (cost_of table q + known_cost table old.visited ≡ due table q + known_cost table new.visited)
      × ((tasks_due table (last_first new.tasks.items) ≡ tasks_due table (last_first old.tasks.items))
      × (tasks_size (last_first new.tasks.items) ≤ tasks_size (last_first old.tasks.items) + 1))
  went_cost arrival = met_less (mark_of table q) refl arrival

  pub found_cost : (n : ℕ) → IsArrival table old new q i (Some n)
      → (known_cost table new.visited ≡ known_cost table old.visited) × (last_first new.tasks.items ≡ last_first old.tasks.items)
  found_cost n arrival = met_same (mark_of table q) n arrival

met_tasks : (table : PartTable) (text : List ℕ) (base dear : ℕ) (old new : WalkMemory) (i : ℕ) (m : Option ℕ) → IsMet old new i m None
    → AllTasksWithin table text base dear (last_first old.tasks.items) → AllTasksWithin table text base dear (last_first new.tasks.items)
met_tasks table text base dear old new i None met h = subst (AllTasksWithin table text base dear) (sym met.1) h
met_tasks table text base dear old new i (Some mark) met h = subst (AllTasksWithin table text base dear) (sym met.1) (tt, h)

pub went_within : (table : PartTable) (text : List ℕ) (base dear : ℕ) (old new : WalkMemory) (q i : ℕ) → IsArrival table old new q i None
    → AllTasksWithin table text base dear (last_first old.tasks.items) → AllTasksWithin table text base dear (last_first new.tasks.items)
went_within table text base dear old new q i arrival h = met_tasks table text base dear old new i (mark_of table q) arrival h

pub due_first : (table : PartTable) (x : WalkTask) (rest : List WalkTask) → tasks_due table (x ∷ rest) ≡ task_due table x + tasks_due table rest
unfolding tasks_due
due_first table x rest = refl

pub size_first : (x : WalkTask) (rest : List WalkTask) → tasks_size (x ∷ rest) ≡ task_size x + tasks_size rest
unfolding tasks_size
size_first x rest = refl

pub due_none : (table : PartTable) → tasks_due table [] ≡ 0
unfolding tasks_due
due_none table = refl

module _ (table : PartTable) (text : List ℕ) (base dear : ℕ) where
  within_both : (xs ys : List WalkTask) → AllTasksWithin table text base dear xs → AllTasksWithin table text base dear ys
      → AllTasksWithin table text base dear (xs ++ ys)
  within_both [] ys h k = k
  within_both (x ∷ xs) ys h k = (h.0, within_both xs ys h.1 k)

  branch_within : (one two at : ℕ) (end : Option ℕ) → IsFollowed table text base dear one at → IsFollowed table text base dear two at
      → IsFollowed table text base dear (branch_of one two end) at
  branch_within one two at None h k = k
  branch_within one two at (Some e) h k = h

  group_within : (part same moved at : ℕ) (end : Option ℕ) → IsFollowed table text base dear part at → IsFollowed table text base dear same at
      → ((e : ℕ) → at < e → IsCharBoundary text e → IsFollowed table text base dear moved e) → IfSome end (IsPlace text base)
      → AllTasksWithin table text base dear (group_tasks part same moved at end)
  group_within part same moved at None h s m place = tt
  group_within part same moved at (Some e) h s m place = (picked_within (nat_lt at e) (λ yes. ltb-true at e yes), (h, tt))
    where
      picked_within : (b : Bool) → (b ≡ true → at < e) → IsFollowed table text base dear (if b then moved else same) (if b then e else at)
      picked_within true order = m e (order refl) place.boundary
      picked_within false order = s

  module _ (small : length text < 2 ^ 63) (state : State) (at : ℕ) (led : IsLedInReach table text base state at)
    where
      -- a state that this one leads to, at the place or a later one
      followed : (next j : ℕ) → next < length table.states.items → reach_of table next ≤ needed_reach_of table state → at ≤ j → IsCharBoundary text j
          → due table next ≤ dear → IsFollowed table text base dear next j
      followed next j names less later boundary cheap = record {
        reached = record { state = names; boundary = boundary; low = omega (arith, led.low, less, later) };
        cheap = cheap;
      }

      -- and at the place itself
      on : (next : ℕ) → next < length table.states.items → reach_of table next ≤ needed_reach_of table state → due table next ≤ dear
          → IsFollowed table text base dear next at
      on next names less cheap = followed next at names less (omega arith) led.boundary cheap

      read_within : (next : ℕ) (after : Option ℕ) → next < length table.states.items → reach_of table next ≤ needed_reach_of table state → due table next ≤ dear
          → IfSome after (λ c. IsCharBoundary text (at + len_utf8 c)) → AllTasksWithin table text base dear (read_tasks next at after)
      read_within next None names less cheap b = tt
      read_within next (Some c) names less cheap b = (followed next (at + len_utf8 c) names less (omega arith) b cheap, tt)

      back_within : (next : ℕ) (before : Option ℕ) → next < length table.states.items
          → min (reach_of table next + 1) (2 ^ 64 - 1) ≤ needed_reach_of table state → due table next ≤ dear
          → IfSome before (IsPrior text at) → AllTasksWithin table text base dear (back_tasks next at before)
      back_within next None names less cheap prior = tt
      back_within next (Some c) names less cheap prior = (
        record {
          reached = record { state = names; boundary = prior.0; low = omega (arith, led.low, less, prior.1, prior.2, small, led.boundary.0) };
          cheap = cheap;
        },
        tt,
      )

  -- what is left is of the text
  tasks_within : (small : length text < 2 ^ 63) (state : State) (at : ℕ) (before after end : Option ℕ) → IsLedInReach table text base state at
      → owed table state ≤ dear → IfSome before (IsPrior text at)
      → IfSome after (λ c. IsCharBoundary text (at + len_utf8 c)) → IfSome end (IsPlace text base)
      → AllTasksWithin table text base dear (tasks_at state at before after end)
  tasks_within small (S.Read leaf next) at before after end led cheap prior b ends =
      read_within small (S.Read leaf next) at led next after led.names (omega arith) cheap b
  tasks_within small (S.Look check next) at before after end led cheap prior b ends =
      (on small (S.Look check next) at led next led.names (omega arith) cheap, tt)
  tasks_within small (S.Back next) at before after end led cheap prior b ends =
      back_within small (S.Back next) at led next before led.names (omega arith) cheap prior
  tasks_within small (Split one two) at before after end led cheap prior b ends =
      let here = on small (Split one two) at led in
      (branch_within one two at end (here one led.names.0 (omega arith) (omega (arith, cheap))) (here two led.names.1 (omega arith) (omega (arith, cheap))), tt)
  tasks_within small (Enter g next) at before after end led cheap prior b ends =
      (on small (Enter g next) at led next led.names (omega arith) cheap, (led.boundary.0, tt))
  tasks_within small (Leave g next) at before after end led cheap prior b ends =
      (on small (Leave g next) at led next led.names (omega arith) cheap, (led.boundary.0, tt))
  tasks_within small (Ask part false next) at before after end led cheap prior b ends =
      let here = on small (Ask part false next) at led in
      (here next led.names.1 (omega arith) (omega (arith, cheap)), (here part led.names.0 (omega arith) (omega (arith, cheap)), tt))
  tasks_within small (Ask part true next) at before after end led cheap prior b ends =
      (on small (Ask part true next) at led next led.names.1 (omega arith) (omega (arith, cheap)), tt)
  tasks_within small (Atomic part same moved) at before after end led cheap prior b ends =
      let state : State = Atomic part same moved in
      group_within part same moved at end (on small state at led part led.names.0 (omega arith) (omega (arith, cheap)))
      (on small state at led same led.names.1 (omega arith) (omega (arith, cheap)))
      (λ e later place. followed small state at led moved e led.names.2 (omega arith) (omega (arith, later)) place (omega (arith, cheap))) ends
  tasks_within small Match at before after end led cheap prior b ends = tt

module _ (table : PartTable) where
  due_both : (xs ys : List WalkTask) → tasks_due table (xs ++ ys) ≡ tasks_due table xs + tasks_due table ys
  unfolding tasks_due
  due_both [] ys = omega arith
  due_both (x ∷ xs) ys = omega (arith, due_both xs ys)

  size_both : (xs ys : List WalkTask) → tasks_size (xs ++ ys) ≡ tasks_size xs + tasks_size ys
  unfolding tasks_size
  size_both [] ys = omega arith
  size_both (x ∷ xs) ys = omega (arith, size_both xs ys)

  read_due : (next at : ℕ) (after : Option ℕ) → (tasks_due table (read_tasks next at after) ≤ due table next) × (tasks_size (read_tasks next at after) ≤ 4)
  unfolding tasks_due tasks_size
  read_due next at None = (omega arith, omega arith)
  read_due next at (Some c) = (omega arith, omega arith)

  back_due : (next at : ℕ) (before : Option ℕ) → (tasks_due table (back_tasks next at before) ≤ due table next) × (tasks_size (back_tasks next at before) ≤ 4)
  unfolding tasks_due tasks_size
  back_due next at None = (omega arith, omega arith)
  back_due next at (Some c) = (omega arith, omega arith)

  branch_due : (one two : ℕ) (end : Option ℕ) → due table (branch_of one two end) ≤ due table one + due table two
  branch_due one two None = omega arith
  branch_due one two (Some e) = omega arith

  pick_due : (b : Bool) (same moved : ℕ) → due table (if b then moved else same) ≤ max (due table same) (due table moved)
  pick_due true same moved = omega arith
  pick_due false same moved = omega arith

  group_due : (part same moved at : ℕ) (end : Option ℕ)
      → (tasks_due table (group_tasks part same moved at end) ≤ due table part + max (due table same) (due table moved))
      × (tasks_size (group_tasks part same moved at end) ≤ 4)
  unfolding tasks_due tasks_size
  group_due part same moved at None = (omega arith, omega arith)
  group_due part same moved at (Some e) = (omega (arith, pick_due (nat_lt at e) same moved), omega arith)

  -- what is due for what is left is owed at the state
  at_due : (state : State) (at : ℕ) (before after end : Option ℕ)
      → (tasks_due table (tasks_at state at before after end) ≤ owed table state) × (tasks_size (tasks_at state at before after end) ≤ 4)
  unfolding tasks_due tasks_size
  at_due (S.Read leaf next) at before after end = read_due next at after
  at_due (S.Look check next) at before after end = (omega arith, omega arith)
  at_due (S.Back next) at before after end = back_due next at before
  at_due (Split one two) at before after end = (omega (arith, branch_due one two end), omega arith)
  at_due (Enter g next) at before after end = (omega arith, omega arith)
  at_due (Leave g next) at before after end = (omega arith, omega arith)
  at_due (Ask part false next) at before after end = (omega arith, omega arith)
  at_due (Ask part true next) at before after end = (omega arith, omega arith)
  at_due (Atomic part same moved) at before after end = group_due part same moved at end
  at_due Match at before after end = (omega arith, omega arith)

  pub left_at : (text : List ℕ) (base q at : ℕ) (state : State) (before after end : Option ℕ) (rest : List WalkTask) → IsTable table → length text < 2 ^ 63
      → IsInReach table text base q at → state ≡ state_at table.states.items q → IfSome before (IsPrior text at)
      → IfSome after (λ c. IsCharBoundary text (at + len_utf8 c)) → IfSome end (IsPlace text base)
      → AreLeft table text base q at rest (tasks_at state at before after end ++ rest)
  left_at text base q at state before after end rest all small reach is prior b ends =
      let dues = at_due state at before after end in
      let owes : owed table state ≡ owed table (state_at table.states.items q) = ap (owed table) is in
      record {
        within = λ dear cheap old.
            within_both table text base dear (tasks_at state at before after end) rest
            (tasks_within table text base dear small state at before after end (leads_in_reach table text base q at state all reach is)
            (omega (arith, owes, cheap)) prior b ends) old;
        due_is = omega (arith, due_both (tasks_at state at before after end) rest, dues.0, owes);
        few = omega (arith, size_both (tasks_at state at before after end) rest, dues.1);
      }

module _ (table : PartTable) (entry : ℕ) where
  pub entry_cheap : due table entry ≤ dearest table entry
  unfolding dearest
  entry_cheap = omega arith

  pub most_cheap : table.most ≤ dearest table entry
  unfolding dearest
  most_cheap = omega arith

module _ (table : PartTable) (dear : ℕ) (most : table.most ≤ dear) (q : ℕ) (right : IsRightAt table q) (cheap : due table q ≤ dear) where
  by_mark : (m : Option ℕ) → mark_of table q ≡ m → cost_of table q ≤ dear
  by_mark None is = let cost = ap (λ (o : Option ℕ). due_of o (cost_of table q)) is in omega (arith, cost, cheap)
  by_mark (Some mark) is = let below = (right.marked mark is).2 in omega (arith, below, most)

  -- what a step takes, and what is due after it
  pub cost_cheap : cost_of table q ≤ dear
  cost_cheap = by_mark (mark_of table q) refl

  pub owed_cheap : owed table (state_at table.states.items q) ≤ dear
  owed_cheap = omega (arith, cost_cheap, right.paid)

-- one step less
pub one_less : (cost before after : ℕ) → after < before → cost * after + cost ≤ cost * before
one_less cost before after less =
    let more : cost * (after + 1) ≤ cost * before = mul-le-mul_left cost (omega arith) in
    omega (arith, more)

pub no_more : (cost before after : ℕ) → after ≤ before → cost * after ≤ cost * before
no_more cost before after le = mul-le-mul_left cost le

pub trace_by : (context : PartContext) (text : List ℕ) (view : View) (go : ℕ → Continuation) → IsTried context text view go → (q i : ℕ)
    → q < length context.table.now.states.items → i ≤ length text → (t : Trace) → (go q i).answer ≡ Some t → AllBy (length text) t.writes
trace_by context text view go tried q i low le t is =
    subst (λ (o : Option Trace). AllBy (length text) (trace_writes o)) is (writes_by context text view go tried q i low le)

-- before the first step
pub begins : (go : ℕ → Continuation) (heads : List ℕ) (base : ℕ) (writes : List Write) (visited : Recall) (entry start : ℕ) (t : Trace)
    → (go entry start).answer ≡ Some t → AreWritten go heads base writes visited []
    → IsWalking go heads base writes visited (Follow entry start ∷ []) 0 t.writes
begins go heads base writes visited entry start t is known = record {
  leads = (subst HasTrace (sym is) tt, (tt, same_by _ _ (ap trace_writes is)));
  cells = record { opened = known.opened; known = known.known };
}

-- a task that is left may be done
pub task_at : (table : PartTable) (text : List ℕ) (base dear : ℕ) (x : WalkTask) → IsTaskOf table text base dear x → IsAt table text base x
task_at table text base dear (Follow q i) h = h.reached
task_at table text base dear (Part q i) h = h.reached
task_at table text base dear (Join n) h = tt
task_at table text base dear (Keep k) h = tt
task_at table text base dear (Start g i) h = tt
task_at table text base dear (End g i) h = tt

-- the lists that are not kept are dropped
module _ (table : PartTable) (len base : ℕ) (walked new : WalkMemory) (within : IsWalkedIn table len base walked) (same : new.visited ≡ walked.visited)
    (held : new.lists.held ≡ walked.lists.held)
    (lists : (k : ℕ) → k ≤ walked.lists.held → list_of new.lists.writes.items k ≡ list_of walked.lists.writes.items k) where
  pub dropped_within : (walked.lists.held ≤ length walked.lists.writes.items → new.lists.held ≤ length new.lists.writes.items) → IsWalkedIn table len base new
  dropped_within there = record {
    width = ap (λ (r : Recall). r.width) same ∙ within.width;
    base_is = ap (λ (r : Recall). r.base) same ∙ within.base_is;
    rows = omega (arith, ap (λ (r : Recall). r.rows) same, within.rows);
    lists = λ k n at. let low = within.lists k n (sym (ap (λ (r : Recall). cell r k) same) ∙ at) in omega (arith, held, low);
    held = there within.held;
  }

  pub dropped_written : (go : ℕ → Continuation) (heads : List ℕ) → AreWalked go heads walked → AreWalked go heads new
  dropped_written go heads h =
      subst (λ (r : Recall). AreWritten go heads r.base new.lists.writes.items r []) (sym same)
      (record {
        opened = h.opened;
        known = λ k n at.
            subst (λ (l : List (ℕ × ℕ)). SameWrites l (cell_writes go heads walked.visited.base k)) (sym (lists n (within.lists k n at))) (h.known k n at);
      })

-- a way is there
pub has_trace : {P : Type 0} (a : Option Trace) → HasTrace a → ((t : Trace) → a ≡ Some t → P) → P
has_trace None h f = absurd h
has_trace (Some t) h f = f t refl
