-- A program whose calls stay, once its bodies are written and its calls lead to them.
use Rattle.std.proofs.Common.{◌≡◌, ℕ, zero, suc, ◌+◌, ◌*◌, ◌<◌, ◌≤◌, Bool, true, true≢false, List, [], ◌∷◌, ◌++◌, length, map, Option, Some, None, refl, sym, ap, subst, ◌∙◌, arith, append_assoc}
use Rattle.std.specs.Prelude.{All, slice_get, option_map, is_some}
use Rattle.std.specs.List.{Contains}
use Rattle.std.specs.declared.alloc.Global.{Global}
use Rattle.std.specs.declared.sync.Arc.{Arc}
use Rattle.std.proofs.lemmas.List.{length-map}
use Rattle.std.proofs.lemmas.List.Elements.{All-map, All-weaker, All-contains, All-contains_itself}
use Rattle.std.proofs.lemmas.Option.{none-some, same_Some, slice_get-map}
use Rattle.fancy_regex_class.specs.Classes.{in_class, folded}
use Rattle.fancy_regex_desugar.specs.CorePatterns.{CorePattern}
use Rattle.fancy_regex_info.specs.Infos.{InfoTree}
use Rattle.fancy_regex_program.specs.Assembled as assembled
use Rattle.fancy_regex_program.specs.Assembled.{resolved, IsDraftOf, IsDrafted, IsDraftedBody, IsPlaceOf, IsMadeOf, IsAssembled, AreDistinct, AreDrafts, stretches, StandFrom}
use Rattle.fancy_regex_program.specs.Code.{Layout, slots_with}
use Rattle.fancy_regex_program.specs.Layouts.{AreApart, CallsAreLaidOut, main_code}
use Rattle.fancy_regex_program.specs.Ops as op
use Rattle.fancy_regex_program.specs.Ops.{Op, Place, ops_of}
use Rattle.fancy_regex_program.specs.Shapes.{IsAllowed}
use Rattle.fancy_regex_program.specs.declared.insn.Callee.{Callee}
use Rattle.fancy_regex_program.specs.declared.insn.Insn.{Insn}
use Rattle.fancy_regex_program.proofs.Resolved.{resolved_made, resolved_slots}
use Rattle.fancy_regex_compiler.specs.Kept.{pattern_at, with_pattern, bodies_of, HasBodies, IsMain, IsMetUnder, IsNeededBody, ArePlaces, IsBodyIn, KeepsCallsOf}
use Rattle.fancy_regex_compiler.specs.Known.{pat_with}
use Rattle.fancy_regex_compiler.specs.Inlined.{is_inlined, AreInlined, AreNamed}
use Rattle.fancy_regex_compiler.specs.Needs.{IsAllowedUnder}
use Rattle.fancy_regex_compiler.specs.Tasks.{IsLetThrough}
use Rattle.fancy_regex_compiler.specs.Inlined.{draft_place, drafted_place, layout_in}
use Rattle.fancy_regex_compiler.specs.Writing.{Draft, with_op, info_at, infos_of, layout_of}
use Rattle.fancy_regex_compiler.specs.declared.calls.Bodies.{Bodies}
use Rattle.fancy_regex_compiler.specs.declared.calls.Body.{Body}
use Rattle.fancy_regex_compiler.specs.declared.emitter.CompileContext.{CompileContext}
use Rattle.fancy_regex_compiler.specs.declared.emitter.Need.{Need}
use Rattle.fancy_regex_compiler.proofs.AddedBodies.{pattern_is}
use Rattle.fancy_regex_compiler.proofs.MetLemmas.{contains_at, at_contained}
use Rattle.fancy_regex_compiler.proofs.InlinedDrafts.{whole_has_drafts, body_has_drafts}
use Rattle.fancy_regex_compiler.proofs.InlinedLemmas.{inlined_leads, room_at_first}
use Rattle.fancy_regex_compiler.proofs.NeedLemmas.{only_inlined, inlined_none}
use Rattle.fancy_regex_compiler.proofs.NeedsMet.{allowed_by_needs, calls_laid_out, body_is_allowed}
use Rattle.fancy_regex_compiler.proofs.StackLemmas.{stacked_at, stacked_on}

-- an element of a list that is long enough
record Found {A : Type 0} (xs : List A) (k : ℕ) : Type 0 where
  it : A
  at : slice_get xs k ≡ Some it

found : {A : Type 0} (xs : List A) (k : ℕ) → k < length xs → Found xs k
found [] k low = absurd (omega (arith, low))
found (x ∷ xs) zero low = record { it = x; at = refl }
found (x ∷ xs) (suc k) low = let f = found xs k (omega (arith, low)) in record { it = f.it; at = f.at }

-- what a value is made of
record MadeBy {A B : Type 0} (f : A → B) (o : Option A) (y : B) : Type 0 where
  it : A
  at : o ≡ Some it
  is : f it ≡ y

made_by : {A B : Type 0} (f : A → B) (o : Option A) (y : B) → option_map f o ≡ Some y → MadeBy f o y
made_by f None y is = absurd (none-some y is)
made_by f (Some x) y is = record { it = x; at = refl; is = same_Some (f x) y is }

is_draft : (k : ℕ) (o p : Option Place) → is_some o ≡ true → is_some p ≡ true → ((c : Place) → o ≡ Some c → c.start ≡ k) → IsDraftOf k o p ⊥
is_draft k None p so sp named = absurd (true≢false (sym so))
is_draft k (Some c) None so sp named = absurd (true≢false (sym sp))
is_draft k (Some c) (Some d) so sp named = named c refl

some_is : (o : Option Place) (c : Place) → o ≡ Some c → is_some o ≡ true
some_is o c e = ap is_some e

-- which value stands there
record Shown (o : Option Place) : Type 0 where
  place : Place
  is : o ≡ Some place

shown : (o : Option Place) → is_some o ≡ true → Shown o
shown None s = absurd (true≢false (sym s))
shown (Some c) s = record { place = c; is = refl }

drafts_named : (drafts : List (Option (Arc Callee Global))) → AreNamed drafts → (k : ℕ) (c : Place) → layout_in drafts k ≡ Some c → c.start ≡ k
drafts_named [] named k c is = absurd (none-some c is)
drafts_named (d ∷ ds) named k c is = at (slice_get (d ∷ ds) k) refl
  where
    at : (o : Option (Option (Arc Callee Global))) → slice_get (d ∷ ds) k ≡ o → c.start ≡ k
    at None e = ap (λ (p : Place). p.start) (sym (same_Some _ c (sym (ap (drafted_place k) e) ∙ is)))
    at (Some None) e = absurd (none-some c (sym (ap (drafted_place k) e) ∙ is))
    at (Some (Some draft)) e = ap (λ (p : Place). p.start) (sym (same_Some (draft_place draft) c (sym (ap (drafted_place k) e) ∙ is))) ∙ named k draft e

regroup : (a b c : List Op) → (a ++ b) ++ c ≡ a ++ (b ++ c)
regroup a b c = append_assoc a b c

module _ (context : CompileContext) (x : InfoTree) (anchored : Bool) (slot : ℕ) (d0 d1 d2 : Draft) (bodies : Bodies) (all : List Need) (table : Layout) (end : ℕ)
    (insns : List Insn) (are : AreInlined (infos_of context) context.inlined.now.rooms.items context.inlined.now.known) (some : 0 < length context.groups.now.items) (drafted : length context.drafts.now.items ≡ length context.groups.now.items)
    (main : IsMain context x anchored d0 slot) (written : HasBodies context d0.ops slot d1 bodies) (ended : d2 ≡ with_op op.finish d1)
    (met : (n : Need) → Contains all n → IsMetUnder context bodies all n) (needed : (b : Body) → Contains bodies.list.items b → IsNeededBody all b)
    (main_allowed : IsLetThrough context true (pat_with (infos_of context) x) all)
    (places : ArePlaces bodies.list.items slot bodies.end (length bodies.list.items) table end)
    (insns_are : ops_of insns ≡ map (resolved table) d2.ops) where
  abbrev infos : List InfoTree
  infos = infos_of context

  abbrev L : Layout
  L = layout_of context

  abbrev list : List Body
  list = bodies.list.items

  abbrev u : Bool
  u = context.unicode

  abbrev pattern : CorePattern
  pattern = pat_with infos x

  counted : length infos ≡ length context.groups.now.items
  counted = length-map context.groups.now.items info_at

  abbrev rooms : List (Option ℕ)
  rooms = context.inlined.now.rooms.items

  abbrev known : ℕ
  known = context.inlined.now.known

  many : 0 < length context.drafts.now.items
  many = omega (arith, some, drafted)

  -- a call is written out only where its group is one of those, and there it is
  out : (k : ℕ) → L k ≡ None → is_inlined rooms k ≡ true
  out k none = only_inlined rooms context.drafts.now.items context.laid_out many k none

  none_out : (k : ℕ) → is_inlined rooms k ≡ true → L k ≡ None
  none_out k is =
      inlined_none rooms context.drafts.now.items context.laid_out k (λ none. absurd (omega (arith, none, many))) is

  -- each body has a place, and so has each group that is needed
  body_has : (b : Body) → Contains list b → is_some (table b.group) ≡ true
  body_has b there = places.covers there.0 b there.1 (at_contained list b there)

  group_has : (n : Need) → Contains all n → is_some (L n.group) ≡ true → is_some (table n.group) ≡ true
  group_has n there stays =
      let has = written.marked n.group ((met n there).marked stays) in
      subst (λ k. is_some (table k) ≡ true) has.group (body_has has.body has.there)

  body_in : (b : Body) → Contains list b → b.group < length infos
  body_in b there = All-contains (λ (v : Body). v.group < length infos) list b written.groups there

  body_stays : (b : Body) → Contains list b → is_some (L b.group) ≡ true
  body_stays b there = All-contains (λ (v : Body). is_some (L v.group) ≡ true) list b written.drafted there

  named : (k : ℕ) (c : Place) → L k ≡ Some c → c.start ≡ k
  named = drafts_named context.drafts.now.items context.are_named

  covers : (k : ℕ) → is_some (table k) ≡ true → is_some (L k) ≡ true
  covers k has =
      let s = shown (table k) has in
      let it = places.each k s.place s.is in
      subst (λ j. is_some (L j) ≡ true) it.group (body_stays it.body (contains_at list it.index it.body it.at))

  are_drafted : IsDrafted L table (is_inlined rooms)
  are_drafted = record { named = named; covers = covers; none = none_out }

  -- what is written out has no place
  none_placed : (k : ℕ) → is_inlined rooms k ≡ true → table k ≡ None
  none_placed k is = at (table k) refl
    where
      at : (o : Option Place) → table k ≡ o → table k ≡ None
      at None e = e
      at (Some c) e = absurd (true≢false (sym (covers k (ap is_some e)) ∙ ap is_some (none_out k is)))

  main_laid_out : CallsAreLaidOut table (is_inlined rooms) pattern
  main_laid_out = calls_laid_out L table all u rooms out group_has true pattern main_allowed

  -- a body is let through as the call that needs it
  body_under : (b : Body) (there : Contains list b) → IsLetThrough context (needed b there).need.may_keep (pattern_at infos b.group) all
  body_under b there =
      let n = needed b there in
      subst (λ k. IsLetThrough context n.need.may_keep (pattern_at infos k) all) n.group ((met n.need n.there).allowed (subst (λ k. is_some (L k) ≡ true) (sym n.group) (body_stays b there)))

  body_laid_out : (b : Body) → Contains list b → CallsAreLaidOut table (is_inlined rooms) (pattern_at infos b.group)
  body_laid_out b there = calls_laid_out L table all u rooms out group_has (needed b there).need.may_keep (pattern_at infos b.group) (body_under b there)

  met_under : (n : Need) → Contains all n → is_some (L n.group) ≡ true → IsAllowedUnder L all u n.may_keep (pattern_at infos n.group)
  met_under n there stays = (met n there).allowed stays

  body_allowed : (b : Body) (there : Contains list b) → IsAllowed u (needed b there).need.may_keep (pattern_at infos b.group)
  body_allowed b there =
      let f = found infos b.group (body_in b there) in
      let is = pattern_is infos b.group f.it f.at in
      let keeps = (needed b there).need.may_keep in
      subst (IsAllowed u keeps) (sym is)
      (body_is_allowed u L all infos rooms known are out met_under keeps f.it (subst (IsAllowedUnder L all u keeps) is (body_under b there)))

  each_in : All (IsBodyIn u table (is_inlined rooms) infos) (bodies_of infos list)
  each_in = All-map (IsBodyIn u table (is_inlined rooms) infos) (with_pattern infos) list
      (All-weaker (Contains list) (λ (b : Body). IsBodyIn u table (is_inlined rooms) infos (with_pattern infos b))
      (λ b there. record {
        group = body_in b there;
        pattern = refl;
        calls = body_laid_out b there;
        keeps = (needed b there).need.may_keep;
        allowed = body_allowed b there;
      })
      list (All-contains_itself list))

  body_drafted : (b : Body) → Contains list b → AreDrafts L table (pattern_at infos b.group)
  body_drafted b there =
      let f = found infos b.group (body_in b there) in
      let is = pattern_is infos b.group f.it f.at in
      subst (AreDrafts L table) (sym is)
      (body_has_drafts infos rooms known are L table are_drafted none_placed f.it
      (subst (CallsAreLaidOut table (is_inlined rooms)) is (body_laid_out b there)))

  each_drafted : All (IsDraftedBody L table) (bodies_of infos list)
  each_drafted = All-map (IsDraftedBody L table) (with_pattern infos) list
      (All-weaker (Contains list) (λ (b : Body). IsDraftedBody L table (with_pattern infos b))
      (λ b there. record {
        own = is_draft b.group (L b.group) (table b.group) (body_stays b there) (body_has b there) (named b.group);
        calls = body_drafted b there;
      })
      list (All-contains_itself list))

  main_drafted : AreDrafts L table pattern
  main_drafted = whole_has_drafts infos rooms known are L table are_drafted none_placed x main_laid_out

  abbrev MadeWith : Layout → List Op → Type 0
  MadeWith layout code = IsMadeOf (in_class u) (folded u) context.whole layout anchored (length infos) pattern (bodies_of infos list) code

  d0_is : d0.ops ≡ main_code (in_class u) (folded u) context.whole L anchored (length infos) pattern
  d0_is = ap (λ (d : Draft). d.ops) main.draft_is

  d2_is : d2.ops ≡ d0.ops ++ (stretches (in_class u) (folded u) context.whole L (bodies_of infos list) ++ op.finish ∷ [])
  unfolding with_op
  d2_is =
      ap (λ (d : Draft). d.ops) ended ∙ ap (λ l. l ++ op.finish ∷ []) written.ops
      ∙ regroup d0.ops (stretches (in_class u) (folded u) context.whole L (bodies_of infos list)) (op.finish ∷ [])

  made_drafts : MadeWith L d2.ops
  made_drafts = record {
    is = d2_is ∙ ap (λ l. l ++ (stretches (in_class u) (folded u) context.whole L (bodies_of infos list) ++ op.finish ∷ [])) d0_is;
    stand = subst (λ pc. StandFrom (in_class u) (folded u) context.whole L pc (bodies_of infos list)) (ap length d0_is) written.stand;
  }

  made : MadeWith table (ops_of insns)
  made = subst (MadeWith table) (sym insns_are)
      (resolved_made table (in_class u) (folded u) context.whole L anchored (length infos) pattern (bodies_of infos list) d2.ops made_drafts main_drafted each_drafted)

  each_place : (k : ℕ) (c : Place) → table k ≡ Some c → IsPlaceOf (bodies_of infos list) k c
  each_place k c is =
      let it = places.each k c is in
      record {
        index = it.index;
        body = with_pattern infos it.body;
        at = slice_get-map (with_pattern infos) list it.index ∙ ap (option_map (with_pattern infos)) it.at;
        group = it.group;
        start = it.start;
        first = it.first;
        own = it.own;
      }

  slot_is : slot ≡ 2 * length infos + slots_with table pattern
  slot_is = main.slots_are ∙ ap (λ n. 2 * length infos + n) (resolved_slots table (in_class u) (folded u) context.whole L pattern main_drafted)

  inside : All (λ (b : assembled.Body). b.first + b.own ≤ end) (bodies_of infos list)
  inside = All-map (λ (b : assembled.Body). b.first + b.own ≤ end) (with_pattern infos) list
      (All-weaker (Contains list) (λ (b : Body). b.first + b.own ≤ end)
      (λ b there. let at = stacked_at slot bodies.end list there.0 b written.stacked (at_contained list b there) in omega (arith, at.1, places.room)) list (All-contains_itself list))

  assembled_now : IsAssembled (in_class u) (folded u) context.whole table anchored (length infos) pattern (bodies_of infos list) (ops_of insns) end
  assembled_now = record {
    made = made;
    each = each_place;
    inside = inside;
    bodies_end = bodies.end;
    apart = subst (λ from. AreApart table from bodies.end end) slot_is places.apart;
    room = let low = stacked_on slot bodies.end list written.stacked in omega (arith, low, places.room, slot_is);
  }

  distinct_now : AreDistinct (bodies_of infos list)
  distinct_now i j b c at there same =
      let one = made_by (with_pattern infos) (slice_get list i) b (sym (slice_get-map (with_pattern infos) list i) ∙ at) in
      let two = made_by (with_pattern infos) (slice_get list j) c (sym (slice_get-map (with_pattern infos) list j) ∙ there) in
      written.distinct i j one.it two.it one.at two.at
      (ap (λ (v : assembled.Body). v.group) one.is ∙ same ∙ sym (ap (λ (v : assembled.Body). v.group) two.is))

  pub keeps_calls : KeepsCallsOf u context.whole anchored infos x insns end
  keeps_calls = record {
    layout = table;
    bodies = bodies_of infos list;
    code = assembled_now;
    is_written_out = is_inlined rooms;
    written_out = record {
      rank = are.rank;
      none = none_placed;
      leads = inlined_leads infos rooms known are;
      small = room_at_first infos rooms known are table none_placed;
    };
    calls = main_laid_out;
    each = each_in;
    distinct = distinct_now;
  }

  pub kept_allowed : IsAllowed u true pattern
  kept_allowed = allowed_by_needs u L all infos rooms known are out met_under x main_allowed
