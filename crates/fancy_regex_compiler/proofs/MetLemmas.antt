-- Bodies that are needed, and what is let through where all of them are there.
use Rattle.std.proofs.Common.{◌≡◌, ℕ, zero, suc, ◌+◌, ◌<◌, Bool, true, false, ⊎_elim, List, [], ◌∷◌, ◌++◌, length, map, Some, Ok, Err, Result, IsErrAnd, refl, sym, ap, subst, ◌∙◌, arith, append_assoc}
use Rattle.std.specs.Prelude.{slice_get, option_map, ◌==◌}
use Rattle.std.specs.List.{Contains}
use Rattle.std.specs.Borrow.{Bor}
use Rattle.std.proofs.lemmas.Option.{slice_get-map, slice_get_within, slice_get_read, get_or_from_slice_get, same_Some}
use Rattle.std.proofs.lemmas.Bool.Decides.{nat_tests}
use Rattle.std.proofs.lemmas.List.Elements.{Contains-append_left, Contains-append_cases}
use Rattle.fancy_regex_info.specs.Infos.{InfoTree, info_of}
use Rattle.fancy_regex_info.specs.declared.error.CompileError.{CompileError}
use Rattle.fancy_regex_info.specs.declared.info.Info.{Info}
use Rattle.fancy_regex_compiler.specs.Kept.{pattern_at, scope_for, Stays, NeedStands, IsBodyLetThrough, MeetsNeed, IsMet, IsMetUnder, IsNeededBody}
use Rattle.fancy_regex_compiler.specs.Needs.{AreAmong, AreOfGroups, AreStanding, Notes}
use Rattle.fancy_regex_compiler.specs.Refusals.{TreeContext, IsAnalyzed, IsExpandedPart, IsReason}
use Rattle.fancy_regex_compiler.specs.Tasks.{node_pattern, IsLetThrough, EmitsAll}
use Rattle.fancy_regex_compiler.specs.Writing.{info_at, infos_of}
use Rattle.fancy_regex_compiler.specs.declared.calls.Bodies.{Bodies}
use Rattle.fancy_regex_compiler.specs.declared.calls.Body.{Body}
use Rattle.fancy_regex_compiler.specs.declared.emitter.CompileContext.{CompileContext}
use Rattle.fancy_regex_compiler.specs.declared.emitter.Emitter.{Emitter}
use Rattle.fancy_regex_compiler.specs.declared.emitter.Need.{Need}
use Rattle.fancy_regex_compiler.specs.declared.emitter.Scope.{Scope}
use Rattle.fancy_regex_compiler.proofs.AddedBodies.{called_is, pattern_is}

-- what is known of a group
pub info_there : (groups : List (Bor Info)) (k : ℕ) (x : Bor Info) → k < length groups → slice_get groups k ≡ Some x →
    slice_get (map info_at groups) k ≡ Some (info_of x.now)
info_there groups k x low at = slice_get-map info_at groups k ∙ ap (option_map info_at) at

-- where a body stands
abbrev Emitted : CompileContext → Info → Scope → List ℕ → Emitter → Emitter → ℕ → Result ℕ CompileError → Type 0
Emitted context i scope opened old new slot result =
    EmitsAll context (node_pattern context i false scope opened) scope.may_keep
    (λ tree_context. IsExpandedPart tree_context scope.may_keep scope.may_be_absent false (info_of i)) old new slot result

module _ (context : CompileContext) (need : Need) (i : Info) (at : slice_get (infos_of context) need.group ≡ Some (info_of i)) (opened : List ℕ) (none : opened ≡ []) where
  pub body_pattern : node_pattern context i false (scope_for context need) opened ≡ pattern_at (infos_of context) need.group
  body_pattern = called_is (infos_of context) opened (info_of i) none ∙ sym (pattern_is (infos_of context) need.group (info_of i) at)

  module _ {A : Type 0} (start old mid new : Emitter) (scope : Scope) (slot : ℕ) (is : scope ≡ scope_for context need) (begins : old.needs.list.items ≡ start.needs.list.items)
      (same_calls : old.opened.items ≡ start.opened.items) (shut : new.opened.items ≡ mid.opened.items) (same : new.needs.list.items ≡ mid.needs.list.items) where
    pub met_ok : (after : ℕ) (a : A) → Emitted context i scope opened old mid slot (Ok after) → MeetsNeed context need start new (Ok a)
    met_ok after a emitted =
        let h = subst (λ s. Emitted context i s opened old mid slot (Ok after)) is emitted in
        record {
          opened = shut ∙ h.wrote.opened ∙ same_calls;
          allowed = λ all among stays. subst (λ q. IsLetThrough context need.may_keep q all) body_pattern (h.allowed all (λ n c. among n (subst (λ l. Contains l n) (sym same) c)));
          notes = record {
            more = h.notes.more;
            are = same ∙ h.notes.are ∙ ap (λ l. l ++ h.notes.more) begins;
            groups = h.notes.groups;
            stand = λ tree_context analyzed stands. h.notes.stand tree_context analyzed (stands.body (info_of i) at);
          };
          refused = tt;
        }

    pub met_err : (r : Result A CompileError) (e : CompileError) → IsErrAnd r (λ f. f ≡ e) → Emitted context i scope opened old mid slot (Err e) → MeetsNeed context need start new r
    met_err (Ok a) e none emitted = absurd none
    met_err (Err f) e told emitted =
        let h = subst (λ s. Emitted context i s opened old mid slot (Err e)) is emitted in
        record {
          allowed = tt;
          opened = tt;
          notes = tt;
          refused = subst (λ g. (tree_context : TreeContext) → IsAnalyzed tree_context (infos_of context) → NeedStands context need tree_context →
              IsReason context.unicode tree_context.groups tree_context.root g) (sym told) (λ tree_context analyzed stands. h.refused tree_context analyzed (stands.body (info_of i) at));
        }

-- elements of a longer list
got_within : {A : Type 0} (xs ys : List A) (i : ℕ) → i < length xs → slice_get (xs ++ ys) i ≡ slice_get xs i
got_within [] ys i low = absurd (omega (arith, low))
got_within (x ∷ xs) ys zero low = refl
got_within (x ∷ xs) ys (suc i) low = got_within xs ys i (omega (arith, low))

pub contains_at : {A : Type 0} (xs : List A) (i : ℕ) (x : A) → slice_get xs i ≡ Some x → Contains xs x
contains_at xs i x at = (i, slice_get_within xs i x at, get_or_from_slice_get xs i x x at)

pub at_contained : {A : Type 0} (xs : List A) (x : A) → (c : Contains xs x) → slice_get xs c.0 ≡ Some x
at_contained xs x c = slice_get_read xs (length xs) c.0 x refl c.1 (sym c.2)

-- needs where there was none before
noted : (infos : List InfoTree) (start needs : List Need) (S : TreeContext → Type 0) → start ≡ [] → (notes : Notes infos start needs S) → needs ≡ notes.more
noted infos start needs S none notes = notes.are ∙ ap (λ l. l ++ notes.more) none

pub noted_groups : (infos : List InfoTree) (start needs : List Need) (S : TreeContext → Type 0) → start ≡ [] → Notes infos start needs S → AreOfGroups (length infos) needs
noted_groups infos start needs S none notes n there = notes.groups n (subst (λ l. Contains l n) (noted infos start needs S none notes) there)

pub noted_stand : (infos : List InfoTree) (start needs : List Need) (S : TreeContext → Type 0) → start ≡ [] → Notes infos start needs S → (tree_context : TreeContext) →
    IsAnalyzed tree_context infos → S tree_context → AreStanding tree_context infos needs
noted_stand infos start needs S none notes tree_context analyzed stand n there =
    notes.stand tree_context analyzed stand n (subst (λ l. Contains l n) (noted infos start needs S none notes) there)

-- The needs so far, of which the one at `done` is met next.
module _ (context : CompileContext) (start needs : List Need) (of_groups : AreOfGroups (length (infos_of context)) start)
    (notes : Notes (infos_of context) start needs (λ tree_context. AreStanding tree_context (infos_of context) start)) where
  -- each is of a group
  pub need_group : (n : Need) → Contains needs n → n.group < length (infos_of context)
  need_group n c = ⊎_elim (λ first. of_groups n first) (λ later. notes.groups n later) (Contains-append_cases start notes.more n (subst (λ l. Contains l n) notes.are c))

  pub need_stands : (n : Need) → Contains needs n → (tree_context : TreeContext) → IsAnalyzed tree_context (infos_of context) →
      AreStanding tree_context (infos_of context) start → NeedStands context n tree_context
  need_stands n c tree_context analyzed stand =
      ⊎_elim (λ first. stand n first) (λ later. notes.stand tree_context analyzed stand n later) (Contains-append_cases start notes.more n (subst (λ l. Contains l n) notes.are c))

  pub still_among : AreAmong start needs
  still_among n c = subst (λ l. Contains l n) (sym notes.are) (Contains-append_left start notes.more n c)

  module _ (new : List Need) (done : ℕ) (need : Need) (at : slice_get needs done ≡ Some need) (met : Notes (infos_of context) needs new (NeedStands context need)) where
    pub needs_now : Notes (infos_of context) start new (λ tree_context. AreStanding tree_context (infos_of context) start)
    needs_now = record {
      more = notes.more ++ met.more;
      are = met.are ∙ ap (λ l. l ++ met.more) notes.are ∙ append_assoc start notes.more met.more;
      groups = λ n c. ⊎_elim (λ first. notes.groups n first) (λ later. met.groups n later) (Contains-append_cases notes.more met.more n c);
      stand = λ tree_context analyzed stand n c.
          ⊎_elim (λ first. notes.stand tree_context analyzed stand n first)
          (λ later. met.stand tree_context analyzed (need_stands need (contains_at needs done need at) tree_context analyzed stand) n later)
          (Contains-append_cases notes.more met.more n c);
    }

    pub met_now : (old_bodies new_bodies : Bodies) →
        ((all : List Need) → AreAmong needs all → (i : ℕ) (n : Need) → i < done → slice_get needs i ≡ Some n → IsMetUnder context old_bodies all n) →
        IsMet context old_bodies new_bodies need → ((all : List Need) → AreAmong new all → Stays context need.group → IsBodyLetThrough context need all) →
        (all : List Need) → AreAmong new all → (i : ℕ) (n : Need) → i < done + 1 → slice_get new i ≡ Some n → IsMetUnder context new_bodies all n
    met_now old_bodies new_bodies before is allowed all among i n low there = choose (i == done) refl
      where
        here : slice_get needs i ≡ Some n
        here =
            let inside : i < length needs = let last = slice_get_within needs done need at in omega (arith, last, low) in
            sym (got_within needs met.more i inside) ∙ ap (λ l. slice_get l i) (sym met.are) ∙ there

        choose : (t : Bool) → t ≡ (i == done) → IsMetUnder context new_bodies all n
        choose true e =
            let same : i ≡ done = grind (arith, nat_tests) in
            let it : need ≡ n = same_Some need n (sym at ∙ ap (slice_get needs) (sym same) ∙ here) in
            subst (IsMetUnder context new_bodies all) it (record { marked = is.it; allowed = allowed all among })
        choose false e =
            let less : i < done = grind (arith, nat_tests) in
            let h = before all (λ m c. among m (subst (λ l. Contains l m) (sym met.are) (Contains-append_left needs met.more m c))) i n less here in
            record { marked = λ stays. is.others n.group (h.marked stays); allowed = h.allowed }

    pub needed_now : (old_bodies new_bodies : Bodies) → IsMet context old_bodies new_bodies need →
        ((b : Body) → Contains old_bodies.list.items b → IsNeededBody needs b) → (b : Body) → Contains new_bodies.list.items b → IsNeededBody new b
    needed_now old_bodies new_bodies is before b there =
        let later : (n : Need) → Contains needs n → Contains new n = λ n c. subst (λ l. Contains l n) (sym met.are) (Contains-append_left needs met.more n c) in
        ⊎_elim (λ old. let h = before b old in record { need = h.need; there = later h.need h.there; group = h.group })
        (λ this. record { need = need; there = later need (contains_at needs done need at); group = this }) (is.only b there)
