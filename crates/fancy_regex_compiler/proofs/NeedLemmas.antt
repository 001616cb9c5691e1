-- Needs that are noted, and what is let through where they are met.
use Rattle.std.proofs.Common.{◌≡◌, ℕ, zero, suc, ◌<◌, Bool, true, false, not, ⊎_elim, List, [], ◌∷◌, ◌++◌, length, Option, None, Some, refl, sym, ap, ◌∙◌, subst, arith, append_assoc, append-nil}
use Rattle.std.specs.Prelude.{slice_get, option_map, is_some}
use Rattle.std.specs.List.{Contains}
use Rattle.std.specs.declared.alloc.Global.{Global}
use Rattle.std.specs.declared.sync.Arc.{Arc}
use Rattle.std.proofs.lemmas.Bool.{true≢false}
use Rattle.std.proofs.lemmas.List.{nil_from_length}
use Rattle.std.proofs.lemmas.Option.{none-some}
use Rattle.std.proofs.lemmas.List.Elements.{Contains-append_left, Contains-append_cases}
use Rattle.fancy_regex_desugar.specs.CorePatterns.{CorePattern, read, keep_out, cat, alt, group, ahead, never, atomic, delegate, tail, repeat, conditional, absent, called}
use Rattle.fancy_regex_info.specs.Infos.{InfoTree}
use Rattle.fancy_regex_program.specs.Code.{Layout, written_out}
use Rattle.fancy_regex_program.specs.Ops.{Place}
use Rattle.fancy_regex_program.specs.Shapes.{IsAllowed}
use Rattle.fancy_regex_program.specs.declared.insn.Callee.{Callee}
use Rattle.fancy_regex_compiler.specs.Inlined.{is_inlined, AreLaidOut}
use Rattle.fancy_regex_compiler.specs.Needs.{AreAmong, IsNeeded, NoneStays, IsCallAllowed, IsAllowedUnder, Notes, IsNoted}
use Rattle.fancy_regex_compiler.specs.Refusals.{TreeContext, IsAnalyzed, IsExpandedTarget}
use Rattle.fancy_regex_compiler.specs.Inlined.{draft_place, drafted_place, layout_in}
use Rattle.fancy_regex_compiler.specs.Writing.{layout_of}
use Rattle.fancy_regex_compiler.specs.declared.emitter.CompileContext.{CompileContext}
use Rattle.fancy_regex_compiler.specs.declared.emitter.Need.{Need}

pub none_there : {P : Type 0} (n : Need) → Contains [] n → P
none_there n c = absurd (let low : c.0 < 0 = c.1 in omega arith)

-- needs to which none is added, where they have another name
pub none_noted : (infos : List InfoTree) (needs : List Need) (S : TreeContext → Type 0) → Notes infos needs needs S
none_noted infos needs S = record {
  more = [];
  are = sym (append-nil needs);
  groups = λ n c. none_there n c;
  stand = λ tree_context analyzed stand n c. none_there n c;
}

pub same_noted : (infos : List InfoTree) (old new : List Need) (S : TreeContext → Type 0) → new ≡ old → Notes infos old new S
same_noted infos old new S is = subst (λ ns. Notes infos old ns S) (sym is) (none_noted infos old S)

-- more of them
pub both_noted : (infos : List InfoTree) (old mid new : List Need) (S T : TreeContext → Type 0) → Notes infos old mid S →
    ((tree_context : TreeContext) → IsAnalyzed tree_context infos → S tree_context → T tree_context) → Notes infos mid new T → Notes infos old new S
both_noted infos old mid new S T h f k = record {
  more = h.more ++ k.more;
  are = k.are ∙ ap (λ ns. ns ++ k.more) h.are ∙ append_assoc old h.more k.more;
  groups = λ n c. ⊎_elim (λ here. h.groups n here) (λ there. k.groups n there) (Contains-append_cases h.more k.more n c);
  stand = λ tree_context analyzed stand n c.
      ⊎_elim (λ here. h.stand tree_context analyzed stand n here) (λ there. k.stand tree_context analyzed (f tree_context analyzed stand) n there)
      (Contains-append_cases h.more k.more n c);
}

-- the same where more is known
pub notes_weaker : (infos : List InfoTree) (old new : List Need) (A B : TreeContext → Type 0) →
    ((tree_context : TreeContext) → IsAnalyzed tree_context infos → B tree_context → A tree_context) → Notes infos old new A → Notes infos old new B
notes_weaker infos old new A B f h = record {
  more = h.more;
  are = h.are;
  groups = h.groups;
  stand = λ tree_context analyzed b. h.stand tree_context analyzed (f tree_context analyzed b);
}

-- the same where the needs were noted that are there
pub notes_after : (infos : List InfoTree) (old mid new : List Need) (S : TreeContext → Type 0) → mid ≡ old → Notes infos mid new S → Notes infos old new S
notes_after infos old mid new S is h = subst (λ ns. Notes infos ns new S) is h

-- a need that is noted
pub need_noted : (infos : List InfoTree) (old new : List Need) (need : Need) → IsNoted old new need → need.group < length infos →
    Notes infos old new (λ tree_context. IsExpandedTarget tree_context need.may_keep need.may_be_absent infos need.group)
need_noted infos old new need h there = record {
  more = h.more;
  are = h.are;
  groups = λ n c. subst (λ (m : Need). m.group < length infos) (h.only n c) there;
  stand = λ tree_context analyzed stand n c. subst (λ (m : Need). IsExpandedTarget tree_context m.may_keep m.may_be_absent infos m.group) (h.only n c) stand;
}

-- what has the new needs has the old ones
pub among_before : (infos : List InfoTree) (old new all : List Need) (S : TreeContext → Type 0) → Notes infos old new S → AreAmong new all → AreAmong old all
among_before infos old new all S h among n c =
    among n (subst (λ ns. Contains ns n) (sym h.are) (Contains-append_left old h.more n c))

-- a call that stays, and one that is written out
pub kept_allowed : (layout : Layout) (all : List Need) (u : Bool) (need : Need) (c : Place) (p : CorePattern) → layout need.group ≡ Some c → Contains all need →
    IsAllowedUnder layout all u need.may_keep (called need.group p)
kept_allowed layout all u need c p some there =
    subst (λ o. IsCallAllowed o (IsNeeded all need.group need.may_keep) (IsAllowedUnder layout all u need.may_keep p)) (sym some)
    (record { need = need; there = there; group = refl; may_keep = refl })

pub called_allowed : (layout : Layout) (all : List Need) (u keeps : Bool) (k : ℕ) (p : CorePattern) → layout k ≡ None → IsAllowedUnder layout all u keeps p →
    IsAllowedUnder layout all u keeps (called k p)
called_allowed layout all u keeps k p none h =
    subst (λ o. IsCallAllowed o (IsNeeded all k keeps) (IsAllowedUnder layout all u keeps p)) (sym none) h

-- where no call stays, the pattern is let through with what stands for its calls
pub allowed_written_out : (layout : Layout) (all : List Need) (u keeps : Bool) (p : CorePattern) → NoneStays layout → IsAllowedUnder layout all u keeps p → IsAllowed u keeps p
allowed_written_out layout all u keeps (read c) none h = h
allowed_written_out layout all u keeps keep_out none h = h
allowed_written_out layout all u keeps (cat a b) none h = (allowed_written_out layout all u keeps a none h.0, allowed_written_out layout all u keeps b none h.1)
allowed_written_out layout all u keeps (alt a b) none h = (allowed_written_out layout all u keeps a none h.0, allowed_written_out layout all u keeps b none h.1)
allowed_written_out layout all u keeps (group k a) none h = allowed_written_out layout all u keeps a none h
allowed_written_out layout all u keeps (ahead a) none h = allowed_written_out layout all u false a none h
allowed_written_out layout all u keeps (never a) none h = allowed_written_out layout all u false a none h
allowed_written_out layout all u keeps (atomic a) none h = allowed_written_out layout all u keeps a none h
allowed_written_out layout all u keeps (delegate t a) none h = h
allowed_written_out layout all u keeps (tail t a) none h = (h.0, allowed_written_out layout all u keeps a none h.1)
allowed_written_out layout all u keeps (repeat a lo hi greedy) none h = (h.0, allowed_written_out layout all u keeps a none h.1)
allowed_written_out layout all u keeps (conditional c a b) none h =
    (allowed_written_out layout all u keeps c none h.0, allowed_written_out layout all u keeps a none h.1, allowed_written_out layout all u keeps b none h.2)
allowed_written_out layout all u keeps (absent a) none h = allowed_written_out layout all u false a none h
allowed_written_out layout all u keeps (called k a) none h =
    allowed_written_out layout all u keeps a none (subst (λ o. IsCallAllowed o (IsNeeded all k keeps) (IsAllowedUnder layout all u keeps a)) (none k) h)
allowed_written_out layout all u keeps _ none h = tt

-- where there is no draft no call stays
none_listed : (drafts : List (Option (Arc Callee Global))) → drafts ≡ [] → layout_in drafts ≡ written_out
none_listed drafts none = ap layout_in none

pub none_drafted : (context : CompileContext) → length context.drafts.now.items ≡ 0 → layout_of context ≡ written_out
none_drafted context none = none_listed context.drafts.now.items (nil_from_length context.drafts.now.items none)

pub none_stays : (layout : Layout) → layout ≡ written_out → NoneStays layout
none_stays layout is k = ap (λ (l : Layout). l k) is

-- What the drafts say of the layout: calls of a group with a draft stay, and those of one without are written out.
listed_place : (drafts : List (Option (Arc Callee Global))) (k : ℕ) (d : Option (Arc Callee Global)) → slice_get drafts k ≡ Some d → layout_in drafts k ≡ option_map draft_place d
listed_place [] k d at = absurd (none-some d at)
listed_place (x ∷ xs) k d at = ap (drafted_place k) at

pub place_of_draft : (context : CompileContext) (k : ℕ) (d : Option (Arc Callee Global)) → slice_get context.drafts.now.items k ≡ Some d → layout_of context k ≡ option_map draft_place d
place_of_draft context k d at = listed_place context.drafts.now.items k d at

not_false : (b : Bool) → false ≡ not b → b ≡ true
not_false true h = refl
not_false false h = absurd (true≢false (sym h))

none_there_is : (o : Option Place) → is_some o ≡ false → o ≡ None
none_there_is None h = refl
none_there_is (Some c) h = absurd (true≢false h)

-- where some call stays, a call is written out only where the group is one of those whose calls are
pub only_inlined : (rooms : List (Option ℕ)) (drafts : List (Option (Arc Callee Global))) → AreLaidOut rooms drafts → 0 < length drafts → (k : ℕ) → layout_in drafts k ≡ None →
    is_inlined rooms k ≡ true
only_inlined rooms drafts laid some k none =
    let many : length drafts ≡ 0 → ⊥ = λ e. absurd (omega (arith, e, some)) in
    not_false (is_inlined rooms k) (ap is_some (sym none) ∙ laid k many)

-- and those are written out
pub inlined_none : (rooms : List (Option ℕ)) (drafts : List (Option (Arc Callee Global))) → AreLaidOut rooms drafts → (k : ℕ) → (length drafts ≡ 0 → ⊥) →
    is_inlined rooms k ≡ true → layout_in drafts k ≡ None
inlined_none rooms drafts laid k some out = none_there_is (layout_in drafts k) (laid k some ∙ ap not out)

not_within : (ds : List (Option (Arc Callee Global))) (i : ℕ) → i < length ds → slice_get ds i ≡ None → ⊥
not_within [] i lt h = absurd (omega (arith, lt))
not_within (d ∷ ds) zero lt h = none-some d (sym h)
not_within (d ∷ ds) (suc i) lt h = not_within ds i (omega (arith, lt)) h

some_place : (d : Option (Arc Callee Global)) → is_some (option_map draft_place d) ≡ is_some d
some_place None = refl
some_place (Some draft) = refl

-- where each group that is listed has a draft unless its calls are written out
pub laid_out_all : (rooms : List (Option ℕ)) (drafts : List (Option (Arc Callee Global))) →
    ((k : ℕ) (d : Option (Arc Callee Global)) → slice_get drafts k ≡ Some d → is_some d ≡ not (is_inlined rooms k)) →
    ((k : ℕ) → is_inlined rooms k ≡ true → k < length drafts) → AreLaidOut rooms drafts
laid_out_all rooms [] each few k some = absurd (some refl)
laid_out_all rooms (x ∷ xs) each few k some = at (slice_get (x ∷ xs) k) refl (is_inlined rooms k) refl
  where
    at : (o : Option (Option (Arc Callee Global))) → slice_get (x ∷ xs) k ≡ o → (b : Bool) → is_inlined rooms k ≡ b →
        is_some (layout_in (x ∷ xs) k) ≡ not (is_inlined rooms k)
    at (Some d) e b eb = ap (λ p. is_some (drafted_place k p)) e ∙ some_place d ∙ each k d e
    at None e true eb = absurd (not_within (x ∷ xs) k (few k eb) e)
    at None e false eb = ap (λ p. is_some (drafted_place k p)) e ∙ sym (ap not eb)
