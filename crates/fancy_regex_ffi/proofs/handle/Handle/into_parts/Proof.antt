-- `into_parts` gives what the handle owns.
use Rattle.std.proofs.Common.{◌≡◌, List, [], ◌∷◌, ◌++◌, refl, sym, ap, ◌∙◌, subst, lit<}
use mathlib.Core.Bool.{Bool, true, false}
use mir.Raw.{raw as bare}
use mir.Val.{Val, vptr, vcons, vnil}
use base.Logic.{SProp, ent, emp, id⊢, fst∗, never}
use types.Logic.{sem}
use prog.Wp.{WpFn}
use types.Kit.{‵, raw, ◌⊛◌, at_ret, ◌$◌, ◌∵◌, !, qed, by, move, keep, split, fsplit3, fjoin, suffices, use0, use1, rewrite}
use types.Run.{stop, fld, lit, of_opd, no_more, and_then, first, branches, exec, returns, enter}
use types.ByLocal.{alloc_all, pass_all, free_all, look_at, get, get_in, sets, sets_last, env}
use types.Part.{agg, sub, whole}
use types.Match.{live}
use contract.Monad.{fact, fact_i}
use contract.Running.{tables}
use denote.Exit.{yes}
use denote.RattleType.{RattleType, owns}
use denote.Signature.{types_at, type_at, plain}
use denote.RawPtr.{Ptr, block_ptr, null_ptr, in_a_block}
use denote.Steps.{nothing}
use denote.Param.{layout}
use denote.Triple.Entry.{alive}
use denote.Triple.Walked.{Stays, stay_dropped, walk_of, Goes-dropped}
use Rattle.core.specs.declared.option.Option.TheVariants.{None, Some}
use Rattle.core.proofs.alloc.Shapes.{after}
use Rattle.core.proofs.atomic.Steps.{Ptr-Good}
use Rattle.core.proofs.cell.Inside.{Good, one}
use Rattle.core.proofs.option.Made.{Some-of, none_of}
use Rattle.std.specs.contracts.alloc.Global as heap
use Rattle.std.proofs.alloc.Global.TheLaws as heap_laws
use Rattle.std.specs.contracts.impls.GlobalAllocator.TheImpl.{ghosts}
use Rattle.std_alloc.specs.Box.Ownership.{box_owns}
use Rattle.std_alloc.proofs.ResultValues.{and_tt}
use Rattle.std.proofs.raw_atomic.Walks.{proved_at, leaves}
use Rattle.fancy_regex_ffi.proofs.Values.{both, BoxParts, parts_good, parts_in}
use Rattle.fancy_regex_ffi.proofs.Handles.{word, word_good, handle_out, empty_or_live}
use Rattle.fancy_regex_ffi.specs.Handles.{token}
use Rattle.fancy_regex_ffi.specs.contracts.contents.Contents.{the_row as contents_row}
use Rattle.fancy_regex_ffi.specs.contracts.handle.Handle as handle
use Rattle.fancy_regex_ffi.specs.contracts.handle.Handle.into_parts.{ended, clauses}
use Rattle.fancy_regex_ffi.specs.contracts.handle.Handle.into_parts.Key.{name as #self}
use Rattle.fancy_regex_ffi.proofs.handle.Handle.into_parts.Statement.{statement}
use Rattle.fancy_regex_ffi.proofs.handle.Handle.into_parts.Code as code

pub into_parts_spec : {M : Type 1} → statement M
into_parts_spec 𝓤 𝓛 𝓜 𝓡 wired =
    let H = 𝓛.H in let 𝓣 = tables 𝓤 H 𝓜 𝓡 𝓡.env in let c = clauses 𝓛 𝓜.mem 𝓡.returns in let fn = code.function in
    let R : RattleType = contents_row in let Z : RattleType = heap.the_row in let LZ = heap_laws.the_row_laws in let Lr : RattleType = BoxParts R Z LZ ghosts in let D : RattleType = handle.the_row in
    let hs : Stays ended.signature.params ended.kept = (stay_dropped (plain (λ _. D)) yes, (stay_dropped (plain (λ _. Z)) yes, tt)) in
    proved_at 𝓛 ended hs c 𝓜 𝓡 (Goes-dropped 𝓛 0 (plain (λ _. D)) yes (λ κs x f. refl), (Goes-dropped 𝓛 0 (plain (λ _. Z)) yes (λ κs x f. refl), tt)) #self fn (code.unfolded 𝓤 H 𝓜 𝓡 wired) (λ z are.
    let κs = z.0.0 in let qs = z.0.1 in let d = z.0.3.0 in let a = z.0.3.1.0 in let Post : Val → SProp 𝓤 = (walk_of 𝓛 ended hs c).post z in let Run : List Val → SProp 𝓤 = λ ws. WpFn 𝓤 H 𝓣.C 𝓣.Λ fn ws Post in
    let Out : RattleType = type_at ended.signature.result κs in let h = one (layout Z) z.0.4.1.0 ((LZ.lawful 𝓛).typed a z.0.4.1.0 are.1.0) in
    qed 𝓛 ((raw (alive 𝓛 ended.signature κs qs) ⊛ ‵ (owns (types_at ended.signature.params κs) z.0.3 z.0.4)) ∷ raw ((c κs z.0.3).requires z.1) ∷ []) ∵ split ! $ move ! (1 ∷ []) $ fsplit3 ! $
    rewrite ! 1 (λ (us : List Val). ‵ (Z.own_val a us)) h.1 refl $ handle_out ! d z.0.4.0 (λ ws.
    -- [what the handle owns; the allocator; nothing; the tokens; the requirement]
    empty_or_live ! d.at d.live d.contents
    (λ off none. let w : Val = word d.at false in
    suffices ! (Run (w ∷ h.0 ∷ [])) (subst (λ (us : List Val). ent 𝓤 (Run (w ∷ h.0 ∷ [])) (Run us)) (sym (λ i. (ws ∙ ap (λ (t : Bool). word d.at t ∷ []) off) i ++ (h.1 i ++ []))) (id⊢ 𝓤 (Run (w ∷ h.0 ∷ [])))) $
    enter ! 𝓣.C 𝓣.Λ fn (w ∷ h.0 ∷ []) Post $ alloc_all ! (λ l. pass_all ! refl (word_good d.at false, (h.2, tt)) $ let Ev = env fn.locals l in
    sets ! (of_opd ! (get_in ! (fld ! refl (stop !)) (sub ! 0 refl (whole !)))) refl (Ptr-Good d.at) $ sets ! (of_opd ! (get_in ! (fld ! refl (stop !)) (sub ! 1 refl (whole !)))) refl (tt, tt) $ sets ! (of_opd ! (get ! refl)) refl (tt, tt) $
    first ! $ branches ! (get ! refl) (λ wrong. absurd wrong) (λ _.
    sets_last ! (agg ! (and_then ! (lit ! tt) (no_more !))) refl (tt, (record { fits = lit< tt }, tt)) $ exec ! 𝓣.C 𝓣.Λ Ev (after 4 fn.body) (at_ret Ev Post) $ sets ! (of_opd ! (get ! refl)) refl (tt, (record { fits = lit< tt }, tt)) $
    use0 𝓛 (‵ (Out.own_val None (live 0 vnil ∷ []))) (none_of 𝓛 Lr) $ use0 𝓛 (raw (fact 𝓤 (d.contents ≡ None))) (fact_i 𝓤 (d.contents ≡ None) (emp 𝓤) none) $
    nothing ! $ nothing ! $ fjoin ! $ nothing ! $ fjoin ! $ returns ! (look_at ! 0 refl) $ free_all ! refl $ keep ! (5 ∷ 0 ∷ 2 ∷ 1 ∷ []) $ by ! (leaves 𝓛 ended hs c z (live 0 vnil) None (tt, (tt, tt)) (tt, (tt, tt))))))
    (λ x on some. in_a_block ! d.at (λ p. box_owns token R p x) (fst∗ 𝓤 (never 𝓤) (sem 𝓛 (token (bare (layout R)) null_ptr))) (λ b o e.
    let w : Val = word (block_ptr b o) true in let made : Val = both (vptr b o) h.0 in let typed = parts_good R Z LZ ghosts b o h.0 h.2 in let v₁ : Val = live 1 (vcons made vnil) in let k : Lr.Denot = record { at = block_ptr b o; alloc = a; value = x } in
    let good : Good (layout Out) v₁ = (and_tt _ typed.0, (record { fits = lit< tt }, (typed.1, tt))) in
    suffices ! (Run (w ∷ h.0 ∷ [])) (subst (λ (us : List Val). ent 𝓤 (Run (w ∷ h.0 ∷ [])) (Run us)) (sym (λ i. (ws ∙ ap (λ (t : Bool). word d.at t ∷ []) on ∙ ap (λ (p : Ptr). word p true ∷ []) e) i ++ (h.1 i ++ []))) (id⊢ 𝓤 (Run (w ∷ h.0 ∷ [])))) $
    enter ! 𝓣.C 𝓣.Λ fn (w ∷ h.0 ∷ []) Post $ alloc_all ! (λ l. pass_all ! refl (word_good (block_ptr b o) true, (h.2, tt)) $ let Ev = env fn.locals l in
    sets ! (of_opd ! (get_in ! (fld ! refl (stop !)) (sub ! 0 refl (whole !)))) refl (tt, tt) $ sets ! (of_opd ! (get_in ! (fld ! refl (stop !)) (sub ! 1 refl (whole !)))) refl (tt, tt) $ sets ! (of_opd ! (get ! refl)) refl (tt, tt) $
    first ! $ branches ! (get ! refl) (λ _.
    sets ! (of_opd ! (get ! refl)) refl (tt, tt) $ sets ! (agg ! (and_then ! (get ! refl) (and_then ! (get ! refl) (no_more !)))) refl typed $ sets_last ! (agg ! (and_then ! (lit ! tt) (and_then ! (get ! refl) (no_more !)))) refl good $
    exec ! 𝓣.C 𝓣.Λ Ev (after 4 fn.body) (at_ret Ev Post) $ sets ! (of_opd ! (get ! refl)) refl good $ parts_in R Z LZ ghosts ! b o h.0 a x $
    use1 𝓛 (‵ (Out.own_val (Some k) (v₁ ∷ []))) (Some-of 𝓛 Lr k made) $ use0 𝓛 (raw (fact 𝓤 (d.contents ≡ Some x))) (fact_i 𝓤 (d.contents ≡ Some x) (emp 𝓤) some) $
    nothing ! $ nothing ! $ fjoin ! $ nothing ! $ fjoin ! $ returns ! (look_at ! 0 refl) $ free_all ! refl $ keep ! (4 ∷ 0 ∷ 2 ∷ 1 ∷ []) $ by ! (leaves 𝓛 ended hs c z v₁ (Some k) (tt, (tt, tt)) (tt, (tt, tt)))) (λ wrong. absurd wrong))))))
