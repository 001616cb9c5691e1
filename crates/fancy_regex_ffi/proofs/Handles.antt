-- The machine values of a `Handle`, and what it owns. Assumes `Logic`.
--     handle_out, handle_in     a handle by value is what it owns, and its two words
--     empty_or_live               a handle is empty, or it owns a box
--     empty_in, live_in         what an empty handle owns, and what one with a value owns
use Rattle.std.proofs.Common.{◌≡◌, List, [], ◌∷◌, ◌++◌, refl, subst}
use mathlib.Core.Bool.{Bool, true, false}
use seplogic.Ra.Ura.{Ura}
use mir.Syntax.{Ty, ty_bool}
use mir.Val.{Val, vbool, vstruct, of_list, has_ty}
use base.Logic.{ent, emp}
use base.Fml.{Fml}
use types.Logic.{Logic, sem}
use types.Kit.{Item, Goal, Seq, Step, step, ‵, ◌$◌, ◌∵◌, !, qed, done, drop, fsplit, fjoin, fpick, fpack, feq_i, feq_l}
use denote.RattleType.{Valss}
use denote.Builtin.{RawPtr, bool}
use denote.RawPtr.{Ptr, ptr_val}
use denote.Steps.{nothing}
use denote.Param.{layout}
use denote.Struct.Struct.{within}
use denote.Struct.Owning.{shape}
use Rattle.core.specs.declared.option.Option.{Option}
use Rattle.core.specs.declared.option.Option.TheVariants.{None, Some}
use Rattle.core.proofs.atomic.Steps.{Ptr-Good}
use Rattle.core.proofs.cell.Inside.{Good}
use Rattle.std_alloc.specs.Box.Ownership.{box_owns}
use Rattle.fancy_regex_ffi.proofs.Values.{both, both_tt}
use Rattle.fancy_regex_ffi.specs.Handles.{owns_if_live, token}
use Rattle.fancy_regex_ffi.specs.contracts.contents.Contents.{the_row as contents_row}
use Rattle.fancy_regex_ffi.specs.contracts.handle.Handle as handle

abbrev pub word : Ptr → Bool → Val
word p b = both (ptr_val p) (vbool b)

pub word_good : (p : Ptr) (b : Bool) → Good (layout handle.the_row) (word p b)
word_good p b = (both_tt (has_ty mir.Syntax.ty_ptr (ptr_val p)) true (Ptr-Good p).0 tt, ((Ptr-Good p).1, (tt, tt)))

abbrev pub Owned : Ptr → Bool → Option contents_row.Denot → Fml
Owned = owns_if_live token contents_row

module _ {M : Type 1} {𝓤 : Ura M} {𝓛 : Logic 𝓤} {K : Type 0} {Γ : List (Item 𝓤)} {G : Goal 𝓤 𝓛.H} where
  pub handle_out : K → (d : handle.the_row.Denot) (vs : List Val)
      → (vs ≡ word d.at d.live ∷ [] → Seq K 𝓛 (‵ (Owned d.at d.live d.contents) ∷ Γ) G)
      → Seq K 𝓛 (‵ (handle.the_row.own_val d vs) ∷ Γ) G
  handle_out t d vs k =
      fsplit t $ fpick t (λ vss. fsplit t $ feq_l t (λ ev. fsplit t $ feq_l t (λ ep. fsplit t $ feq_l t (λ eb. drop t $ k
      (subst (λ (ws : List Val). vs ≡ vstruct (of_list (ptr_val d.at ∷ (ws ++ []))) ∷ []) eb (subst (λ (ps : List Val). vs ≡ vstruct (of_list (ps ++ (vss.1.0 ++ []))) ∷ []) ep ev))))))

  pub handle_in : K → (d : handle.the_row.Denot)
      → Step K 𝓛 (‵ (handle.the_row.own_val d (word d.at d.live ∷ [])) ∷ Γ) G (‵ (Owned d.at d.live d.contents) ∷ Γ) G
  handle_in t d = step (λ s. let v : Val = word d.at d.live in
      nothing t $ feq_i t (List Val) (vbool d.live ∷ []) (vbool d.live ∷ []) refl $ fjoin t $ feq_i t (List Val) (ptr_val d.at ∷ []) (ptr_val d.at ∷ []) refl $ fjoin t $ feq_i t (List Val) (v ∷ []) (v ∷ []) refl $ fjoin t $
      fpack t (Valss (RawPtr ∷ bool ∷ [])) (within (shape handle.the_type) (d.at, (d.live, tt)) (v ∷ [])) (ptr_val d.at ∷ [], (vbool d.live ∷ [], tt)) $ fjoin t $ s)

module _ {M : Type 1} {𝓤 : Ura M} {𝓛 : Logic 𝓤} {K : Type 0} {Γ : List (Item 𝓤)} {G : Goal 𝓤 𝓛.H} where
  pub empty_or_live : K → (p : Ptr) (b : Bool) (o : Option contents_row.Denot)
      → (b ≡ false → o ≡ None → Seq K 𝓛 Γ G)
      → ((x : contents_row.Denot) → b ≡ true → o ≡ Some x → Seq K 𝓛 (‵ (box_owns token contents_row p x) ∷ Γ) G)
      → Seq K 𝓛 (‵ (Owned p b o) ∷ Γ) G
  unfolding owns_if_live
  empty_or_live t p b None empty live = feq_l t (λ e. empty e refl)
  empty_or_live t p b (Some x) empty live = fsplit t $ feq_l t (λ e. live x e refl)

module _ {M : Type 1} {𝓤 : Ura M} (𝓛 : Logic 𝓤) where
  pub empty_in : (p : Ptr) → ent 𝓤 (emp 𝓤) (sem 𝓛 (Owned p false None))
  unfolding owns_if_live
  empty_in p = qed 𝓛 [] ∵ feq_i ! Bool false false refl $ done !

  pub live_in : (p : Ptr) (x : contents_row.Denot) → ent 𝓤 (sem 𝓛 (box_owns token contents_row p x)) (sem 𝓛 (Owned p true (Some x)))
  unfolding owns_if_live
  live_in p x = qed 𝓛 (‵ (box_owns token contents_row p x) ∷ []) ∵ feq_i ! Bool true true refl $ fjoin ! $ done !
