-- What the context of a compilation says of the groups whose calls are written out.
use Rattle.std.proofs.Common.{◌≡◌, ℕ, ◌≤◌, Bool, true, false, List, length, Option, None, Some, Ok, Err, Result, IfErr, refl, ap, arith}
use Rattle.std.specs.Prelude.{◌==◌, is_some, slice_get}
use Rattle.std.proofs.lemmas.Bool.Decides.{nat_tests}
use Rattle.fancy_regex_program.specs.Code.{Layout}
use Rattle.fancy_regex_compiler.specs.CalledTexts.{IsFree}
use Rattle.fancy_regex_compiler.specs.Inlined.{room_at, is_inlined}
use Rattle.fancy_regex_compiler.specs.Known.{info_call}
use Rattle.fancy_regex_compiler.specs.Rooms.{room_with}
use Rattle.fancy_regex_compiler.specs.Writing.{infos_of, layout_of}
use Rattle.fancy_regex_compiler.specs.declared.emitter.CompileContext.{CompileContext}
use Rattle.fancy_regex_compiler.proofs.CalledTextLemmas.{text_fits}
use Rattle.fancy_regex_compiler.proofs.NeedLemmas.{inlined_none, none_drafted}

pub err_weaker : {A E : Type 0} {P Q : E → Type 0} (r : Result A E) → ((e : E) → P e → Q e) → IfErr r P → IfErr r Q
err_weaker (Ok a) f h = tt
err_weaker (Err e) f h = f e h

module _ (context : CompileContext) where
  abbrev rooms : List (Option ℕ)
  rooms = context.inlined.now.rooms.items

  -- they are written out, whether other calls stay or not
  inlined_is_out : (k : ℕ) → is_inlined rooms k ≡ true → layout_of context k ≡ None
  inlined_is_out k is = by (length context.drafts.now.items == 0) refl
    where
      by : (b : Bool) → (length context.drafts.now.items == 0) ≡ b → layout_of context k ≡ None
      by true e = ap (λ (l : Layout). l k) (none_drafted context (grind (arith, nat_tests, e)))
      by false e =
          let some : length context.drafts.now.items ≡ 0 → ⊥ = grind (arith, nat_tests, e) in
          inlined_none rooms context.drafts.now.items context.laid_out k some is

  -- a call that writes nothing takes no room
  pub no_room : (m : ℕ) (opened : List ℕ) (k : ℕ) → room_at rooms k ≡ Some 0 → context.inlined.now.known ≤ m → IsFree rooms 0 opened →
      room_with (layout_of context) (info_call (infos_of context) m opened k) ≡ 0
  no_room m opened k is left free =
      let low = context.are_silent (layout_of context) (λ j out. ap is_some (inlined_is_out j out)) m opened k is left free in
      omega (arith, low)

  -- the room for the characters of a call, where no call stays
  pub text_has_room : (m : ℕ) (opened : List ℕ) (k n : ℕ) → length context.drafts.now.items ≡ 0 → slice_get context.texts.now.lengths.items k ≡ Some (Some n) →
      context.texts.now.known ≤ m → IsFree context.texts.now.lengths.items n opened → n ≤ room_with (layout_of context) (info_call (infos_of context) m opened k)
  text_has_room m opened k n none at left free =
      text_fits (layout_of context) n (info_call (infos_of context) m opened k) (none_drafted context none) (context.are_texts k n m opened at left free)
