use Rattle.std.proofs.Common.{◌≡◌, ◌∙◌, List, ℕ, sym, subst, refl}
use Rattle.fancy_regex_ffi_lists.specs.Fronts.{Holds}
use Rattle.fancy_regex_ffi_lists.proofs.FrontLemmas.{held_after_writes, holds_nothing, shown_weaken}
use Rattle.fancy_regex_ffi_lists.proofs.front.write_shown.Goals as goal

pub returns-in-Ok : goal.returns-in-Ok
returns-in-Ok g c =
    let out = c.args.out.now in
    let written = c.write.new.self in
    shown_weaken _ _ _ (λ text held. subst (λ (room : List ℕ). Holds out text room written.length) (sym (c.out-1.given.1.1 (sym held.1))) held.0)
    (held_after_writes _ (λ text w. Holds out text w.room.now w.length × (w.room.ghost_name ≡ c.front-1.given))
    (λ w bytes v took text held. (took.0 out text held.0, took.1 ∙ held.1)) _ _ _ c.in-Ok.ensures.writes (holds_nothing out, refl))
