use Rattle.std.proofs.Common.{◌≡◌, ◌-◌, length, Some, None, slice_get, sym, ap, ◌∙◌}
use Rattle.fancy_regex_compiler.proofs.PartLemmas.{last_ends, none_ends, concat_ends}
use Rattle.fancy_regex_compiler.proofs.parts.+ends_in_choice.Goals as goal

pub returns-in-Some : goal.returns-in-Some
returns-in-Some t c =
    let parts = c.in-Concat.parts in
    let at : slice_get parts.items (length parts.items - 1) ≡ Some c.in-Some.last.now =
    ap (λ l. slice_get l (length l - 1)) (sym c.deref.ensures.value) ∙ sym c.in-Some.ensures.value in
    c.ends_in_choice.ensures ∙ sym (last_ends parts.items c.in-Some.last.now at) ∙ sym (concat_ends parts c.args.tree.now c.in-Concat.is)

pub returns-in-None : goal.returns-in-None
returns-in-None t c =
    let parts = c.in-Concat.parts in
    let at : slice_get parts.items (length parts.items - 1) ≡ None =
    ap (λ l. slice_get l (length l - 1)) (sym c.deref.ensures.value) ∙ sym c.in-None.ensures.value in
    sym (none_ends parts.items at) ∙ sym (concat_ends parts c.args.tree.now c.in-Concat.is)
