use Rattle.std.proofs.Common.{◌∙◌, length, ap, refl}
use Rattle.fancy_regex_ffi.proofs.answers.answer_items.Goals as goal

pub returns-in-Ok-clause-written : goal.returns-in-Ok-clause-written
returns-in-Ok-clause-written g c =
    let value = c.deref.ensures.value in
    rw c.in-Ok.is (refl, rw value at c.write_front.ensures.front, c.write_front.ensures.count ∙ ap length value)
