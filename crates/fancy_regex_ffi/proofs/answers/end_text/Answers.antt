use Rattle.std.proofs.Common.{◌∙◌, length, ap, refl}
use Rattle.fancy_regex_ffi.proofs.answers.end_text.Goals as goal

pub returns-in-Ok : goal.returns-in-Ok
returns-in-Ok c =
    let value = c.as_bytes.ensures.value ∙ c.as_str.ensures.value in
    rw c.in-Ok.is (refl, rw value at c.write_front.ensures.front, c.write_front.ensures.count ∙ ap length value)
