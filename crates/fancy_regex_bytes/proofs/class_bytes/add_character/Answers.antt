use Rattle.std.proofs.Common.{◌||◌, ap, ◌∙◌}
use Rattle.fancy_regex_bytes.specs.ByteSets.{has, bytes_in}
use Rattle.fancy_regex_bytes.proofs.class_bytes.add_character.Goals as goal

pub returns : goal.returns
returns c = λ b.
    ap (λ f. f b) c.add.ensures ∙ ap (λ bs. bytes_in bs b || has c.args.set.now b) (c.as_bytes.ensures.value ∙ c.encode_utf8.ensures.value)
