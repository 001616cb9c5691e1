use Rattle.std.proofs.Common.{ap, sym, ◌∙◌, chars, option_map}
use Rattle.std.specs.Str.{bytes_eq}
use Rattle.fancy_regex_tree.specs.Printable.{is_same_class}
use Rattle.fancy_regex_reprint.specs.Reprinted.{text_in}
use Rattle.fancy_regex_reprint.proofs.ClassNodes.{same_text_bytes}
use Rattle.fancy_regex_reprint.proofs.classes.is_same_class.Goals as goal

pub returns-in-Some : goal.returns-in-Some
unfolding is_same_class
returns-in-Some c =
    c.eq.ensures
    ∙ same_text_bytes c.as_str.result.now c.args.text.now c.as_str.utf8 c.utf8.text
    ∙ ap (λ bytes. bytes_eq (chars c.args.text.now) (chars bytes)) c.as_str.ensures.value
    ∙ ap (is_same_class (chars c.args.text.now)) (ap (option_map text_in) (sym c.in-Some.is) ∙ c.in_ok-class.ensures)

pub returns-in-None : goal.returns-in-None
unfolding is_same_class
returns-in-None c = ap (is_same_class (chars c.args.text.now)) (ap (option_map text_in) (sym c.in-None.is) ∙ c.in_ok-class.ensures)
