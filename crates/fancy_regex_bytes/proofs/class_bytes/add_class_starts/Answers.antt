use Rattle.std.proofs.Common.{chars, slice_index_or, false, ap, ◌∙◌}
use Rattle.fancy_regex_class.specs.Classes.{in_class}
use Rattle.fancy_regex_bytes.specs.ByteSets.{has, either_bytes}
use Rattle.std.proofs.lemmas.Result.{err_from_is_err_and}
use Rattle.fancy_regex_bytes.proofs.StartLemmas.{class_error}
use Rattle.fancy_regex_bytes.proofs.CharacterLemmas.{class_same, ascii_scalar}
use Rattle.fancy_regex_bytes.proofs.class_bytes.add_class_starts.Goals as goal

pub returns-clause-members : goal.returns-clause-members
returns-clause-members c =
    c.add_ascii.ensures
    ∙ ap (λ f. either_bytes f (has c.args.set.now))
    (class_same (λ b. slice_index_or c.ascii.result.now b false) (in_class c.args.unicode (chars c.args.class.now) c.args.casei)
    (λ b low. c.ascii.ensures b low ∙ c.in_ok-matcher.ensures.members b (ascii_scalar b low)))

pub returns-in_err-matcher-clause-refused : goal.returns-in_err-matcher-clause-refused
returns-in_err-matcher-clause-refused c =
    let p = err_from_is_err_and c.from_residual.result c.from_residual.ensures.1 in
    rw (p.1, p.2) (class_error c.args.unicode c.args.casei c.args.class.now c.in_err-matcher.field-0.0 c.in_err-matcher.ensures.refused)
