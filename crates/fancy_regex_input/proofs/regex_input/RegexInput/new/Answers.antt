use Rattle.std.proofs.Common.{arith, IsCharBoundary, sym, subst}
use Rattle.std.proofs.lemmas.Str.{IsCharBoundary-start, IsCharBoundary-end}
use Rattle.fancy_regex_input.specs.SearchInputs.{FitsText, whole_up_to}
use Rattle.fancy_regex_input.proofs.regex_input.RegexInput.new.Goals as goal

pub invariant_of-result : goal.invariant_of-result
invariant_of-result g c =
    let text = g.S.Input.text c.args.haystack in
    let fits : FitsText text (whole_up_to c.len-end.result) = record {
      ordered = omega arith;
      range_start = IsCharBoundary-start text c.as_bytes-bytes.ensures.utf8;
      range_end = subst (IsCharBoundary text) (sym c.len-end.ensures.text) (IsCharBoundary-end text);
      start = λ _. IsCharBoundary-start text c.as_bytes-bytes.ensures.utf8;
    } in
    record { fits = subst (FitsText text) (sym c.whole.ensures) fits }
