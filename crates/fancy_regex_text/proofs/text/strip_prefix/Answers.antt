use Rattle.std.proofs.Common.{sym, chars, subst, ◌≡◌, Some, None, length, arith, ap, rules}
use Rattle.std.proofs.lemmas.List.{length-append}
use Rattle.std.proofs.lemmas.Str.{chars-IsAscii}
use Rattle.std.proofs.lemmas.Str.Ascii.{IsAscii-from_all}
use Rattle.fancy_regex_text.specs.Text.{strip_prefix}
use Rattle.fancy_regex_text.proofs.TextLemmas.{strip_prefix_matches_std, strip_prefix_none, strip_prefix_is}
use Rattle.fancy_regex_text.proofs.text.strip_prefix.Goals as goal

pub returns-in_err-rest : goal.returns-in_err-rest
returns-in_err-rest c =
    let word = chars-IsAscii c.args.word.now (IsAscii-from_all c.args.word.now c.requires) in
    record {
      value = rw c.from_residual.ensures (subst (λ w. None ≡ strip_prefix w (chars c.args.text.now)) word (sym (strip_prefix_none c.args.word.now c.args.text.now c.utf8.word c.utf8.text c.in_err-rest.ensures.cases)));
      whole = search rules;
      len = search rules;
      shorter = search rules;
    }

pub returns : goal.returns
returns c =
    let word = chars-IsAscii c.args.word.now (IsAscii-from_all c.args.word.now c.requires) in
    let found = subst (λ w. strip_prefix w (chars c.args.text.now) ≡ Some (chars c.in_ok-rest.rest.now)) word
    (strip_prefix_matches_std c.args.word.now c.args.text.now c.in_ok-rest.rest.now c.utf8.word c.in_ok-rest.ensures.cases) in
    let whole = strip_prefix_is c.args.word.now (chars c.args.text.now) (chars c.in_ok-rest.rest.now) found in
    record {
      value = sym found;
      whole = whole;
      len = omega (arith, ap length whole, length-append c.args.word.now (chars c.in_ok-rest.rest.now));
      shorter = omega (arith, ap length whole, length-append c.args.word.now (chars c.in_ok-rest.rest.now));
    }
