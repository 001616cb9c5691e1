use Rattle.std.proofs.Common.{sym, chars, rules}
use Rattle.fancy_regex_text.proofs.TextLemmas.{up_to_split_once, up_to_missing, up_to_shorter}
use Rattle.fancy_regex_text.proofs.text.split_once.Goals as goal

pub returns-in_err-front : goal.returns-in_err-front
returns-in_err-front c = record {
  value = rw c.from_residual.ensures (sym (up_to_missing c.args.close c.args.text.now c.utf8.text c.in_err-front.ensures.cases));
  shorter = search rules;
}

pub returns : goal.returns
returns c =
    let found = up_to_split_once c.args.close c.args.text.now c.in_ok-front.front.now c.in_ok-front.rest.now c.utf8.text c.in_ok-front.ensures.cases in
    record { value = sym found; shorter = up_to_shorter c.args.close (chars c.args.text.now) _ (chars c.in_ok-front.rest.now) found }
