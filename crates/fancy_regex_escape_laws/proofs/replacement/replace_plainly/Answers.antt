use Rattle.std.proofs.Common.{rules, ◌≡◌, chars, string_bytes, Result, Ok, Err}
use Rattle.std.specs.Prelude.{IfOk}
use Rattle.std.specs.Cow.{cow_str_bytes}
use Rattle.fancy_regex_template.specs.PatternEscape.{escaped_pattern}
use Rattle.fancy_regex_escape_laws.proofs.PlainReplacementLemmas.{replaced_plainly}
use Rattle.fancy_regex_escape_laws.proofs.replacement.replace_plainly.Goals as goal

if_ok : {T E : Type 0} (r : Result T E) (P Q : T → Type 0) → ((x : T) → P x → Q x) → IfOk r P → IfOk r Q
if_ok (Ok x) P Q f h = f x h
if_ok (Err e) P Q f h = tt

pub returns : goal.returns
returns c = λ some.
    let read : chars (string_bytes c.in_ok-regex.regex.meta.pattern) ≡ escaped_pattern (chars c.args.needle.now) = search rules in
    if_ok c.replace_all.result _ _
    (λ v h. replaced_plainly c.escaped_texts_match_themselves.ensures c.matches_are_replaced_plainly.ensures _ c.in_ok-regex.regex.meta _ c.args.needle.now c.args.text.now (cow_str_bytes v) some c.utf8.needle c.in_ok-regex.ensures.options read h)
    c.replace_all.ensures.replaced
