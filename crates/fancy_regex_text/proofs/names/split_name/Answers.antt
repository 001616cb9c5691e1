use Rattle.std.proofs.Common.{rules, chars, sym, ◌∙◌, ap}
use Rattle.fancy_regex_text.specs.Names.{is_name_char}
use Rattle.fancy_regex_text.proofs.SpanLemmas.{span_start, span_next, span_end, none_passed}
use Rattle.fancy_regex_text.proofs.names.split_name.Goals as goal

pub loop-after-init : goal.loop-after-init
loop-after-init c = (c.utf8.text, span_start is_name_char (chars c.args.text.now))

pub loop-after-preserved : goal.loop-after-preserved
loop-after-preserved c =
    let l = c.loop-after in
    (search rules, span_next is_name_char (chars c.args.text.now) (chars l.rest.now) (chars c.in-Some.after.now) c.in-Some.ensures.value l.invariant.1)

pub prefix_before-requires : goal.prefix_before-requires
prefix_before-requires c = let s = c.loop-after.invariant.1 in (s.0, s.1.0)

pub returns : goal.returns
returns c =
    let l = c.loop-after in
    sym (span_end is_name_char (chars c.args.text.now) (chars l.rest.now) (none_passed is_name_char (chars l.rest.now) c.in_default.ensures.value) l.invariant.1
    ∙ ap (λ x. (x, chars l.rest.now)) (sym c.prefix_before.ensures))
