use Rattle.std.proofs.Common.{chars, string_bytes, rules}
use Rattle.fancy_regex_tree.proofs.PrintedTexts.{nothing_left, escaped_more, escaped_end}
use Rattle.fancy_regex_tree.proofs.print_text.print_escaped.Goals as goal

pub loop-c-preserved : goal.loop-c-preserved
loop-c-preserved c = (
  search rules,
  escaped_more (chars (string_bytes c.loop-c.out)) (chars (string_bytes c.print_escaped_char.new.out)) _
      (chars c.loop-c.left.now) (chars c.in-Some.rest.now) c.in-Some.c c.loop-c.invariant.1 c.in-Some.ensures.whole
      c.in_ok-print_escaped_char.ensures,
)

pub returns : goal.returns
returns c =
    escaped_end (chars (string_bytes c.loop-c.out)) _ (chars c.loop-c.left.now) c.loop-c.invariant.1
    (nothing_left (chars c.loop-c.left.now) c.in_default.ensures.value)
