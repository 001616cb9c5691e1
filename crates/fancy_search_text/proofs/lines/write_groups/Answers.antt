use Rattle.std.proofs.Common.{◌≡◌, ◌++◌, ◌+◌, ◌<◌, ◌≤◌, ◌/◌, ℕ, length, get_or, take, Option, Some, None, add-one, arith, ap, ◌∙◌}
use Rattle.std.specs.Prelude.{string_bytes}
use Rattle.std.proofs.Math.Seq.{take_all}
use Rattle.fancy_regex.specs.Ways.{Pairs}
use Rattle.fancy_search_text.proofs.SpanLemmas.{shown, groups_all}
use Rattle.fancy_search_text.proofs.LineLemmas.{group_first, group_more}
use Rattle.fancy_search_text.specs.Lines.{groups_text, group_text}
use Rattle.fancy_search_text.specs.Spans.{AreGroupSpans}
use Rattle.fancy_search_text.proofs.lines.write_groups.Goals as goal
use Rattle.fancy_search_text.proofs.lines.write_groups.Goals.{then-group-gt0+in_ok-push, else-group-gt0, in-Some+in_ok-write_span-in-Some, in-None+in_ok-push-in-None}

-- one more group is out
one_more : (c : goal.Joined-get) (spans : Pairs) → AreGroupSpans c.args.groups.now.haystack.now c.args.groups.now.slots.items spans → (told : Option (ℕ × ℕ))
    → (c.loop-group.group < length spans) × (told ≡ get_or spans c.loop-group.group None)
    → string_bytes c.match-get.line ≡ string_bytes c.if-group-gt0.line ++ group_text told
    → string_bytes c.match-get.line ≡ string_bytes c.args.line.now ++ groups_text (take (c.loop-group.group + 1) spans)
one_more c spans are told is line =
    let k = c.loop-group.group in
    let piece = group_text (get_or spans k None) in
    let put : string_bytes c.match-get.line ≡ string_bytes c.if-group-gt0.line ++ piece = line ∙ ap (λ o. string_bytes c.if-group-gt0.line ++ group_text o) is.1 in
    let held = c.loop-group.invariant spans are in
    rw add-one (
    elim c.if-group-gt0.branch [
      | then-group-gt0+in_ok-push w ↦
          put
          ∙ ap (λ xs. xs ++ piece) (ap string_bytes w.line-is ∙ w.in_ok-push.ensures.bytes ∙ ap (λ xs. string_bytes c.loop-group.line ++ xs) (w.in_ok-push.ensures.ascii (omega arith)))
          ∙ group_more (string_bytes c.args.line.now) (string_bytes c.loop-group.line) spans k w.if-group-gt0.true is.0 held
      | else-group-gt0 w ↦
          put ∙ ap (λ xs. xs ++ piece) (ap string_bytes w.line-is) ∙ group_first (string_bytes c.args.line.now) (string_bytes c.loop-group.line) spans k w.if-group-gt0.false is.0 held
    ]
    )

pub loop-group-preserved : goal.loop-group-preserved
loop-group-preserved c =
    λ spans are.
    let text = c.args.groups.now.haystack.now in
    let slots = c.args.groups.now.slots.items in
    let within : c.loop-group.group < length slots / 2 = omega (arith, c.loop-group-test.true, c.len-group-end.ensures) in
    elim c.match-get.branch [
      | in-Some+in_ok-write_span-in-Some w ↦
          one_more c spans are (Some (w.in-Some.found.start, w.in-Some.found.end))
          (shown text slots spans are c.loop-group.group within (Some (w.in-Some.found.start, w.in-Some.found.end)) w.in-Some.ensures.span)
          (ap string_bytes w.line-is ∙ w.in_ok-write_span-in-Some.ensures)
      | in-None+in_ok-push-in-None w ↦
          one_more c spans are None (shown text slots spans are c.loop-group.group within None w.in-None.ensures.span)
          (ap string_bytes w.line-is ∙ w.in_ok-push-in-None.ensures.bytes ∙ ap (λ xs. string_bytes c.if-group-gt0.line ++ xs) (w.in_ok-push-in-None.ensures.ascii (omega arith)))
    ]

pub returns : goal.returns
returns c =
    λ spans are.
    let slots = c.args.groups.now.slots.items in
    let end : length slots / 2 ≡ length spans = groups_all c.args.groups.now.haystack.now slots spans are in
    let all : length spans ≤ c.loop-group.group = omega (arith, c.loop-group-test.false, c.len-group-end.ensures) in
    c.loop-group.invariant spans are ∙ ap (λ xs. string_bytes c.args.line.now ++ groups_text xs) (take_all c.loop-group.group spans all)
