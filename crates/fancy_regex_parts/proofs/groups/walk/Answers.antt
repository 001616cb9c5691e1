use Rattle.std.proofs.Common.{◌≡◌, ◌∙◌, ◌+◌, ℕ, List, length, replicate, refl, ap, subst, arith}
use Rattle.std.proofs.lemmas.List.{length-replicate}
use Rattle.fancy_regex_class.specs.Looks.{looked_text}
use Rattle.fancy_regex_parts.specs.Tables.{cost_from, due, known_cost}
use Rattle.fancy_regex_parts.specs.Walk.{IsWalkedIn, dearest}
use Rattle.fancy_regex_parts.specs.Writes.{apply, list_of}
use Rattle.fancy_regex_parts.proofs.AskLemmas.{leaves_cap}
use Rattle.fancy_regex_parts.proofs.WalkLemmas.{dropped_within, dropped_written, has_trace, no_more, visited_cap}
use Rattle.fancy_regex_parts.proofs.groups.walk.Goals as goal

pub returns-in-Ok-clause-written : goal.returns-in-Ok-clause-written
returns-in-Ok-clause-written c view go tried true_of known t is =
    let unset : c.fill.new.self ≡ replicate (length c.args.slots.now) 18446744073709551615 = c.fill.ensures.after (λ y e. e) in
    c.write.ensures
    ∙ ap (apply (list_of c.writes_from.new.walked.lists.writes.items c.in-Ok.list)) unset
    ∙ (c.in-Ok.ensures.list view go tried true_of known t is).0 (replicate (length c.args.slots.now) 18446744073709551615)
    (omega (arith, length-replicate {A = ℕ} (length c.args.slots.now) 18446744073709551615))

pub returns-in-Ok-clause-known : goal.returns-in-Ok-clause-known
returns-in-Ok-clause-known c view go tried true_of known has =
    has_trace (go c.args.context.now.entry c.args.start).answer has
    (λ t is.
    dropped_written c.args.context.now.table.now (length (looked_text c.args.text.now)) c.args.memory.now.recall.base c.writes_from.new.walked
    (record { visited = c.writes_from.new.walked.visited; lists = c.drop_others.new.self; tasks = c.writes_from.new.walked.tasks }) c.in-Ok.ensures.walked refl
    c.drop_others.ensures.held c.drop_others.ensures.lists go c.args.context.now.table.now.heads.items
    (c.in-Ok.ensures.list view go tried true_of known t is).1)

pub returns-in-Ok-clause-walked : goal.returns-in-Ok-clause-walked
returns-in-Ok-clause-walked c =
    dropped_within c.args.context.now.table.now (length (looked_text c.args.text.now)) c.args.memory.now.recall.base c.writes_from.new.walked
    (record { visited = c.writes_from.new.walked.visited; lists = c.drop_others.new.self; tasks = c.writes_from.new.walked.tasks }) c.in-Ok.ensures.walked refl
    c.drop_others.ensures.held c.drop_others.ensures.lists c.drop_others.ensures.writes

pub returns-in-Ok-clause-at_most : goal.returns-in-Ok-clause-at_most
returns-in-Ok-clause-at_most c =
    let table = c.args.context.now.table.now in
    let text : List ℕ = looked_text c.args.text.now in
    let base : ℕ = c.args.memory.now.recall.base in
    let dear : ℕ = dearest table c.args.context.now.entry in
    let cap = visited_cap table (length text) base c.writes_from.new.walked c.in-Ok.ensures.walked in
    omega (
      arith,
      c.in-Ok.ensures.counted,
      leaves_cap c.in-Ok.ensures.leaves,
      no_more dear (due table c.args.context.now.entry + cost_from table text base + 1)
          (due table c.args.context.now.entry + known_cost table c.writes_from.new.walked.visited) (omega (arith, cap)),
    )

pub returns-in-Err-clause-walked : goal.returns-in-Err-clause-walked
returns-in-Err-clause-walked c =
    subst (λ (b : ℕ). IsWalkedIn c.args.context.now.table.now (length (looked_text c.args.text.now)) b c.restart.new.self)
    (c.base.ensures ∙ c.writes_from.ensures.leaves.base) (c.restart.ensures.walked (length (looked_text c.args.text.now)))
