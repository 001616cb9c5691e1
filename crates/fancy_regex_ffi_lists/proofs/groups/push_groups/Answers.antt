use Rattle.std.proofs.Common.{◌≡◌, ◌∙◌, ◌∷◌, ◌++◌, [], ap, append_assoc, arith, refl}
use Rattle.std.proofs.lemmas.List.{length-append}
use Rattle.fancy_regex_ffi_lists.specs.declared.member.Member.{Member}
use Rattle.fancy_regex_ffi_lists.proofs.GroupLemmas.{from_more}
use Rattle.fancy_regex_ffi_lists.proofs.groups.push_groups.Goals as goal

pub loop-group-preserved : goal.loop-group-preserved
loop-group-preserved c =
    let inv = c.loop-group.invariant in
    let captures = c.args.captures.now in
    let span = c.group_span-span.result in
    let group : Member = record { pattern = c.args.number; start = span.start; end = span.end } in
    record {
      added = inv.added ++ group ∷ [];
      is = c.in_ok-push.ensures.items ∙ ap (λ gs. gs ++ group ∷ []) inv.is ∙ append_assoc c.args.groups.now.items inv.added (group ∷ []);
      many = omega (arith, inv.many, length-append inv.added (group ∷ []));
      are = from_more captures.haystack.now captures.slots.items c.args.number 0 c.loop-group.group group inv.added (omega (arith, inv.many)) inv.are (span, c.group_span-span.ensures, refl);
    }
