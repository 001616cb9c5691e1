use Rattle.std.proofs.Common.{rules, ◌≡◌, length, arith}
use Rattle.std.proofs.lemmas.List.{length-map}
use Rattle.fancy_regex_compiler.specs.Writing.{info_at, infos_of}
use Rattle.fancy_regex_compiler.proofs.InlinedLemmas.{inlined_inside}
use Rattle.fancy_regex_compiler.proofs.calls.write_calls.Goals as goal

pub drafts_of-requires : goal.drafts_of-requires
drafts_of-requires c = record {
  few = λ k is.
      let context = c.args.context.now in
      let groups = context.groups.now.items in
      let low = inlined_inside (infos_of context) context.inlined.now.rooms.items context.inlined.now.known c.requires.inlined k is in
      let long : c.len.result ≡ length groups = search rules in
      omega (arith, low, long, length-map groups info_at);
}
