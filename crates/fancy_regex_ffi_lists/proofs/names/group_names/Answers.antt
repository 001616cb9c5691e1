use Rattle.std.proofs.Common.{◌≡◌, ◌∙◌, ◌<◌, ◌+◌, ℕ, length, ap, arith, string_bytes}
use Rattle.fancy_regex.specs.MetaMatches.{meta_pattern}
use Rattle.fancy_regex.specs.GroupLookup.{meta_group_names}
use Rattle.fancy_regex_ffi_lists.proofs.NameLemmas.{lines_more}
use Rattle.fancy_regex_ffi_lists.proofs.names.group_names.Goals as goal

pub loop-name-preserved : goal.loop-name-preserved
loop-name-preserved c =
    let inv = c.loop-name.invariant in
    let s = c.args.regex.now.meta in
    let k = c.loop-name.names.next in
    let count : ℕ = length (meta_pattern s).groups in
    let step = rw inv.regex at c.in-Some.ensures.steps in
    let inside : k < count = step.0 in
    let next : c.next.new.self.next ≡ k + 1 = step.1 in
    record {
      regex = ap (λ r. r.now.meta) c.in-Some.ensures.steps.2 ∙ inv.regex;
      next = omega (arith, inside, next);
      lines = rw next (lines_more (meta_group_names s) count k _ _ (string_bytes c.loop-name.text) _ _ inside step.3 c.in_ok-push_line.ensures c.name_text.ensures inv.lines);
    }
