use Rattle.std.proofs.Common.{◌≡◌, ◌∙◌, false, [], Some, None, refl, ap, rules, chars}
use Rattle.fancy_regex_tree.specs.Numbering.{numbers_under}
use Rattle.fancy_regex_tree.specs.ParseResult.{has_key}
use Rattle.fancy_regex_tree.proofs.GroupNames.{named_next, unnamed_next, none_named, key_next, no_key_next}
use Rattle.fancy_regex_tree.proofs.group_names.named_groups.Goals as goal
use Rattle.fancy_regex_tree.proofs.group_names.named_groups.Goals.{in-Some+in_ok-add_number, in_default}

pub loop-i-init : goal.loop-i-init
loop-i-init c = record {
  value = λ q u. let e : numbers_under c.new-named.result q ≡ [] = search (rules, c.new-named.ensures.empty) in e ∙ none_named (chars q);
  keys = λ q u. let e : has_key c.new-named.result q ≡ false = search (rules, c.new-named.ensures.empty) in e;
}

pub loop-i-preserved : goal.loop-i-preserved
loop-i-preserved c =
    elim c.match-names-i.branch [
      | in-Some+in_ok-add_number w ↦ record {
        value = λ q u.
            named_next q w.in-Some.name.now u w.in_ok-add_number.ensures.text c.args.names.now c.loop-i.i None (Some w.in-Some.name) (numbers_under c.loop-i.named q) _
            (search rules) w.in-Some.is refl (c.loop-i.invariant.value q u) (ap (λ m. numbers_under m q) w.named-is ∙ w.in_ok-add_number.ensures.value q);
        keys = λ q u.
            key_next q w.in-Some.name.now u w.in_ok-add_number.ensures.text c.args.names.now c.loop-i.i None (Some w.in-Some.name) (has_key c.loop-i.named q) _
            (search rules) w.in-Some.is refl (c.loop-i.invariant.keys q u) (ap (λ m. has_key m q) w.named-is ∙ w.in_ok-add_number.ensures.keys q);
      }
      | in_default w ↦ record {
        value = λ q u.
            ap (λ m. numbers_under m q) w.named-is ∙ unnamed_next q c.args.names.now c.loop-i.i None None _ (search rules) w.in_default.is refl (c.loop-i.invariant.value q u);
        keys = λ q u.
            ap (λ m. has_key m q) w.named-is ∙ no_key_next q c.args.names.now c.loop-i.i None None _ (search rules) w.in_default.is refl (c.loop-i.invariant.keys q u);
      }
    ]
