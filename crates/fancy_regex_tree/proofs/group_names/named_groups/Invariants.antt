use Rattle.std.proofs.Common.{◌≡◌, ℕ, List, map, take, chars, IsUtf8}
use Rattle.std.specs.List.{list_any}
use Rattle.fancy_regex_tree.specs.Numbering.{name_view, numbers_of, numbers_under}
use Rattle.fancy_regex_tree.specs.ParseResult.{carries, has_key}
use Rattle.fancy_regex_tree.proofs.group_names.named_groups.Given as goal

abbrev pub invariant-loop-i : goal.invariant-loop-i
invariant-loop-i l = record {
  value : (q : List ℕ) → IsUtf8 q → numbers_under l.named q ≡ numbers_of (chars q) 0 (map name_view (take l.i l.names));
  keys : (q : List ℕ) → IsUtf8 q → has_key l.named q ≡ list_any (carries (chars q)) (map name_view (take l.i l.names));
}
