-- The parts of a pattern that a search in linear time takes over.
use Rattle.std.specs.Prelude.{ℕ, Bool, true, false, not, ◌&&◌, ◌||◌, ◌==◌, nat_le, length, count_by, Option, Some, None, option_map, if◌then◌else◌}
use Rattle.std.specs.List.{filter, list_any}
use Rattle.fancy_regex_tree.specs.Tree.{Tree, Trees, concat, alt, group, repeat, no_trees, more_trees}
use Rattle.fancy_regex_tree.specs.Printable.{is_printable}
use Rattle.fancy_regex_tree.specs.Traversal.{nodes}
use Rattle.fancy_regex_meaning.specs.Groups.{pattern_of, group_count}
use Rattle.fancy_regex_meaning.specs.Ways.{MatchState, Setting, ways}
use Rattle.fancy_regex_meaning.specs.Searches.{Search, first_item, start_way}
use Rattle.fancy_regex_info.specs.Easy.{is_easy}
use Rattle.fancy_regex_info.specs.Infos.{NodeProperties, properties}
use Rattle.fancy_regex_info.specs.References.{is_read}

-- a node that offers a choice
abbrev pub is_choice : Tree → Bool
is_choice (alt ts) = true
is_choice (repeat t lo hi greedy) = true
is_choice _ = false

-- with fewer of them the number of ways grows at most in proportion to the text
abbrev pub least_choice_nodes : ℕ
least_choice_nodes = 2

-- the greatest weight, in states
abbrev pub greatest_part_weight : ℕ
greatest_part_weight = 4096

-- what the analysis says of a tree as a pattern of its own
abbrev pub own_properties : Tree → NodeProperties
own_properties t = properties (pattern_of t).groups (is_read (length (pattern_of t).groups) t) (pattern_of t).first_group t

-- easy, without a capture group, and light
abbrev pub is_light_part : NodeProperties → Bool
is_light_part f = not f.hard && f.start == f.end && nat_le f.weight greatest_part_weight

-- A search in linear time can take this tree over: it is easy, has no capture group, is light and can be printed.
unfoldable pub is_searchable : Tree → Bool
is_searchable t = is_light_part (own_properties t) && is_printable t

-- the tree with each quantifier lazy, so that a search reads no more than one way needs
unfoldable mutual
  pub lazily : Tree → Tree
  lazily (concat ts) = concat (all_lazily ts)
  lazily (alt ts) = alt (all_lazily ts)
  lazily (group t) = group (lazily t)
  lazily (repeat t lo hi greedy) = repeat (lazily t) lo hi false
  lazily t = t

  pub all_lazily : Trees → Trees
  all_lazily no_trees = no_trees
  all_lazily (more_trees t ts) = more_trees (lazily t) (all_lazily ts)

-- the tree that is searched for a body of which the first way matters or, with `for_any`, only whether it has one
abbrev pub searched : Bool → Tree → Tree
searched for_any t = if for_any then lazily t else t

-- The last node is a choice: there the longest way may reach far beyond the shortest.
unfoldable mutual
  pub ends_in_choice : Tree → Bool
  ends_in_choice (concat ts) = row_ends_in_choice ts
  ends_in_choice (alt ts) = true
  ends_in_choice (repeat t lo hi greedy) = true
  ends_in_choice _ = false

  pub row_ends_in_choice : Trees → Bool
  row_ends_in_choice no_trees = false
  row_ends_in_choice (more_trees t no_trees) = ends_in_choice t
  row_ends_in_choice (more_trees t (more_trees u ts)) = row_ends_in_choice (more_trees u ts)

-- The ways of the body may be many, or with `for_any` the first of them may be long while a short one tells as much.
unfoldable pub offers_choices : Bool → Tree → Bool
offers_choices for_any t = for_any && ends_in_choice t || nat_le least_choice_nodes (count_by is_choice (nodes t))

-- the body is delegated, where only its first way matters or, with `for_any`, only whether it has one
unfoldable pub is_delegated : Bool → Tree → Bool
is_delegated for_any t = offers_choices for_any t && is_searchable (searched for_any t)

-- the end of the first way of the tree as a pattern of its own, from that position
unfoldable pub first_end : Setting → Tree → ℕ → Option ℕ
first_end s t p =
    option_map (λ w. w.position) (first_item (ways s (pattern_of t).groups (pattern_of t).first_group t (start_way (pattern_of t) p)))

-- a repetition of a body that offers a choice each time
abbrev pub repeats_choices : Tree → Bool
repeats_choices (repeat t lo hi greedy) = nat_le 2 hi && nat_le 1 (count_by is_choice (nodes t))
repeats_choices _ = false

-- The ways of the tree may be many more than the text is long: a repetition has choices in it.
unfoldable pub may_explode : Tree → Bool
may_explode t = list_any repeats_choices (nodes t)

-- A row's last trees from which a tail is made are plain: easy, and without a capture group.
abbrev pub is_plain : Tree → Bool
is_plain t = is_easy (λ k. false) 0 t && group_count t == 0

abbrev pub are_plain : Trees → Bool
are_plain no_trees = true
are_plain (more_trees t ts) = is_plain t && are_plain ts

-- The tail of the row begins at its first tree, if at none before: all of its trees are plain, and the ways of the first may be many. The trees
-- before it keep instructions of their own.
abbrev pub begins_tail : Trees → Bool
begins_tail no_trees = false
begins_tail (more_trees t ts) = are_plain (more_trees t ts) && may_explode t

-- the way does not end after this position
abbrev pub ends_until : ℕ → MatchState → Bool
ends_until stop w = nat_le w.position stop

-- the end of the first way of the tree as a pattern of its own that does not end after `stop`, from that position
unfoldable pub first_end_until : Setting → Tree → ℕ → ℕ → Option ℕ
first_end_until s t stop p =
    option_map (λ w. w.position)
    (first_item (filter (ends_until stop) (ways s (pattern_of t).groups (pattern_of t).first_group t (start_way (pattern_of t) p))))

-- Where only the first match of a search counts, the greatest position at which it may end.
abbrev pub tail_bound : Search → Option ℕ
tail_bound find = if find.options.longest || find.options.find_not_empty then None else Some find.stop
