-- The groups of a tree whose references are resolved, and which nodes such a tree has.
use Rattle.std.specs.Prelude.{◌≡◌, ℕ, suc, ◌+◌, Bool, true, false, ◌↔◌, List, [], ◌∷◌, length, Option, Some, None, Ok, if◌then◌else◌}
use Rattle.std.specs.List.{All, filter_map}
use Rattle.fancy_regex_tree.specs.Tree.{Text, Tree, group, ast_group, ast_backref, ast_condition}
use Rattle.fancy_regex_tree.specs.Traversal.{nodes}
use Rattle.fancy_regex_tree.specs.Numbering.{openings, counts, counted, last_named, resolved}
use Rattle.fancy_regex_tree.specs.Parse.{Options, Parsed, parse}
use Rattle.fancy_regex_tree_laws.specs.References.{HasName}

-- The body of a capture group that is numbered, None for any other node. A `group` node is always numbered; parsing makes none before
-- references are resolved.
abbrev pub counted_body : Bool → Tree → Option Tree
counted_body ignored (ast_group name e position) = if counts ignored name then Some e else None
counted_body ignored (group e) = Some e
counted_body ignored _ = None

-- the bodies of the numbered capture groups, in the order of the text
abbrev pub counted_bodies : Bool → Tree → List Tree
counted_bodies ignored t = filter_map (counted_body ignored) (nodes t)

-- the body of a `group` node
abbrev pub group_body : Tree → Option Tree
group_body (group e) = Some e
group_body _ = None

-- the bodies of the `group` nodes of a resolved tree, in the order of the text
abbrev pub group_bodies : Tree → List Tree
group_bodies t = filter_map group_body (nodes t)

abbrev pub is_group : Tree → Bool
is_group (group e) = true
is_group _ = false

-- a tree before references are resolved: it has no `group` node, only `ast_group` nodes without numbers
abbrev pub HasNoNumberedGroups : Tree → Type 0
HasNoNumberedGroups t = All (λ u. is_group u ≡ false) (nodes t)

-- the node is no group, back reference or condition that is still to be resolved
abbrev pub is_resolved_node : Tree → Bool
is_resolved_node (ast_group name e position) = false
is_resolved_node (ast_backref target casei level position) = false
is_resolved_node (ast_condition target level position) = false
is_resolved_node _ = true

-- Each group in the second list is the body at the same index of the first list, resolved with the group numbers up to its own; n groups
-- come before the first.
abbrev pub AreGroups : Bool → (Text → Option ℕ) → ℕ → List Tree → List Tree → Type 0
AreGroups ignored named n [] [] = Unit {0}
AreGroups ignored named n [] (g ∷ gs) = ⊥
AreGroups ignored named n (b ∷ bs) [] = ⊥
AreGroups ignored named n (b ∷ bs) (g ∷ gs) =
    ((m : ℕ) × (resolved ignored named (suc n) b ≡ Ok (g, m))) × AreGroups ignored named (suc n) bs gs

-- Groups are numbered in the order of their opening parentheses.
pub record GroupsLaw : Type 0 where
  -- the groups of the resolved tree are the numbered capture groups of the text, in the same order
  pub bodies : (ignored : Bool) (named : Text → Option ℕ) (n m : ℕ) (t u : Tree) → resolved ignored named n t ≡ Ok (u, m) →
      AreGroups ignored named n (counted_bodies ignored t) (group_bodies u)
  -- the group counter after a tree is the counter before it plus the number of numbered groups in it
  pub number : (ignored : Bool) (named : Text → Option ℕ) (n m : ℕ) (t u : Tree) → HasNoNumberedGroups t → resolved ignored named n t ≡ Ok (u, m) →
      m ≡ n + length (counted ignored (openings t))
  -- there are as many groups as openings that count
  pub count : (ignored : Bool) (named : Text → Option ℕ) (n m : ℕ) (t u : Tree) → HasNoNumberedGroups t → resolved ignored named n t ≡ Ok (u, m) →
      length (group_bodies u) ≡ length (counted ignored (openings t))

-- After resolving, no unresolved node is left except calls.
pub record ResolvedLaw : Type 0 where
  pub nothing_left : (ignored : Bool) (named : Text → Option ℕ) (n m : ℕ) (t u : Tree) → resolved ignored named n t ≡ Ok (u, m) →
      All (λ node. is_resolved_node node ≡ true) (nodes u)

-- The laws above, for a whole parsed pattern.
pub record ParsedLaw : Type 0 where
  pub nothing_left : (o : Options) (t : Text) (found : Parsed) → parse o t ≡ Ok found → All (λ node. is_resolved_node node ≡ true) (nodes found.tree)
  -- no group has a number before references are resolved
  pub as_read : (o : Options) (t : Text) (found : Parsed) → parse o t ≡ Ok found → HasNoNumberedGroups found.unresolved
  -- the groups of the tree, from number 1 on, are the numbered capture groups of the text, in the same order
  pub bodies : (o : Options) (t : Text) (found : Parsed) → parse o t ≡ Ok found →
      AreGroups found.ignored (last_named found.names) 0 (counted_bodies found.ignored found.unresolved) (group_bodies found.tree)
  -- groups without a name are not numbered exactly where the options ask for that and some group has a name
  pub ignored : (o : Options) (t : Text) (found : Parsed) → parse o t ≡ Ok found →
      (found.ignored ≡ true) ↔ ((o.ignore_numbered ≡ true) × ((name : Text) × (rank : ℕ) × HasName (openings found.unresolved) name rank))
  -- the list of names has one entry for each numbered group
  pub names : (o : Options) (t : Text) (found : Parsed) → parse o t ≡ Ok found → found.names ≡ counted found.ignored (openings found.unresolved)
  -- there are as many groups as openings that count
  pub count : (o : Options) (t : Text) (found : Parsed) → parse o t ≡ Ok found → length (group_bodies found.tree) ≡ length found.names
