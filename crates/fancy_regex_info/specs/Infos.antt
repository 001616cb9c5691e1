-- The result of the analysis of a tree.
use Rattle.std.specs.Prelude.{ℕ, ◌+◌, min, Bool, not, List, [], ◌∷◌}
use Rattle.fancy_regex_tree.specs.Tree.{Tree, Trees, tree_of, concat, alt, group, look_around, repeat, atomic_group, conditional, absent_repeater}
use Rattle.fancy_regex_tree.specs.Tree.{absent_expression, absent_stopper, define_group, ast_group, no_trees, more_trees}
use Rattle.fancy_regex_meaning.specs.Groups.{group_count}
use Rattle.fancy_regex_meaning.specs.Sizes.{Size, unbounded, size, weight}
use Rattle.fancy_regex_info.specs.Easy.{is_easy}
use Rattle.fancy_regex_info.specs.Views.{size_of}
use Rattle.fancy_regex_info.specs.declared.properties.NodeProperties as code
use Rattle.fancy_regex_info.specs.declared.info.Info.{Info}
use Rattle.fancy_regex_info.specs.declared.info.Info.TheOpen.{Info-F}
use Rattle.fancy_regex_info.specs.declared.info.Info.TheFolds.{fold-Info}

-- the properties of a node without its children; the weight saturates at the greatest number of 64 bits
pub record NodeProperties : Type 0 where
  pub size : Size
  pub weight : ℕ
  pub hard : Bool
  -- the number of the next group before the node, and after it
  pub start : ℕ
  pub end : ℕ

-- a node, with what is known of it and of its children in the order of the text
mutual
  pub data InfoTree : Type 0 where
    known : NodeProperties → Tree → InfoTrees → InfoTree

  pub data InfoTrees : Type 0 where
    no_infos : InfoTrees
    more_infos : InfoTree → InfoTrees → InfoTrees

abbrev pub infos : List InfoTree → InfoTrees
infos [] = no_infos
infos (x ∷ xs) = more_infos x (infos xs)

abbrev pub properties_in : InfoTree → NodeProperties
properties_in (known f t xs) = f

-- the properties that a value of the code holds
abbrev pub properties_of : code.NodeProperties → NodeProperties
properties_of f = record { size = size_of f.size; weight = f.weight; hard = f.hard; start = f.start; end = f.end }

abbrev pub info_layer : Info-F InfoTree → InfoTree
info_layer i = known
    (record {
      size = record { least = i.min_size; greatest = i.max_size; always = i.const_size };
      weight = i.weight;
      hard = i.hard;
      start = i.start_group;
      end = i.end_group;
    })
    (tree_of i.expr.now) (infos i.children.items)

abbrev pub info_of : Info → InfoTree
info_of = fold-Info InfoTree info_layer

-- over the bodies of all groups by their numbers, and where it is known which groups are read by references and conditions
module _ (groups : List Tree) (reads : ℕ → Bool) where
  -- of a node whose first group has the number n
  abbrev pub properties : ℕ → Tree → NodeProperties
  properties n t = record {
    size = size groups t;
    weight = min unbounded (weight groups t);
    hard = not (is_easy reads n t);
    start = n;
    end = n + group_count t;
  }

  unfoldable mutual
    pub expected_info : ℕ → Tree → InfoTree
    expected_info n (concat ts) = known (properties n (concat ts)) (concat ts) (expected_infos n ts)
    expected_info n (alt ts) = known (properties n (alt ts)) (alt ts) (expected_infos n ts)
    expected_info n (group t) = known (properties n (group t)) (group t) (more_infos (expected_info (n + 1) t) no_infos)
    expected_info n (look_around t how) = known (properties n (look_around t how)) (look_around t how) (more_infos (expected_info n t) no_infos)
    expected_info n (repeat t lo hi greedy) = known (properties n (repeat t lo hi greedy)) (repeat t lo hi greedy) (more_infos (expected_info n t) no_infos)
    expected_info n (atomic_group t) = known (properties n (atomic_group t)) (atomic_group t) (more_infos (expected_info n t) no_infos)
    expected_info n (conditional c a b) = known (properties n (conditional c a b)) (conditional c a b)
        (more_infos (expected_info n c) (more_infos (expected_info (n + group_count c) a)
        (more_infos (expected_info (n + group_count c + group_count a) b) no_infos)))
    expected_info n (absent_repeater t) = known (properties n (absent_repeater t)) (absent_repeater t) (more_infos (expected_info n t) no_infos)
    expected_info n (absent_expression a t) = known (properties n (absent_expression a t)) (absent_expression a t)
        (more_infos (expected_info n a) (more_infos (expected_info (n + group_count a) t) no_infos))
    expected_info n (absent_stopper t) = known (properties n (absent_stopper t)) (absent_stopper t) (more_infos (expected_info n t) no_infos)
    expected_info n (define_group t) = known (properties n (define_group t)) (define_group t) (more_infos (expected_info n t) no_infos)
    expected_info n (ast_group name t position) =
        known (properties n (ast_group name t position)) (ast_group name t position) (more_infos (expected_info n t) no_infos)
    expected_info n t = known (properties n t) t no_infos

    pub expected_infos : ℕ → Trees → InfoTrees
    expected_infos n no_trees = no_infos
    expected_infos n (more_trees t ts) = more_infos (expected_info n t) (expected_infos (n + group_count t) ts)
