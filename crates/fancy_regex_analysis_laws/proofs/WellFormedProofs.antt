-- Parsed trees are well-formed, but for reversed bounds.
use Rattle.std.proofs.Common.{◌≡◌, Bool, true, false, not, ◌&&◌, ◌||◌, List, [], ◌∷◌, Ok, refl, sym, ap, subst, ◌∙◌, true≢false}
use Rattle.std.specs.List.{All, list_any}
use Rattle.std.proofs.lemmas.List.Elements.{All-head, All-tail}
use Rattle.std.specs.Prelude.{nat_le}
use Rattle.fancy_regex_tree.specs.Tree.{Tree, Text, literal, alt, repeat, no_trees, more_trees, tree_of}
use Rattle.fancy_regex_tree.specs.Traversal.{nodes}
use Rattle.fancy_regex_tree.specs.Parse.{Options, parse}
use Rattle.fancy_regex_tree.specs.ReferenceSummary.{is_call, refers_to}
use Rattle.fancy_regex_tree.specs.ParseResult.{IsParsed}
use Rattle.fancy_regex_tree.specs.declared.expr_tree.ExprTree.{ExprTree}
use Rattle.fancy_regex_meaning.specs.Groups.{group_count}
use Rattle.fancy_regex_tree_laws.specs.ParsedNodes.{is_parsed_node}
use Rattle.fancy_regex_tree_laws.proofs.ParsedNodeProofs.{nodes_are_parsed}
use Rattle.fancy_regex_tree_laws.proofs.ParsedGroupProofs.{parsed_law}
use Rattle.fancy_regex_analysis.specs.NodeErrors.{is_reversed_repeat, has_reversed_repeat}
use Rattle.fancy_regex_analysis.specs.WellFormed.{is_ill_formed}
use Rattle.fancy_regex_analysis_laws.specs.WellFormedTrees.{IsWellFormedTree, ParsedTreesAreWellFormed}
use Rattle.fancy_regex_analysis_laws.proofs.GroupCounts.{groups_are_counted}

neither : (a b : Bool) → (a || b) ≡ false → (a ≡ false) × (b ≡ false)
neither true b h = absurd (true≢false h)
neither false b h = (refl, h)

none : (a b : Bool) → a ≡ false → b ≡ false → (a || b) ≡ false
none true b h k = absurd (true≢false h)
none false b h k = k

-- a node
in_order : (t : Tree) → is_ill_formed t ≡ false → is_reversed_repeat t ≡ false
in_order (repeat t lo hi greedy) h = h
in_order t h = refl

well_formed : (t : Tree) → is_parsed_node t ≡ true → is_reversed_repeat t ≡ false → is_ill_formed t ≡ false
well_formed (repeat t lo hi greedy) parsed h = h
well_formed (literal val casei) parsed h = ap not parsed
well_formed (alt no_trees) parsed h = absurd (true≢false (sym parsed))
well_formed (alt (more_trees t ts)) parsed h = refl
well_formed t parsed h = refl

-- nodes
all_in_order : (ts : List Tree) → list_any is_ill_formed ts ≡ false → list_any is_reversed_repeat ts ≡ false
all_in_order [] h = refl
all_in_order (t ∷ ts) h =
    let parts = neither (is_ill_formed t) (list_any is_ill_formed ts) h in
    none (is_reversed_repeat t) (list_any is_reversed_repeat ts) (in_order t parts.0) (all_in_order ts parts.1)

all_well_formed : (ts : List Tree) → All (λ t. is_parsed_node t ≡ true) ts → list_any is_reversed_repeat ts ≡ false → list_any is_ill_formed ts ≡ false
all_well_formed [] parsed h = refl
all_well_formed (t ∷ ts) parsed h =
    let parts = neither (is_reversed_repeat t) (list_any is_reversed_repeat ts) h in
    none (is_ill_formed t) (list_any is_ill_formed ts)
    (well_formed t (All-head (λ u. is_parsed_node u ≡ true) t ts parsed) parts.0)
    (all_well_formed ts (All-tail (λ u. is_parsed_node u ≡ true) t ts parsed) parts.1)

-- a parsed tree
module _ (o : Options) (t : Text) (e : ExprTree) (parsed : IsParsed (Ok e) (parse o t)) where
  is_well_formed : has_reversed_repeat (tree_of e.expr) ≡ false → IsWellFormedTree e
  is_well_formed h =
      let found = parsed.0 in
      let summary = parsed.2 in
      let tree : tree_of e.expr ≡ found.tree = summary.tree in record {
        nodes_are = all_well_formed (nodes (tree_of e.expr))
            (subst (λ u. All (λ node. is_parsed_node node ≡ true) (nodes u)) (sym tree) (nodes_are_parsed o t found parsed.1)) h;
        groups_are = summary.total ∙ sym (parsed_law.count o t found parsed.1) ∙ groups_are_counted found.tree ∙ ap group_count (sym tree);
        calls_are = summary.subroutines ∙ ap (λ u. list_any is_call (nodes u)) (sym tree);
        references_are = λ k. summary.backrefs k
            ∙ ap (λ n. nat_le k n && list_any (refers_to k) (nodes found.tree)) (sym summary.total)
            ∙ ap (λ u. nat_le k e.total_groups && list_any (refers_to k) (nodes u)) (sym tree);
      }

pub parsed_trees_are_well_formed : ParsedTreesAreWellFormed
parsed_trees_are_well_formed o t e parsed = (λ h. all_in_order (nodes (tree_of e.expr)) h.nodes_are, is_well_formed o t e parsed)
