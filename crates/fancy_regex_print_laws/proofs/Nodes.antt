-- Facts of each node.
use Rattle.std.proofs.Common.{◌≡◌, Bool, true, false, List, [], ◌∷◌, Some, None, refl}
use Rattle.std.proofs.lemmas.Bool.{false≢true, true≢false}
use Rattle.fancy_regex_tree.specs.Tree.{Tree, Trees, trees, no_trees, more_trees, empty, any, assertion, general_newline, literal, literal_bytes, concat, alt, group, look_around, repeat}
use Rattle.fancy_regex_tree.specs.Tree.{delegate, backref, backref_with_level, atomic_group, keep_out, continue, backref_exists, conditional, subroutine_call, verb, absent_repeater}
use Rattle.fancy_regex_tree.specs.Tree.{absent_expression, absent_stopper, absent_clear, define_group, ast_group, ast_backref, ast_call, ast_condition}
use Rattle.fancy_regex_tree.specs.TreeBuilders.{is_repeatable, without_empty, joined}
use Rattle.fancy_regex_tree.specs.NormalForm.{node_kind, with_piece, row_of}
use Rattle.fancy_regex_tree.specs.Printable.{can_be_repeated}
use Rattle.fancy_regex_print_laws.proofs.NamelessTrees.{nameless_tree, nameless_trees}

abbrev pub is_look : Tree → Bool
is_look (look_around t how) = true
is_look _ = false

-- what is read as something that can be repeated can stand before a quantifier
pub target_is : (e : Tree) → is_look e ≡ false → can_be_repeated (node_kind (nameless_tree e)) ≡ true → is_repeatable e ≡ true
unfolding nameless_tree node_kind can_be_repeated
target_is empty look can = absurd (false≢true can)
target_is (any a b) look can = refl
target_is (assertion a) look can = absurd (false≢true can)
target_is (general_newline a) look can = refl
target_is (literal a b) look can = refl
target_is (literal_bytes a) look can = refl
target_is (concat a) look can = refl
target_is (alt a) look can = refl
target_is (group a) look can = refl
target_is (look_around a b) look can = absurd (true≢false look)
target_is (repeat a b d e) look can = refl
target_is (delegate a b) look can = refl
target_is (backref a b) look can = refl
target_is (backref_with_level a b d) look can = refl
target_is (atomic_group a) look can = refl
target_is keep_out look can = refl
target_is continue look can = refl
target_is (backref_exists a b) look can = refl
target_is (conditional a b d) look can = refl
target_is (subroutine_call a) look can = refl
target_is (verb a) look can = refl
target_is (absent_repeater a) look can = refl
target_is (absent_expression a b) look can = refl
target_is (absent_stopper a) look can = refl
target_is absent_clear look can = refl
target_is (define_group a) look can = refl
target_is (ast_group a b d) look can = refl
target_is (ast_backref a b d e) look can = refl
target_is (ast_call a b) look can = refl
target_is (ast_condition a b d) look can = refl

-- a piece in front of others, without the empty ones
pub one_more_piece : (e : Tree) (es : List Tree) →
    nameless_trees (trees (without_empty (e ∷ es))) ≡ with_piece (nameless_tree e) (nameless_trees (trees (without_empty es)))
unfolding nameless_tree with_piece node_kind
one_more_piece empty es = refl
one_more_piece (any a b) es = refl
one_more_piece (assertion a) es = refl
one_more_piece (general_newline a) es = refl
one_more_piece (literal a b) es = refl
one_more_piece (literal_bytes a) es = refl
one_more_piece (concat a) es = refl
one_more_piece (alt a) es = refl
one_more_piece (group a) es = refl
one_more_piece (look_around a b) es = refl
one_more_piece (repeat a b d e) es = refl
one_more_piece (delegate a b) es = refl
one_more_piece (backref a b) es = refl
one_more_piece (backref_with_level a b d) es = refl
one_more_piece (atomic_group a) es = refl
one_more_piece keep_out es = refl
one_more_piece continue es = refl
one_more_piece (backref_exists a b) es = refl
one_more_piece (conditional a b d) es = refl
one_more_piece (subroutine_call a) es = refl
one_more_piece (verb a) es = refl
one_more_piece (absent_repeater a) es = refl
one_more_piece (absent_expression a b) es = refl
one_more_piece (absent_stopper a) es = refl
one_more_piece absent_clear es = refl
one_more_piece (define_group a) es = refl
one_more_piece (ast_group None b d) es = refl
one_more_piece (ast_group (Some a) b d) es = refl
one_more_piece (ast_backref a b d e) es = refl
one_more_piece (ast_call a b) es = refl
one_more_piece (ast_condition a b d) es = refl

-- one piece is itself
pub row_single : (t : Tree) → row_of (with_piece t no_trees) ≡ t
unfolding row_of with_piece node_kind
row_single empty = refl
row_single (any a b) = refl
row_single (assertion a) = refl
row_single (general_newline a) = refl
row_single (literal a b) = refl
row_single (literal_bytes a) = refl
row_single (concat a) = refl
row_single (alt a) = refl
row_single (group a) = refl
row_single (look_around a b) = refl
row_single (repeat a b d e) = refl
row_single (delegate a b) = refl
row_single (backref a b) = refl
row_single (backref_with_level a b d) = refl
row_single (atomic_group a) = refl
row_single keep_out = refl
row_single continue = refl
row_single (backref_exists a b) = refl
row_single (conditional a b d) = refl
row_single (subroutine_call a) = refl
row_single (verb a) = refl
row_single (absent_repeater a) = refl
row_single (absent_expression a b) = refl
row_single (absent_stopper a) = refl
row_single absent_clear = refl
row_single (define_group a) = refl
row_single (ast_group a b d) = refl
row_single (ast_backref a b d e) = refl
row_single (ast_call a b) = refl
row_single (ast_condition a b d) = refl

pub row_joined : (ps : List Tree) → nameless_tree (joined concat ps) ≡ row_of (nameless_trees (trees ps))
unfolding nameless_tree row_of
row_joined [] = refl
row_joined (e ∷ []) = refl
row_joined (e ∷ d ∷ es) = refl

pub branches_joined : (bs : List Tree) (t u : Tree) (ts : Trees) → nameless_trees (trees bs) ≡ more_trees t (more_trees u ts) →
    nameless_tree (joined alt bs) ≡ alt (more_trees t (more_trees u ts))
unfolding nameless_tree
branches_joined [] t u ts h = cc
branches_joined (e ∷ []) t u ts h = cc
branches_joined (e ∷ d ∷ es) t u ts h = λ i. alt (h i)
