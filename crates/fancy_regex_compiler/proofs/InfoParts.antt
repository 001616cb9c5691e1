-- What holds part by part of two patterns that are written of one tree, by what the analysis says of it, where it holds of what stands for
-- its calls.
use Rattle.std.proofs.Common.{ℕ, zero, suc, false, List, [], ◌∷◌, map, Some, None, refl, slice_index}
use Rattle.fancy_regex_tree.specs.Tree as tree
use Rattle.fancy_regex_tree.specs.Tree.{Tree, Trees, no_trees, more_trees}
use Rattle.fancy_regex_desugar.specs.CorePatterns.{any, literal, class, CorePattern, cat, back, tail}
use Rattle.fancy_regex_desugar.specs.Delegates.{is_delegated}
use Rattle.fancy_regex_desugar.specs.Unfolded.{Written, cat_all, alt_all}
use Rattle.fancy_regex_info.specs.Infos.{NodeProperties, InfoTree, InfoTrees, known, no_infos, more_infos}
use Rattle.fancy_regex_program.proofs.WrittenParts.{PartByPart, BothForms, EachForm, one_form_more, of_either, of_repeated, of_body, of_look}
use Rattle.fancy_regex_compiler.specs.Known.{child, front_of, behind_of, layer, info_written, info_written_all, info_begins_tail, trees_in, plain_row, info_tail, info_whole}

module _ (R : CorePattern → CorePattern → Type 0) (parts : PartByPart R) where
  -- The relation holds of the children, one by one.
  abbrev OneByOne : List Written → List Written → Type 0
  OneByOne [] [] = Unit {0}
  OneByOne [] (v ∷ vs) = ⊥
  OneByOne (u ∷ us) [] = ⊥
  OneByOne (u ∷ us) (v ∷ vs) = BothForms R parts u v × OneByOne us vs

  each_form : (us vs : List Written) → OneByOne us vs → EachForm R parts us vs
  each_form [] [] h = record { long = refl; row = parts.of_nothing; fronts = parts.of_fail; behinds = parts.of_fail }
  each_form [] (v ∷ vs) h = absurd h
  each_form (u ∷ us) [] h = absurd h
  each_form (u ∷ us) (v ∷ vs) h = one_form_more R parts u v us vs h.0 (each_form us vs h.1)

  at_child : (us vs : List Written) (k : ℕ) → OneByOne us vs → BothForms R parts (child us k) (child vs k)
  at_child [] [] k h = record { front = parts.of_fail; behind = parts.of_fail }
  at_child [] (v ∷ vs) k h = absurd h
  at_child (u ∷ us) [] k h = absurd h
  at_child (u ∷ us) (v ∷ vs) zero h = h.0
  at_child (u ∷ us) (v ∷ vs) (suc k) h = at_child us vs k h.1

  module _ (f g : ℕ → CorePattern) (calls : (k : ℕ) → R (f k) (g k)) where
    of_front : (n : ℕ) (t : Tree) (us vs : List Written) → OneByOne us vs → R (front_of f n t us) (front_of g n t vs)
    unfolding front_of
    of_front n (tree.concat ts) us vs h = (each_form us vs h).row
    of_front n (tree.alt ts) us vs h = (each_form us vs h).fronts
    of_front n tree.empty us vs h = parts.of_nothing
    of_front n (tree.any newline crlf) us vs h = parts.of_read (any newline crlf)
    of_front n (tree.assertion a) us vs h = parts.of_check a
    of_front n (tree.general_newline unicode) us vs h = parts.of_newline unicode
    of_front n (tree.literal val casei) us vs h = parts.of_read (literal (slice_index val 0) casei)
    of_front n (tree.delegate text casei) us vs h = parts.of_read (class text casei)
    of_front n (tree.group t) us vs h = parts.of_group n (child us 0).front (child vs 0).front (at_child us vs 0 h).front
    of_front n (tree.look_around t how) us vs h = of_look R parts t how (child us 0) (child vs 0) (at_child us vs 0 h)
    of_front n (tree.repeat t lo hi greedy) us vs h = of_repeated R parts (child us 0).front (child vs 0).front lo hi greedy (at_child us vs 0 h).front
    of_front n (tree.atomic_group t) us vs h =
        parts.of_atomic _ _ (of_body R parts false t (child us 0).front (child vs 0).front (at_child us vs 0 h).front)
    of_front n (tree.backref k casei) us vs h = parts.of_backref k casei
    of_front n (tree.backref_exists k None) us vs h = parts.of_exists k
    of_front n (tree.backref_exists k (Some level)) us vs h = parts.of_fail
    of_front n (tree.conditional c a b) us vs h =
        parts.of_conditional _ (child us 1).front (child us 2).front _ (child vs 1).front (child vs 2).front
        (of_body R parts false c (child us 0).front (child vs 0).front (at_child us vs 0 h).front) (at_child us vs 1 h).front (at_child us vs 2 h).front
    of_front n (tree.subroutine_call k) us vs h = calls k
    of_front n tree.keep_out us vs h = parts.of_keep_out
    of_front n tree.continue us vs h = parts.of_continue
    of_front n (tree.absent_repeater t) us vs h = parts.of_absent (child us 0).front (child vs 0).front (at_child us vs 0 h).front
    of_front n (tree.define_group t) us vs h = parts.of_nothing
    of_front n _ us vs h = parts.of_fail

    of_node_behind : (n : ℕ) (p q : CorePattern) → R p q → R (cat (back n) p) (cat (back n) q)
    of_node_behind n p q h = parts.of_cat (back n) p (back n) q (parts.of_back n) h

    of_behind : (facts : NodeProperties) (t : Tree) (p q : CorePattern) (us vs : List Written) → R p q → OneByOne us vs → R (behind_of facts t p us) (behind_of facts t q vs)
    unfolding behind_of
    of_behind facts (tree.alt ts) p q us vs h k =
        of_either R parts facts.size.always (cat (back facts.size.least) p) (alt_all (map (λ u. u.behind) us)) (cat (back facts.size.least) q) (alt_all (map (λ u. u.behind) vs))
        (of_node_behind facts.size.least p q h) (each_form us vs k).behinds
    of_behind facts _ p q us vs h k = of_node_behind facts.size.least p q h

    of_layer : (facts : NodeProperties) (t : Tree) (us vs : List Written) → OneByOne us vs → BothForms R parts (layer f facts t us) (layer g facts t vs)
    of_layer facts t us vs h =
        let front = of_front facts.start t us vs h in
        record { front = front; behind = of_behind facts t (front_of f facts.start t us) (front_of g facts.start t vs) us vs front h }

    mutual
      unfolding info_written info_written_all

      pub of_info : (x : InfoTree) → BothForms R parts (info_written f x) (info_written g x)
      of_info (known facts t xs) = of_layer facts t (info_written_all f xs) (info_written_all g xs) (of_infos xs)

      of_infos : (xs : InfoTrees) → OneByOne (info_written_all f xs) (info_written_all g xs)
      of_infos no_infos = tt
      of_infos (more_infos x xs) = (of_info x, of_infos xs)

    of_plain : (ts : Trees) (us vs : List Written) → OneByOne us vs → R (plain_row ts us) (plain_row ts vs)
    of_plain ts us vs h =
        of_either R parts (is_delegated false (tree.concat ts)) (tail (tree.concat ts) (cat_all us)) (cat_all us) (tail (tree.concat ts) (cat_all vs)) (cat_all vs)
        (parts.of_tail (tree.concat ts) (cat_all us) (cat_all vs) (each_form us vs h).row) (each_form us vs h).row

    of_row : (xs : InfoTrees) → R (info_tail f xs) (info_tail g xs)
    unfolding info_written_all info_tail
    of_row no_infos = parts.of_nothing
    of_row (more_infos x xs) =
        let all = more_infos x xs in
        of_either R parts (info_begins_tail all) (plain_row (trees_in all) (info_written_all f all)) (cat (info_written f x).front (info_tail f xs))
        (plain_row (trees_in all) (info_written_all g all)) (cat (info_written g x).front (info_tail g xs))
        (of_plain (trees_in all) (info_written_all f all) (info_written_all g all) (of_infos all))
        (parts.of_cat (info_written f x).front (info_tail f xs) (info_written g x).front (info_tail g xs) (of_info x).front (of_row xs))

    pub of_info_whole : (x : InfoTree) → R (info_whole f x) (info_whole g x)
    unfolding info_whole
    of_info_whole (known facts (tree.concat ts) xs) = of_row xs
    of_info_whole x = (of_info x).front
