-- The body of a group, by what the analysis says of it.
use Rattle.std.proofs.Common.{◌≡◌, ℕ, ◌+◌, Bool, not, List, [], length, Option, Some, None, option_map, refl, sym, ap, ◌∙◌, arith}
use Rattle.std.specs.Prelude.{slice_get}
use Rattle.std.proofs.lemmas.Option.{none-some, same_Some}
use Rattle.fancy_regex_tree.specs.Tree.{Tree}
use Rattle.fancy_regex_meaning.specs.Sizes.{target}
use Rattle.fancy_regex_meaning.specs.Ways.{max_open_calls}
use Rattle.fancy_regex_desugar.specs.Unfolded.{written, written_call}
use Rattle.fancy_regex_desugar.specs.CorePatterns.{CorePattern}
use Rattle.fancy_regex_info.specs.Analysis.{analysis}
use Rattle.fancy_regex_info.specs.Infos.{InfoTree, expected_info}
use Rattle.fancy_regex_info.specs.References.{is_read}
use Rattle.fancy_regex_info.specs.Views.{pattern_in}
use Rattle.fancy_regex_program.specs.Layouts.{body_pattern}
use Rattle.fancy_regex_compiler.specs.Kept.{called_pattern}
use Rattle.fancy_regex_compiler.specs.Known.{info_written, groups_in}
use Rattle.fancy_regex_compiler.proofs.KnownLemmas.{known_is, get_from, groups_are, calls_are}

-- This is what the analysis says of the body of the group k: the tree of the body, and that its pattern is that of the tree.
pub record IsGroupBody (explicit : Bool) (t : Tree) (k : ℕ) (y : InfoTree) : Type 0 where
  pub tree : Tree
  pub is_target : target (pattern_in explicit t).groups k ≡ Some tree
  pub pattern : called_pattern (groups_in (not explicit) (analysis explicit t)) y ≡ body_pattern (pattern_in explicit t).groups k tree
  pub written_is : (call : ℕ → CorePattern) → (info_written call y).front ≡ (written (pattern_in explicit t).groups call (k + 1) tree).front

module _ (explicit : Bool) (t : Tree) (k : ℕ) (y : InfoTree) where
  abbrev groups : List Tree
  groups = (pattern_in explicit t).groups

  abbrev seen : ℕ → Tree → InfoTree
  seen = expected_info groups (is_read (length groups) t)

  as_tree : (u : Tree) → seen (k + 1) u ≡ y → (call : ℕ → CorePattern) → (info_written call y).front ≡ (written groups call (k + 1) u).front
  as_tree u same call = ap (λ x. (info_written call x).front) (sym same) ∙ ap (λ v. v.front) (known_is groups (is_read (length groups) t) call (k + 1) u)

  found : (o : Option Tree) → target groups k ≡ o → option_map (seen (0 + k + 1)) o ≡ Some y → IsGroupBody explicit t k y
  found None at is = absurd (none-some y is)
  found (Some u) at is =
      let next : 0 + k + 1 ≡ k + 1 = omega arith in
      let same : seen (k + 1) u ≡ y = ap (λ n. seen n u) (sym next) ∙ same_Some (seen (0 + k + 1) u) y is in
      record {
        tree = u;
        is_target = at;
        pattern = ap (λ c. (info_written c y).front) (calls_are explicit t) ∙ as_tree u same (written_call groups (max_open_calls groups) []);
        written_is = as_tree u same;
      }

  pub body_is : slice_get (groups_in (not explicit) (analysis explicit t)) k ≡ Some y → IsGroupBody explicit t k y
  body_is is =
      found (target groups k) refl
      (sym (get_from groups (is_read (length groups) t) 0 groups k) ∙ sym (ap (λ gs. slice_get gs k) (groups_are explicit t)) ∙ is)
