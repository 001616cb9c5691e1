-- The groups that were collected are those of the tree.
use Rattle.std.proofs.Common.{◌≡◌, ℕ, ◌+◌, Bool, true, false, not, List, length, Option, Some, None, option_map, refl, sym, ap, ◌∙◌}
use Rattle.std.specs.Prelude.{slice_get, unwrap_or}
use Rattle.std.proofs.lemmas.Option.{none-some}
use Rattle.fancy_regex_tree.specs.Tree.{Tree}
use Rattle.fancy_regex_info.specs.Analysis.{analysis}
use Rattle.fancy_regex_info.specs.Infos.{InfoTree, expected_info}
use Rattle.fancy_regex_analysis.specs.NodeErrors.{is_invalid_node}
use Rattle.fancy_regex_info.specs.References.{is_read}
use Rattle.fancy_regex_info.specs.Views.{pattern_in}
use Rattle.fancy_regex_analysis.specs.EmittedParts.{itself}
use Rattle.fancy_regex_info.specs.declared.error.CompileError.{CompileError}
use Rattle.fancy_regex_info.specs.declared.error.CompileError.TheVariants.{FeatureNotYetSupported}
use Rattle.fancy_regex_info.specs.declared.options.BytesMode.{BytesMode}
use Rattle.fancy_regex_compiler.specs.Known.{groups_in}
use Rattle.fancy_regex_compiler.specs.Refusals.{TreeContext, IsBody, IsClear, IsReason, IsRefusal, IsReasonWhere, IsAnalyzed, IsExpandedPart}
use Rattle.fancy_regex_compiler.proofs.KnownLemmas.{groups_are, get_from, count_is}
use Rattle.fancy_regex_compiler.proofs.ClearLemmas.{part_node}
use Rattle.fancy_regex_compiler.proofs.RefusalLemmas.{root_stands}

abbrev plan_of : Bool → Tree → TreeContext
plan_of explicit t = record {
  groups = (pattern_in explicit t).groups;
  reads = is_read (length (pattern_in explicit t).groups) t;
  root = t;
}

body_at : (tree_context : TreeContext) (k : ℕ) (x : InfoTree) (n : ℕ) (o : Option Tree) → slice_get tree_context.groups k ≡ o →
    option_map (expected_info tree_context.groups tree_context.reads n) o ≡ Some x → IsBody tree_context k x
body_at tree_context k x n None found at = absurd (none-some _ at)
body_at tree_context k x n (Some body) found at = record {
  body = body;
  first = n;
  found = found;
  is = sym (ap (λ o. unwrap_or o x) at);
}

serves : (explicit : Bool) (t : Tree) (gs : List InfoTree) → gs ≡ groups_in (not explicit) (analysis explicit t) →
    IsClear (pattern_in explicit t).groups t → IsAnalyzed (plan_of explicit t) gs
serves explicit t gs is clear =
    let tree_context = plan_of explicit t in
    record {
      parts = clear.parts;
      nodes = λ some. absurd (let never : true ≡ false = sym (part_node (is_invalid_node (length tree_context.groups)) explicit t some) ∙ clear.nodes in cc);
      count = ap length is ∙ count_is explicit t;
      bodies = λ k x at.
          body_at tree_context k x (0 + k + 1) (slice_get tree_context.groups k) refl
          (sym (get_from tree_context.groups tree_context.reads 0 tree_context.groups k) ∙ ap (λ l. slice_get l k) (sym (is ∙ groups_are explicit t)) ∙ at);
    }

-- the contract of an error, for the tree
pub told_of : (u explicit : Bool) (t : Tree) (gs : List InfoTree) (x : InfoTree) (e : CompileError) → x ≡ analysis explicit t →
    gs ≡ groups_in (not explicit) x → IsClear (pattern_in explicit t).groups t → IsReasonWhere u gs (λ tree_context. IsExpandedPart tree_context true true false x) e →
    IsReason u (pattern_in explicit t).groups t e
told_of u explicit t gs x e is gathered clear told =
    let tree_context = plan_of explicit t in
    told tree_context (serves explicit t gs (gathered ∙ ap (groups_in (not explicit)) is) clear)
    (root_stands tree_context true true _ x (pattern_in explicit t).first_group is itself)

-- what holds of the tree holds of what the compiler answers
pub refusal : (mode : BytesMode) (u : Bool) (gs : List Tree) (root : Tree) (e : CompileError) → IsReason u gs root e → IsRefusal mode u gs root e
refusal mode u gs root (FeatureNotYetSupported feature) h = absurd h
refusal mode u gs root e h = h
