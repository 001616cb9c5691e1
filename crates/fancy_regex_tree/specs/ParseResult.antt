-- What the code returns, stated by the definitions.
use Rattle.std.specs.Prelude.{◌≡◌, ℕ, Bool, false, ◌&&◌, ◌+◌, ◌*◌, ◌≤◌, nat_le, List, length, Option, Some, None, is_some, String, Vec, Result, Ok, Err, chars}
use Rattle.std.specs.Global.{Global}
use Rattle.std.specs.BTreeMap.{BTreeMap, get_by_text}
use Rattle.std.specs.List.{list_any}
use Rattle.std.specs.Str.{IsUtf8}
use Rattle.std.specs.BTreeSet.{contains}
use Rattle.std.specs.Ordering.{nat_cmp}
use Rattle.fancy_regex_text.specs.ParseFault.{kind_of}
use Rattle.fancy_regex_tree.specs.declared.error.Error.{Error}
use Rattle.fancy_regex_tree.specs.declared.error.Error.TheVariants.{ParseError, Memory}
use Rattle.fancy_regex_tree.specs.declared.expr_tree.ExprTree.{ExprTree}
use Rattle.fancy_regex_tree.specs.declared.parse.GroupSummary.{GroupSummary}
use Rattle.fancy_regex_tree.specs.declared.parse.ReferenceSummary as code
use Rattle.fancy_regex_tree.specs.Tree.{Text, Tree, tree_of}
use Rattle.fancy_regex_tree.specs.Traversal.{nodes}
use Rattle.fancy_regex_tree.specs.Bounds as bounds
use Rattle.fancy_regex_tree.specs.Numbering.{PositionedFault, openings, counted, same_text, numbers_of, numbers_under}
use Rattle.fancy_regex_tree.specs.Parse.{Parsed}
use Rattle.fancy_regex_tree.specs.ReferenceSummary.{total_groups, is_backref, contains_subroutines, reference_above_total, named_backref_only, calls_whole, is_numbered, is_call}
use Rattle.fancy_regex_tree.specs.ReferenceSummary.{is_reference_above, is_call_of_whole, refers_to}

-- a group has this name
abbrev pub carries : Text → Option Text → Bool
carries name None = false
carries name (Some other) = same_text other name

-- the map has a key with these bytes
abbrev pub has_key : BTreeMap (String Global) (Vec ℕ Global) → List ℕ → Bool
has_key m bs = is_some (get_by_text m bs)

-- the parsed pattern is the defined one; a name is a key exactly if a numbered group has it
pub record IsExprTreeOf (e : ExprTree) (found : Parsed) : Type 0 where
  pub tree : tree_of e.expr ≡ found.tree
  pub named : (q : List ℕ) → IsUtf8 q → numbers_under e.named_groups q ≡ numbers_of (chars q) 0 found.names
  pub keys : (q : List ℕ) → IsUtf8 q → has_key e.named_groups q ≡ list_any (carries (chars q)) found.names
  pub total : e.total_groups ≡ total_groups found
  pub backrefs : (k : ℕ) → contains nat_cmp e.backrefs k ≡ is_backref found k
  pub subroutines : e.contains_subroutines ≡ contains_subroutines found
  pub above : e.reference_above_total ≡ reference_above_total found
  pub by_number : e.named_backref_only ≡ named_backref_only found
  pub whole : e.calls_whole ≡ calls_whole found

-- the result is the defined pattern, or the defined error, or memory ran out
abbrev pub IsParsed : Result ExprTree Error → Result Parsed PositionedFault → Type 0
IsParsed (Ok e) defined = (found : Parsed) × (defined ≡ Ok found) × IsExprTreeOf e found
IsParsed (Err (ParseError position kind)) defined = defined ≡ Err (record { kind = kind_of kind; position = position })
IsParsed (Err Memory) defined = Unit {0}

-- the byte offset of an error is at most this
abbrev pub IsWithin : ℕ → Error → Type 0
IsWithin size (ParseError position kind) = position ≤ size
IsWithin size Memory = Unit {0}

-- the tree of a pattern of this many bytes has at most 2n + 1 nodes and no path of more than 832; the byte offset of an error is at most n
abbrev pub IsBounded : ℕ → Result ExprTree Error → Type 0
IsBounded size (Ok e) = (bounds.nodes (tree_of e.expr) ≤ 2 * size + 1) × (bounds.depth (tree_of e.expr) ≤ 832)
IsBounded size (Err e) = IsWithin size e

-- the groups of a tree whose references are not resolved
pub record IsGroupSummary (ignore : Bool) (t : Tree) (g : GroupSummary) : Type 0 where
  pub ignored : g.ignored ≡ (ignore && list_any is_some (openings t))
  pub named : (q : List ℕ) → IsUtf8 q → numbers_under g.named q ≡ numbers_of (chars q) 0 (counted g.ignored (openings t))
  pub keys : (q : List ℕ) → IsUtf8 q → has_key g.named q ≡ list_any (carries (chars q)) (counted g.ignored (openings t))
  pub total : g.total ≡ length (counted g.ignored (openings t))
  pub numbered : g.numbered ≡ list_any is_numbered (nodes t)

-- the summary of the references of a tree with so many groups
pub record IsReferenceSummary (total : ℕ) (t : Tree) (m : code.ReferenceSummary) : Type 0 where
  pub backrefs : (k : ℕ) → contains nat_cmp m.backrefs k ≡ (nat_le k total && list_any (refers_to k) (nodes t))
  pub subroutines : m.contains_subroutines ≡ list_any is_call (nodes t)
  pub above : m.reference_above_total ≡ list_any (is_reference_above total) (nodes t)
  pub whole : m.calls_whole ≡ list_any is_call_of_whole (nodes t)
