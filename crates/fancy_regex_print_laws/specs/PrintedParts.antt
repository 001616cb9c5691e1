-- Printed texts in their place: as a whole pattern or the body of a group, as a branch, as a piece, and before a quantifier.
use Rattle.std.specs.Prelude.{◌≡◌, ◌≤◌, ◌⊎◌, ℕ, Bool, true, false, not, ◌&&◌, ◌==◌, List, [], ◌∷◌, ◌++◌}
use Rattle.fancy_regex_text.specs.Text.{Text, ◌∈◌}
use Rattle.fancy_regex_tree.specs.Tree.{Tree}
use Rattle.fancy_regex_tree.specs.TreeBuilders.{is_empty_tree, branch_of, pattern_of}
use Rattle.fancy_regex_tree.specs.Quantifiers.{Atom}
use Rattle.fancy_regex_tree.specs.Parser.{Branches}
use Rattle.fancy_regex_tree.specs.Printed.{printed}
use Rattle.fancy_regex_tree.specs.NormalForm.{node_kind, normal_form}
use Rattle.fancy_regex_tree.specs.Printable.{can_be_repeated, is_printable, classes_read_back, printed_levels}
use Rattle.fancy_regex_grammar.specs.Patterns.{IsAtom, IsPiece, IsBranch, IsBranches, EndsBranch}
use Rattle.fancy_regex_meaning.specs.Ways.{Setting, MatchState, ways}
use Rattle.fancy_regex_print_laws.specs.ReprintLaws.{plain_mode, no_flags, CountsFit, with_groups_resolved}

-- no sign of a quantifier stands there
abbrev pub begins_no_quantifier : Text → Bool
begins_no_quantifier [] = true
begins_no_quantifier (c ∷ t) = not (c ∈ "?*+{")

abbrev pub is_sharp : Text → Bool
is_sharp [] = false
is_sharp (c ∷ t) = c == 0x23

abbrev pub is_question_and_sharp : Text → Bool
is_question_and_sharp [] = false
is_question_and_sharp (c ∷ t) = c == 0x3F && is_sharp t

-- a comment begins there
abbrev pub is_comment : Text → Bool
is_comment [] = false
is_comment (c ∷ t) = c == 0x28 && is_question_and_sharp t

-- neither a quantifier nor layout begins there
pub record PlainStart (t : Text) : Type 0 where
  pub quiet : begins_no_quantifier t ≡ true
  pub token : is_comment t ≡ false

-- the end of the text, or the parenthesis that closes
pub data Closing : Text → Type 0 where
  closing_end : Closing []
  closing_paren : {t : Text} → Closing (0x29 ∷ t)

-- After the text of a tree, at each precedence, stands `rest`; n more levels of groups may open there, and the whole pattern has `size`
-- bytes. What is read is the normal form of the tree once its groups are resolved. A piece or an atom is read of every tree but the empty
-- one, whose text is empty.
pub record ReadsInPlace (size n : ℕ) (unicode : Bool) (t : Tree) : Type 0 where
  -- precedence 0: a whole pattern, or the body of a group
  pub whole : (rest : Text) → Closing rest → printed_levels 0 t ≤ n →
      (body : Branches) × IsBranches (plain_mode size unicode) n false no_flags (printed 0 t ++ rest) body no_flags rest
      × (with_groups_resolved (pattern_of body) ≡ normal_form t)
  -- precedence 1: a branch
  pub branch : (rest : Text) → EndsBranch rest → printed_levels 1 t ≤ n →
      (pieces : List Tree) × IsBranch (plain_mode size unicode) n false no_flags (printed 1 t ++ rest) pieces no_flags rest
      × (with_groups_resolved (branch_of pieces) ≡ normal_form t)
  -- precedence 2: a piece of a concatenation
  pub piece : is_empty_tree t ≡ false → (rest : Text) → PlainStart rest → printed_levels 2 t ≤ n →
      (tree : Tree) × IsPiece (plain_mode size unicode) n false no_flags (printed 2 t ++ rest) tree no_flags rest
      × (with_groups_resolved tree ≡ normal_form t)
  -- precedence 3: an atom, before a quantifier where its normal form can be repeated
  pub atom : is_empty_tree t ≡ false → (rest : Text) → (can_be_repeated (node_kind (normal_form t)) ≡ true) ⊎ PlainStart rest → printed_levels 3 t ≤ n →
      (atom : Atom) × IsAtom (plain_mode size unicode) n false no_flags (printed 3 t ++ rest) atom no_flags rest
      × (with_groups_resolved atom.tree ≡ normal_form t)

-- where each class reads back unchanged, the normal form has the ordered matches of the tree from each position
abbrev pub KeepsWays : Setting → Tree → Type 0
KeepsWays s t = classes_read_back t ≡ true → (groups others : List Tree) (n : ℕ) (w : MatchState) → ways s groups n t w ≡ ways s others n (normal_form t) w

-- The printed text of a printable tree reads back in its place.
abbrev pub PartsReadBack : Type 0
PartsReadBack = (size n : ℕ) (unicode : Bool) (t : Tree) → is_printable t ≡ true → CountsFit t → ReadsInPlace size n unicode t

-- the same for one tree whose quantifier bounds are known to fit
abbrev pub TreePartsReadBack : Tree → Type 0
TreePartsReadBack t = (size n : ℕ) (unicode : Bool) → is_printable t ≡ true → ReadsInPlace size n unicode t

-- and its ways
abbrev pub PartsKeepWays : Setting → Type 0
PartsKeepWays s = (t : Tree) → is_printable t ≡ true → KeepsWays s t
