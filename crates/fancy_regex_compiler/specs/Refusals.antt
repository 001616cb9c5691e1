-- Which causes the compiler answers.
use Rattle.std.specs.Prelude.{◌≡◌, ℕ, ◌<◌, ◌≤◌, Bool, true, false, not, ◌&&◌, if◌then◌else◌, List, chars, codes, string_bytes, bytes_eq, length, slice_get, Some, is_some, IsTrue}
use Rattle.std.specs.List.{Contains}
use Rattle.fancy_regex_tree.specs.Tree.{Text, Tree, any, assertion, general_newline, literal, literal_bytes, delegate, backref, backref_with_level, keep_out, continue, backref_exists, verb, absent_repeater}
use Rattle.fancy_regex_tree.specs.declared.expr.LookAround.{LookAround}
use Rattle.fancy_regex_tree.specs.declared.expr.LookAround.TheVariants.{LookAhead, LookAheadNeg, LookBehind, LookBehindNeg}
use Rattle.fancy_regex_tree.specs.declared.expr.BacktrackingControlVerb.{BacktrackingControlVerb}
use Rattle.fancy_regex_class.specs.Classes.{class_text, is_read}
use Rattle.fancy_regex_class.specs.Matchers.{RefusesText}
use Rattle.fancy_regex_meaning.specs.Sizes.{size, target}
use Rattle.fancy_regex_info.specs.Infos.{InfoTree, info_of, expected_info}
use Rattle.fancy_regex_analysis.specs.NodeErrors.{some_node, is_invalid_node, is_no_group}
use Rattle.fancy_regex_analysis.specs.UnsupportedParts.{is_fixed_length, is_unsupported, unsupported_feature_in}
use Rattle.fancy_regex_analysis.specs.EmittedParts.{in_look_around, some_emitted, emitted_calls, IsWhole, SomeEmittedPart}
use Rattle.fancy_regex_info.specs.declared.options.BytesMode.{BytesMode}
use Rattle.fancy_regex_info.specs.declared.options.BytesMode.TheVariants.{Unicode}
use Rattle.fancy_regex_info.specs.declared.error.CompileError.{CompileError}
use Rattle.fancy_regex_info.specs.declared.error.CompileError.TheVariants.{InnerError, InvalidBackref, FeatureNotYetSupported, PatternTooComplex, UnresolvedAstNode, Memory}
use Rattle.fancy_regex_info.specs.declared.info.Info.{Info}
use Rattle.fancy_regex_compiler.specs.Known.{tree_in}

-- The type that a function takes, and the type of the items that it lists: so the types are named here that are private to the
-- analysis.
abbrev pub TakenBy : {A B : Type 0} → (A → B) → Type 0
TakenBy {A} f = A

abbrev pub ListedBy : {A B C : Type 0} → (A → B → List C) → Type 0
ListedBy {C = C} f = C

-- what a part of the pattern stands inside of: nothing, a look-around or an absent operator
abbrev pub Inside : Type 0
Inside = TakenBy in_look_around

-- a subroutine call that instructions are emitted for, with what it stands inside of
abbrev pub EmittedCall : Type 0
EmittedCall = ListedBy emitted_calls

-- want of memory, or too many instructions
abbrev pub IsMemoryOrTooComplex : CompileError → Type 0
IsMemoryOrTooComplex PatternTooComplex = Unit {0}
IsMemoryOrTooComplex Memory = Unit {0}
IsMemoryOrTooComplex _ = ⊥

-- a feature that is not supported, or want of memory to say so
abbrev pub IsMissing : CompileError → Type 0
IsMissing (FeatureNotYetSupported feature) = Unit {0}
IsMissing Memory = Unit {0}
IsMissing _ = ⊥

-- a feature that is not supported, in these words, or want of memory to say so
abbrev pub IsMissingAs : List ℕ → CompileError → Type 0
IsMissingAs words (FeatureNotYetSupported feature) = string_bytes feature ≡ words
IsMissingAs words Memory = Unit {0}
IsMissingAs words _ = ⊥

-- the words for bytes that are not seen as Unicode
abbrev pub other_bytes : List ℕ
other_bytes = codes "bytes mode"

-- inside of this no start is kept
abbrev pub KeepsNone : Inside → Type 0
KeepsNone i = is_some (unsupported_feature_in i keep_out) ≡ true

-- inside of this nothing is absent
abbrev pub NoneAbsent : Inside → Type 0
NoneAbsent i = (t : Tree) → is_some (unsupported_feature_in i (absent_repeater t)) ≡ true

-- No program is made of the node, wherever it stands, or wherever no start is kept.
abbrev pub HasNoInstruction : Bool → Tree → Type 0
HasNoInstruction keeps t = (i : Inside) → (keeps ≡ false → KeepsNone i) → is_some (unsupported_feature_in i t) ≡ true

-- why a reference to the group has no slot, where there are so many groups
abbrev pub IsNoGroup : ℕ → ℕ → CompileError → Type 0
IsNoGroup count k (InvalidBackref n) = is_no_group count k ≡ true
IsNoGroup count k e = IsMemoryOrTooComplex e

-- why the node has no instruction of its own
abbrev pub IsUnfit : Tree → CompileError → Type 0
IsUnfit t (FeatureNotYetSupported feature) = HasNoInstruction true t
IsUnfit t e = IsMemoryOrTooComplex e

-- why the control verb has none
abbrev pub IsNoVerb : BacktrackingControlVerb → CompileError → Type 0
IsNoVerb v e = IsUnfit (verb v) e

-- why the class has no matcher
abbrev pub IsNoClass : Bool → Text → Bool → CompileError → Type 0
IsNoClass unicode text casei (InnerError shown) = (chars (string_bytes shown) ≡ text) × RefusesText (class_text unicode casei text)
IsNoClass unicode text casei e = IsMemoryOrTooComplex e

-- the node is the class with this text, where case counts or is disregarded
abbrev pub is_class : Text → Bool → Tree → Bool
is_class text casei (delegate inner c) = bytes_eq inner text && (if casei then c else not c)
is_class text casei t = false

-- The node is the class with the shown text, which `regex` may refuse.
pub record IsRefusedClass (unicode : Bool) (t : Tree) (shown : Text) : Type 0 where
  pub casei : Bool
  pub is_it : is_class shown casei t ≡ true
  pub refused : RefusesText (class_text unicode casei shown)

-- a node of a kind that has one instruction, or none at all
abbrev pub is_single : Tree → Bool
is_single (any newline crlf) = true
is_single (assertion a) = true
is_single (general_newline unicode) = true
is_single (literal_bytes bytes) = true
is_single (delegate inner casei) = true
is_single (backref k casei) = true
is_single (backref_with_level k level casei) = true
is_single continue = true
is_single (backref_exists k level) = true
is_single (verb v) = true
is_single t = false

-- a node of a kind without children, which stands for itself
abbrev pub is_leaf : Tree → Bool
is_leaf (literal val casei) = true
is_leaf keep_out = true
is_leaf t = is_single t

-- why a node has no instruction, where there are so many groups and nodes of these kinds may have one
abbrev pub IsNoNode : (Tree → Bool) → Bool → ℕ → Bool → Tree → CompileError → Type 0
IsNoNode kinds unicode count keeps t (InnerError shown) = IsRefusedClass unicode t (chars (string_bytes shown))
IsNoNode kinds unicode count keeps t (InvalidBackref n) = is_invalid_node count t ≡ true
IsNoNode kinds unicode count keeps t (FeatureNotYetSupported feature) = HasNoInstruction keeps t
IsNoNode kinds unicode count keeps t UnresolvedAstNode = kinds t ≡ false
IsNoNode kinds unicode count keeps t e = IsMemoryOrTooComplex e

-- of those with one instruction
abbrev pub IsNoSingle : Bool → ℕ → Tree → CompileError → Type 0
IsNoSingle unicode count = IsNoNode is_single unicode count true

-- of those without children
abbrev pub IsNoLeaf : Bool → ℕ → Bool → Tree → CompileError → Type 0
IsNoLeaf = IsNoNode is_leaf

-- No cause holds of a node of the tree, and each part that is written out is one that programs are made of.
pub record IsClear (groups : List Tree) (root : Tree) : Type 0 where
  pub nodes : some_node (is_invalid_node (length groups)) root ≡ false
  pub parts : SomeEmittedPart groups root (is_unsupported (size groups)) → ⊥

-- A class with the shown text is written out, and `regex` may refuse it.
pub record ShowsClass (unicode : Bool) (groups : List Tree) (root : Tree) (shown : Text) : Type 0 where
  pub casei : Bool
  pub is_there : SomeEmittedPart groups root (λ _. is_class shown casei)
  pub refused : RefusesText (class_text unicode casei shown)

-- The grammar of `regex` reads each class that is written out.
abbrev pub ReadsClasses : Bool → List Tree → Tree → Type 0
ReadsClasses unicode groups root = (casei : Bool) (text : Text) → SomeEmittedPart groups root (λ _. is_class text casei) →
    IsTrue (is_read (class_text unicode casei text))

-- why there is no program of a tree that is clear
abbrev pub IsReason : Bool → List Tree → Tree → CompileError → Type 0
IsReason unicode groups root (InnerError shown) = ShowsClass unicode groups root (chars (string_bytes shown))
IsReason unicode groups root e = IsMemoryOrTooComplex e

-- the same of what the compiler answers, which reads no bytes
abbrev pub IsRefusal : BytesMode → Bool → List Tree → Tree → CompileError → Type 0
IsRefusal mode unicode groups root (FeatureNotYetSupported feature) = (string_bytes feature ≡ other_bytes) × (mode ≡ Unicode → ⊥)
IsRefusal mode unicode groups root e = IsReason unicode groups root e

-- what the compiler goes by: the bodies of the groups, which of them are read, and the whole tree
pub record TreeContext : Type 0 where
  pub groups : List Tree
  pub reads : ℕ → Bool
  pub root : Tree

-- what is known of the body of the group k
pub record IsBody (tree_context : TreeContext) (k : ℕ) (x : InfoTree) : Type 0 where
  pub body : Tree
  pub first : ℕ
  pub found : target tree_context.groups k ≡ Some body
  pub is : x ≡ expected_info tree_context.groups tree_context.reads first body

-- The whole tree is clear, and this is known of the bodies of its groups.
pub record IsAnalyzed (tree_context : TreeContext) (infos : List InfoTree) : Type 0 where
  pub parts : SomeEmittedPart tree_context.groups tree_context.root (is_unsupported (size tree_context.groups)) → ⊥
  pub nodes : SomeEmittedPart tree_context.groups tree_context.root (λ _. is_invalid_node (length tree_context.groups)) → ⊥
  pub count : length infos ≡ length tree_context.groups
  pub bodies : (k : ℕ) (x : InfoTree) → slice_get infos k ≡ Some x → IsBody tree_context k x

-- The tree is written out as a part of the whole, inside of what keeps no start or lets nothing be absent where this is said;
-- after a place it is steady.
pub record ExpandedPart (tree_context : TreeContext) (keeps absents steps_back : Bool) (x : InfoTree) (t : Tree) : Type 0 where
  pub inside : Inside
  pub enclosed : keeps ≡ false → KeepsNone inside
  pub excluded : absents ≡ false → NoneAbsent inside
  pub first : ℕ
  pub is : x ≡ expected_info tree_context.groups tree_context.reads first t
  pub parts : (test : Inside → Tree → Bool) → some_emitted test inside t ≡ true → SomeEmittedPart tree_context.groups tree_context.root test
  pub calls : (call : EmittedCall) (body : Tree) → Contains (emitted_calls inside t) call → target tree_context.groups call.group ≡ Some body →
      IsWhole tree_context.groups tree_context.root call.inside body
  pub steady : steps_back ≡ true → is_fixed_length (size tree_context.groups) t ≡ true

abbrev pub IsExpandedPart : TreeContext → Bool → Bool → Bool → InfoTree → Type 0
IsExpandedPart tree_context keeps absents steps_back x = ExpandedPart tree_context keeps absents steps_back x (tree_in x)

abbrev pub AreExpandedParts : TreeContext → Bool → Bool → Bool → List Info → Type 0
AreExpandedParts tree_context keeps absents steps_back xs = (k : ℕ) (x : Info) → slice_get xs k ≡ Some x → IsExpandedPart tree_context keeps absents steps_back (info_of x)

-- the tree, which stands as such a part
pub record IsExpandedBody (tree_context : TreeContext) (keeps absents steps_back : Bool) (t : Tree) (x : InfoTree) : Type 0 where
  pub part : IsExpandedPart tree_context keeps absents steps_back x
  pub is : tree_in x ≡ t

-- a repeat with these counts, whose child stands where it is run at all
pub record IsExpandedRepeat (tree_context : TreeContext) (keeps absents : Bool) (lo hi : ℕ) (x : InfoTree) : Type 0 where
  pub counts : lo ≤ hi
  pub child : (hi ≡ 0 → ⊥) → IsExpandedPart tree_context keeps absents false x

-- an absent repeater, which stands where something may be absent
pub record IsExpandedAbsent (tree_context : TreeContext) (absents : Bool) (x : InfoTree) : Type 0 where
  pub fits : absents ≡ false → ⊥
  pub child : IsExpandedPart tree_context false false false x

-- a conditional's parts; its condition is this tree
pub record IsExpandedConditional (tree_context : TreeContext) (keeps absents : Bool) (t : Tree) (c a b : InfoTree) : Type 0 where
  pub condition : IsExpandedBody tree_context keeps absents false t c
  pub yes : IsExpandedPart tree_context keeps absents false a
  pub no : IsExpandedPart tree_context keeps absents false b

-- the target of a call
pub record IsExpandedTarget (tree_context : TreeContext) (keeps absents : Bool) (infos : List InfoTree) (k : ℕ) : Type 0 where
  pub is_there : k < length infos
  pub body : (x : InfoTree) → slice_get infos k ≡ Some x → IsExpandedPart tree_context keeps absents false x

abbrev pub looks_behind : LookAround → Bool
looks_behind LookAhead = false
looks_behind LookAheadNeg = false
looks_behind LookBehind = true
looks_behind LookBehindNeg = true

-- The error is one of a clear tree, wherever that of which this is said stands in one.
abbrev pub IsReasonWhere : Bool → List InfoTree → (TreeContext → Type 0) → CompileError → Type 0
IsReasonWhere unicode infos Stand e = (tree_context : TreeContext) → IsAnalyzed tree_context infos → Stand tree_context → IsReason unicode tree_context.groups tree_context.root e
