-- Marks of the groups that are called, and tables of what calls become.
use Rattle.std.specs.Prelude.{◌≡◌, ◌<◌, ℕ, suc, ◌+◌, Bool, true, false, List, [], ◌++◌, length, slice_get, Option, Some, None, Vec}
use Rattle.std.specs.Global.{Global}
use Rattle.fancy_regex_tree.specs.Tree.{Tree, Trees, Text}
use Rattle.fancy_regex_meaning.specs.Sizes.{target}
use Rattle.fancy_regex_info.specs.AnalysisRelations.{AreCallSizes, mark_at}
use Rattle.fancy_regex_linear.specs.Re.{shape}
use Rattle.fancy_regex_linear.specs.Plain.{IsRegular, AreRegular, classes, re_of}
use Rattle.fancy_regex_linear.specs.Calls.{greatest_nesting, IsCallable, IsWrittenOut, IsCalled}
use Rattle.fancy_regex_linear.specs.CalledClasses.{HasCall, IsReached}
use Rattle.fancy_regex_linear.specs.Easy.{HaveMatchers}
use Rattle.fancy_regex_linear.specs.Translation.{AddsMatchers, called_in, is_made}
use Rattle.fancy_regex_linear.specs.declared.build.Translator.{Translator}
use Rattle.fancy_regex_linear.specs.declared.callee.Callee.{Callee}

-- there are as many marks, and those that are set stay so
pub record KeepsMarks (before after : List Bool) : Type 0 where
  pub same : length after ≡ length before
  pub stay : (j : ℕ) → mark_at before j ≡ true → mark_at after j ≡ true

-- each group that a tree calls is marked, if it has a mark
abbrev pub AllMarked : List Bool → Tree → Type 0
AllMarked marks t = IsRegular true (λ j. j < length marks) t → IsRegular true (λ j. mark_at marks j ≡ true) t

abbrev pub RowMarked : List Bool → Trees → Type 0
RowMarked marks ts = AreRegular true (λ j. j < length marks) ts → AreRegular true (λ j. mark_at marks j ≡ true) ts

-- what is called from the bodies of marked groups is marked in the next table
pub record FollowsMarks (groups : List Tree) (marks next : List Bool) : Type 0 where
  pub long : length next ≡ length groups
  pub all : (j : ℕ) (body : Tree) → target groups j ≡ Some body → mark_at marks j ≡ true → AllMarked next body

-- the group is called from the body of a marked one
abbrev pub IsCalledFrom : List Tree → List Bool → ℕ → Type 0
IsCalledFrom groups marks j = (i : ℕ) × (body : Tree) × (mark_at marks i ≡ true) × (target groups i ≡ Some body) × HasCall j body

-- the table of a level; none past the last
abbrev pub marks_or_none : Option (Vec Bool Global) → List Bool
marks_or_none None = []
marks_or_none (Some marks) = marks.items

abbrev pub marks_at : List (Vec Bool Global) → ℕ → List Bool
marks_at tables level = marks_or_none (slice_get tables level)

-- The tables of marks, level by level, as deep as calls may nest: what the tree calls, what is called from there, and so on.
pub record AreLevels (groups : List Tree) (nesting : ℕ) (root : Tree) (tables : List (Vec Bool Global)) : Type 0 where
  pub count : length tables ≡ nesting + 1
  pub long : length (marks_at tables 0) ≡ length groups
  pub first : AllMarked (marks_at tables 0) root
  pub next : (level : ℕ) → level < nesting → FollowsMarks groups (marks_at tables level) (marks_at tables (suc level))
  pub reached : (level j : ℕ) → mark_at (marks_at tables level) j ≡ true → IsReached groups root j

-- each call that is known is one of this depth
abbrev pub AreCalled : List Tree → Bool → List (Text × Bool) → ℕ → List (Option Callee) → Type 0
AreCalled groups unicode cs depth called = (j : ℕ) → is_made called j ≡ true → IsCalled groups unicode cs depth j (called_in called j)

-- each marked call of this depth is known
abbrev pub AreKnown : List Tree → ℕ → List Bool → List (Option Callee) → Type 0
AreKnown groups depth marks called = (j : ℕ) → mark_at marks j ≡ true → IsCallable groups depth j → is_made called j ≡ true

-- What a call of a group becomes, if it is called and each call in its body is known: the body is translated.
abbrev pub IsCalleeOf : List Bool → Bool → Tree → ℕ → Translator → Translator → Option Callee → Type 0
IsCalleeOf known is_called body group before after None =
    (after.matchers ≡ before.matchers) × (is_called ≡ true → IsRegular false (λ i. mark_at known i ≡ true) body → ⊥)
IsCalleeOf known is_called body group before after (Some callee) =
    AddsMatchers before after (classes body) × IsRegular false (λ i. mark_at known i ≡ true) body
    × ((groups : List Tree) → AreCallSizes groups before.sizes.items
    → shape callee.node ≡ re_of before.unicode groups (called_in before.called.items) (group + 1) (length before.matchers.items) body)

-- One level more: the translator appended matchers of some classes. It is known what the marked groups below this number become, where it was
-- known of the calls in their bodies.
pub record MakesLevel (groups : List Tree) (marks : List Bool) (before after : Translator) (next : List (Option Callee)) (count : ℕ) : Type 0 where
  pub unicode : after.unicode ≡ before.unicode
  pub tables : (after.sizes ≡ before.sizes) × (after.called ≡ before.called)
  pub more : List (Text × Bool)
  pub serve : (cs : List (Text × Bool)) → HaveMatchers before.unicode before.matchers.items cs
      → HaveMatchers before.unicode after.matchers.items (cs ++ more)
  pub called : (cs : List (Text × Bool)) (depth : ℕ) → AreCallSizes groups before.sizes.items → HaveMatchers before.unicode before.matchers.items cs
      → AreCalled groups before.unicode cs depth before.called.items → AreCalled groups before.unicode (cs ++ more) (suc depth) next
  pub known : (depth : ℕ) (below : List Bool) → FollowsMarks groups marks below → AreKnown groups depth below before.called.items
      → (j : ℕ) → j < count → mark_at marks j ≡ true → IsCallable groups (suc depth) j → is_made next j ≡ true

-- The bodies of the groups that are called were translated, level by level, so that each call of a regular tree is known.
pub record WritesCalls (groups : List Tree) (root : Tree) (unicode : Bool) (translator : Translator) : Type 0 where
  pub all_classes : List (Text × Bool)
  pub matchers : HaveMatchers unicode translator.matchers.items all_classes
  pub calls : (resets : Bool) → IsWrittenOut groups resets root
      → IsRegular resets (λ j. IsCalled groups unicode all_classes (greatest_nesting (length groups)) j (called_in translator.called.items j)) root
