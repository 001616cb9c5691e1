-- What the matchers of characters answer.
use Rattle.std.specs.Prelude.{◌≡◌, ◌≢◌, ◌≤◌, ◌==◌, ℕ, Bool, List, IsSomeAnd, chars, encode_utf8, string_bytes}
use Rattle.std.specs.Char.{IsScalar}
use Rattle.regex_class.specs.Ranges.{in_ranges}
use Rattle.regex_hir.specs.declared.hir.Hir.{Hir}
use Rattle.regex_hir.specs.declared.hir.Hir.TheVariants.{Chars, Bytes, Literal}
use Rattle.regex_syntax.specs.Grammar.{Names, read}
use Rattle.regex_syntax.specs.Verdict.{default_config, Reads}
use Rattle.fancy_regex_tree.specs.Tree.{Text}
use Rattle.fancy_regex_class.specs.declared.class.ClassError.{ClassError}
use Rattle.fancy_regex_class.specs.declared.class.ClassError.TheVariants.{InnerError, Memory}
use Rattle.fancy_regex_class.specs.declared.class.CharClassMatcher.{CharClassMatcher}
use Rattle.fancy_regex_class.specs.declared.folding.CaseiLiteral.{CaseiLiteral}
use Rattle.fancy_regex_class.specs.Classes.{in_class, folded, class_text}

-- the matcher answers yes for the character
abbrev pub has : CharClassMatcher → ℕ → Bool
has m c = in_ranges m.class.ranges.items c

-- the matcher has the members of the class
abbrev pub IsMatcherOf : CharClassMatcher → Bool → Text → Bool → Type 0
IsMatcherOf m unicode class casei = (c : ℕ) → IsScalar c → has m c ≡ in_class unicode class casei c

-- the grammar of `regex` reads the text, within its limit on nesting
abbrev pub ReadsText : Text → Type 0
ReadsText text = IsSomeAnd (read default_config text) (λ (part, _). part.depth ≤ default_config.nest_limit)

-- the tree is no class, and no literal of one character
abbrev pub IsNoClass : Hir → Type 0
IsNoClass (Chars class) = ⊥
IsNoClass (Bytes class) = ⊥
IsNoClass (Literal bytes) = (c : ℕ) → IsScalar c → bytes.items ≢ encode_utf8 c
IsNoClass _ = Unit {0}

-- `regex` refuses the text for another cause than want of memory: its grammar does not read it; or the tree of the text is
-- neither a class nor a character, so that `regex` has to build it, and that may grow too big.
pub data RefusesText (text : Text) : Type 0 where
  by_grammar : (ReadsText text → ⊥) → RefusesText text
  by_builder : (source : List ℕ) (tree : Hir) (names : Names) → chars source ≡ text → Reads default_config source tree names → IsNoClass tree → RefusesText text

-- an error that a class may have
abbrev pub IsClassError : Bool → List ℕ → Bool → ClassError → Type 0
IsClassError unicode class casei (InnerError shown) =
    (string_bytes shown ≡ class) × RefusesText (class_text unicode casei (chars class))
IsClassError unicode class casei Memory = Unit {0}

-- the character folds to what the literal's does
abbrev pub equals_ignoring_case : CaseiLiteral → ℕ → Bool
equals_ignoring_case l c = folded l.unicode c == l.folded
