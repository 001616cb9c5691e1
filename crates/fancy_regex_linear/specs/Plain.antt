-- Plain trees, and the patterns of two branches at most that they become.
use Rattle.std.specs.Prelude.{◌≡◌, ◌≢◌, ℕ, ◌+◌, Bool, true, false, not, ◌&&◌, List, [], ◌∷◌, ◌++◌, map, length, Option, Some, None, slice_index, if◌then◌else◌, ◌==◌}
use Rattle.fancy_regex_tree.specs.Tree.{Tree, Trees, Text, empty, any, assertion, general_newline, literal, concat, alt, group, look_around, repeat, delegate, atomic_group, conditional, verb, keep_out, continue, define_group, subroutine_call, no_trees, more_trees}
use Rattle.fancy_regex_tree.specs.declared.expr.Assertion.{Assertion}
use Rattle.fancy_regex_tree.specs.declared.expr.Assertion.TheVariants as A
use Rattle.fancy_regex_tree.specs.declared.expr.BacktrackingControlVerb.{BacktrackingControlVerb}
use Rattle.fancy_regex_tree.specs.declared.expr.BacktrackingControlVerb.TheVariants.{Fail}
use Rattle.fancy_regex_tree.specs.declared.expr.LookAround.{LookAround}
use Rattle.fancy_regex_tree.specs.declared.expr.LookAround.TheVariants as L
use Rattle.fancy_regex_meaning.specs.Groups.{group_count}
use Rattle.fancy_regex_meaning.specs.Sizes.{size}
use Rattle.fancy_regex_class.specs.Classes.{folded}
use Rattle.fancy_regex_linear.specs.Re as re
use Rattle.fancy_regex_linear.specs.Re.{Re}
use Rattle.fancy_regex_linear.specs.Program.{never_empty}
use Rattle.fancy_regex_states.specs.declared.atom.Leaf.{Leaf}
use Rattle.fancy_regex_states.specs.declared.atom.Leaf.TheVariants.{Any, Char, Folded, Class}
use Rattle.fancy_regex_states.specs.declared.atom.Test.{Test}
use Rattle.fancy_regex_states.specs.declared.atom.Test.TheVariants.{StartText, EndText, StartLine, EndLine, WordBoundary, NotWordBoundary, LeftWordBoundary, RightWordBoundary, LeftWordHalfBoundary, RightWordHalfBoundary, StartLineOniguruma, Never, Continue, LookAhead, LookAheadNeg, LookBehind, LookBehindNeg}

-- the test of an assertion that the linear engine supports
abbrev pub test_of : Assertion → Option Test
test_of A.StartText = Some StartText
test_of A.EndText = Some EndText
test_of (A.StartLine crlf) = Some (StartLine crlf)
test_of (A.EndLine crlf) = Some (EndLine crlf)
test_of A.WordBoundary = Some WordBoundary
test_of A.NotWordBoundary = Some NotWordBoundary
test_of A.LeftWordBoundary = Some LeftWordBoundary
test_of A.RightWordBoundary = Some RightWordBoundary
test_of A.LeftWordHalfBoundary = Some LeftWordHalfBoundary
test_of A.RightWordHalfBoundary = Some RightWordHalfBoundary
test_of (A.StartLineOniguruma crlf) = Some (StartLineOniguruma crlf)
test_of (A.EndTextIgnoreTrailingNewlines crlf) = None

-- whether `\r\n` too is a newline before the end of the text, for `\Z`
abbrev pub ends_by_crlf : Assertion → Bool
ends_by_crlf (A.EndTextIgnoreTrailingNewlines crlf) = crlf
ends_by_crlf _ = false

abbrev pub IsServed : Option Test → Type 0
IsServed None = ⊥
IsServed (Some test) = Unit {0}

-- a tree that reads one character
abbrev pub IsOneChar : Tree → Type 0
IsOneChar (any newline crlf) = Unit {0}
IsOneChar (literal val casei) = Unit {0}
IsOneChar (delegate class casei) = Unit {0}
IsOneChar _ = ⊥

-- the trees that the linear engine supports: look-arounds are tests of the one character that they read
abbrev mutual
  pub IsPlain : Tree → Type 0
  IsPlain empty = Unit {0}
  IsPlain (any newline crlf) = Unit {0}
  IsPlain (literal val casei) = Unit {0}
  IsPlain (delegate class casei) = Unit {0}
  IsPlain (assertion a) = IsServed (test_of a)
  IsPlain (concat ts) = ArePlain ts
  IsPlain (alt ts) = (ts ≢ no_trees) × ArePlain ts
  IsPlain (group t) = IsPlain t
  IsPlain (look_around t how) = IsOneChar t
  IsPlain (repeat t lo hi greedy) = IsPlain t
  IsPlain _ = ⊥

  pub ArePlain : Trees → Type 0
  ArePlain no_trees = Unit {0}
  ArePlain (more_trees t ts) = IsPlain t × ArePlain ts

-- the verb that never matches
abbrev pub IsFail : BacktrackingControlVerb → Type 0
IsFail Fail = Unit {0}
IsFail _ = ⊥

-- a repeat that has no iteration at all: nothing is made of its body
abbrev pub has_no_iteration : ℕ → ℕ → Bool
has_no_iteration lo hi = (lo == 0) && (hi == 0)

-- Trees that become a pattern with parts, where it is known of which groups the calls do: plain ones, `\R`, `\Z`, `\G`, those that never
-- match, definitions of groups, which match the empty string, and look-arounds, atomic groups and conditionals over any such trees. What is
-- repeated no times may be anything. `\K` is one where it may reset the start of the match: not in a look-around, which keeps the start.
abbrev mutual
  pub IsRegular : Bool → (ℕ → Type 0) → Tree → Type 0
  IsRegular resets called empty = Unit {0}
  IsRegular resets called (any newline crlf) = Unit {0}
  IsRegular resets called (literal val casei) = Unit {0}
  IsRegular resets called (delegate class casei) = Unit {0}
  IsRegular resets called (general_newline wide) = Unit {0}
  IsRegular resets called (assertion a) = Unit {0}
  IsRegular resets called (concat ts) = AreRegular resets called ts
  IsRegular resets called (alt ts) = (ts ≢ no_trees) × AreRegular resets called ts
  IsRegular resets called (group t) = IsRegular resets called t
  IsRegular resets called (look_around t how) = IsRegular false called t
  IsRegular resets called (atomic_group t) = IsRegular resets called t
  IsRegular resets called (conditional c a b) = IsRegular resets called c × (IsRegular resets called a × IsRegular resets called b)
  IsRegular resets called (define_group t) = Unit {0}
  IsRegular resets called (verb v) = IsFail v
  IsRegular resets called keep_out = resets ≡ true
  IsRegular resets called continue = Unit {0}
  IsRegular resets called (subroutine_call j) = called j
  IsRegular resets called (repeat t lo hi greedy) = has_no_iteration lo hi ≡ false → IsRegular resets called t
  IsRegular resets called _ = ⊥

  pub AreRegular : Bool → (ℕ → Type 0) → Trees → Type 0
  AreRegular resets called no_trees = Unit {0}
  AreRegular resets called (more_trees t ts) = IsRegular resets called t × AreRegular resets called ts

abbrev pub unless : Bool → Re → Re
unless true x = re.nothing
unless false x = x

-- the class of a tree that reads one character
abbrev pub char_classes : Tree → List (Text × Bool)
char_classes (delegate class casei) = (class, casei) ∷ []
char_classes _ = []

-- the classes of such a tree in order: the text of each, and whether case is disregarded
unfoldable mutual
  pub classes : Tree → List (Text × Bool)
  classes (delegate class casei) = (class, casei) ∷ []
  classes (concat ts) = row_classes ts
  classes (alt ts) = row_classes ts
  classes (group t) = classes t
  classes (look_around t how) = classes t
  classes (atomic_group t) = classes t
  classes (conditional c a b) = classes c ++ (classes a ++ classes b)
  classes (repeat t lo hi greedy) = if has_no_iteration lo hi then [] else classes t
  classes _ = []

  pub row_classes : Trees → List (Text × Bool)
  row_classes no_trees = []
  row_classes (more_trees t ts) = classes t ++ row_classes ts

-- these characters break a line, and are not `\r`
abbrev pub line_breaks : Bool → List ℕ
line_breaks wide = 10 ∷ 11 ∷ 12 ∷ (if wide then 0x85 ∷ 0x2028 ∷ 0x2029 ∷ [] else [])

abbrev pub read_each : List ℕ → List Re
read_each = map (λ d. re.read (Char d))

-- `\R`: `\r\n`, `\r` without `\n` after it, or another line break; at most one of these has a way
abbrev pub newline_re : Bool → Re
newline_re wide =
    re.alts (re.cats (re.read (Char 13) ∷ re.read (Char 10) ∷ [])
    ∷ re.cats (re.read (Char 13) ∷ re.test (LookAheadNeg (Char 10)) ∷ [])
    ∷ read_each (line_breaks wide))

-- a newline before the end of the text
abbrev pub last_newline : Bool → Re
last_newline false = re.read (Char 10)
last_newline true = re.alt (re.read (Char 10)) (re.cats (re.read (Char 13) ∷ re.read (Char 10) ∷ []))

-- `\Z`: a look-ahead for newlines up to the end of the text, where a line ends and no `\n` follows
abbrev pub text_end_re : Bool → Re
text_end_re crlf =
    re.ask false 0 (re.cats (re.repeat 0 18446744073709551615 true true (last_newline crlf)
    ∷ re.test (EndLine false)
    ∷ re.test (LookAheadNeg (Char 10)) ∷ []))

-- an assertion with its test; `\Z` has none
abbrev pub served : Assertion → Option Test → Re
served a None = text_end_re (ends_by_crlf a)
served a (Some test) = re.test test

-- the test of a tree that reads one character, whose class has this number
abbrev pub char_leaf : Bool → ℕ → Tree → Option Leaf
char_leaf unicode k (any newline crlf) = Some (Any newline crlf)
char_leaf unicode k (literal val casei) = Some (if casei then Folded (folded unicode (slice_index val 0)) else Char (slice_index val 0))
char_leaf unicode k (delegate class casei) = Some (Class k)
char_leaf unicode k _ = None

-- the assertion of a look-around for one character
abbrev pub look_test : LookAround → Leaf → Test
look_test L.LookAhead leaf = LookAhead leaf
look_test L.LookAheadNeg leaf = LookAheadNeg leaf
look_test L.LookBehind leaf = LookBehind leaf
look_test L.LookBehindNeg leaf = LookBehindNeg leaf

abbrev pub is_negated_look : LookAround → Bool
is_negated_look L.LookAhead = false
is_negated_look L.LookAheadNeg = true
is_negated_look L.LookBehind = false
is_negated_look L.LookBehindNeg = true

abbrev pub is_look_behind : LookAround → Bool
is_look_behind L.LookAhead = false
is_look_behind L.LookAheadNeg = false
is_look_behind L.LookBehind = true
is_look_behind L.LookBehindNeg = true

-- all of them, or one of them
abbrev pub joined : Bool → List Re → Re
joined true xs = re.cats xs
joined false xs = re.alts xs

-- a look-around by its leaf, if its tree reads one character; else a part is asked, so many characters before
abbrev pub looked : LookAround → Option Leaf → Re → Re
looked how None asking = asking
looked how (Some leaf) asking = re.test (look_test how leaf)

-- over how many characters a look-around steps back to its tree
abbrev pub steps_back : List Tree → LookAround → Tree → ℕ
steps_back groups how t = if is_look_behind how then (size groups t).least else 0

-- where there are no calls
abbrev pub no_calls : ℕ → Re
no_calls j = re.nothing

-- over the bodies of all groups, where it is known what calls become
module _ (unicode : Bool) (groups : List Tree) (called : ℕ → Re) where
  -- The pattern of a tree, with the numbers of the group that opens first in it and of its first class. `\K` writes group 0: its opening slot
  -- is where the match will be said to begin.
  unfoldable mutual
    pub re_of : ℕ → ℕ → Tree → Re
    re_of n k empty = re.nothing
    re_of n k (any newline crlf) = re.read (Any newline crlf)
    re_of n k (literal val casei) = re.read (if casei then Folded (folded unicode (slice_index val 0)) else Char (slice_index val 0))
    re_of n k (delegate class casei) = re.read (Class k)
    re_of n k (general_newline wide) = newline_re wide
    re_of n k (assertion a) = served a (test_of a)
    re_of n k (concat ts) = row_of n k ts
    re_of n k (alt ts) = branches_of n k ts
    re_of n k (group t) = re.group n (re_of (n + 1) k t)
    re_of n k (look_around t how) = around n k how (re_of n k t) t
    re_of n k (atomic_group t) = re.atomic (re_of n k t)
    re_of n k (conditional c a b) =
        re.conditional (re_of n k c) (re_of (n + group_count c) (k + length (classes c)) a)
        (re_of (n + group_count c + group_count a) (k + length (classes c) + length (classes a)) b)
    re_of n k (verb v) = re.test Never
    re_of n k keep_out = re.group 0 re.nothing
    re_of n k continue = re.test Continue
    re_of n k (repeat t lo hi greedy) =
        unless (has_no_iteration lo hi) (re.repeat lo hi greedy (never_empty (re_of n k t)) (re_of n k t))
    re_of n k (subroutine_call j) = called j
    re_of n k _ = re.nothing

    pub row_of : ℕ → ℕ → Trees → Re
    row_of n k no_trees = re.nothing
    row_of n k (more_trees t ts) = re.cat (re_of n k t) (row_of (n + group_count t) (k + length (classes t)) ts)

    pub branches_of : ℕ → ℕ → Trees → Re
    branches_of n k no_trees = re.nothing
    branches_of n k (more_trees t no_trees) = re_of n k t
    branches_of n k (more_trees t (more_trees u us)) =
        re.alt (re_of n k t) (branches_of (n + group_count t) (k + length (classes t)) (more_trees u us))

    -- a look-around over a tree with this pattern: in a look-behind, branches that are not equally long are looked for one by one
    pub around : ℕ → ℕ → LookAround → Re → Tree → Re
    around n k how body (alt ts) =
        if is_look_behind how && not (size groups (alt ts)).always
        then joined (is_negated_look how) (each_around n k how ts)
        else re.ask (is_negated_look how) (steps_back groups how (alt ts)) body
    around n k how body t = looked how (char_leaf unicode k t) (re.ask (is_negated_look how) (steps_back groups how t) body)

    pub each_around : ℕ → ℕ → LookAround → Trees → List Re
    each_around n k how no_trees = []
    each_around n k how (more_trees t ts) =
        around n k how (re_of n k t) t ∷ each_around (n + group_count t) (k + length (classes t)) how ts
