-- Parsing the printed text of a tree.
use Rattle.std.specs.Prelude.{◌≡◌, ◌<◌, ◌≤◌, ◌+◌, ◌++◌, ℕ, zero, suc, Bool, true, false, ◌&&◌, nat_lt, List, [], ◌∷◌, codes, Option, None, replicate, Ok, Err, if◌then◌else◌}
use Rattle.fancy_regex_text.specs.Text.{Text, bytes, unbounded}
use Rattle.fancy_regex_text.specs.ParseFault.{recursion_exceeded}
use Rattle.fancy_regex_lex.specs.declared.token.Flags.{Flags}
use Rattle.fancy_regex_tree.specs.declared.parser_config.ParserConfig.{ParserConfig}
use Rattle.fancy_regex_tree.specs.Tree.{Tree, Trees, concat, alt, group, look_around, repeat, atomic_group, conditional, absent_repeater, absent_expression, absent_stopper, define_group}
use Rattle.fancy_regex_tree.specs.Tree.{ast_group, ast_backref, ast_call, ast_condition, no_trees, more_trees}
use Rattle.fancy_regex_tree.specs.Printed.{printed}
use Rattle.fancy_regex_tree.specs.NormalForm.{normal_form}
use Rattle.fancy_regex_tree.specs.Printable.{is_printable, classes_read_back, printed_levels}
use Rattle.fancy_regex_tree.specs.Parser.{parse_pattern}
use Rattle.fancy_regex_grammar.specs.Patterns.{IsPattern}
use Rattle.fancy_regex_tree.specs.Numbering.{resolved}
use Rattle.fancy_regex_tree.specs.Parse as whole
use Rattle.fancy_regex_tree.specs.Parse.{Parsed, parse}
use Rattle.fancy_regex_meaning.specs.Groups.{pattern_of, group_count}
use Rattle.fancy_regex_meaning.specs.Ways.{Setting, MatchState, ways}
use Rattle.fancy_regex_meaning.specs.Searches.{Options, Search, Input, first_match, all_items}

-- no flag is set
abbrev pub no_flags : Flags
no_flags = record { casei = false; multi = false; dot_newline = false; verbose = false; swap_greed = false; crlf = false }

-- The tree with its references resolved, for a tree without references where each group is numbered: each `ast_group` becomes a `group`.
unfoldable mutual
  pub with_groups_resolved : Tree → Tree
  with_groups_resolved (ast_group name t position) = group (with_groups_resolved t)
  with_groups_resolved (concat ts) = concat (all_with_groups_resolved ts)
  with_groups_resolved (alt ts) = alt (all_with_groups_resolved ts)
  with_groups_resolved (group t) = group (with_groups_resolved t)
  with_groups_resolved (look_around t how) = look_around (with_groups_resolved t) how
  with_groups_resolved (repeat t lo hi greedy) = repeat (with_groups_resolved t) lo hi greedy
  with_groups_resolved (atomic_group t) = atomic_group (with_groups_resolved t)
  with_groups_resolved (conditional c a b) = conditional (with_groups_resolved c) (with_groups_resolved a) (with_groups_resolved b)
  with_groups_resolved (absent_repeater t) = absent_repeater (with_groups_resolved t)
  with_groups_resolved (absent_expression a t) = absent_expression (with_groups_resolved a) (with_groups_resolved t)
  with_groups_resolved (absent_stopper t) = absent_stopper (with_groups_resolved t)
  with_groups_resolved (define_group t) = define_group (with_groups_resolved t)
  with_groups_resolved t = t

  pub all_with_groups_resolved : Trees → Trees
  all_with_groups_resolved no_trees = no_trees
  all_with_groups_resolved (more_trees t ts) = more_trees (with_groups_resolved t) (all_with_groups_resolved ts)

-- no node of the tree is an unresolved group, reference, call or condition
unfoldable mutual
  pub is_resolved : Tree → Bool
  is_resolved (concat ts) = are_resolved ts
  is_resolved (alt ts) = are_resolved ts
  is_resolved (group t) = is_resolved t
  is_resolved (look_around t how) = is_resolved t
  is_resolved (repeat t lo hi greedy) = is_resolved t
  is_resolved (atomic_group t) = is_resolved t
  is_resolved (conditional c a b) = is_resolved c && is_resolved a && is_resolved b
  is_resolved (absent_repeater t) = is_resolved t
  is_resolved (absent_expression a t) = is_resolved a && is_resolved t
  is_resolved (absent_stopper t) = is_resolved t
  is_resolved (define_group t) = is_resolved t
  is_resolved (ast_group name t position) = false
  is_resolved (ast_backref target casei level position) = false
  is_resolved (ast_call target position) = false
  is_resolved (ast_condition target level position) = false
  is_resolved t = true

  pub are_resolved : Trees → Bool
  are_resolved no_trees = true
  are_resolved (more_trees t ts) = is_resolved t && are_resolved ts

-- The upper bound of each quantifier fits `usize`, whose largest value means unbounded.
unfoldable mutual
  pub CountsFit : Tree → Type 0
  CountsFit (concat ts) = AllCountsFit ts
  CountsFit (alt ts) = AllCountsFit ts
  CountsFit (group t) = CountsFit t
  CountsFit (repeat t lo hi greedy) = (hi ≤ unbounded) × CountsFit t
  CountsFit t = Unit {0}

  pub AllCountsFit : Trees → Type 0
  AllCountsFit no_trees = Unit {0}
  AllCountsFit (more_trees t ts) = CountsFit t × AllCountsFit ts

-- The opening, if one is needed, and the text `inside` up to a point in it; empty where no nesting level is left for the opening.
abbrev pub after_opening : Bool → Text → (ℕ → Text) → ℕ → Text
after_opening false opening inside n = inside n
after_opening true opening inside zero = []
after_opening true opening inside (suc n) = opening ++ inside n

-- The printed text of a tree up to the `(` of the first group that is nested too deep, where n levels are allowed and the tree has more.
unfoldable mutual
  pub up_to_too_deep : ℕ → ℕ → Tree → Text
  up_to_too_deep precedence n (concat ts) = after_opening (nat_lt 1 precedence) (codes "(?:") (λ m. pieces_up_to_too_deep m ts) n
  up_to_too_deep precedence n (alt ts) = after_opening (nat_lt 0 precedence) (codes "(?:") (λ m. branches_up_to_too_deep m ts) n
  up_to_too_deep precedence n (group t) = after_opening true (codes "(") (λ m. up_to_too_deep 0 m t) n
  up_to_too_deep precedence n (repeat t lo hi greedy) = after_opening (nat_lt 2 precedence) (codes "(?:") (λ m. up_to_too_deep 3 m t) n
  up_to_too_deep precedence n _ = []

  -- for a concatenation: the pieces before the first that is nested too deep, and the text of that one up to the group
  pub pieces_up_to_too_deep : ℕ → Trees → Text
  pieces_up_to_too_deep n no_trees = []
  pieces_up_to_too_deep n (more_trees t ts) =
      if nat_lt n (printed_levels 2 t) then up_to_too_deep 2 n t else printed 2 t ++ pieces_up_to_too_deep n ts

  pub branches_up_to_too_deep : ℕ → Trees → Text
  branches_up_to_too_deep n no_trees = []
  branches_up_to_too_deep n (more_trees t ts) =
      if nat_lt n (printed_levels 1 t) then up_to_too_deep 1 n t else printed 1 t ++ (codes "|" ++ branches_up_to_too_deep n ts)

-- The printed text around the `(` of the first group that is nested too deep, where 63 levels are allowed.
pub record TooDeepAt (t : Tree) (before : Text) : Type 0 where
  pub following : Text
  pub text : printed 0 t ≡ before ++ (0x28 ∷ following)

-- the profile of a pattern of `size` bytes without Oniguruma mode, with Unicode mode or without
abbrev pub plain_mode : ℕ → Bool → ParserConfig
plain_mode size unicode = record { size = size; oniguruma = false; unicode = unicode }

-- The text parses by the grammar to a tree that is `form` once its groups are resolved.
pub record ReadsAs (unicode : Bool) (text : Text) (form : Tree) : Type 0 where
  pub tree : Tree
  pub reading : IsPattern (plain_mode (bytes text) unicode) no_flags text tree
  -- the parser returns that tree
  pub answer : parse_pattern false unicode no_flags text ≡ Ok tree
  pub is_form : with_groups_resolved tree ≡ form

-- The printed text parses to the normal form.
abbrev pub PrintedReadsBack : Type 0
PrintedReadsBack = (unicode : Bool) (t : Tree) → is_printable t ≡ true → CountsFit t → printed_levels 0 t < 64 →
    ReadsAs unicode (printed 0 t) (normal_form t)

-- Where 64 printed groups nest, the parser fails with the recursion limit at the `(` of the 64th.
pub record FailsTooDeep (unicode : Bool) (t : Tree) : Type 0 where
  pub place : TooDeepAt t (up_to_too_deep 0 63 t)
  pub answer : parse_pattern false unicode no_flags (printed 0 t) ≡ Err (record { kind = recursion_exceeded; left = bytes (0x28 ∷ place.following) })

abbrev pub TooDeepIsRefused : Type 0
TooDeepIsRefused = (unicode : Bool) (t : Tree) → is_printable t ≡ true → CountsFit t → 64 ≤ printed_levels 0 t → FailsTooDeep unicode t

-- The tree that the printed text parses to has the same ordered matches from each position as the original, with the same group numbers, and
-- the same result of each search and each iteration.
pub record MeansTheSame (s : Setting) (unicode : Bool) (t : Tree) : Type 0 where
  pub tree : Tree
  pub answer : parse_pattern false unicode no_flags (printed 0 t) ≡ Ok tree
  pub same_ways : (groups others : List Tree) (n : ℕ) (w : MatchState) → ways s groups n t w ≡ ways s others n (with_groups_resolved tree) w
  pub same_match : (find : Search) → first_match s (pattern_of t) find ≡ first_match s (pattern_of (with_groups_resolved tree)) find
  pub same_items : (options : Options) (input : Input) →
      all_items s (pattern_of t) options input ≡ all_items s (pattern_of (with_groups_resolved tree)) options input

abbrev pub PrintedMeansTheSame : Setting → Type 0
PrintedMeansTheSame s = (unicode : Bool) (t : Tree) → is_printable t ≡ true → CountsFit t → classes_read_back t ≡ true → printed_levels 0 t < 64 →
    MeansTheSame s unicode t

-- Where no reference is left to resolve and no group is ignored, each `ast_group` becomes a `group`, numbered on from the groups before it.
abbrev pub GroupsAreNumbered : Type 0
GroupsAreNumbered = (group_named : Text → Option ℕ) (n : ℕ) (t : Tree) → is_resolved (with_groups_resolved t) ≡ true →
    resolved false group_named n t ≡ Ok (with_groups_resolved t, n + group_count (with_groups_resolved t))

-- parser options without Oniguruma mode, with Unicode mode or without, where groups without a name are ignored or not
abbrev pub plain_options : Bool → Bool → whole.Options
plain_options unicode ignore_numbered = record { flags = no_flags; unicode = unicode; oniguruma = false; ignore_numbered = ignore_numbered }

-- The text parses as a whole pattern with this tree and this number of groups, none of which has a name or is ignored.
pub record ParsesAs (options : whole.Options) (text : Text) (form : Tree) (groups : ℕ) : Type 0 where
  -- the tree before its references were resolved
  pub unresolved : Tree
  pub answer : parse options text ≡ Ok (record { tree = form; names = replicate groups None; unresolved = unresolved; ignored = false })

-- The printed text parses as a whole pattern: its tree is the normal form, with as many groups as the original.
abbrev pub PrintedParses : Type 0
PrintedParses = (unicode ignore_numbered : Bool) (t : Tree) → is_printable t ≡ true → CountsFit t → printed_levels 0 t < 64 →
    ParsesAs (plain_options unicode ignore_numbered) (printed 0 t) (normal_form t) (group_count t)

-- Where 64 printed groups nest, parsing fails with the recursion limit at the byte position of the 64th.
pub record IsNestedTooDeep (options : whole.Options) (t : Tree) : Type 0 where
  pub place : TooDeepAt t (up_to_too_deep 0 63 t)
  pub answer : parse options (printed 0 t) ≡ Err (record { kind = recursion_exceeded; position = bytes (up_to_too_deep 0 63 t) })

abbrev pub TooDeepDoesNotParse : Type 0
TooDeepDoesNotParse = (unicode ignore_numbered : Bool) (t : Tree) → is_printable t ≡ true → CountsFit t → 64 ≤ printed_levels 0 t →
    IsNestedTooDeep (plain_options unicode ignore_numbered) t

-- The whole pattern that the printed text parses to has the same ordered matches from each position as the original, with the same group
-- numbers, and the same result of each search and each iteration.
pub record IsSamePattern (s : Setting) (options : whole.Options) (t : Tree) : Type 0 where
  pub found : Parsed
  pub answer : parse options (printed 0 t) ≡ Ok found
  pub same_ways : (groups others : List Tree) (n : ℕ) (w : MatchState) → ways s groups n t w ≡ ways s others n found.tree w
  pub same_match : (find : Search) → first_match s (pattern_of t) find ≡ first_match s (pattern_of found.tree) find
  pub same_items : (settings : Options) (input : Input) → all_items s (pattern_of t) settings input ≡ all_items s (pattern_of found.tree) settings input

abbrev pub PrintedIsSamePattern : Setting → Type 0
PrintedIsSamePattern s = (unicode ignore_numbered : Bool) (t : Tree) → is_printable t ≡ true → CountsFit t → classes_read_back t ≡ true →
    printed_levels 0 t < 64 → IsSamePattern s (plain_options unicode ignore_numbered) t

-- PrintedParses, PrintedIsSamePattern and the law of too deep nesting, for one tree whose quantifier bounds are known to fit
abbrev pub TreeParses : Tree → Type 0
TreeParses t = (unicode ignore_numbered : Bool) → is_printable t ≡ true → printed_levels 0 t < 64 →
    ParsesAs (plain_options unicode ignore_numbered) (printed 0 t) (normal_form t) (group_count t)

abbrev pub TreeIsSamePattern : Setting → Tree → Type 0
TreeIsSamePattern s t = (unicode ignore_numbered : Bool) → is_printable t ≡ true → classes_read_back t ≡ true → printed_levels 0 t < 64 →
    IsSamePattern s (plain_options unicode ignore_numbered) t

abbrev pub TreeIsNestedTooDeep : Tree → Type 0
TreeIsNestedTooDeep t = (unicode ignore_numbered : Bool) → is_printable t ≡ true → 64 ≤ printed_levels 0 t →
    IsNestedTooDeep (plain_options unicode ignore_numbered) t
