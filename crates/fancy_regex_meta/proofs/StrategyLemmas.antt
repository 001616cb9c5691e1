-- The strategy of a tree that is not easy: its matcher, or else its program, with its states with parts if it has them.
use Rattle.std.proofs.Common.{◌≡◌, ◌∙◌, ◌↔◌, ℕ, Bool, true, false, List, Option, Some, None, Result, Ok, Err, refl, sym, ap, subst}
use Rattle.std.specs.Prelude.{IfOk, IfSome, IsSome}
use Rattle.std.proofs.lemmas.Bool.{and_parts}
use Rattle.fancy_regex_tree.specs.Tree.{Tree}
use Rattle.fancy_regex_meaning.specs.Groups.{pattern_of}
use Rattle.fancy_regex_meaning.specs.Searches.{Search, first_match}
use Rattle.fancy_regex_class.specs.RunInputs.{setting_for, search_for}
use Rattle.fancy_regex_class.specs.declared.input.RunInput.{RunInput}
use Rattle.fancy_regex_relaxed.specs.Skips.{IsRelaxedOf, IsSkip, input_from}
use Rattle.fancy_regex_relaxed.specs.declared.relaxed.Relaxed.{Relaxed}
use Rattle.fancy_regex_info.specs.Analysis.{analysis}
use Rattle.fancy_regex_info.specs.Infos.{info_of}
use Rattle.fancy_regex_info.specs.declared.info.Info.{Info}
use Rattle.fancy_regex_info.specs.Views.{pattern_in}
use Rattle.fancy_regex_info.specs.declared.error.CompileError.{CompileError}
use Rattle.fancy_regex_linear.specs.EasyPatterns.{IsEasyOf}
use Rattle.fancy_regex_compiler.specs.Prog.{Prog}
use Rattle.fancy_regex_linear.specs.declared.easy.Easy.{Easy}
use Rattle.fancy_regex_regular.specs.Regulars.{IsRegularOf}
use Rattle.fancy_regex_regular.specs.Supported.{IsSupported}
use Rattle.fancy_regex_regular.specs.declared.regular.Regular.{Regular}
use Rattle.fancy_regex_machine.specs.declared.search.RunOptions.{RunOptions}
use Rattle.fancy_regex_meta.specs.EasyPatterns.{is_easy_tree, uses_easy}
use Rattle.fancy_regex_meta.specs.LinearPatterns.{HasStates}
use Rattle.fancy_regex_meta.specs.SeekTables.{IsSeekTable}
use Rattle.fancy_regex_meta.specs.Strategies.{IsMatcherFor, IsRegularFor, IsProgramFor, IsRelaxedFor, IsNextStart, unlimited, unlimited_run, search_of}
use Rattle.fancy_regex_meta.specs.declared.options.RegexOptions.{RegexOptions}

-- the backtrack limit changes no seek table
seek_same : (o : RegexOptions) (t : Tree) (seek : Option (List Bool)) → IsSeekTable o t seek → IsSeekTable (unlimited o) t seek
seek_same o t None is = is
seek_same o t (Some table) is = is

-- with states beside it a program runs without a limit on backtracks
pub program_unlimited : (o : RegexOptions) (t : Tree) (prog : Prog) (run : RunOptions) → IsProgramFor prog run o t → IsProgramFor prog (unlimited_run run) (unlimited o) t
program_unlimited o t prog run is = (is.0, is.1, is.2, seek_same o t run.seek is.3, is.4, ap unlimited_run is.5)

-- a matcher of the analyzed tree, made under these options
pub matcher_is : (o : RegexOptions) (i : Info) (unicode longest : Bool) (found : Option Easy) → unicode ≡ o.unicode_mode → longest ≡ o.leftmost_longest
    → o.find_not_empty ≡ false
    → IfSome found (λ easy. (explicit : Bool) (t : Tree) → info_of i ≡ analysis explicit t → IsEasyOf easy (pattern_in explicit t))
    → IfSome found (λ easy. (easy.unicode ≡ unicode) × (easy.longest ≡ longest))
    → IfSome found (λ easy. (t : Tree) → info_of i ≡ analysis false t → IsMatcherFor easy o t)
matcher_is o i unicode longest None mode far some made options = tt
matcher_is o i unicode longest (Some easy) mode far some made options = λ t is. (made false t is, options.0 ∙ mode, options.1 ∙ far, some)

-- states with parts of the analyzed tree, made under these options
module _ (o : RegexOptions) (i : Info) (unicode longest : Bool) (mode : unicode ≡ o.unicode_mode) (far : longest ≡ o.leftmost_longest)
    (empty : o.find_not_empty ≡ false) where
  -- what is told of the states that are made
  abbrev AreMade : Option Regular → Type 0
  AreMade found = IfSome found (λ regular. (explicit : Bool) (t : Tree) → info_of i ≡ analysis explicit t → IsRegularOf regular (pattern_in explicit t))

  abbrev AreExact : Option Regular → Type 0
  AreExact found = (explicit : Bool) (t : Tree) → info_of i ≡ analysis explicit t → (IsSome found ↔ IsSupported (pattern_in explicit t))

  pub has_states : (t : Tree) → IsSupported (pattern_of t) → HasStates o t
  has_states t supported = (empty, supported)

  pub states_are : (r : Result (Option Regular) CompileError) → IfOk r AreMade → IfOk r (λ found. IfSome found (λ regular. (regular.unicode ≡ unicode) × (regular.longest ≡ longest)))
      → IfOk r (λ found. IfSome found (λ regular. (t : Tree) → info_of i ≡ analysis false t → IsRegularFor regular o t))
  states_are (Ok None) made options = tt
  states_are (Ok (Some regular)) made options = λ t is. record {
    of = made false t is;
    unicode = options.0 ∙ mode;
    longest = options.1 ∙ far;
    empty = empty;
  }
  states_are (Err e) made options = tt

  pub exactly_states : (r : Result (Option Regular) CompileError) → IfOk r AreExact
      → IfOk r (λ found. (t : Tree) → info_of i ≡ analysis false t → (IsSome found ↔ HasStates o t))
  exactly_states (Ok found) exact = λ t is. (
    λ some. has_states t ((exact false t is).0 some),
    λ has. (exact false t is).1 has.1,
  )
  exactly_states (Err e) exact = tt

-- what is known of the tree, where there is a matcher
pub known_if_some : {A : Type 0} (P : Type 0) (found : Option A) → P → IfSome found (λ _. P)
known_if_some P None h = tt
known_if_some P (Some x) h = h

-- an easy tree where empty matches are allowed is searched without a program
pub easy_used : (o : RegexOptions) (t : Tree) → o.find_not_empty ≡ false → is_easy_tree t ≡ true → uses_easy o t ≡ true
easy_used o t empty easy = rw (empty, easy) refl

pub used_easy : (o : RegexOptions) (t : Tree) → uses_easy o t ≡ true → is_easy_tree t ≡ true
used_easy o t used = (and_parts _ _ used).1

-- a search under options that allow empty matches
search_is : (o : RegexOptions) (input : RunInput) → o.find_not_empty ≡ false → search_of o input ≡ search_for o.leftmost_longest input
search_is o input e = ap (λ b. let r : Search = record { first = input.first; stop = input.range.end; anchored = input.anchored; options = record { find_not_empty = b; longest = o.leftmost_longest } } in r) e

-- the same search is one from its own start
pub next_is_first : (o : RegexOptions) (text : List ℕ) (input : RunInput) (t : Tree) → IsNextStart o text input t (Some input.first)
next_is_first o text input t = refl

-- what is said of the relaxed pattern's first start
pub next_is_skip : (o : RegexOptions) (text : List ℕ) (input : RunInput) (t : Tree) (found : Option ℕ) → o.find_not_empty ≡ false
    → IsSkip o.unicode_mode o.leftmost_longest text input t found → IsNextStart o text input t found
next_is_skip o text input t None e skip = ap (λ find. first_match (setting_for o.unicode_mode text input) (pattern_of t) find) (search_is o input e) ∙ skip
next_is_skip o text input t (Some start) e skip =
    ap (λ find. first_match (setting_for o.unicode_mode text input) (pattern_of t) find) (search_is o input e)
    ∙ skip.3
    ∙ sym (ap (λ find. first_match (setting_for o.unicode_mode text (input_from input start)) (pattern_of t) find) (search_is o (input_from input start) e))

-- a relaxed pattern of the analyzed tree, made under these options
pub relaxed_is : (o : RegexOptions) (unicode : Bool) (u t : Tree) (found : Option Relaxed) → unicode ≡ o.unicode_mode → u ≡ t
    → IfSome found (λ relaxed. IsRelaxedOf relaxed unicode u) → IsRelaxedFor found o t
relaxed_is o unicode u t None mode same made = tt
relaxed_is o unicode u t (Some relaxed) mode same made =
    subst (IsRelaxedOf relaxed o.unicode_mode) same (subst (λ b. IsRelaxedOf relaxed b u) mode made)
