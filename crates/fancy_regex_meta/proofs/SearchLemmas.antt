-- A search of the code as a search of the definitions.
use Rattle.std.proofs.Common.{◌≡◌, ◌<◌, ℕ, Bool, true, false, not, ◌&&◌, List, Option, Some, None, Result, Ok, Err, refl, sym, ap, subst, ◌∙◌, rules, nat_lt, if◌then◌else◌}
use Rattle.std.specs.Prelude.{◌||◌, is_some, option_map, IfOk, IfErr, IsErrAnd}
use Rattle.fancy_regex_tree.specs.Tree.{Tree}
use Rattle.fancy_regex_meaning.specs.Groups.{Pattern, pattern_of}
use Rattle.fancy_regex_meaning.specs.Choices.{choices}
use Rattle.fancy_regex_meaning.specs.Ways.{Setting}
use Rattle.fancy_regex_meaning.specs.Searches.{Search, first_match, search_from}
use Rattle.fancy_regex_class.specs.RunInputs.{setting_for}
use Rattle.fancy_regex_class.specs.declared.input.RunInput.{RunInput}
use Rattle.fancy_regex_input.specs.SearchInputs.{input_of, effective_start, run_input_of}
use Rattle.fancy_regex_input.specs.declared.config.SearchConfig.{SearchConfig}
use Rattle.fancy_regex_meta.specs.Patterns.{options_in, setting_in}
use Rattle.fancy_regex_meta.specs.Strategies.{Executes, RunsUnder, is_whole, search_of, run_options_of}
use Rattle.fancy_regex_meta.specs.PatternMatches.{match_from}
use Rattle.fancy_regex_meta.specs.MetaMatches.{meta_pattern, meta_match_for, meta_match_from}
use Rattle.fancy_regex_machine.specs.RuntimeError.TheVariants.{BacktrackLimitExceeded, StackOverflow, Memory}
use Rattle.fancy_regex_machine.proofs.LimitLemmas.{MachinePassesLimit-prop}
use Rattle.fancy_regex_linear.specs.Find.{attempted}
use Rattle.fancy_regex_meta.specs.SearchLimits.{setting_from, search_at, IsSearchError, IsStrategyError, StrategyStaysInLimits, IsRunError, IsMetaSearchError, starts_tried, meta_uses_easy, meta_tree, meta_starts_tried, run_tried}
use Rattle.fancy_regex_meta.specs.declared.error.Error.{Error}
use Rattle.fancy_regex_meta.specs.declared.error.Error.TheVariants as told
use Rattle.fancy_regex_meta.specs.declared.meta_regex.MetaRegex.{MetaRegex}
use Rattle.std.proofs.Math.Bridge.{le_prop}
use Rattle.std.proofs.Math.Bool.{Bool-set}
use Rattle.fancy_regex_meta.specs.declared.options.RegexOptions.{RegexOptions}
use Rattle.fancy_regex_meta.specs.declared.strategy.Strategy.{Strategy}
use Rattle.fancy_regex_meta.specs.declared.strategy.Strategy.TheVariants.{Easy, Linear, Program, Regular}

-- what holds of the value or the error of a result
pub if_ok : {A E : Type 0} {P Q : A → Type 0} (r : Result A E) → IfOk r P → ((x : A) → P x → Q x) → IfOk r Q
if_ok (Ok x) h f = f x h
if_ok (Err e) h f = tt

pub if_err : {A E : Type 0} {P Q R : E → Type 0} (r : Result A E) → IfErr r P → IfErr r Q → ((e : E) → P e → Q e → R e) → IfErr r R
if_err (Ok x) h k f = tt
if_err (Err e) h k f = f e h k

-- an error that is handed on, with what is known of it
pub handed_on : {T E : Type 0} (r : Result T E) (e : E) (P : E → Type 0) → IsErrAnd r (λ f. f ≡ e) → P e → IfErr r P
handed_on (Ok x) e P d h = absurd d
handed_on (Err y) e P d h = subst P (sym d) h

map-some : {A B : Type 0} (f : A → B) (o : Option A) → is_some (option_map f o) ≡ is_some o
map-some f None = refl
map-some f (Some m) = refl

-- two have the same parts only if both are there
pub some-same : {A B C : Type 0} (f : A → C) (g : B → C) (x : Option A) (y : Option B) → option_map f x ≡ option_map g y → is_some x ≡ is_some y
some-same f g x y e = sym (map-some f x) ∙ ap is_some e ∙ map-some g y

continues-same : (c continue_disabled : Bool) (q : ℕ) → (if c && not continue_disabled then Some q else None) ≡ (if continue_disabled || not c then None else Some q)
continues-same true true q = refl
continues-same true false q = refl
continues-same false true q = refl
continues-same false false q = refl

nat_lt-yes : (a b : ℕ) → a < b → nat_lt a b ≡ true
nat_lt-yes a b h = search rules

pub input-same : (o : RegexOptions) (pattern : Pattern) (text : List ℕ) (a : SearchConfig) (q : ℕ) (continue_disabled : Bool) (input : RunInput) → input ≡ run_input_of a q continue_disabled →
    first_match (setting_for o.unicode_mode text input) pattern (search_of o input) ≡ search_from (setting_in o text a) pattern (options_in o) (input_of a) q continue_disabled
unfolding search_from
input-same o pattern text a q continue_disabled input e =
    ap (λ x. first_match (setting_for o.unicode_mode text x) pattern (search_of o x)) e
    ∙ ap (λ k. first_match (record (setting_in o text a) { continue_at = k }) pattern (search_at o a q)) (continues-same a.continues continue_disabled q)

-- past the range nothing is found
pub none-past : (o : RegexOptions) (p text : List ℕ) (a : SearchConfig) (q : ℕ) (continue_disabled : Bool) → a.range_end < q → match_from o p text a q continue_disabled ≡ None
unfolding search_from first_match
none-past o p text a q continue_disabled h = rw (nat_lt-yes a.range_end q h) refl

-- what holds of the search that runs holds of the configured one
pub run-input-same : {X : Type 0} (F : Setting → Search → X) (o : RegexOptions) (text : List ℕ) (a : SearchConfig) (q : ℕ) (continue_disabled : Bool) (input : RunInput) →
    input ≡ run_input_of a q continue_disabled → F (setting_for o.unicode_mode text input) (search_of o input) ≡ F (setting_from o text a q continue_disabled) (search_at o a q)
run-input-same F o text a q continue_disabled input e =
    ap (λ x. F (setting_for o.unicode_mode text x) (search_of o x)) e
    ∙ ap (λ k. F (record (setting_in o text a) { continue_at = k }) (search_at o a q)) (continues-same a.continues continue_disabled q)

-- A search with the input of a configuration finds the match of the configured search, within its range, fails with its errors,
-- and tries its starts.
module _ (s : MetaRegex) (text : List ℕ) (a : SearchConfig) (continue_disabled : Bool) where
  pub match-same : meta_match_for s text (run_input_of a (effective_start a) continue_disabled) ≡ meta_match_from s text a (effective_start a) continue_disabled
  match-same = input-same s.options (meta_pattern s) text a (effective_start a) continue_disabled _ refl

  pub error-same : (e : Error) → IsRunError s text (run_input_of a (effective_start a) continue_disabled) e → IsMetaSearchError s text a continue_disabled e
  error-same e h =
      let same = run-input-same (λ setting find. choices setting (pattern_of (meta_tree s)) find) s.options text a (effective_start a) continue_disabled _ refl in
      (subst (λ n. IsSearchError (meta_uses_easy s) s.options.backtrack_limit n e) same h.0, h.1)

  pub tried-same : run_tried s.options text (run_input_of a (effective_start a) continue_disabled) (meta_tree s) ≡ meta_starts_tried s text a continue_disabled
  tried-same = run-input-same (starts_tried (meta_tree s)) s.options text a (effective_start a) continue_disabled _ refl

-- past the range nothing is found, and no start is attempted
pub no-match : (setting : Setting) (pattern : Pattern) (find : Search) → find.stop < find.first → first_match setting pattern find ≡ None
unfolding first_match
no-match setting pattern find h = rw (nat_lt-yes find.stop find.first h) refl

pub none-tried : (s : MetaRegex) (text : List ℕ) (input : RunInput) → input.range.end < input.first → run_tried s.options text input (meta_tree s) ≡ 0
unfolding attempted
none-tried s text input h = rw (nat_lt-yes input.range.end input.first h) refl

-- an error of a search is one in one way
pub IsSearchError-prop : (served : Bool) (limit choices : ℕ) (e : Error) → IsProp (IsSearchError served limit choices e)
IsSearchError-prop served limit choices (told.RuntimeError BacktrackLimitExceeded) = hlevel (le_prop, Bool-set)
IsSearchError-prop served limit choices (told.RuntimeError StackOverflow) = hlevel (le_prop, Bool-set)
IsSearchError-prop served limit choices (told.RuntimeError Memory) = hlevel (le_prop, Bool-set)
IsSearchError-prop served limit choices _ = hlevel (le_prop, Bool-set)

pub IsStrategyError-prop : (strategy : Strategy) (o : RegexOptions) (text : List ℕ) (input : RunInput) (e : Error) → IsProp (IsStrategyError strategy o text input e)
IsStrategyError-prop (Easy easy) o text input (told.RuntimeError error) = hlevel le_prop
IsStrategyError-prop (Linear linear prog) o text input (told.RuntimeError error) = hlevel le_prop
IsStrategyError-prop (Regular regular prog run relaxed) o text input (told.RuntimeError error) = hlevel le_prop
IsStrategyError-prop (Program prog run) o text input (told.RuntimeError error) = MachinePassesLimit-prop prog text input (run_options_of o run.seek) error
IsStrategyError-prop strategy o text input _ = hlevel le_prop

-- that an answer stays within the limits is so in one way
pub StrategyStaysInLimits-prop : (strategy : Strategy) (o : RegexOptions) (text : List ℕ) (input : RunInput) → IsProp (StrategyStaysInLimits strategy o text input)
StrategyStaysInLimits-prop (Easy easy) o text input = hlevel le_prop
StrategyStaysInLimits-prop (Linear linear prog) o text input = hlevel le_prop
StrategyStaysInLimits-prop (Program prog run) o text input = hlevel le_prop
StrategyStaysInLimits-prop (Regular regular prog run relaxed) o text input = hlevel le_prop

-- what executes a tree runs under its options
pub executes-under : (strategy : Strategy) (o : RegexOptions) (t : Tree) → Executes strategy o t → RunsUnder strategy o
executes-under (Easy easy) o t does = tt
executes-under (Linear linear prog) o t does = tt
executes-under (Program prog run) o t does = does.5
executes-under (Regular regular prog run relaxed) o t does = tt

-- of what executes a tree, group 0 is the whole match
pub executes-whole : (strategy : Strategy) (o : RegexOptions) (t : Tree) → Executes strategy o t → is_whole strategy ≡ true
executes-whole (Easy easy) o t does = refl
executes-whole (Linear linear prog) o t does = refl
executes-whole (Program prog run) o t does = does.0.whole
executes-whole (Regular regular prog run relaxed) o t does = does.1.0.whole
