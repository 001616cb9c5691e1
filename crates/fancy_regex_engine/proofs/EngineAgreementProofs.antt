-- Both answers are the first match of the pattern.
use Rattle.std.proofs.Common.{◌≡◌, ◌==◌, ◌∙◌, ℕ, Bool, true, false, not, cond, nat_lt, List, [], ◌∷◌, Option, Some, None, Ok, refl, sym, ap, ap₂}
use Rattle.std.specs.Prelude.{option_map, slice_set}
use Rattle.std.specs.List.{filter}
use Rattle.fancy_regex_meaning.specs.Groups.{Pattern}
use Rattle.fancy_regex_meaning.specs.Positions.{boundaries}
use Rattle.fancy_regex_meaning.specs.Searches.{Match, Search, first_match, first_some, match_at}
use Rattle.fancy_regex_program.specs.Machine.{tried}
use Rattle.fancy_regex_class.specs.RunInputs.{setting_for, search_for, group_slots, match_slots}
use Rattle.fancy_regex_class.specs.declared.input.RunInput.{RunInput}
use Rattle.fancy_regex_machine.specs.SearchAnswers.{match_places}
use Rattle.fancy_regex_machine.specs.RunArguments.{run_parameters_for}
use Rattle.fancy_regex_machine.specs.RunContexts.{may_start}
use Rattle.fancy_regex_machine.specs.declared.search.RunOptions.{RunOptions}
use Rattle.fancy_regex_engine.specs.EngineAgreement.{EnginesAgree, TriesAllStarts}

-- the places of a match are told alike
chosen_same : (b : Bool) (m : Match) → match_places (not b) m
    ≡ cond b (group_slots m.pairs) (slice_set (slice_set (group_slots m.pairs) 0 m.start) 1 m.end)
chosen_same true m = refl
chosen_same false m = refl

places_same : (pattern : Pattern) (whole : Bool) → whole ≡ not (pattern.first_group == 0) → (o : Option Match)
    → option_map (match_places whole) o ≡ option_map (match_slots pattern) o
places_same pattern whole is None = refl
places_same pattern whole is (Some m) = ap (λ b. Some (match_places b m)) is ∙ ap Some (chosen_same (pattern.first_group == 0) m)

-- where each start may be tried, all are
all_kept : (xs : List ℕ) → filter (λ p. true) xs ≡ xs
all_kept [] = refl
all_kept (x ∷ xs) = ap (λ ys. x ∷ ys) (all_kept xs)

all_tried : (b : Bool) (text xs : List ℕ) (seek : Option (List Bool)) → seek ≡ None → cond b [] (filter (may_start text seek) xs) ≡ cond b [] xs
all_tried true text xs seek is = refl
all_tried false text xs seek is = ap (λ s. filter (may_start text s) xs) is ∙ all_kept xs

-- the places that are tried
abbrev all_places : List ℕ → RunInput → List ℕ
all_places text input = cond input.anchored (input.first ∷ []) (boundaries text input.first input.range.end)

-- a search that admits each match, or each that is not empty
abbrev search_with : Bool → Bool → RunInput → Search
search_with longest not_empty input = record {
  first = input.first;
  stop = input.range.end;
  anchored = input.anchored;
  options = record { find_not_empty = not_empty; longest = longest };
}

-- the machine's match is the first one
match_is : (unicode longest : Bool) (text : List ℕ) (input : RunInput) (options : RunOptions) (pattern : Pattern) → TriesAllStarts options
    → (let r = run_parameters_for unicode longest text input options in first_some (match_at r.setting pattern r.find) (tried r))
    ≡ first_match (setting_for unicode text input) pattern (search_for longest input)
unfolding first_match
match_is unicode longest text input options pattern free =
    let s = setting_for unicode text input in
    let places = tried (run_parameters_for unicode longest text input options) in
    ap (λ (b : Bool). first_some (match_at s pattern (search_with longest b input)) places) free.empty
    ∙ ap (first_some (match_at s pattern (search_for longest input)))
    (all_tried (nat_lt input.range.end input.first) text (all_places text input) options.seek free.seek)

pub one_answer : EnginesAgree
one_answer prog easy pattern text input options ran searched of free asked runs searches =
    runs pattern false of.program asked
    ∙ ap (option_map (match_places prog.whole)) (match_is prog.unicode prog.longest text input options pattern free)
    ∙ places_same pattern prog.whole (of.whole ∙ of.states.whole) _
    ∙ ap₂ (λ (u l : Bool). option_map (match_slots pattern) (first_match (setting_for u text input) pattern (search_for l input))) of.unicode of.longest
    ∙ sym (searches pattern of.states)
