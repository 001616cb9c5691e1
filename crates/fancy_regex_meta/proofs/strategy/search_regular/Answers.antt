use Rattle.std.proofs.Common.{◌≡◌, ◌∙◌, ap, ℕ, []}
use Rattle.std.specs.Prelude.{option_map}
use Rattle.fancy_regex_meaning.specs.Groups.{pattern_of}
use Rattle.fancy_regex_meaning.specs.Searches.{first_match}
use Rattle.fancy_regex_class.specs.RunInputs.{setting_for, match_slots}
use Rattle.fancy_regex_meta.specs.FoundParts.{parts_in}
use Rattle.fancy_regex_meta.specs.Strategies.{search_of}
use Rattle.fancy_regex_linear.specs.EasyPatterns.{span_of_match}
use Rattle.fancy_regex_meta.proofs.MatchOffsetLemmas.{first-parts}
use Rattle.fancy_regex_meta.proofs.ProgramLemmas.{span-parts}
use Rattle.fancy_regex_meta.proofs.strategy.search_regular.Goals as goal

pub returns-in_ok-span-in-Span-clause-answer : goal.returns-in_ok-span-in-Span-clause-answer
returns-in_ok-span-in-Span-clause-answer c o t of =
    let text = c.args.text.now in
    let input = c.args.input.now in
    let fm = first_match (setting_for o.unicode_mode text input) (pattern_of t) (search_of o input) in
    let found : c.in_ok-span-in-Span.span ≡ option_map span_of_match fm = rw of.empty (rw (of.unicode, of.longest) at (c.in_ok-span-in-Span.ensures.answer (pattern_of t) of.of)) in
    rw c.in-Span.is (c.found_span.ensures ∙ ap (option_map (λ (s : ℕ × ℕ). (s.0, (s.1, [])))) found ∙ span-parts t fm)

pub returns-in_ok-slots-in-Groups-clause-answer : goal.returns-in_ok-slots-in-Groups-clause-answer
returns-in_ok-slots-in-Groups-clause-answer c o t of =
    let text = c.args.text.now in
    let input = c.args.input.now in
    let fm = first_match (setting_for o.unicode_mode text input) (pattern_of t) (search_of o input) in
    let found : option_map (λ v. v.items) c.in_ok-slots-in-Groups.slots ≡ option_map (match_slots (pattern_of t)) fm =
    rw of.empty (rw (of.unicode, of.longest) at (c.in_ok-slots-in-Groups.ensures.answer (pattern_of t) of.of)) in
    rw c.in-Groups.is
    (c.found_groups.ensures ∙ ap (option_map parts_in) found ∙ first-parts t (setting_for o.unicode_mode text input) (search_of o input) c.utf8.text c.requires.first c.requires.range)
