use Rattle.std.proofs.Common.{◌≡◌, ◌≤◌, ◌∙◌, ℕ, Bool, false, List, Option, length, option_map, ap₂, subst, IsUtf8, IsCharBoundary}
use Rattle.fancy_regex_tree.specs.Tree.{Tree}
use Rattle.fancy_regex_meaning.specs.Groups.{pattern_of}
use Rattle.fancy_regex_meaning.specs.Searches.{first_match}
use Rattle.fancy_regex_class.specs.RunInputs.{setting_for, search_for}
use Rattle.fancy_regex_class.specs.declared.input.RunInput.{RunInput}
use Rattle.fancy_regex_linear.specs.EasyPatterns.{IsMatchSpan, span_of_match}
use Rattle.fancy_regex_relaxed.specs.Relaxed.{extended}
use Rattle.fancy_regex_relaxed.specs.Skips.{IsRelaxedOf, IsSkip}
use Rattle.fancy_regex_relaxed.specs.declared.relaxed.Relaxed.{Relaxed}
use Rattle.fancy_regex_relaxed.proofs.SkipLemmas.{skips}
use Rattle.fancy_regex_relaxed.proofs.relaxed.Relaxed.first_start.Goals as goal

-- where a match of the plain pattern starts, a search may start
found_skips : (relaxed : Relaxed) (text : List ℕ) (input : RunInput) → IsUtf8 text → input.first ≤ input.range.end → input.range.end ≡ length text
    → input.anchored ≡ false → IsCharBoundary text input.first → (found : Option (ℕ × ℕ)) → IsMatchSpan relaxed.easy text input found
    → (unicode longest : Bool) (t : Tree) → IsRelaxedOf relaxed unicode t → IsSkip unicode longest text input t (option_map (λ span. span.0) found)
found_skips relaxed text input utf8 range whole free first found answer unicode longest t of =
    let pattern = pattern_of (extended t) in
    skips unicode longest text input t of.relaxable utf8 range whole free first found
    (answer pattern of.easy
    ∙ ap₂ (λ (u l : Bool). option_map span_of_match (first_match (setting_for u text input) pattern (search_for l input))) of.mode of.first)

pub returns-in-Some : goal.returns-in-Some
returns-in-Some c = record {
  answer = λ unicode longest t of.
      subst (λ (f : Option (ℕ × ℕ)). IsSkip unicode longest c.args.text.now c.args.input.now t (option_map (λ (span : ℕ × ℕ). span.0) f)) c.in-Some.is
      (found_skips c.args.self.now c.args.text.now c.args.input.now c.utf8.text c.requires.range c.requires.whole c.requires.free c.requires.first c.in_ok-found.found
      c.in_ok-found.ensures.answer unicode longest t of);
}

pub returns-in-None : goal.returns-in-None
returns-in-None c = record {
  answer = λ unicode longest t of.
      subst (λ (f : Option (ℕ × ℕ)). IsSkip unicode longest c.args.text.now c.args.input.now t (option_map (λ (span : ℕ × ℕ). span.0) f)) c.in-None.is
      (found_skips c.args.self.now c.args.text.now c.args.input.now c.utf8.text c.requires.range c.requires.whole c.requires.free c.requires.first c.in_ok-found.found
      c.in_ok-found.ensures.answer unicode longest t of);
}
