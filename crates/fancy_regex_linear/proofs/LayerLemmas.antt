-- From one layer of a search to the next.
use Rattle.std.proofs.Common.{◌≡◌, ◌∙◌, ◌∷◌, ℕ, Some, length, arith}
use Rattle.fancy_regex_class.specs.Looks.{looked_text}
use Rattle.fancy_regex_class.specs.declared.counted.Counted.{Counted}
use Rattle.fancy_regex_linear.specs.Search.{AllWithin, put_back, resume_result, top_first}
use Rattle.fancy_regex_linear.specs.Layers.{IsAtPair, IsMarking, IsOnlyLookedAt, IsVisit}
use Rattle.fancy_regex_linear.specs.declared.backtrack.BacktrackState.{BacktrackState}
use Rattle.fancy_regex_linear.specs.declared.frame.Frame.TheVariants.{Explore}
use Rattle.fancy_regex_linear.specs.declared.frame.SearchStep.{SearchStep}
use Rattle.fancy_regex_linear.specs.declared.frame.SearchStep.TheVariants.{Pair}
use Rattle.fancy_regex_linear.specs.declared.search.SearchContext.{SearchContext}
use Rattle.fancy_regex_linear.specs.declared.visited.Visited.{Visited}
use Rattle.fancy_regex_linear.proofs.StackLemmas.{within_resumed}

-- two looks one after the other
pub looks_on : {a b c : Counted} → IsOnlyLookedAt a b → IsOnlyLookedAt b c → IsOnlyLookedAt a c
looks_on one two = record {
  more = omega (arith, one.more, two.more);
  text = two.text ∙ one.text;
  same_counter = two.same_counter ∙ one.same_counter;
}

module _ {context : SearchContext} {text new_text : Counted} {visited new_visited : Visited} {backtrack new_backtrack : BacktrackState} {q i : ℕ}
    {step : SearchStep} (visit : IsVisit context (looked_text text) visited new_visited backtrack new_backtrack q i step)
    (marking : IsMarking context text new_text visited new_visited) (count : visited.count ≡ length context.states.now) where
  -- a visit that leads to a pair comes there
  pub at_next : (p j : ℕ) → step ≡ Pair p j → IsAtPair context (looked_text new_text) new_visited new_backtrack p j
  at_next p j is = record {
    pair = rw (marking.looks.text, marking.base) (rw is at visit.next);
    count = marking.count ∙ count;
    within = rw (marking.looks.text, marking.base) visit.within;
  }

  -- and so does the search once the frames are popped up to the next pair
  pub at_popped : (popped : BacktrackState) (top : ℕ × ℕ)
      → resume_result (top_first new_backtrack.stack.items) new_backtrack.slots.items ≡ (put_back (Some top) (top_first popped.stack.items), popped.slots.items)
      → IsAtPair context (looked_text new_text) new_visited popped top.0 top.1
  at_popped popped top is =
      let both : AllWithin (looked_text text) (length context.states.now) context.stop visited.base (Explore top.0 top.1 ∷ top_first popped.stack.items) =
      rw is at (within_resumed (looked_text text) (length context.states.now) context.stop visited.base (top_first new_backtrack.stack.items) new_backtrack.slots.items visit.within) in
      record {
        pair = rw (marking.looks.text, marking.base) both.0;
        count = marking.count ∙ count;
        within = rw (marking.looks.text, marking.base) both.1;
      }
