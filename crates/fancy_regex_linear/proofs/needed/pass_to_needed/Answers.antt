use Rattle.std.proofs.Common.{◌≡◌, ◌∙◌, ◌≤◌, ℕ, List, length, refl, sym, ap, subst, arith, IsCharBoundary}
use Rattle.fancy_regex_class.specs.Looks.{looked_text}
use Rattle.fancy_regex_linear.specs.Settled.{parts_of}
use Rattle.fancy_regex_linear.proofs.SettleLemmas.{search_of, is_search, fail_by}
use Rattle.fancy_regex_linear.proofs.needed.pass_to_needed.Goals as goal

pub returns-then-at-clear : goal.returns-then-at-clear
returns-then-at-clear c = record {
  range = (omega arith, c.requires.range.0);
  boundary = c.requires.boundary;
  after = c.look.ensures.after;
  next = c.look.ensures.next;
  fails = λ view go explains p low less boundary. absurd (omega (arith, low, less));
  looked = record {
    at_least = omega (arith, c.look.ensures.ticked);
    at_most = omega (arith, c.look.ensures.ticked);
    text = c.look.ensures.text;
    same_counter = c.look.ensures.same_counter;
  };
}

pub onset-next-requires : goal.onset-next-requires
onset-next-requires c = record {
  boundary = subst (λ (t : List ℕ). IsCharBoundary t c.args.at) (sym c.requires.table.text_is) c.requires.boundary;
}

pub look-after-requires : goal.look-after-requires
look-after-requires c = rw c.count_places.ensures.text (rw c.requires.table.text_is at c.onset-next.ensures.boundary)

pub returns : goal.returns
returns c =
    let context = c.args.context.now in
    let text = looked_text c.args.text.now in
    let by = c.requires.table in
    let at : ℕ = c.args.at in
    let place : ℕ = c.onset-next.result.place in
    let range : (at ≤ place) × (place ≤ length text) = rw by.text_is at c.onset-next.ensures.range in
    record {
      range = (range.0, omega (arith, range.1, by.whole));
      boundary = rw by.text_is at c.onset-next.ensures.boundary;
      after = rw c.count_places.ensures.text at c.look-after.ensures.after;
      next = rw c.count_places.ensures.text at c.look-after.ensures.next;
      fails = λ view go explains.
          fail_by context text c.args.it by view go explains at place
          (λ t. c.onset-next.ensures.early (parts_of context) context.rules (search_of context text c.args.it by view go explains at) t
          (is_search context text c.args.it by view go explains at c.requires.text c.requires.range.1) (sym by.text_is) refl
          (by.whole ∙ ap length (sym by.text_is)));
      looked = record {
        at_least = omega (arith, c.look-after.ensures.ticked, c.count_places.ensures.ticked, range.0);
        at_most = omega (arith, c.look-after.ensures.ticked, c.count_places.ensures.ticked, range.0);
        text = c.look-after.ensures.text ∙ c.count_places.ensures.text;
        same_counter = c.look-after.ensures.same_counter ∙ c.count_places.ensures.same_counter;
      };
    }
