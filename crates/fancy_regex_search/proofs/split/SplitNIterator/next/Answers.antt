use Rattle.std.proofs.Common.{List, ℕ, ◌-◌, ap, arith, sym, subst}
use Rattle.std.specs.Prelude.{drop}
use Rattle.fancy_regex_meaning.specs.Searches.{Match}
use Rattle.fancy_regex_search.specs.RemainingMatches.{remaining_matches}
use Rattle.fancy_regex_search.specs.Pieces.{YieldsPiece, pieces_left_up_to}
use Rattle.fancy_regex_search.proofs.PieceLemmas.{limit_yields}
use Rattle.fancy_regex_search.proofs.split.SplitNIterator.next.Goals as goal

pub returns-then-self-gt0-clause-steps : goal.returns-then-self-gt0-clause-steps
returns-then-self-gt0-clause-steps c =
    let n = c.args.self.now.limit in
    let s = c.args.self.now.split in
    let t = c.next_piece.new.self in
    let moved = c.next_piece.ensures in
    let text : List ℕ = s.gaps.match_iter.input.haystack.now in
    let before : List Match = remaining_matches s.gaps.match_iter.regex.now.meta text s.gaps.match_iter.input.config s.gaps.match_iter.state in
    let after : List Match = remaining_matches t.gaps.match_iter.regex.now.meta t.gaps.match_iter.input.haystack.now t.gaps.match_iter.input.config t.gaps.match_iter.state in
    let yields = limit_yields n text s.is_done s.gaps.last_end before c.next_piece.result t.is_done t.gaps.last_end after (omega (arith, c.if-self-gt0.true)) moved.moves in (
      subst (λ (x : List ℕ). YieldsPiece (drop s.gaps.last_end text) (pieces_left_up_to n s.is_done text s.gaps.last_end before) c.next_piece.result (pieces_left_up_to (n - 1) t.is_done x t.gaps.last_end after))
          (sym (ap (λ x. x.now) moved.same.0)) yields,
      moved.same.0,
      moved.same.1,
      moved.onward.config,
      moved.limits.fails,
      moved.limits.passes,
      (λ _. omega (arith, c.if-self-gt0.true)),
      moved.ends,
      (λ _. moved.limits.stays),
    )
