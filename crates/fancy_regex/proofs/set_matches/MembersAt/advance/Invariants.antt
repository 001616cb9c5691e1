use Rattle.std.proofs.Common.{◌≡◌, ◌≤◌, ◌-◌, length}
use Rattle.fancy_regex.specs.SetAnswers.{found_from, AreInLimits}
use Rattle.fancy_regex.proofs.set_matches.MembersAt.advance.Given as goal

abbrev pub invariant-loop-number : goal.invariant-loop-number
invariant-loop-number g l =
    let s = l.self in
    let found = found_from s.set.now.regexes.items (g.S.Input.text s.haystack) s.config s.position in
    record {
      onward : l.fn.next ≤ l.next;
      none : found (l.fn.next) ≡ found (l.next);
      limits : AreInLimits s.set.now.regexes.items (g.S.Input.text s.haystack) s.config s.position (l.fn.next) (l.next);
    }

abbrev pub decreases-loop-number : goal.decreases-loop-number
decreases-loop-number g l = length l.self.set.now.regexes.items - l.next
