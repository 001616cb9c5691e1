use Rattle.std.proofs.Common.{◌≡◌, List, Some, ℕ}
use Rattle.fancy_regex.specs.Searches.{Match, SetAnswer}
use Rattle.fancy_regex.specs.SetAnswers.{answer_of_set, AreInLimits, AreInLimitsBefore, IsMatchOfMember}
use Rattle.fancy_regex_ffi_lists.specs.Lists.{config_at, members_found}
use Rattle.fancy_regex_ffi_lists.proofs.GroupLemmas.{Completes}
use Rattle.fancy_regex_ffi_lists.proofs.MemberLemmas.{IsLeft}
use Rattle.fancy_regex_ffi_lists.proofs.groups.set_groups.Given as goal

-- the groups so far, and those of the members that are left, are those of all members that are found
abbrev pub invariant-loop-member : goal.invariant-loop-member
invariant-loop-member l =
    let asked_for = config_at l.fn.text l.fn.position l.fn.continues in
    let regexes = l.fn.set.regexes.items in
    record {
      set : l.found.members.set.now ≡ l.fn.set;
      text : l.found.members.haystack.now ≡ l.fn.text;
      config : l.found.members.config ≡ asked_for;
      answer : SetAnswer;
      is_answer : answer_of_set regexes l.fn.text asked_for ≡ Some answer;
      at : answer.position ≡ l.found.members.position;
      before : AreInLimitsBefore regexes l.fn.text asked_for l.found.members.position;
      here : AreInLimits regexes l.fn.text asked_for l.found.members.position 0 l.found.next;
      left : List (ℕ × Match);
      is_left : IsLeft
          (λ x f. IsMatchOfMember regexes f x.pattern x.matched.captures.regex.now x.matched.captures.slots.items (x.matched.start, x.matched.end)
          × (x.matched.captures.haystack.now ≡ l.fn.text))
          regexes l.fn.text asked_for l.found.members.position l.found.first l.found.next left;
      groups : Completes regexes l.fn.text (members_found (answer_of_set regexes l.fn.text asked_for)) left l.groups.items;
    }
