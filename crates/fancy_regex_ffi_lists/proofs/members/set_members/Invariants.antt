use Rattle.std.proofs.Common.{◌≡◌, ◌++◌, List, Some, ℕ, map}
use Rattle.fancy_regex.specs.Searches.{Match, SetAnswer}
use Rattle.fancy_regex.specs.SetAnswers.{answer_of_set, AreInLimits, AreInLimitsBefore}
use Rattle.fancy_regex_ffi_lists.specs.Lists.{config_at, matching_members, member_found}
use Rattle.fancy_regex_ffi_lists.proofs.MemberLemmas.{IsLeft, IsShownAs}
use Rattle.fancy_regex_ffi_lists.proofs.members.set_members.Given as goal

-- the members so far, and those that are left, are all members that are found
abbrev pub invariant-loop-member : goal.invariant-loop-member
invariant-loop-member l =
    let asked_for = config_at l.fn.text l.fn.position l.fn.continues in
    let regexes = l.fn.set.regexes.items in
    record {
      set : l.found.members.set.now ≡ l.fn.set;
      text : l.found.members.haystack.now ≡ l.fn.text;
      config : l.found.members.config ≡ asked_for;
      answer : SetAnswer;
      is_answer : answer_of_set regexes l.fn.text asked_for ≡ Some answer;
      at : answer.position ≡ l.found.members.position;
      before : AreInLimitsBefore regexes l.fn.text asked_for l.found.members.position;
      here : AreInLimits regexes l.fn.text asked_for l.found.members.position 0 l.found.next;
      left : List (ℕ × Match);
      is_left : IsLeft (λ x f. IsShownAs (x.pattern, (x.matched.start, x.matched.end)) f) regexes l.fn.text asked_for l.found.members.position l.found.first l.found.next left;
      members : l.members.items ++ map member_found left ≡ matching_members regexes l.fn.text asked_for;
    }
