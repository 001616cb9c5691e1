use Rattle.std.proofs.Common.{◌≡◌, ◌++◌, List, Some, ℕ, string_bytes}
use Rattle.fancy_regex.specs.Searches.{Match, SetAnswer}
use Rattle.fancy_regex.specs.SearchInputs.{whole}
use Rattle.fancy_regex.specs.SetAnswers.{answer_of_set, AreInLimits, AreInLimitsBefore}
use Rattle.fancy_search_text.specs.Members.{answer_in, member_lines, members_found, sources_of, IsAskedAt}
use Rattle.fancy_search_text.proofs.MemberLemmas.{IsLeft}
use Rattle.fancy_search_text.proofs.members.member_lines.Given as goal

-- what is out, and the lines of the members that are left, are the lines of all members that are found
abbrev pub invariant-loop-member : goal.invariant-loop-member
invariant-loop-member l =
    record {
      set : l.members.members.set.now ≡ l.fn.set;
      text : l.members.members.haystack.now ≡ l.fn.text;
      config : l.members.members.config ≡ whole l.fn.text;
      asked : IsAskedAt (sources_of l.fn.set) l.fn.text l.members.members.position;
      answer : SetAnswer;
      is_answer : answer_of_set l.fn.set.regexes.items l.fn.text (whole l.fn.text) ≡ Some answer;
      at : answer.position ≡ l.members.members.position;
      before : AreInLimitsBefore l.fn.set.regexes.items l.fn.text (whole l.fn.text) l.members.members.position;
      here : AreInLimits l.fn.set.regexes.items l.fn.text (whole l.fn.text) l.members.members.position 0 l.members.next;
      left : List (ℕ × Match);
      is_left : IsLeft (λ x. (x.pattern, (x.matched.start, x.matched.end))) l.fn.set l.fn.text l.members.members.position l.members.first l.members.next left;
      lines : string_bytes l.lines ++ member_lines left ≡ member_lines (members_found (answer_in (sources_of l.fn.set) l.fn.text));
    }
