use Rattle.std.proofs.Common.{◌∙◌, ◌++◌, map, ap, sym, refl}
use Rattle.std.proofs.lemmas.Result.{err_from_is_err_and}
use Rattle.fancy_regex.specs.SetAnswers.{found_from}
use Rattle.fancy_regex_ffi_lists.specs.Lists.{config_at, member_found, members_found}
use Rattle.fancy_regex_ffi_lists.proofs.ListLemmas.{members_more, members_all}
use Rattle.fancy_regex.proofs.SetLimitLemmas.{all_in_limits, set_stays, set_without_answer_stays}
use Rattle.fancy_regex_ffi_lists.proofs.MemberLemmas.{IsShownAs, answer_error_is, error_at_answer, left_first, left_next, left_none, set_error_is}
use Rattle.fancy_regex_ffi_lists.proofs.members.set_members.Goals as goal

pub returns-in_err-found-clause-fails : goal.returns-in_err-found-clause-fails
returns-in_err-found-clause-fails c =
    let p = err_from_is_err_and c.from_residual.result c.from_residual.ensures.1 in
    let told = rw (c.input_at.ensures.haystack, c.input_at.ensures.config) at c.in_err-found.ensures.limits in
    rw (p.1, p.2) (set_error_is c.args.set.now.regexes.items c.args.text.now (config_at c.args.text.now c.args.position c.args.continues) _ told)

pub returns-in_default-clause-members : goal.returns-in_default-clause-members
returns-in_default-clause-members c =
    let told = rw (c.in_default.is, c.input_at.ensures.haystack, c.input_at.ensures.config) at c.in_ok-found.ensures.answer in
    c.new-members.ensures.items ∙ sym (ap (λ a. map member_found (members_found a)) told)

pub loop-member-init : goal.loop-member-init
loop-member-init c =
    let set = c.args.set.now in
    let text = c.args.text.now in
    let config = config_at text c.args.position c.args.continues in
    let s = c.in-Some.found in
    let of = rw (c.in-Some.is, c.input_at.ensures.haystack, c.input_at.ensures.config) at c.in_ok-found.ensures.of in
    let told = rw (c.in-Some.is, c.input_at.ensures.haystack, c.input_at.ensures.config) at c.in_ok-found.ensures.answer in
    let stays = rw (c.in-Some.is, c.input_at.ensures.haystack, c.input_at.ensures.config) at c.in_ok-found.ensures.stays in
    let left = left_first (λ x f. IsShownAs (x.pattern, (x.matched.start, x.matched.end)) f) set.regexes.items text config s.members.position s.first s.next told (λ x f h i. (h.0.number_is i, h.0.span_is i)) in
    record {
      set = of.0;
      text = ap (λ b. b.now) of.1;
      config = of.2;
      answer = told.0;
      is_answer = told.1;
      at = told.2;
      before = stays.0;
      here = stays.1;
      left = left.0;
      is_left = left.2;
      members = ap (λ out. out ++ map member_found left.0) c.new-members.ensures.items ∙ ap (λ fs. map member_found fs) left.1;
    }

pub returns-in_err-member-clause-fails : goal.returns-in_err-member-clause-fails
returns-in_err-member-clause-fails c =
    let p = err_from_is_err_and c.from_residual-in_err-member.result c.from_residual-in_err-member.ensures.1 in
    let set = c.args.set.now in
    let text = c.args.text.now in
    let config = config_at text c.args.position c.args.continues in
    let s = c.loop-member.found in
    let inv = c.loop-member.invariant in
    let told = rw (c.in_err-member.was, inv.set, inv.text, inv.config) at c.in-Some-next.ensures.steps.2 in
    let passed = rw (c.in_err-member.was, inv.set, inv.text, inv.config) at c.in-Some-next.ensures.steps.3 in
    let met = error_at_answer set.regexes.items text config inv.answer s.members.position s.first s.next c.next.new.self.next _ inv.is_answer inv.at inv.before inv.here told passed in
    rw (p.1, p.2) (answer_error_is set.regexes.items text config _ met)

pub loop-member-preserved : goal.loop-member-preserved
loop-member-preserved c =
    let set = c.args.set.now in
    let text = c.args.text.now in
    let config = config_at text c.args.position c.args.continues in
    let s = c.loop-member.found in
    let t = c.next.new.self in
    let inv = c.loop-member.invariant in
    let steps = c.in-Some-next.ensures.steps in
    let told = rw (c.in_ok-member.was, inv.set, inv.text, inv.config) at steps.2 in
    let passed = rw (c.in_ok-member.was, inv.set, inv.text, inv.config) at steps.3 in
    let found = left_next (λ x f. IsShownAs (x.pattern, (x.matched.start, x.matched.end)) f) set.regexes.items text config s.members.position s.first s.next t.next c.in_ok-member.member inv.left inv.is_left told (λ f h i. (h.0.number_is i, h.0.span_is i)) inv.here passed in
    rw (steps.0, steps.1) (record {
      set = inv.set;
      text = inv.text;
      config = inv.config;
      answer = inv.answer;
      is_answer = inv.is_answer;
      at = inv.at;
      before = inv.before;
      here = found.3;
      left = found_from set.regexes.items text config s.members.position t.next;
      is_left = refl;
      members =
          ap (λ xs. xs ++ map member_found (found_from set.regexes.items text config s.members.position t.next)) c.in_ok-push.ensures.items
          ∙ members_more c.loop-member.members.items c.member_at.result found.0 inv.left _ _ found.1
          (c.member_at.ensures ∙ ap (λ v. record { pattern = v.0; start = v.1.0; end = v.1.1 }) found.2) inv.members;
    })

pub returns-clause-members : goal.returns-clause-members
returns-clause-members c =
    let s = c.loop-member.found in
    let inv = c.loop-member.invariant in
    let config = config_at c.args.text.now c.args.position c.args.continues in
    let told = rw (inv.set, inv.text, inv.config) at c.in_default-next.ensures.steps.2 in
    let none = left_none (λ x f. IsShownAs (x.pattern, (x.matched.start, x.matched.end)) f) c.args.set.now.regexes.items c.args.text.now config s.members.position s.first s.next _ inv.left inv.is_left told in
    members_all _ _ inv.left none inv.members

pub returns-in_default-clause-stays : goal.returns-in_default-clause-stays
returns-in_default-clause-stays c =
    let told = rw (c.in_default.is, c.input_at.ensures.haystack, c.input_at.ensures.config) at c.in_ok-found.ensures.answer in
    let stays = rw (c.in_default.is, c.input_at.ensures.haystack, c.input_at.ensures.config) at c.in_ok-found.ensures.stays in
    set_without_answer_stays c.args.set.now.regexes.items c.args.text.now (config_at c.args.text.now c.args.position c.args.continues) told stays

pub returns-clause-stays : goal.returns-clause-stays
returns-clause-stays c =
    let s = c.loop-member.found in
    let inv = c.loop-member.invariant in
    let regexes = c.args.set.now.regexes.items in
    let text = c.args.text.now in
    let config = config_at text c.args.position c.args.continues in
    let told = rw (inv.set, inv.text, inv.config) at c.in_default-next.ensures.steps.2 in
    let passed = rw (inv.set, inv.text, inv.config) at c.in_default-next.ensures.steps.3 in
    set_stays regexes text config inv.answer s.members.position inv.is_answer inv.at inv.before
    (all_in_limits regexes text config s.members.position s.first s.next c.next.new.self.next inv.here told passed)
