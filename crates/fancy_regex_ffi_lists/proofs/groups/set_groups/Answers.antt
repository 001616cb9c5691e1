use Rattle.std.proofs.Common.{◌≡◌, ap, refl}
use Rattle.std.proofs.lemmas.Result.{err_from_is_err_and}
use Rattle.fancy_regex.specs.SetAnswers.{answer_of_set, found_from, IsMatchOfMember}
use Rattle.fancy_regex_ffi_lists.specs.Lists.{config_at, members_found}
use Rattle.fancy_regex_ffi_lists.proofs.GroupLemmas.{added_of_member, completes_all, completes_next, completes_none}
use Rattle.fancy_regex.proofs.SetLimitLemmas.{all_in_limits, set_stays, set_without_answer_stays}
use Rattle.fancy_regex_ffi_lists.proofs.MemberLemmas.{answer_error_is, error_at_answer, left_first, left_next, left_none, set_error_is}
use Rattle.fancy_regex_ffi_lists.proofs.groups.set_groups.Goals as goal

pub returns-in_err-found-clause-fails : goal.returns-in_err-found-clause-fails
returns-in_err-found-clause-fails c =
    let p = err_from_is_err_and c.from_residual.result c.from_residual.ensures.1 in
    let told = rw (c.input_at.ensures.haystack, c.input_at.ensures.config) at c.in_err-found.ensures.limits in
    rw (p.1, p.2) (set_error_is c.args.set.now.regexes.items c.args.text.now (config_at c.args.text.now c.args.position c.args.continues) _ told)

pub returns-in_default-clause-groups : goal.returns-in_default-clause-groups
returns-in_default-clause-groups c =
    let set = c.args.set.now in
    let told = rw (c.in_default.is, c.input_at.ensures.haystack, c.input_at.ensures.config) at c.in_ok-found.ensures.answer in
    rw told c.new-groups.ensures.items

pub loop-member-init : goal.loop-member-init
loop-member-init c =
    let set = c.args.set.now in
    let text = c.args.text.now in
    let config = config_at text c.args.position c.args.continues in
    let s = c.in-Some.found in
    let of = rw (c.in-Some.is, c.input_at.ensures.haystack, c.input_at.ensures.config) at c.in_ok-found.ensures.of in
    let told = rw (c.in-Some.is, c.input_at.ensures.haystack, c.input_at.ensures.config) at c.in_ok-found.ensures.answer in
    let stays = rw (c.in-Some.is, c.input_at.ensures.haystack, c.input_at.ensures.config) at c.in_ok-found.ensures.stays in
    let left = left_first
    (λ x f. IsMatchOfMember set.regexes.items f x.pattern x.matched.captures.regex.now x.matched.captures.slots.items (x.matched.start, x.matched.end)
    × (x.matched.captures.haystack.now ≡ text))
    set.regexes.items text config s.members.position s.first s.next told (λ x f h. (h.0, ap (λ b. b.now) h.2)) in
    record {
      set = of.0;
      text = ap (λ b. b.now) of.1;
      config = of.2;
      answer = told.0;
      is_answer = told.1;
      at = told.2;
      before = stays.0;
      here = stays.1;
      left = left.0;
      is_left = left.2;
      groups = completes_none set.regexes.items text (members_found (answer_of_set set.regexes.items text config)) left.0 c.new-groups.result.items left.1 c.new-groups.ensures.items;
    }

pub returns-in_err-member-clause-fails : goal.returns-in_err-member-clause-fails
returns-in_err-member-clause-fails c =
    let p = err_from_is_err_and c.from_residual-in_err-member.result c.from_residual-in_err-member.ensures.1 in
    let set = c.args.set.now in
    let text = c.args.text.now in
    let config = config_at text c.args.position c.args.continues in
    let s = c.loop-member.found in
    let inv = c.loop-member.invariant in
    let told = rw (c.in_err-member.was, inv.set, inv.text, inv.config) at c.in-Some-next.ensures.steps.2 in
    let passed = rw (c.in_err-member.was, inv.set, inv.text, inv.config) at c.in-Some-next.ensures.steps.3 in
    let met = error_at_answer set.regexes.items text config inv.answer s.members.position s.first s.next c.next.new.self.next _ inv.is_answer inv.at inv.before inv.here told passed in
    rw (p.1, p.2) (answer_error_is set.regexes.items text config _ met)

pub loop-member-preserved : goal.loop-member-preserved
loop-member-preserved c =
    let set = c.args.set.now in
    let text = c.args.text.now in
    let config = config_at text c.args.position c.args.continues in
    let s = c.loop-member.found in
    let t = c.next.new.self in
    let inv = c.loop-member.invariant in
    let steps = c.in-Some-next.ensures.steps in
    let x = c.in_ok-member.member in
    let told = rw (c.in_ok-member.was, inv.set, inv.text, inv.config) at steps.2 in
    let passed = rw (c.in_ok-member.was, inv.set, inv.text, inv.config) at steps.3 in
    let found = left_next
    (λ y f. IsMatchOfMember set.regexes.items f y.pattern y.matched.captures.regex.now y.matched.captures.slots.items (y.matched.start, y.matched.end)
    × (y.matched.captures.haystack.now ≡ text))
    set.regexes.items text config s.members.position s.first s.next t.next x inv.left inv.is_left told (λ f h. (h.0, ap (λ b. b.now) h.2)) inv.here passed in
    let pushed = rw (c.pattern.ensures, c.captures-2.ensures) at c.in_ok-push_groups.ensures in
    let added = added_of_member set.regexes.items text x.matched.captures.haystack.now x.matched.captures.slots.items found.0 x.pattern x.matched.captures.regex.now (x.matched.start, x.matched.end)
    c.loop-member.groups.items _ found.2.0 found.2.1 pushed in
    rw (steps.0, steps.1) (record {
      set = inv.set;
      text = inv.text;
      config = inv.config;
      answer = inv.answer;
      is_answer = inv.is_answer;
      at = inv.at;
      before = inv.before;
      here = found.3;
      left = found_from set.regexes.items text config s.members.position t.next;
      is_left = refl;
      groups = completes_next set.regexes.items text (members_found (answer_of_set set.regexes.items text config)) inv.left found.0 _ c.loop-member.groups.items added.0 _ found.1 added.1 added.2 inv.groups;
    })

pub returns-clause-groups : goal.returns-clause-groups
returns-clause-groups c =
    let s = c.loop-member.found in
    let inv = c.loop-member.invariant in
    let set = c.args.set.now in
    let text = c.args.text.now in
    let config = config_at text c.args.position c.args.continues in
    let told = rw (inv.set, inv.text, inv.config) at c.in_default-next.ensures.steps.2 in
    let none = left_none
    (λ y f. IsMatchOfMember set.regexes.items f y.pattern y.matched.captures.regex.now y.matched.captures.slots.items (y.matched.start, y.matched.end)
    × (y.matched.captures.haystack.now ≡ text))
    set.regexes.items text config s.members.position s.first s.next _ inv.left inv.is_left told in
    completes_all set.regexes.items text (members_found (answer_of_set set.regexes.items text config)) inv.left c.loop-member.groups.items none inv.groups

pub returns-in_default-clause-stays : goal.returns-in_default-clause-stays
returns-in_default-clause-stays c =
    let told = rw (c.in_default.is, c.input_at.ensures.haystack, c.input_at.ensures.config) at c.in_ok-found.ensures.answer in
    let stays = rw (c.in_default.is, c.input_at.ensures.haystack, c.input_at.ensures.config) at c.in_ok-found.ensures.stays in
    set_without_answer_stays c.args.set.now.regexes.items c.args.text.now (config_at c.args.text.now c.args.position c.args.continues) told stays

pub returns-clause-stays : goal.returns-clause-stays
returns-clause-stays c =
    let s = c.loop-member.found in
    let inv = c.loop-member.invariant in
    let regexes = c.args.set.now.regexes.items in
    let text = c.args.text.now in
    let config = config_at text c.args.position c.args.continues in
    let told = rw (inv.set, inv.text, inv.config) at c.in_default-next.ensures.steps.2 in
    let passed = rw (inv.set, inv.text, inv.config) at c.in_default-next.ensures.steps.3 in
    set_stays regexes text config inv.answer s.members.position inv.is_answer inv.at inv.before
    (all_in_limits regexes text config s.members.position s.first s.next c.next.new.self.next inv.here told passed)
