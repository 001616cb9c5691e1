use Rattle.std.proofs.Common.{◌≡◌, ◌∙◌, ◌++◌, ◌≤◌, inl, inr, length, ap, sym, refl, IsCharBoundary}
use Rattle.std.proofs.lemmas.Result.{err_from_is_err_and}
use Rattle.fancy_regex.specs.SearchInputs.{whole}
use Rattle.fancy_regex.specs.SetAnswers.{found_from}
use Rattle.fancy_regex.proofs.SetLimitLemmas.{all_in_limits, passes_on, set_stays, set_without_answer_stays}
use Rattle.fancy_search_text.specs.Members.{member_lines, members_found}
use Rattle.fancy_search_text.proofs.MemberLemmas.{answer_asked, answer_same, error_at_answer, error_is, left_error, left_first, left_next, left_none, lines_done, lines_more, set_error_is}
use Rattle.fancy_search_text.proofs.members.member_lines.Goals as goal

pub returns-in_err-members-clause-fails : goal.returns-in_err-members-clause-fails
returns-in_err-members-clause-fails c =
    let p = err_from_is_err_and c.from_residual.result c.from_residual.ensures.1 in
    let told = rw (c.new.ensures.haystack, c.new.ensures.config) at c.in_err-members.ensures.limits in
    rw (p.1, p.2) (set_error_is c.args.set.now c.args.text.now _ told)

pub returns-in_err-members-clause-passes : goal.returns-in_err-members-clause-passes
returns-in_err-members-clause-passes c =
    let p = err_from_is_err_and c.from_residual.result c.from_residual.ensures.1 in
    let told = rw (c.new.ensures.haystack, c.new.ensures.config) at c.in_err-members.ensures.limits in
    rw (p.1, p.2) (λ other. inl told)

pub returns-in_default-clause-lines : goal.returns-in_default-clause-lines
returns-in_default-clause-lines c =
    let told = rw (c.in_default.is, c.new.ensures.haystack, c.new.ensures.config) at c.in_ok-members.ensures.answer in
    let none = sym (answer_same c.args.set.now c.args.text.now) ∙ told in
    c.new-lines.ensures.bytes ∙ sym (ap (λ a. member_lines (members_found a)) none)

pub loop-member-init : goal.loop-member-init
loop-member-init c =
    let set = c.args.set.now in
    let text = c.args.text.now in
    let s = c.in-Some.members in
    let of = rw (c.in-Some.is, c.new.ensures.haystack, c.new.ensures.config) at c.in_ok-members.ensures.of in
    let told = rw (c.in-Some.is, c.new.ensures.haystack, c.new.ensures.config) at c.in_ok-members.ensures.answer in
    let stays = rw (c.in-Some.is, c.new.ensures.haystack, c.new.ensures.config) at c.in_ok-members.ensures.stays in
    let seen : s.members.haystack.now ≡ text = ap (λ b. b.now) of.1 in
    let cut : IsCharBoundary text s.members.position = rw (seen) at s.members.boundary in
    let within : s.members.position ≤ length text = rw (of.2) at s.members.inside in
    let left = left_first (λ x. (x.pattern, (x.matched.start, x.matched.end))) set text s.members.position s.first s.next told (λ x f h i. (h.0.number_is i, h.0.span_is i)) in
    record {
      set = of.0;
      text = seen;
      config = of.2;
      asked = answer_asked set text s.members.position cut within told.0 told.1 told.2;
      answer = told.0;
      is_answer = told.1;
      at = told.2;
      before = stays.0;
      here = stays.1;
      left = left.0;
      is_left = left.2;
      lines = ap (λ out. out ++ member_lines left.0) c.new-lines.ensures.bytes ∙ ap member_lines left.1;
    }

pub returns-in_err-member-clause-fails : goal.returns-in_err-member-clause-fails
returns-in_err-member-clause-fails c =
    let p = err_from_is_err_and c.from_residual-in_err-member.result c.from_residual-in_err-member.ensures.1 in
    let set = c.args.set.now in
    let text = c.args.text.now in
    let s = c.loop-member.members in
    let inv = c.loop-member.invariant in
    let told = rw (c.in_err-member.was, inv.set, inv.text, inv.config) at c.in-Some-next.ensures.steps.2 in
    let of_member = left_error set text s.members.position s.first s.next _ _ told in
    rw (p.1, p.2) (error_is set text s.members.position of_member.0 _ inv.asked of_member.1)

pub returns-in_err-member-clause-passes : goal.returns-in_err-member-clause-passes
returns-in_err-member-clause-passes c =
    let p = err_from_is_err_and c.from_residual-in_err-member.result c.from_residual-in_err-member.ensures.1 in
    let s = c.loop-member.members in
    let inv = c.loop-member.invariant in
    let told = rw (c.in_err-member.was, inv.set, inv.text, inv.config) at c.in-Some-next.ensures.steps.2 in
    let passed = rw (c.in_err-member.was, inv.set, inv.text, inv.config) at c.in-Some-next.ensures.steps.3 in
    let met = error_at_answer c.args.set.now.regexes.items c.args.text.now inv.answer s.members.position s.first s.next c.next.new.self.next _ inv.is_answer inv.at inv.before inv.here told passed in
    rw (p.1, p.2) (λ other. inr met)

pub loop-member-preserved : goal.loop-member-preserved
loop-member-preserved c =
    let set = c.args.set.now in
    let text = c.args.text.now in
    let s = c.loop-member.members in
    let t = c.next.new.self in
    let inv = c.loop-member.invariant in
    let steps = c.in-Some-next.ensures.steps in
    let told = rw (c.in_ok-member.was, inv.set, inv.text, inv.config) at steps.2 in
    let passed = rw (c.in_ok-member.was, inv.set, inv.text, inv.config) at steps.3 in
    let found = left_next (λ x. (x.pattern, (x.matched.start, x.matched.end))) set text s.members.position s.first s.next t.next c.in_ok-member.member inv.left inv.is_left told (λ f h i. (h.0.number_is i, h.0.span_is i)) in
    let m = c.in_ok-member.member in
    let line = c.in_ok-write_member.ensures in
    let shown : (c.pattern.result, (c.start.result, c.end.result)) ≡ (m.pattern, (m.matched.start, m.matched.end)) = λ i. (c.pattern.ensures i, (c.start.ensures i, c.end.ensures i)) in
    rw (steps.0, steps.1) (record {
      set = inv.set;
      text = inv.text;
      config = inv.config;
      asked = inv.asked;
      answer = inv.answer;
      is_answer = inv.is_answer;
      at = inv.at;
      before = inv.before;
      here = passes_on set.regexes.items text (whole text) _ s.members.position s.first s.next t.next c.in_ok-member.member inv.here told passed;
      left = found_from set.regexes.items text (whole text) s.members.position t.next;
      is_left = refl;
      lines = lines_more _ _ _ found.0 inv.left _ (c.pattern.result, (c.start.result, c.end.result)) inv.lines found.1 (shown ∙ found.2) line;
    })

pub returns-clause-lines : goal.returns-clause-lines
returns-clause-lines c =
    let s = c.loop-member.members in
    let inv = c.loop-member.invariant in
    let told = rw (inv.set, inv.text, inv.config) at c.in_default-next.ensures.steps.2 in
    let none = left_none (λ x. (x.pattern, (x.matched.start, x.matched.end))) c.args.set.now c.args.text.now s.members.position s.first s.next _ inv.left inv.is_left told in
    lines_done _ _ inv.left inv.lines none

pub returns-in_default-clause-stays : goal.returns-in_default-clause-stays
returns-in_default-clause-stays c =
    let told = rw (c.in_default.is, c.new.ensures.haystack, c.new.ensures.config) at c.in_ok-members.ensures.answer in
    let stays = rw (c.in_default.is, c.new.ensures.haystack, c.new.ensures.config) at c.in_ok-members.ensures.stays in
    set_without_answer_stays c.args.set.now.regexes.items c.args.text.now (whole c.args.text.now) told stays

pub returns-clause-stays : goal.returns-clause-stays
returns-clause-stays c =
    let s = c.loop-member.members in
    let inv = c.loop-member.invariant in
    let regexes = c.args.set.now.regexes.items in
    let text = c.args.text.now in
    let told = rw (inv.set, inv.text, inv.config) at c.in_default-next.ensures.steps.2 in
    let passed = rw (inv.set, inv.text, inv.config) at c.in_default-next.ensures.steps.3 in
    set_stays regexes text (whole text) inv.answer s.members.position inv.is_answer inv.at inv.before
    (all_in_limits regexes text (whole text) s.members.position s.first s.next c.next.new.self.next inv.here told passed)
