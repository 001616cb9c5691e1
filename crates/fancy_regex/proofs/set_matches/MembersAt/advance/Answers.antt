use Rattle.std.proofs.Common.{◌≡◌, ℕ, ◌≤◌, ◌∙◌, [], length, refl, sym, subst, arith}
use Rattle.fancy_regex.specs.SetAnswers.{found_from, AreInLimits}
use Rattle.fancy_regex.proofs.SetMemberLemmas.{some_member, found_some, found_none, found_passed, found_rest, limits_over, limits_one}
use Rattle.fancy_regex.proofs.set_matches.MembersAt.advance.Goals as goal

pub returns-in-Ok-Some-clause-item : goal.returns-in-Ok-Some-clause-item
returns-in-Ok-Some-clause-item g c =
    let s = c.args.self.now in
    let items = s.set.now.regexes.items in
    let text = g.S.Input.text s.haystack in
    let k = c.in-Some.number in
    let passed = c.in-Some.ensures in
    let le : k ≤ length items = omega (arith, passed.1) in
    let over : found_from items text s.config s.position c.loop-number.next ≡ found_from items text s.config s.position k =
    found_passed items text s.config s.position c.byte-byte.ensures.utf8 s.boundary c.byte-byte.result (sym c.byte-byte.ensures.value) c.loop-number.next k passed.0 le passed.2 in
    let r = some_member items text s.config s.position k passed.1 in
    let told = rw c.in-Ok-Some.field-0-is at c.in-Ok-Some.ensures.answer in
    let a = told r.0 r.1 in (
      (k, a.0),
      omega (arith, c.loop-number.invariant.onward, passed.0),
      refl,
      c.loop-number.invariant.none ∙ over ∙ found_some items text s.config s.position k r.0 a.0 r.1 a.1,
      a.2,
    )

pub returns-in-Err-clause-item : goal.returns-in-Err-clause-item
returns-in-Err-clause-item g c =
    let s = c.args.self.now in
    let items = s.set.now.regexes.items in
    let text = g.S.Input.text s.haystack in
    let k = c.in-Some.number in
    let passed = c.in-Some.ensures in
    let le : k ≤ length items = omega (arith, passed.1) in
    let over : found_from items text s.config s.position c.loop-number.next ≡ found_from items text s.config s.position k =
    found_passed items text s.config s.position c.byte-byte.ensures.utf8 s.boundary c.byte-byte.result (sym c.byte-byte.ensures.value) c.loop-number.next k passed.0 le passed.2 in
    (k, omega (arith, c.loop-number.invariant.onward, passed.0), refl, c.loop-number.invariant.none ∙ over, c.in-Err.ensures.limits)

pub returns-clause-item : goal.returns-clause-item
returns-clause-item g c =
    let s = c.args.self.now in
    let items = s.set.now.regexes.items in
    let text = g.S.Input.text s.haystack in
    let rest : found_from items text s.config s.position c.loop-number.next ≡ [] =
    found_rest items text s.config s.position c.byte-byte.ensures.utf8 s.boundary c.byte-byte.result (sym c.byte-byte.ensures.value) c.loop-number.next c.in_default.ensures in
    (c.loop-number.invariant.none ∙ rest, rest)

pub loop-number-preserved : goal.loop-number-preserved
loop-number-preserved g c =
    let s = c.args.self.now in
    let items = s.set.now.regexes.items in
    let text = g.S.Input.text s.haystack in
    let k = c.in-Some.number in
    let passed = c.in-Some.ensures in
    let le : k ≤ length items = omega (arith, passed.1) in
    let over : found_from items text s.config s.position c.loop-number.next ≡ found_from items text s.config s.position k =
    found_passed items text s.config s.position c.byte-byte.ensures.utf8 s.boundary c.byte-byte.result (sym c.byte-byte.ensures.value) c.loop-number.next k passed.0 le passed.2 in
    let r = some_member items text s.config s.position k passed.1 in
    let told = rw c.in-Ok-None.field-0-is at c.in-Ok-None.ensures.answer in
    record {
      onward = omega (arith, c.loop-number.invariant.onward, passed.0);
      none = c.loop-number.invariant.none ∙ over ∙ found_none items text s.config s.position k r.0 r.1 (told r.0 r.1);
      limits = limits_one items text s.config s.position _ k
          (limits_over items text s.config s.position _ c.loop-number.next k c.byte-byte.result (sym c.byte-byte.ensures.value) c.loop-number.invariant.limits passed.2)
          c.in-Ok-None.ensures.stays;
    }

pub returns-in-Ok-Some-clause-limits : goal.returns-in-Ok-Some-clause-limits
returns-in-Ok-Some-clause-limits g c =
    let s = c.args.self.now in
    let items = s.set.now.regexes.items in
    let text = g.S.Input.text s.haystack in
    let k = c.in-Some.number in
    limits_one items text s.config s.position _ k
    (limits_over items text s.config s.position _ c.loop-number.next k c.byte-byte.result (sym c.byte-byte.ensures.value) c.loop-number.invariant.limits c.in-Some.ensures.2)
    c.in-Ok-Some.ensures.stays

pub returns-in-Err-clause-limits : goal.returns-in-Err-clause-limits
returns-in-Err-clause-limits g c k is =
    let s = c.args.self.now in
    let items = s.set.now.regexes.items in
    let text = g.S.Input.text s.haystack in
    let same : c.in-Some.number ≡ k = omega (arith, is) in
    subst (λ (n : ℕ). AreInLimits items text s.config s.position c.args.next.now n) same
    (limits_over items text s.config s.position c.args.next.now c.loop-number.next c.in-Some.number c.byte-byte.result (sym c.byte-byte.ensures.value) c.loop-number.invariant.limits c.in-Some.ensures.2)

pub returns-clause-limits : goal.returns-clause-limits
returns-clause-limits g c =
    let s = c.args.self.now in
    let items = s.set.now.regexes.items in
    let text = g.S.Input.text s.haystack in
    limits_over items text s.config s.position _ c.loop-number.next (length items) c.byte-byte.result (sym c.byte-byte.ensures.value) c.loop-number.invariant.limits c.in_default.ensures
