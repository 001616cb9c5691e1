use Rattle.std.proofs.Common.{◌≡◌, length, Some, refl}
use Rattle.std.specs.Prelude.{slice_get}
use Rattle.std.proofs.lemmas.Option.{slice_get_read}
use Rattle.fancy_regex.proofs.SetMemberLemmas.{asked, asked_fails, asked_stays, is_match}
use Rattle.fancy_regex.proofs.set_matches.MembersAt.ask.Goals as goal

pub returns-in-Ok-Some-clause-answer : goal.returns-in-Ok-Some-clause-answer
returns-in-Ok-Some-clause-answer g c regex there =
    let s = c.args.self.now in
    let items = s.set.now.regexes.items in
    let text = g.S.Input.text s.haystack in
    let k = c.args.number in
    let x = c.in-Ok-Some.matched in
    let here : slice_get items k ≡ Some c.index.result.now = slice_get_read items (length items) k c.index.result.now refl c.requires c.index.ensures in
    let told = rw c.in-Ok-Some.field-0-is at c.in-Ok-Some.ensures.answer in
    let of = rw c.in-Ok-Some.field-0-is at c.in-Ok-Some.ensures.of in (
      told.0,
      asked items text s.config s.position k c.index.result.now regex (Some told.0) here there told.1,
      (is_match items text s.config s.position k c.index.result.now x.captures.regex.now told.0 x.captures.slots.items (x.start, x.end) here of.1 told.2.0 told.2.1, refl, of.0),
    )

pub returns-in-Ok-None-clause-answer : goal.returns-in-Ok-None-clause-answer
returns-in-Ok-None-clause-answer g c regex there =
    let s = c.args.self.now in
    let items = s.set.now.regexes.items in
    let k = c.args.number in
    let here : slice_get items k ≡ Some c.index.result.now = slice_get_read items (length items) k c.index.result.now refl c.requires c.index.ensures in
    let told = rw c.in-Ok-None.field-0-is at c.in-Ok-None.ensures.answer in
    asked items (g.S.Input.text s.haystack) s.config s.position k c.index.result.now regex _ here there told

pub returns-in-Err-clause-limits : goal.returns-in-Err-clause-limits
returns-in-Err-clause-limits g c =
    let s = c.args.self.now in
    let items = s.set.now.regexes.items in
    let k = c.args.number in
    let taken = c.index.result.now in
    let here : slice_get items k ≡ Some taken = slice_get_read items (length items) k taken refl c.requires c.index.ensures in
    asked_fails items (g.S.Input.text s.haystack) s.config s.position k taken c.in-Err.error here c.in-Err.ensures.limits

pub returns-in-Ok-Some-clause-stays : goal.returns-in-Ok-Some-clause-stays
returns-in-Ok-Some-clause-stays g c =
    let s = c.args.self.now in
    let items = s.set.now.regexes.items in
    let k = c.args.number in
    let here : slice_get items k ≡ Some c.index.result.now = slice_get_read items (length items) k c.index.result.now refl c.requires c.index.ensures in
    asked_stays items (g.S.Input.text s.haystack) s.config s.position k c.index.result.now here c.in-Ok-Some.ensures.stays

pub returns-in-Ok-None-clause-stays : goal.returns-in-Ok-None-clause-stays
returns-in-Ok-None-clause-stays g c =
    let s = c.args.self.now in
    let items = s.set.now.regexes.items in
    let k = c.args.number in
    let here : slice_get items k ≡ Some c.index.result.now = slice_get_read items (length items) k c.index.result.now refl c.requires c.index.ensures in
    asked_stays items (g.S.Input.text s.haystack) s.config s.position k c.index.result.now here c.in-Ok-None.ensures.stays
