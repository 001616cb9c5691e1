use Rattle.std.proofs.Common.{◌∙◌, Bool, refl, ap, subst, inl, inr}
use Rattle.fancy_regex_table.specs.Ends.{or_else, end_if, first_end}
use Rattle.fancy_regex_table.specs.Cells.{IsOpen, noted}
use Rattle.fancy_regex_table.specs.Making.{parts_of}
use Rattle.fancy_regex_table.specs.declared.row.Found.{Found}
use Rattle.fancy_regex_table.proofs.TargetLemmas.{stepped, stepped_on, stepped_beside}
use Rattle.fancy_regex_table.proofs.target.open_target.Goals as goal

pub returns-then-reading : goal.returns-then-reading
returns-then-reading c rows before own later reading begun right s at next start last place row =
    let nexts = c.in_ok-own.own.items in
    let own_is = stepped place own nexts c.args.reading.now.own reading.own_closed (rw c.deref.ensures.value at c.in_ok-own.ensures) in
    c.own_target.ensures s rows at next start last own later c.args.found row
    (own_is ∙ ap (λ (b : Bool). or_else (first_end s.go next nexts) (end_if b at)) c.if-reading.true) (inl refl)

pub returns-in-Own : goal.returns-in-Own
returns-in-Own c rows before own later reading begun right s at next start last place row =
    let own_is = stepped_on place own c.in_ok-own.own.items c.args.reading.now.own reading.own_closed (rw c.deref.ensures.value at c.in_ok-own.ensures) c.if-reading.false in
    c.own_target-in-Own.ensures s rows at next start last own later c.args.found row own_is (inr c.in-Own.is)

pub returns-in-Later : goal.returns-in-Later
returns-in-Later c rows before own later reading begun right s at next start last place row =
    let own_is = stepped_on place own c.in_ok-own.own.items c.args.reading.now.own reading.own_closed (rw c.deref.ensures.value at c.in_ok-own.ensures) c.if-reading.false in
    c.late_target.ensures s rows at next start last own later c.args.found row own_is (ap (λ (f : Found). noted f last) c.in-Later.is)

pub returns-then-reading-2 : goal.returns-then-reading-2
returns-then-reading-2 c rows before own later reading begun right s at next start last place row =
    let own_is = stepped_on place own c.in_ok-own.own.items c.args.reading.now.own reading.own_closed (rw c.deref.ensures.value at c.in_ok-own.ensures) c.if-reading.false in
    c.late_target-then-reading-2.ensures s rows at next start last own later c.args.found row own_is (ap (λ (f : Found). noted f last) c.in-Nothing.is)

pub returns-in_ok-target-in-Nothing : goal.returns-in_ok-target-in-Nothing
returns-in_ok-target-in-Nothing c rows before own later reading begun right s at next start last place row =
    let parts = parts_of c.args.pattern.now in
    let nexts = c.in_ok-own.own.items in
    let own_is = stepped_on place own nexts c.args.reading.now.own reading.own_closed (rw c.deref.ensures.value at c.in_ok-own.ensures) c.if-reading.false in
    let here = subst (λ (f : Found). IsOpen s at start last own later f) c.in-Nothing.is row in
    let later_is = stepped_beside place later nexts c.in_ok-later-in-Nothing.later.items c.args.reading.now.later reading.later_closed
    (rw (c.deref-in-Nothing.ensures.value, c.deref-in-Nothing-2.ensures.value) at c.in_ok-later-in-Nothing.ensures) c.if-reading-2.false in
    let begun_is = begun s at next place ∙ ap (λ (b : Bool). or_else (first_end s.go next c.args.beginning.now.begun.now.nexts.items) (end_if b at)) c.if-beginning.false in
    c.in_ok-target-in-Nothing.ensures parts s rows before c.args.c at next start last own later place here own_is later_is begun_is
    (λ early. right s at next start last place early)
