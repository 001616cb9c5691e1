use Rattle.std.proofs.Common.{inl, inr}
use Rattle.std.proofs.Math.Facts.{to_z-of_z}
use Rattle.fancy_regex_tree.proofs.Relative.{ahead, none_there, after_here}
use Rattle.fancy_regex_tree.proofs.resolve.relative_number.Goals as goal

pub returns-then-distance-gt0 : goal.returns-then-distance-gt0
returns-then-distance-gt0 c =
    let same = to_z-of_z c.ranges.distance in
    rw c.saturating_add.ensures (ahead c.args.openings c.unsigned_abs.result c.args.distance (rw same at c.if-distance-gt0.true) (rw same at c.unsigned_abs.ensures.value))

pub returns-then-back-eq0 : goal.returns-then-back-eq0
returns-then-back-eq0 c =
    let same = to_z-of_z c.ranges.distance in
    none_there c.args.openings c.unsigned_abs-back.result c.args.distance (rw same at c.if-distance-gt0.false) (rw same at c.unsigned_abs-back.ensures.value) (elim c.then-back-eq0.either [ inl h ↦ inl h | inr h ↦ inr h.1 ])

pub returns : goal.returns
returns c =
    let same = to_z-of_z c.ranges.distance in
    after_here c.args.openings c.unsigned_abs-back.result c.args.distance (rw same at c.if-distance-gt0.false) (rw same at c.unsigned_abs-back.ensures.value) c.if-back-eq0.false c.if-back-openings.false
