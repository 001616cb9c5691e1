use Rattle.std.proofs.Common.{◌<◌, List, ℕ, length}
use Rattle.std.specs.Prelude.{IfSome}
use Rattle.fancy_regex_table.specs.Needed.{AreEffects, AreOthers}
use Rattle.fancy_regex_table.proofs.needed_maker.needed_in.Goals as goal

pub returns : goal.returns
returns c =
    let places = c.args.places.now in
    let string : List ℕ = c.args.string.items in
    let effects : AreEffects c.args.cells.now places.fresh.now places.begins.now c.args.reached.now string c.effects_of-effects.result =
    rw c.deref.ensures.value at c.effects_of-effects.ensures in
    let first : AreOthers places.classes.now string 0 c.others_of-others.result = rw c.deref-2.ensures.value at c.others_of-others.ensures in
    let second : AreOthers places.classes.now string 1 c.others_of-next_others.result = rw c.deref-3.ensures.value at c.others_of-next_others.ensures in
    let long : IfSome c.next_stops_of-next_stops.result (λ _. 1 < length string) = rw c.deref-4.ensures.value at c.next_stops_of-next_stops.ensures.long in
    record {
      reached = c.args.reached.now;
      marks = record { first = first; second = second; has_second = long };
      first = c.all_begin.ensures.first c.if-not-all_begin.false;
      begins_ascii = c.all_begin.ensures.ascii c.if-not-all_begin.false;
      kept = λ k small. effects.kept _ (c.ascii_are.ensures c.if-not-ascii_are.false k small);
      reset = λ k small e. effects.reset _ (c.resets_of.ensures.ascii k small e);
      kept_short = λ e k low high. effects.kept_wide _ (c.all_short_are-passes_short.ensures places.wide.now c.short_classes-used.ensures e k low high);
      reset_short = λ b low e k from below. effects.reset_wide _
          (c.all_short_are-resets_short.ensures places.wide.now c.short_classes-used.ensures (c.resets_of.ensures.others b low e) k from below);
    }
