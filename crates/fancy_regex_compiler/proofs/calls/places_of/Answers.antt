use Rattle.std.proofs.Common.{rules, ◌≡◌, ◌+◌, ◌<◌, length, get_or, Some, sym, ap, subst, ◌∙◌, arith}
use Rattle.std.specs.Prelude.{slice_get}
use Rattle.std.proofs.lemmas.Option.{slice_get-get_or}
use Rattle.fancy_regex_compiler.specs.Kept.{ArePlaces, table_of}
use Rattle.fancy_regex_compiler.specs.declared.calls.Body.{Body}
use Rattle.fancy_regex_compiler.proofs.StackLemmas.{places_none, places_more}
use Rattle.fancy_regex_compiler.proofs.calls.places_of.Goals as goal

pub loop-body-init : goal.loop-body-init
loop-body-init c = record {
  count = search rules;
  places = λ from stacked. places_none c.args.bodies.now.list.items from c.args.bodies.now.end (table_of c.in_ok-no_places.field-0.items) c.in_ok-no_places.ensures.none;
}

pub loop-body-preserved : goal.loop-body-preserved
loop-body-preserved c = record {
  count = search rules;
  places = λ from stacked.
      let bodies = c.args.bodies.now in
      let xs = c.deref-body-items.result.now in
      let i = c.loop-body.body-index in
      let none : Body = record { group = 0; start = 0; first = 0; own = 0 } in
      let b = get_or xs i none in
      let table = table_of c.add_place.new.places.of_groups.items in
      let low : i < length xs = omega arith in
      let at : slice_get bodies.list.items i ≡ Some b = ap (λ l. slice_get l i) (sym c.deref-body-items.ensures.value) ∙ slice_get-get_or xs i none low in
      subst (ArePlaces bodies.list.items from bodies.end (i + 1) table) (sym c.in_ok-add_place.ensures.end)
      (places_more bodies.list.items from bodies.end i c.loop-body.places.end (table_of c.loop-body.places.of_groups.items) table b stacked at
      (c.loop-body.invariant.places from stacked) c.in_ok-add_place.ensures.placed);
}
