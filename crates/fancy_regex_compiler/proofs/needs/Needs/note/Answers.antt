use Rattle.std.proofs.Common.{[], ◌∷◌, ◌++◌, ⊎_elim, sym, subst, append-nil}
use Rattle.std.specs.List.{Contains}
use Rattle.std.proofs.lemmas.List.Elements.{Contains-push, Contains-push_cases}
use Rattle.fancy_regex_compiler.proofs.NeedLemmas.{none_there}
use Rattle.fancy_regex_compiler.proofs.needs.Needs.note.Goals as goal

pub returns-then-has : goal.returns-then-has
returns-then-has c = record {
  more = [];
  are = sym (append-nil c.args.self.now.list.items);
  there = c.has.ensures c.if-has.true;
  only = λ n there. none_there n there;
}

pub returns : goal.returns
returns c = record {
  more = c.args.need ∷ [];
  are = c.in_ok-push.ensures.items;
  there = subst (λ ns. Contains ns c.args.need) (sym c.in_ok-push.ensures.items) (Contains-push c.args.self.now.list.items c.args.need);
  only = λ n there. ⊎_elim (λ here. none_there n here) (λ is. is) (Contains-push_cases [] c.args.need n there);
}
