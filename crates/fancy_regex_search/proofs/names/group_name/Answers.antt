use Rattle.std.proofs.Common.{◌≡◌, ◌∙◌, ℕ, [], ◌∷◌, map, true, false, sym, ap, subst, string_bytes, String, Vec, Global, Bor, rules}
use Rattle.std.specs.List.{All}
use Rattle.std.specs.Map.Iter.{deref_pair}
use Rattle.std.specs.Option.{option_map_or}
use Rattle.std.specs.String.{string_cmp_total}
use Rattle.std.proofs.lemmas.List.Elements.{All-append, All-map}
use Rattle.std.proofs.lemmas.Map.Iter.{btree_map_turn, iter_end}
use Rattle.fancy_regex_tree.specs.Numbering.{numbers_under}
use Rattle.fancy_regex_search.proofs.NameLemmas.{has, name_found, name_missing, All-one}
use Rattle.fancy_regex_search.proofs.names.group_name.Goals as goal

pub loop-name-preserved : goal.loop-name-preserved
loop-name-preserved c =
    let group = c.args.group in
    let entry : Bor (String Global) × Bor (Vec ℕ Global) = (c.in-Some.name, c.in-Some.numbers) in
    let not_in : has group c.in-Some.numbers.now.items ≡ false = sym (ap (has group) c.deref.ensures.value) ∙ sym c.contains.ensures.value ∙ c.if-contains.false in
    let P : Bor (String Global) × Bor (Vec ℕ Global) → Type 0 = λ e. has group e.1.now.items ≡ false in
    All-append P c.loop-name.yielded (entry ∷ []) c.loop-name.invariant (All-one P entry not_in)

pub returns-then-contains : goal.returns-then-contains
returns-then-contains c names are =
    let group = c.args.group in
    let m = c.args.named.now in
    let turn =
    btree_map_turn deref_pair c.loop-name.yielded c.into_iter-name-iterator.result c.loop-name.name-iterator c.next.new.self c.next.result (c.in-Some.name, c.in-Some.numbers)
    c.loop-name.yielded_by c.in-Some.is c.next.ensures.steps string_cmp_total m (search rules) (search rules) in
    let inside : has group c.in-Some.numbers.now.items ≡ true = sym (ap (has group) c.deref.ensures.value) ∙ sym c.contains.ensures.value ∙ c.if-contains.true in
    let under : has group (numbers_under m (string_bytes c.in-Some.name.now)) ≡ true = ap (λ o. has group (option_map_or (λ v. v.items) o [])) turn.1 ∙ inside in
    name_found m names are group c.as_str.result.now c.as_str.utf8 (ap (λ q. has group (numbers_under m q)) c.as_str.ensures.value ∙ under)

pub returns : goal.returns
returns c names are =
    let group = c.args.group in
    let all : map deref_pair c.loop-name.yielded ≡ c.args.named.now.entries = search (rules, iter_end) in
    let P : String Global × Vec ℕ Global → Type 0 = λ e. has group e.1.items ≡ false in
    name_missing c.args.named.now names are group (subst (All P) all (All-map P deref_pair c.loop-name.yielded c.loop-name.invariant))
