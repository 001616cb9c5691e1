use Rattle.std.proofs.Common.{◌≡◌, ◌+◌, ◌-◌, ◌*◌, ◌/◌, ◌%◌, ◌<◌, ◌∙◌, get_or, refl, sym, ap, not, eqb, arith, ℕ}
use Rattle.std.proofs.lemmas.List.{get_or_read}
use Rattle.std.specs.Int.{bit_at}
use Rattle.fancy_regex_linear.proofs.VisitedLemmas.{place_below, bit_clear, flag_of, flags-set, length-flags, adds_set, counted_set}
use Rattle.fancy_regex_linear.proofs.visited.Visited.set.Goals as goal

pub returns-clause-adds : goal.returns-clause-adds
returns-clause-adds c =
    let v = c.args.self.now in
    let row : ℕ = c.args.at - v.base in
    let in_row : c.args.state / 64 < v.width = let w = v.wide in omega (arith, w, c.requires.state) in
    let inside = place_below v.width v.rows row (c.args.state / 64) c.requires.row in_row in
    let read : c.index-word.result.now ≡ get_or v.words.items (row * v.width + c.args.state / 64) 0 =
    get_or_read v.words.items (row * v.width + c.args.state / 64) _ (let f = v.filled in omega (arith, f, inside)) c.index-word.ensures 0 in
    adds_set v _ c.args.state c.args.at c.requires.state c.requires.base refl refl
    (flags-set v.count v.width v.rows v.words.items row c.args.state c.index-word.result.now v.wide v.filled c.requires.row c.requires.state read)

pub returns-clause-counted : goal.returns-clause-counted
returns-clause-counted c =
    let v = c.args.self.now in
    let row : ℕ = c.args.at - v.base in
    let in_row : c.args.state / 64 < v.width = let w = v.wide in omega (arith, w, c.requires.state) in
    let inside = place_below v.width v.rows row (c.args.state / 64) c.requires.row in_row in
    let read : c.index-word.result.now ≡ get_or v.words.items (row * v.width + c.args.state / 64) 0 =
    get_or_read v.words.items (row * v.width + c.args.state / 64) _ (let f = v.filled in omega (arith, f, inside)) c.index-word.ensures 0 in
    counted_set v _ c.args.state c.args.at _ c.requires.state c.requires.base refl refl
    (omega (arith, length-flags v.count v.width v.rows v.words.items, place_below v.count v.rows row c.args.state c.requires.row c.requires.state))
    (flags-set v.count v.width v.rows v.words.items row c.args.state c.index-word.result.now v.wide v.filled c.requires.row c.requires.state read)
    (bit_clear c.index-word.result.now (c.args.state % 64) (omega arith)
    ∙ ap (λ x. not (eqb (bit_at x (c.args.state % 64)) 1)) read
    ∙ ap not (sym (flag_of v.count v.width v.rows v.words.items row c.args.state c.requires.row c.requires.state)))
