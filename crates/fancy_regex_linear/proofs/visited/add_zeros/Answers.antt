use Rattle.std.proofs.Common.{◌≡◌, ℕ, ◌+◌, ◌-◌, ◌∙◌, ◌++◌, ap, ap₂, arith, replicate, vec_len}
use Rattle.std.proofs.lemmas.List.{take_all}
use Rattle.fancy_regex_linear.proofs.visited.add_zeros.Goals as goal

pub returns-clause-added : goal.returns-clause-added
returns-clause-added c =
    let xs = c.args.words.now in let e = c.in_ok-resize.ensures.items in
    e ∙ ap₂ ◌++◌ (take_all (c.len.result + c.args.count) xs.items (omega (arith, c.len.ensures, xs.ok.0)))
    (let more : c.len.result + c.args.count - vec_len xs ≡ c.args.count = omega (arith, c.len.ensures) in ap (λ k. replicate {A = ℕ} k 0) more)
