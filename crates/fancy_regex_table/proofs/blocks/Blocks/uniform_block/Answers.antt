use Rattle.std.proofs.Common.{ℕ, arith, get_or, replicate}
use Rattle.std.proofs.lemmas.List.{get_or-replicate}
use Rattle.fancy_regex_table.specs.Blocks.{IsBlock}
use Rattle.fancy_regex_table.proofs.BlockLemmas.{block_same, uniform_set}
use Rattle.fancy_regex_table.proofs.blocks.Blocks.uniform_block.Goals as goal

pub returns-clause-uniform : goal.returns-clause-uniform
returns-clause-uniform c =
    let answers = c.add_block.new.self.answers.items in
    let is : IsBlock answers c.in_ok-block.block (λ _. c.args.number) =
    block_same answers c.in_ok-block.block (λ place. get_or {A = ℕ} (replicate 64 c.args.number) place 0) (λ _. c.args.number) c.in_ok-block.ensures.block
    (λ place lt. get_or-replicate 64 place c.args.number 0 lt) in
    uniform_set c.add_block.new.self.uniform answers c.args.number c.in_ok-block.block (omega arith) (c.in_ok-block.ensures.uniform c.requires.uniform) is

pub returns-clause-block : goal.returns-clause-block
returns-clause-block c =
    block_same c.add_block.new.self.answers.items c.in_ok-block.block (λ place. get_or {A = ℕ} (replicate 64 c.args.number) place 0) (λ _. c.args.number)
    c.in_ok-block.ensures.block (λ place lt. get_or-replicate 64 place c.args.number 0 lt)
