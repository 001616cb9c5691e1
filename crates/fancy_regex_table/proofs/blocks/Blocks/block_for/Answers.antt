use Rattle.fancy_regex_table.proofs.BlockLemmas.{on_ok_three}
use Rattle.fancy_regex_table.proofs.blocks.Blocks.block_for.Goals as goal

pub returns-in-Some-clause-blocks : goal.returns-in-Some-clause-blocks
returns-in-Some-clause-blocks c =
    on_ok_three c.uniform_block.result c.uniform_block.ensures.whole c.uniform_block.ensures.uniform c.uniform_block.ensures.rows
    (λ whole uniform rows. record { whole = whole; rows = rows c.args.bits.now c.requires.blocks.rows; uniform = uniform })

pub returns-in-None-clause-blocks : goal.returns-in-None-clause-blocks
returns-in-None-clause-blocks c =
    on_ok_three c.add_block.result c.add_block.ensures.whole c.add_block.ensures.uniform c.add_block.ensures.rows
    (λ whole uniform rows. record { whole = whole; rows = rows c.args.bits.now c.requires.blocks.rows; uniform = uniform c.requires.blocks.uniform })
