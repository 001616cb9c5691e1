use Rattle.std.proofs.Common.{arith}
use Rattle.std.proofs.lemmas.Grind.{text_groups}
use Rattle.std.proofs.lemmas.Map.Text.{text_keys}
use Rattle.fancy_regex_tree.proofs.group_names.add_number.Goals as goal

pub returns-clause-value : goal.returns-clause-value
returns-clause-value c = λ q. grind (arith, text_groups)

pub returns-clause-keys : goal.returns-clause-keys
returns-clause-keys c = λ q. grind (arith, text_keys)
