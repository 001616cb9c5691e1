use Rattle.std.proofs.Common.{refl}
use Rattle.std.specs.Str.{chars}
use Rattle.fancy_regex_template.proofs.expand.sign_text.Goals as goal

pub returns-in-Dollar : goal.returns-in-Dollar
unfolding chars
returns-in-Dollar c = rw c.in-Dollar.is refl

pub returns-in-Python : goal.returns-in-Python
unfolding chars
returns-in-Python c = rw c.in-Python.is refl
