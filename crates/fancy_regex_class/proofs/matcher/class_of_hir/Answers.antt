use Rattle.std.proofs.Common.{sym, ◌∙◌, rules}
use Rattle.std.specs.Char.{IsScalar}
use Rattle.fancy_regex_class.proofs.HirClassLemmas.{table_of_chars, table_of_bytes, table_of_char}
use Rattle.fancy_regex_class.proofs.matcher.class_of_hir.Goals as goal

pub returns-in-Chars-clause-members : goal.returns-in-Chars-clause-members
returns-in-Chars-clause-members c = table_of_chars c.args.tree c.in-Chars.class c.in-Chars.is

pub returns-in-Bytes-clause-members : goal.returns-in-Bytes-clause-members
returns-in-Bytes-clause-members c = table_of_bytes c.args.tree c.in-Bytes.class c.in-Bytes.is c.requires

pub returns-in-Some-clause-members : goal.returns-in-Some-clause-members
returns-in-Some-clause-members c =
    let scalar : IsScalar c.in-Some.c = search rules in
    table_of_char c.args.tree c.in-Literal.bytes c.in-Some.c c.in_ok-from_ranges-in-Some.field-0.ranges.items c.in-Literal.is
    (sym c.deref.ensures.value ∙ c.in-Some.ensures.some) scalar c.in_ok-from_ranges-in-Some.ensures
