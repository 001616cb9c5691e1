-- The faults of the code as those of the definitions.
use Rattle.std.specs.Prelude.{chars}
use Rattle.fancy_regex_template.specs.Faults.{TemplateFault, begins_nothing, named_backref_only, invalid_backref, invalid_group_name_backref}
use Rattle.fancy_regex_template.specs.declared.check.TemplateFault as code
use Rattle.fancy_regex_template.specs.declared.check.TemplateFault.TheVariants.{LooseSign, NamedBackrefOnly, InvalidBackref, InvalidGroupNameBackref}

-- a fault of the code, with its text as characters
abbrev pub fault_of : code.TemplateFault → TemplateFault
fault_of LooseSign = begins_nothing
fault_of NamedBackrefOnly = named_backref_only
fault_of (InvalidBackref n) = invalid_backref n
fault_of (InvalidGroupNameBackref name) = invalid_group_name_backref (chars name.now)
