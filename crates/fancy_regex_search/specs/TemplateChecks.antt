-- The groups of a regex as the check of a template reads them, and the errors that it returns.
use Rattle.std.specs.Prelude.{◌≡◌, ℕ, zero, suc, ◌+◌, Bool, false, ◌||◌, length, chars, codes, string_bytes, is_some}
use Rattle.fancy_regex_tree.specs.Numbering.{Names, last_named}
use Rattle.fancy_regex_text.specs.declared.fault.ParseError.TheVariants.{GeneralParseError}
use Rattle.fancy_regex_info.specs.declared.error.CompileError.TheVariants.{NamedBackrefOnly, InvalidBackref, InvalidGroupNameBackref}
use Rattle.fancy_regex_template.specs.Faults.{TemplateFault, Groups, begins_nothing, named_backref_only, invalid_backref, invalid_group_name_backref}
use Rattle.fancy_regex_meta.specs.GroupNames.{name_at}
use Rattle.fancy_regex_meta.specs.MetaMatches.{meta_pattern}
use Rattle.fancy_regex_meta.specs.declared.error.Error.{Error}
use Rattle.fancy_regex_meta.specs.declared.error.Error.TheVariants as told
use Rattle.fancy_regex_meta.specs.declared.meta_regex.MetaRegex.{MetaRegex}
use Rattle.fancy_regex_search.specs.GroupLookup.{meta_group_names}

-- one of the n groups from this number on has a name
abbrev pub has_names_from : Names → ℕ → ℕ → Bool
has_names_from names zero k = false
has_names_from names (suc n) k = is_some (name_at names k) || has_names_from names n (k + 1)

abbrev pub groups_of : MetaRegex → Groups
groups_of s = record {
  contains_name = λ name. is_some (last_named (meta_group_names s) name);
  has_names = has_names_from (meta_group_names s) (length (meta_pattern s).groups) 0;
  count = length (meta_pattern s).groups;
}

-- the error that tells a fault of a template
abbrev pub IsErrorOfFault : TemplateFault → Error → Type 0
IsErrorOfFault begins_nothing (told.ParseError place (GeneralParseError text)) = (place ≡ 0) × (string_bytes text ≡ codes "parse error in template while expanding")
IsErrorOfFault named_backref_only (told.CompileError NamedBackrefOnly) = Unit {0}
IsErrorOfFault (invalid_backref n) (told.CompileError (InvalidBackref number)) = number ≡ n
IsErrorOfFault (invalid_group_name_backref name) (told.CompileError (InvalidGroupNameBackref text)) = chars (string_bytes text) ≡ name
IsErrorOfFault _ _ = ⊥
