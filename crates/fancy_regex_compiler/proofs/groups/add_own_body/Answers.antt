use Rattle.std.proofs.Common.{◌++◌, map, sym, ap, ◌∙◌, append-nil}
use Rattle.fancy_regex_info.specs.Infos.{info_of}
use Rattle.fancy_regex_compiler.specs.Writing.{info_at}
use Rattle.fancy_regex_compiler.proofs.GroupLemmas.{own_is, none_is}
use Rattle.fancy_regex_compiler.proofs.groups.add_own_body.Goals as goal

pub returns-in_ok-add_children-in-Group : goal.returns-in_ok-add_children-in-Group
returns-in_ok-add_children-in-Group c =
    let start = map info_at c.args.groups.now.items in
    c.in_ok-add_children-in-Group.ensures ∙ ap (λ xs. start ++ map info_of xs) c.deref.ensures.value
    ∙ ap (λ zs. start ++ zs) (sym (own_is c.args.info.now c.in-Group.field-0 c.in-Group.is))

pub returns-in_default : goal.returns-in_default
returns-in_default c =
    let start = map info_at c.args.groups.now.items in
    sym (append-nil start) ∙ ap (λ zs. start ++ zs) (sym (none_is c.args.info.now c.in_default.not-Group))
