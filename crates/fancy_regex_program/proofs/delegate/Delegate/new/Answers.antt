use Rattle.std.proofs.Common.{◌++◌, false, refl, sym, ap, ◌∙◌, subst}
use Rattle.std.specs.Prelude.{chars}
use Rattle.std.proofs.lemmas.Str.{chars-nil}
use Rattle.fancy_regex_tree.specs.Printed.{printed}
use Rattle.fancy_regex_tree.specs.Tree.{tree_of, Tree}
use Rattle.fancy_regex_meaning.specs.Groups.{pattern_of}
use Rattle.fancy_regex_desugar.specs.Delegates as delegates
use Rattle.fancy_regex_desugar.proofs.DelegateProofs.{part_of, searched_can_be}
use Rattle.fancy_regex_linear.specs.EasyPatterns.{IsEasyOf}
use Rattle.fancy_regex_program.specs.BodyStarts.{body_starts_in}
use Rattle.fancy_regex_program.specs.Parts.{IsPartCause}
use Rattle.fancy_regex_program.proofs.LazyLemmas.{searched_printable}
use Rattle.fancy_regex_program.proofs.PartCauses.{hands, part_cause}
use Rattle.fancy_regex_program.proofs.delegate.Delegate.new.Goals as goal

pub returns-in_err-easy-clause-refused : goal.returns-in_err-easy-clause-refused
returns-in_err-easy-clause-refused c =
    let t = tree_of c.args.part.now in
    let e = c.in_err-easy.field-0.0 in
    let r = c.from_residual in
    hands r.result e (IsPartCause c.args.unicode c.args.for_any t) r.ensures.1
    (part_cause c.args.unicode c.args.for_any t (record (c.default.result) { unicode = c.args.unicode }) refl (ap (λ o. o.bytes_mode) c.default.ensures) c.requires.delegated e
    (c.in_err-easy.ensures.refused false (delegates.searched c.args.for_any t) c.requires.info))

pub to_str-requires : goal.to_str-requires
to_str-requires c =
    let t = tree_of c.args.part.now in
    sym (searched_printable c.args.for_any t) ∙ (part_of (delegates.searched c.args.for_any t) (searched_can_be c.args.for_any t c.requires.delegated)).printable

pub invariant_of-result-clause-serves : goal.invariant_of-result-clause-serves
invariant_of-result-clause-serves c =
    let t = tree_of c.args.part.now in
    subst (λ (u : Tree). ∥ IsEasyOf c.in_ok-easy.easy (pattern_of (delegates.searched c.args.for_any u)) ∥₁) (sym c.in_ok-part.ensures)
    ∣ c.in_ok-easy.ensures.made false (delegates.searched c.args.for_any t) c.requires.info ∣₁

pub invariant_of-result-clause-first : goal.invariant_of-result-clause-first
invariant_of-result-clause-first c = c.in_ok-easy.ensures.options.1 ∙ ap (λ o. o.leftmost_longest) c.default.ensures

pub invariant_of-result-clause-delegated : goal.invariant_of-result-clause-delegated
invariant_of-result-clause-delegated c = ap (delegates.is_delegated c.args.for_any) c.in_ok-part.ensures ∙ c.requires.delegated

pub invariant_of-result-clause-begins : goal.invariant_of-result-clause-begins
invariant_of-result-clause-begins c set is =
    ap (λ u. body_starts_in u (delegates.searched c.args.for_any (tree_of c.in_ok-part.part))) c.in_ok-easy.ensures.options.0
    ∙ ap (λ t. body_starts_in c.args.unicode (delegates.searched c.args.for_any t)) c.in_ok-part.ensures
    ∙ ap (body_starts_in c.args.unicode) (sym c.requires.searched)
    ∙ c.in_ok-starts.ensures set is

pub invariant_of-result-clause-shown : goal.invariant_of-result-clause-shown
invariant_of-result-clause-shown c =
    c.in_ok-to_str.ensures.printed
    ∙ ap (λ t. t ++ printed 0 (tree_of c.args.part.now)) (ap chars c.new-pattern.ensures.bytes ∙ chars-nil)
    ∙ ap (λ t. printed 0 t) (sym c.in_ok-part.ensures)

pub returns-clause-value : goal.returns-clause-value
returns-clause-value c =
    let t = tree_of c.args.part.now in
    record {
      part = c.in_ok-part.ensures;
      for_any_is = refl;
      unicode_is = c.in_ok-easy.ensures.options.0;
      delegated = c.requires.delegated;
      read = (c.in_ok-easy.ensures.taken false (delegates.searched c.args.for_any t) c.requires.info).read;
    }
