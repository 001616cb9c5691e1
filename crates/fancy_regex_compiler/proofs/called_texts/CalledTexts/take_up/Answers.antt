use Rattle.std.proofs.Common.{◌≡◌, ◌+◌, Some, None, set, option_map, sym, ap, ◌∙◌, subst, arith}
use Rattle.std.specs.Prelude.{slice_get}
use Rattle.std.proofs.lemmas.Option.{slice_get-map, slice_get_read}
use Rattle.fancy_regex_info.specs.Infos.{info_of}
use Rattle.fancy_regex_compiler.specs.CalledTexts.{AreTexts, WritesText, infos_at}
use Rattle.fancy_regex_compiler.specs.Known.{info_written}
use Rattle.fancy_regex_compiler.specs.Writing.{info_at}
use Rattle.fancy_regex_compiler.proofs.CalledTextLemmas.{texts_more}
use Rattle.fancy_regex_compiler.proofs.called_texts.CalledTexts.take_up.Goals as goal

pub returns : goal.returns
returns c = λ texts.
    let groups = c.args.groups.now.items in
    let lengths = c.args.self.now.lengths.items in
    let k = c.args.group in
    let n = c.in-Some.characters in
    let x = c.index.result.now in
    let body = slice_get-map info_at groups k ∙ ap (option_map info_at) (slice_get_read groups c.len.result k x (omega (arith, c.len.ensures, c.args.groups.now.ok.0)) c.if-group-len.false c.index.ensures) in
    let unknown : slice_get lengths k ≡ Some None =
    ap (λ xs. slice_get xs k) (sym c.deref.ensures.value) ∙ c.is_unknown.ensures c.if-not-is_unknown.false in
    let writes = subst (λ xs. WritesText xs n (λ call. (info_written call (info_of x.now)).front)) c.deref-2.ensures.value c.in-Some.ensures in
    let more : c.args.self.now.known + 1 ≡ c.in-Some-checked_add.known = omega (arith, c.in-Some-checked_add.ensures) in
    subst (AreTexts (infos_at groups) (set lengths k (Some n))) more (texts_more (infos_at groups) lengths c.args.self.now.known k n (info_of x.now) body unknown writes texts)
