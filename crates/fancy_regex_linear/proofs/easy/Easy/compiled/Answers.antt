use Rattle.std.proofs.Common.{◌≡◌, ◌∙◌, ◌++◌, ap, [], ◌∷◌, List, Bool, true, ℕ, ◌+◌, ◌==◌, not, if◌then◌else◌, length, subst, sym, arith, rules}
use Rattle.fancy_regex_tree.specs.Tree.{Tree, tree_of}
use Rattle.fancy_regex_info.specs.Analysis.{analysis}
use Rattle.fancy_regex_info.specs.Infos.{info_of}
use Rattle.fancy_regex_info.specs.Views.{pattern_in}
use Rattle.fancy_regex_info.specs.declared.info.Info.{out-Info}
use Rattle.fancy_regex_linear.specs.Re.{shape}
use Rattle.fancy_regex_linear.specs.Program.{emitted}
use Rattle.std.specs.Option.{ForSome}
use Rattle.fancy_regex_linear.specs.Before.{IsBeforeOf}
use Rattle.fancy_regex_linear.proofs.PassingLemmas.{before_is}
use Rattle.fancy_regex_linear.specs.Plain.{IsPlain, classes, re_of}
use Rattle.fancy_regex_meaning.specs.Groups.{group_count}
use Rattle.fancy_regex_linear.specs.Easy.{HaveMatchers}
use Rattle.fancy_regex_linear.specs.Translation.{Extends, IsWritable, called_in}
use Rattle.fancy_regex_info.specs.AnalysisRelations.{AreCallSizes}
use Rattle.fancy_regex_linear.specs.Refusals.{IsClassCause, IsCause}
use Rattle.fancy_regex_states.specs.declared.state.State.{State}
use Rattle.fancy_regex_states.specs.declared.state.State.TheVariants.{Match as End}
use Rattle.fancy_regex_linear.proofs.PlainLemmas.{plain_regular}
use Rattle.fancy_regex_linear.proofs.TranslationLemmas.{is_made, count_is, whole_is, program_is, no_sizes, serves_all, serves}
use Rattle.fancy_regex_linear.proofs.ServedLemmas.{info_is_of, light_by, heavy_by, read_by, cause_of}
use Rattle.fancy_regex_linear.proofs.easy.Easy.compiled.Goals as goal
use Rattle.fancy_regex_linear.proofs.easy.Easy.compiled.Goals.{In_ok-entry}

-- the states of the translated tree
states : (c : In_ok-entry) → emitted (shape c.in_ok-translated.translated.node) (End ∷ []) 0 ≡ (c.emit.new.states.items, c.in_ok-entry.entry)
states c =
    let one : c.add.new.states.items ≡ End ∷ [] = c.in_ok-add.ensures.states ∙ ap (λ (xs : List State). xs ++ End ∷ []) c.new-states.ensures.items in
    rw one at c.in_ok-entry.ensures.made

pub invariant_of-result : goal.invariant_of-result
invariant_of-result c = record {
  made = is_made (shape c.in_ok-translated.translated.node) c.emit.new.states.items c.in_ok-entry.entry c.in_ok-translated.ensures.sound (states (goal.at.invariant_of-result c).In_ok-entry);
  table = ∣ rw (c.deref.ensures.value, c.deref-2.ensures.value) at c.in_ok-first.ensures ∣₁;
  marks = ∣ rw c.passing_of-passing.ensures.first (rw c.deref-3.ensures.value at c.refused_ascii-refused.ensures c.emit.new.states.items c.in_ok-entry.entry ∣ rw (c.deref.ensures.value, c.deref-2.ensures.value) at c.in_ok-first.ensures ∣₁) ∣₁;
  seconds = c.passing_of-passing.ensures.second c.args.options.now.unicode c.translated.new.self.matchers.items c.emit.new.states.items c.in_ok-entry.entry
      ∣ rw (c.deref.ensures.value, c.deref-2.ensures.value) at c.in_ok-first.ensures ∣₁;
  wides = rw c.deref-6.ensures.value at c.passing_of-passing.ensures.wide c.emit.new.states.items c.in_ok-entry.entry ∣ rw (c.deref.ensures.value, c.deref-2.ensures.value) at c.in_ok-first.ensures ∣₁;
  befores = subst (λ (firsts : List Bool). ForSome c.before_for-before.result
      (IsBeforeOf c.args.options.now.unicode c.translated.new.self.matchers.items c.emit.new.states.items c.in_ok-entry.entry firsts))
      (sym c.passing_of-passing.ensures.first)
      (before_is c.args.options.now.unicode c.translated.new.self.matchers.items c.emit.new.states.items c.in_ok-entry.entry c.refused_ascii-refused.result
      c.in_ok-refused_before.refused_before c.before_for-before.result (rw (c.deref-4.ensures.value, c.deref-5.ensures.value) at c.in_ok-refused_before.ensures)
      c.before_for-before.ensures);
  cells = ∣ rw (c.deref-7.ensures.value, c.deref-8.ensures.value) at c.in_ok-rows.ensures ∣₁;
}

pub returns-clause-made : goal.returns-clause-made
returns-clause-made c = λ explicit t is.
    let of = info_is_of c.args.info.now explicit t is in
    let plain : IsPlain t = c.requires.supported explicit t is in
    let unicode = c.args.options.now.unicode in
    let begins : (c.start_group-explicit.result == 0) ≡ explicit = ap (λ (n : ℕ). n == 0) c.start_group-explicit.ensures ∙ of.start in
    let first : c.new-translator.result.next_group ≡ (if explicit then 0 else 1) = c.new-translator.ensures.first ∙ ap (λ b. if b then 0 else 1) begins in
    let regular = plain_regular (λ j. Unit {0}) true t plain in
    let built = subst (λ u. IsWritable u → (groups : List Tree) → AreCallSizes groups c.new-translator.result.sizes.items → shape c.in_ok-translated.translated.node
    ≡ re_of c.new-translator.result.unicode groups (called_in c.new-translator.result.called.items) c.new-translator.result.next_group
    (length c.new-translator.result.matchers.items) u) of.tree c.in_ok-translated.ensures.shape regular [] (rw c.new-translator.ensures.tables.0 no_sizes) in
    let added = subst (λ u. Extends c.new-translator.result.unicode c.new-translator.result.matchers.items c.translated.new.self.matchers.items (classes u)) of.tree c.in_ok-translated.ensures.matchers in
    let count = subst (λ u. IsWritable u → c.translated.new.self.next_group ≡ c.new-translator.result.next_group + group_count u) of.tree c.in_ok-translated.ensures.groups regular in
    let program = program_is unicode explicit t c.new-translator.result c.in_ok-translated.translated.node c.emit.new.states.items c.in_ok-entry.entry
    c.new-translator.ensures.unicode first c.new-translator.ensures.matchers c.new-translator.ensures.tables.1 built (states (goal.at.returns-clause-made c).In_ok-entry) in
    let matchers : HaveMatchers unicode c.translated.new.self.matchers.items (classes t) =
    serves_all _ _ _ _ c.new-translator.ensures.matchers (rw c.new-translator.ensures.unicode at added) in
    record {
      serves = serves unicode explicit t _ _ _ plain program matchers;
      groups = count ∙ count_is explicit t _ first;
      whole = ap not begins ∙ whole_is explicit t;
    }

pub returns-clause-taken : goal.returns-clause-taken
returns-clause-taken c = λ explicit t is.
    let of = info_is_of c.args.info.now explicit t is in
    let added = subst (λ u. Extends c.new-translator.result.unicode c.new-translator.result.matchers.items c.translated.new.self.matchers.items (classes u)) of.tree c.in_ok-translated.ensures.matchers in
    let here : Extends c.args.options.now.unicode c.new-translator.result.matchers.items c.translated.new.self.matchers.items (classes t) = rw c.new-translator.ensures.unicode at added in
    record {
      bytes_mode = search rules;
      light = light_by explicit t _ c.saturating_add.result of.weight c.saturating_add.ensures (omega (arith, c.if-saturating_add-gt-GREATEST_WEIGHT.false));
      read = read_by c.args.options.now explicit t here.read;
    }

pub returns-then-saturating_add-gt-GREATEST_WEIGHT-clause-refused : goal.returns-then-saturating_add-gt-GREATEST_WEIGHT-clause-refused
returns-then-saturating_add-gt-GREATEST_WEIGHT-clause-refused c = λ explicit t is.
    let of = info_is_of c.args.info.now explicit t is in
    heavy_by explicit t _ c.saturating_add.result of.weight c.saturating_add.ensures (omega (arith, c.if-saturating_add-gt-GREATEST_WEIGHT.true))

pub returns-in_err-translated-clause-refused : goal.returns-in_err-translated-clause-refused
returns-in_err-translated-clause-refused c =
    let cause : IsClassCause c.args.options.now.unicode (classes (tree_of (out-Info c.args.info.now).expr.now)) c.in_err-translated.field-0.0 =
    rw c.new-translator.ensures.unicode at c.in_err-translated.ensures.refused in
    let all : (explicit : Bool) (t : Tree) → info_of c.args.info.now ≡ analysis explicit t → IsCause c.args.options.now (pattern_in explicit t) c.in_err-translated.field-0.0 =
    λ explicit t is.
    cause_of c.args.options.now explicit t c.in_err-translated.field-0.0
    (subst (λ u. IsClassCause c.args.options.now.unicode (classes u) c.in_err-translated.field-0.0) (info_is_of c.args.info.now explicit t is).tree cause) in
    search rules
