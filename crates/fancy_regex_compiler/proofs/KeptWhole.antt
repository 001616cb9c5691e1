-- The program of a whole pattern, whose calls are written out or stay calls, and that of a tree.
use Rattle.std.proofs.Common.{◌≡◌, ℕ, ◌+◌, ◌*◌, ◌<◌, ◌≤◌, Bool, true, not, List, [], length, get_or, Option, Some, None, refl, sym, ap, ap₂, subst, ◌∙◌, arith, inl, inr}
use Rattle.std.specs.Prelude.{All, slice_get}
use Rattle.std.proofs.lemmas.List.{length-map}
use Rattle.std.proofs.lemmas.List.Elements.{All-weaker}
use Rattle.std.proofs.lemmas.Option.{slice_get-get_or, slice_get_within, same_Some}
use Rattle.fancy_regex_tree.specs.Tree.{Tree}
use Rattle.fancy_regex_meaning.specs.Groups.{Pattern}
use Rattle.fancy_regex_meaning.specs.Sizes.{target}
use Rattle.fancy_regex_meaning.specs.Ways.{max_open_calls}
use Rattle.fancy_regex_class.specs.Classes.{in_class, folded}
use Rattle.fancy_regex_desugar.specs.CorePatterns.{CorePattern}
use Rattle.fancy_regex_desugar.specs.ProgramSizes.{room}
use Rattle.fancy_regex_desugar.specs.Unfolded.{pat_for, written, written_call, core_pattern_of}
use Rattle.fancy_regex_desugar.proofs.ProgramSizeProofs.{pattern_size_is_bounded}
use Rattle.fancy_regex_analysis.proofs.AnalysisErrorLemmas.{no_node_shows}
use Rattle.fancy_regex_info.specs.Analysis.{analysis}
use Rattle.fancy_regex_info.specs.Infos.{InfoTree}
use Rattle.fancy_regex_info.specs.Views.{pattern_in}
use Rattle.fancy_regex_info.specs.declared.error.CompileError.TheVariants.{InvalidBackref}
use Rattle.fancy_regex_program.specs.Assembled.{Body, IsMadeOf, IsAssembled, IsBodyOf}
use Rattle.fancy_regex_program.specs.Code.{Layout}
use Rattle.fancy_regex_program.specs.Layouts.{CallsAreLaidOut, AreWrittenOut, body_pattern}
use Rattle.fancy_regex_program.specs.Ops.{op_of, ops_of}
use Rattle.fancy_regex_program.specs.Shapes.{IsAllowed, IsWritable}
use Rattle.fancy_regex_program.specs.ValidPrograms.{IsValidProgram}
use Rattle.fancy_regex_program.specs.declared.insn.Insn.{Insn}
use Rattle.fancy_regex_program.proofs.KeptValid.{assembled_is_valid}
use Rattle.fancy_regex_compiled.specs.Programs.{IsWhole, KeepsCalls, IsCodeOf, IsMadeFrom, RefersToGroups, nodes_with_calls, AreFew}
use Rattle.fancy_regex_compiled.specs.declared.prog.Prog.{Prog}
use Rattle.fancy_regex_compiler.specs.Rooms.{room_with}
use Rattle.fancy_regex_compiler.specs.Inlined.{most_room}
use Rattle.fancy_regex_compiler.specs.Kept.{first_call, called_pattern, pattern_at, AreWrittenOutIn, IsBodyIn, KeepsCallsOf}
use Rattle.fancy_regex_compiler.specs.Known.{info_written, groups_in, pat_with}
use Rattle.fancy_regex_compiler.specs.Refusals.{IsClear}
use Rattle.fancy_regex_compiler.specs.Written.{IsWritten, AreWritableIfAllowed}
use Rattle.fancy_regex_compiler.proofs.BodyLemmas.{IsGroupBody, body_is}
use Rattle.fancy_regex_compiler.proofs.KeptLength.{assembled_is_few}
use Rattle.fancy_regex_compiler.proofs.KnownLemmas.{count_is, calls_are}
use Rattle.fancy_regex_compiler.proofs.LengthLemmas.{whole_short}
use Rattle.fancy_regex_compiler.proofs.WholeLemmas.{pat_gathered, whole_is_valid, clear_is_writable}
use Rattle.fancy_regex_compiler.proofs.WritableLemmas.{can_be_written, body_can_be_written}

-- A program whose calls stay is valid, where the pattern and the bodies can be written.
kept_is_valid : (u w anchored : Bool) (infos : List InfoTree) (x : InfoTree) (insns : List Insn) (slots : ℕ) → KeepsCallsOf u w anchored infos x insns slots →
    IsAllowed u true (pat_with infos x) → AreWritableIfAllowed u w infos x → IsValidProgram (ops_of insns) slots
kept_is_valid u w anchored infos x insns slots kept allowed writable =
    let first = writable.main.first in
    let P : Body → Type 0 = λ b. IsWritable first (length infos) b.pattern in
    let can : (b : Body) → IsBodyIn u kept.layout kept.is_written_out infos b → P b =
    λ b is.
    let inside = subst (IsAllowed u is.keeps) is.pattern is.allowed in
    subst (IsWritable first (length infos)) (sym is.pattern) (writable.bodies b.group is.keeps is.group inside) in
    assembled_is_valid (in_class u) (folded u) w kept.layout anchored (length infos) (pat_with infos x) kept.bodies (ops_of insns) slots kept.code first
    writable.main.whole_group (writable.main.writable allowed) (All-weaker (IsBodyIn u kept.layout kept.is_written_out infos) P can kept.bodies kept.each)

pub written_is_valid : (cap : Option ℕ) (most : ℕ) (u w anchored : Bool) (infos : List InfoTree) (x : InfoTree) (insns : List Insn) (slots : ℕ) → IsWritten cap most u w anchored infos x insns slots →
    IsAllowed u true (pat_with infos x) → AreWritableIfAllowed u w infos x → IsValidProgram (ops_of insns) slots
written_is_valid cap most u w anchored infos x insns slots (inl whole) allowed writable =
    whole_is_valid u w anchored (length infos) (pat_with infos x) insns slots whole allowed writable.main
written_is_valid cap most u w anchored infos x insns slots (inr long) allowed writable = kept_is_valid u w anchored infos x insns slots long.kept allowed writable

-- where this is what the analysis says of a tree
module _ (u w anchored explicit : Bool) (t : Tree) (infos : List InfoTree) (x : InfoTree) (eg : infos ≡ groups_in w x) (ew : w ≡ not explicit) (ex : x ≡ analysis explicit t) where
  abbrev pattern : Pattern
  pattern = pattern_in explicit t

  infos_are : infos ≡ groups_in (not explicit) (analysis explicit t)
  infos_are = eg ∙ ap₂ groups_in ew ex

  pat : pat_with infos x ≡ core_pattern_of pattern
  pat = pat_gathered infos x w explicit t eg ew ex

  pub as_many : length infos ≡ length pattern.groups
  as_many = ap length infos_are ∙ count_is explicit t

  -- the tree of a group's body, whose pattern is what the analysis tells
  record HasTree (k : ℕ) : Type 0 where
    tree : Tree
    is_target : target pattern.groups k ≡ Some tree
    body : InfoTree
    at : slice_get infos k ≡ Some body
    same : pattern_at infos k ≡ body_pattern pattern.groups k tree
    written_is : (call : ℕ → CorePattern) → (info_written call body).front ≡ (written pattern.groups call (k + 1) tree).front

  has_tree : (k : ℕ) → k < length infos → HasTree k
  has_tree k low =
      let y = get_or infos k x in
      let at : slice_get infos k ≡ Some y = slice_get-get_or infos k x low in
      let is : IsGroupBody explicit t k y = body_is explicit t k y (sym (ap (λ gs. slice_get gs k) infos_are) ∙ at) in
      record {
        tree = is.tree;
        is_target = is.is_target;
        body = y;
        at = at;
        same = ap (pat_for (called_pattern infos)) at ∙ ap (λ gs. called_pattern gs y) infos_are ∙ is.pattern;
        written_is = is.written_is;
      }

  -- what stands for calls around which none is open
  first_calls : first_call infos ≡ written_call pattern.groups (max_open_calls pattern.groups) []
  first_calls = ap first_call infos_are ∙ calls_are explicit t

  ranks_of_tree : (layout : Layout) (is_written_out : ℕ → Bool) → AreWrittenOutIn layout infos is_written_out → AreWrittenOut layout pattern.groups is_written_out
  ranks_of_tree layout is_written_out are = record {
    rank = are.rank;
    none = are.none;
    leads = λ k v out is call other lower.
        let has = has_tree k (omega (arith, as_many, slice_get_within pattern.groups k v is)) in
        let tree_is : has.tree ≡ v = same_Some has.tree v (sym has.is_target ∙ is) in
        subst (λ w. (written pattern.groups call (k + 1) w).front ≡ (written pattern.groups other (k + 1) w).front) tree_is
        (sym (has.written_is call) ∙ are.leads k has.body out has.at call other lower ∙ has.written_is other);
  }

  body_of_tree : (layout : Layout) (is_written_out : ℕ → Bool) (b : Body) → IsBodyIn u layout is_written_out infos b → IsBodyOf layout is_written_out pattern.groups b
  body_of_tree layout is_written_out b is =
      let has = has_tree b.group is.group in
      record { tree = has.tree; is_target = has.is_target; pattern = is.pattern ∙ has.same; calls = is.calls }

  module _ (insns : List Insn) (slots : ℕ) where
    bodies_are : (kept : KeepsCallsOf u w anchored infos x insns slots) → All (IsBodyOf kept.layout kept.is_written_out pattern.groups) kept.bodies
    bodies_are kept =
        All-weaker (IsBodyIn u kept.layout kept.is_written_out infos) (IsBodyOf kept.layout kept.is_written_out pattern.groups) (body_of_tree kept.layout kept.is_written_out) kept.bodies kept.each

    kept_is_few : (kept : KeepsCallsOf u w anchored infos x insns slots) (counted : ℕ → Bool) → ((k : ℕ) → kept.is_written_out k ≡ true → counted k ≡ true) →
        length insns ≤ 16 * (nodes_with_calls counted pattern + 1)
    kept_is_few kept counted all_counted =
        let P = λ (p : CorePattern). IsMadeOf (in_class u) (folded u) w kept.layout anchored (length infos) p kept.bodies (ops_of insns) in
        let small : (k : ℕ) → kept.is_written_out k ≡ true → room_with kept.layout (written_call pattern.groups (max_open_calls pattern.groups) [] k) ≤ most_room =
        λ k out. subst (λ (c : ℕ → CorePattern). room_with kept.layout (c k) ≤ most_room) first_calls (kept.written_out.small k out) in
        let few = assembled_is_few u w kept.layout kept.is_written_out anchored (length infos) pattern kept.bodies (ops_of insns) (subst P pat kept.code.made) small counted all_counted
        (subst (CallsAreLaidOut kept.layout kept.is_written_out) pat kept.calls) (bodies_are kept) kept.distinct in
        omega (arith, few, length-map insns op_of)

    keeps_calls : KeepsCallsOf u w anchored infos x insns slots → KeepsCalls u w anchored (length infos) pattern insns slots
    keeps_calls kept =
        let P = λ (p : CorePattern). IsAssembled (in_class u) (folded u) w kept.layout anchored (length infos) p kept.bodies (ops_of insns) slots in
        record {
          layout = kept.layout;
          bodies = kept.bodies;
          code = subst P pat kept.code;
          is_written_out = kept.is_written_out;
          written_out = ranks_of_tree kept.layout kept.is_written_out kept.written_out;
          calls = subst (CallsAreLaidOut kept.layout kept.is_written_out) pat kept.calls;
          each = bodies_are kept;
          distinct = kept.distinct;
          short = kept_is_few kept kept.is_written_out (λ k out. out);
        }

    whole_of_tree : IsWhole u w anchored (length infos) (pat_with infos x) insns slots → IsWhole u w anchored (length infos) (core_pattern_of pattern) insns slots
    whole_of_tree whole = let P = λ (p : CorePattern). IsWhole u w anchored (length infos) p insns slots in subst P pat whole

    module _ (cap : Option ℕ) (most : ℕ) where
      pub code_of_tree : IsWritten cap most u w anchored infos x insns slots → IsCodeOf u w anchored (length infos) pattern insns slots
      code_of_tree (inl whole) = inl (whole_of_tree whole)
      code_of_tree (inr long) = inr (keeps_calls long.kept)

      pub few_of_tree : IsWritten cap most u w anchored infos x insns slots → AreFew most (length insns) pattern
      few_of_tree (inl whole) = whole_short most u w anchored (length infos) pattern (pat_with infos x) insns slots whole pat
      few_of_tree (inr long) = inr (omega (arith, long.long, ap room pat, pattern_size_is_bounded pattern), kept_is_few long.kept (λ k. true) (λ k out. refl))

      -- with a cap the calls are written out
      pub written_out_of_tree : (cap ≡ None → ⊥) → IsWritten cap most u w anchored infos x insns slots →
          IsWhole u w anchored (length infos) (core_pattern_of pattern) insns slots
      written_out_of_tree capped (inl whole) = whole_of_tree whole
      written_out_of_tree capped (inr long) = absurd (capped long.uncapped)

  -- a clear tree's pattern and the bodies of its groups can be written, where the compiler lets them through
  pub clear_are_writable : IsClear pattern.groups t → AreWritableIfAllowed u w infos x
  clear_are_writable clear =
      let refers : RefersToGroups explicit t = λ k shown. no_node_shows (length pattern.groups) (InvalidBackref k) t clear.nodes shown in
      let first = pattern.first_group in
      let P = λ (p : CorePattern). IsWritable first (length infos) p in
      record {
        main = record {
          whole_group = (clear_is_writable u w explicit t infos x (length infos) eg ew ex clear refl).whole_group;
          first = first;
          writable = λ allowed.
              let Q = λ (n : ℕ). IsWritable first n (core_pattern_of pattern) in
              subst P (sym pat) (subst Q (sym as_many) ((can_be_written u explicit t (subst (IsAllowed u true) pat allowed)).writable refers));
        };
        bodies = λ k keeps low allowed.
            let has = has_tree k low in
            let Q = λ (n : ℕ). IsWritable first n (body_pattern pattern.groups k has.tree) in
            subst P (sym has.same)
            (subst Q (sym as_many) (body_can_be_written u keeps explicit t k has.tree has.is_target refers (subst (IsAllowed u keeps) has.same allowed)));
      }

-- what is written of the tree's pattern is the tree's program
pub made_of_tree : (cap : Option ℕ) (most : ℕ) (prog : Prog) (anchored explicit : Bool) (t : Tree) (infos : List InfoTree) (x : InfoTree) → infos ≡ groups_in prog.whole x → prog.whole ≡ not explicit →
    x ≡ analysis explicit t → prog.anchored ≡ anchored → IsWritten cap most prog.unicode prog.whole anchored infos x prog.body.items prog.slots → prog.groups ≡ length infos →
    IsAllowed prog.unicode true (pat_with infos x) → IsMadeFrom prog anchored explicit t
made_of_tree cap most prog anchored explicit t infos x eg ew ex anchored_is wrote groups allowed =
    let pattern = pattern_in explicit t in
    let P = λ (n : ℕ). IsCodeOf prog.unicode prog.whole anchored n pattern prog.body.items prog.slots in
    let many = as_many prog.unicode prog.whole anchored explicit t infos x eg ew ex in
    record {
      program = record {
        anchored_is = anchored_is;
        code = subst P (sym groups) (code_of_tree prog.unicode prog.whole anchored explicit t infos x eg ew ex prog.body.items prog.slots cap most wrote);
        groups = groups ∙ many;
      };
      whole = ew;
      written = can_be_written prog.unicode explicit t (subst (IsAllowed prog.unicode true) (pat_gathered infos x prog.whole explicit t eg ew ex) allowed);
    }

-- where a cap is set, its calls are written out
pub written_out_of : (cap : Option ℕ) (most : ℕ) (prog : Prog) (anchored explicit : Bool) (t : Tree) (infos : List InfoTree) (x : InfoTree) → infos ≡ groups_in prog.whole x →
    prog.whole ≡ not explicit → x ≡ analysis explicit t → prog.anchored ≡ anchored →
    IsWritten cap most prog.unicode prog.whole anchored infos x prog.body.items prog.slots → prog.groups ≡ length infos → (cap ≡ None → ⊥) →
    IsWhole prog.unicode prog.whole prog.anchored prog.groups (core_pattern_of (pattern_in explicit t)) prog.body.items prog.slots
written_out_of cap most prog anchored explicit t infos x eg ew ex anchored_is wrote groups capped =
    let P = λ (a : Bool) (n : ℕ). IsWhole prog.unicode prog.whole a n (core_pattern_of (pattern_in explicit t)) prog.body.items prog.slots in
    let whole = written_out_of_tree prog.unicode prog.whole anchored explicit t infos x eg ew ex prog.body.items prog.slots cap most capped wrote in
    subst (λ a. P a prog.groups) (sym anchored_is) (subst (P anchored) (sym groups) whole)
