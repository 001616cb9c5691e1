use Rattle.std.proofs.Common.{◌∙◌, None, Some, arith, get_or, length-set}
use Rattle.std.proofs.lemmas.Option.{slice_get_within}
use Rattle.fancy_regex_table.specs.Wides.{class_of}
use Rattle.fancy_regex_table.proofs.AlphabetLemmas.{class_kept, classes_more, sampled}
use Rattle.fancy_regex_table.proofs.alphabet.Alphabet.new.Goals as goal

pub loop-code-preserved : goal.loop-code-preserved
loop-code-preserved c =
    let inv = c.loop-code.invariant in
    record {
      wide = length-set c.loop-code.ascii c.loop-code.code c.in_ok-class.class ∙ inv.wide;
      long = omega (arith, c.class_for.ensures.long, inv.long);
      end = c.class_for.ensures.kept 0 None inv.end;
      classes = classes_more c.args.reader.now.unicode c.args.reader.now.matchers.now c.deref.result.now c.args.asked
          c.loop-code.samples.items c.class_for.new.samples.items c.loop-code.ascii c.loop-code.code c.in_ok-class.class
          (omega (arith, inv.wide, c.loop-code-test.true)) c.class_for.ensures.kept inv.classes
          c.in_ok-class.ensures.class;
    }

pub returns : goal.returns
returns c =
    let reader = c.args.reader.now in
    let leaves = c.in_ok-leaves.leaves.items in
    let samples = c.wide_of.new.samples.items in
    record {
      asks = c.requires;
      end = c.wide_of.ensures.kept 0 None c.loop-code.invariant.end;
      classes = λ code lt.
          sampled reader.unicode reader.matchers.now reader.states.now leaves c.args.asked samples code (get_or c.loop-code.ascii code 0) c.in_ok-leaves.ensures
          (class_kept reader.unicode reader.matchers.now leaves c.args.asked c.loop-code.samples.items samples (Some code) (get_or c.loop-code.ascii code 0)
          c.wide_of.ensures.kept (rw c.deref.ensures.value at (c.loop-code.invariant.classes code (omega (arith, lt, c.loop-code-test.false)))));
      wide = λ d scalar low known.
          sampled reader.unicode reader.matchers.now reader.states.now leaves c.args.asked samples d (class_of reader.unicode reader.matchers.now c.in_ok-wide.wide d)
          c.in_ok-leaves.ensures (rw c.deref.ensures.value at (c.in_ok-wide.ensures.classes d scalar low known));
    }

pub overflow_cast-ascii : goal.overflow_cast-ascii
overflow_cast-ascii c =
    let here = c.in_ok-class.ensures.class in
    let within = slice_get_within c.class_for.new.samples.items c.in_ok-class.class here.sample here.is_there in
    omega (arith, within, c.class_for.ensures.long, c.loop-code.invariant.long, c.loop-code-test.true)
