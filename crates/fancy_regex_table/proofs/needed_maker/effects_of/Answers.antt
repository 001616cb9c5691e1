use Rattle.std.proofs.Common.{◌∙◌, ◌<◌, ℕ, false, arith, length-set}
use Rattle.std.proofs.lemmas.List.{length-replicate}
use Rattle.fancy_regex_table.specs.Needed.{IsKept, IsKeptWide, IsReset, IsResetWide}
use Rattle.fancy_regex_table.proofs.MarkLemmas.{marked_more, none_marked}
use Rattle.fancy_regex_table.proofs.needed_maker.effects_of.Goals as goal

pub loop-class-init : goal.loop-class-init
loop-class-init c = record {
  low = omega arith;
  long = (length-replicate 256 false, length-replicate 256 false, length-replicate 256 false, length-replicate 256 false);
  effects = record {
    kept = λ k e. absurd (none_marked 256 k e);
    kept_wide = λ k e. absurd (none_marked 256 k e);
    reset = λ k e. absurd (none_marked 256 k e);
    reset_wide = λ k e. absurd (none_marked 256 k e);
  };
}

pub loop-class-preserved : goal.loop-class-preserved
loop-class-preserved c =
    let inv = c.loop-class.invariant in
    let class = c.loop-class.class in
    let cells = c.args.cells.now in
    let reached = c.args.reached.now in
    let string = c.args.string.now in
    let begins = c.args.places.now.begins.now in
    let fresh = c.args.places.now.fresh.now in
    let within : class < 256 = omega (arith, c.loop-class-test.true) in
    record {
      low = omega (arith, inv.low);
      long = (
        length-set c.loop-class.kept class c.keeps-is_kept.result ∙ inv.long.0,
        length-set c.loop-class.kept_wide class c.keeps_wide.result ∙ inv.long.1,
        length-set c.loop-class.reset class c.resets_all-is_reset.result ∙ inv.long.2,
        length-set c.loop-class.reset_wide class c.resets_wide.result ∙ inv.long.3,
      );
      effects = record {
        kept = marked_more (λ (k : ℕ). IsKept cells begins reached string k) c.loop-class.kept class c.keeps-is_kept.result (omega (arith, inv.long, within)) inv.effects.kept
            c.keeps-is_kept.ensures;
        kept_wide = marked_more (λ (k : ℕ). (0 < k) × IsKeptWide cells begins reached k) c.loop-class.kept_wide class c.keeps_wide.result
            (omega (arith, inv.long, within)) inv.effects.kept_wide (λ e. (omega (arith, inv.low), c.keeps_wide.ensures c.keeps-is_kept.ensures e));
        reset = marked_more (λ (k : ℕ). IsReset cells fresh reached string k) c.loop-class.reset class c.resets_all-is_reset.result (omega (arith, inv.long, within))
            inv.effects.reset c.resets_all-is_reset.ensures;
        reset_wide = marked_more (λ (k : ℕ). IsResetWide cells fresh reached k) c.loop-class.reset_wide class c.resets_wide.result (omega (arith, inv.long, within))
            inv.effects.reset_wide (c.resets_wide.ensures c.resets_all-is_reset.ensures);
      };
    }
