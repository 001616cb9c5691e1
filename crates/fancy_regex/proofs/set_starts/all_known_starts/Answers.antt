use Rattle.std.proofs.Common.{ℕ, List, refl, Bor}
use Rattle.fancy_regex.proofs.SetStartLemmas.{have_next}
use Rattle.fancy_regex.proofs.set_starts.all_known_starts.Goals as goal

pub loop-pattern-preserved : goal.loop-pattern-preserved
loop-pattern-preserved c =
    have_next c.args.options.now.options (λ (p : Bor (List ℕ)). p.now) c.args.patterns.now c.loop-pattern.pattern-index _ c.loop-pattern.members.items
    _ c.loop-pattern-test.true refl c.loop-pattern.invariant c.in_ok-known_starts.field-0 c.push.new.self.items c.in_ok-push.ensures.items
    c.in_ok-known_starts.ensures.starts
