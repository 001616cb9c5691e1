-- From one task of a search to the next.
use Rattle.std.proofs.Common.{◌≡◌, ℕ, ◌+◌, ◌-◌, ◌*◌, ◌≤◌, ◌∙◌, List, ◌∷◌, length, Option, Some, None, sym, ap, subst, arith}
use Rattle.fancy_regex_class.specs.Looks.{looked_text}
use Rattle.fancy_regex_class.specs.declared.counted.Counted.{Counted}
use Rattle.fancy_regex_parts.specs.Recall.{known_weight}
use Rattle.fancy_regex_parts.specs.Tables.{cell_cost, known_cost, table_weight}
use Rattle.fancy_regex_states.specs.Attempts.{View}
use Rattle.fancy_regex_parts.specs.Ways.{Ways}
use Rattle.fancy_regex_parts.specs.Frames.{resume_task, IsTaskWithin, EndsWithin, Tracks, pending, task_due}
use Rattle.fancy_regex_parts.specs.Layers.{HasWays, IsOfText, IsAtTask, IsPaid, IsResumed, IsVisit}
use Rattle.fancy_regex_parts.specs.declared.frame.Frame.{Frame}
use Rattle.fancy_regex_parts.specs.declared.frame.Frame.TheVariants.{Branch, Open, Ask, Atomic}
use Rattle.fancy_regex_parts.specs.declared.frame.Task.{Task}
use Rattle.fancy_regex_parts.specs.declared.frame.Task.TheVariants.{Visit, Answer}
use Rattle.fancy_regex_parts.specs.declared.recall.Recall.{Recall}
use Rattle.fancy_regex_parts.specs.declared.step.PartContext.{PartContext}
use Rattle.fancy_regex_parts.specs.declared.table.PartTable.{PartTable}
use Rattle.fancy_regex_parts.proofs.WeightLemmas.{known_most}
use Rattle.fancy_regex_parts.proofs.StackLemmas.{ends_stored}
use Rattle.fancy_regex_parts.proofs.CostLemmas.{pending_cons, resume_due}
use Rattle.fancy_regex_parts.proofs.VisitLemmas.{looks_on}

-- what stays where an answer comes to a frame
pub record IsKept (old new : Recall) : Type 0 where
  pub rows : new.rows ≡ old.rows
  pub width : new.width ≡ old.width
  pub base : new.base ≡ old.base
  pub weight : (w : ℕ → ℕ) → known_weight w new ≡ known_weight w old

kept_same : {old new : Recall} → new ≡ old → IsKept old new
kept_same e = record {
  rows = ap (λ (r : Recall). r.rows) e;
  width = ap (λ (r : Recall). r.width) e;
  base = ap (λ (r : Recall). r.base) e;
  weight = λ w. ap (known_weight w) e;
}

pub kept : {old new : Recall} (f : Frame) (end : Option ℕ) → IsResumed f end old new → IsKept old new
kept (Branch q i) None is = kept_same is
kept (Branch q i) (Some e) is = kept_same is
kept (Open k) None is = kept_same is
kept (Open k) (Some e) is = record { rows = is.1; width = is.0.width; base = is.0.base; weight = is.0.weight }
kept (Ask negated next i) None is = kept_same is
kept (Ask negated next i) (Some e) is = kept_same is
kept (Atomic i same moved) None is = kept_same is
kept (Atomic i same moved) (Some e) is = kept_same is

module _ (table : PartTable) (text : List ℕ) (base : ℕ) (old new : Recall) where
  ends_on : new ≡ old → EndsWithin text base old → EndsWithin text base new
  ends_on e ends = subst (EndsWithin text base) (sym e) ends

  ends_kept : (f : Frame) (end : Option ℕ) → IsResumed f end old new → IsTaskWithin table text base (Answer end) → EndsWithin text base old
      → EndsWithin text base new
  ends_kept (Branch q i) None is place ends = ends_on is ends
  ends_kept (Branch q i) (Some e) is place ends = ends_on is ends
  ends_kept (Open k) None is place ends = ends_on is ends
  ends_kept (Open k) (Some e) is place ends = ends_stored text base k e is.0 place ends
  ends_kept (Ask negated next i) None is place ends = ends_on is ends
  ends_kept (Ask negated next i) (Some e) is place ends = ends_on is ends
  ends_kept (Atomic i same moved) None is place ends = ends_on is ends
  ends_kept (Atomic i same moved) (Some e) is place ends = ends_on is ends

module _ (context : PartContext) (text new_text : Counted) (first old new : Recall) (left : ℕ) where
  -- the looks that are paid for stay so where an answer comes to a frame
  pub paid_resumed : (f : Frame) (rest : List Frame) (end : Option ℕ) → IsResumed f end old new
      → IsTaskWithin context.table.now (looked_text text) first.base (Answer end)
      → IsPaid context text new_text first old left (task_due context.table.now (Answer end) + pending context.table.now (f ∷ rest))
      → IsPaid context text new_text first new left (task_due context.table.now (resume_task f end) + pending context.table.now rest)
  paid_resumed f rest end is place paid =
      let keeps = kept f end is in
      let base_is : new.base ≡ first.base = keeps.base ∙ paid.base in
      let n = keeps.weight (cell_cost context.table.now) in
      record {
        base = base_is;
        memory = record {
          width = keeps.width ∙ paid.memory.width;
          rows = let r = keeps.rows in let b = keeps.base in omega (arith, r, b, paid.memory.rows);
          ends = subst (λ (b : ℕ). EndsWithin (looked_text text) b new) (sym base_is)
              (ends_kept context.table.now (looked_text text) first.base old new f end is place (subst (λ (b : ℕ). EndsWithin (looked_text text) b old) paid.base paid.memory.ends));
        };
        counted = rw n (omega (arith, paid.counted, resume_due context.table.now f end, pending_cons context.table.now f rest));
        looks = paid.looks;
      }

module _ (context : PartContext) {one two three : Counted} {first second third : Recall} where
  -- and over two parts of a search
  pub paid_on : (left middle last : ℕ) → IsPaid context one two first second left middle → IsPaid context two three second third middle last
      → IsPaid context one three first third left last
  paid_on left middle last a b = record {
    base = b.base ∙ a.base;
    memory = subst (λ (t : List ℕ). IsOfText context t third) a.looks.text b.memory;
    counted = omega (arith, a.counted, b.counted);
    looks = looks_on a.looks b.looks;
  }

-- no more is paid for than the parts weigh at each place
pub known_cap : (context : PartContext) (text : List ℕ) (base : ℕ) (recall : Recall) → IsOfText context text recall → recall.base ≡ base
    → known_cost context.table.now recall ≤ (length text - base + 1) * table_weight context.table.now
known_cap context text base recall memory base_is =
    known_most context.table.now recall (length text - base + 1) (let r = memory.rows in omega (arith, r, base_is)) memory.width

module _ (context : PartContext) {one two : Counted} {first second : Recall} where
  -- fewer looks are left
  pub paid_down : (left more less : ℕ) → less ≤ more → IsPaid context one two first second left more → IsPaid context one two first second left less
  paid_down left more less le paid = record {
    base = paid.base;
    memory = paid.memory;
    counted = omega (arith, paid.counted, le);
    looks = paid.looks;
  }

module _ (context : PartContext) (text new_text : List ℕ) (base : ℕ) {recall new_recall : Recall} {frames new_frames : List Frame} (q i : ℕ) (task : Task)
    (text_is : new_text ≡ text) (base_is : recall.base ≡ base) (visit : IsVisit context new_text recall new_recall frames new_frames q i task) where
  -- a visit in terms of the search's own text and first row
  pub tracked_on : (view : View) (ways : Ways) → HasWays context text view ways → (goal : Option ℕ)
      → Tracks ways context.table.now.heads.items base recall (Visit q i) frames goal
      → Tracks ways context.table.now.heads.items base new_recall task new_frames goal
  tracked_on view ways has goal t =
      subst (λ (b : ℕ). Tracks ways context.table.now.heads.items b new_recall task new_frames goal) base_is
      (visit.tracking view ways (subst (λ (x : List ℕ). HasWays context x view ways) (sym text_is) has) goal
      (subst (λ (b : ℕ). Tracks ways context.table.now.heads.items b recall (Visit q i) frames goal) (sym base_is) t))

  pub within_on : IsAtTask context text base task new_frames
  within_on = subst (λ (x : List ℕ). IsAtTask context x base task new_frames) text_is
      (subst (λ (b : ℕ). IsAtTask context new_text b task new_frames) base_is visit.within)
