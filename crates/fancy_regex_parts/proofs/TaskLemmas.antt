-- What the tasks of a walk leave.
use Rattle.std.proofs.Common.{◌≡◌, ◌∙◌, ℕ, ◌+◌, ◌*◌, ◌≤◌, List, [], ◌∷◌, ◌++◌, length, sym, ap, subst, inl, inr, arith, max, min}
use Rattle.std.proofs.lemmas.Bool.{cases_eq, cases_lt}
use Rattle.fancy_regex_states.specs.Attempts.{Continuation}
use Rattle.fancy_regex_parts.specs.Recall.{cell, IsStored}
use Rattle.fancy_regex_parts.specs.Writes.{list_of, IsExtended, SameWrites}
use Rattle.fancy_regex_parts.specs.Walk.{trace_writes, IsWalkedIn, IsWalking, Leads, AreWritten}
use Rattle.fancy_regex_parts.specs.declared.recall.Recall.{Recall}
use Rattle.fancy_regex_parts.specs.declared.table.PartTable.{PartTable}
use Rattle.fancy_regex_parts.specs.declared.groups.WalkMemory.{WalkMemory}
use Rattle.fancy_regex_parts.specs.declared.groups.WalkTask.{WalkTask}
use Rattle.fancy_regex_parts.specs.declared.groups.WalkTask.TheVariants.{Follow, Part, Join, Start, End}
use Rattle.fancy_regex_parts.specs.declared.writes.Write.{Write}
use Rattle.fancy_regex_parts.proofs.ListLemmas.{capped_min, same_on}
use Rattle.fancy_regex_parts.proofs.WalkLemmas.{leads_more, leads_same, written_more}

module _ (go : ℕ → Continuation) (heads : List ℕ) (base : ℕ) where
  module _ (writes : List Write) (visited : Recall) (rest : List WalkTask) (n : ℕ) (goal : List (ℕ × ℕ)) where
    -- a part that writes nothing
    pub part_past : (q i : ℕ) → trace_writes (go q i).answer ≡ [] → IsWalking go heads base writes visited (Part q i ∷ rest) n goal
        → IsWalking go heads base writes visited rest n goal
    part_past q i none h = record {
      leads = subst (λ (l : List (ℕ × ℕ)). Leads go heads base writes rest (l ++ list_of writes n) goal) none h.leads.1.1;
      cells = record { opened = h.cells.opened; known = h.cells.known };
    }

    -- another part
    pub part_in : (q i : ℕ) → n ≤ length writes → IsWalking go heads base writes visited (Part q i ∷ rest) n goal
        → IsWalking go heads base writes visited (Follow q i ∷ Join n ∷ rest) 0 goal
    part_in q i low h = record {
      leads = (h.leads.0, (h.leads.1.0, (low, h.leads.1.1)));
      cells = record { opened = h.cells.opened; known = h.cells.known };
    }

  module _ (table : PartTable) (len : ℕ) (walked : WalkMemory) (within : IsWalkedIn table len base walked) (new : List Write)
      (extended : IsExtended walked.lists.writes.items new) (rest : List WalkTask) (n : ℕ) (goal : List (ℕ × ℕ)) where
    -- what follows a part
    pub joined : (r all : ℕ) → SameWrites (list_of new all) (list_of walked.lists.writes.items n ++ list_of walked.lists.writes.items r)
        → IsWalking go heads base walked.lists.writes.items walked.visited (Join r ∷ rest) n goal → IsWalking go heads base new walked.visited rest all goal
    joined r all same h =
        let ws : List (ℕ × ℕ) = list_of walked.lists.writes.items n ++ list_of walked.lists.writes.items r in
        record {
          leads = leads_same go heads base new rest (list_of new all) ws goal same
              (leads_more go heads base walked.lists.writes.items new extended rest ws goal h.leads.1);
          cells = written_more go heads base table len walked new (Join r ∷ rest) rest within extended (λ k is. is) h.cells;
        }

    -- a group begins or ends
    wrote : (real slot i r : ℕ) → slot ≡ min real 18446744073709551615
        → SameWrites (list_of new r) ((slot, i) ∷ list_of walked.lists.writes.items n)
        → Leads go heads base walked.lists.writes.items rest ((real, i) ∷ list_of walked.lists.writes.items n) goal
        → AreWritten go heads base walked.lists.writes.items walked.visited rest → IsWalking go heads base new walked.visited rest r goal
    wrote real slot i r is same leads cells =
        let old : List (ℕ × ℕ) = list_of walked.lists.writes.items n in
        record {
          leads = leads_same go heads base new rest (list_of new r) ((real, i) ∷ old) goal
              (same_on (list_of new r) ((slot, i) ∷ old) ((real, i) ∷ old) same (capped_min real slot i old is))
              (leads_more go heads base walked.lists.writes.items new extended rest ((real, i) ∷ old) goal leads);
          cells = written_more go heads base table len walked new rest rest within extended (λ k is. is) cells;
        }

    pub started : (g slot i r : ℕ) → slot ≡ min (2 * g) 18446744073709551615
        → SameWrites (list_of new r) ((slot, i) ∷ list_of walked.lists.writes.items n)
        → IsWalking go heads base walked.lists.writes.items walked.visited (Start g i ∷ rest) n goal → IsWalking go heads base new walked.visited rest r goal
    started g slot i r is same h = wrote (2 * g) slot i r is same h.leads (record { opened = h.cells.opened; known = h.cells.known })

    pub ended : (g slot i r : ℕ) → slot ≡ min (2 * g + 1) 18446744073709551615
        → SameWrites (list_of new r) ((slot, i) ∷ list_of walked.lists.writes.items n)
        → IsWalking go heads base walked.lists.writes.items walked.visited (End g i ∷ rest) n goal → IsWalking go heads base new walked.visited rest r goal
    ended g slot i r is same h = wrote (2 * g + 1) slot i r is same h.leads (record { opened = h.cells.opened; known = h.cells.known })

module _ (table : PartTable) (len base : ℕ) (walked : WalkMemory) (within : IsWalkedIn table len base walked) where
  -- there are more lists
  pub walked_lists : (new : WalkMemory) → new.visited ≡ walked.visited → IsExtended walked.lists.writes.items new.lists.writes.items → new.lists.held ≡ walked.lists.held
      → IsWalkedIn table len base new
  walked_lists new same extended held = record {
    width = ap (λ (r : Recall). r.width) same ∙ within.width;
    base_is = ap (λ (r : Recall). r.base) same ∙ within.base_is;
    rows = omega (arith, ap (λ (r : Recall). r.rows) same, within.rows);
    lists = λ k n at. let low = within.lists k n (sym (ap (λ (r : Recall). cell r k) same) ∙ at) in omega (arith, held, low);
    held = omega (arith, held, within.held, extended.more);
  }

  -- a list is kept
  pub walked_kept : (k n : ℕ) (new : WalkMemory) → IsStored walked.visited new.visited k n → new.visited.rows ≡ walked.visited.rows
      → new.lists.held ≡ max walked.lists.held n → new.lists.writes ≡ walked.lists.writes → n ≤ length walked.lists.writes.items
      → IsWalkedIn table len base new
  walked_kept k n new stored rows held same low = record {
    width = stored.width ∙ within.width;
    base_is = stored.base ∙ within.base_is;
    rows = omega (arith, rows, within.rows);
    lists = λ j m at. elim (cases_eq j k) [
      | inl is ↦ elim (cases_lt 0 (cell walked.visited k)) [
        | inl some ↦ (let now = ap (λ (c : ℕ). cell new.visited c) is in omega (arith, at, now, held, stored.stored (omega (arith, some))))
        | inr none ↦ absurd (let now = ap (λ (c : ℕ). cell new.visited c) is in omega (arith, at, now, stored.unknown (omega (arith, none))))
      ]
      | inr other ↦ (let was = within.lists j m (sym (stored.others j other) ∙ at) in omega (arith, was, held))
    ];
    held = rw same (omega (arith, held, low, within.held));
  }
