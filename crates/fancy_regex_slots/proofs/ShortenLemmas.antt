-- A log whose topmost entries are replaced by one for each slot that they change.
use Rattle.std.proofs.Common.{◌≡◌, ◌≢◌, ℕ, suc, ◌+◌, ◌-◌, ◌<◌, ◌≤◌, List, [], ◌∷◌, ◌++◌, length, map, take, drop, get_or, set, refl, sym, ap, subst, ◌∙◌, arith, append_assoc, add-one, drop-cons}
use Rattle.std.specs.Prelude.{reverse}
use Rattle.std.specs.List.{All}
use Rattle.std.proofs.Math.Seq.{take-suc, take-append-add, drop-append_seam}
use Rattle.std.proofs.lemmas.List.{set_comm, set-append_right, length-append, length-drop, length-take-le, take_all, drop_all, take_at, take_rest, take-append-le, append-nil}
use Rattle.std.proofs.lemmas.List.Elements.{All-head, All-tail, All-push, All-weaker, All-append, All-take}
use Rattle.fancy_regex_slots.specs.UndoLog.{undone, saved_row, spread, memory_of, AreLogged, AreMarks, AreMarksBelow, IsLogBelow, IsShortened, IsSound, segment_limit, top_mark}
use Rattle.fancy_regex_slots.specs.declared.branch.Branch.{Branch}
use Rattle.fancy_regex_slots.specs.declared.branch.OldValue.{OldValue}
use Rattle.fancy_regex_slots.proofs.LogLemmas.{marks-closed, take-within, undone-popped, undone-last, threads_same, reverse-snoc}

-- a slot that no entry writes to
undone-set : (values : List ℕ) (log : List OldValue) (slot value : ℕ) → All (λ old. old.slot < slot) log → undone (set values slot value) log ≡ set (undone values log) slot value
unfolding undone
undone-set values [] slot value below = refl
undone-set values (old ∷ log) slot value below =
    let first : old.slot < slot = All-head (λ (o : OldValue). o.slot < slot) old log below in
    let apart : slot ≢ old.slot = omega (arith, first) in
    ap (λ v. set v old.slot old.value) (undone-set values log slot value (All-tail (λ (o : OldValue). o.slot < slot) old log below))
    ∙ set_comm (undone values log) slot old.slot value old.value apart

-- the first saved values, and then the current ones
abbrev pub merged : ℕ → List ℕ → List ℕ → List ℕ
merged slot saved values = take slot saved ++ drop slot values

pub merged-none : (saved values : List ℕ) → values ≡ merged 0 saved values
merged-none saved values = refl

merged_more : (slot : ℕ) (saved values : List ℕ) → slot < length saved → merged (slot + 1) saved values ≡ take slot saved ++ (get_or saved slot 0 ∷ drop (suc slot) values)
merged_more slot saved values inside =
    rw add-one (ap (λ l. l ++ drop (suc slot) values) (take-suc saved slot 0 inside) ∙ append_assoc (take slot saved) (get_or saved slot 0 ∷ []) (drop (suc slot) values))

-- the next slot has the same value in both
pub merged-same : (slot : ℕ) (saved values : List ℕ) → slot < length saved → slot < length values → get_or values slot 0 ≡ get_or saved slot 0 → merged slot saved values ≡ merged (slot + 1) saved values
merged-same slot saved values inside there same =
    ap (λ l. take slot saved ++ l) (drop-cons values slot 0 there ∙ ap (λ v. v ∷ drop (suc slot) values) same)
    ∙ sym (merged_more slot saved values inside)

-- the next slot is set to its saved value
pub merged-set : (slot : ℕ) (saved values : List ℕ) → slot < length saved → slot < length values → set (merged slot saved values) slot (get_or saved slot 0) ≡ merged (slot + 1) saved values
merged-set slot saved values inside there =
    let long = length-take-le slot saved (omega (arith, inside)) in
    let none : slot - slot ≡ 0 = omega arith in
    set-append_right (take slot saved) (drop slot values) slot slot (get_or saved slot 0) long (omega arith)
    ∙ ap (λ n. take slot saved ++ set (drop slot values) n (get_or saved slot 0)) none
    ∙ ap (λ l. take slot saved ++ set l 0 (get_or saved slot 0)) (drop-cons values slot 0 there)
    ∙ sym (merged_more slot saved values inside)

-- one more entry, for a slot after those of the others
pub changes-more : (slot : ℕ) (saved values : List ℕ) (log : List OldValue) → slot < length saved → slot < length values → All (λ old. old.slot < slot) log → undone values log ≡ merged slot saved values → undone values (log ++ (record { slot = slot; value = get_or saved slot 0 } ∷ [])) ≡ merged (slot + 1) saved values
changes-more slot saved values log inside there below so =
    undone-last values log (record { slot = slot; value = get_or saved slot 0 })
    ∙ undone-set values log slot (get_or saved slot 0) below
    ∙ ap (λ v. set v slot (get_or saved slot 0)) so
    ∙ merged-set slot saved values inside there

pub below-more : (slot value : ℕ) (log : List OldValue) → All (λ old. old.slot < slot) log → All (λ old. old.slot < slot + 1) (log ++ (record { slot = slot; value = value } ∷ []))
below-more slot value log below =
    let more = All-weaker (λ (o : OldValue). o.slot < slot) (λ (o : OldValue). o.slot < slot + 1) (λ o le. omega (arith, le)) log below in
    All-push (λ (o : OldValue). o.slot < slot + 1) log (record { slot = slot; value = value }) more (omega arith)

-- all saved values
pub merged-all : (slot : ℕ) (saved values : List ℕ) → length saved ≤ slot → length values ≤ slot → merged slot saved values ≡ saved
merged-all slot saved values all none =
    ap (λ l. take slot saved ++ l) (drop_all slot values none) ∙ append-nil (take slot saved) ∙ take_all slot saved all

pub below-next : (slot : ℕ) (log : List OldValue) → All (λ old. old.slot < slot) log → All (λ old. old.slot < slot + 1) log
below-next slot log below = All-weaker (λ (o : OldValue). o.slot < slot) (λ (o : OldValue). o.slot < slot + 1) (λ o le. omega (arith, le)) log below

-- the mark of the topmost branch, which is the last
pub mark-last : (branches : List Branch) (n : ℕ) (d : Branch) → length branches ≡ n + 1 → top_mark (reverse branches) ≡ (get_or branches n d).logged
unfolding top_mark
mark-last branches n d long =
    let inside : n < length branches = omega (arith, long) in
    let whole : take (suc n) branches ≡ branches = take_all (suc n) branches (omega (arith, long)) in
    let parts : branches ≡ take n branches ++ (get_or branches n d ∷ []) = sym whole ∙ take-suc branches n d inside in
    ap (λ l. top_mark l) (ap reverse parts ∙ reverse-snoc (take n branches) (get_or branches n d))

pub mark-none : (branches : List Branch) → length branches ≡ 0 → top_mark (reverse branches) ≡ 0
unfolding top_mark
mark-none [] none = refl
mark-none (b ∷ branches) none = absurd (omega (arith, none))

-- what a branch below the replaced entries saves
undone_shortened : (values : List ℕ) (log shorter : List OldValue) (start k : ℕ) → IsShortened values start log shorter → start ≤ length log → k ≤ start → undone values (drop k shorter) ≡ undone values (drop k log)
undone_shortened values log shorter start k is inside le =
    sym (undone-popped values shorter start k is.begins le)
    ∙ ap (λ v. undone v (drop k (take start shorter))) is.undone_same
    ∙ ap (λ l. undone (undone values (drop start log)) (drop k l)) is.front
    ∙ undone-popped values log start k inside le

threads_shortened : (values : List ℕ) (log shorter : List OldValue) (branches : List Branch) (limit h : ℕ) → AreMarksBelow limit h branches → IsShortened values (top_mark branches) log shorter → top_mark branches ≤ length log → map (saved_row values shorter) branches ≡ map (saved_row values log) branches
unfolding AreMarks AreMarksBelow top_mark
threads_shortened values log shorter [] limit h marks is inside = refl
threads_shortened values log shorter (b ∷ branches) limit h marks is inside =
    threads_same values values log shorter (b ∷ branches) limit b.logged (omega arith, omega arith, marks.1) (λ k le. undone_shortened values log shorter b.logged k is inside le)
    (λ k le. sym (take-within k b.logged shorter le) ∙ ap (take k) is.front ∙ take-within k b.logged log le)

-- all that the branches save
pub memory-shortened : (values : List ℕ) (log shorter : List OldValue) (branches : List Branch) → IsLogBelow values log branches → IsShortened values (top_mark (reverse branches)) log shorter → top_mark (reverse branches) ≤ length log → memory_of values shorter branches ≡ memory_of values log branches
memory-shortened values log shorter branches below is inside =
    ap (λ l. record { slots = values; stack = spread l }) (threads_shortened values log shorter (reverse branches) (segment_limit (length values)) (length log) below.marks is inside)

-- the first `start` entries of a log, and the first `kept` of those that were written after them
written : (log part post rest : List OldValue) (len start kept : ℕ) → start + kept ≤ len → start ≤ length log → kept ≤ length part → take (start + kept) (take len ((take start log ++ (part ++ post)) ++ rest)) ≡ take start log ++ take kept part
written log part post rest len start kept fits inside there =
    let front : length (take start log) ≡ start = length-take-le start log inside in
    let long : start + kept ≤ length (take start log ++ (part ++ post)) = omega (arith, front, there, length-append (take start log) (part ++ post), length-append part post) in
    take-within (start + kept) len ((take start log ++ (part ++ post)) ++ rest) fits
    ∙ take-append-le (start + kept) (take start log ++ (part ++ post)) rest long
    ∙ ap (λ n. take (n + kept) (take start log ++ (part ++ post))) (sym front)
    ∙ take-append-add (take start log) (part ++ post) kept
    ∙ ap (λ l. take start log ++ l) (take-append-le kept part post there)

shortened_by : (values : List ℕ) (log changes : List OldValue) (start : ℕ) → start + length values ≤ length log → length changes ≤ length values → AreLogged (length values) log → AreLogged (length values) changes → undone values changes ≡ undone values (drop start log) → IsShortened values start log (take start log ++ changes)
shortened_by values log changes start long few logged there same =
    let inside : start ≤ length log = omega (arith, long) in
    let front : length (take start log) ≡ start = length-take-le start log inside in
    let rest : drop start (take start log ++ changes) ≡ changes = ap (λ n. drop n (take start log ++ changes)) (sym front) ∙ drop-append_seam (take start log) changes in
    record {
      front = take_at (take start log) changes start front;
      undone_same = ap (undone values) rest ∙ same;
      begins = omega (arith, front, length-append (take start log) changes);
      short = omega (arith, front, few, length-append (take start log) changes);
      less = omega (arith, front, few, long, length-append (take start log) changes);
      logged = All-append (λ (old : OldValue). old.slot < length values) (take start log) changes (All-take (λ (old : OldValue). old.slot < length values) start log logged) there;
    }

-- the log after the entries from `start` on were undone, written anew and cut
pub shortened : (values copied saved : List ℕ) (log read lent part post new : List OldValue) (len start kept : ℕ) → length log ≡ len → start + length values ≤ length log → copied ≡ values → read ≡ log → lent ≡ log → saved ≡ undone copied (take (length read - start) (drop start read)) → kept ≤ length values → undone values (take kept part) ≡ saved → AreLogged (length values) (take kept part) → length part ≡ length (take (length lent - start) (drop start lent)) → AreLogged (length values) log → new ≡ take (start + kept) (take len ((take start lent ++ (part ++ post)) ++ drop (length (take start lent ++ (part ++ post))) log)) → IsShortened values start log new
shortened values copied saved log read lent part post new len start kept len_is long copied_is read_is lent_is saved_is few undone_is there part_long logged new_is =
    let rest = drop (length (take start lent ++ (part ++ post))) log in
    let inside : start ≤ length log = omega (arith, long) in
    let room : kept ≤ length part = omega (arith, few, long, part_long, ap length (take_rest lent start), length-drop start lent, ap length lent_is) in
    let is : new ≡ take start log ++ take kept part =
    new_is
    ∙ ap (λ l. take (start + kept) (take len ((take start l ++ (part ++ post)) ++ rest))) lent_is
    ∙ written log part post rest len start kept (omega (arith, few, long, len_is)) inside room
    in
    let same : undone values (take kept part) ≡ undone values (drop start log) =
    undone_is
    ∙ saved_is
    ∙ ap (undone copied) (take_rest read start ∙ ap (drop start) read_is)
    ∙ ap (λ v. undone v (drop start log)) copied_is
    in
    subst (λ l. IsShortened values start log l) (sym is)
    (shortened_by values log (take kept part) start long (omega (arith, few, length-take-le kept part room)) logged there same)

-- entries that are few enough stay
pub shortened-none : (values : List ℕ) (log : List OldValue) (start : ℕ) → start ≤ length log → length log + 2 ≤ start + segment_limit (length values) → AreLogged (length values) log → IsShortened values start log log
shortened-none values log start inside few logged = record {
  front = refl;
  undone_same = refl;
  begins = inside;
  short = few;
  less = omega arith;
  logged = logged;
}

pub sound-shortened : (values : List ℕ) (log shorter : List OldValue) (branches : List Branch) → IsLogBelow values log branches → IsShortened values (top_mark (reverse branches)) log shorter → IsSound values shorter branches
sound-shortened values log shorter branches below is = record {
  logged = is.logged;
  marks =
      marks-closed (segment_limit (length values)) (length log) (length shorter) (reverse branches) below.marks is.begins
      (let short = is.short in omega (arith, short));
  counters = below.counters;
}

pub two-more : (values : List ℕ) (log shorter : List OldValue) (branches : List Branch) → IsLogBelow values log branches → IsShortened values (top_mark (reverse branches)) log shorter → AreMarks (segment_limit (length values)) (length shorter + 2) (reverse branches)
two-more values log shorter branches below is =
    let short = is.short in
    let begins = is.begins in
    marks-closed (segment_limit (length values)) (length log) (length shorter + 2) (reverse branches) below.marks (omega (arith, begins)) (omega (arith, short))

pub from-mark : (values : List ℕ) (start mark : ℕ) (log shorter : List OldValue) → start ≡ mark → IsShortened values start log shorter → IsShortened values mark log shorter
from-mark values start mark log shorter e is = subst (λ n. IsShortened values n log shorter) e is
