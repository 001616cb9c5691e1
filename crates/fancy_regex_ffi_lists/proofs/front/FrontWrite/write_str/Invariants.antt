-- The bytes before the index are written after what stood there; the rest is as it was.
use Rattle.std.specs.Prelude.{◌≡◌, ℕ, ◌<◌, ◌≤◌, ◌-◌, length, slice_index_or}
use Rattle.fancy_regex_ffi_lists.proofs.front.FrontWrite.write_str.Given as goal

abbrev pub invariant-loop-i : goal.invariant-loop-i
invariant-loop-i l = record {
  same_room : length l.self.room.now ≡ length l.initial.self.room.now;
  counted : l.self.length ≡ l.initial.self.length;
  same_name : l.self.room.ghost_name ≡ l.initial.self.room.ghost_name;
  low : l.initial.self.length ≤ l.i;
  high : l.i ≤ l.end;
  before : (k : ℕ) (d : ℕ) → k < l.initial.self.length → slice_index_or l.self.room.now k d ≡ slice_index_or l.initial.self.room.now k d;
  between : (k : ℕ) (d : ℕ) → l.initial.self.length ≤ k → k < l.i → slice_index_or l.self.room.now k d ≡ slice_index_or l.bytes (k - l.initial.self.length) d;
  after : (k : ℕ) (d : ℕ) → l.i ≤ k → slice_index_or l.self.room.now k d ≡ slice_index_or l.initial.self.room.now k d;
}
