-- The bytes that every haystack has in which a pattern matches.
use Rattle.std.specs.Prelude.{◌≡◌, ℕ, true, false, ◌==◌, Some, if◌then◌else◌, encode_utf8, slice_get, slice_index}
use Rattle.fancy_regex_tree.specs.Tree.{Tree, Trees, literal, concat, alt, group, repeat, atomic_group, no_trees, more_trees}
use Rattle.fancy_regex_meaning.specs.Groups.{Pattern}
use Rattle.fancy_regex_meaning.specs.Ways.{Setting}
use Rattle.fancy_regex_meaning.specs.Searches.{Search, Match, match_at, first_match}
use Rattle.fancy_regex_bytes.specs.ByteSets.{Bytes, no_bytes, either_bytes, both_bytes, bytes_in}

-- the bytes that every way of the node reads, as far as they are known
unfoldable mutual
  pub required_bytes : Tree → Bytes
  required_bytes (literal val false) = bytes_in (encode_utf8 (slice_index val 0))
  required_bytes (concat ts) = required_in_row ts
  required_bytes (alt ts) = required_in_branches ts
  required_bytes (group t) = required_bytes t
  required_bytes (atomic_group t) = required_bytes t
  required_bytes (repeat t lo hi greedy) = if lo == 0 then no_bytes else required_bytes t
  required_bytes _ = no_bytes

  pub required_in_row : Trees → Bytes
  required_in_row no_trees = no_bytes
  required_in_row (more_trees t ts) = either_bytes (required_bytes t) (required_in_row ts)

  pub required_in_branches : Trees → Bytes
  required_in_branches no_trees = no_bytes
  required_in_branches (more_trees t no_trees) = required_bytes t
  required_in_branches (more_trees t (more_trees u ts)) = both_bytes (required_bytes t) (required_in_branches (more_trees u ts))

-- Law: a haystack in which an attempt of the pattern has a match has each byte of the set.
abbrev pub MatchesHold : Tree → Bytes → Type 0
MatchesHold t set = (s : Setting) (pattern : Pattern) → pattern.tree ≡ t → (find : Search) (p : ℕ) (m : Match) →
    match_at s pattern find p ≡ Some m → (b : ℕ) → set b ≡ true → (i : ℕ) × (slice_get s.text i ≡ Some b)

-- and so has that of a search that finds one
abbrev pub SearchesHold : Tree → Bytes → Type 0
SearchesHold t set = (s : Setting) (pattern : Pattern) → pattern.tree ≡ t → (find : Search) (m : Match) →
    first_match s pattern find ≡ Some m → (b : ℕ) → set b ≡ true → (i : ℕ) × (slice_get s.text i ≡ Some b)

abbrev pub RequiredBytesHold : Tree → Bytes → Type 0
RequiredBytesHold t set = MatchesHold t set × SearchesHold t set
