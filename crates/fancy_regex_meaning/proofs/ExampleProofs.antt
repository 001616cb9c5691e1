-- Worked patterns: their rows compute.
use Rattle.std.proofs.Common.{refl}
use Rattle.std.specs.Prelude.{⊤}
use Rattle.std.specs.Str.{chars}
use Rattle.std.specs.Char.{encode_utf8}
use Rattle.regex_hir.specs.Text.{byte_before, has_bytes_at, char_at, char_before, is_boundary}
use Rattle.fancy_regex_meaning.specs.Groups.{bodies, group_count}
use Rattle.fancy_regex_meaning.specs.Sizes.{size_with, calls_in, calls_through, is_recursive, size_through, size, weight}
use Rattle.fancy_regex_meaning.specs.Ways.{meaning, call_ways, ways}
use Rattle.fancy_regex_meaning.specs.Choices.{count, call_choices, choices_at, choices, nodes_with, nodes_of_call, program_nodes}
use Rattle.fancy_regex_meaning.specs.Searches.{match_at, first_match, search_from, find_input, items, all_items, member_match, set_answer}
use Rattle.fancy_regex_meaning.specs.Examples.{Orders, TwoNewlines, EmptyIteration, LookAheadKeepsWays, AtomicIsFirst, RangeEnds, NotEmpty, FoldedReference, Iterations, Sets, Pieces, Branches, Calls, Weights, Recursion, Chosen, Deep, Edges, Nodes, SizesOfPatterns, LongestRows}

unfoldable pub everything : ⊤
unfolding chars encode_utf8 byte_before has_bytes_at char_at char_before is_boundary bodies group_count size_with calls_in calls_through is_recursive size_through size weight meaning call_ways ways match_at first_match search_from find_input items all_items member_match set_answer count call_choices choices_at choices nodes_with nodes_of_call program_nodes
everything = tt

pub orders : Orders
unfolding everything
orders = (refl, refl, refl, refl, refl, refl, refl, refl, refl, refl)

pub two_newlines : TwoNewlines
unfolding everything
two_newlines = refl

pub empty_iteration : EmptyIteration
unfolding everything
empty_iteration = refl

pub look_ahead_keeps_ways : LookAheadKeepsWays
unfolding everything
look_ahead_keeps_ways = refl

pub atomic_is_first : AtomicIsFirst
unfolding everything
atomic_is_first = refl

pub range_ends : RangeEnds
unfolding everything
range_ends = (refl, refl)

pub not_empty : NotEmpty
unfolding everything
not_empty = (refl, refl, refl)

pub folded_reference : FoldedReference
unfolding everything
folded_reference = (refl, refl)

pub iterations : Iterations
unfolding everything
iterations = (refl, refl, refl, refl, refl)

pub sets : Sets
unfolding everything
sets = (refl, refl, refl, refl)

pub pieces : Pieces
unfolding everything
pieces = (refl, refl, refl, refl)

pub branches : Branches
unfolding everything
branches = (refl, refl, refl, refl, refl, refl)

pub calls : Calls
unfolding everything
calls = (refl, refl, refl, refl, refl)

pub weights : Weights
unfolding everything
weights = (refl, refl, refl, refl, refl)

pub recursion : Recursion
unfolding everything
recursion = refl

pub chosen : Chosen
unfolding everything
chosen = (refl, refl, refl)

pub deep : Deep
unfolding everything
deep = (refl, refl)

pub edges : Edges
unfolding everything
edges = (refl, refl, refl, refl, refl, refl, refl)

pub nodes : Nodes
unfolding everything
nodes = (refl, refl)

pub sizes_of_patterns : SizesOfPatterns
unfolding everything
sizes_of_patterns = (refl, refl, refl, refl, refl, refl)

pub longest_rows : LongestRows
unfolding everything
longest_rows = (refl, refl, refl, refl, refl)
