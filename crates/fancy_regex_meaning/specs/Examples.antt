-- Worked patterns, and what they find.
use Rattle.std.specs.Prelude.{◌≡◌, ℕ, zero, suc, ◌+◌, ◌&&◌, Bool, true, false, List, [], ◌∷◌, map, Option, Some, None, option_map, codes, nat_le, ◌==◌, if◌then◌else◌, ◌++◌, replicate, encode_utf8_all, length}
use Prim.Native.String.{String}
use Rattle.fancy_regex_tree.specs.declared.expr.Assertion.TheVariants.{StartText, EndText, WordBoundary, StartLine}
use Rattle.fancy_regex_tree.specs.declared.expr.LookAround.TheVariants.{LookAhead, LookAheadNeg, LookBehind, LookBehindNeg}
use Rattle.fancy_regex_tree.specs.Tree as tree
use Rattle.fancy_regex_tree.specs.Tree.{Tree, trees, Text, empty, any, assertion, general_newline, literal, delegate, concat, group, look_around, repeat, atomic_group, backref, backref_exists, conditional, subroutine_call, keep_out, continue, absent_repeater, define_group}
use Rattle.fancy_regex_meaning.specs.Groups.{pattern_of}
use Rattle.fancy_regex_meaning.specs.Ways.{Setting, Pairs}
use Rattle.fancy_regex_meaning.specs.Sizes.{Size, tree_weight, size, unbounded, always_size}
use Rattle.fancy_regex_meaning.specs.Choices.{choices, program_nodes}
use Rattle.fancy_regex_meaning.specs.Searches.{ways_at, Match, Member, default_options, find_input, input_of, all_items, pieces, replaced, set_answer}

abbrev pub literals : List ℕ → List Tree
literals [] = []
literals (c ∷ cs) = literal (c ∷ []) false ∷ literals cs

abbrev pub word : List ℕ → Tree
word cs = concat (trees (literals cs))

abbrev pub cat : List Tree → Tree
cat ts = concat (trees ts)

abbrev pub alt : List Tree → Tree
alt ts = tree.alt (trees ts)

-- 'a' to 'z'
abbrev pub a : Tree
a = literal (97 ∷ []) false

abbrev pub b : Tree
b = literal (98 ∷ []) false

abbrev pub c : Tree
c = literal (99 ∷ []) false

abbrev pub star : Tree → Tree
star t = repeat t 0 unbounded true

abbrev pub optional : Tree → Tree
optional t = repeat t 0 1 true

-- letters are words, and nothing else is a class
abbrev pub is_letter : Text → Bool → ℕ → Bool
is_letter class casei c = nat_le 97 c && nat_le c 122

abbrev pub lower : ℕ → ℕ
lower c = if nat_le 65 c && nat_le c 90 then c + 32 else if c == 0x17F then 115 else c

abbrev pub plain : List ℕ → Setting
plain text = record { text = text; no_start_text = false; no_end_text = false; continue_at = None; has_member = is_letter; fold = lower }

abbrev pub seen : Match → ℕ × ℕ × Pairs
seen m = (m.start, m.end, m.pairs)

-- the text of a string
abbrev pub utf8 : String → List ℕ
utf8 s = encode_utf8_all (codes s)

abbrev pub found : Tree → List ℕ → Option (ℕ × ℕ × Pairs)
found t text = option_map seen (find_input (plain text) (pattern_of t) default_options (input_of text))

abbrev pub found_in : Tree → List ℕ → ℕ → ℕ → Option (ℕ × ℕ × Pairs)
found_in t text first stop = option_map seen (find_input (plain text) (pattern_of t) default_options (record (input_of text) { range_start = first; range_end = stop }))

abbrev pub spans : Tree → List ℕ → List (ℕ × ℕ)
spans t text = map (λ m. (m.start, m.end)) (all_items (plain text) (pattern_of t) default_options (input_of text))

-- where the ways of the pattern lead from a place, in order
abbrev pub ends_from : Tree → List ℕ → ℕ → List ℕ
ends_from t text p =
    map (λ w. w.position) (ways_at (plain text) (pattern_of t) (record { first = p; stop = length text; anchored = false; options = default_options }) p)

-- `a|ab` and `ab|a`, `a*`, `a*?`, `a??`, `a{1,2}`, `a{2}`, `(?>a|ab)`, `a*` from 1, `(?:a|ab)c`
abbrev pub Orders : Type 0
Orders = (ends_from (alt (a ∷ word (codes "ab") ∷ [])) (codes "abc") 0 ≡ 1 ∷ 2 ∷ [])
    × (ends_from (alt (word (codes "ab") ∷ a ∷ [])) (codes "abc") 0 ≡ 2 ∷ 1 ∷ [])
    × (ends_from (star a) (codes "aa") 0 ≡ 2 ∷ 1 ∷ 0 ∷ [])
    × (ends_from (repeat a 0 unbounded false) (codes "aa") 0 ≡ 0 ∷ 1 ∷ 2 ∷ [])
    × (ends_from (repeat a 0 1 false) (codes "aa") 0 ≡ 0 ∷ 1 ∷ [])
    × (ends_from (repeat a 1 2 true) (codes "aaa") 0 ≡ 2 ∷ 1 ∷ [])
    × (ends_from (repeat a 2 2 true) (codes "aaa") 0 ≡ 2 ∷ [])
    × (ends_from (atomic_group (alt (a ∷ word (codes "ab") ∷ []))) (codes "abc") 0 ≡ 1 ∷ [])
    × (ends_from (star a) (codes "aa") 1 ≡ 2 ∷ 1 ∷ [])
    × (found (cat (alt (a ∷ word (codes "ab") ∷ []) ∷ c ∷ [])) (codes "abc") ≡ Some (0, 3, None ∷ []))

abbrev pub TwoNewlines : Type 0
TwoNewlines = found (cat (group (any true false) ∷ any true false ∷ [])) (10 ∷ 10 ∷ []) ≡ Some (0, 2, None ∷ Some (0, 1) ∷ [])

abbrev pub EmptyIteration : Type 0
EmptyIteration = found (star (group (alt (a ∷ optional b ∷ [])))) (codes "ab") ≡ Some (0, 2, None ∷ Some (2, 2) ∷ [])

abbrev pub LookAheadKeepsWays : Type 0
LookAheadKeepsWays =
    found (cat (look_around (cat (group (alt (a ∷ word (codes "ab") ∷ [])) ∷ look_around (literal (120 ∷ []) false) LookAheadNeg ∷ [])) LookAhead ∷ backref 1 false ∷ c ∷ [])) (codes "abc")
    ≡ Some (0, 3, None ∷ Some (0, 2) ∷ [])

abbrev pub AtomicIsFirst : Type 0
AtomicIsFirst = found (cat (atomic_group (alt (a ∷ word (codes "ab") ∷ [])) ∷ c ∷ [])) (codes "abc") ≡ None

abbrev pub RangeEnds : Type 0
RangeEnds = (found_in (star a) (codes "aaaa") 0 2 ≡ Some (0, 2, None ∷ [])) × (found_in (atomic_group (star a)) (codes "aaaa") 0 2 ≡ None)

abbrev pub found_not_empty : Tree → List ℕ → Option (ℕ × ℕ × Pairs)
found_not_empty t text =
    option_map seen (find_input (plain text) (pattern_of t) (record default_options { find_not_empty = true }) (input_of text))

-- A look-ahead sees past the range's end. Then `a*` and `|a`, where the match is not to be empty.
abbrev pub NotEmpty : Type 0
NotEmpty = (found_in (cat (a ∷ look_around b LookAhead ∷ [])) (codes "ab") 0 1 ≡ Some (0, 1, None ∷ []))
    × (found_not_empty (star a) (codes "ba") ≡ Some (1, 2, None ∷ []))
    × (found_not_empty (alt (empty ∷ a ∷ [])) (codes "a") ≡ Some (0, 1, None ∷ []))

-- `(?i)(ſ)\1` on `ſs`, `(?i)(s)\1` on `sS`
abbrev pub FoldedReference : Type 0
FoldedReference = (found (cat (group (literal (0x17F ∷ []) true) ∷ backref 1 true ∷ [])) (utf8 "ſs") ≡ None)
    × (found (cat (group (literal (115 ∷ []) true) ∷ backref 1 true ∷ [])) (codes "sS") ≡ Some (0, 2, None ∷ Some (0, 1) ∷ []))

-- `a\K` on `aa`, `\Ga?` on `ab a`, the empty pattern on `é`
abbrev pub Iterations : Type 0
Iterations = (spans (cat (a ∷ keep_out ∷ [])) (codes "aa") ≡ (1, 1) ∷ [])
    × (spans (cat (continue ∷ optional a ∷ [])) (codes "ab a") ≡ (0, 1) ∷ [])
    × (spans empty (utf8 "é") ≡ (0, 0) ∷ (2, 2) ∷ [])
    × (spans (alt (word (codes "ab") ∷ b ∷ [])) (codes "xabb") ≡ (1, 3) ∷ (3, 4) ∷ [])
    × (spans (alt (a ∷ empty ∷ [])) (codes "ba") ≡ (0, 0) ∷ (1, 2) ∷ [])

abbrev pub set_member : Tree → List ℕ → Member
set_member t text = record { pattern = pattern_of t; options = default_options; setting = plain text }

abbrev pub set_found : List Tree → List ℕ → Option (ℕ × List (ℕ × ℕ × ℕ))
set_found ts text = option_map (λ r. (r.position, map (λ m. (m.0, m.1.start, m.1.end)) r.found))
    (set_answer (map (λ t. set_member t text) ts) (input_of text) text)

-- `(?<=\Gy)x` on `yx`, `\Gx` on `yx`; `foo`, `\bbar\b`; `a+`, `a`
abbrev pub Sets : Type 0
Sets = (set_found (cat (look_around (cat (continue ∷ literal (121 ∷ []) false ∷ [])) LookBehind ∷ literal (120 ∷ []) false ∷ []) ∷ []) (codes "yx") ≡ Some (1, (0, 1, 2) ∷ []))
    × (set_found (cat (continue ∷ literal (120 ∷ []) false ∷ []) ∷ []) (codes "yx") ≡ None)
    × (set_found (repeat a 1 unbounded true ∷ a ∷ []) (codes "aaa") ≡ Some (0, (0, 0, 3) ∷ (1, 0, 1) ∷ []))
    × (set_found (word (codes "foo") ∷ cat (assertion WordBoundary ∷ word (codes "bar") ∷ assertion WordBoundary ∷ []) ∷ []) (utf8 "fooé bar") ≡ Some (0, (0, 0, 3) ∷ []))

-- split by the empty pattern, and by `(1|2)\1`; `foo\Kbar` replaced by `X`
abbrev pub Pieces : Type 0
Pieces = (pieces (codes "123") (all_items (plain (codes "123")) (pattern_of empty) default_options (input_of (codes "123"))) ≡ [] ∷ codes "1" ∷ codes "2" ∷ codes "3" ∷ [] ∷ [])
    × (pieces (codes "12112122") (all_items (plain (codes "12112122")) (pattern_of (cat (group (alt (literal (49 ∷ []) false ∷ literal (50 ∷ []) false ∷ [])) ∷ backref 1 false ∷ []))) default_options (input_of (codes "12112122"))) ≡ codes "12" ∷ codes "21" ∷ [] ∷ [])
    × (replaced (codes "foobar") (λ m. codes "X") 0 (all_items (plain (codes "foobar")) (pattern_of (cat (word (codes "foo") ∷ keep_out ∷ word (codes "bar") ∷ []))) default_options (input_of (codes "foobar"))) ≡ codes "fooX")
    × (replaced (codes "ab") (λ m. codes "-") 0 (all_items (plain (codes "ab")) (pattern_of empty) default_options (input_of (codes "ab"))) ≡ codes "-a-b-")

-- `(\((?:[^()]|\g<1>)*\))` on `x(a(b)c)y`, with a letter for the class
abbrev pub nested : Tree
nested = group (cat (literal (40 ∷ []) false ∷ star (alt (delegate (codes "[^()]") false ∷ subroutine_call 1 ∷ [])) ∷ literal (41 ∷ []) false ∷ []))

abbrev pub Recursion : Type 0
Recursion = found nested (codes "x(a(b)c)y") ≡ Some (1, 8, None ∷ Some (1, 8) ∷ [])

-- `(a)?(?(1)b|c)`, `(?(a)b|c)`, `(?<=a|bc)d`, `(?<!a)b`, `a++a`
abbrev pub Branches : Type 0
Branches = (found (cat (optional (group a) ∷ conditional (backref_exists 1 None) b c ∷ [])) (codes "ab") ≡ Some (0, 2, None ∷ Some (0, 1) ∷ []))
    × (found (cat (optional (group a) ∷ conditional (backref_exists 1 None) b c ∷ [])) (codes "c") ≡ Some (0, 1, None ∷ None ∷ []))
    × (found (conditional a b c) (codes "ab") ≡ Some (0, 2, None ∷ []))
    × (found (cat (look_around (alt (a ∷ word (codes "bc") ∷ [])) LookBehind ∷ literal (100 ∷ []) false ∷ [])) (codes "bcd") ≡ Some (2, 3, None ∷ []))
    × (found (cat (look_around a LookBehindNeg ∷ b ∷ [])) (codes "ab b") ≡ Some (3, 4, None ∷ []))
    × (found (cat (atomic_group (repeat a 1 unbounded true) ∷ a ∷ [])) (codes "aaa") ≡ None)

-- `(?:a\g<0>?b)`, `(a|b)\g<1>`, `(?~abc)`, `\R`, `\R\n`
abbrev pub Calls : Type 0
Calls = (found (cat (a ∷ optional (subroutine_call 0) ∷ b ∷ [])) (codes "aabb") ≡ Some (0, 4, None ∷ []))
    × (found (cat (group (alt (a ∷ b ∷ [])) ∷ subroutine_call 1 ∷ [])) (codes "ab") ≡ Some (0, 2, None ∷ Some (0, 1) ∷ []))
    × (found (absent_repeater (word (codes "abc"))) (codes "xabcx") ≡ Some (0, 3, None ∷ []))
    × (found (general_newline true) (13 ∷ 10 ∷ []) ≡ Some (0, 2, None ∷ []))
    × (found (cat (general_newline true ∷ literal (10 ∷ []) false ∷ [])) (13 ∷ 10 ∷ []) ≡ None)

-- `(a\g<1>?b)` on so many `a` and then `b`
abbrev pub balanced : Tree
balanced = group (cat (a ∷ optional (subroutine_call 1) ∷ b ∷ []))

abbrev pub run_of : ℕ → List ℕ
run_of n = replicate n 97 ++ replicate n 98

abbrev pub Deep : Type 0
Deep = (found balanced (run_of 20) ≡ Some (0, 40, None ∷ Some (0, 40) ∷ [])) × (found balanced (run_of 21) ≡ Some (1, 41, None ∷ Some (1, 41) ∷ []))

-- weights
abbrev pub Weights : Type 0
Weights = (tree_weight [] (alt (word (codes "ab") ∷ c ∷ [])) ≡ 8) × (tree_weight [] (star a) ≡ 6) × (tree_weight [] (star (optional a)) ≡ 14)
    × (tree_weight [] (repeat a 2 4 true) ≡ 12) × (tree_weight [] (cat (star (group (alt (a ∷ b ∷ word (codes "ab") ∷ []))) ∷ b ∷ c ∷ [])) ≡ 19)

abbrev pub choices_from_start : Tree → List ℕ → ℕ → ℕ
choices_from_start t text stop = choices (plain text) (pattern_of t) (record { first = 0; stop = stop; anchored = false; options = default_options })

-- `(a)*(?!b)` on 10 `a`; `(?<!b|c)` and `(?<!b|cc)` on the empty text, where the branches of equal length are not entered
abbrev pub Chosen : Type 0
Chosen = (choices_from_start (cat (star (group a) ∷ look_around b LookAheadNeg ∷ [])) (replicate 10 97) 10 ≡ 23)
    × (choices_from_start (look_around (alt (b ∷ c ∷ [])) LookBehindNeg) [] 0 ≡ 2)
    × (choices_from_start (look_around (alt (b ∷ word (codes "cc") ∷ [])) LookBehindNeg) [] 0 ≡ 3)

-- `(a|b|ab)*bc` on `ab` so many times and `ac`: there are too many ways to list them
abbrev pub exploding : Tree
exploding = cat (star (group (alt (a ∷ b ∷ word (codes "ab") ∷ []))) ∷ b ∷ c ∷ [])

abbrev pub times_ab : ℕ → List ℕ
times_ab zero = codes "ac"
times_ab (suc n) = codes "ab" ++ times_ab n

abbrev pub Exploding : Type 0
Exploding = found exploding (times_ab 28) ≡ None

-- `a` on `a` from 2, the empty pattern in 1..1, `^` from 1, `a\z` in 0..1, `(?<=é)x` on `éx`, `^a` and `(?m)^a` with the start suppressed
abbrev pub unstarted : List ℕ → Setting
unstarted text = record (plain text) { no_start_text = true }

abbrev pub Edges : Type 0
Edges = (found_in a (codes "a") 2 1 ≡ None)
    × (found_in empty (codes "ab") 1 1 ≡ Some (1, 1, None ∷ []))
    × (found_in (assertion StartText) (codes "ab") 1 2 ≡ None)
    × (found_in (cat (a ∷ assertion EndText ∷ [])) (codes "ab") 0 1 ≡ None)
    × (found (cat (look_around (literal (0xE9 ∷ []) false) LookBehind ∷ literal (120 ∷ []) false ∷ [])) (utf8 "éx") ≡ Some (2, 3, None ∷ []))
    × (option_map seen (find_input (unstarted (codes "a")) (pattern_of (cat (assertion StartText ∷ a ∷ []))) default_options (input_of (codes "a"))) ≡ None)
    × (option_map seen (find_input (unstarted (codes "a")) (pattern_of (cat (assertion (StartLine false) ∷ a ∷ []))) default_options (input_of (codes "a"))) ≡ Some (0, 1, None ∷ []))

-- `ab`, and `(a|b)\g<1>`, whose call stands for three nodes
abbrev pub Nodes : Type 0
Nodes = (program_nodes (pattern_of (cat (a ∷ b ∷ []))) ≡ 3) × (program_nodes (pattern_of (cat (group (alt (a ∷ b ∷ [])) ∷ subroutine_call 1 ∷ []))) ≡ 8)

-- `a\g<1>(?(DEFINE)\g<0>)`, whose call of group 1 is not resolved
abbrev pub unresolved : Tree
unresolved = cat (a ∷ subroutine_call 1 ∷ define_group (subroutine_call 0) ∷ [])

-- sizes of `(a\g<1>?b)`, of `(a\g<1>)`, which has no end, of `ab|cb`, `a{2,3}`, of `(a|b)\g<1>`, and of a call of the whole in a
-- pattern with an unresolved call
abbrev pub size_of_whole : Tree → Size
size_of_whole t = size ((pattern_of t).groups) t

abbrev pub SizesOfPatterns : Type 0
SizesOfPatterns = (size_of_whole balanced ≡ record { least = 2; greatest = unbounded; always = false })
    × (size_of_whole (group (cat (a ∷ subroutine_call 1 ∷ []))) ≡ record { least = unbounded; greatest = unbounded; always = false })
    × (size_of_whole (alt (word (codes "ab") ∷ word (codes "cb") ∷ [])) ≡ always_size 2)
    × (size_of_whole (repeat a 2 3 true) ≡ record { least = 2; greatest = 3; always = false })
    × (size_of_whole (cat (group (alt (a ∷ b ∷ [])) ∷ subroutine_call 1 ∷ [])) ≡ always_size 2)
    × (size ((pattern_of unresolved).groups) (subroutine_call 0) ≡ record { least = 1; greatest = unbounded; always = false })

abbrev pub longest : Tree → List ℕ → Option (ℕ × ℕ × Pairs)
longest t text =
    option_map seen (find_input (plain text) (pattern_of t) (record default_options { longest = true }) (input_of text))

-- the longest of `a|ab`, of `(a|ab)(c|bcd)(d*)(?!e)`, `(?>a|ab)`, `a\Kb|abc`, `ab\Kc|ab`
abbrev pub LongestRows : Type 0
LongestRows = (longest (alt (a ∷ word (codes "ab") ∷ [])) (codes "ab") ≡ Some (0, 2, None ∷ []))
    × (longest (cat (group (alt (a ∷ word (codes "ab") ∷ [])) ∷ group (alt (c ∷ word (codes "bcd") ∷ [])) ∷ group (star (literal (100 ∷ []) false)) ∷ look_around (literal (101 ∷ []) false) LookAheadNeg ∷ [])) (codes "abcd")
    ≡ Some (0, 4, None ∷ Some (0, 1) ∷ Some (1, 4) ∷ Some (4, 4) ∷ []))
    × (longest (atomic_group (alt (a ∷ word (codes "ab") ∷ []))) (codes "ab") ≡ Some (0, 1, None ∷ []))
    × (longest (alt (cat (a ∷ keep_out ∷ b ∷ []) ∷ word (codes "abc") ∷ [])) (codes "abc") ≡ Some (0, 3, None ∷ []))
    × (longest (alt (cat (a ∷ b ∷ keep_out ∷ c ∷ []) ∷ word (codes "ab") ∷ [])) (codes "abc") ≡ Some (2, 3, None ∷ []))
