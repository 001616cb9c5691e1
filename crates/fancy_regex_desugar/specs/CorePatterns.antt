-- The core language that programs are compiled from: a call holds what stands for its target's body, each look-behind steps back by a fixed
-- number of characters, and concatenation and alternation are binary.
use Rattle.std.specs.Prelude.{ℕ, Bool, Option}
use Rattle.fancy_regex_tree.specs.declared.expr.Assertion.{Assertion}
use Rattle.fancy_regex_tree.specs.Tree.{Text, Tree}

-- a test on one character
pub data CharacterTest : Type 0 where
  -- any character: also a newline, CRLF mode
  any : Bool → Bool → CharacterTest
  -- the character, case-insensitive
  literal : ℕ → Bool → CharacterTest
  -- the text of the class, case-insensitive
  class : Text → Bool → CharacterTest

pub data CorePattern : Type 0 where
  -- the empty expression
  nothing : CorePattern
  -- one character that passes the test
  read : CharacterTest → CorePattern
  -- `\R`; whether in Unicode mode
  general_newline : Bool → CorePattern
  -- a zero-width assertion
  check : Assertion → CorePattern
  -- `\G`: the position where the previous match ended
  continue : CorePattern
  -- `\K`: the reported match starts here
  keep_out : CorePattern
  -- never matches
  fail : CorePattern
  -- concatenation
  cat : CorePattern → CorePattern → CorePattern
  -- alternation; the first is preferred
  alt : CorePattern → CorePattern → CorePattern
  -- capture group: number, body
  group : ℕ → CorePattern → CorePattern
  -- positive look-around: the body matches from here, and the position stays
  ahead : CorePattern → CorePattern
  -- negative look-around: the body does not match from here
  never : CorePattern → CorePattern
  -- a step back by this number of characters
  back : ℕ → CorePattern
  -- atomic group: only the preferred match of the body
  atomic : CorePattern → CorePattern
  -- The first match of this tree alone, found by a search in linear time. The pattern has the same matches, or in another order.
  delegate : Tree → CorePattern → CorePattern
  -- The end of a whole pattern. Where only the first match counts, the first match of this tree alone that ends in range, found by a search
  -- in linear time; elsewhere the pattern.
  tail : Tree → CorePattern → CorePattern
  -- body, lower bound, upper bound (None: unbounded), greedy
  repeat : CorePattern → ℕ → Option ℕ → Bool → CorePattern
  -- back reference: group number, case-insensitive
  backref : ℕ → Bool → CorePattern
  -- the group has matched
  exists : ℕ → CorePattern
  -- condition, branch if it matches, branch if it does not
  conditional : CorePattern → CorePattern → CorePattern → CorePattern
  -- absent repeater: any text that contains no match of the body
  absent : CorePattern → CorePattern
  -- a call: the number of the group that is called, and what stands for its body
  called : ℕ → CorePattern → CorePattern
