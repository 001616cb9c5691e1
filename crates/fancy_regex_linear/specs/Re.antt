-- A pattern of two branches at most at each node, without where it lies in memory.
use Rattle.std.specs.Prelude.{ℕ, Bool, List, [], ◌∷◌, map}
use Rattle.fancy_regex_states.specs.declared.atom.Leaf.{Leaf}
use Rattle.fancy_regex_states.specs.declared.atom.Test.{Test}
use Rattle.fancy_regex_linear.specs.declared.node.Node.{Node, fold-Node}
use Rattle.fancy_regex_linear.specs.declared.node.Node.TheOpen.{Node-F}

pub data Re : Type 0 where
  nothing : Re
  read : Leaf → Re
  test : Test → Re
  cat : Re → Re → Re
  -- the first is preferred
  alt : Re → Re → Re
  group : ℕ → Re → Re
  -- least and greatest count (the last value of `usize` is no bound), greedy, and whether each way of the body moves
  repeat : ℕ → ℕ → Bool → Bool → Re → Re
  -- the body has a way from so many characters before or, negated, none; with the writes of its first way
  ask : Bool → ℕ → Re → Re
  -- the first way of the body alone
  atomic : Re → Re
  -- from the first way of the condition the second; where the condition has no way, the third
  conditional : Re → Re → Re → Re

-- one after another
abbrev pub cats : List Re → Re
cats [] = nothing
cats (x ∷ xs) = cat x (cats xs)

-- branch after branch
abbrev pub alts : List Re → Re
alts [] = nothing
alts (x ∷ []) = x
alts (x ∷ y ∷ ys) = alt x (alts (y ∷ ys))

abbrev pub node_shape : Node-F Re → Re
node_shape Node-F.Empty = nothing
node_shape (Node-F.Read leaf) = read leaf
node_shape (Node-F.Look check) = test check
node_shape (Node-F.Concat parts) = cats parts.items
node_shape (Node-F.Alt parts) = alts parts.items
node_shape (Node-F.Group number body) = group number body.value
node_shape (Node-F.Repeat body q) = repeat q.lo q.hi q.greedy q.moves body.value
node_shape (Node-F.Ask negated back body) = ask negated back body.value
node_shape (Node-F.Atomic body) = atomic body.value
node_shape (Node-F.Conditional condition true_branch false_branch) = conditional condition.value true_branch.value false_branch.value

abbrev pub shape : Node → Re
shape = fold-Node Re node_shape

-- the shapes of a row of nodes
abbrev pub shapes : List Node → List Re
shapes = map shape
