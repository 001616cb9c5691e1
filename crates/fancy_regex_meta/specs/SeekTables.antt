-- The seek table of a tree: for each byte, whether a match may start with it.
use Rattle.std.specs.Prelude.{◌≡◌, ◌⊎◌, Bool, true, false, List, Option, Some, None, String, slice_index_or}
use Rattle.std.specs.declared.alloc.Global.{Global}
use Rattle.fancy_regex_tree.specs.Tree.{Tree}
use Rattle.fancy_regex_class.specs.declared.class.ClassError.TheVariants.{InnerError}
use Rattle.fancy_regex_bytes.specs.ByteSets.{Bytes}
use Rattle.fancy_regex_bytes.specs.StartBytes.{start_bytes, StartBytesHold}
use Rattle.fancy_regex_bytes.specs.StartErrors.{IsStartError}
use Rattle.fancy_regex_meta.specs.declared.options.RegexOptions.{RegexOptions}

-- the bytes that a table marks
abbrev pub marked : List Bool → Bytes
marked table b = slice_index_or table b false

-- `regex` rejects some class of the tree
abbrev pub HasRejectedClass : Bool → Tree → Type 0
HasRejectedClass unicode t = (shown : String Global) × IsStartError unicode t (InnerError shown)

-- A table marks the start bytes of the tree, and the option `seek` is on. With that option there is none only where the start
-- bytes are not known, or a class is rejected.
abbrev pub IsSeekTable : RegexOptions → Tree → Option (List Bool) → Type 0
IsSeekTable o t None = o.seek ≡ true → (start_bytes o.unicode_mode t ≡ None) ⊎ HasRejectedClass o.unicode_mode t
IsSeekTable o t (Some table) = (o.seek ≡ true) × (start_bytes o.unicode_mode t ≡ Some (marked table)) × StartBytesHold o.unicode_mode t (marked table)
