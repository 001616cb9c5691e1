-- What a handle owns: nothing where it is empty, else the box of its value. Assumes nothing: these are definitions.
--     token          the right to free a block of the heap
--     owns_if_live   what a handle owns
use mathlib.Core.Bool.{Bool, true, false}
use Rattle.std.specs.Prelude.{Option, Some, None}
use mir.Syntax.{Ty}
use base.Fml.{Fml, fsep, feq}
use denote.RattleType.{RattleType}
use denote.RawPtr.{Ptr}
use Rattle.std.specs.Box.Ownership.{box_owns}
use Rattle.std.specs.contracts.impls.GlobalAllocator.TheImpl.{ghosts}

abbrev pub token : Ty → Ptr → Fml
token = ghosts.dealloc_token (record { memory = record { seal = tt } })

unfoldable pub owns_if_live : (Ty → Ptr → Fml) → (R : RattleType) → Ptr → Bool → Option R.Denot → Fml
owns_if_live holds R p live None = feq Bool live false
owns_if_live holds R p live (Some x) = fsep (feq Bool live true) (box_owns holds R p x)
