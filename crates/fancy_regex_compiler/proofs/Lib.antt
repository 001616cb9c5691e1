mod PartLemmas
mod DelegateSteps
mod TailSteps
mod TailEnds
mod Drafts
mod Branches
mod KindLemmas
mod KnownLemmas
mod TreeLemmas
mod LeafLemmas
mod EmitLemmas
mod NodeLemmas
mod RefusalLemmas
pub mod ClearLemmas
mod TreeContextLemmas
mod TextLemmas
mod CalledTextLemmas
mod OpenedLemmas
mod GroupLemmas
mod RowLemmas
mod WritableLemmas
mod WholeLemmas
mod ClassLemmas
mod RoomLemmas
mod NeedLemmas
mod LengthLemmas
pub mod KeptLength
pub mod BodyLemmas
pub mod InfoParts
pub mod NeedsMet
pub mod KeptWhole
mod StackLemmas
mod InlinedRooms
mod InlinedLemmas
mod InlinedDrafts
mod InlinedContext
mod SilentLemmas
mod AddedBodies
mod MetLemmas
mod MainLemmas
mod KeptLemmas
mod CapLemmas
mod WorkLemmas
mod StepLemmas
mod BranchSteps
mod OutcomeLemmas
pub use Rattle.fancy_regex_compiled.proofs.Sending
