-- How much of its cap a program takes.
use Rattle.std.specs.Prelude.{◌≡◌, ℕ, ◌+◌, ◌<◌, true, length, Result, OnOk, IfErr}
use Rattle.fancy_regex_analysis.specs.AnalysisErrors.{is_too_complex}
use Rattle.fancy_regex_desugar.specs.CorePatterns.{CorePattern}
use Rattle.fancy_regex_info.specs.declared.error.CompileError.{CompileError}
use Rattle.fancy_regex_program.specs.Code.{flushed}
use Rattle.fancy_regex_compiler.specs.Rooms.{room_with}
use Rattle.fancy_regex_compiler.specs.Refusals.{IsMemoryOrTooComplex}
use Rattle.fancy_regex_compiler.specs.Writing.{Draft, draft_of, layout_of, Wrote}
use Rattle.fancy_regex_compiler.specs.declared.emitter.CompileContext.{CompileContext}
use Rattle.fancy_regex_compiler.specs.declared.emitter.Emitter.{Emitter}
use Rattle.fancy_regex_compiler.specs.declared.program_builder.ProgramBuilder.{ProgramBuilder}

-- how many operations there are once the text that waits is one
unfoldable pub extent : Draft → ℕ
extent d = length d.ops + length (flushed d.text)

-- The program is refused for its length only where the cap is below what was there with so many instructions more.
abbrev pub IsFull : ProgramBuilder → ℕ → CompileError → Type 0
IsFull body more e = is_too_complex e ≡ true → body.cap < extent (draft_of body) + more

-- Appending so many instructions, which makes this draft. The only errors are want of memory and too many instructions.
pub record Appends {A : Type 0} (draft_after : Draft) (more : ℕ) (old new : ProgramBuilder) (result : Result A CompileError) : Type 0 where
  pub draft : OnOk result (draft_of new ≡ draft_after)
  pub cap : new.cap ≡ old.cap
  pub long : OnOk result (extent (draft_of new) ≡ extent (draft_of old) + more)
  pub full : IfErr result (IsFull old more)
  pub refused : IfErr result IsMemoryOrTooComplex

-- Writing the whole program of a pattern that needs no slot. Too many instructions are an error only where the cap is below its room.
pub record Writes {A : Type 0} (context : CompileContext) (old new : Emitter) (result : Result A CompileError) (p : CorePattern) : Type 0 where
  pub cap : new.body.cap ≡ old.body.cap
  pub wrote : OnOk result ((slot : ℕ) → Wrote (layout_of context) context.unicode context.whole old new slot slot p)
  pub needs : OnOk result (new.needs.list.items ≡ old.needs.list.items)
  pub full : IfErr result (IsFull old.body (room_with (layout_of context) p))
