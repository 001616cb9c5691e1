-- The library's error for each error of parsing, compiling and running.
use Rattle.fancy_regex_tree.specs.declared.error.Error as tree
use Rattle.fancy_regex_tree.specs.declared.error.Error.TheVariants as of_reading
use Rattle.fancy_regex_info.specs.declared.error.CompileError.{CompileError}
use Rattle.fancy_regex_info.specs.declared.error.CompileError.TheVariants as of_building
use Rattle.fancy_regex_machine.specs.RuntimeError.{RuntimeError}
use Rattle.fancy_regex_machine.specs.RuntimeError.TheVariants as of_running
use Rattle.fancy_regex_meta.specs.declared.error.Error.{Error}
use Rattle.fancy_regex_meta.specs.declared.error.Error.TheVariants as told

abbrev pub from_tree_error : tree.Error → Error
from_tree_error (of_reading.ParseError position kind) = told.ParseError position kind
from_tree_error of_reading.Memory = told.Memory

abbrev pub from_compile_error : CompileError → Error
from_compile_error of_building.Memory = told.Memory
from_compile_error cause = told.CompileError cause

abbrev pub from_runtime_error : RuntimeError → Error
from_runtime_error of_running.Memory = told.Memory
from_runtime_error cause = told.RuntimeError cause
