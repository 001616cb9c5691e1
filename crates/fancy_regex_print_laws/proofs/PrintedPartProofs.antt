-- Printed texts in their place, read.
use Rattle.fancy_regex_tree.specs.TreeBuilders.{branch_of, pattern_of}
use Rattle.fancy_regex_tree.specs.NormalForm.{normal_form}
use Rattle.fancy_regex_meaning.specs.Ways.{Setting}
use Rattle.fancy_regex_print_laws.specs.PrintedParts.{PartsReadBack, PartsKeepWays}
use Rattle.fancy_regex_print_laws.proofs.GroupNumbers.{counts_as, form_resolved}
use Rattle.fancy_regex_print_laws.proofs.NormalFormSearchProofs.{ways_stay}
use Rattle.fancy_regex_print_laws.proofs.Reading.{reads}

pub parts_read_back : PartsReadBack
parts_read_back size n unicode t p fit =
    let form = normal_form t in
    let read = reads size unicode t p fit in
    record {
      whole = λ rest end few.
          let found = read.whole n rest few end in (found.body, found.reading, counts_as (pattern_of (found.body)) form found.is_form (form_resolved t p));
      branch = λ rest end few.
          let found = read.branch n rest few end in (found.pieces, found.reading, counts_as (branch_of (found.pieces)) form found.is_form (form_resolved t p));
      piece = λ filled rest start few.
          let found = read.piece n rest filled few start in (found.tree, found.reading, counts_as (found.tree) form found.is_form (form_resolved t p));
      atom = λ filled rest start few.
          let found = read.atom n rest filled few start in (found.atom, found.reading, counts_as (found.atom).tree form found.is_form (form_resolved t p));
    }

pub parts_keep_ways : (s : Setting) → PartsKeepWays s
parts_keep_ways s t p classes groups others n w = ways_stay s t groups others n w p classes
