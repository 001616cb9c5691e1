-- A table that marks the start bytes of a tree is its seek table.
use Rattle.std.proofs.Common.{◌≡◌, ℕ, Bool, true, false, true≢false, List, Some, sym, ap, subst, ◌∙◌}
use Rattle.std.specs.Prelude.{slice_index_or}
use Rattle.fancy_regex_tree.specs.Tree.{Tree}
use Rattle.fancy_regex_class.specs.declared.class.ClassError.{ClassError}
use Rattle.fancy_regex_class.specs.declared.class.ClassError.TheVariants.{InnerError, Memory}
use Rattle.fancy_regex_bytes.specs.ByteSets.{has}
use Rattle.fancy_regex_bytes.specs.declared.byte_set.ByteSet.{ByteSet}
use Rattle.fancy_regex_bytes.specs.StartBytes.{start_bytes, StartBytesHold}
use Rattle.fancy_regex_bytes.specs.StartErrors.{IsStartError}
use Rattle.fancy_regex_meta.specs.SeekTables.{marked, HasRejectedClass, IsSeekTable}
use Rattle.fancy_regex_meta.specs.declared.options.RegexOptions.{RegexOptions}

pub marks_starts : (o : RegexOptions) (t : Tree) (set : ByteSet) (table : List Bool) → o.seek ≡ true → ((b : ℕ) → slice_index_or table b false ≡ has set b) →
    Some (has set) ≡ start_bytes o.unicode_mode t → StartBytesHold o.unicode_mode t (has set) → IsSeekTable o t (Some table)
marks_starts o t set table on same answer law =
    let all : has set ≡ marked table = λ i b. sym (same b) i in
    (on, sym answer ∙ ap Some all, subst (StartBytesHold o.unicode_mode t) all law)

abbrev pub is_inner : ClassError → Bool
is_inner (InnerError shown) = true
is_inner Memory = false

-- an error other than want of memory tells of a class
pub rejected : (unicode : Bool) (t : Tree) (e : ClassError) → IsStartError unicode t e → is_inner e ≡ true → HasRejectedClass unicode t
rejected unicode t (InnerError shown) h is = (shown, h)
rejected unicode t Memory h is = absurd (true≢false (sym is))
