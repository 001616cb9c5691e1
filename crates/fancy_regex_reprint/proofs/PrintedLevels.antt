-- Where the printed text is not parsed, too many groups are nested in it.
use Rattle.std.proofs.Common.{◌≡◌, ℕ, Bool, true, false, Result, Err, Some, refl, ap, sym, ◌∙◌, nat_lt, ◌&&◌, if◌then◌else◌, None}
use Rattle.std.proofs.lemmas.Bool.{ltb-true, true≢false}
use Rattle.std.specs.Result.{is_ok}
use Rattle.fancy_regex_text.specs.Text.{Text}
use Rattle.fancy_regex_tree.specs.Tree.{Tree}
use Rattle.fancy_regex_text.specs.declared.fault.ParseError.{ParseError as Kind}
use Rattle.fancy_regex_tree.specs.declared.error.Error.{Error}
use Rattle.fancy_regex_tree.specs.declared.error.Error.TheVariants.{ParseError, Memory}
use Rattle.fancy_regex_tree.specs.Numbering.{PositionedFault}
use Rattle.fancy_regex_tree.specs.Parse.{Parsed, parse}
use Rattle.fancy_regex_tree.specs.ParseResult.{IsParsed}
use Rattle.fancy_regex_tree.specs.Printed.{printed}
use Rattle.fancy_regex_tree.specs.Printable.{is_printable, classes_read_back, printed_levels, reprints}
use Rattle.fancy_regex_print_laws.specs.ReprintLaws.{TreeParses, plain_options}
use Rattle.fancy_regex_reprint.specs.Reprinted.{reprinted}

is_parse_error : Error → Bool
is_parse_error (ParseError position kind) = true
is_parse_error Memory = false

refused : (e : Error) (position : ℕ) (kind : Kind) (defined : Result Parsed PositionedFault) → e ≡ ParseError position kind → IsParsed (Err e) defined
    → is_ok defined ≡ false
unfolding is_parse_error
refused (ParseError position kind) p k defined is fault = ap is_ok fault
refused Memory p k defined is fault = absurd (true≢false (sym (ap is_parse_error is)))

by_answer : (b : Bool) (t : Tree) (text : Text) → nat_lt (printed_levels 0 t) 64 ≡ b → is_printable t ≡ true → TreeParses t
    → text ≡ printed 0 t → is_ok (parse (plain_options true false) text) ≡ false → false ≡ b
by_answer false t text h p parses is fails = refl
by_answer true t text h p parses is fails =
    let found = parses true false p (ltb-true (printed_levels 0 t) 64 h) in
    absurd (true≢false (sym (ap is_ok found.answer) ∙ sym (ap (λ x. is_ok (parse (plain_options true false) x)) is) ∙ fails))

pub levels_exceeded : (t : Tree) (text : Text) (e : Error) (position : ℕ) (kind : Kind) → is_printable t ≡ true → TreeParses t
    → text ≡ printed 0 t → e ≡ ParseError position kind → IsParsed (Err e) (parse (plain_options true false) text) → false ≡ nat_lt (printed_levels 0 t) 64
levels_exceeded t text e position kind p parses is error answer =
    by_answer (nat_lt (printed_levels 0 t) 64) t text refl p parses is (refused e position kind _ error answer)

-- the printed text of a tree that is printable, whose classes read back and in which few enough groups are nested
pub reprinted_text : (t : Tree) (text : Text) → is_printable t ≡ true → classes_read_back t ≡ true → nat_lt (printed_levels 0 t) 64 ≡ true
    → text ≡ printed 0 t → Some text ≡ reprinted t
unfolding reprints
reprinted_text t text p c l is =
    let few = nat_lt (printed_levels 0 t) 64 in
    ap Some is
    ∙ sym (ap (λ b. if b then Some (printed 0 t) else None) (ap (λ b. b && classes_read_back t && few) p ∙ ap (λ b. b && few) c ∙ l))
