use Rattle.std.proofs.Common.{◌≡◌, ◌==◌, ◌++◌, ◌∷◌, [], ◌∙◌, ℕ, Bool, not, if◌then◌else◌, refl, ap, ap₂}
use Rattle.fancy_regex_info.specs.Infos.{info_of}
use Rattle.fancy_regex_linear.specs.declared.facts.CallFacts.{CallFacts}
use Rattle.fancy_regex_linear.specs.Facts.{nothing_known, call_of, found_in}
use Rattle.fancy_regex_linear.proofs.facts.calls_by.Goals as goal

pub returns : goal.returns
returns c =
    let x = info_of c.args.info.now in
    let calls = c.args.calls.now in
    let whole = not (c.start_group-whole.result == 0) in
    let room = if whole then nothing_known ∷ [] else [] in
    let filled : c.add_calls.new.found.items ≡ room ++ found_in calls x =
    c.in_ok-facts.ensures.found ∙ ap (λ zs. zs ++ found_in calls x) (c.in_ok-open.ensures ∙ ap (λ zs. zs ++ room) c.new-next.ensures.items) in
    c.close.ensures [] (found_in calls x) refl filled
    ∙ ap₂ (λ (b : Bool) (call : CallFacts). (if b then call ∷ [] else []) ++ found_in calls x) (ap (λ (n : ℕ). not (n == 0)) c.start_group-whole.ensures)
    (c.call_of_body.ensures ∙ ap call_of c.in_ok-facts.ensures.facts)
