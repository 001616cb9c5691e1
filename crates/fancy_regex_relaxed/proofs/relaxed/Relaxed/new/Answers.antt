use Rattle.std.proofs.Common.{◌≡◌, Bool, false, IfSome, subst}
use Rattle.fancy_regex_tree.specs.Tree.{Tree, tree_of}
use Rattle.fancy_regex_info.specs.Analysis.{analysis}
use Rattle.fancy_regex_info.specs.Infos.{info_of}
use Rattle.fancy_regex_info.specs.Views.{pattern_in}
use Rattle.fancy_regex_meaning.specs.Groups.{pattern_of}
use Rattle.fancy_regex_linear.specs.EasyPatterns.{IsEasyOf}
use Rattle.fancy_regex_linear.specs.declared.easy.Easy.{Easy}
use Rattle.fancy_regex_relaxed.proofs.relaxed.Relaxed.new.Goals as goal

pub returns-in-Ok-Some : goal.returns-in-Ok-Some
returns-in-Ok-Some c =
    let info = c.in-Ok.info in
    let easy = c.in-Ok-Some.easy in
    let made : (explicit : Bool) (t : Tree) → info_of info ≡ analysis explicit t → IsEasyOf easy (pattern_in explicit t) =
    subst (λ found. IfSome found (λ (e : Easy). (explicit : Bool) (t : Tree) → info_of info ≡ analysis explicit t → IsEasyOf e (pattern_in explicit t))) c.in-Ok-Some.field-0-is
    c.in-Ok-Some.ensures.made in
    let options : (easy.unicode ≡ c.args.options.now.unicode) × (easy.longest ≡ false) =
    subst (λ found. IfSome found (λ (e : Easy). (e.unicode ≡ c.args.options.now.unicode) × (e.longest ≡ false))) c.in-Ok-Some.field-0-is c.in-Ok-Some.ensures.options in
    record {
      relaxable = c.is_relaxable.ensures c.if-not-is_relaxable.false;
      easy = subst (λ (copy : Tree). IsEasyOf easy (pattern_of copy)) c.in_ok-extended.ensures (made false (tree_of c.in_ok-extended.field-0) c.in-Ok.ensures.answer);
      mode = options.0;
      first = options.1;
    }
