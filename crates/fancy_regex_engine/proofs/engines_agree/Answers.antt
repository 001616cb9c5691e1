use Rattle.fancy_regex_engine.proofs.EngineAgreementProofs.{one_answer}
use Rattle.fancy_regex_engine.proofs.engines_agree.Goals as goal

pub returns : goal.returns
returns c = one_answer
